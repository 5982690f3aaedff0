use Rattle.std.proofs.Common.{sym, ◌∙◌, ap, Ok, arith, append-nil}
use Rattle.cilk_model.specs.GrammarForms.{item, items}
use Rattle.cilk_parser.specs.Read.{read}
use Rattle.cilk_parser.specs.Gives.{prefixed}
use Rattle.cilk_parser.proofs.Steps.{passes_gathered, gathered, prefixed_none}
use Rattle.cilk_parser.proofs.CodeItems.{items_none, items_some}
use Rattle.cilk_parser.proofs.cursor.Cursor.items.Goals as goal

pub items-init : goal.items-init
items-init c =
    (rw c.list-all.ensures (sym (prefixed_none _)), omega arith)

pub returns-in_err-item-clause-reads : goal.returns-in_err-item-clause-reads
returns-in_err-item-clause-reads c =
    passes_gathered _ _ _ _ c.items.all c.item.new.self _ _ _ c.from_residual.ensures.1 c.in_err-item.ensures.reads (c.items.invariant.0 ∙ ap (prefixed _) (items_some _ (sym c.items-test.ensures)))

pub items-preserved : goal.items-preserved
items-preserved c = (
  c.items.invariant.0 ∙ ap (prefixed _) (items_some _ (sym c.items-test.ensures)) ∙ gathered c.items.all c.item.new.all c.item.new.self (read items) (read item c.items.self) c.in_ok-item.ensures.reads,
  omega (arith, c.items.invariant.1, c.in_ok-item.ensures.shrinks),
)

pub returns-clause-reads : goal.returns-clause-reads
returns-clause-reads c =
    c.items.invariant.0 ∙ ap (prefixed _) (items_none _ (sym c.items-test.ensures)) ∙ ap (λ z. Ok (z, c.items.self)) (append-nil c.items.all)
