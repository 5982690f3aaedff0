use Rattle.std.proofs.Common.{sym, ◌∙◌, ap, refl, Ok, append-nil, ◌∷◌, []}
use Rattle.cilk_model.specs.GrammarForms.{body, more_locals}
use Rattle.cilk_parser.specs.Parsers.{goes_on}
use Rattle.cilk_parser.specs.Read.{read}
use Rattle.cilk_parser.specs.Gives.{prefixed}
use Rattle.cilk_parser.proofs.Ends.{open_else, open_while, open_for, open_cilk_for}
use Rattle.cilk_parser.proofs.Steps.{passes, onward, prefixed_twice, passes_lead, passes_part, last_part}
use Rattle.cilk_parser.proofs.CodeStatements.{block_there, block_not, empty_there, empty_not, if_there, if_not, while_there, while_not, for_there, for_not, cilk_for_there, cilk_for_not, else_there, else_not, else_was_next, braces_step, body_none, body_some, long_part_there, long_part_not, branch_if, then_while, cilk_1, cilk_2, cilk_3, cilk_4, cilk_5}
use Rattle.cilk_parser.proofs.cursor.Cursor.+statements.Goals as goal

pub statement-returns-then-at_mark-clause-reads : goal.statement-returns-then-at_mark-clause-reads
statement-returns-then-at_mark-clause-reads t c =
    onward _ _ _ _ (block_there _ (sym c.if-at_mark.ensures)) c.block.ensures.reads

pub statement-returns-then-is_some-clause-reads : goal.statement-returns-then-is_some-clause-reads
statement-returns-then-is_some-clause-reads t c =
    block_not _ (sym c.if-at_mark.ensures) ∙ empty_there c.mark.result _ _ c.mark.ensures.found c.mark.ensures.left (sym c.if-is_some.ensures)

pub statement-returns-then-is_some-2-clause-reads : goal.statement-returns-then-is_some-2-clause-reads
statement-returns-then-is_some-2-clause-reads t c =
    onward _ _ _ _ (block_not _ (sym c.if-at_mark.ensures) ∙ empty_not c.mark.result _ _ c.mark.ensures.found c.mark.ensures.left (sym c.if-is_some.ensures) ∙ if_there c.word.result c.mark.new.self c.word.new.self c.word.ensures.found c.word.ensures.left (sym c.if-is_some-2.ensures)) c.if_statement.ensures.reads

pub statement-returns-then-is_some-3-clause-reads : goal.statement-returns-then-is_some-3-clause-reads
statement-returns-then-is_some-3-clause-reads t c =
    onward _ _ _ _ (block_not _ (sym c.if-at_mark.ensures) ∙ empty_not c.mark.result _ _ c.mark.ensures.found c.mark.ensures.left (sym c.if-is_some.ensures) ∙ if_not c.word.result c.mark.new.self c.word.new.self c.word.ensures.found c.word.ensures.left (sym c.if-is_some-2.ensures) ∙ while_there c.word-2.result c.word.new.self c.word-2.new.self c.word-2.ensures.found c.word-2.ensures.left (sym c.if-is_some-3.ensures)) c.while_loop.ensures.reads

pub statement-returns-then-is_some-4-clause-reads : goal.statement-returns-then-is_some-4-clause-reads
statement-returns-then-is_some-4-clause-reads t c =
    onward _ _ _ _ (block_not _ (sym c.if-at_mark.ensures) ∙ empty_not c.mark.result _ _ c.mark.ensures.found c.mark.ensures.left (sym c.if-is_some.ensures) ∙ if_not c.word.result c.mark.new.self c.word.new.self c.word.ensures.found c.word.ensures.left (sym c.if-is_some-2.ensures) ∙ while_not c.word-2.result c.word.new.self c.word-2.new.self c.word-2.ensures.found c.word-2.ensures.left (sym c.if-is_some-3.ensures) ∙ for_there c.word-3.result c.word-2.new.self c.word-3.new.self c.word-3.ensures.found c.word-3.ensures.left (sym c.if-is_some-4.ensures)) c.for_loop.ensures.reads

pub statement-returns-then-is_some-5-clause-reads : goal.statement-returns-then-is_some-5-clause-reads
statement-returns-then-is_some-5-clause-reads t c =
    onward _ _ _ _ (block_not _ (sym c.if-at_mark.ensures) ∙ empty_not c.mark.result _ _ c.mark.ensures.found c.mark.ensures.left (sym c.if-is_some.ensures) ∙ if_not c.word.result c.mark.new.self c.word.new.self c.word.ensures.found c.word.ensures.left (sym c.if-is_some-2.ensures) ∙ while_not c.word-2.result c.word.new.self c.word-2.new.self c.word-2.ensures.found c.word-2.ensures.left (sym c.if-is_some-3.ensures) ∙ for_not c.word-3.result c.word-2.new.self c.word-3.new.self c.word-3.ensures.found c.word-3.ensures.left (sym c.if-is_some-4.ensures) ∙ cilk_for_there c.word-4.result c.word-3.new.self c.word-4.new.self c.word-4.ensures.found c.word-4.ensures.left (sym c.if-is_some-5.ensures)) c.cilk_for_loop.ensures.reads

pub statement-returns-clause-reads : goal.statement-returns-clause-reads
statement-returns-clause-reads t c =
    onward _ _ _ _ (block_not _ (sym c.if-at_mark.ensures) ∙ empty_not c.mark.result _ _ c.mark.ensures.found c.mark.ensures.left (sym c.if-is_some.ensures) ∙ if_not c.word.result c.mark.new.self c.word.new.self c.word.ensures.found c.word.ensures.left (sym c.if-is_some-2.ensures) ∙ while_not c.word-2.result c.word.new.self c.word-2.new.self c.word-2.ensures.found c.word-2.ensures.left (sym c.if-is_some-3.ensures) ∙ for_not c.word-3.result c.word-2.new.self c.word-3.new.self c.word-3.ensures.found c.word-3.ensures.left (sym c.if-is_some-4.ensures) ∙ cilk_for_not c.word-4.result c.word-3.new.self c.word-4.new.self c.word-4.ensures.found c.word-4.ensures.left (sym c.if-is_some-5.ensures)) c.leave.ensures.reads

pub block-returns-in_err-take_mark-clause-reads : goal.block-returns-in_err-take_mark-clause-reads
block-returns-in_err-take_mark-clause-reads t c =
    passes _ _ _ _ _ _ c.from_residual.ensures.1 c.in_err-take_mark.ensures.reads (braces_step _)

pub block-returns-in_err-body-clause-reads : goal.block-returns-in_err-body-clause-reads
block-returns-in_err-body-clause-reads t c =
    passes _ _ _ _ _ _ c.from_residual-in_err-body.ensures.1 c.in_err-body.ensures.reads (braces_step _ ∙ ap (goes_on _) c.in_ok-take_mark.ensures.reads)

pub block-returns-in_err-take_mark-2-clause-reads : goal.block-returns-in_err-take_mark-2-clause-reads
block-returns-in_err-take_mark-2-clause-reads t c =
    passes _ _ _ _ _ _ c.from_residual-in_err-take_mark-2.ensures.1 c.in_err-take_mark-2.ensures.reads (braces_step _ ∙ ap (goes_on _) c.in_ok-take_mark.ensures.reads ∙ ap (goes_on _) c.in_ok-body.ensures.reads)

pub block-returns-clause-reads : goal.block-returns-clause-reads
block-returns-clause-reads t c =
    braces_step _ ∙ ap (goes_on _) c.in_ok-take_mark.ensures.reads ∙ ap (goes_on _) c.in_ok-body.ensures.reads ∙ ap (goes_on _) c.in_ok-take_mark-2.ensures.reads

pub body-returns-clause-reads : goal.body-returns-clause-reads
body-returns-clause-reads t c =
    c.parts.invariant.0 ∙ ap (prefixed _) (body_none _ (sym c.parts-test.ensures)) ∙ ap (λ z. Ok (z, c.parts.self)) (append-nil c.parts.all)

pub cilk_for_loop-returns-in_err-first-clause-reads : goal.cilk_for_loop-returns-in_err-first-clause-reads
cilk_for_loop-returns-in_err-first-clause-reads t c =
    passes_lead _ _ _ (cilk_1) _ _ c.from_residual.ensures.1 (c.in_err-first.ensures.reads (cilk_1)) (refl)

pub cilk_for_loop-returns-in_err-low-clause-reads : goal.cilk_for_loop-returns-in_err-low-clause-reads
cilk_for_loop-returns-in_err-low-clause-reads t c =
    passes_lead _ _ _ (cilk_2 c.in_ok-first.first) _ _ c.from_residual-in_err-low.ensures.1 (c.in_err-low.ensures.reads (cilk_2 c.in_ok-first.first)) (c.in_ok-first.ensures.reads (cilk_1))

pub cilk_for_loop-returns-in_err-second-clause-reads : goal.cilk_for_loop-returns-in_err-second-clause-reads
cilk_for_loop-returns-in_err-second-clause-reads t c =
    passes_lead _ _ _ (cilk_3 c.in_ok-first.first c.in_ok-low.low) _ _ c.from_residual-in_err-second.ensures.1 (c.in_err-second.ensures.reads (cilk_3 c.in_ok-first.first c.in_ok-low.low)) (c.in_ok-first.ensures.reads (cilk_1) ∙ c.in_ok-low.ensures.reads (cilk_2 c.in_ok-first.first))

pub cilk_for_loop-returns-in_err-high-clause-reads : goal.cilk_for_loop-returns-in_err-high-clause-reads
cilk_for_loop-returns-in_err-high-clause-reads t c =
    passes_lead _ _ _ (cilk_4 c.in_ok-first.first c.in_ok-low.low c.in_ok-second.second) _ _ c.from_residual-in_err-high.ensures.1 (c.in_err-high.ensures.reads (cilk_4 c.in_ok-first.first c.in_ok-low.low c.in_ok-second.second)) (c.in_ok-first.ensures.reads (cilk_1) ∙ c.in_ok-low.ensures.reads (cilk_2 c.in_ok-first.first) ∙ c.in_ok-second.ensures.reads (cilk_3 c.in_ok-first.first c.in_ok-low.low))

pub cilk_for_loop-returns-in_err-third-clause-reads : goal.cilk_for_loop-returns-in_err-third-clause-reads
cilk_for_loop-returns-in_err-third-clause-reads t c =
    passes_lead _ _ _ (cilk_5 c.in_ok-first.first c.in_ok-low.low c.in_ok-second.second c.in_ok-high.high) _ _ c.from_residual-in_err-third.ensures.1 (c.in_err-third.ensures.reads (cilk_5 c.in_ok-first.first c.in_ok-low.low c.in_ok-second.second c.in_ok-high.high)) (c.in_ok-first.ensures.reads (cilk_1) ∙ c.in_ok-low.ensures.reads (cilk_2 c.in_ok-first.first) ∙ c.in_ok-second.ensures.reads (cilk_3 c.in_ok-first.first c.in_ok-low.low) ∙ c.in_ok-high.ensures.reads (cilk_4 c.in_ok-first.first c.in_ok-low.low c.in_ok-second.second))

pub cilk_for_loop-returns-in_err-body-clause-reads : goal.cilk_for_loop-returns-in_err-body-clause-reads
cilk_for_loop-returns-in_err-body-clause-reads t c =
    passes _ _ _ _ _ _ c.from_residual-in_err-body.ensures.1 c.in_err-body.ensures.reads (c.in_ok-first.ensures.reads (cilk_1) ∙ c.in_ok-low.ensures.reads (cilk_2 c.in_ok-first.first) ∙ c.in_ok-second.ensures.reads (cilk_3 c.in_ok-first.first c.in_ok-low.low) ∙ c.in_ok-high.ensures.reads (cilk_4 c.in_ok-first.first c.in_ok-low.low c.in_ok-second.second) ∙ c.in_ok-third.ensures.reads (cilk_5 c.in_ok-first.first c.in_ok-low.low c.in_ok-second.second c.in_ok-high.high))

pub cilk_for_loop-returns-clause-reads : goal.cilk_for_loop-returns-clause-reads
cilk_for_loop-returns-clause-reads t c =
    c.in_ok-first.ensures.reads (cilk_1) ∙ c.in_ok-low.ensures.reads (cilk_2 c.in_ok-first.first) ∙ c.in_ok-second.ensures.reads (cilk_3 c.in_ok-first.first c.in_ok-low.low) ∙ c.in_ok-high.ensures.reads (cilk_4 c.in_ok-first.first c.in_ok-low.low c.in_ok-second.second) ∙ c.in_ok-third.ensures.reads (cilk_5 c.in_ok-first.first c.in_ok-low.low c.in_ok-second.second c.in_ok-high.high) ∙ ap (goes_on _) c.in_ok-body.ensures.reads

pub cilk_for_loop-returns-clause-nearest : goal.cilk_for_loop-returns-clause-nearest
cilk_for_loop-returns-clause-nearest t c =
    λ e. open_cilk_for c.in_ok-first.first.0 c.in_ok-first.first.1 c.in_ok-low.low c.in_ok-second.second c.in_ok-high.high c.in_ok-third.third c.in_ok-body.body ∙ c.in_ok-body.ensures.nearest e

pub for_loop-returns-clause-nearest : goal.for_loop-returns-clause-nearest
for_loop-returns-clause-nearest t c =
    λ e. open_for c.in_ok-first.first c.in_ok-init.test c.in_ok-last.last c.in_ok-body.body ∙ c.in_ok-body.ensures.nearest e

pub if_statement-returns-in_err-test-clause-reads : goal.if_statement-returns-in_err-test-clause-reads
if_statement-returns-in_err-test-clause-reads t c =
    passes_lead _ _ _ (branch_if) _ _ c.from_residual.ensures.1 (c.in_err-test.ensures.reads (branch_if)) (refl)

pub if_statement-returns-in_err-yes-clause-reads : goal.if_statement-returns-in_err-yes-clause-reads
if_statement-returns-in_err-yes-clause-reads t c =
    passes _ _ _ _ _ _ c.from_residual-in_err-yes.ensures.1 c.in_err-yes.ensures.reads (c.in_ok-test.ensures.reads branch_if)

pub if_statement-returns-then-is_none-clause-reads : goal.if_statement-returns-then-is_none-clause-reads
if_statement-returns-then-is_none-clause-reads t c =
    c.in_ok-test.ensures.reads branch_if ∙ ap (goes_on _) c.in_ok-yes.ensures.reads ∙ else_not c.in_ok-test.test c.in_ok-yes.yes c.word.result _ _ c.word.ensures.found c.word.ensures.left c.if-is_none.ensures

pub if_statement-returns-in_err-no-clause-reads : goal.if_statement-returns-in_err-no-clause-reads
if_statement-returns-in_err-no-clause-reads t c =
    passes _ _ _ _ _ _ c.from_residual-in_err-no.ensures.1 c.in_err-no.ensures.reads (c.in_ok-test.ensures.reads branch_if ∙ ap (goes_on _) c.in_ok-yes.ensures.reads ∙ else_there c.in_ok-test.test c.in_ok-yes.yes c.word.result c.nested.new.self c.word.new.self (c.in_ok-yes.ensures.nearest (else_was_next c.word.result c.nested.new.self c.word.ensures.found c.if-is_none.ensures)) c.word.ensures.found c.word.ensures.left c.if-is_none.ensures)

pub if_statement-returns-clause-reads : goal.if_statement-returns-clause-reads
if_statement-returns-clause-reads t c =
    c.in_ok-test.ensures.reads branch_if ∙ ap (goes_on _) c.in_ok-yes.ensures.reads ∙ else_there c.in_ok-test.test c.in_ok-yes.yes c.word.result c.nested.new.self c.word.new.self (c.in_ok-yes.ensures.nearest (else_was_next c.word.result c.nested.new.self c.word.ensures.found c.if-is_none.ensures)) c.word.ensures.found c.word.ensures.left c.if-is_none.ensures ∙ ap (goes_on _) c.in_ok-no.ensures.reads

pub if_statement-returns-clause-nearest : goal.if_statement-returns-clause-nearest
if_statement-returns-clause-nearest t c =
    λ e. open_else c.in_ok-test.test c.in_ok-yes.yes c.in_ok-no.no ∙ c.in_ok-no.ensures.nearest e

pub while_loop-returns-in_err-test-clause-reads : goal.while_loop-returns-in_err-test-clause-reads
while_loop-returns-in_err-test-clause-reads t c =
    passes_lead _ _ _ (then_while) _ _ c.from_residual.ensures.1 (c.in_err-test.ensures.reads (then_while)) (refl)

pub while_loop-returns-in_err-body-clause-reads : goal.while_loop-returns-in_err-body-clause-reads
while_loop-returns-in_err-body-clause-reads t c =
    passes _ _ _ _ _ _ c.from_residual-in_err-body.ensures.1 c.in_err-body.ensures.reads (c.in_ok-test.ensures.reads then_while)

pub while_loop-returns-clause-reads : goal.while_loop-returns-clause-reads
while_loop-returns-clause-reads t c =
    c.in_ok-test.ensures.reads then_while ∙ ap (goes_on _) c.in_ok-body.ensures.reads

pub while_loop-returns-clause-nearest : goal.while_loop-returns-clause-nearest
while_loop-returns-clause-nearest t c =
    λ e. open_while c.in_ok-test.test c.in_ok-body.body ∙ c.in_ok-body.ensures.nearest e

pub part-returns-in_err-local-clause-reads : goal.part-returns-in_err-local-clause-reads
part-returns-in_err-local-clause-reads t c =
    passes_part _ _ _ c.args.all.now _ _ _ _ c.from_residual.ensures.1 c.in_err-local.ensures.reads (body_some _ c.requires ∙ long_part_there c.word.result _ _ c.word.ensures.found c.word.ensures.left (sym c.if-is_some.ensures))

pub part-returns-in_ok-add-clause-reads : goal.part-returns-in_ok-add-clause-reads
part-returns-in_ok-add-clause-reads t c =
    last_part _ c.args.all.now c.add.new.self c.more_locals.new.all c.in_ok-local.local c.more_locals.new.self (read more_locals c.local.new.self) (read body) _ c.in_ok-add.ensures.ok c.more_locals.ensures.reads (body_some _ c.requires ∙ long_part_there c.word.result _ _ c.word.ensures.found c.word.ensures.left (sym c.if-is_some.ensures) ∙ ap (goes_on _) c.in_ok-local.ensures.reads)

pub part-returns-in_err-statement-clause-reads : goal.part-returns-in_err-statement-clause-reads
part-returns-in_err-statement-clause-reads t c =
    passes_part _ _ _ c.args.all.now _ _ _ _ c.from_residual-in_err-statement.ensures.1 c.in_err-statement.ensures.reads (body_some _ c.requires ∙ long_part_not c.word.result _ _ c.word.ensures.found c.word.ensures.left (sym c.if-is_some.ensures))

pub part-returns-in_ok-add-2-clause-reads : goal.part-returns-in_ok-add-2-clause-reads
part-returns-in_ok-add-2-clause-reads t c =
    ap (prefixed _) (body_some _ c.requires ∙ long_part_not c.word.result _ _ c.word.ensures.found c.word.ensures.left (sym c.if-is_some.ensures) ∙ ap (goes_on _) c.in_ok-statement.ensures.reads) ∙ prefixed_twice c.args.all.now (c.in_ok-statement.statement ∷ []) (read body c.statement.new.self) ∙ ap (λ xs. prefixed xs (read body c.statement.new.self)) (sym c.in_ok-add-2.ensures.ok)
