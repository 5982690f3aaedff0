use Rattle.std.proofs.Common.{◌≡◌, sym, subst, arith}
use Rattle.std.proofs.lemmas.Grind.{common_steps}
use Rattle.cilk_model.specs.Canonical.{canonical_text}
use Rattle.cilk_print.specs.Laws.{SpellsSame}
use Rattle.cilk_print.specs.Printing.{printed_items}
use Rattle.cilk_print.proofs.CanonicalSpells.{canonical_text_spells}
use Rattle.cilk_print.proofs.printing.print.Goals as goal

pub returns-clause-spells : goal.returns-clause-spells
unfolding printed_items
returns-clause-spells c = λ source is.
    let e : c.items.new.page.text ≡ canonical_text c.args.tree.now = grind (arith, common_steps) in
    subst (λ text. SpellsSame text c.args.tree.now) (sym e) (canonical_text_spells source c.args.tree.now is)
