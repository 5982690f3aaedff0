use Rattle.std.proofs.Common.{◌∙◌, ap, sym}
use Rattle.cilk_model.specs.StatementBreaks.{is_place}
use Rattle.cilk_types.proofs.Sides.{place_paren}
use Rattle.cilk_types.proofs.values.+is_place.Goals as goal

pub returns-in-Paren : goal.returns-in-Paren
returns-in-Paren t c =
    c.is_place.ensures ∙ ap is_place c.get.ensures ∙ sym (ap is_place c.in-Paren.is ∙ place_paren c.in-Paren.pos c.in-Paren.inner)
