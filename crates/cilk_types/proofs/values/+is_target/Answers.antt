use Rattle.std.proofs.Common.{◌∙◌, ap, sym}
use Rattle.cilk_model.specs.StatementBreaks.{is_target}
use Rattle.cilk_types.specs.Shown.{names_of}
use Rattle.cilk_types.proofs.Sides.{target_paren}
use Rattle.cilk_types.proofs.values.+is_target.Goals as goal

pub returns-in-Paren : goal.returns-in-Paren
returns-in-Paren t c =
    let names = names_of c.args.scopes.now in
    c.is_target.ensures ∙ ap (is_target names) c.get.ensures
    ∙ sym (ap (is_target names) c.in-Paren.is ∙ target_paren names c.in-Paren.pos c.in-Paren.inner)
