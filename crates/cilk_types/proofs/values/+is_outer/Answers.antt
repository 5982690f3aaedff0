use Rattle.std.proofs.Common.{◌∙◌, ap, sym}
use Rattle.cilk_model.specs.StatementBreaks.{is_outer}
use Rattle.cilk_types.specs.Shown.{scopes_of}
use Rattle.cilk_types.proofs.Sides.{outer_paren}
use Rattle.cilk_types.proofs.values.+is_outer.Goals as goal

pub returns-in-Paren : goal.returns-in-Paren
returns-in-Paren t c =
    let scopes = scopes_of c.args.scopes.now in
    c.is_outer.ensures ∙ ap (is_outer scopes) c.get.ensures
    ∙ sym (ap (is_outer scopes) c.in-Paren.is ∙ outer_paren scopes c.in-Paren.pos c.in-Paren.inner)
