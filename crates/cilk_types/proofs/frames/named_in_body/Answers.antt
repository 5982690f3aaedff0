use Rattle.std.proofs.Common.{◌∙◌, ap}
use Rattle.cilk_model.specs.Scopes as model
use Rattle.cilk_model.specs.Scopes.{closed}
use Rattle.cilk_types.specs.Shown.{scopes_of}
use Rattle.cilk_types.specs.Walking.{left_by}
use Rattle.cilk_types.proofs.FramesCopies.{body_passed}
use Rattle.cilk_types.proofs.frames.named_in_body.Goals as goal

pub returns-clause-scopes : goal.returns-clause-scopes
returns-clause-scopes c =
    let scopes = scopes_of c.args.scopes.now in
    let left = c.close_scope.ensures ∙ ap closed (c.in_ok-add_named_in.ensures.scopes ∙ ap (left_by c.args.body.now) c.in_ok-enter_body.ensures) in
    ap (λ (s : model.Scopes). record s { count = scopes.count; level = scopes.level }) left ∙ body_passed c.args.name.now c.args.body.now scopes
