use Rattle.std.proofs.Common.{◌≡◌, ◌∙◌, ap, suc}
use Rattle.cilk_ast.specs.declared.kind.Kind.TheVariants as sort
use Rattle.cilk_model.specs.Scopes as model
use Rattle.cilk_model.specs.Scopes.{declared, opened}
use Rattle.cilk_types.specs.Shown.{scopes_of}
use Rattle.cilk_types.proofs.statements.enter_body.Goals as goal

pub returns : goal.returns
returns c =
    let known : scopes_of c.declare.new.scopes ≡ declared c.args.name.now sort.Long (opened (scopes_of c.args.scopes.now)) =
    c.in_ok-declare.ensures.scopes ∙ ap (declared c.args.name.now sort.Long) c.in_ok-open_scope.ensures in
    let same : c.declare.new.scopes.level ≡ c.args.scopes.now.level = ap (λ (s : model.Scopes). s.level) known in
    let up : c.in_ok-level.level ≡ suc c.args.scopes.now.level = c.in_ok-level.ensures ∙ ap suc same in
    λ i. record (known i) { level = up i }
