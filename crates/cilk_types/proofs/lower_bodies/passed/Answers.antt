use Rattle.std.proofs.Common.{◌∙◌, ap, ℕ, List, length}
use Rattle.cilk_ast.specs.declared.program.Stmt.{Stmt}
use Rattle.cilk_model.specs.StatementLowering.{function_of}
use Rattle.cilk_types.specs.Making.{walked_of, signature_of, function_at}
use Rattle.cilk_types.proofs.lower_bodies.passed.Goals as goal

pub returns : goal.returns
unfolding walked_of signature_of function_at
returns c =
    let w = c.args.walk.now in
    c.function_of-function.ensures
    ∙ ap (λ (s : List ℕ × ℕ). function_of s.0 c.args.params s.1 c.into_inner.result) c.in_ok-signed.ensures
    ∙ ap (λ (body : Stmt). function_of w.name.now c.args.params (length w.frame) body) c.into_inner.ensures
