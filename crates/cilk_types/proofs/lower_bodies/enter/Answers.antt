use Rattle.std.proofs.Common.{◌≡◌, ◌∙◌, ◌++◌, ◌∷◌, [], ap, suc, ℕ, List, length}
use Rattle.cilk_ast.specs.declared.program.Function.{Function}
use Rattle.cilk_types.specs.Around.{around_of}
use Rattle.cilk_types.specs.Making.{walked_of, spare, entered, kept_of}
use Rattle.cilk_types.proofs.lower_bodies.enter.Goals as goal

pub returns-clause-around : goal.returns-clause-around
unfolding walked_of around_of kept_of
returns-clause-around c =
    let w = c.args.walk.now in
    let frame : c.in_ok-inner.inner ≡ w.scopes.count ∷ c.args.copies = c.in_ok-inner.ensures ∙ ap (λ (ns : List ℕ). w.scopes.count ∷ ns) c.as_slice.ensures in
    let params : c.in_ok-params.params ≡ suc (length c.args.copies) = c.in_ok-params.ensures ∙ c.len.ensures ∙ ap (λ (ns : List ℕ). length ns) frame in
    λ i. (c.replace-frame.ensures.value i, w.scopes.level, c.len-place.ensures i, params i)

pub returns-clause-inner : goal.returns-clause-inner
unfolding walked_of entered
returns-clause-inner c =
    let w = c.args.walk.now in
    let frame : c.replace-frame.new.dest ≡ w.scopes.count ∷ c.args.copies =
    c.replace-frame.ensures.after ∙ c.in_ok-inner.ensures ∙ ap (λ (ns : List ℕ). w.scopes.count ∷ ns) c.as_slice.ensures in
    let bodies : c.add.new.self ≡ w.bodies ++ spare ∷ [] = c.in_ok-add.ensures.ok ∙ ap (λ (f : Function). w.bodies ++ f ∷ []) c.spare.ensures in
    λ i. record {
      name = w.name.now;
      scopes = c.in_ok-enter_body.ensures i;
      frame = frame i;
      next = c.in_ok-next.ensures i;
      bodies = bodies i;
    }
