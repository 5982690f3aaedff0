use Rattle.std.proofs.Common.{◌≡◌, ◌∙◌, ◌++◌, ◌∷◌, [], ap, ℕ}
use Rattle.cilk_model.specs.Scopes.{declared}
use Rattle.cilk_types.specs.Shown.{scopes_of}
use Rattle.cilk_types.specs.Making.{walked_of, initial_at, local_at, declared_at}
use Rattle.cilk_types.proofs.lower_values.local.Goals as goal

pub returns-clause-made : goal.returns-clause-made
unfolding walked_of local_at
returns-clause-made c =
    c.in_ok-made.ensures ∙ ap (λ (n : ℕ). initial_at (walked_of c.args.walk.now) n c.args.value.now) (c.in_ok-slot.ensures ∙ c.len.ensures)

pub returns-clause-past : goal.returns-clause-past
unfolding walked_of declared_at
returns-clause-past c =
    let w = walked_of c.args.walk.now in
    let scopes : scopes_of c.declare.new.scopes ≡ declared c.args.name.now c.args.kind w.scopes = c.in_ok-declare.ensures.scopes in
    let frame : c.add.new.self ≡ w.frame ++ w.scopes.count ∷ [] = c.in_ok-add.ensures.ok in
    λ i. record w { scopes = scopes i; frame = frame i }
