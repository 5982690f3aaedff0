use Rattle.std.proofs.Common.{◌∙◌, ap, ℕ, List}
use Rattle.cilk_model.specs.Copies.{named_in, copies_of}
use Rattle.cilk_model.specs.Locals.{in_body}
use Rattle.cilk_types.specs.Shown.{scopes_of}
use Rattle.cilk_types.specs.Making.{walked_of, copies_at}
use Rattle.cilk_types.proofs.lower_bodies.copies_of.Goals as goal

pub returns-clause-copies : goal.returns-clause-copies
unfolding walked_of copies_at
returns-clause-copies c =
    let named = named_in c.args.body.now (in_body c.args.name.now (scopes_of c.args.walk.now.scopes)) in
    c.in_ok-copied.ensures.copies ∙ ap (λ (frame : List ℕ). copies_of frame named) c.as_slice-frame.ensures

pub returns-clause-same : goal.returns-clause-same
unfolding walked_of
returns-clause-same c = λ i. record (walked_of c.args.walk.now) { scopes = c.in_ok-copied.ensures.scopes i }
