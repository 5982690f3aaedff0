use Rattle.std.proofs.Common.{◌≡◌, ◌∙◌, ap, ℕ, List, map}
use Rattle.cilk_ast.specs.declared.program.Stmt as program
use Rattle.cilk_model.specs.ExpressionLowering.{slot_in}
use Rattle.cilk_types.specs.Making.{walked_of, each_at}
use Rattle.cilk_types.proofs.lower_bodies.each_of.Goals as goal

pub returns : goal.returns
unfolding walked_of each_at
returns c =
    let w = walked_of c.args.walk.now in
    let slots : c.in_ok-slots.slots ≡ map (slot_in w.frame) c.args.copies.now =
    c.in_ok-slots.ensures ∙ ap (λ (frame : List ℕ). map (slot_in frame) c.args.copies.now) c.as_slice-frame.ensures in
    λ i. program.Each c.args.at (c.in_ok-from.ensures i) (c.in_ok-to.ensures i) w.next (slots i)
