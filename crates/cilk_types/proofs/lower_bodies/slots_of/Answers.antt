use Rattle.std.proofs.Common.{◌∙◌, ◌++◌, ◌∷◌, [], ap, sym, ℕ, List, get_or, map, take}
use Rattle.std.proofs.lemmas.List.{take_more, map_push}
use Rattle.cilk_model.specs.ExpressionLowering.{slot_in}
use Rattle.cilk_types.proofs.lower_bodies.slots_of.Goals as goal

pub loop-number-preserved : goal.loop-number-preserved
loop-number-preserved c =
    let f = slot_in c.args.frame.now in
    let numbers = c.args.numbers.now in
    let i = c.loop-number.number-index in
    c.in_ok-add.ensures.ok
    ∙ ap (λ (slots : List ℕ). slots ++ c.in_ok-slot_in.field-0 ∷ []) c.loop-number.invariant
    ∙ ap (λ (slot : ℕ). map f (take i numbers) ++ slot ∷ []) c.in_ok-slot_in.ensures
    ∙ sym (ap (map f) (take_more numbers i 0 c.loop-number-test.true) ∙ map_push f (take i numbers) (get_or numbers i 0))
