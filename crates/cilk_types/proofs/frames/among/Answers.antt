use Rattle.std.proofs.Common.{◌≡◌, ◌∙◌, ◌==◌, ap, sym, subst, ℕ, List, get_or}
use Rattle.std.specs.List.{list_any}
use Rattle.std.specs.List.Sorted.{IsNonDecreasing}
use Rattle.std.proofs.lemmas.List.Sorted.{IsNonDecreasingBy-from_sort, list_any-IsPermutation}
use Rattle.cilk_types.proofs.FramesCopies.{kept_next, left_out_next}
use Rattle.cilk_types.proofs.frames.among.Goals as goal
use Rattle.cilk_types.proofs.frames.among.Goals.{then-has_number+in_ok-add, else-has_number}

pub has_number-requires : goal.has_number-requires
has_number-requires c =
    let P : List ℕ → Type 0 = IsNonDecreasing in
    subst P (sym c.as_slice.ensures.value) (IsNonDecreasingBy-from_sort (λ x. x) _ c.sort_unstable.ensures.sorted)

pub loop-number-preserved : goal.loop-number-preserved
loop-number-preserved c =
    let i = c.loop-number.number-index in
    let test = λ (other : ℕ). other == get_or c.args.frame.now i 0 in
    let same : list_any test c.args.named ≡ c.has_number.result =
    ap (list_any test) (sym c.into_vec-sorted.ensures) ∙ list_any-IsPermutation test _ _ c.sort_unstable.ensures.permutation
    ∙ ap (list_any test) (sym c.as_slice.ensures.value) ∙ sym c.has_number.ensures in
    elim c.if-has_number.branch [
      | then-has_number+in_ok-add w ↦ kept_next c.args.frame.now c.args.named c.loop-number.copies c.if-has_number.copies i c.loop-number-test.true (same ∙ w.if-has_number.true) c.loop-number.invariant (w.copies-is ∙ w.in_ok-add.ensures.ok)
      | else-has_number w ↦ left_out_next c.args.frame.now c.args.named c.loop-number.copies c.if-has_number.copies i c.loop-number-test.true (same ∙ w.if-has_number.false) c.loop-number.invariant w.copies-is
    ]
