use Rattle.std.proofs.Common.{◌≡◌, ◌≢◌, ◌+◌, ◌<◌, ◌∷◌, [], ◌++◌, ℤ, ◌+ℤ◌, pos, ap, ◌∙◌, drop, arith, rules, SFits, to_z, of_z, w64, length, get_or}
use Rattle.std.proofs.lemmas.Int.{to_z-of_z, ints}
use Rattle.nodelet_mem.specs.Listing.{words_from}
use Rattle.nodelet_mem.proofs.Listing.{passed_over, put_behind}
use Rattle.nodelet_mem.proofs.page.Page.list.Goals.{then-word-ne0+in_ok-push, else-word-ne0}
use Rattle.nodelet_mem.proofs.page.Page.list.Goals as goal

zero_from_bits : (z : ℤ) → SFits w64 z → of_z w64 z ≡ 0 → z ≡ pos 0
zero_from_bits z fits e = omega (arith, ints)

pub loop-i-preserved : goal.loop-i-preserved
loop-i-preserved c =
    let words = c.deref-word-items.result.now in
    let first = to_z w64 (of_z w64 c.args.first) in
    let word = get_or words c.loop-i.i (pos 0) in
    let size : length words ≡ 512 = ap length c.deref-word-items.ensures ∙ c.self.invariant in
    let below : c.loop-i.i < length words = let t = c.loop-i-test.true in omega (arith, t, size) in
    let fits : SFits w64 word = search rules in
    let inv = c.loop-i.invariant in
    elim c.if-word-ne0.branch [
      | then-word-ne0+in_ok-push w ↦ (
          let ne : word ≢ pos 0 = λ e. w.if-word-ne0.true (ap (of_z w64) e) in
          let place : to_z w64 (of_z w64 (first +ℤ to_z w64 c.loop-i.i)) ≡ first +ℤ pos c.loop-i.i = omega (arith, ints) in
          ap (λ v. v.items ++ words_from (first +ℤ pos (c.loop-i.i + 1)) (drop (c.loop-i.i + 1) words)) w.found-is
          ∙ ap (λ l. l ++ words_from (first +ℤ pos (c.loop-i.i + 1)) (drop (c.loop-i.i + 1) words))
          (w.in_ok-push.ensures.items ∙ ap (λ a. c.loop-i.found.items ++ (a, to_z w64 (of_z w64 word)) ∷ []) place ∙ ap (λ x. c.loop-i.found.items ++ (first +ℤ pos c.loop-i.i, x) ∷ []) (to_z-of_z w64 word fits))
          ∙ put_behind _ _ first words c.loop-i.i below inv ne)
      | else-word-ne0 w ↦ (
          ap (λ v. v.items ++ words_from (first +ℤ pos (c.loop-i.i + 1)) (drop (c.loop-i.i + 1) words)) w.found-is
          ∙ passed_over _ _ first words c.loop-i.i below inv (zero_from_bits word fits w.if-word-ne0.false))
    ]
