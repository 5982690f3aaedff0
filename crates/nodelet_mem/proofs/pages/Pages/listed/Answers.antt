use Rattle.std.proofs.Common.{◌≡◌, ℤ, pos, ◌*ℤ◌, [], ◌∷◌, ◌++◌, ap, sym, ◌∙◌, subst, arith, FitsSigned, to_z, of_z, w64, length, append_assoc, append-nil}
use Rattle.std.specs.Prelude.{All}
use Rattle.std.specs.Map.{keys_of, values_of}
use Rattle.std.specs.Ordering.{int_cmp}
use Rattle.std.specs.List.Sorted.{IsStrictlySortedBy}
use Rattle.std.specs.Map.Iter.{deref_pair}
use Rattle.std.proofs.lemmas.Int.{ints}
use Rattle.std.proofs.lemmas.Map.Iter.{rest_more, rest_all}
use Rattle.std.proofs.lemmas.List.Elements.{All-head, All-tail}
use Rattle.nodelet_mem.specs.Listing.{words_from, words_of, AreWords}
use Rattle.nodelet_mem.specs.Pages.{IsPageNumber, word_at}
use Rattle.nodelet_mem.proofs.ListedPages.{listed_words}
use Rattle.nodelet_mem.proofs.pages.Pages.listed.Goals as goal

number_fits : (k : ℤ) → IsPageNumber k → FitsSigned w64 (to_z w64 (of_z w64 k) *ℤ pos 512)
number_fits k is = let a = is.0 in let b = is.1 in omega (arith, ints)

first_is : (k : ℤ) → IsPageNumber k → to_z w64 (of_z w64 (to_z w64 (of_z w64 k) *ℤ pos 512)) ≡ k *ℤ pos 512
first_is k is = let a = is.0 in let b = is.1 in omega (arith, ints)

pub overflow_mul-number : goal.overflow_mul-number
overflow_mul-number c =
    let e : c.loop-number.number-iterator ≡ (c.in-Some.number.now, c.in-Some.page.now) ∷ c.next.new.self = rest_more deref_pair _ _ _ _ c.in-Some.is c.next.ensures.steps in
    number_fits _ (All-head IsPageNumber _ _ (subst (λ es. All IsPageNumber (keys_of es)) e c.loop-number.invariant.numbers))

pub loop-number-preserved : goal.loop-number-preserved
loop-number-preserved c =
    let e : c.loop-number.number-iterator ≡ (c.in-Some.number.now, c.in-Some.page.now) ∷ c.next.new.self = rest_more deref_pair _ _ _ _ c.in-Some.is c.next.ensures.steps in
    let numbers : All IsPageNumber (keys_of ((c.in-Some.number.now, c.in-Some.page.now) ∷ c.next.new.self)) = subst (λ es. All IsPageNumber (keys_of es)) e c.loop-number.invariant.numbers in
    let is : IsPageNumber c.in-Some.number.now = All-head IsPageNumber _ _ numbers in
    let more : c.list.new.found.items ≡ c.loop-number.found.items ++ words_from (to_z w64 (of_z w64 (to_z w64 (of_z w64 c.in-Some.number.now) *ℤ pos 512))) c.in-Some.page.now = c.in_ok-list.ensures in
    record {
      found =
          ap (λ l. l ++ words_of c.next.new.self) (more ∙ ap (λ a. c.loop-number.found.items ++ words_from a c.in-Some.page.now) (first_is c.in-Some.number.now is))
          ∙ append_assoc c.loop-number.found.items _ _
          ∙ ap (λ es. c.loop-number.found.items ++ words_of es) (sym e)
          ∙ c.loop-number.invariant.found;
      numbers = All-tail IsPageNumber _ _ numbers;
    }

pub returns : goal.returns
returns c =
    let e : c.loop-number.number-iterator ≡ [] = rest_all deref_pair _ _ _ c.in-None.is c.next.ensures.steps in
    let found : c.from_vec.result ≡ words_of c.args.self.now =
    c.from_vec.ensures ∙ sym (append-nil c.loop-number.found.items) ∙ ap (λ es. c.loop-number.found.items ++ words_of es) (sym e) ∙ c.loop-number.invariant.found in
    let sizes : All (λ page. length page ≡ 512) (values_of c.args.self.now) = subst (λ es. All (λ page. length page ≡ 512) (values_of es)) c.self.view_is c.self.invariant.sizes in
    let sorted : IsStrictlySortedBy int_cmp (keys_of c.args.self.now) = subst (λ es. IsStrictlySortedBy int_cmp (keys_of es)) c.self.view_is c.iter-number-items.ensures.ordered in
    subst (AreWords (word_at c.args.self.now)) (sym found) (listed_words c.args.self.now sorted sizes)
