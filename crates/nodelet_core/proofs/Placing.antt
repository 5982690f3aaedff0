-- A binary search among names that ascend finds the place of a name.
use Rattle.std.proofs.Common.{Less, Equal, Greater, ◌≡◌, ℕ, List, length, get_or, sym, subst, arith, true}
use Rattle.std.specs.Prelude.{Result, Ok, Err, IfOk, HoldsAt}
use Rattle.std.specs.List.Sorted.{IsSearchInRange, IsBinarySearchResult}
use Rattle.std.proofs.lemmas.Bool.Decides.{eqb_tells, nat_tests}
use Rattle.word_ops.specs.declared.name.Name.{Name}
use Rattle.word_ops.specs.contracts.name.NameOrd.TheImpl.{ghosts as by}
use Rattle.core_model.specs.Contexts.{precedes}
use Rattle.nodelet_core.specs.code.Standing.{ascends}
use Rattle.nodelet_core.specs.code.Changed.{IsPlace}
use Rattle.nodelet_core.proofs.Found.{same, never_falls}

less_is : (y t : Name) → by.cmp y t ≡ Less → precedes y t ≡ true
less_is y t e = grind (arith, eqb_tells, nat_tests)

greater_is : (y t : Name) → by.cmp y t ≡ Greater → precedes t y ≡ true
greater_is y t e = grind (arith, eqb_tells, nat_tests)

pub is_placed : (t : Name) (names wanted : List Name) → names ≡ wanted → ascends names ≡ true → (r : Result ℕ ℕ) → IsSearchInRange r (length names)
    → IfOk r (HoldsAt (λ y. by.cmp y t ≡ Equal) names) → IsBinarySearchResult (λ y. by.cmp y t) names r → IsPlace t wanted r
is_placed t names wanted e up (Ok i) bound ok position = subst (λ l. IsPlace t l (Ok i)) e (bound, λ d. sym (same (get_or names i d) t (ok d)))
is_placed t names wanted e up (Err i) bound ok position =
    let parts = position (never_falls t names up) in
    subst (λ l. IsPlace t l (Err i)) e (bound, (λ k d lt inside. less_is (get_or names k d) t (parts.0 k d (omega arith) lt)), (λ k d le inside. greater_is (get_or names k d) t (parts.1 k d le inside)))
