-- The links from nodelets, by their places.
use Rattle.std.proofs.Common.{◌≡◌, ◌≢◌, ℕ, zero, suc, ◌<◌, List, [], ◌∷◌, length, Some, None, refl, sym, ap, ◌∙◌, arith, Bool, true, false, ◌&&◌, not, nat_lt, is_some, drop, get_or}
use Rattle.std.specs.Prelude.{◌==◌, slice_get, slice_set}
use Rattle.std.proofs.lemmas.Bool.{eqb-true}
use Rattle.std.proofs.lemmas.Bool.Decides.{nat_tests}
use Rattle.std.proofs.lemmas.Option.{slice_get_read}
use Rattle.merge_law.specs.Machine.{is_linked}
use Rattle.sim_core.specs.declared.outgoing.Outgoing.{Outgoing}
use Rattle.sim_core.specs.declared.machine.Core.{Core as Kept}
use Rattle.sim_core.specs.code.Links.{reaches, packets_to, has_links}
use Rattle.sim_core.specs.Kept.{packets_from}
use Rattle.sim_core.proofs.AtPlaces.{list_all_at_place}

-- ---- one item changed

pub at_changed : {A : Type 0} (xs : List A) (k : ℕ) (x : A) → k < length xs → slice_get (slice_set xs k x) k ≡ Some x
at_changed [] k x within = absurd (omega arith)
at_changed (y ∷ xs) zero x within = refl
at_changed (y ∷ xs) (suc k) x within = at_changed xs k x (omega arith)

pub at_other : {A : Type 0} (xs : List A) (k j : ℕ) (x : A) → j ≢ k → slice_get (slice_set xs k x) j ≡ slice_get xs j
at_other [] k j x other = refl
at_other (y ∷ xs) zero zero x other = absurd (other refl)
at_other (y ∷ xs) zero (suc j) x other = refl
at_other (y ∷ xs) (suc k) zero x other = refl
at_other (y ∷ xs) (suc k) (suc j) x other = at_other xs k j x (λ e. other (ap suc e))

-- ---- lists by the places that they have

pub place_there : {A : Type 0} (xs : List A) (k : ℕ) → k < length xs → is_some (slice_get xs k) ≡ true
place_there [] k within = absurd (omega arith)
place_there (x ∷ xs) zero within = refl
place_there (x ∷ xs) (suc k) within = place_there xs k (omega arith)

-- Lists with the same places are as long as each other.
pub same_places : {A : Type 0} (xs ys : List A) → ((k : ℕ) → is_some (slice_get xs k) ≡ is_some (slice_get ys k)) → length xs ≡ length ys
same_places [] [] same = refl
same_places [] (y ∷ ys) same = absurd (let wrong : false ≡ true = same 0 in cc)
same_places (x ∷ xs) [] same = absurd (let wrong : true ≡ false = same 0 in cc)
same_places (x ∷ xs) (y ∷ ys) same = ap suc (same_places xs ys (λ k. same (suc k)))

-- The first item and the rest.
pub first_and_rest : {A : Type 0} (xs : List A) (x : A) → slice_get xs 0 ≡ Some x → xs ≡ x ∷ drop 1 xs
first_and_rest [] x e = absurd cc
first_and_rest (y ∷ xs) x e = let z : y ≡ x = cc in ap (λ w. w ∷ xs) z

pub no_first : {A : Type 0} (xs : List A) → slice_get xs 0 ≡ None → xs ≡ []
no_first [] e = refl
no_first (x ∷ xs) e = absurd cc

-- ---- links

-- Where there is a link to each of n nodelets, each is reached.
pub all_reached : (n : ℕ) (outgoing : Outgoing) (k : ℕ) → has_links n outgoing ≡ true → k < n → reaches outgoing k ≡ true
all_reached n outgoing k linked inside =
    let count : length outgoing.links.items ≡ n = eqb-true _ _ linked in place_there outgoing.links.items k (omega arith)

-- The same nodelets are reached by as many links.
pub as_many_links : (n : ℕ) (before after : Outgoing) → ((k : ℕ) → reaches after k ≡ reaches before k) → has_links n before ≡ true → has_links n after ≡ true
as_many_links n before after same linked =
    ap (λ i. i == n) (same_places after.links.items before.links.items same) ∙ linked

-- Both ends of a link are nodelets, and they are two.
pub record Ends (n origin k : ℕ) : Type 0 where
  pub origin_there : origin < n
  pub there : k < n
  pub other : origin ≢ k

pub ends_of : (n origin k : ℕ) → is_linked n origin k ≡ true → Ends n origin k
ends_of n origin k e = go (nat_lt origin n) refl (nat_lt k n) refl (origin == k) refl e
  where
    go : (r : Bool) → nat_lt origin n ≡ r → (s : Bool) → nat_lt k n ≡ s → (t : Bool) → (origin == k) ≡ t → (r && s && not t) ≡ true → Ends n origin k
    go true f true g false h i = record { origin_there = grind (arith, nat_tests); there = grind (arith, nat_tests); other = λ same. grind (arith, nat_tests) }
    go true f true g true h i = absurd cc
    go true f false g t h i = absurd cc
    go false f s g t h i = absurd cc

-- ---- the links of a core

module _ (kept : Kept) (origin k : ℕ) (linked : is_linked kept.count origin k ≡ true) (outgoing : Outgoing) (read : outgoing ≡ get_or kept.links.items origin outgoing) where
  pub outgoing_there : slice_get kept.links.items origin ≡ Some outgoing
  outgoing_there = slice_get_read kept.links.items kept.count origin outgoing (sym kept.links_count) ((ends_of kept.count origin k linked).origin_there) read

  -- What is on the link is what its nodelet has on it.
  pub packets_there : packets_from (slice_get kept.links.items origin) k ≡ packets_to outgoing k
  packets_there = ap (λ o. packets_from o k) outgoing_there

  pub reached_there : reaches outgoing k ≡ true
  reached_there =
      all_reached kept.count outgoing k
      (list_all_at_place (has_links kept.count) kept.links.items origin outgoing kept.all_linked outgoing_there)
      ((ends_of kept.count origin k linked).there)
