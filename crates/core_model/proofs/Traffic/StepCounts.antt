-- Each event adds to the counts of its nodelet what its step counts as in the world.
use Rattle.std.proofs.Common.{◌≡◌, ℕ, ◌+◌, ◌⊎◌, inl, inr, List, [], ◌∷◌, map, Option, Some, None, refl, ap, ◌∙◌, arith, Bool, true, false, ◌&&◌, cond, count_by}
use Rattle.std.specs.Prelude.{if◌then◌else◌, ◌==◌}
use Rattle.std.proofs.lemmas.Bool.Decides.{eqb_tells}
use Rattle.std.proofs.lemmas.List.Sums.{sum_by-cons}
use Rattle.word_ops.specs.Report.{below}
use Rattle.data_layout.specs.Address.{owner_of}
use Rattle.word_ops.specs.declared.ticket.Ticket.{Ticket}
use Rattle.world_model.specs.Action.{Action, Turn, Load, Issue, Fetch, Init, Move, Print, Alloc, Spawn, Sync, End}
use Rattle.world_model.specs.Sight.{Sight, place_after}
use Rattle.world_model.specs.Traffic.{births_of, posts_of, turns_of, applied_of, change_of}
use Rattle.core_model.proofs.Traffic.Notes.{is_pair, is_number, ended_to, dones_by}

-- all that these lists count is at nodelet k: pairs to it, pairs from it, and numbers
pub record AreAt (k : ℕ) (moves births posts dones : List (ℕ × ℕ)) (turns applied : List ℕ) : Type 0 where
  pub moved : (i j : ℕ) → (j == k) ≡ false → count_by (is_pair i j) moves ≡ 0
  pub bore : (i j : ℕ) → (i == k) ≡ false → count_by (is_pair i j) births ≡ 0
  pub posted : (i j : ℕ) → (i == k) ≡ false → count_by (is_pair i j) posts ≡ 0
  pub done : (i j : ℕ) → (i == k) ≡ false → count_by (is_pair i j) dones ≡ 0
  pub turned : (j : ℕ) → (j == k) ≡ false → count_by (is_number j) turns ≡ 0
  pub worked : (j : ℕ) → (j == k) ≡ false → count_by (is_number j) applied ≡ 0

-- ---- small lists

other_number : (k j : ℕ) → (j == k) ≡ false → count_by (is_number j) (k ∷ []) ≡ 0
other_number k j ne = go (k == j) refl
  where
    go : (t : Bool) → (k == j) ≡ t → 0 + cond t 1 0 ≡ 0
    go false e = refl
    go true e = absurd (grind (arith, eqb_tells))

not_from : (k to i j : ℕ) → (i == k) ≡ false → is_pair i j (k, to) ≡ false
not_from k to i j ne = go (k == i) refl
  where
    go : (t : Bool) → (k == i) ≡ t → (t && to == j) ≡ false
    go false e = refl
    go true e = absurd (grind (arith, eqb_tells))

not_to : (from k i j : ℕ) → (j == k) ≡ false → is_pair i j (from, k) ≡ false
not_to from k i j ne = go (from == i) (k == j) refl
  where
    go : (s t : Bool) → (k == j) ≡ t → (s && t) ≡ false
    go true false e = refl
    go false t e = refl
    go true true e = absurd (grind (arith, eqb_tells))

none_counted : {A : Type 0} (p : A → Bool) (x : A) (xs : List A) → p x ≡ false → count_by p xs ≡ 0 → count_by p (x ∷ xs) ≡ 0
none_counted p x xs e f = sum_by-cons (λ y. cond (p y) 1 0) x xs ∙ ap (λ t. cond t 1 0 + count_by p xs) e ∙ ap (λ m. 0 + m) f

other_froms : (k i j : ℕ) (tos : List ℕ) → (i == k) ≡ false → count_by (is_pair i j) (map (λ to. (k, to)) tos) ≡ 0
other_froms k i j [] ne = refl
other_froms k i j (to ∷ tos) ne = none_counted (is_pair i j) (k, to) (map (λ to. (k, to)) tos) (not_from k to i j ne) (other_froms k i j tos ne)

other_change : (from k i j : ℕ) → (j == k) ≡ false → count_by (is_pair i j) (change_of from k) ≡ 0
other_change from k i j ne = go (from == k)
  where
    go : (t : Bool) → count_by (is_pair i j) (if t then [] else (from, k) ∷ []) ≡ 0
    go true = refl
    go false = none_counted (is_pair i j) (from, k) [] (not_to from k i j ne) refl

-- ---- actions

births_at : (n k : ℕ) (action : Action) (i j : ℕ) → (i == k) ≡ false → count_by (is_pair i j) (births_of n k action) ≡ 0
births_at n k (Spawn d f args (Some hint)) i j ne = none_counted (is_pair i j) _ [] (not_from k _ i j ne) refl
births_at n k (Spawn d f args None) i j ne = refl
births_at n k other i j ne = refl

posts_at : (n k : ℕ) (action : Action) (i j : ℕ) → (i == k) ≡ false → count_by (is_pair i j) (posts_of n k action) ≡ 0
posts_at n k (Issue at op a word) i j ne = none_counted (is_pair i j) _ [] (not_from k _ i j ne) refl
posts_at n k (Init at a word) i j ne = other_froms k i j (below n) ne
posts_at n k other i j ne = refl

ended_at : (k : ℕ) (o : Option Ticket) (i j : ℕ) → (i == k) ≡ false → count_by (is_pair i j) (ended_to k o) ≡ 0
ended_at k None i j ne = refl
ended_at k (Some t) i j ne = none_counted (is_pair i j) (k, t.home) [] (not_from k t.home i j ne) refl

dones_at : (k : ℕ) (o : Option Ticket) (action : Action) (i j : ℕ) → (i == k) ≡ false → count_by (is_pair i j) (dones_by k o action) ≡ 0
dones_at k o (End value) i j ne = ended_at k o i j ne
dones_at k o other i j ne = refl

turns_at : (k : ℕ) (action : Action) (j : ℕ) → (j == k) ≡ false → count_by (is_number j) (turns_of k action) ≡ 0
turns_at k Turn j ne = other_number k j ne
turns_at k other j ne = refl

applied_at : (n k : ℕ) (action : Action) (j : ℕ) → (j == k) ≡ false → count_by (is_number j) (applied_of n k action) ≡ 0
applied_at n k (Issue at op a word) j ne = elim (owner_of a k n == k) as (λ t. count_by (is_number j) (if t then k ∷ [] else []) ≡ 0) [ true ↦ other_number k j ne | false ↦ refl ]
applied_at n k (Init at a word) j ne = other_number k j ne
applied_at n k other j ne = refl

-- what an action counts, with the change of place before it
pub action_at : (n k from : ℕ) (ticket : Option Ticket) (action : Action) → AreAt k (change_of from k) (births_of n k action) (posts_of n k action) (dones_by k ticket action) (turns_of k action) (applied_of n k action)
action_at n k from ticket action = record {
  moved = other_change from k;
  bore = births_at n k action;
  posted = posts_at n k action;
  done = dones_at k ticket action;
  turned = turns_at k action;
  worked = applied_at n k action;
}

-- and nothing but that change
pub change_at : (k from : ℕ) → AreAt k (change_of from k) [] [] [] [] []
change_at k from = record { moved = other_change from k; bore = λ i j ne. refl; posted = λ i j ne. refl; done = λ i j ne. refl; turned = λ j ne. refl; worked = λ j ne. refl }

pub nothing_at : (k : ℕ) → AreAt k [] [] [] [] [] []
nothing_at k = record { moved = λ i j ne. refl; bore = λ i j ne. refl; posted = λ i j ne. refl; done = λ i j ne. refl; turned = λ j ne. refl; worked = λ j ne. refl }

pub end_at : (k : ℕ) (o : Option Ticket) → AreAt k [] [] [] (ended_to k o) [] []
end_at k o = record { moved = λ i j ne. refl; bore = λ i j ne. refl; posted = λ i j ne. refl; done = ended_at k o; turned = λ j ne. refl; worked = λ j ne. refl }

pub worked_at : (k : ℕ) → AreAt k [] [] [] [] [] (k ∷ [])
worked_at k = record { moved = λ i j ne. refl; bore = λ i j ne. refl; posted = λ i j ne. refl; done = λ i j ne. refl; turned = λ j ne. refl; worked = other_number k }

-- ---- where an action counts

-- an action that leaves its strand where it is, or counts nothing that depends on the place
pub record CountsNothing (n : ℕ) (action : Action) : Type 0 where
  pub bore : (p : ℕ) → births_of n p action ≡ []
  pub posted : (p : ℕ) → posts_of n p action ≡ []
  pub turned : (p : ℕ) → turns_of p action ≡ []
  pub worked : (p : ℕ) → applied_of n p action ≡ []

silent_action : (n : ℕ) (action : Action) → ((p : ℕ) → (births_of n p action ≡ []) × (posts_of n p action ≡ []) × (turns_of p action ≡ []) × (applied_of n p action ≡ [])) → CountsNothing n action
silent_action n action h = record { bore = λ p. (h p).0; posted = λ p. (h p).1; turned = λ p. (h p).2; worked = λ p. (h p).3 }

pub stays_or_silent : (n : ℕ) (action : Action) → ((y : Sight) → place_after n y action ≡ y.here) ⊎ CountsNothing n action
stays_or_silent n (Load at a) = inr (silent_action n (Load at a) (λ p. (refl, refl, refl, refl)))
stays_or_silent n (Fetch at f a) = inr (silent_action n (Fetch at f a) (λ p. (refl, refl, refl, refl)))
stays_or_silent n (Move at a) = inr (silent_action n (Move at a) (λ p. (refl, refl, refl, refl)))
stays_or_silent n (Print bytes) = inr (silent_action n (Print bytes) (λ p. (refl, refl, refl, refl)))
stays_or_silent n (Alloc request) = inr (silent_action n (Alloc request) (λ p. (refl, refl, refl, refl)))
stays_or_silent n (Sync d) = inr (silent_action n (Sync d) (λ p. (refl, refl, refl, refl)))
stays_or_silent n other = inl (λ y. refl)
