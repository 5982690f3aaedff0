-- What a nodelet adds to its counts, where it keeps its first trap.
use Rattle.std.proofs.Common.{◌≡◌, ℕ, suc, ◌+◌, List, [], ◌∷◌, ◌++◌, map, Option, Some, None, refl, sym, ap, ◌∙◌, arith, Bool, true, false, ◌&&◌, cond, count_by}
use Rattle.std.specs.Prelude.{if◌then◌else◌, ◌==◌}
use Rattle.std.proofs.lemmas.Bool.Decides.{eqb_tells}
use Rattle.std.proofs.lemmas.List.Sums.{sum_by-append}
use Rattle.word_ops.specs.declared.ticket.Ticket.{Ticket}
use Rattle.world_model.specs.Action.{Action, End}
use Rattle.core_model.specs.Nodes.{Node, one_more, bore_at, posted_to}
use Rattle.core_model.specs.Effects.{for_each}

abbrev pub is_pair : ℕ → ℕ → ℕ × ℕ → Bool
is_pair i j x = x.0 == i && x.1 == j

abbrev pub is_number : ℕ → ℕ → Bool
is_number k x = x == k

-- nodelet k has counted more: these pairs, to it or from it, and these numbers
pub record Notes (k : ℕ) (v v' : Node) (moves births posts dones : List (ℕ × ℕ)) (turns applied : List ℕ) : Type 0 where
  pub trap : v'.first_trap ≡ v.first_trap
  pub moved : (i : ℕ) → v'.tallies.moves i ≡ v.tallies.moves i + count_by (is_pair i k) moves
  pub bore : (j : ℕ) → v'.tallies.births j ≡ v.tallies.births j + count_by (is_pair k j) births
  pub posted : (j : ℕ) → v'.tallies.posts j ≡ v.tallies.posts j + count_by (is_pair k j) posts
  pub done : (j : ℕ) → v'.tallies.dones j ≡ v.tallies.dones j + count_by (is_pair k j) dones
  pub turned : v'.served ≡ v.served + count_by (is_number k) turns
  pub worked : v'.tallies.applied ≡ v.tallies.applied + count_by (is_number k) applied

-- ---- counts

pub plus_none : (m : ℕ) → m ≡ m + 0
plus_none m = omega arith

pub one_number : (m k : ℕ) → suc m ≡ m + count_by (is_number k) (k ∷ [])
one_number m k = go (k == k) (grind (arith, eqb_tells))
  where
    go : (t : Bool) → t ≡ true → suc m ≡ m + (0 + cond t 1 0)
    go true e = omega arith
    go false e = absurd cc

one_pair : (counts : ℕ → ℕ) (k to j : ℕ) → one_more counts to j ≡ counts j + count_by (is_pair k j) ((k, to) ∷ [])
one_pair counts k to j = go (k == k) (grind (arith, eqb_tells)) (j == to) refl (to == j) refl
  where
    go : (r : Bool) → r ≡ true → (s : Bool) → (j == to) ≡ s → (t : Bool) → (to == j) ≡ t → (if s then suc (counts to) else counts j) ≡ counts j + (0 + cond (r && t) 1 0)
    go true e true f true g = let z : j ≡ to = grind (arith, eqb_tells) in ap (λ i. suc (counts i)) (sym z) ∙ omega arith
    go true e false f false g = omega arith
    go true e true f false g = absurd (grind (arith, eqb_tells))
    go true e false f true g = absurd (grind (arith, eqb_tells))
    go false e s f t g = absurd cc

pub one_move : (counts : ℕ → ℕ) (k from i : ℕ) → one_more counts from i ≡ counts i + count_by (is_pair i k) ((from, k) ∷ [])
one_move counts k from i = go (k == k) (grind (arith, eqb_tells)) (i == from) refl (from == i) refl
  where
    go : (r : Bool) → r ≡ true → (s : Bool) → (i == from) ≡ s → (t : Bool) → (from == i) ≡ t → (if s then suc (counts from) else counts i) ≡ counts i + (0 + cond (t && r) 1 0)
    go true e true f true g = let z : i ≡ from = grind (arith, eqb_tells) in ap (λ j. suc (counts j)) (sym z) ∙ omega arith
    go true e false f false g = omega arith
    go true e true f false g = absurd (grind (arith, eqb_tells))
    go true e false f true g = absurd (grind (arith, eqb_tells))
    go false e s f t g = absurd cc

more_counted : {A : Type 0} (p : A → Bool) (l m : List A) (a b c : ℕ) → b ≡ a + count_by p l → c ≡ b + count_by p m → c ≡ a + count_by p (l ++ m)
more_counted p l m a b c e f = let both = sum_by-append (λ y. cond (p y) 1 0) l m in omega arith

-- nothing is counted
pub notes_none : (k : ℕ) (v v' : Node) → v'.first_trap ≡ v.first_trap → v'.tallies ≡ v.tallies → v'.served ≡ v.served → Notes k v v' [] [] [] [] [] []
notes_none k v v' e f g = record {
  trap = e;
  moved = λ i. ap (λ t. t.moves i) f ∙ plus_none _;
  bore = λ j. ap (λ t. t.births j) f ∙ plus_none _;
  posted = λ j. ap (λ t. t.posts j) f ∙ plus_none _;
  done = λ j. ap (λ t. t.dones j) f ∙ plus_none _;
  turned = g ∙ plus_none _;
  worked = ap (λ t. t.applied) f ∙ plus_none _;
}

pub notes_then : (k : ℕ) (v v' v'' : Node) (ms bs ps ds ms' bs' ps' ds' : List (ℕ × ℕ)) (ts rs ts' rs' : List ℕ) → Notes k v v' ms bs ps ds ts rs → Notes k v' v'' ms' bs' ps' ds' ts' rs' →
    Notes k v v'' (ms ++ ms') (bs ++ bs') (ps ++ ps') (ds ++ ds') (ts ++ ts') (rs ++ rs')
notes_then k v v' v'' ms bs ps ds ms' bs' ps' ds' ts rs ts' rs' a b = record {
  trap = b.trap ∙ a.trap;
  moved = λ i. more_counted (is_pair i k) ms ms' _ _ _ (a.moved i) (b.moved i);
  bore = λ j. more_counted (is_pair k j) bs bs' _ _ _ (a.bore j) (b.bore j);
  posted = λ j. more_counted (is_pair k j) ps ps' _ _ _ (a.posted j) (b.posted j);
  done = λ j. more_counted (is_pair k j) ds ds' _ _ _ (a.done j) (b.done j);
  turned = more_counted (is_number k) ts ts' _ _ _ a.turned b.turned;
  worked = more_counted (is_number k) rs rs' _ _ _ a.worked b.worked;
}

-- ---- what one action adds

-- what an end counts for its parent
abbrev pub ended_to : ℕ → Option Ticket → List (ℕ × ℕ)
ended_to k None = []
ended_to k (Some t) = (k, t.home) ∷ []

abbrev pub dones_by : ℕ → Option Ticket → Action → List (ℕ × ℕ)
dones_by k ticket (End value) = ended_to k ticket
dones_by k ticket action = []

pub posted_notes : (k to : ℕ) (v : Node) → Notes k v (posted_to to v) [] [] ((k, to) ∷ []) [] [] []
posted_notes k to v = record {
  trap = refl;
  moved = λ i. plus_none _;
  bore = λ j. plus_none _;
  posted = one_pair v.tallies.posts k to;
  done = λ j. plus_none _;
  turned = plus_none _;
  worked = plus_none _;
}

pub all_posted : (k : ℕ) (tos : List ℕ) (v : Node) → Notes k v (for_each tos posted_to v) [] [] (map (λ j. (k, j)) tos) [] [] []
all_posted k [] v = notes_none k v v refl refl refl
all_posted k (to ∷ tos) v = notes_then k v (posted_to to v) (for_each tos posted_to (posted_to to v)) [] [] ((k, to) ∷ []) [] [] [] (map (λ j. (k, j)) tos) [] [] [] [] [] (posted_notes k to v) (all_posted k tos (posted_to to v))

pub stored_notes : (k : ℕ) (v v' : Node) → v'.first_trap ≡ v.first_trap → v'.tallies ≡ record v.tallies { applied = suc v.tallies.applied } → v'.served ≡ v.served → Notes k v v' [] [] [] [] [] (k ∷ [])
stored_notes k v v' e f g = record {
  trap = e;
  moved = λ i. ap (λ t. t.moves i) f ∙ plus_none _;
  bore = λ j. ap (λ t. t.births j) f ∙ plus_none _;
  posted = λ j. ap (λ t. t.posts j) f ∙ plus_none _;
  done = λ j. ap (λ t. t.dones j) f ∙ plus_none _;
  turned = g ∙ plus_none _;
  worked = ap (λ t. t.applied) f ∙ one_number v.tallies.applied k;
}

pub bore_notes : (k to : ℕ) (v : Node) → Notes k v (bore_at to v) [] ((k, to) ∷ []) [] [] [] []
bore_notes k to v = record {
  trap = refl;
  moved = λ i. plus_none _;
  bore = one_pair v.tallies.births k to;
  posted = λ j. plus_none _;
  done = λ j. plus_none _;
  turned = plus_none _;
  worked = plus_none _;
}

pub ended_notes : (k to : ℕ) (v v' : Node) → v'.first_trap ≡ v.first_trap → v'.tallies ≡ record v.tallies { dones = one_more v.tallies.dones to } → v'.served ≡ v.served → Notes k v v' [] [] [] ((k, to) ∷ []) [] []
ended_notes k to v v' e f g = record {
  trap = e;
  moved = λ i. ap (λ t. t.moves i) f ∙ plus_none _;
  bore = λ j. ap (λ t. t.births j) f ∙ plus_none _;
  posted = λ j. ap (λ t. t.posts j) f ∙ plus_none _;
  done = λ j. ap (λ t. t.dones j) f ∙ one_pair v.tallies.dones k to j;
  turned = g ∙ plus_none _;
  worked = ap (λ t. t.applied) f ∙ plus_none _;
}
