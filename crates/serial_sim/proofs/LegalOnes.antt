-- The listed events are legal.
use Rattle.std.proofs.Common.{◌≡◌, ℕ, List, [], ◌∷◌, ◌++◌, Some, refl, ap, ◌∙◌, Bool, true, false, ◌&&◌}
use Rattle.std.specs.Prelude.{◌%◌, length, filter, flat_map, map}
use Rattle.std.specs.List.{list_all}
use Rattle.std.proofs.lemmas.List.Folds.{list_all-append}
use Rattle.word_ops.specs.Report.{below}
use Rattle.merge_law.specs.declared.event.Event.{Event}
use Rattle.merge_law.specs.declared.event.Event.TheVariants.{Run, Take}
use Rattle.core_model.specs.Nodes.{Setup}
use Rattle.core_model.specs.Core.{Core, is_legal, runs_at, takes_at, legal_events}
use Rattle.sim_core.proofs.AtPlaces.{list_all_at_place}
use Rattle.serial_sim.specs.Schedule.{picked}

-- what passes a filter passes its test
all_filtered : {A : Type 0} (p : A → Bool) (xs : List A) → list_all p (filter p xs) ≡ true
all_filtered p [] = refl
all_filtered p (x ∷ xs) = go (all_filtered p xs) (p x) refl
  where
    go : list_all p (filter p xs) ≡ true → (b : Bool) → p x ≡ b → list_all p (filter p (x ∷ xs)) ≡ true
    go rest true e = rw e (rw e rest)
    go rest false e = rw e rest

-- two lists pass where each does
both_all : {A : Type 0} (p : A → Bool) (xs ys : List A) → list_all p xs ≡ true → list_all p ys ≡ true → list_all p (xs ++ ys) ≡ true
both_all p xs ys e f = list_all-append p xs ys ∙ ap (λ b. b && list_all p ys) e ∙ f

all_parts : {A : Type 0} (p : A → Bool) (f : ℕ → List A) (ks : List ℕ) → ((k : ℕ) → list_all p (f k) ≡ true) → list_all p (flat_map f ks) ≡ true
all_parts p f [] each = refl
all_parts p f (k ∷ ks) each = both_all p (f k) (flat_map f ks) (each k) (all_parts p f ks each)

pub all_legal : (u : Setup) (c : Core) → list_all (is_legal u c) (legal_events u c) ≡ true
all_legal u c = all_parts (is_legal u c) (λ k. runs_at u c k ++ takes_at u c k) (below u.nodelets)
    (λ k. both_all (is_legal u c) (runs_at u c k) (takes_at u c k)
    (all_filtered (is_legal u c) (map (λ x. Run k x.name) (c.nodes k).contexts))
    (all_filtered (is_legal u c) (map (λ origin. Take origin k) (below u.nodelets))))

-- the event that a word picks is legal
pub picked_is_legal : (u : Setup) (c : Core) (word : ℕ) (event : Event) → picked u c word ≡ Some event → is_legal u c event ≡ true
picked_is_legal u c word event e = list_all_at_place (is_legal u c) (legal_events u c) (word % length (legal_events u c)) event (all_legal u c) e
