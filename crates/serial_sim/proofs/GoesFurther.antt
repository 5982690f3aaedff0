-- A serial run goes further by the event that was chosen.
use Rattle.std.proofs.Common.{◌≡◌, ◌≢◌, ◌≤◌, ◌<◌, ◌⊎◌, inl, inr, ℕ, List, [], ◌∷◌, ◌++◌, Option, Some, None, refl, sym, ap, ◌∙◌, subst, Bool, true, false, append_assoc}
use Rattle.std.specs.List.{cons_option}
use Rattle.std.proofs.lemmas.Bool.Decides.{eqb_tells}
use Rattle.std.proofs.lemmas.List.Elements.{filter_map-append}
use Rattle.std.specs.Prelude.{◌==◌, if◌then◌else◌, option_to_list}
use Rattle.rand_pcg.specs.Lcg.{Lcg}
use Rattle.rand_pcg.specs.Pcg.{pcg32}
use Rattle.word_ops.specs.declared.step.Step.{Step}
use Rattle.merge_law.specs.declared.event.Event.{Event}
use Rattle.merge_law.specs.Machine.{Machine}
use Rattle.merge_law.specs.Events.{Placed, nodelet_of}
use Rattle.merge_law.specs.Core.{After, Played, advance, after, core_after}
use Rattle.merge_law.specs.Core as merge
use Rattle.merge_law.specs.Merge.{steps_of, entries_of}
use Rattle.merge_law.proofs.Somes.{from_map}
use Rattle.threadlet_code.specs.declared.code.Code.{Code}
use Rattle.core_model.specs.Nodes.{Setup}
use Rattle.core_model.specs.Machine.{machine_of}
use Rattle.sim_core.specs.declared.machine.Core.{Core as Kept}
use Rattle.core_model.specs.Core.{Core, start_core}
use Rattle.sim_core.specs.Kept.{setup_in, core_in}
use Rattle.sim_core.specs.Advanced.{HasAdvanced, IsReached, entries_at}
use Rattle.core_model.specs.Laws.{IsPlayed}
use Rattle.core_model.proofs.Events.GoingOn.{event_goes_on}
use Rattle.sim_core.proofs.Playing.{same_setup}
use Rattle.core_model.specs.Rank.{rank}
use Rattle.core_model.proofs.Rank.RankOfEvents.{events_lower_rank}
use Rattle.threadlet_code.specs.Breaches.{is_sound}
use Rattle.serial_sim.specs.Schedule.{generator_of, picked, has_trapped, IsPicked}
use Rattle.serial_sim.specs.code.Going.{IsGoing}

-- The entry of an event stands at the nodelet at which it happens.
entry_is_there : {V B P : Type 0} (m : Machine V B P) (c : merge.Core V P) (event : Event) (a : After V P) → after m c event ≡ Some a → a.entry.nodelet ≡ nodelet_of event
entry_is_there m c event a e =
    let by = from_map (core_after c (nodelet_of event)) (advance m (c.nodes (nodelet_of event)) (λ o. c.links o (nodelet_of event)) event) a e in
    ap (λ (x : After _ _). x.entry.nodelet) (sym by.is)

-- The steps of entries and of one more.
steps_more : (told : List Placed) (x : Placed) → steps_of (told ++ x ∷ []) ≡ steps_of told ++ option_to_list x.entry.step
steps_more told x = filter_map-append (λ (y : Placed). y.entry.step) told (x ∷ []) ∙ ap (λ l. steps_of told ++ l) (one x.entry.step)
  where
    one : (o : Option Step) → cons_option o [] ≡ option_to_list o
    one None = refl
    one (Some s) = refl

-- The entries of a nodelet among entries and one more.
entries_more : (k : ℕ) (told : List Placed) (x : Placed) → entries_of k (told ++ x ∷ []) ≡ entries_of k told ++ (if x.nodelet == k then x.entry ∷ [] else [])
entries_more k [] x = go (x.nodelet == k) refl
  where
    go : (b : Bool) → (x.nodelet == k) ≡ b → entries_of k (x ∷ []) ≡ (if b then x.entry ∷ [] else [])
    go true e = rw e refl
    go false e = rw e refl
entries_more k (first ∷ told) x = go (entries_more k told x) (first.nodelet == k) refl
  where
    go : entries_of k (told ++ x ∷ []) ≡ entries_of k told ++ (if x.nodelet == k then x.entry ∷ [] else []) → (b : Bool) → (first.nodelet == k) ≡ b
        → entries_of k ((first ∷ told) ++ x ∷ []) ≡ entries_of k (first ∷ told) ++ (if x.nodelet == k then x.entry ∷ [] else [])
    go rest true e = rw e (ap (λ l. first.entry ∷ l) rest)
    go rest false e = rw e rest

-- Numbers that are equal in either order.
turned : (i j : ℕ) → (i == j) ≡ (j == i)
turned i j = go (eqb_tells i j) (eqb_tells j i)
  where
    go : (((i == j) ≡ true) × (i ≡ j)) ⊎ (((i == j) ≡ false) × (i ≢ j)) → (((j == i) ≡ true) × (j ≡ i)) ⊎ (((j == i) ≡ false) × (j ≢ i)) → (i == j) ≡ (j == i)
    go (inl a) (inl b) = a.0 ∙ sym b.0
    go (inl a) (inr b) = absurd (b.1 (sym a.1))
    go (inr a) (inl b) = absurd (a.1 (sym b.1))
    go (inr a) (inr b) = a.0 ∙ sym b.0

module _ (code : Code) (seed : ℕ) (u : Setup) (before after_it : Kept) (g : Lcg) (told : List Step) where
  -- What legal events have reached is where the run stands.
  pub reached : IsGoing code seed u before g told → IsReached code before
  reached going = record {
    events = going.events;
    played = going.played;
    plays = subst (λ (v : Setup). IsPlayed v going.events going.played) (sym going.setup) going.plays;
    core = going.core;
  }

  module _ (event : Event) (going : IsGoing code seed u before g told) (has : HasAdvanced code before after_it event) where
    legal : after (machine_of u) going.played.core event ≡ Some has.left
    legal =
        ap (λ c. after (machine_of u) c event) (sym going.core)
        ∙ ap (λ (v : Setup). after (machine_of v) (core_in code before) event) (sym going.setup)
        ∙ has.legal

    -- The run goes on by the event that was chosen, and has the step besides that its entry tells of.
    pub goes_further : has_trapped u (core_in code before) ≡ false → picked u (core_in code before) (pcg32 g).0 ≡ Some event →
        IsGoing code seed u after_it (pcg32 g).1 (told ++ option_to_list has.left.entry.entry.step)
    goes_further no_trap pick = record {
      setup = same_setup code before after_it has.settings ∙ going.setup;
      events = going.events ++ event ∷ [];
      played = record { core = has.left.core; told = going.played.told ++ has.left.entry ∷ [] };
      plays = event_goes_on u (start_core u) going.events going.played event has.left going.plays legal;
      core = has.core;
      steps = ap (λ steps. steps ++ option_to_list has.left.entry.entry.step) going.steps ∙ sym (steps_more going.played.told has.left.entry);
      entries = λ k. has.entries k ∙ ap (λ es. es ++ (if k == nodelet_of event then has.left.entry.entry ∷ [] else [])) (going.entries k)
          ∙ ap (λ b. entries_of k going.played.told ++ (if b then has.left.entry.entry ∷ [] else [])) (turned k (nodelet_of event) ∙ ap (λ i. i == k) (sym (entry_is_there (machine_of u) going.played.core event has.left legal)))
          ∙ sym (entries_more k going.played.told has.left.entry);
      goes_on = λ rest picks.
          let P : List Event → Type 0 = IsPicked u (generator_of seed) (start_core u) in
          subst P (sym (append_assoc going.events (event ∷ []) rest))
          (going.goes_on (event ∷ rest)
          (ap (has_trapped u) (sym going.core) ∙ no_trap, ap (λ c. picked u c (pcg32 g).0) (sym going.core) ∙ pick, has.left, legal, picks));
    }

  -- Before any event a run stands at its start.
  pub goes_from_start : core_in code before ≡ start_core (setup_in code before) → setup_in code before ≡ u → ((k : ℕ) → entries_at before k ≡ []) → g ≡ generator_of seed → told ≡ [] →
      IsGoing code seed u before g told
  goes_from_start core setup entries generator none = record {
    setup = setup;
    events = [];
    played = record { core = start_core u; told = [] };
    plays = refl;
    core = core ∙ ap start_core setup;
    steps = none;
    entries = entries;
    goes_on = λ rest picks. subst (λ (h : Lcg). IsPicked u h (start_core u) rest) generator picks;
  }

  -- Each event lowers the rank.
  pub goes_down : is_sound code ≡ true → 1 ≤ u.nodelets → u.code ≡ code → (event : Event) (going : IsGoing code seed u before g told) (has : HasAdvanced code before after_it event) →
      rank u (core_in code after_it) < rank u (core_in code before)
  goes_down sound some same event going has =
      let falls = events_lower_rank u (ap is_sound same ∙ sound) some going.events going.played going.plays event has.left (legal event going has) in
      let P : Core → Type 0 = λ c. rank u c < rank u (core_in code before) in
      let Q : Core → Type 0 = λ c. rank u has.left.core < rank u c in
      subst P (sym has.core) (subst Q (sym going.core) falls)

-- A number is equal to itself.
pub same_number : (n : ℕ) → (n == n) ≡ true
same_number n = go (eqb_tells n n)
  where
    go : (((n == n) ≡ true) × (n ≡ n)) ⊎ (((n == n) ≡ false) × (n ≢ n)) → (n == n) ≡ true
    go (inl a) = a.0
    go (inr b) = absurd (b.1 refl)
