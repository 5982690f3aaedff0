-- A run has ended as its core shows.
use Rattle.std.proofs.Common.{◌≡◌, ℕ, ◌<◌, ◌≤◌, ◌⊎◌, inl, inr, List, [], ◌∷◌, Option, Some, None, refl, sym, ap, ◌∙◌, subst, arith, true, false, ⊎_elim, ℤ, option_map, option_and_then, is_some, IsSome, unwrap_or}
use Rattle.std.specs.Prelude.{slice_get, find, ◌==◌}
use Rattle.std.specs.Option.{option_or}
use Rattle.std.proofs.lemmas.Bool.{cases_lt, eq-eqb}
use Rattle.word_ops.specs.declared.step.Entry.{Entry}
use Rattle.word_ops.specs.declared.step.Step.{Step}
use Rattle.word_ops.specs.declared.ending.End.{End}
use Rattle.word_ops.specs.declared.ending.End.TheVariants.{Done, Spent}
use Rattle.word_ops.specs.declared.ending.SpentCause.TheVariants.{Turns, Stamps}
use Rattle.word_ops.specs.Report.{below}
use Rattle.merge_law.specs.declared.event.Event.{Event}
use Rattle.merge_law.specs.Machine.{last_stamp}
use Rattle.merge_law.specs.Core.{Played}
use Rattle.merge_law.specs.Merge.{steps_of, entries_of}
use Rattle.merge_law.specs.Laws.{IsBefore}
use Rattle.merge_law.proofs.Pairs.{Pairwise, pairwise_all}
use Rattle.threadlet_code.specs.Breaches.{is_sound}
use Rattle.world_model.specs.World.{Setting, World, value_of, main_name}
use Rattle.world_model.specs.Run.{start, first_trap, spent_stamps, spent_turns, end_in}
use Rattle.world_model.proofs.Settling.{names_differ}
use Rattle.core_model.specs.declared.trapped.Trapped.{Trapped}
use Rattle.core_model.specs.Nodes.{Setup, Node}
use Rattle.core_model.specs.Machine.{Packet}
use Rattle.core_model.specs.Core.{Core, start_core, setting_of}
use Rattle.core_model.specs.Laws.{IsPlayed, IsStill, parts_of}
use Rattle.core_model.specs.Reached.{Reached, reached}
use Rattle.core_model.specs.CoreEnd.{end_by, kept_traps, earliest, trap_end, value_end, stamps_end, turns_end, end_in_core, HasStopped, EndIsShown, SerialEndIsShown, MergedEndIsShown}
use Rattle.core_model.proofs.Events.Play.{KeptBy, play_kept}
use Rattle.core_model.proofs.FirstTrap.FirstTraps.{first_traps_are_told}
use Rattle.core_model.proofs.Invariant.Start.{starts}
use Rattle.core_model.proofs.Invariant.AllCells.{beyond_are_first}
use Rattle.core_model.proofs.Packets.NoLink.{links_apart}
use Rattle.core_model.proofs.NotStuck.StampBounds.{always_in_time}
use Rattle.core_model.proofs.Census.OrderKept.{contexts_in_order}
use Rattle.core_model.proofs.NotStuck.StillCore.{Rests}
use Rattle.core_model.proofs.NotStuck.NeverStuck.{never_stuck}
use Rattle.core_model.proofs.NotStuck.RunsEnd.{runs_end}
use Rattle.core_model.proofs.NotStuck.Finds.{any_below, found}
use Rattle.core_model.proofs.NotStuck.LastStamp.{last_stamped, is_last_stamp, play_stamped}
use Rattle.core_model.proofs.Ends.FirstBelow.{FirstOf, There, Nowhere, first_of, find-same, position-find}
use Rattle.core_model.proofs.Ends.TrapsTold.{trap_of, first_told, traps_same, stamp_told, Told, Leads, NoneTold, FirstTold, leads, pairwise_from, reached_pairs}
use Rattle.core_model.proofs.Ends.Earliest.{IsLater, least}
use Rattle.core_model.proofs.Ends.TurnsLacked.{turns_same}

there_or : {A : Type 0} (o : Option A) → IsSome o → (x : A) × (o ≡ Some x)
there_or None h = absurd (let no : false ≡ true = h in cc)
there_or (Some x) h = (x, refl)

clash : {A B : Type 0} (o : Option A) (x : A) → o ≡ None → o ≡ Some x → B
clash o x e f = absurd (let z : None ≡ Some x = sym e ∙ f in cc)

module _ (u : Setup) (sound : is_sound u.code ≡ true) (some : 1 ≤ u.nodelets) (events : List Event) (played : Played Node Packet) (legal : IsPlayed u events played) where
  abbrev on : Setting
  on = setting_of u

  abbrev c : Core
  c = played.core

  abbrev told : List Step
  told = steps_of played.told

  abbrev parts : List (List Entry)
  parts = parts_of u.nodelets played.told

  kept : KeptBy u sound some (start on) played
  kept = play_kept u sound some events (start_core u) (start on) played (starts u sound some) legal

  abbrev rs : List Reached
  rs = reached on (start on) played.told

  abbrev trap_at : ℕ → Option Trapped
  trap_at k = (c.nodes k).first_trap

  -- ---- the first trap

  module _ (R : Reached → Reached → Type 0) (pairs : Pairwise R rs)
      (later : (r : Reached) (t : Trapped) → trap_of r ≡ Some t → trap_at r.entry.nodelet ≡ Some t → (j : ℕ) (s : Trapped) → trap_at j ≡ Some s → Told (R r) j s → (j ≡ r.entry.nodelet) ⊎ IsLater r.entry.nodelet t j s) where
    pub trap_shown : first_trap on told ≡ trap_end u c
    trap_shown = traps_same on played.told (start on) ∙ by (leads R rs pairs)
      where
        by : Leads R rs → option_map end_by (first_told rs) ≡ trap_end u c
        by (NoneTold is none) = ap (option_map end_by) is ∙ at (first_of trap_at u.nodelets)
          where
            at : FirstOf trap_at u.nodelets → option_map end_by (let nothing : Option Trapped = None in nothing) ≡ trap_end u c
            at (There k x less e first) = clash (trap_at k) x (first_traps_are_told u sound some events played legal k ∙ none k) e
            at (Nowhere absent empty) = ap (λ (l : List Trapped). option_map end_by (earliest l)) (sym empty)
        by (FirstTold r t is first own others) = ap (option_map end_by) first ∙ ap (option_map end_by) (sym (least trap_at r.entry.nodelet t here
            (λ j s e. ⊎_elim (λ same. inl same) (λ h. later r t is here j s e h) (others j s (sym (first_traps_are_told u sound some events played legal j) ∙ e)))
            u.nodelets inside))
          where
            here : trap_at r.entry.nodelet ≡ Some t
            here = first_traps_are_told u sound some events played legal r.entry.nodelet ∙ own

            inside : r.entry.nodelet < u.nodelets
            inside = ⊎_elim (λ less. less)
                (λ far. clash (trap_at r.entry.nodelet) t (ap (λ (v : Node). v.first_trap) (beyond_are_first u events played legal r.entry.nodelet far)) here)
                (cases_lt r.entry.nodelet u.nodelets)

  -- ---- main's value

  value_shown : option_map (λ value. Done value) (value_of kept.world main_name) ≡ value_end u c
  value_shown = by (first_of (λ k. (c.nodes k).main_value) u.nodelets)
    where
      by : FirstOf (λ k. (c.nodes k).main_value) u.nodelets → option_map (λ value. Done value) (value_of kept.world main_name) ≡ value_end u c
      by (There k x less e first) = ap (option_map (λ value. Done value)) (kept.holds.main_value.0 k x e ∙ sym first)
      by (Nowhere none empty) = ap (option_map (λ value. Done value)) (at (value_of kept.world main_name) refl ∙ ap (λ (l : List ℤ). slice_get l 0) (sym empty))
        where
          at : (o : Option ℤ) → value_of kept.world main_name ≡ o → value_of kept.world main_name ≡ None
          at None e = e
          at (Some x) e = let r = kept.holds.main_value.1 x e in clash ((c.nodes r.0).main_value) x (none r.0 r.1) r.2

  -- ---- stamps

  last_at : (x : Entry) (xs : List Entry) → is_last_stamp last_stamp (x ∷ xs) ≡ (last_stamped x.stamp xs == last_stamp)
  last_at x [] = refl
  last_at x (y ∷ ys) = last_at y ys

  last_shown : (part : List Entry) (s : ℕ) → last_stamped 0 part ≡ s → is_last_stamp last_stamp part ≡ (s == last_stamp)
  last_shown [] s e = ap (λ t. t == last_stamp) e
  last_shown (x ∷ xs) s e = last_at x xs ∙ ap (λ t. t == last_stamp) e

  pub stamps_shown : spent_stamps parts ≡ stamps_end u c
  stamps_shown = ap (option_map (λ k. Spent k Stamps))
      (position-find (λ k. entries_of k played.told) (is_last_stamp last_stamp) u.nodelets
      ∙ find-same (λ k. is_last_stamp last_stamp (entries_of k played.told)) (λ k. (c.nodes k).stamp == last_stamp) u.nodelets
      (λ k less. last_shown (entries_of k played.told) (c.nodes k).stamp (play_stamped u events (start_core u) played legal k)))

  -- ---- all of them

  abbrev ends_by : Option End → Option End
  ends_by turns = option_or (first_trap on told) (option_or (option_map (λ value. Done value) (value_of kept.world main_name)) (option_or (spent_stamps parts) turns))

  -- where there is another end, turns do not matter
  no_matter : (o p q t t' : Option End) → IsSome o ⊎ IsSome q → option_or o (option_or p (option_or q t)) ≡ option_or o (option_or p (option_or q t'))
  no_matter (Some x) p q t t' h = refl
  no_matter None (Some x) q t t' h = refl
  no_matter None None (Some x) t t' h = refl
  no_matter None None None t t' (inl h) = absurd (let no : false ≡ true = h in cc)
  no_matter None None None t t' (inr h) = absurd (let no : false ≡ true = h in cc)

  is_there : (o p q t : Option End) → IsSome o ⊎ IsSome q → IsSome (option_or o (option_or p (option_or q t)))
  is_there (Some x) p q t h = refl
  is_there None (Some x) q t h = refl
  is_there None None (Some x) t h = refl
  is_there None None None t (inl h) = absurd (let no : false ≡ true = h in cc)
  is_there None None None t (inr h) = absurd (let no : false ≡ true = h in cc)

  mapped : {A : Type 0} (f : A → End) (o : Option A) → IsSome o → IsSome (option_map f o)
  mapped f None h = absurd (let no : false ≡ true = h in cc)
  mapped f (Some x) h = refl

  the_one : (o p : Option End) → o ≡ p → IsSome o → o ≡ Some (unwrap_or p (Spent 0 Turns))
  the_one None p e h = absurd (let no : false ≡ true = h in cc)
  the_one (Some x) p e h = ap (λ (y : Option End). Some (unwrap_or y (Spent 0 Turns))) e

  pub end_shown : first_trap on told ≡ trap_end u c → HasStopped u c → EndIsShown u on played
  end_shown trap stopped = ap (option_and_then (end_in on told parts)) kept.leads ∙ by stopped
    where
      with_core : (t : Option End) → ends_by t ≡ option_or (trap_end u c) (option_or (value_end u c) (option_or (stamps_end u c) t))
      with_core t =
          ap (λ o. option_or o (option_or (option_map (λ value. Done value) (value_of kept.world main_name)) (option_or (spent_stamps parts) t))) trap
          ∙ ap (λ o. option_or (trap_end u c) (option_or o (option_or (spent_stamps parts) t))) value_shown
          ∙ ap (λ o. option_or (trap_end u c) (option_or (value_end u c) (option_or o t))) stamps_shown

      other : IsSome (first_trap on told) ⊎ IsSome (spent_stamps parts) → ends_by (spent_turns on kept.world) ≡ Some (end_in_core u c)
      other h = the_one _ _ (no_matter (first_trap on told) _ (spent_stamps parts) (spent_turns on kept.world) (turns_end u c) h ∙ with_core (turns_end u c))
          (is_there (first_trap on told) _ (spent_stamps parts) (spent_turns on kept.world) h)

      at_rest : IsStill u c → find (λ k. (c.nodes k).stamp == last_stamp) (below u.nodelets) ≡ None → ends_by (spent_turns on kept.world) ≡ Some (end_in_core u c)
      at_rest still none = the_one _ _ (ap ends_by (turns_same u sound some c rests (contexts_in_order u events played legal) kept.world kept.holds (names_differ on told kept.world kept.leads)) ∙ with_core (turns_end u c))
          (let some_end = runs_end never_stuck u sound some events played legal still in subst (λ (o : Option World). IsSome (option_and_then (end_in on told parts) o)) kept.leads some_end)
        where
          rests : Rests u c
          rests = record {
            apart = links_apart u events played legal;
            timed = always_in_time u events played legal;
            still = still;
            stamps_left = λ k less is.
                let h = there_or (find (λ j. (c.nodes j).stamp == last_stamp) (below u.nodelets)) (found (λ j. (c.nodes j).stamp == last_stamp) (below u.nodelets)
                (any_below (λ j. (c.nodes j).stamp == last_stamp) u.nodelets k less (eq-eqb _ _ is))) in
                clash (find (λ j. (c.nodes j).stamp == last_stamp) (below u.nodelets)) h.0 none h.1;
          }

      by : HasStopped u c → ends_by (spent_turns on kept.world) ≡ Some (end_in_core u c)
      by (inl (k, less, h)) = other (inl (subst (λ (o : Option End). IsSome o) (sym trap) (mapped end_by _ (earliest-there (first_of trap_at u.nodelets)))))
        where
          earliest-there : FirstOf trap_at u.nodelets → IsSome (earliest (kept_traps u c))
          earliest-there (There j x under e first) = at (kept_traps u c) first
            where
              at : (l : List Trapped) → slice_get l 0 ≡ Some x → IsSome (earliest l)
              at [] g = absurd cc
              at (y ∷ l) g = refl
          earliest-there (Nowhere none empty) = let t = there_or (trap_at k) h in clash (trap_at k) t.0 (none k less) t.1
      by (inr (inl (k, less, is))) = other (inr (subst (λ (o : Option End). IsSome o) (sym stamps_shown)
          (mapped (λ j. Spent j Stamps) _ (found (λ j. (c.nodes j).stamp == last_stamp) (below u.nodelets) (any_below (λ j. (c.nodes j).stamp == last_stamp) u.nodelets k less (eq-eqb _ _ is))))))
      by (inr (inr still)) = go (find (λ k. (c.nodes k).stamp == last_stamp) (below u.nodelets)) refl
        where
          go : (o : Option ℕ) → find (λ k. (c.nodes k).stamp == last_stamp) (below u.nodelets) ≡ o → ends_by (spent_turns on kept.world) ≡ Some (end_in_core u c)
          go None e = at_rest still e
          go (Some k) e = other (inr (subst (λ (o : Option End). IsSome o) (sym stamps_shown) (mapped (λ j. Spent j Stamps) _ (ap is_some e))))

-- ---- the two orders of telling

pub serial_end_is_shown : SerialEndIsShown
serial_end_is_shown u sound some events played legal stopped one =
    end_shown u sound some events played legal
    (trap_shown u sound some events played legal (λ (r s : Reached). Unit {0}) (pairwise_all (λ (r s : Reached). Unit {0}) (λ r s. tt) (reached (setting_of u) (start (setting_of u)) played.told))
    (λ r t is here j s e h. inl (one j r.entry.nodelet (ap is_some e) (ap is_some here)))) stopped

pub merged_end_is_shown : MergedEndIsShown
merged_end_is_shown u sound some events played legal stopped order =
    end_shown u sound some events played legal
    (trap_shown u sound some events played legal (λ (r s : Reached). IsBefore r.entry s.entry)
    (reached_pairs IsBefore (setting_of u) played.told (start (setting_of u)) (pairwise_from IsBefore played.told order))
    (λ r t is here j s e h. inr (later r t is j s h h.has))) stopped
  where
    later : (r : Reached) (t : Trapped) → trap_of r ≡ Some t → (j : ℕ) (s : Trapped) (h : Told (λ (x : Reached). IsBefore r.entry x.entry) j s) → IsBefore r.entry h.by.entry → IsLater r.entry.nodelet t j s
    later r t is j s h (inl less) = inl (let a = stamp_told r t is in let b = stamp_told h.by s h.is in omega arith)
    later r t is j s h (inr (same, no_more)) = inr (stamp_told r t is ∙ same ∙ sym (stamp_told h.by s h.is), subst (λ m. r.entry.nodelet ≤ m) h.at no_more)
