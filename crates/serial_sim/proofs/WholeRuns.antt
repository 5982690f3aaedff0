-- The run of a seed is a run of the code's own meaning, and is not cut short.
use Rattle.std.proofs.Common.{◌≡◌, ◌≤◌, ◌<◌, ◌⊎◌, inl, inr, ℕ, zero, suc, ℤ, List, [], ◌∷◌, Option, Some, None, IsSome, is_some, refl, sym, ap, ◌∙◌, subst, Bool, true, false, ◌||◌, option_map, arith, ⊎_elim}
use Rattle.std.specs.Prelude.{if◌then◌else◌, ◌==◌, slice_get}
use Rattle.std.specs.List.{list_any}
use Rattle.std.proofs.Math.Path.{fun_ext}
use Rattle.std.proofs.lemmas.Bool.{cases_lt, eq-eqb, eqb-true}
use Rattle.std.proofs.lemmas.List.Folds.{list_any-append}
use Rattle.rand_pcg.specs.Lcg.{Lcg}
use Rattle.rand_pcg.specs.Pcg.{pcg32}
use Rattle.word_ops.specs.declared.step.Step.{Step}
use Rattle.word_ops.specs.declared.step.Entry.{Entry}
use Rattle.word_ops.specs.declared.ending.End.{End}
use Rattle.word_ops.specs.declared.ending.End.TheVariants.{Spent}
use Rattle.word_ops.specs.declared.ending.SpentCause.TheVariants.{Stamps}
use Rattle.word_ops.specs.Report.{below}
use Rattle.merge_law.specs.declared.event.Event.{Event}
use Rattle.merge_law.specs.Events.{nodelet_of}
use Rattle.merge_law.specs.Machine.{last_stamp}
use Rattle.merge_law.specs.Core.{After, Played, advance, after, core_after, told_first, play}
use Rattle.merge_law.specs.Merge.{steps_of}
use Rattle.merge_law.proofs.Somes.{from_map, from_then, some_is}
use Rattle.merge_law.proofs.Pairs.{pairwise_all}
use Rattle.threadlet_code.specs.Breaches.{is_sound}
use Rattle.world_model.specs.World.{Setting, World}
use Rattle.world_model.specs.Run.{start, run_of, end_of, first_trap, spent_stamps, Rest}
use Rattle.world_model.specs.Traffic.{traffic_of}
use Rattle.world_model.specs.Cells.{AreCells}
use Rattle.traffic_report.specs.declared.run.Ran.{Ran}
use Rattle.traffic_report.specs.Runs.{IsRun, IsNotCutShort, IsWholeRun, StampsAreCounted}
use Rattle.core_model.specs.declared.trapped.Trapped.{Trapped}
use Rattle.core_model.specs.Nodes.{Setup, Node}
use Rattle.core_model.specs.Machine.{Packet, machine_of}
use Rattle.core_model.specs.Core.{Core, start_core, setting_of}
use Rattle.core_model.specs.CoreEnd.{end_by, kept_traps, earliest, trap_end, HasStopped, TrapsAtOneNodelet, EventTrapsAtOneNodelet}
use Rattle.core_model.specs.Laws.{IsRunOfEvents, HasEnded, parts_of}
use Rattle.core_model.specs.Reached.{Reached, reached}
use Rattle.core_model.proofs.Events.EventsAreRun.{events_are_run}
use Rattle.core_model.proofs.Events.GoingOn.{none_listed_is_still}
use Rattle.core_model.proofs.Invariant.AllCells.{AreFirst, event_first, cells_are_all}
use Rattle.core_model.proofs.Traffic.CountsAreTraffic.{counts_are_traffic}
use Rattle.core_model.proofs.NotStuck.NeverStuck.{never_stuck}
use Rattle.core_model.proofs.NotStuck.Finds.{any_below, found}
use Rattle.core_model.proofs.Ends.FirstBelow.{FirstOf, There, Nowhere, first_of}
use Rattle.core_model.proofs.Ends.EndShown.{trap_shown, stamps_shown, serial_end_is_shown}
use Rattle.sim_core.specs.Shown.{cells_in}
use Rattle.serial_sim.specs.Schedule.{has_trapped, IsPicked}
use Rattle.serial_sim.specs.Scheduled.{IsScheduled}
use Rattle.serial_sim.specs.code.Going.{IsOver}
use Rattle.serial_sim.proofs.StampsCounted.{stamps_counted}

-- ---- where there are traps

-- a number under n passes a test
some_below : (test : ℕ → Bool) (n : ℕ) → list_any test (below n) ≡ true → (k : ℕ) × (k < n) × (test k ≡ true)
some_below test zero any = absurd (let no : false ≡ true = any in cc)
some_below test (suc n) any = go (list_any test (below n)) refl (test n) refl (sym (list_any-append test (below n) (n ∷ [])) ∙ any) (λ h. some_below test n h)
  where
    go : (s : Bool) → list_any test (below n) ≡ s → (t : Bool) → test n ≡ t → (list_any test (below n) || (test n || false)) ≡ true →
        (list_any test (below n) ≡ true → (k : ℕ) × (k < n) × (test k ≡ true)) → (k : ℕ) × (k < suc n) × (test k ≡ true)
    go true e t f h ih = let r = ih e in (r.0, (let less = r.1 in omega arith), r.2)
    go false e true f h ih = (n, omega arith, f)
    go false e false f h ih = absurd (let z : false ≡ true = sym (ap (λ s. s || (test n || false)) e ∙ ap (λ t. t || false) f) ∙ h in cc)

-- one event makes strands trap at one nodelet at most
event_traps : EventTrapsAtOneNodelet
event_traps u c event left none e j k a b = there j a ∙ sym (there k b)
  where
    there : (i : ℕ) → IsSome (left.core.nodes i).first_trap → i ≡ nodelet_of event
    there i some =
        let by = from_map (core_after c (nodelet_of event)) (advance (machine_of u) (c.nodes (nodelet_of event)) (λ o. c.links o (nodelet_of event)) event) left e in
        go by.value.outcome.node (i == nodelet_of event) refl (subst (λ (x : After Node Packet). IsSome (x.core.nodes i).first_trap) (sym by.is) some)
      where
        go : (v : Node) (t : Bool) → (i == nodelet_of event) ≡ t → IsSome (if t then v else c.nodes i).first_trap → i ≡ nodelet_of event
        go v true same is = eqb-true i (nodelet_of event) same
        go v false other is = absurd (let z : false ≡ true = sym (ap is_some (none i)) ∙ is in cc)

module _ (u : Setup) where
  -- where no nodelet that is there has a trap, none has
  none_trapped : (c : Core) → AreFirst u c → has_trapped u c ≡ false → (k : ℕ) → (c.nodes k).first_trap ≡ None
  none_trapped c first none k = ⊎_elim (λ less. within less (c.nodes k).first_trap refl) (λ far. ap (λ (v : Node). v.first_trap) (first k far)) (cases_lt k u.nodelets)
    where
      within : k < u.nodelets → (o : Option Trapped) → (c.nodes k).first_trap ≡ o → (c.nodes k).first_trap ≡ None
      within less None e = e
      within less (Some t) e = absurd (let z : false ≡ true = sym none ∙ any_below (λ i. is_some (c.nodes i).first_trap) u.nodelets k less (ap is_some e) in cc)

  -- the last core of a schedule
  record IsLast (c : Core) : Type 0 where
    pub one : TrapsAtOneNodelet c
    pub over : IsOver u c

  last : (g : Lcg) (c : Core) (events : List Event) (played : Played Node Packet) → AreFirst u c → TrapsAtOneNodelet c → IsPicked u g c events →
      play (machine_of u) events c ≡ Some played → IsLast played.core
  last g c [] played first one over e = subst (λ (y : Played Node Packet). IsLast y.core) (some_is _ _ e) (record { one = one; over = over })
  last g c (event ∷ events) played first one (none, is, left, leads, picks) e =
      let a = from_then (λ (y : After Node Packet). option_map (told_first y.entry) (play (machine_of u) events y.core)) (after (machine_of u) c event) played e in
      let q = from_map (told_first a.value.entry) (play (machine_of u) events a.value.core) played a.next in
      subst (λ (y : Played Node Packet). IsLast y.core) q.is
      (last (pcg32 g).1 a.value.core events q.value (event_first u c event a.value a.was first) (event_traps u c event a.value (none_trapped c first none) a.was)
      (subst (λ (y : After Node Packet). IsPicked u (pcg32 g).1 y.core events) (some_is left a.value (sym leads ∙ a.was)) picks) q.was)

  -- events have stopped there
  stopped : (c : Core) → IsOver u c → HasStopped u c
  stopped c (inl trapped) = inl (some_below (λ k. is_some (c.nodes k).first_trap) u.nodelets trapped)
  stopped c (inr none) = inr (inr (none_listed_is_still u c none))

  -- before any event no strand has trapped
  none_at_start : TrapsAtOneNodelet (start_core u)
  none_at_start j k a b = absurd (let z : false ≡ true = a in cc)

-- ---- the end

mapped : {A B : Type 0} (f : A → B) (o : Option A) → IsSome o → IsSome (option_map f o)
mapped f None h = absurd (let no : false ≡ true = h in cc)
mapped f (Some x) h = refl

module _ (u : Setup) (sound : is_sound u.code ≡ true) (some : 1 ≤ u.nodelets) (most : u.nodelets ≤ 64) (seed : ℕ) (ran : Ran) (h : IsScheduled u seed ran) where
  abbrev on : Setting
  on = setting_of u

  abbrev c : Core
  c = h.played.core

  abbrev told : List Step
  told = steps_of h.played.told

  abbrev parts : List (List Entry)
  parts = parts_of u.nodelets h.played.told

  abbrev r : IsRunOfEvents u (setting_of u) h.played
  r = events_are_run u sound some most h.events h.played h.plays

  is_last : IsLast u c
  is_last = last u _ (start_core u) h.events h.played (λ k far. refl) (none_at_start u) h.picks h.plays

  -- ---- it is not cut short

  trap_same : first_trap on told ≡ trap_end u c
  trap_same = trap_shown u sound some h.events h.played h.plays (λ (x y : Reached). Unit {0}) (pairwise_all (λ (x y : Reached). Unit {0}) (λ x y. tt) (reached on (start on) h.played.told))
      (λ x t is here j s e g. inl (is_last.one j x.entry.nodelet (ap is_some e) (ap is_some here)))

  trapped : (k : ℕ) → k < u.nodelets → IsSome (c.nodes k).first_trap → IsSome (first_trap on told)
  trapped k less is = subst (λ (o : Option End). IsSome o) (sym trap_same) (mapped end_by _ (by (first_of (λ i. (c.nodes i).first_trap) u.nodelets)))
    where
      by : FirstOf (λ i. (c.nodes i).first_trap) u.nodelets → IsSome (earliest (kept_traps u c))
      by (There j x under e first) = at (kept_traps u c) first
        where
          at : (l : List Trapped) → slice_get l 0 ≡ Some x → IsSome (earliest l)
          at [] g = absurd cc
          at (y ∷ l) g = refl
      by (Nowhere none empty) = absurd (let z : false ≡ true = sym (ap is_some (none k less)) ∙ is in cc)

  spent : (k : ℕ) → k < u.nodelets → (c.nodes k).stamp ≡ last_stamp → IsSome (spent_stamps parts)
  spent k less is = subst (λ (o : Option End). IsSome o) (sym (stamps_shown u sound some h.events h.played h.plays))
      (mapped (λ j. Spent j Stamps) _ (found (λ j. (c.nodes j).stamp == last_stamp) (below u.nodelets)
      (any_below (λ j. (c.nodes j).stamp == last_stamp) u.nodelets k less (eq-eqb _ _ is))))

  abbrev IsWhole : List Step → List (List Entry) → Type 0
  IsWhole ts ps = IsSome (first_trap on ts) ⊎ (IsSome (spent_stamps ps) ⊎ Rest on r.world)

  ended : HasEnded u on h.played → IsWhole told parts
  ended (inl trap) = inl trap
  ended (inr (inl (k, less, is))) = inr (inl (spent k less is))
  ended (inr (inr (w, leads, rest, why))) = inr (inr (subst (λ (v : World). Rest on v) (some_is w r.world (sym leads ∙ r.leads_to)) rest))

  whole_told : IsOver u c → IsWhole told parts
  whole_told (inl is) = let at = some_below (λ k. is_some (c.nodes k).first_trap) u.nodelets is in inl (trapped at.0 at.1 at.2)
  whole_told (inr none) = ended (never_stuck u sound some h.events h.played h.plays (none_listed_is_still u c none))

  whole : IsNotCutShort on r.world ran
  whole = subst (λ ts. IsWhole ts ran.parts) (sym h.told) (subst (IsWhole told) (sym h.parts) (whole_told is_last.over))

  -- ---- it is a run

  same_cells : cells_in c ≡ r.world.cells
  same_cells = fun_ext (λ k. fun_ext (λ a. cells_are_all u sound some h.events h.played h.plays r.world r.leads_to k a))

  abbrev run : IsRun on ran
  run = record {
    world = r.world;
    leads_to = ap (run_of on) h.told ∙ r.leads_to;
    out = h.out ∙ r.shares.pieces;
    cells = subst (λ (cells : ℕ → ℤ → ℤ). AreCells cells ran.cells) same_cells h.cells;
    traffic = h.traffic ∙ counts_are_traffic u sound some h.events h.played h.plays ∙ ap (traffic_of on) (sym h.told);
    ends_so = ap (λ ts. end_of on ts ran.parts) h.told ∙ ap (end_of on told) h.parts
        ∙ serial_end_is_shown u sound some h.events h.played h.plays (stopped u c is_last.over) is_last.one ∙ ap (λ (e : End). Some e) (sym h.end);
  }

pub scheduled_is_whole : (u : Setup) → is_sound u.code ≡ true → 1 ≤ u.nodelets → u.nodelets ≤ 64 → (seed : ℕ) (ran : Ran) → IsScheduled u seed ran → IsWholeRun (setting_of u) ran
scheduled_is_whole u sound some most seed ran h = record {
  run = run u sound some most seed ran h;
  whole = whole u sound some most seed ran h;
  stamps = subst StampsAreCounted (sym h.parts) (stamps_counted u h.events h.played h.plays);
}
