-- The words of nodelets that are not there are 0, in the world and in the core.
use Rattle.std.proofs.Common.{◌≡◌, ◌≢◌, ℕ, ◌<◌, ◌≤◌, List, [], ◌∷◌, Some, refl, sym, ap, ◌∙◌, subst, arith, Bool, true, false, not, ⊎_elim, ℤ, pos, IsTrue, option_map}
use Rattle.std.specs.Prelude.{if◌then◌else◌, ◌==◌}
use Rattle.std.proofs.lemmas.Bool.{cases_lt}
use Rattle.std.proofs.lemmas.Bool.Decides.{eqb_tells}
use Rattle.word_ops.specs.declared.step.Step.{Step}
use Rattle.word_ops.specs.declared.step.Step.TheVariants.{Act, Apply}
use Rattle.merge_law.specs.declared.event.Event.{Event}
use Rattle.merge_law.specs.declared.event.Event.TheVariants.{Run, Take}
use Rattle.merge_law.specs.Core.{After, Played, after, told_first, play}
use Rattle.merge_law.specs.Merge.{steps_of}
use Rattle.merge_law.proofs.Somes.{from_map, from_then, some_is}
use Rattle.data_layout.specs.Address.{is_valid}
use Rattle.data_layout.proofs.AddressLaws.{owner_of-below}
use Rattle.world_model.specs.Action.{Action, Turn, Load, Issue, Fetch, Init, Fence, Move, Where, Print, Alloc, Spawn, Sync, End, Trap}
use Rattle.world_model.specs.Sight.{is_bad}
use Rattle.world_model.specs.World.{Setting, Strand, World}
use Rattle.world_model.specs.Step.{step}
use Rattle.world_model.specs.Run.{start, run_from}
use Rattle.world_model.proofs.Shapes.{touched}
use Rattle.world_model.proofs.Steps.{Acted, acted_by, Applied, applied_by}
use Rattle.world_model.proofs.Bounds.{AllWithin, good_action, step_within, always_within}
use Rattle.core_model.specs.Nodes.{Setup, Node}
use Rattle.core_model.specs.Start.{start_node}
use Rattle.core_model.specs.Machine.{Packet, machine_of}
use Rattle.core_model.specs.Core.{Core, start_core, setting_of}
use Rattle.core_model.specs.Laws.{IsPlayed}
use Rattle.core_model.specs.AllCells.{CellsBeyondAreZero, CellsAreAll}
use Rattle.core_model.proofs.Events.LegalEvent.{HasRun, HasTaken, happened}
use Rattle.core_model.proofs.Events.Play.{Linked, linked_is, KeptBy, play_kept}
use Rattle.core_model.proofs.Invariant.Start.{starts}

-- ---- the world

abbrev AreZero : ℕ → World → Type 0
AreZero n w = (k : ℕ) (a : ℤ) → n ≤ k → w.cells k a ≡ pos 0

-- the nodelet whose cells an action may change is there
touched_within : (u : Setting) (s : Strand) (action : Action) → 1 ≤ u.nodelets → s.place < u.nodelets → is_bad u.nodelets action ≡ false → touched u s action < u.nodelets
touched_within u s action some here good = by action good
  where
    valid : (a : ℤ) (t : Bool) → is_valid a u.nodelets ≡ t → not t ≡ false → IsTrue (is_valid a u.nodelets)
    valid a true e f = e
    valid a false e f = absurd cc

    by : (action : Action) → is_bad u.nodelets action ≡ false → touched u s action < u.nodelets
    by (Fetch at f a) good = owner_of-below a s.place u.nodelets some (valid a (is_valid a u.nodelets) refl good) here
    by (Issue at op a v) good = owner_of-below a s.place u.nodelets some (valid a (is_valid a u.nodelets) refl good) here
    by Turn good = here
    by (Load at a) good = here
    by (Init at a v) good = here
    by Fence good = here
    by (Move at a) good = here
    by Where good = here
    by (Print bytes) good = here
    by (Alloc request) good = here
    by (Spawn d f args hint) good = here
    by (Sync d) good = here
    by (End v) good = here
    by (Trap at kind) good = here

differ : (n j k : ℕ) → k < n → n ≤ j → j ≢ k
differ n j k less far e = absurd (omega arith)

module _ (u : Setting) (some : 1 ≤ u.nodelets) where
  step_zero : (w v : World) (t : Step) → AllWithin u.nodelets w → AreZero u.nodelets w → step u w t ≡ Some v → AreZero u.nodelets v
  step_zero w v (Act name child) within zero e = of_act (acted_by u w name child v e)
    where
      of_act : Acted u w name child v → AreZero u.nodelets v
      of_act h k a far = ⊎_elim
          (λ r. ap (λ (y : World). y.cells k a) r.is ∙ zero k a far)
          (λ d. ap (λ (y : World). y.cells k a) d.shape.is
          ∙ d.shape.cells k a (differ u.nodelets k (touched u h.strand h.action)
          (touched_within u h.strand h.action some (within name h.strand h.found).place (good_action u w h.strand h.action d.good)) far)
          ∙ zero k a far)
          h.outcome
  step_zero w v (Apply name j) within zero e = of_apply (applied_by u w name j v e)
    where
      of_apply : Applied u w name j v → AreZero u.nodelets v
      of_apply h k a far = ⊎_elim
          (λ less. ap (λ (y : World). y.cells k a) h.is ∙ h.cells k a (differ u.nodelets k j less far) ∙ zero k a far)
          (λ past. absurd (let z : h.item ∷ h.items ≡ [] = sym h.first ∙ (within name h.strand h.found).beyond j past in cc))
          (cases_lt j u.nodelets)

  run_zero : (told : List Step) (w v : World) → AllWithin u.nodelets w → AreZero u.nodelets w → run_from u w told ≡ Some v → AreZero u.nodelets v
  run_zero [] w v within zero e = subst (λ (y : World). AreZero u.nodelets y) (some_is w v e) zero
  run_zero (t ∷ told) w v within zero e =
      let h = from_then (λ (x : World). run_from u x told) (step u w t) v e in
      run_zero told h.value v (step_within u w h.value t some within h.was) (step_zero w h.value t within zero h.was) h.next

pub cells_beyond_are_zero : CellsBeyondAreZero
cells_beyond_are_zero on some told w leads k a far =
    run_zero on some told (start on) w (always_within on [] (start on) some refl) (λ k a far. refl) leads k a far

-- ---- the core

module _ (u : Setup) where
  -- nodelets that are not there are as they were before any event
  abbrev pub AreFirst : Core → Type 0
  AreFirst c = (k : ℕ) → u.nodelets ≤ k → c.nodes k ≡ start_node u k

  -- another nodelet stays as it is
  beside : (nodes : ℕ → Node) (node : Node) (j k : ℕ) → k < u.nodelets → u.nodelets ≤ j → nodes j ≡ start_node u j → (if j == k then node else nodes j) ≡ start_node u j
  beside nodes node j k less far first = let other : (j == k) ≡ false = grind (arith, eqb_tells) in ap (λ (t : Bool). if t then node else nodes j) other ∙ first

  pub event_first : (c : Core) (event : Event) (a : After Node Packet) → after (machine_of u) c event ≡ Some a → AreFirst c → AreFirst a.core
  event_first c (Run k q) a e first =
      let h : HasRun u c k q a = happened u c (Run k q) a e in
      subst (λ (y : After Node Packet). AreFirst y.core) h.is (λ j far. beside c.nodes _ j k h.inside far (first j far))
  event_first c (Take from k) a e first =
      let h : HasTaken u c from k a = happened u c (Take from k) a e in
      let l : Linked u.nodelets from k = linked_is u.nodelets from k h.linked in
      subst (λ (y : After Node Packet). AreFirst y.core) h.is (λ j far. beside c.nodes _ j k l.inside far (first j far))

  play_first : (events : List Event) (c : Core) (played : Played Node Packet) → play (machine_of u) events c ≡ Some played → AreFirst c → AreFirst played.core
  play_first [] c played e first = subst (λ (y : Played Node Packet). AreFirst y.core) (some_is _ _ e) first
  play_first (event ∷ events) c played e first =
      let one = from_then (λ (a : After Node Packet). option_map (told_first a.entry) (play (machine_of u) events a.core)) (after (machine_of u) c event) played e in
      let rest = from_map (told_first one.value.entry) (play (machine_of u) events one.value.core) played one.next in
      subst (λ (y : Played Node Packet). AreFirst y.core) rest.is
      (play_first events one.value.core rest.value rest.was (event_first c event one.value one.was first))

  pub beyond_are_first : (events : List Event) (played : Played Node Packet) → IsPlayed u events played → AreFirst played.core
  beyond_are_first events played legal = play_first events (start_core u) played legal (λ k far. refl)

pub cells_are_all : CellsAreAll
cells_are_all u sound some events played legal w leads k a = ⊎_elim
    (λ less. kept.holds.shares.cells k a less ∙ ap (λ (y : World). y.cells k a) same)
    (λ far. ap (λ (v : Node). v.cells a) (beyond_are_first u events played legal k far) ∙ sym (cells_beyond_are_zero (setting_of u) some (steps_of played.told) w leads k a far))
    (cases_lt k u.nodelets)
  where
    kept : KeptBy u sound some (start (setting_of u)) played
    kept = play_kept u sound some events (start_core u) (start (setting_of u)) played (starts u sound some) legal

    same : kept.world ≡ w
    same = some_is kept.world w (sym kept.leads ∙ leads)
