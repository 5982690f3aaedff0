-- Where each event adds to a count of a nodelet what its step adds to a list, events one after the other do.
use Rattle.std.proofs.Common.{◌≡◌, ℕ, ◌+◌, ◌≤◌, List, [], ◌∷◌, ◌++◌, Option, Some, None, ap, subst, arith, Bool, true, cond, count_by, option_map, flat_map}
use Rattle.std.specs.Option.{option_map_or}
use Rattle.std.proofs.lemmas.List.Sums.{sum_by-append}
use Rattle.word_ops.specs.declared.step.Step.{Step}
use Rattle.merge_law.specs.declared.event.Event.{Event}
use Rattle.merge_law.specs.Core.{After, Played, after, told_first, play}
use Rattle.merge_law.specs.Merge.{steps_of}
use Rattle.merge_law.proofs.Somes.{from_map, from_then, some_is}
use Rattle.world_model.specs.World.{World}
use Rattle.world_model.specs.Run.{Transition, transitions}
use Rattle.world_model.specs.Laws.{NamesDiffer}
use Rattle.world_model.proofs.Settling.{step_names}
use Rattle.threadlet_code.specs.Breaches.{is_sound}
use Rattle.core_model.specs.Nodes.{Setup, Node}
use Rattle.core_model.specs.Machine.{Packet, machine_of}
use Rattle.core_model.specs.Core.{Core, setting_of}
use Rattle.core_model.specs.Reached.{stepped}
use Rattle.core_model.proofs.Invariant.Links.{with_first}
use Rattle.core_model.proofs.Invariant.Statement.{Invariant}
use Rattle.core_model.proofs.Invariant.OtherStrands.{Kept}
use Rattle.core_model.proofs.Events.Play.{event_kept}
use Rattle.core_model.proofs.FirstTrap.TrapsByPlay.{same_step}

-- what a step tells, if there is one
abbrev pub told_of : {A : Type 0} → (Step → List A) → Option Step → List A
told_of f None = []
told_of f (Some t) = f t

module _ (u : Setup) (sound : is_sound u.code ≡ true) (some : 1 ≤ u.nodelets) where
  names_after : (w v : World) (did : Option Step) → NamesDiffer w.strands → stepped (setting_of u) w did ≡ Some v → NamesDiffer v.strands
  names_after w v None names e = subst (λ (y : World). NamesDiffer y.strands) (some_is _ _ e) names
  names_after w v (Some t) names e = step_names (setting_of u) w v t names e

  module _ {A : Type 0} (counted : Node → ℕ) (j : ℕ) (told : World → World → Step → List A) (p : A → Bool) where
    -- an event adds to what nodelet j has counted as many as pass in what its step tells
    abbrev pub Adds : Type 0
    Adds = (c : Core) (w : World) → Invariant u c w → NamesDiffer w.strands → (event : Event) (a : After Node Packet) → after (machine_of u) c event ≡ Some a →
        (v : World) → stepped (setting_of u) w a.entry.entry.step ≡ Some v → Invariant u a.core v →
        counted (a.core.nodes j) ≡ counted (c.nodes j) + count_by p (told_of (told w v) a.entry.entry.step)

    -- all that steps tell from a world on
    abbrev pub all_told : World → List Step → List A
    all_told w steps = flat_map (λ (t : Transition). told t.before t.after t.done) (transitions (setting_of u) w steps)

    first_told : (w v : World) (did : Option Step) (steps : List Step) → stepped (setting_of u) w did ≡ Some v → all_told w (with_first did steps) ≡ told_of (told w v) did ++ all_told v steps
    first_told w v None steps e = ap (λ (y : World). all_told y steps) (some_is _ _ e)
    first_told w v (Some t) steps e =
        ap (λ o. flat_map (λ (x : Transition). told x.before x.after x.done) (option_map_or (λ (y : World). record { before = w; done = t; after = y } ∷ transitions (setting_of u) y steps) o [])) e

    pub all_added : Adds → (events : List Event) (c : Core) (w : World) (played : Played Node Packet) → Invariant u c w → NamesDiffer w.strands → play (machine_of u) events c ≡ Some played →
        counted (played.core.nodes j) ≡ counted (c.nodes j) + count_by p (all_told w (steps_of played.told))
    all_added adds [] c w played inv names e =
        subst (λ (y : Played Node Packet). counted (y.core.nodes j) ≡ counted (c.nodes j) + count_by p (all_told w (steps_of y.told))) (some_is _ _ e) (omega arith)
    all_added adds (event ∷ events) c w played inv names e =
        let first = from_then (λ (a : After Node Packet). option_map (told_first a.entry) (play (machine_of u) events a.core)) (after (machine_of u) c event) played e in
        let rest = from_map (told_first first.value.entry) (play (machine_of u) events first.value.core) played first.next in
        let kept : Kept u w first.value.core first.value.entry.entry.step = event_kept u sound some c w inv event first.value first.was in
        let did : Option Step = first.value.entry.entry.step in
        let leads : stepped (setting_of u) w did ≡ Some kept.world = same_step u w kept.world did kept.leads in
        subst (λ (y : Played Node Packet). counted (y.core.nodes j) ≡ counted (c.nodes j) + count_by p (all_told w (steps_of y.told))) rest.is
        (both (told_of (told w kept.world) did) (all_told kept.world (steps_of rest.value.told)) (all_told w (with_first did (steps_of rest.value.told))) _ _ _
        (adds c w inv names event first.value first.was kept.world leads kept.holds)
        (all_added adds events first.value.core kept.world rest.value kept.holds (names_after w kept.world did names leads) rest.was)
        (first_told w kept.world did (steps_of rest.value.told) leads))
      where
        both : (l m all : List A) (a b d : ℕ) → b ≡ a + count_by p l → d ≡ b + count_by p m → all ≡ l ++ m → d ≡ a + count_by p all
        both l m all a b d e f g = let z = sum_by-append (λ y. cond (p y) 1 0) l m in let y = ap (count_by p) g in omega arith
