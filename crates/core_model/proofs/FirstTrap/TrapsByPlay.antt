-- Where each event tells its nodelet's first trap, events one after the other do.
use Rattle.std.proofs.Common.{◌≡◌, ℕ, ◌≤◌, List, [], ◌∷◌, Option, Some, None, refl, sym, ap, ◌∙◌, subst, true, filter_map, option_map}
use Rattle.std.specs.Prelude.{slice_get}
use Rattle.std.specs.Option.{option_or, option_map_or}
use Rattle.merge_law.specs.declared.event.Event.{Event}
use Rattle.merge_law.specs.Core.{After, Played, after, told_first, play}
use Rattle.merge_law.proofs.Somes.{from_map, from_then, some_is}
use Rattle.world_model.specs.World.{World}
use Rattle.threadlet_code.specs.Breaches.{is_sound}
use Rattle.core_model.specs.declared.trapped.Trapped.{Trapped as Trap}
use Rattle.core_model.specs.Nodes.{Setup, Node}
use Rattle.core_model.specs.Machine.{Packet, machine_of}
use Rattle.core_model.specs.Core.{Core, setting_of}
use Rattle.core_model.specs.Reached.{Reached, stepped, reached, trapped_at, first_trapped}
use Rattle.core_model.proofs.Invariant.Links.{with_first}
use Rattle.core_model.proofs.Invariant.Statement.{Invariant}
use Rattle.core_model.proofs.Invariant.OtherStrands.{Kept}
use Rattle.core_model.proofs.Invariant.OtherStrands as frame
use Rattle.core_model.proofs.Events.Play.{event_kept}
use Rattle.word_ops.specs.declared.step.Step.{Step}

-- ---- options one after the other

or_then : {A : Type 0} (o p r : Option A) → option_or (option_or o p) r ≡ option_or o (option_or p r)
or_then None p r = refl
or_then (Some x) p r = refl

pub or_none : {A : Type 0} (o : Option A) → option_or o None ≡ o
or_none None = refl
or_none (Some x) = refl

-- the first trap of entries is that of the first, or of the rest
first_or : (k : ℕ) (r : Reached) (rs : List Reached) → first_trapped k (r ∷ rs) ≡ option_or (trapped_at k r) (first_trapped k rs)
first_or k r rs = go (trapped_at k r)
  where
    go : (o : Option Trap) → slice_get (with_first o (filter_map (trapped_at k) rs)) 0 ≡ option_or o (slice_get (filter_map (trapped_at k) rs) 0)
    go None = refl
    go (Some t) = refl

-- the step of an event, as the entries tell of it
pub same_step : (u : Setup) (w v : World) (did : Option Step) → frame.stepped u w did ≡ Some v → stepped (setting_of u) w did ≡ Some v
same_step u w v None e = e
same_step u w v (Some t) e = e

module _ (u : Setup) (sound : is_sound u.code ≡ true) (some : 1 ≤ u.nodelets) (k : ℕ) where
  -- an event tells the first trap at nodelet k
  abbrev pub TellsTrap : Type 0
  TellsTrap = (c : Core) (w : World) → Invariant u c w → (event : Event) (a : After Node Packet) → after (machine_of u) c event ≡ Some a →
      (v : World) → stepped (setting_of u) w a.entry.entry.step ≡ Some v → Invariant u a.core v →
      (a.core.nodes k).first_trap ≡ option_or (c.nodes k).first_trap (trapped_at k (record { entry = a.entry; world = v }))

  pub traps_told : TellsTrap → (events : List Event) (c : Core) (w : World) (played : Played Node Packet) → Invariant u c w → play (machine_of u) events c ≡ Some played →
      (played.core.nodes k).first_trap ≡ option_or (c.nodes k).first_trap (first_trapped k (reached (setting_of u) w played.told))
  traps_told tells [] c w played inv e =
      subst (λ (y : Played Node Packet). (y.core.nodes k).first_trap ≡ option_or (c.nodes k).first_trap (first_trapped k (reached (setting_of u) w y.told))) (some_is _ _ e) (sym (or_none (c.nodes k).first_trap))
  traps_told tells (event ∷ events) c w played inv e =
      let first = from_then (λ (a : After Node Packet). option_map (told_first a.entry) (play (machine_of u) events a.core)) (after (machine_of u) c event) played e in
      let rest = from_map (told_first first.value.entry) (play (machine_of u) events first.value.core) played first.next in
      let kept : Kept u w first.value.core first.value.entry.entry.step = event_kept u sound some c w inv event first.value first.was in
      let leads : stepped (setting_of u) w first.value.entry.entry.step ≡ Some kept.world = same_step u w kept.world first.value.entry.entry.step kept.leads in
      let told : List Reached = reached (setting_of u) kept.world rest.value.told in
      let here : Reached = record { entry = first.value.entry; world = kept.world } in
      subst (λ (y : Played Node Packet). (y.core.nodes k).first_trap ≡ option_or (c.nodes k).first_trap (first_trapped k (reached (setting_of u) w y.told))) rest.is
      (traps_told tells events first.value.core kept.world rest.value kept.holds rest.was
      ∙ ap (λ o. option_or o (first_trapped k told)) (tells c w inv event first.value first.was kept.world leads kept.holds)
      ∙ or_then (c.nodes k).first_trap (trapped_at k here) (first_trapped k told)
      ∙ ap (option_or (c.nodes k).first_trap) (sym (first_or k here told))
      ∙ ap (λ o. option_or (c.nodes k).first_trap (first_trapped k (option_map_or (λ v. record { entry = first.value.entry; world = v } ∷ reached (setting_of u) v rest.value.told) o []))) (sym leads))
