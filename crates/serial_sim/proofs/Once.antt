-- A schedule is determined by its core and its generator.
use Rattle.std.specs.Prelude.{◌%◌, length, slice_get}
use Rattle.std.proofs.Common.{◌≡◌, ◌⊎◌, ℕ, List, [], ◌∷◌, Some, None, refl, sym, ap, ◌∙◌, subst, true, false, ⊎_elim}
use Rattle.rand_pcg.specs.Pcg.{pcg32}
use Rattle.merge_law.specs.declared.event.Event.{Event}
use Rattle.merge_law.specs.Core.{After, after}
use Rattle.core_model.specs.Nodes.{Setup, Node}
use Rattle.core_model.specs.Machine.{Packet, machine_of}
use Rattle.core_model.specs.Core.{Core, legal_events}
use Rattle.serial_sim.specs.Schedule.{picked, has_trapped, IsPicked, OneSchedule}

-- where a schedule has ended no event is picked
ended : {A : Type 0} (u : Setup) (c : Core) (word : ℕ) (event : Event) → (has_trapped u c ≡ true) ⊎ (legal_events u c ≡ []) →
    has_trapped u c ≡ false → picked u c word ≡ Some event → A
ended u c word event over on is = absurd (⊎_elim
    (λ trapped. let z : true ≡ false = sym trapped ∙ on in cc)
    (λ none. let z : None ≡ Some event = sym (ap (λ (events : List Event). slice_get events (word % length events)) none) ∙ is in cc)
    over)

pub one_schedule : OneSchedule
one_schedule u g c [] [] p q = refl
one_schedule u g c [] (event ∷ others) p (on, is, left, leads, rest) = ended u c (pcg32 g).0 event p on is
one_schedule u g c (event ∷ events) [] (on, is, left, leads, rest) q = ended u c (pcg32 g).0 event q on is
one_schedule u g c (event ∷ events) (other ∷ others) (on, is, left, leads, rest) (on', is', left', leads', rest') =
    ap (λ (e : Event). e ∷ events) same ∙ ap (λ (l : List Event). other ∷ l) (one_schedule u (pcg32 g).1 left.core events others rest
    (subst (λ (a : After Node Packet). IsPicked u (pcg32 g).1 a.core others) (sym same_left) rest'))
  where
    same : event ≡ other
    same = let z : Some event ≡ Some other = sym is ∙ is' in cc

    same_left : left ≡ left'
    same_left = let z : Some left ≡ Some left' = sym leads ∙ ap (after (machine_of u) c) same ∙ leads' in cc
