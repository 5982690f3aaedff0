-- No event meets an instruction, an operand, a slot or a target that is missing.
use Rattle.std.proofs.Common.{◌≡◌, ℕ, zero, suc, ◌∷◌, Some, refl, sym, ap, ◌∙◌, subst, true, ⊎_elim, option_and_then}
use Rattle.merge_law.proofs.Somes.{some_is}
use Rattle.threadlet_code.specs.declared.code.FuncCode.{FuncCode}
use Rattle.threadlet_code.specs.declared.code.Code.{Code}
use Rattle.threadlet_code.specs.Breaches.{is_sound}
use Rattle.threadlet_code.specs.Naming.{slot_named, named}
use Rattle.threadlet_code.specs.Machine.{Frame, State, Next, goes, asks, stops, stuck, step}
use Rattle.threadlet_code.specs.Fitting.{AreSlots, FitsFrame, Fits}
use Rattle.threadlet_code.proofs.FitLaws.{never_stuck, slots_are_there, silent_fits}
use Rattle.world_model.specs.World.{strand_of}
use Rattle.world_model.specs.Run.{start}
use Rattle.core_model.specs.Core.{Core, start_core, setting_of}
use Rattle.core_model.specs.Strands.{led_to, silently, MissesNothing, IsContextOf, EventsMissNothing}
use Rattle.core_model.proofs.Invariant.Views.{view}
use Rattle.core_model.proofs.Invariant.StandingStrand.{Present, present}
use Rattle.core_model.proofs.Packets.TravellingContexts.{travels}
use Rattle.core_model.proofs.Events.Play.{KeptBy, play_kept}
use Rattle.core_model.proofs.Invariant.Start.{starts}

module _ (code : Code) (sound : is_sound code ≡ true) where
  -- silent instructions lead to states that fit
  fits_silently : (n : ℕ) (state after : State) → Fits code state → silently n code state ≡ Some after → Fits code after
  fits_silently zero state after fits e = subst (λ (s : State). Fits code s) (some_is state after e) fits
  fits_silently (suc n) state after fits e = go (step code state) refl e (λ s f g. fits_silently n s after f g)
    where
      go : (next : Next) → step code state ≡ next → option_and_then (λ s. silently n code s) (led_to next) ≡ Some after →
          ((s : State) → Fits code s → silently n code s ≡ Some after → Fits code after) → Fits code after
      go (goes s) f g ih = ih s (silent_fits code sound state s fits f) g
      go (asks action resume) f g ih = absurd cc
      go (stops action) f g ih = absurd cc
      go stuck f g ih = absurd cc

  -- the frame that runs, of a state that fits
  running : (state : State) (frame : Frame) (frames : State) → Fits code state → state ≡ frame ∷ frames → FitsFrame code 0 frame
  running state frame frames fits e = let h : Fits code (frame ∷ frames) = subst (λ (s : State). Fits code s) e fits in h.0

  misses_nothing : (state : State) → Fits code state → MissesNothing code state
  misses_nothing state fits = record {
    next = λ e. never_stuck code sound state fits e;
    slot = λ frame frames f e known slot is.
        let fit : FitsFrame code 0 frame = running state frame frames fits e in
        let same : f ≡ fit.f = some_is f fit.f (sym known ∙ fit.known) in
        slots_are_there code sound frame fit slot (ap (λ (g : FuncCode). named slot_named g frame.at) (sym same) ∙ is);
    targets = λ frame frames e.
        let fit : FitsFrame code 0 frame = running state frame frames fits e in
        subst (λ (n : ℕ). AreSlots n frame.targets) (sym fit.slots) fit.targets;
  }

pub events_miss_nothing : EventsMissNothing
events_miss_nothing u sound some events played legal x is n state e = misses_nothing u.code sound state (fits_silently u.code sound n x.state state (fits is) e)
  where
    kept : KeptBy u sound some (start (setting_of u)) played
    kept = play_kept u sound some events (start_core u) (start (setting_of u)) played (starts u sound some) legal

    c : Core
    c = played.core

    fits : IsContextOf c x → Fits u.code x.state
    fits h = ⊎_elim
        (λ at. let p : Present u kept.holds.tickets (view c at.1) at.1 (strand_of kept.world at.1) at.0 x =
        present u kept.holds.tickets (view c at.1) at.1 (strand_of kept.world at.1) at.0 x (kept.holds.each at.1) at.2 in p.here.state.fits)
        (λ way. (travels u c kept.world kept.holds way.0 way.1 way.2 x way.3 way.4).state.fits)
        h
