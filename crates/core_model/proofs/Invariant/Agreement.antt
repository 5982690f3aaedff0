-- What a core and a world have in common follows from the invariant.
use Rattle.std.proofs.Common.{◌≡◌, inl, List, [], ◌∷◌, Option, Some, None, refl, sym, ap, ◌∙◌, subst, true, false, ⊎_elim, filter_map}
use Rattle.std.specs.Prelude.{if◌then◌else◌}
use Rattle.std.proofs.lemmas.Bool.{eq-eqb}
use Rattle.word_ops.specs.declared.name.Name.{Name}
use Rattle.world_model.specs.Action.{Action, Turn}
use Rattle.world_model.specs.Sight.{Sight, place_after}
use Rattle.world_model.specs.World.{Strand, World, strand_of}
use Rattle.threadlet_code.specs.Breaches.{is_sound}
use Rattle.threadlet_code.specs.Machine.{State, Next, goes, asks, stops, stuck}
use Rattle.threadlet_code.specs.Running.{due, halt}
use Rattle.threadlet_code.proofs.FitLaws.{never_stuck}
use Rattle.threadlet_code.proofs.Halting.{nothing_silent_is_due}
use Rattle.core_model.specs.Contexts.{Body, Arrival, Issued, Ack, Returned}
use Rattle.core_model.specs.Nodes.{Setup}
use Rattle.core_model.specs.Runs.{action_in}
use Rattle.core_model.specs.Machine.{Packet}
use Rattle.core_model.specs.Core.{Core, setting_of}
use Rattle.core_model.specs.Agreement.{due_here, ContextsAreOf, pending_in, PendingTravels}
use Rattle.core_model.proofs.Invariant.Links.{with_first, parts}
use Rattle.core_model.proofs.Invariant.Views.{view, item_of}
use Rattle.core_model.proofs.Invariant.StrandStates.{IsStateOf, halted_is, halted_step, due_is}
use Rattle.core_model.proofs.Invariant.Statement.{Parcels, IsAway, Known, Invariant}
use Rattle.core_model.proofs.Invariant.StandingStrand.{Present, present}

-- a strand of verified code is always due an action
pub always_due : (u : Setup) → is_sound u.code ≡ true → (s : Strand) (state : State) → IsStateOf u.code s state → (action : Action) × (action_in (due u.code state) ≡ Some action)
always_due u sound s state is = by (due u.code state) refl
  where
    by : (next : Next) → due u.code state ≡ next → (action : Action) × (action_in next ≡ Some action)
    by (goes after) e = absurd (nothing_silent_is_due u.code sound state after e)
    by stuck e = absurd (never_stuck u.code sound (halt u.code state).state (halted_is u.code sound s state is).fits (halted_step u.code sound state ∙ e))
    by (asks action resume) e = (action, refl)
    by (stops action) e = (action, refl)

module _ (u : Setup) (sound : is_sound u.code ≡ true) (c : Core) (w : World) (inv : Invariant u c w) where
  pub contexts_are_of : ContextsAreOf u (setting_of u) c w
  contexts_are_of k name x found = (
    record {
      strand = p.s;
      known = ap (strand_of w) p.here.name ∙ p.known;
      live = p.here.live;
      place = p.here.place;
      due_same = let a = always_due u sound p.s x.state p.here.state in a.1 ∙ sym (due_is u sound p.s x.state a.0 p.here.state p.here.live a.1);
    },
    λ turn. p.here.place ∙ at_turn turn,
  )
    where
      p : Present u inv.tickets (view c name) name (strand_of w name) k x
      p = present u inv.tickets (view c name) name (strand_of w name) k x (inv.each name) found

      y : Sight
      y = record { here = p.s.place; home = p.s.home; clear = true; served = 0; childless = λ d. false; all_ended = λ d. false; late = None }

      at_turn : due_here u x ≡ Some Turn → p.s.place ≡ k
      at_turn turn = ⊎_elim (λ e. e)
          (λ (away : IsAway u (view c name) p.s x k).
          let both : Some away.action ≡ Some Turn = sym away.next ∙ turn in
          let same : away.action ≡ Turn = cc in
          sym (ap (place_after u.nodelets y) same) ∙ away.goes y refl (inl refl) (λ d f. refl))
          p.here.bound

  pending-is : (name : Name) (ps : List Packet) → parts (item_of name) ps ≡ filter_map (pending_in name) ps
  pending-is name [] = refl
  pending-is name (p ∷ ps) = ap (with_first (item_of name p.body)) (pending-is name ps) ∙ ap (λ o. with_first o (filter_map (pending_in name) ps)) (by p.body)
    where
      by : (body : Body) → item_of name body ≡ pending_in name (record { stamp = p.stamp; body = body })
      by (Arrival x) = refl
      by (Issued q item) = refl
      by (Ack q late) = refl
      by (Returned t value) = refl

  pub pending_travels : PendingTravels c w
  pending_travels name s k is =
      sym (ap (λ t. if t then s.pending k else []) (eq-eqb s.place s.place refl)) ∙ sym (parcels.items s.place k) ∙ pending-is name (c.links s.place k)
    where
      parcels : Parcels u.nodelets (view c name) s.place s.pending
      parcels = (subst (λ (o : Option Strand). Known u inv.tickets (view c name) name o) is (inv.each name)).0
