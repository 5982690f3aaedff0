-- A strand traps at a nodelet.
use Rattle.std.proofs.Common.{◌≡◌, ℕ, ◌<◌, ◌≤◌, ◌⊎◌, Some, None, refl, sym, ap, ◌∙◌, subst, Bool, true, false, ⊎_elim, ℤ}
use Rattle.std.specs.Prelude.{if◌then◌else◌}
use Rattle.word_ops.specs.declared.place.Pos.{Pos}
use Rattle.word_ops.specs.declared.name.Name.{Name}
use Rattle.word_ops.specs.declared.step.Step.TheVariants.{Act}
use Rattle.word_ops.specs.declared.step.NodeEvent.{NodeEvent}
use Rattle.word_ops.specs.declared.ending.TrapKind.{TrapKind}
use Rattle.word_ops.specs.Naming.{same_name}
use Rattle.merge_law.specs.Machine.{Raw, stamped}
use Rattle.world_model.specs.Action.{Action}
use Rattle.world_model.specs.World as world
use Rattle.world_model.specs.World.{lookup, Status, Live, Trapped, Strand, World, strand_of, value_of, main_name, with_strand, with_trap, value_in}
use Rattle.world_model.specs.Step.{step}
use Rattle.world_model.proofs.Names.{same_name_refl, same_name_is, name_cases, lookup-same, lookup-other}
use Rattle.threadlet_code.specs.Breaches.{is_sound}
use Rattle.threadlet_code.specs.Machine.{State}
use Rattle.core_model.specs.Contexts.{Context, Body, context_of}
use Rattle.core_model.specs.Nodes.{Setup, Node}
use Rattle.core_model.specs.Nodes as node
use Rattle.core_model.specs.Effects.{nothing}
use Rattle.core_model.specs.Runs.{trapped}
use Rattle.core_model.specs.Machine.{machine_of}
use Rattle.core_model.specs.Core.{Core, setting_of}
use Rattle.core_model.proofs.Invariant.ContextsByName.{context_of-without, context_of-without_other}
use Rattle.core_model.proofs.Invariant.Links.{sent, sent-none}
use Rattle.core_model.proofs.Invariant.Views.{View, view, arrival_of, item_of, ack_of, after_run, view-after_run, sending}
use Rattle.core_model.proofs.Invariant.Statement.{Relative, relative, relative_of, result_by, results_in, returns_in, relatives_in, Known, Invariant}
use Rattle.core_model.proofs.Invariant.OtherStrands.{Kept, LeavesRest, leaves-run, each-but, fresh-same, orphans-same, main_value-same, kin-same, value_by, within-after}
use Rattle.core_model.proofs.Actions.StrandAfter.{stood, sending-stood, goes_off}
use Rattle.core_model.proofs.Actions.DueContext.{Before}
use Rattle.core_model.proofs.Actions.StayOrLeave.{KeepsShared, shares-kept}
use Rattle.core_model.proofs.Actions.Grants.{granted-there}
use Rattle.core_model.proofs.Events.EndKin.{Resembles, kin-resembles, with_status, status_was, status_now}

-- the relatives of a world where one strand has another status
pub relatives-status : (w : World) (base : World) (q : Name) (s s' : Strand) → base.strands ≡ w.strands → s'.home ≡ s.home → s'.children ≡ s.children →
    (p : Name) → relatives_in (with_strand base q s') p ≡ with_status (relatives_in w) q (relative_of s) s'.status p
relatives-status w base q s s' strands e1 e2 p = ⊎_elim
    (λ is. subst (λ (r : Name). relatives_in (with_strand base q s') r ≡ with_status (relatives_in w) q (relative_of s) s'.status r) (sym is)
    (ap relative (lookup-same q s' base.strands)
    ∙ ap (λ h. Some (let r : Relative = record { home = h; children = s'.children; status = s'.status } in r)) e1
    ∙ ap (λ c. Some (let r : Relative = record { home = s.home; children = c; status = s'.status } in r)) e2
    ∙ sym (ap (λ b. if b then Some (let r : Relative = record { home = s.home; children = s.children; status = s'.status } in r) else relatives_in w q) (same_name_refl q))))
    (λ ne. ap relative (lookup-other p q s' base.strands ne.0 ∙ ap (λ l. lookup p l) strands)
    ∙ sym (ap (λ b. if b then Some (let r : Relative = record { home = s.home; children = s.children; status = s'.status } in r) else relatives_in w p) ne.0))
    (name_cases p q)

module _ (u : Setup) (sound : is_sound u.code ≡ true) (c : Core) (w : World) (inv : Invariant u c w) (k : ℕ) (q : Name) (x : Context) (state : State) (action : Action) (b : Before u c w inv k q x state action) (stamp : ℕ) (event : ℕ → NodeEvent) where
  abbrev v : Node
  v = c.nodes k

  -- v' is the node with more counted
  pub trap_kept : (v' : Node) (count : ℕ) (kind : TrapKind) (at : Pos) (place : ℕ) → 1 ≤ u.nodelets → v'.contexts ≡ v.contexts → v'.under_way ≡ v.under_way → v'.results ≡ v.results → v'.next_number ≡ v.next_number →
      v'.main_value ≡ v.main_value → KeepsShared v v' → (place ≡ b.s.place) ⊎ ((place ≡ k) × ((b.s.place ≡ k) ⊎ ((view c q).under_way b.s.place ≡ 0))) →
      step (setting_of u) w (Act q None) ≡ Some (with_strand w q (with_trap b.s place kind at)) →
      Kept u w (after_run u c k stamp event (trapped v' x.name count kind at)) (trapped v' x.name count kind at).step
  trap_kept v' count kind at place some e1 e2 e3 e4 e5 keeps how is = record {
    world = world';
    leads = leads;
    holds = record {
      shares = shares-kept u c after world' k (stamped (machine_of u) k stamp event raw).node refl keeps' (record { cells = inv.shares.cells; granted = granted; cursors = inv.shares.cursors; pieces = inv.shares.pieces; turns = inv.shares.turns });
      within = within-after u w world' raw.step some inv.within leads;
      tickets = inv.tickets;
      each = each-but u inv.tickets c after w world' q s' rest.views others now mine inv.each;
      kin = kin-same inv.tickets (results_in c) (results_in after) (returns_in c) (returns_in after) (with_status (relatives_in w) q (relative_of b.s) (Trapped kind at)) (relatives_in world')
          (kin-resembles inv.tickets (results_in c) (returns_in c) (relatives_in w) _ inv.kin resembles) rest.results rest.returns (relatives-status w w q b.s s' refl refl refl);
      fresh = fresh-same c after w world' q b.s b.known others rest.next_number inv.fresh;
      orphans = orphans-same inv.tickets w world' q b.s b.known others inv.orphans;
      main_ticket = inv.main_ticket;
      main_value = main_value-same u c after w world' rest.main_value (value_by world' main_name ∙ ap result_by (relatives-status w w q b.s s' refl refl refl main_name) ∙ result main_name ∙ sym (value_by w main_name)) inv.main_value;
    };
  }
    where
      raw : Raw Node Body
      raw = trapped v' x.name count kind at

      after : Core
      after = after_run u c k stamp event raw

      s' : Strand
      s' = with_trap b.s place kind at

      world' : World
      world' = with_strand w q s'

      granted : (j : ℕ) (a : ℤ) → j < u.nodelets → node.is_granted u.rules (c.nodes j) a ≡ world.is_granted u.rules world' j a
      granted j a less = inv.shares.granted j a less ∙ granted-there u.rules w world' j a refl

      keeps' : KeepsShared v (stamped (machine_of u) k stamp event raw).node
      keeps' = record { cells = keeps.cells; granted = keeps.granted; cursors = keeps.cursors; pieces = keeps.pieces; served = keeps.served }

      leads : step (setting_of u) w (Act x.name None) ≡ Some world'
      leads = ap (λ (r : Name). step (setting_of u) w (Act r None)) b.here.name ∙ is

      now : strand_of world' q ≡ Some s'
      now = lookup-same q s' w.strands

      others : (r : Name) → same_name r q ≡ false → strand_of world' r ≡ strand_of w r
      others r ne = lookup-other r q s' w.strands ne

      rest : LeavesRest c after q
      rest = leaves-run u c k stamp event raw q (record {
        contexts = λ r ne. context_of-without_other r x.name v'.contexts (ap (same_name r) b.here.name ∙ ne) ∙ ap (context_of r) e1;
        counts = λ r ne. ap (λ f. f r) e2;
        results = e3;
        next_number = e4;
        main_value = e5;
        arrivals = λ r ne d. refl;
        items = λ r ne d. refl;
        acks = λ r ne d. refl;
        returns = λ p d o a. refl;
      })

      -- a strand that trapped has no value, as one that lives
      result : (p : Name) → result_by (with_status (relatives_in w) q (relative_of b.s) (Trapped kind at) p) ≡ result_by (relatives_in w p)
      result p = go (same_name p q) refl
        where
          go : (t : Bool) → same_name p q ≡ t → result_by (if t then Some (record (relative_of b.s) { status = Trapped kind at }) else relatives_in w p) ≡ result_by (relatives_in w p)
          go true e = sym (ap (λ r. result_by (relatives_in w r)) (same_name_is p q e) ∙ ap (λ o. result_by (relative o)) b.known ∙ ap value_in b.here.live)
          go false e = refl

      over : Trapped kind at ≡ Live → b.s.status ≡ Live
      over e = b.here.live

      resembles : Resembles inv.tickets (relatives_in w) (with_status (relatives_in w) q (relative_of b.s) (Trapped kind at))
      resembles = record {
        was = status_was (relatives_in w) q (relative_of b.s) (ap relative b.known) (Trapped kind at) over;
        now = status_now (relatives_in w) q (relative_of b.s) (ap relative b.known) (Trapped kind at) over;
        result = λ p t e. result p;
      }

      gone : context_of q raw.node.contexts ≡ None
      gone = subst (λ (r : Name). context_of r raw.node.contexts ≡ None) b.here.name (context_of-without x.name v'.contexts)

      view_is : view after q ≡ stood u inv.tickets (view c q) k None
      view_is =
          view-after_run u c k stamp event raw q
          ∙ ap (λ y. sending (view c q) k y (raw.node.under_way q) (sent (arrival_of q) u.nodelets k raw.bodies) (sent (item_of q) u.nodelets k raw.bodies) (sent (ack_of q) u.nodelets k raw.bodies)) gone
          ∙ sending-stood u inv.tickets (view c q) k None _ _ _ _ (ap (λ f. f q) e2)
          (λ d. sent-none (arrival_of q) u.nodelets k nothing d refl) (λ d. sent-none (item_of q) u.nodelets k nothing d refl) (λ d. sent-none (ack_of q) u.nodelets k nothing d refl)

      mine : Known u inv.tickets (view after q) q (Some s')
      mine = subst (λ (y : View). Known u inv.tickets y q (Some s')) (sym view_is) (goes_off u inv.tickets (view c q) q b.s k x b.here s' tt refl how)
