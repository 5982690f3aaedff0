-- What an event leaves of all other strands, and of parents and children.
use Rattle.std.proofs.Common.{◌≡◌, ℕ, ◌≤◌, List, [], ◌∷◌, Option, Some, None, refl, sym, ap, ◌∙◌, subst, false, ⊎_elim, filter_map, option_and_then}
use Rattle.std.proofs.Math.Path.{fun_ext}
use Rattle.word_ops.specs.declared.name.Name.{Name}
use Rattle.word_ops.specs.declared.ticket.Ticket.{Ticket}
use Rattle.word_ops.specs.declared.step.Step.{Step}
use Rattle.word_ops.specs.declared.step.NodeEvent.{NodeEvent}
use Rattle.word_ops.specs.Naming.{same_name}
use Rattle.merge_law.specs.Machine.{Raw, stamped}
use Rattle.world_model.specs.World.{Status, Strand, World, strand_of, value_of, value_in, main_name}
use Rattle.world_model.specs.Step.{step}
use Rattle.world_model.proofs.Bounds.{AllWithin, step_within}
use Rattle.world_model.proofs.Names.{name_cases}
use Rattle.core_model.specs.Contexts.{Body, context_of}
use Rattle.core_model.specs.Nodes.{Setup, Node}
use Rattle.core_model.specs.Machine.{Packet, machine_of}
use Rattle.core_model.specs.Core.{Core, setting_of}
use Rattle.core_model.specs.Agreement.{SharesAll}
use Rattle.core_model.specs.Laws.{KeepsMainValue}
use Rattle.core_model.proofs.Invariant.Links.{cut, part-kept, with_first, parts, parts-sent, sent-none, plus-none, cut-same, parts-run, parts-take}
use Rattle.core_model.proofs.Invariant.Views.{View, view, arrival_of, item_of, ack_of, result_of, after_run, after_take, run_view, behind, view-after_run, view-after_take, sending-nothing, behind-other}
use Rattle.core_model.proofs.Invariant.Statement.{Known, Relative, relative, result_by, Results, Returns, Kin, results_in, returns_in, relatives_in, IsFresh, Orphans, Invariant}

-- ---- what an event keeps

abbrev pub stepped : Setup → World → Option Step → Option World
stepped u w None = Some w
stepped u w (Some t) = step (setting_of u) w t

-- the step of an event leads to a world that keeps to the core after it
pub record Kept (u : Setup) (w : World) (after : Core) (did : Option Step) : Type 0 where
  pub world : World
  pub leads : stepped u w did ≡ Some world
  pub holds : Invariant u after world

-- an event about one strand leaves this
pub record LeavesRest (c after : Core) (q : Name) : Type 0 where
  pub views : (r : Name) → same_name r q ≡ false → view after r ≡ view c r
  pub results : (k : ℕ) → (after.nodes k).results ≡ (c.nodes k).results
  pub next_number : (k : ℕ) → (after.nodes k).next_number ≡ (c.nodes k).next_number
  pub main_value : (k : ℕ) → (after.nodes k).main_value ≡ (c.nodes k).main_value
  pub returns : (a b : ℕ) (p : Name) (d o : ℕ) → returns_in after a b p d o ≡ returns_in c a b p d o

-- and of the world's strands this
pub record LeavesStrands (w after : World) (q : Name) (s s' : Strand) : Type 0 where
  pub known : strand_of w q ≡ Some s
  pub now : strand_of after q ≡ Some s'
  pub others : (r : Name) → same_name r q ≡ false → strand_of after r ≡ strand_of w r
  pub home : s'.home ≡ s.home
  pub children : s'.children ≡ s.children
  pub status : s'.status ≡ s.status

-- ---- parents and children that are as before

pub kin-same : (T : Name → Option Ticket) (R R' : Results) (D D' : Returns) (F F' : Name → Option Relative) → Kin T R D F → ((k : ℕ) → R' k ≡ R k) →
    ((a b : ℕ) (p : Name) (d o : ℕ) → D' a b p d o ≡ D a b p d o) → ((p : Name) → F' p ≡ F p) → Kin T R' D' F'
kin-same T R R' D D' F F' kin e1 e2 e3 =
    subst (λ (G : Name → Option Relative). Kin T R' D' G) (sym (fun_ext e3))
    (subst (λ (G : Returns). Kin T R' G F) (sym (fun_ext (λ a. fun_ext (λ b. fun_ext (λ p. fun_ext (λ d. fun_ext (λ o. e2 a b p d o)))))))
    (subst (λ (G : Results). Kin T G D F) (sym (fun_ext e1)) kin))

abbrev relative_with : ℕ → List (ℕ × Name) → Status → Relative
relative_with home children status = record { home = home; children = children; status = status }

relatives-same : (w after : World) (q : Name) (s s' : Strand) → LeavesStrands w after q s s' → (p : Name) → relatives_in after p ≡ relatives_in w p
relatives-same w after q s s' l p = ⊎_elim
    (λ is. subst (λ (r : Name). relatives_in after r ≡ relatives_in w r) (sym is)
    (ap relative l.now
    ∙ ap (λ h. Some (relative_with h s'.children s'.status)) l.home
    ∙ ap (λ c. Some (relative_with s.home c s'.status)) l.children
    ∙ ap (λ t. Some (relative_with s.home s.children t)) l.status
    ∙ sym (ap relative l.known)))
    (λ ne. ap relative (l.others p ne.0))
    (name_cases p q)

pub value_by : (w : World) (q : Name) → value_of w q ≡ result_by (relatives_in w q)
value_by w q = go (strand_of w q)
  where
    go : (o : Option Strand) → option_and_then (λ s. value_in s.status) o ≡ result_by (relative o)
    go None = refl
    go (Some s) = refl

-- ---- all together

-- every strand, where only one changed
pub each-but : (u : Setup) (T : Name → Option Ticket) (c after : Core) (w v : World) (q : Name) (s' : Strand) → ((r : Name) → same_name r q ≡ false → view after r ≡ view c r) →
    ((r : Name) → same_name r q ≡ false → strand_of v r ≡ strand_of w r) → strand_of v q ≡ Some s' → Known u T (view after q) q (Some s') →
    ((r : Name) → Known u T (view c r) r (strand_of w r)) → (r : Name) → Known u T (view after r) r (strand_of v r)
each-but u T c after w v q s' views strands now mine old r = ⊎_elim
    (λ is. subst (λ (t : Name). Known u T (view after t) t (strand_of v t)) (sym is) (subst (λ (o : Option Strand). Known u T (view after q) q o) (sym now) mine))
    (λ ne. subst (λ (o : Option Strand). Known u T (view after r) r o) (sym (strands r ne.0)) (subst (λ (y : View). Known u T y r (strand_of w r)) (sym (views r ne.0)) (old r)))
    (name_cases r q)

pub fresh-same : (c after : Core) (w v : World) (q : Name) (s : Strand) → strand_of w q ≡ Some s → ((r : Name) → same_name r q ≡ false → strand_of v r ≡ strand_of w r) →
    ((k : ℕ) → (after.nodes k).next_number ≡ (c.nodes k).next_number) → IsFresh c w → IsFresh after v
fresh-same c after w v q s known others next fresh = record {
  free = λ r above. ⊎_elim
      (λ is. absurd (let none : strand_of w q ≡ None = subst (λ (t : Name). strand_of w t ≡ None) is (fresh.free r (free r above)) in let z : None ≡ Some s = sym none ∙ known in cc))
      (λ ne. others r ne.0 ∙ fresh.free r (free r above))
      (name_cases r q);
  begun = subst (λ m. 1 ≤ m) (sym (next 0)) fresh.begun;
}
  where
    free : (r : Name) → (after.nodes r.nodelet).next_number ≤ r.number → (c.nodes r.nodelet).next_number ≤ r.number
    free r above = subst (λ m. m ≤ r.number) (next r.nodelet) above

pub orphans-same : (T : Name → Option Ticket) (w v : World) (q : Name) (s : Strand) → strand_of w q ≡ Some s → ((r : Name) → same_name r q ≡ false → strand_of v r ≡ strand_of w r) → Orphans T w → Orphans T v
orphans-same T w v q s known others orphans r t is none = ⊎_elim
    (λ rq. orphans r s (ap (strand_of w) rq ∙ known) none)
    (λ ne. orphans r t (sym (others r ne.0) ∙ is) none)
    (name_cases r q)

pub main_value-same : (u : Setup) (c after : Core) (w v : World) → ((k : ℕ) → (after.nodes k).main_value ≡ (c.nodes k).main_value) → value_of v main_name ≡ value_of w main_name →
    KeepsMainValue u c w → KeepsMainValue u after v
main_value-same u c after w v same value keeps = (
  λ k x e. value ∙ keeps.0 k x (sym (same k) ∙ e),
  λ x e. let there = keeps.1 x (sym value ∙ e) in (there.0, there.1, same there.0 ∙ there.2),
)

-- an event that changes one strand, and neither its home nor its children nor its status
pub framed : (u : Setup) (c after : Core) (w v : World) (q : Name) (s s' : Strand) → (inv : Invariant u c w) → LeavesRest c after q → LeavesStrands w v q s s' →
    AllWithin u.nodelets v → SharesAll u after v → Known u inv.tickets (view after q) q (Some s') → Invariant u after v
framed u c after w v q s s' inv rest strands within shares mine = record {
  shares = shares;
  within = within;
  tickets = inv.tickets;
  each = each-but u inv.tickets c after w v q s' rest.views strands.others strands.now mine inv.each;
  kin = kin-same inv.tickets (results_in c) (results_in after) (returns_in c) (returns_in after) (relatives_in w) (relatives_in v) inv.kin rest.results rest.returns (relatives-same w v q s s' strands);
  fresh = fresh-same c after w v q s strands.known strands.others rest.next_number inv.fresh;
  orphans = orphans-same inv.tickets w v q s strands.known strands.others inv.orphans;
  main_ticket = inv.main_ticket;
  main_value = main_value-same u c after w v rest.main_value
      (value_by v main_name ∙ ap result_by (relatives-same w v q s s' strands main_name) ∙ sym (value_by w main_name)) inv.main_value;
}

-- the world after the step of an event stays within the nodelets
pub within-after : (u : Setup) (w v : World) (did : Option Step) → 1 ≤ u.nodelets → AllWithin u.nodelets w → stepped u w did ≡ Some v → AllWithin u.nodelets v
within-after u w v None some within e = subst (λ y. AllWithin u.nodelets y) (let z : w ≡ v = cc in z) within
within-after u w v (Some t) some within e = step_within (setting_of u) w v t some within e

-- ---- runs and takes that are about one strand

-- what an event makes at a nodelet leaves the rest
pub record QuietFor (v : Node) (q : Name) (raw : Raw Node Body) : Type 0 where
  pub contexts : (r : Name) → same_name r q ≡ false → context_of r raw.node.contexts ≡ context_of r v.contexts
  pub counts : (r : Name) → same_name r q ≡ false → raw.node.under_way r ≡ v.under_way r
  pub results : raw.node.results ≡ v.results
  pub next_number : raw.node.next_number ≡ v.next_number
  pub main_value : raw.node.main_value ≡ v.main_value
  pub arrivals : (r : Name) → same_name r q ≡ false → (b : ℕ) → filter_map (arrival_of r) (raw.bodies b) ≡ []
  pub items : (r : Name) → same_name r q ≡ false → (b : ℕ) → filter_map (item_of r) (raw.bodies b) ≡ []
  pub acks : (r : Name) → same_name r q ≡ false → (b : ℕ) → filter_map (ack_of r) (raw.bodies b) ≡ []
  pub returns : (p : Name) (d o : ℕ) (b : ℕ) → filter_map (result_of p d o) (raw.bodies b) ≡ []

module _ (u : Setup) (c : Core) (k stamp : ℕ) (event : ℕ → NodeEvent) (raw : Raw Node Body) (q : Name) (still : QuietFor (c.nodes k) q raw) where
  nothing_for : (v : View) (r : Name) → same_name r q ≡ false → v.stands k ≡ context_of r (c.nodes k).contexts → v.under_way k ≡ (c.nodes k).under_way r → run_view u v r k raw ≡ v
  nothing_for v r ne e1 e2 =
      sending-nothing v k _ _ _ _ _ (still.contexts r ne ∙ sym e1) (still.counts r ne ∙ sym e2)
      (λ b. sent-none (arrival_of r) u.nodelets k raw.bodies b (still.arrivals r ne b))
      (λ b. sent-none (item_of r) u.nodelets k raw.bodies b (still.items r ne b))
      (λ b. sent-none (ack_of r) u.nodelets k raw.bodies b (still.acks r ne b))

  sent_back : (p : Name) (d o : ℕ) (b : ℕ) → parts (result_of p d o) ((stamped (machine_of u) k stamp event raw).sent b) ≡ []
  sent_back p d o b = parts-sent (result_of p d o) u.nodelets k stamp raw.bodies b ∙ sent-none (result_of p d o) u.nodelets k raw.bodies b (still.returns p d o b)

  pub leaves-run : LeavesRest c (after_run u c k stamp event raw) q
  leaves-run = record {
    views = λ r ne. view-after_run u c k stamp event raw r ∙ nothing_for (view c r) r ne refl refl;
    results = part-kept (λ (v : Node). v.results) c.nodes k (stamped (machine_of u) k stamp event raw).node still.results;
    next_number = part-kept (λ (v : Node). v.next_number) c.nodes k (stamped (machine_of u) k stamp event raw).node still.next_number;
    main_value = part-kept (λ (v : Node). v.main_value) c.nodes k (stamped (machine_of u) k stamp event raw).node still.main_value;
    returns = λ a b p d o. parts-run (result_of p d o) c.links k (stamped (machine_of u) k stamp event raw).sent a b
        ∙ plus-none (λ x y. parts (result_of p d o) (c.links x y)) k _ (sent_back p d o) a b;
  }

  pub leaves-take : (origin : ℕ) (first : Packet) (left : List Packet) → c.links origin k ≡ first ∷ left →
      ((r : Name) → same_name r q ≡ false → (arrival_of r first.body ≡ None) × (item_of r first.body ≡ None) × (ack_of r first.body ≡ None)) →
      ((p : Name) (d o : ℕ) → result_of p d o first.body ≡ None) → LeavesRest c (after_take u c origin k left stamp event raw) q
  leaves-take origin first left is about back = record {
    views = λ r ne. view-after_take u c origin k left stamp event raw r
        ∙ nothing_for (behind (view c r) origin k (parts (arrival_of r) left) (parts (item_of r) left) (parts (ack_of r) left)) r ne refl refl
        ∙ behind-other c origin k first left r is (about r ne).0 (about r ne).1 (about r ne).2;
    results = part-kept (λ (v : Node). v.results) c.nodes k (stamped (machine_of u) k stamp event raw).node still.results;
    next_number = part-kept (λ (v : Node). v.next_number) c.nodes k (stamped (machine_of u) k stamp event raw).node still.next_number;
    main_value = part-kept (λ (v : Node). v.main_value) c.nodes k (stamped (machine_of u) k stamp event raw).node still.main_value;
    returns = λ a b p d o. parts-take (result_of p d o) c.links origin k left (stamped (machine_of u) k stamp event raw).sent a b
        ∙ plus-none (cut (λ x y. parts (result_of p d o) (c.links x y)) origin k (parts (result_of p d o) left)) k _ (sent_back p d o) a b
        ∙ cut-same (λ x y. parts (result_of p d o) (c.links x y)) origin k _ (ap (parts (result_of p d o)) is ∙ ap (λ y. with_first y (parts (result_of p d o) left)) (back p d o)) a b;
  }
