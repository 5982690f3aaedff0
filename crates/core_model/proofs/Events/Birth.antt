-- A child is born where its parent stands, or is sent to where it is born.
use Rattle.std.proofs.Common.{◌≡◌, ℕ, suc, ◌<◌, ◌≤◌, List, [], ◌∷◌, ◌++◌, length, Option, Some, None, refl, sym, ap, ◌∙◌, subst, arith, Bool, true, false, ⊎_elim, ℤ, is_some, option_and_then, length-append}
use Rattle.std.specs.Prelude.{if◌then◌else◌, ◌==◌}
use Rattle.std.proofs.lemmas.Bool.{eqb-true, eq-eqb}
use Rattle.std.proofs.lemmas.List.{append-nil}
use Rattle.word_ops.specs.declared.name.Name.{Name}
use Rattle.word_ops.specs.declared.ticket.Ticket.{Ticket}
use Rattle.word_ops.specs.declared.step.Step.TheVariants.{Act}
use Rattle.word_ops.specs.declared.step.NodeEvent.{NodeEvent}
use Rattle.word_ops.specs.Naming.{same_name}
use Rattle.merge_law.specs.Machine.{Raw, stamped}
use Rattle.world_model.specs.Action.{Action, Spawn, Hint}
use Rattle.world_model.specs.Meaning.{children_after}
use Rattle.world_model.specs.World.{Strand, World, Live, Status, strand_of, value_of, value_in, main_name, with_strand, with_at, children_at}
use Rattle.world_model.specs.Effect as world_effect
use Rattle.world_model.specs.Effect.{newborn, birthplace}
use Rattle.world_model.specs.Step.{step}
use Rattle.world_model.proofs.Bounds.{AllWithin}
use Rattle.world_model.proofs.Names.{same_name_refl, same_name_is, name_cases, lookup-same, lookup-other}
use Rattle.threadlet_code.specs.Breaches.{is_sound}
use Rattle.threadlet_code.specs.Machine.{State, asks}
use Rattle.threadlet_code.specs.Machine as code
use Rattle.threadlet_code.specs.Running.{due, owed}
use Rattle.threadlet_code.proofs.FitLaws.{children_fit}
use Rattle.core_model.specs.Contexts.{Context, Body, context_of}
use Rattle.core_model.specs.Nodes.{Setup, Node, bore_at}
use Rattle.core_model.specs.Effects.{Effect, next_name, child_of, counted_birth}
use Rattle.core_model.specs.Runs.{went_on}
use Rattle.core_model.specs.Machine.{machine_of}
use Rattle.core_model.specs.Core.{Core, setting_of}
use Rattle.core_model.proofs.Invariant.Links.{part-kept, part-with_at}
use Rattle.core_model.proofs.Invariant.Sums.{total-zero}
use Rattle.core_model.proofs.Invariant.LatePositions.{all_lates-none}
use Rattle.core_model.proofs.Invariant.Views.{View, view, arrival_of, item_of, ack_of, result_of, after_run}
use Rattle.core_model.proofs.Invariant.StrandStates.{IsStateOf, answered_is, begun_is}
use Rattle.core_model.proofs.Invariant.Statement.{Spot, stands_by, travels_by, Relative, relative, relative_of, results_in, returns_in, relatives_in, IsNothing, IsBound, ByStatus, Known, Invariant}
use Rattle.core_model.proofs.Invariant.OtherStrands.{Kept, main_value-same, kin-same, within-after}
use Rattle.core_model.proofs.Actions.DueContext.{Before, seen_here, settled}
use Rattle.core_model.proofs.Actions.Ways.{IsDone}
use Rattle.core_model.proofs.Actions.DoneOrRefused.{InWorld, in_world, acts_here}
use Rattle.core_model.proofs.Actions.StayOrLeave.{KeepsShared}
use Rattle.core_model.proofs.Actions.WordActions.{shares-as, moved-part}
use Rattle.core_model.proofs.Events.QuietActions.{same_cells, same_granted, same_cursors, same_pieces, same_turns}
use Rattle.core_model.proofs.Events.End.{returns-same}
use Rattle.core_model.proofs.Events.SpawnKin.{more_at, with_birth, with_ticket, kin-born}
use Rattle.core_model.proofs.Actions.NothingPending.{AreNone, known-ticket, resumed-keeps, resumed-view, resumed-known}

-- a strand that has just been born, of which there was nothing, in one spot
pub born_known : (u : Setup) (T : Name → Option Ticket) (v v' : View) (child : Context) (s : Strand) (spot : Spot) → IsNothing v → s.status ≡ Live → ((j : ℕ) → s.pending j ≡ []) → s.late ≡ None → child.home ≡ s.home → child.place ≡ s.place → child.late ≡ None →
    child.ticket ≡ T child.name → IsStateOf u.code s child.state → ((j : ℕ) → v'.stands j ≡ stands_by spot child j) → ((a d : ℕ) → v'.travels a d ≡ travels_by spot child a d) → ((a d : ℕ) → v'.items a d ≡ v.items a d) →
    ((a d : ℕ) → v'.acks a d ≡ v.acks a d) → ((j : ℕ) → v'.under_way j ≡ v.under_way j) → (IsNothing v → IsBound u v' s child spot) → Known u T v' child.name (Some s)
born_known u T v v' child s spot none live pending prompt home place late ticket state stands travels items acks counts bound = (
  record {
    items = λ a d. items a d ∙ none.items a d ∙ empty (a == s.place) d;
    acks = λ a d f. acks a d ∙ none.acks a d;
    counted = counts s.place ∙ none.under_way s.place ∙ sym (total-zero u.nodelets _ (λ d. let g = ap length (pending d) in let h = ap length (acks d s.place ∙ none.acks d s.place) in omega arith));
    uncounted = λ a f. counts a ∙ none.under_way a;
    beyond = λ d le. (pending d, acks d s.place ∙ none.acks d s.place);
  },
  subst (λ (t : Status). ByStatus u T v' child.name s t) (sym live) (record {
    x = child;
    spot = spot;
    stands = stands;
    travels = travels;
    name = refl;
    home = home;
    place = place;
    ticket = ticket;
    state = state;
    late = prompt ∙ sym (all_lates-none u.nodelets _ child.late (λ d. acks d s.place ∙ none.acks d s.place) ∙ late);
    bound = bound none;
  }),
)
  where
    empty : (t : Bool) (d : ℕ) → [] ≡ (if t then s.pending d else [])
    empty true d = sym (pending d)
    empty false d = refl

-- a child's birth is counted, and no more
counted-birth-part : {A : Type 0} (f : Node → A) → ((k : ℕ) (y : Node) → f (bore_at k y) ≡ f y) → (hint : Option Hint) (k : ℕ) (y : Node) → f (counted_birth hint k y) ≡ f y
counted-birth-part f same None k y = refl
counted-birth-part f same (Some hint) k y = same k y

module _ (u : Setup) (sound : is_sound u.code ≡ true) (c : Core) (w : World) (inv : Invariant u c w) (k : ℕ) (q : Name) (x : Context) (state : State) (d function : ℕ) (args : List ℤ) (hint : Option Hint)
    (b : Before u c w inv k q x state (Spawn d function args hint)) (stamp : ℕ) (event : ℕ → NodeEvent) (count : ℕ) (some : 1 ≤ u.nodelets)
    (resume : List ℤ → State) (is_due : due u.code state ≡ asks (Spawn d function args hint) resume) (is_next : code.step u.code state ≡ asks (Spawn d function args hint) resume)
    (free : Bool) (done : IsDone u.nodelets u.turns (seen_here u sound c w inv k q x state (Spawn d function args hint) b) (Spawn d function args hint) free) where
  abbrev v : Node
  v = c.nodes k

  abbrev action : Action
  action = Spawn d function args hint

  abbrev pub name : Name
  name = next_name k v

  abbrev there : ℕ
  there = birthplace u.nodelets k hint

  abbrev pub child : Context
  child = child_of u k v x state d function args there

  -- the node with the birth counted
  abbrev pub v1 : Node
  v1 = counted_birth hint there (record v { next_number = suc v.next_number })

  pub counted : {A : Type 0} (f : Node → A) → ((j : ℕ) (y : Node) → f (bore_at j y) ≡ f y) → f v1 ≡ f (record v { next_number = suc v.next_number })
  counted f same = counted-birth-part f same hint there (record v { next_number = suc v.next_number })

  pub new : strand_of w name ≡ None
  new = inv.fresh.free name (let z : v.next_number ≤ v.next_number = omega arith in z)

  pub apart : same_name name q ≡ false
  apart = go (same_name name q) refl
    where
      go : (t : Bool) → same_name name q ≡ t → t ≡ false
      go false f = refl
      go true f = absurd (let z : None ≡ Some b.s = sym new ∙ ap (strand_of w) (same_name_is name q f) ∙ b.known in cc)

  turned : same_name q name ≡ false
  turned = ⊎_elim (λ e. absurd (let z : true ≡ false = sym (ap (λ r. same_name name r) e ∙ same_name_refl name) ∙ apart in cc)) (λ h. h.0) (name_cases q name)

  abbrev baby : Strand
  baby = newborn function args there

  abbrev s' : Strand
  s' = record b.s { place = k; children = b.s.children ++ (d, name) ∷ []; answers = b.s.answers ++ [] ∷ [] }

  abbrev world' : World
  world' = with_strand (with_strand w name baby) q s'

  i : InWorld u sound c w inv k q x state action b
  i = in_world u sound c w inv k q x state action b free done

  leads : step (setting_of u) w (Act x.name (Some name)) ≡ Some world'
  leads =
      ap (λ (r : Name). step (setting_of u) w (Act r (Some name))) b.here.name
      ∙ acts_here u sound c w inv k q x state action b (Some name) free done
      ∙ ap (λ t. if t then None else Some (made b.s.place)) (ap is_some new)
      ∙ ap (λ p. Some (made p)) (settled u sound c w inv k q x state action b (λ y. refl))
    where
      made : ℕ → World
      made p = world_effect.goes_on (with_strand w name (newborn function args (birthplace u.nodelets p hint))) q (world_effect.with_child b.s d name) p []

  within : AllWithin u.nodelets world'
  within = within-after u w world' (Some (Act x.name (Some name))) some inv.within leads

  now : strand_of world' q ≡ Some s'
  now = lookup-same q s' (with_strand w name baby).strands

  now-child : strand_of world' name ≡ Some baby
  now-child = lookup-other name q s' (with_strand w name baby).strands apart ∙ lookup-same name baby w.strands

  others : (r : Name) → same_name r q ≡ false → same_name r name ≡ false → strand_of world' r ≡ strand_of w r
  others r ne nc = lookup-other r q s' (with_strand w name baby).strands ne ∙ lookup-other r name baby w.strands nc

  pub inside : there < u.nodelets
  inside = (within name baby now-child).home

  abbrev own : Ticket
  own = record { parent = q; home = b.s.home; depth = d; order = length (children_at d b.s.children) }

  abbrev pub T' : Name → Option Ticket
  T' = with_ticket inv.tickets name own

  T'-other : (r : Name) → same_name r name ≡ false → T' r ≡ inv.tickets r
  T'-other r ne = ap (λ t. if t then Some own else inv.tickets r) ne

  pub ticket-is : child.ticket ≡ T' name
  ticket-is =
      ap (λ (r : Name). let t : Ticket = record { parent = r; home = x.home; depth = d; order = owed d state } in Some t) b.here.name
      ∙ ap (λ h. let t : Ticket = record { parent = q; home = h; depth = d; order = owed d state } in Some t) b.here.home
      ∙ ap (λ o. let t : Ticket = record { parent = q; home = b.s.home; depth = d; order = o } in Some t) (b.is.owes d)
      ∙ sym (ap (λ t. if t then Some own else inv.tickets name) (same_name_refl name))

  pub state-is : IsStateOf u.code baby child.state
  state-is = let f = children_fit u.code sound state d function args hint resume b.is.fits is_next in begun_is u.code sound baby f.0 f.1 f.2 refl refl

  relatives-born : (p : Name) → relatives_in world' p ≡ with_birth (relatives_in w) q (relative_of b.s) d name there p
  relatives-born p = ⊎_elim
      (λ is. ap (relatives_in world') is ∙ ap relative now
      ∙ sym (ap (with_birth (relatives_in w) q (relative_of b.s) d name there) is ∙ ap (λ t. if t then Some (record (relative_of b.s) { children = b.s.children ++ (d, name) ∷ [] }) else side q) (same_name_refl q)))
      (λ ne. ⊎_elim
      (λ is. ap (relatives_in world') is ∙ ap relative now-child
      ∙ sym (ap (with_birth (relatives_in w) q (relative_of b.s) d name there) is ∙ ap (λ t. if t then Some (record (relative_of b.s) { children = b.s.children ++ (d, name) ∷ [] }) else side name) apart
      ∙ ap (λ t. if t then Some (relative_of baby) else relatives_in w name) (same_name_refl name)))
      (λ nc. ap relative (others p ne.0 nc.0)
      ∙ sym (ap (λ t. if t then Some (record (relative_of b.s) { children = b.s.children ++ (d, name) ∷ [] }) else side p) ne.0 ∙ ap (λ t. if t then Some (relative_of baby) else relatives_in w p) nc.0))
      (name_cases p name))
      (name_cases p q)
    where
      side : Name → Option Relative
      side r = if same_name r name then Some (relative_of baby) else relatives_in w r

  owes_more : (f : ℕ) → children_after action (λ g. length (children_at g b.s.children)) f ≡ length (children_at f s'.children)
  owes_more f = go (f == d) refl (d == f) refl ∙ sym (ap length (more_at f d name b.s.children))
    where
      go : (t : Bool) → (f == d) ≡ t → (r : Bool) → (d == f) ≡ r → (if t then suc (length (children_at f b.s.children)) else length (children_at f b.s.children)) ≡ length (children_at f b.s.children ++ (if r then name ∷ [] else []))
      go true g true h = let z = length-append (children_at f b.s.children) (name ∷ []) in omega arith
      go false g false h = ap length (sym (append-nil (children_at f b.s.children)))
      go true g false h = absurd (let z : (d == f) ≡ true = eq-eqb _ _ (sym (eqb-true _ _ g)) in let y : true ≡ false = sym z ∙ h in cc)
      go false g true h = absurd (let z : (f == d) ≡ true = eq-eqb _ _ (sym (eqb-true _ _ h)) in let y : true ≡ false = sym z ∙ g in cc)

  -- whatever the nodelet does with the child
  module _ (e : Effect) (is_child : e.child ≡ Some name) (answer : e.answer ≡ []) (contexts : (r : Name) → same_name r name ≡ false → context_of r e.node.contexts ≡ context_of r v.contexts) (counts : e.node.under_way ≡ v.under_way)
      (results : e.node.results ≡ v.results) (next : e.node.next_number ≡ suc v.next_number) (main : e.node.main_value ≡ v.main_value) (keeps : KeepsShared v e.node)
      (arrivals : (r : Name) → same_name r name ≡ false → AreNone (arrival_of r) e.sends) (items : (r : Name) → AreNone (item_of r) e.sends) (acks : (r : Name) → AreNone (ack_of r) e.sends)
      (returns : (p : Name) (f o : ℕ) → AreNone (result_of p f o) e.sends) where
    abbrev raw : Raw Node Body
    raw = went_on k x count resume e

    abbrev after : Core
    after = after_run u c k stamp event raw

    abbrev N : Node
    N = (stamped (machine_of u) k stamp event raw).node

    other : (r : Name) → same_name r q ≡ false → same_name r x.name ≡ false
    other r ne = ap (same_name r) b.here.name ∙ ne

    mine : Known u inv.tickets (view after q) q (Some s')
    mine = resumed-known u inv.tickets c k x count resume e stamp event q b.s s' b.here i.how (ap (λ f. f q) counts) (arrivals q turned) (items q) (acks q) (record {
      status = refl;
      home = refl;
      place = refl;
      pending = λ a. sym (append-nil (b.s.pending a));
      late = refl;
      state = answered_is u.code sound b.s s' state action resume e.answer is_due is_next b.is refl refl (ap (λ y. b.s.answers ++ y ∷ []) (sym answer)) owes_more;
    })

    number : (j : ℕ) → (after.nodes j).next_number ≡ with_at (λ h. (c.nodes h).next_number) k (suc v.next_number) j
    number j = part-with_at (λ (y : Node). y.next_number) c.nodes k N j
        ∙ ap (λ m. with_at (λ h. (c.nodes h).next_number) k m j) (moved-part (λ (y : Node). y.next_number) k x.place e.node (λ t. refl) ∙ next)

    grows : (j : ℕ) → (c.nodes j).next_number ≤ (after.nodes j).next_number
    grows j = go (j == k) refl
      where
        go : (t : Bool) → (j == k) ≡ t → (c.nodes j).next_number ≤ (after.nodes j).next_number
        go true f = let z : (after.nodes j).next_number ≡ suc v.next_number = number j ∙ ap (λ t. if t then suc v.next_number else (c.nodes j).next_number) f in
            let y : (c.nodes j).next_number ≡ v.next_number = ap (λ h. (c.nodes h).next_number) (eqb-true _ _ f) in omega arith
        go false f = let z : (after.nodes j).next_number ≡ (c.nodes j).next_number = number j ∙ ap (λ t. if t then suc v.next_number else (c.nodes j).next_number) f in omega arith

    not_main : same_name main_name name ≡ false
    not_main = ⊎_elim
        (λ e. absurd (let kk : 0 ≡ k = ap (λ (r : Name). r.nodelet) e in let m : 0 ≡ v.next_number = ap (λ (r : Name). r.number) e in
        let z : 1 ≤ v.next_number = subst (λ h. 1 ≤ (c.nodes h).next_number) kk inv.fresh.begun in omega arith))
        (λ h. h.0) (name_cases main_name name)

    same_main : value_of world' main_name ≡ value_of w main_name
    same_main = ⊎_elim
        (λ e. ap (value_of world') e ∙ ap (option_and_then (λ (s : Strand). value_in s.status)) now ∙ sym (ap (value_of w) e ∙ ap (option_and_then (λ (s : Strand). value_in s.status)) b.known))
        (λ ne. ap (option_and_then (λ (s : Strand). value_in s.status)) (others main_name ne.0 not_main))
        (name_cases main_name q)

    pub spawned_kept : Known u T' (view after name) name (Some baby) → Kept u w after raw.step
    spawned_kept hers = record {
      world = world';
      leads = ap (λ (y : Option Name). step (setting_of u) w (Act x.name y)) is_child ∙ leads;
      holds = record {
        shares = shares-as u c after (with_strand w name baby) q s' k e.node N refl (resumed-keeps u inv.tickets c k x count resume e stamp event) (record {
          cells = same_cells u c w inv k e.node keeps.cells;
          granted = same_granted u c w inv k e.node keeps.granted (with_strand w name baby) refl;
          cursors = same_cursors u c w inv k e.node keeps.cursors;
          pieces = same_pieces u c w inv k e.node keeps.pieces;
          turns = same_turns u c w inv k e.node keeps.served;
        });
        within = within;
        tickets = T';
        each = each;
        kin = kin-same T' (results_in c) (results_in after) (returns_in c) (returns_in after) (with_birth (relatives_in w) q (relative_of b.s) d name there) (relatives_in world')
            (kin-born inv.tickets (results_in c) (returns_in c) (relatives_in w) inv.kin q (relative_of b.s) d (ap relative b.known) name there (ap relative new))
            (part-kept (λ (y : Node). y.results) c.nodes k N (moved-part (λ (y : Node). y.results) k x.place e.node (λ t. refl) ∙ results))
            (returns-same u c k stamp event raw (λ p f o a. returns p f o a)) relatives-born;
        fresh = record {
          free = λ r above. ⊎_elim
              (λ is. absurd (let none : strand_of w q ≡ None = subst (λ (t : Name). strand_of w t ≡ None) is (old r above) in let z : None ≡ Some b.s = sym none ∙ b.known in cc))
              (λ ne. ⊎_elim
              (λ is. absurd (let z : (after.nodes k).next_number ≤ v.next_number = subst (λ (t : Name). (after.nodes t.nodelet).next_number ≤ t.number) is above in
              let y : (after.nodes k).next_number ≡ suc v.next_number = number k ∙ ap (λ t. if t then suc v.next_number else v.next_number) (eq-eqb k k refl) in omega arith))
              (λ nc. others r ne.0 nc.0 ∙ old r above)
              (name_cases r name))
              (name_cases r q);
          begun = let z = grows 0 in let y = inv.fresh.begun in omega arith;
        };
        orphans = orphans;
        main_ticket = T'-other main_name not_main ∙ inv.main_ticket;
        main_value = main_value-same u c after w world' (part-kept (λ (y : Node). y.main_value) c.nodes k N (moved-part (λ (y : Node). y.main_value) k x.place e.node (λ t. refl) ∙ main)) same_main inv.main_value;
      };
    }
      where
        old : (r : Name) → (after.nodes r.nodelet).next_number ≤ r.number → strand_of w r ≡ None
        old r above = inv.fresh.free r (let z = grows r.nodelet in omega arith)

        each : (r : Name) → Known u T' (view after r) r (strand_of world' r)
        each r = ⊎_elim
            (λ is. subst (λ (t : Name). Known u T' (view after t) t (strand_of world' t)) (sym is) (subst (λ (o : Option Strand). Known u T' (view after q) q o) (sym now)
            (known-ticket u inv.tickets T' (view after q) q (Some s') (T'-other q turned) mine)))
            (λ ne. ⊎_elim
            (λ is. subst (λ (t : Name). Known u T' (view after t) t (strand_of world' t)) (sym is) (subst (λ (o : Option Strand). Known u T' (view after name) name o) (sym now-child) hers))
            (λ nc. subst (λ (o : Option Strand). Known u T' (view after r) r o) (sym (others r ne.0 nc.0))
            (subst (λ (y : View). Known u T' y r (strand_of w r))
            (sym (resumed-view u inv.tickets c k x count resume e stamp event r (other r ne.0) (contexts r nc.0) (ap (λ f. f r) counts) (arrivals r nc.0) (items r) (acks r)))
            (known-ticket u inv.tickets T' (view c r) r (strand_of w r) (T'-other r nc.0) (inv.each r))))
            (name_cases r name))
            (name_cases r q)

        orphans : (r : Name) (s : Strand) → strand_of world' r ≡ Some s → T' r ≡ None → r ≡ main_name
        orphans r s is none = ⊎_elim
            (λ e. inv.orphans r b.s (ap (strand_of w) e ∙ b.known) (sym (T'-other r (ap (λ t. same_name t name) e ∙ turned)) ∙ none))
            (λ ne. ⊎_elim
            (λ e. absurd (let z : Some own ≡ None = sym (ap T' e ∙ ap (λ t. if t then Some own else inv.tickets name) (same_name_refl name)) ∙ none in cc))
            (λ nc. inv.orphans r s (sym (others r ne.0 nc.0) ∙ is) (sym (T'-other r nc.0) ∙ none))
            (name_cases r name))
            (name_cases r q)
