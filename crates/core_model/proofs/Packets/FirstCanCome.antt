-- After legal events the first packet on a link can come to the nodelet that it goes to.
use Rattle.std.proofs.Common.{◌≡◌, ℕ, zero, suc, ◌<◌, ◌≤◌, List, [], ◌∷◌, Option, Some, None, refl, sym, ap, ◌∙◌, subst, arith, Bool, true, false, ◌&&◌, ◌||◌, not, nat_lt, ℤ}
use Rattle.std.specs.Prelude.{if◌then◌else◌, ◌==◌, nat_le}
use Rattle.std.specs.List.{list_all}
use Rattle.std.proofs.lemmas.Bool.{eqb-true, lt-ltb, le-leb, ltb-false}
use Rattle.word_ops.specs.declared.name.Name.{Name}
use Rattle.word_ops.specs.declared.place.Pos.{Pos}
use Rattle.word_ops.specs.declared.ticket.Ticket.{Ticket}
use Rattle.merge_law.specs.Merge.{steps_of}
use Rattle.world_model.specs.World.{Item, Operation, Grant, Strand, World, strand_of}
use Rattle.world_model.specs.Run.{start}
use Rattle.world_model.proofs.Names.{same_name_refl}
use Rattle.core_model.specs.Contexts.{Context, Body, Arrival, Issued, Ack, Returned, context_of}
use Rattle.core_model.specs.Nodes.{Setup, Node}
use Rattle.core_model.specs.Takes.{is_given, has_home, can_come}
use Rattle.core_model.specs.Machine.{Packet}
use Rattle.core_model.specs.Core.{Core, start_core, setting_of}
use Rattle.core_model.specs.Laws.{FirstCanCome}
use Rattle.core_model.proofs.Invariant.Links.{with_first, parts}
use Rattle.core_model.proofs.Invariant.Views.{view, arrival_of, item_of, ack_of, result_of}
use Rattle.core_model.proofs.Invariant.Statement.{stands_by, Parcels, Known, Relative, relative_of, relative, results_in, returns_in, relatives_in, Invariant}
use Rattle.core_model.proofs.Actions.Sights.{both_true}
use Rattle.core_model.proofs.Invariant.StandingStrand.{quiet}
use Rattle.core_model.proofs.Events.TakeContext.{OnWay, on_way}
use Rattle.core_model.proofs.Events.EndKin.{is_own}
use Rattle.core_model.proofs.Events.TakeResult.{returned}
use Rattle.core_model.proofs.Packets.EachStrand.{AllHave, each_strand}
use Rattle.core_model.proofs.Packets.OwnedWords.{Owned, is_owned, owned_kept}
use Rattle.core_model.proofs.Packets.SentResults.{goes_to}
use Rattle.core_model.proofs.Packets.ResultHomes.{IsAddressed, all_addressed}
use Rattle.core_model.proofs.Events.Play.{KeptBy, play_kept}
use Rattle.core_model.proofs.Invariant.Start.{starts}

-- ---- small facts

empty_first : {A B : Type 0} (x : A) (xs : List A) → [] ≡ x ∷ xs → B
empty_first x xs e = absurd cc

same_relative : (r : Relative) (s : Strand) → Some r ≡ relative (Some s) → r ≡ relative_of s
same_relative r s e = cc

-- a choice that is not empty took its first side
chosen : {A : Type 0} (t : Bool) (l : List A) (x : A) (xs : List A) → (if t then l else []) ≡ x ∷ xs → l ≡ x ∷ xs
chosen true l x xs e = e
chosen false l x xs e = empty_first x xs e

-- ---- where the invariant holds

module _ (u : Setup) (c : Core) (w : World) (inv : Invariant u c w) (from to : ℕ) (p : Packet) (rest : List Packet) (first : c.links from to ≡ p ∷ rest) where
  abbrev v : Node
  v = c.nodes to

  -- what the link holds of a kind begins with what the first packet has
  begins : {A : Type 0} (f : Body → Option A) (x : A) → f p.body ≡ Some x → parts f (c.links from to) ≡ x ∷ parts f rest
  begins f x e = ap (parts f) first ∙ ap (λ o. with_first o (parts f rest)) e

  -- a strand comes
  arrival_comes : (x : Context) → p.body ≡ Arrival x → can_come u to v (Arrival x) ≡ true
  arrival_comes x e = rw (away, given, place, home, ticket) refl
    where
      q : Name
      q = x.name

      way : OnWay u inv.tickets (view c q) q (strand_of w q) from to x (parts (arrival_of q) rest)
      way = on_way u inv.tickets (view c q) q (strand_of w q) from to x (parts (arrival_of q) rest) (inv.each q)
          (begins (arrival_of q) x (ap (arrival_of q) e ∙ ap (λ t. if t then Some x else None) (same_name_refl q)))

      away : context_of x.name v.contexts ≡ None
      away = way.lives.stands to ∙ ap (λ s. stands_by s way.lives.x to) way.spot

      place : nat_lt x.place u.nodelets ≡ true
      place = lt-ltb x.place u.nodelets (subst (λ (y : Context). y.place < u.nodelets) way.is (subst (λ j. j < u.nodelets) (sym way.lives.place) (inv.within q way.s way.known).place))

      home : nat_lt x.home u.nodelets ≡ true
      home = lt-ltb x.home u.nodelets (subst (λ (y : Context). y.home < u.nodelets) way.is (subst (λ j. j < u.nodelets) (sym way.lives.home) (inv.within q way.s way.known).home))

      given : is_given to v x.name ≡ true
      given = there (x.name.nodelet == to) refl
        where
          numbered : (x.name.nodelet == to) ≡ true → (t : Bool) → nat_lt x.name.number v.next_number ≡ t → t ≡ true
          numbered f true g = refl
          numbered f false g = absurd (
              let at : x.name.nodelet ≡ to = eqb-true _ _ f in
              let above : v.next_number ≤ x.name.number = ltb-false _ _ g in
              let none : strand_of w q ≡ None = inv.fresh.free q (subst (λ j. (c.nodes j).next_number ≤ x.name.number) (sym at) above) in
              let z : None ≡ Some way.s = sym none ∙ way.known in cc)

          there : (t : Bool) → (x.name.nodelet == to) ≡ t → (not t || nat_lt x.name.number v.next_number) ≡ true
          there false f = refl
          there true f = numbered f (nat_lt x.name.number v.next_number) refl

      ticket : has_home u.nodelets x.ticket ≡ true
      ticket = subst (λ (y : Context). has_home u.nodelets y.ticket ≡ true) way.is (ap (has_home u.nodelets) way.lives.ticket ∙ by (inv.tickets q) refl)
        where
          inside : (k : Ticket) (r : Relative) → relatives_in w k.parent ≡ Some r → k.home ≡ r.home → (o : Option Strand) → strand_of w k.parent ≡ o → k.home < u.nodelets
          inside k r f same None g = absurd (let z : None ≡ Some r = sym (ap relative g) ∙ f in cc)
          inside k r f same (Some s) g =
              let is : r ≡ relative_of s = same_relative r s (sym f ∙ ap relative g) in
              subst (λ j. j < u.nodelets) (sym (same ∙ ap (λ (y : Relative). y.home) is)) (inv.within k.parent s g).home

          by : (o : Option Ticket) → inv.tickets q ≡ o → has_home u.nodelets o ≡ true
          by None f = refl
          by (Some k) f =
              let r = inv.kin.ticket q _ k (ap relative way.known) way.live f in
              lt-ltb k.home u.nodelets (inside k r.0 r.1 r.2 (strand_of w k.parent) refl)

  -- an operation comes to the owner of its word
  issued_comes : AllHave (Owned u.nodelets) w → (q : Name) (item : Item) → p.body ≡ Issued q item → can_come u to v (Issued q item) ≡ true
  issued_comes owned q item e = shown item (by (strand_of w q) refl (inv.each q))
    where
      holds : parts (item_of q) (c.links from to) ≡ item ∷ parts (item_of q) rest
      holds = begins (item_of q) item (ap (item_of q) e ∙ ap (λ t. if t then Some item else None) (same_name_refl q))

      shown : (i : Item) → is_owned u.nodelets to i ≡ true → can_come u to v (Issued q i) ≡ true
      shown (Operation op a word at) f = f
      shown (Grant extent) f = refl

      by : (o : Option Strand) → strand_of w q ≡ o → Known u inv.tickets (view c q) q o → is_owned u.nodelets to item ≡ true
      by None f known = empty_first item (parts (item_of q) rest) (sym (known.items from to) ∙ holds)
      by (Some s) f known =
          let pending : s.pending to ≡ item ∷ parts (item_of q) rest = chosen (from == s.place) (s.pending to) item (parts (item_of q) rest) (sym (known.0.items from to) ∙ holds) in
          (both_true (is_owned u.nodelets to item) (list_all (is_owned u.nodelets to) (parts (item_of q) rest))
          (sym (ap (list_all (is_owned u.nodelets to)) pending) ∙ owned q s f to)).0

  -- word comes of something that is under way
  ack_comes : (q : Name) (late : Option Pos) → p.body ≡ Ack q late → can_come u to v (Ack q late) ≡ true
  ack_comes q late e = by (strand_of w q) (inv.each q)
    where
      holds : parts (ack_of q) (c.links from to) ≡ late ∷ parts (ack_of q) rest
      holds = begins (ack_of q) late (ap (ack_of q) e ∙ ap (λ t. if t then Some late else None) (same_name_refl q))

      more : (s : Strand) → Parcels u.nodelets (view c q) s.place s.pending → to ≡ s.place → (m : ℕ) → v.under_way q ≡ m → nat_le 1 m ≡ true
      more s parcels at (suc m) f = le-leb 1 (suc m) (omega arith)
      more s parcels at zero f =
          let none : (c.nodes s.place).under_way q ≡ 0 = subst (λ j. (c.nodes j).under_way q ≡ 0) at f in
          empty_first late (parts (ack_of q) rest) (sym ((quiet u.nodelets (view c q) s.place s.pending parcels none).acks from to) ∙ holds)

      by : (o : Option Strand) → Known u inv.tickets (view c q) q o → nat_le 1 (v.under_way q) ≡ true
      by None known = empty_first late (parts (ack_of q) rest) (sym (known.acks from to) ∙ holds)
      by (Some s) known = place (to == s.place) refl
        where
          place : (t : Bool) → (to == s.place) ≡ t → nat_le 1 (v.under_way q) ≡ true
          place false f = empty_first late (parts (ack_of q) rest) (sym (known.0.acks from to f) ∙ holds)
          place true f = more s known.0 (eqb-true _ _ f) (v.under_way q) refl

  -- a result comes that is not there yet
  result_comes : IsAddressed c → (t : Ticket) (value : ℤ) → p.body ≡ Returned t value → can_come u to v (Returned t value) ≡ true
  result_comes addressed t value e =
      let home : (t.home == to) ≡ true = (both_true (t.home == to) (list_all (λ (y : Packet). goes_to to y.body) rest)
      (ap (λ b. goes_to to b && list_all (λ (y : Packet). goes_to to y.body) rest) (sym e) ∙ sym (ap (list_all (λ (y : Packet). goes_to to y.body)) first) ∙ addressed from to)).0 in
      let none : v.results t.parent t.depth t.order ≡ None =
      (returned inv.tickets (results_in c) (results_in c) (returns_in c) (returns_in c) (relatives_in w) inv.kin t value from to (parts (result_of t.parent t.depth t.order) rest)
      (begins (result_of t.parent t.depth t.order) value (ap (result_of t.parent t.depth t.order) e ∙ ap (λ b. if b then Some value else None) (is_own t)))).none in
      rw (home, none) refl

  pub comes : AllHave (Owned u.nodelets) w → IsAddressed c → can_come u to v p.body ≡ true
  comes owned addressed = by p.body refl
    where
      by : (body : Body) → p.body ≡ body → can_come u to v body ≡ true
      by (Arrival x) e = arrival_comes x e
      by (Issued q item) e = issued_comes owned q item e
      by (Ack q late) e = ack_comes q late e
      by (Returned t value) e = result_comes addressed t value e

-- ---- after legal events

pub first_can_come : FirstCanCome
first_can_come u sound some events played legal from to p rest first =
    comes u played.core kept.world kept.holds from to p rest first
    (each_strand (setting_of u) (Owned u.nodelets) (owned_kept (setting_of u)) (steps_of played.told) kept.world kept.leads)
    (all_addressed u events played legal)
  where
    kept : KeptBy u sound some (start (setting_of u)) played
    kept = play_kept u sound some events (start_core u) (start (setting_of u)) played (starts u sound some) legal
