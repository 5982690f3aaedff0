-- A core in which no event is legal and no nodelet has the last stamp: nothing is on a link, and no context can go on.
use Rattle.std.proofs.Common.{◌≡◌, ◌≢◌, ℕ, ◌+◌, ◌<◌, ◌≤◌, List, [], ◌∷◌, flat_map, length, Option, Some, None, refl, sym, ap, ◌∙◌, subst, arith, Bool, true, false, ⊎_elim, option_map, nat_lt, ◌&&◌, not, max}
use Rattle.std.specs.Prelude.{if◌then◌else◌, ◌==◌}
use Rattle.std.proofs.lemmas.Bool.{eq-eqb}
use Rattle.std.proofs.lemmas.Bool.Decides.{nat_tests}
use Rattle.std.proofs.lemmas.List.Elements.{Contains-append_cases}
use Rattle.word_ops.specs.Report.{below}
use Rattle.word_ops.specs.declared.name.Name.{Name}
use Rattle.word_ops.specs.declared.step.NodeEvent.TheVariants as node
use Rattle.merge_law.specs.declared.event.Event.TheVariants.{Run, Take}
use Rattle.merge_law.specs.Machine.{Raw, last_stamp, is_linked, stamped, run_at}
use Rattle.merge_law.specs.Core.{After, leaving, but_from, take_first, core_after, after}
use Rattle.merge_law.proofs.Pairs.{Each}
use Rattle.world_model.specs.World.{Live, Strand, World, strand_of}
use Rattle.core_model.specs.Contexts.{Context, Body, context_of}
use Rattle.core_model.specs.Nodes.{Setup, Node}
use Rattle.core_model.specs.Runs.{run}
use Rattle.core_model.specs.Takes.{take}
use Rattle.core_model.specs.Machine.{Packet, machine_of}
use Rattle.core_model.specs.Core.{Core}
use Rattle.core_model.specs.Laws.{IsStill}
use Rattle.core_model.proofs.Actions.Sights.{and_true_from}
use Rattle.core_model.proofs.Invariant.Links.{parts}
use Rattle.core_model.proofs.Invariant.Sums.{total-zero}
use Rattle.core_model.proofs.Invariant.Views.{view, arrival_of, item_of, ack_of}
use Rattle.core_model.proofs.Invariant.Statement.{Parcels, Known, Invariant}
use Rattle.core_model.proofs.Invariant.StandingStrand.{Quiet, quiet}
use Rattle.core_model.proofs.Packets.NoLink.{IsApart}
use Rattle.core_model.proofs.Census.LiveStrands.{names, travellers, contained-name, contained-traveller, below-contains, named}
use Rattle.core_model.proofs.NotStuck.StampBounds.{NotAfter, IsInTime}

-- a core where nothing can happen, though stamps are left
pub record Rests (u : Setup) (c : Core) : Type 0 where
  pub apart : IsApart u c
  pub timed : IsInTime c
  pub still : IsStill u c
  pub stamps_left : (k : ℕ) → k < u.nodelets → (c.nodes k).stamp ≢ last_stamp

less_than : (a b : ℕ) → a ≤ b → a ≢ b → nat_lt a b ≡ true
less_than a b le ne = go (nat_lt a b) refl
  where
    go : (t : Bool) → nat_lt a b ≡ t → nat_lt a b ≡ true
    go true e = e
    go false e = absurd (ne (let more : b ≤ a = grind (arith, nat_tests) in omega arith))

less_still : (a b c : ℕ) → a ≤ b → nat_lt b c ≡ true → nat_lt a c ≡ true
less_still a b c le e = grind (arith, nat_tests)

never : {A : Type 0} (o : Option (After Node Packet)) (a : After Node Packet) → o ≡ None → o ≡ Some a → A
never o a e f = absurd (let z : None ≡ Some a = sym e ∙ f in cc)

module _ (u : Setup) (c : Core) (rests : Rests u c) where
  before_last : (k : ℕ) → k < u.nodelets → nat_lt (c.nodes k).stamp last_stamp ≡ true
  before_last k inside = less_than (c.nodes k).stamp last_stamp (rests.timed.bounded k) (rests.stamps_left k inside)

  ends : (o k : ℕ) → is_linked u.nodelets o k ≡ true → (o < u.nodelets) × (k < u.nodelets)
  ends o k e = both (nat_lt o u.nodelets) refl (nat_lt k u.nodelets) refl (o == k) e
    where
      both : (r : Bool) → nat_lt o u.nodelets ≡ r → (s : Bool) → nat_lt k u.nodelets ≡ s → (t : Bool) → (r && s && not t) ≡ true → (o < u.nodelets) × (k < u.nodelets)
      both true g true h t i = (grind (arith, nat_tests), grind (arith, nat_tests))
      both true g false h t i = absurd cc
      both false g s h t i = absurd cc

  -- a first packet could be taken
  pub links_empty : (o k : ℕ) → c.links o k ≡ []
  links_empty o k = linked (is_linked u.nodelets o k) refl
    where
      holds : is_linked u.nodelets o k ≡ true → (l : List Packet) → c.links o k ≡ l → c.links o k ≡ []
      holds e [] is = is
      holds e (p ∷ rest) is = never (after (machine_of u) c (Take o k))
          (core_after c k (leaving (but_from o rest (λ a. c.links a k)) (stamped (machine_of u) k (max (c.nodes k).stamp p.stamp + 1) (λ _. node.Take o) (take u k (c.nodes k) o p.body))))
          (rests.still (Take o k))
          (ap (λ t. option_map (core_after c k) (if t then take_first (machine_of u) k (c.nodes k) o (λ a. c.links a k) (c.links o k) else None)) e
          ∙ ap (λ l. option_map (core_after c k) (take_first (machine_of u) k (c.nodes k) o (λ a. c.links a k) l)) is
          ∙ ap (λ t. option_map (core_after c k) (option_map (leaving (but_from o rest (λ a. c.links a k))) (if t then option_map (stamped (machine_of u) k (max (c.nodes k).stamp p.stamp + 1) (λ _. node.Take o)) (Some (take u k (c.nodes k) o p.body)) else None))) tests)
        where
          first : p.stamp ≤ (c.nodes o).stamp
          first = let all : Each (NotAfter (c.nodes o).stamp) (p ∷ rest) = subst (λ (l : List Packet). Each (NotAfter (c.nodes o).stamp) l) is (rests.timed.sent o k) in all.0

          tests : (nat_lt (c.nodes k).stamp last_stamp && nat_lt p.stamp last_stamp) ≡ true
          tests = and_true_from (nat_lt (c.nodes k).stamp last_stamp) (nat_lt p.stamp last_stamp) (before_last k (ends o k e).1)
              (less_still p.stamp (c.nodes o).stamp last_stamp first (before_last o (ends o k e).0))

      linked : (t : Bool) → is_linked u.nodelets o k ≡ t → c.links o k ≡ []
      linked false e = rests.apart o k e
      linked true e = holds e (c.links o k) refl

  -- no context can go on
  pub run_none : (k : ℕ) (q : Name) → k < u.nodelets → run u k (c.nodes k) q ≡ None
  run_none k q inside = go (run u k (c.nodes k) q) refl
    where
      go : (o : Option (Raw Node Body)) → run u k (c.nodes k) q ≡ o → run u k (c.nodes k) q ≡ None
      go None e = e
      go (Some raw) e = never (after (machine_of u) c (Run k q))
          (core_after c k (leaving (λ o. c.links o k) (stamped (machine_of u) k ((c.nodes k).stamp + 1) (λ count. node.Run q count) raw)))
          (rests.still (Run k q))
          (ap (λ t. option_map (core_after c k) (if t then option_map (leaving (λ o. c.links o k)) (run_at (machine_of u) k (c.nodes k) q) else None)) (there k inside)
          ∙ ap (λ t. option_map (core_after c k) (option_map (leaving (λ o. c.links o k)) (if t then option_map (stamped (machine_of u) k ((c.nodes k).stamp + 1) (λ count. node.Run q count)) (run u k (c.nodes k) q) else None))) (before_last k inside)
          ∙ ap (λ r. option_map (core_after c k) (option_map (leaving (λ o. c.links o k)) (option_map (stamped (machine_of u) k ((c.nodes k).stamp + 1) (λ count. node.Run q count)) r))) e)
        where
          there : (j : ℕ) → j < u.nodelets → nat_lt j u.nodelets ≡ true
          there j less = grind (arith, nat_tests)

  pub no_parts : {A : Type 0} (f : Body → Option A) (a b : ℕ) → parts f (c.links a b) ≡ []
  no_parts f a b = ap (parts f) (links_empty a b)

  module _ (some : 1 ≤ u.nodelets) (w : World) (inv : Invariant u c w) where
    -- nothing of a strand is pending or under way
    pub nothing_pending : (q : Name) (s : Strand) → strand_of w q ≡ Some s → Quiet (view c q) s.pending
    nothing_pending q s known = quiet u.nodelets (view c q) s.place s.pending parcels none
      where
        parcels : Parcels u.nodelets (view c q) s.place s.pending
        parcels = let all : Known u inv.tickets (view c q) q (Some s) = subst (λ (o : Option Strand). Known u inv.tickets (view c q) q o) known (inv.each q) in all.0

        pending_none : (b : ℕ) → s.pending b ≡ []
        pending_none b = sym (parcels.items s.place b ∙ ap (λ t. if t then s.pending b else []) (eq-eqb s.place s.place refl)) ∙ no_parts (item_of q) s.place b

        none : (view c q).under_way s.place ≡ 0
        none = parcels.counted ∙ total-zero u.nodelets _ (λ b. let g = ap length (pending_none b) in let h = ap length (no_parts (ack_of q) b s.place) in omega arith)

    -- where the context of a live strand stands
    pub stands_somewhere : (q : Name) (s : Strand) → strand_of w q ≡ Some s → s.status ≡ Live → (k : ℕ) × (x : Context) × (k < u.nodelets) × (context_of q (c.nodes k).contexts ≡ Some x)
    stands_somewhere q s known live = ⊎_elim
        (λ h. let k = below-contains (λ j. names (c.nodes j).contexts) u.nodelets q h in
        let x = contained-name q (c.nodes k.0).contexts k.2 in (k.0, x.0, k.1, x.1))
        (λ h. let o = below-contains (λ a. flat_map (λ j. travellers (c.links a j)) (below u.nodelets)) u.nodelets q h in
        let k = below-contains (λ j. travellers (c.links o.0 j)) u.nodelets q o.2 in
        let x = contained-traveller q (c.links o.0 k.0) k.2 in
        absurd (let z : [] ≡ x.0 ∷ x.1 = sym (no_parts (arrival_of q) o.0 k.0) ∙ x.2 in cc))
        (Contains-append_cases (flat_map (λ k. names (c.nodes k).contexts) (below u.nodelets)) (flat_map (λ o. flat_map (λ k. travellers (c.links o k)) (below u.nodelets)) (below u.nodelets)) q
        (named u some c w inv rests.apart q (s, known, live)))
