-- The census names no strand twice.
use Rattle.std.proofs.Common.{◌≡◌, ◌≢◌, ℕ, zero, suc, ◌<◌, ◌≤◌, List, [], ◌∷◌, ◌++◌, flat_map, Some, refl, sym, ap, ◌∙◌, subst, arith, Bool, true, false, Contains, None}
use Rattle.std.specs.Prelude.{if◌then◌else◌, ◌==◌, AllPairs}
use Rattle.std.proofs.lemmas.Bool.Decides.{eqb_tells}
use Rattle.std.proofs.lemmas.List.{append-nil}
use Rattle.std.proofs.lemmas.Grind.{flat_map-append}
use Rattle.word_ops.specs.Report.{below}
use Rattle.word_ops.specs.declared.name.Name.{Name}
use Rattle.word_ops.specs.Naming.{same_name}
use Rattle.merge_law.specs.declared.event.Event.{Event}
use Rattle.merge_law.specs.Core.{Played}
use Rattle.merge_law.proofs.Pairs.{Each, Pairwise, all_pairs}
use Rattle.world_model.specs.World.{World, strand_of}
use Rattle.world_model.specs.Run.{start}
use Rattle.world_model.proofs.Names.{same_name_refl}
use Rattle.threadlet_code.specs.Breaches.{is_sound}
use Rattle.core_model.specs.Contexts.{Context, Body, Arrival, Issued, Ack, Returned}
use Rattle.core_model.specs.Nodes.{Setup, Node}
use Rattle.core_model.specs.Machine.{Packet}
use Rattle.core_model.specs.Core.{Core, start_core, setting_of, traveller, census}
use Rattle.core_model.specs.Laws.{IsPlayed}
use Rattle.core_model.proofs.Invariant.Links.{with_first, parts}
use Rattle.core_model.proofs.Invariant.Views.{view, arrival_of}
use Rattle.core_model.proofs.Invariant.Statement.{OnLink, travels_by, Invariant}
use Rattle.core_model.proofs.Invariant.StandingStrand.{Present, present}
use Rattle.core_model.proofs.Events.TakeContext.{OnWay, on_way}
use Rattle.core_model.proofs.Events.Play.{KeptBy, play_kept}
use Rattle.core_model.proofs.Invariant.Start.{starts}
use Rattle.core_model.proofs.Census.ContextOrder.{ascending-apart}
use Rattle.core_model.proofs.Census.OrderKept.{AreInOrder, contexts_in_order}
use Rattle.core_model.proofs.Census.LiveStrands.{contains-first, contains-later, names, travellers, contained-name, contained-traveller, below-contains}

-- ---- lists in which no name stands twice

abbrev Apart : List Name → Type 0
Apart l = Pairwise (λ p q. p ≢ q) l

each_contained : (P : Name → Type 0) (l : List Name) → ((q : Name) → Contains l q → P q) → Each P l
each_contained P [] h = tt
each_contained P (q ∷ l) h = (h q (contains-first q q l refl), each_contained P l (λ r c. h r (contains-later r q l c)))

each_joined : (P : Name → Type 0) (l m : List Name) → Each P l → Each P m → Each P (l ++ m)
each_joined P [] m a b = b
each_joined P (q ∷ l) m a b = (a.0, each_joined P l m a.1 b)

apart-joined : (l m : List Name) → Apart l → Apart m → ((q : Name) → Contains l q → Each (λ r. q ≢ r) m) → Apart (l ++ m)
apart-joined [] m a b h = b
apart-joined (q ∷ l) m a b h = (each_joined (λ r. q ≢ r) l m a.0 (h q (contains-first q q l refl)), apart-joined l m a.1 b (λ r c. h r (contains-later r q l c)))

-- lists by number, of which no two have a name in common
apart-below : (f : ℕ → List Name) (n : ℕ) → ((k : ℕ) → Apart (f k)) → ((j k : ℕ) (q : Name) → Contains (f j) q → Contains (f k) q → j ≡ k) → Apart (flat_map f (below n))
apart-below f zero each h = tt
apart-below f (suc n) each h = subst (λ l. Apart l) (sym (flat_map-append f (below n) (n ∷ []) ∙ ap (λ l. flat_map f (below n) ++ l) (append-nil (f n))))
    (apart-joined (flat_map f (below n)) (f n) (apart-below f n each h) (each n) later)
  where
    later : (q : Name) → Contains (flat_map f (below n)) q → Each (λ r. q ≢ r) (f n)
    later q c = each_contained (λ r. q ≢ r) (f n) (λ r d is.
        let at = below-contains f n q c in
        let same : at.0 ≡ n = h at.0 n q at.2 (subst (λ (p : Name). Contains (f n) p) (sym is) d) in
        let less : at.0 < n = at.1 in absurd (omega arith))

-- ---- one link

-- where of each name at most one context travels, no name does twice
alone-apart : (ps : List Packet) → ((q : Name) (x : Context) (more : List Context) → parts (arrival_of q) ps ≡ x ∷ more → more ≡ []) → Apart (travellers ps)
alone-apart [] alone = tt
alone-apart (p ∷ ps) alone = by p.body (λ h. alone-apart ps h) alone
  where
    by : (body : Body) → (((q : Name) (x : Context) (more : List Context) → parts (arrival_of q) ps ≡ x ∷ more → more ≡ []) → Apart (travellers ps)) →
        ((q : Name) (x : Context) (more : List Context) → with_first (arrival_of q body) (parts (arrival_of q) ps) ≡ x ∷ more → more ≡ []) → Apart (with_first (traveller body) (travellers ps))
    by (Issued r item) ih h = ih h
    by (Ack r late) ih h = ih h
    by (Returned t value) ih h = ih h
    by (Arrival y) ih h = (each_contained (λ q. y.name ≢ q) (travellers ps) differs, ih behind)
      where
        differs : (q : Name) → Contains (travellers ps) q → y.name ≢ q
        differs q c is =
            let r = contained-traveller q ps c in
            let none : r.0 ∷ r.1 ≡ [] = h q y (r.0 ∷ r.1) (ap (λ t. with_first (if t then Some y else None) (parts (arrival_of q) ps)) (ap (same_name q) is ∙ same_name_refl q) ∙ ap (λ l. y ∷ l) r.2) in absurd cc

        behind : (q : Name) (x : Context) (more : List Context) → parts (arrival_of q) ps ≡ x ∷ more → more ≡ []
        behind q x more e = go (same_name q y.name) refl
          where
            go : (t : Bool) → same_name q y.name ≡ t → more ≡ []
            go true f = let none : x ∷ more ≡ [] = h q y (x ∷ more) (ap (λ t. with_first (if t then Some y else None) (parts (arrival_of q) ps)) f ∙ ap (λ l. y ∷ l) e) in absurd cc
            go false f = h q x more (ap (λ t. with_first (if t then Some y else None) (parts (arrival_of q) ps)) f ∙ e)

-- ---- all nodelets and links

module _ (u : Setup) (c : Core) (w : World) (inv : Invariant u c w) (ordered : AreInOrder c) where
  standing_at : (k : ℕ) (q : Name) → Contains (names (c.nodes k).contexts) q → (x : Context) × Present u inv.tickets (view c q) q (strand_of w q) k x
  standing_at k q h = let x = contained-name q (c.nodes k).contexts h in (x.0, present u inv.tickets (view c q) q (strand_of w q) k x.0 (inv.each q) x.1)

  travelling_on : (o k : ℕ) (q : Name) → Contains (travellers (c.links o k)) q → (x : Context) × (more : List Context) × OnWay u inv.tickets (view c q) q (strand_of w q) o k x more
  travelling_on o k q h =
      let x = contained-traveller q (c.links o k) h in
      (x.0, x.1, on_way u inv.tickets (view c q) q (strand_of w q) o k x.0 x.1 (inv.each q) x.2)

  one_nodelet : (j k : ℕ) (q : Name) → Contains (names (c.nodes j).contexts) q → Contains (names (c.nodes k).contexts) q → j ≡ k
  one_nodelet j k q h g = go (k == j) refl
    where
      first : (x : Context) × Present u inv.tickets (view c q) q (strand_of w q) j x
      first = standing_at j q h

      found : (x : Context) × ((view c q).stands k ≡ Some x)
      found = contained-name q (c.nodes k).contexts g

      go : (t : Bool) → (k == j) ≡ t → j ≡ k
      go true e = grind (arith, eqb_tells)
      go false e = absurd (let z : None ≡ Some found.0 = sym (first.1.here.stands k ∙ ap (λ t. if t then Some first.0 else None) e) ∙ found.1 in cc)

  one_link : (o k a b : ℕ) (q : Name) → Contains (travellers (c.links o k)) q → Contains (travellers (c.links a b)) q → (o ≡ a) × (k ≡ b)
  one_link o k a b q h g = go (a == o) refl (b == k) refl
    where
      first : (x : Context) × (more : List Context) × OnWay u inv.tickets (view c q) q (strand_of w q) o k x more
      first = travelling_on o k q h

      found : (x : Context) × (more : List Context) × ((view c q).travels a b ≡ x ∷ more)
      found = contained-traveller q (c.links a b) g

      holds : (view c q).travels a b ≡ travels_by (OnLink o k) (first.2).lives.x a b
      holds = (first.2).lives.travels a b ∙ ap (λ p. travels_by p (first.2).lives.x a b) (first.2).spot

      go : (r : Bool) → (a == o) ≡ r → (t : Bool) → (b == k) ≡ t → (o ≡ a) × (k ≡ b)
      go true e true f = (grind (arith, eqb_tells), grind (arith, eqb_tells))
      go true e false f = absurd (let z : [] ≡ found.0 ∷ found.1 = sym (holds ∙ rw (e, f) refl) ∙ found.2 in cc)
      go false e t f = absurd (let z : [] ≡ found.0 ∷ found.1 = sym (holds ∙ rw e refl) ∙ found.2 in cc)

  -- who stands at a nodelet does not travel
  never_both : {A : Type 0} (k o j : ℕ) (q : Name) → Contains (names (c.nodes k).contexts) q → Contains (travellers (c.links o j)) q → A
  never_both k o j q h g =
      let first = standing_at k q h in
      let found = contained-traveller q (c.links o j) g in
      absurd (let z : [] ≡ found.0 ∷ found.1 = sym (first.1.here.travels o j) ∙ found.2 in cc)

  abbrev links_from : ℕ → List Name
  links_from o = flat_map (λ k. travellers (c.links o k)) (below u.nodelets)

  on_links : Apart (flat_map links_from (below u.nodelets))
  on_links = apart-below links_from u.nodelets from_one two
    where
      from_one : (o : ℕ) → Apart (links_from o)
      from_one o = apart-below (λ k. travellers (c.links o k)) u.nodelets
          (λ k. alone-apart (c.links o k) (λ q x more e. (on_way u inv.tickets (view c q) q (strand_of w q) o k x more (inv.each q) e).alone))
          (λ j k q h g. (one_link o j o k q h g).1)

      two : (j k : ℕ) (q : Name) → Contains (links_from j) q → Contains (links_from k) q → j ≡ k
      two j k q h g =
          let a = below-contains (λ b. travellers (c.links j b)) u.nodelets q h in
          let b = below-contains (λ b. travellers (c.links k b)) u.nodelets q g in (one_link j a.0 k b.0 q a.2 b.2).0

  named_apart : Apart (census u c)
  named_apart = apart-joined (flat_map (λ k. names (c.nodes k).contexts) (below u.nodelets)) (flat_map links_from (below u.nodelets))
      (apart-below (λ k. names (c.nodes k).contexts) u.nodelets (λ k. ascending-apart (c.nodes k).contexts (ordered k)) one_nodelet)
      on_links
      (λ q h. each_contained (λ r. q ≢ r) (flat_map links_from (below u.nodelets)) (λ r g is.
      let k = below-contains (λ j. names (c.nodes j).contexts) u.nodelets q h in
      let o = below-contains links_from u.nodelets r g in
      let j = below-contains (λ b. travellers (c.links o.0 b)) u.nodelets r o.2 in
      never_both k.0 o.0 j.0 q k.2 (subst (λ (p : Name). Contains (travellers (c.links o.0 j.0)) p) (sym is) j.2)))

-- once legal events have happened, the census names no strand twice
pub census_names_once : (u : Setup) → is_sound u.code ≡ true → 1 ≤ u.nodelets → (events : List Event) (played : Played Node Packet) → IsPlayed u events played →
    AllPairs (λ p q. p ≢ q) (census u played.core)
census_names_once u sound some events played legal = all_pairs (λ p q. p ≢ q) (census u played.core) (named_apart u played.core kept.world kept.holds (contexts_in_order u events played legal))
  where
    kept : KeptBy u sound some (start (setting_of u)) played
    kept = play_kept u sound some events (start_core u) (start (setting_of u)) played (starts u sound some) legal
