-- The census names exactly the live strands.
use Rattle.std.proofs.Common.{◌≡◌, ℕ, zero, suc, ◌<◌, ◌≤◌, ◌⊎◌, ◌↔◌, inl, inr, List, [], ◌∷◌, ◌++◌, map, flat_map, Option, Some, None, refl, sym, ap, ◌∙◌, subst, arith, Bool, true, false, ⊎_elim, filter_map, ◌&&◌, not, nat_lt, Contains}
use Rattle.std.specs.Prelude.{if◌then◌else◌, ◌==◌}
use Rattle.std.proofs.lemmas.Bool.{eqb-true, eq-eqb}
use Rattle.std.proofs.lemmas.Bool.Decides.{eqb_tells, nat_tests}
use Rattle.std.proofs.lemmas.List.{append-nil}
use Rattle.std.proofs.lemmas.Grind.{flat_map-append}
use Rattle.std.proofs.lemmas.List.Elements.{Contains-append_left, Contains-append_right, Contains-append_cases}
use Rattle.word_ops.specs.Report.{below}
use Rattle.word_ops.specs.declared.name.Name.{Name}
use Rattle.word_ops.specs.Naming.{same_name}
use Rattle.merge_law.specs.declared.event.Event.{Event}
use Rattle.merge_law.specs.Machine.{is_linked}
use Rattle.merge_law.specs.Core.{Played}
use Rattle.merge_law.specs.Merge.{steps_of}
use Rattle.world_model.specs.Sight.{Sight}
use Rattle.world_model.specs.World.{Strand, Status, World, strand_of}
use Rattle.world_model.specs.Run.{start, run_of}
use Rattle.threadlet_code.specs.Breaches.{is_sound}
use Rattle.world_model.proofs.Names.{same_name_refl, same_name_is}
use Rattle.core_model.specs.Contexts.{Context, Body, Arrival, Issued, Ack, Returned, context_of}
use Rattle.core_model.specs.Nodes.{Setup, Node}
use Rattle.core_model.specs.Machine.{Packet}
use Rattle.core_model.specs.Core.{Core, start_core, setting_of, traveller, census}
use Rattle.core_model.specs.Laws.{IsPlayed, IsLiveIn}
use Rattle.core_model.proofs.Invariant.Links.{with_first, parts}
use Rattle.core_model.proofs.Invariant.Views.{view, arrival_of}
use Rattle.core_model.proofs.Invariant.Statement.{Spot, At, OnLink, stands_by, travels_by, IsAway, IsBound, Lives, ByStatus, Known, Invariant}
use Rattle.core_model.proofs.Invariant.StandingStrand.{present}
use Rattle.core_model.proofs.Events.TakeContext.{on_way}
use Rattle.core_model.proofs.Events.RunByWay.{place_within}
use Rattle.core_model.proofs.Packets.NoLink.{IsApart, links_apart}
use Rattle.core_model.proofs.Events.Play.{KeptBy, play_kept}
use Rattle.core_model.proofs.Invariant.Start.{starts}

-- ---- what lists contain

pub contains-first : {A : Type 0} (x y : A) (xs : List A) → y ≡ x → Contains (y ∷ xs) x
contains-first x y xs e = (0, omega arith, e)

pub contains-later : {A : Type 0} (x y : A) (xs : List A) → Contains xs x → Contains (y ∷ xs) x
contains-later x y xs c = (suc c.0, (let z = c.1 in omega arith), c.2)

contains-cases : {A : Type 0} (x y : A) (xs : List A) → Contains (y ∷ xs) x → (y ≡ x) ⊎ Contains xs x
contains-cases x y xs (zero, less, e) = inl e
contains-cases x y xs (suc k, less, e) = inr (k, omega arith, e)

contains-none : {A B : Type 0} (x : A) → Contains [] x → B
contains-none x c = absurd (let z = c.1 in omega arith)

pub contains-below : {A : Type 0} (f : ℕ → List A) (n k : ℕ) (x : A) → k < n → Contains (f k) x → Contains (flat_map f (below n)) x
contains-below f zero k x less c = absurd (omega arith)
contains-below f (suc n) k x less c = subst (λ l. Contains l x) (sym (whole n)) (go (λ h. contains-below f n k x h c) (k == n) refl)
  where
    whole : (m : ℕ) → flat_map f (below m ++ m ∷ []) ≡ flat_map f (below m) ++ f m
    whole m = flat_map-append f (below m) (m ∷ []) ∙ ap (λ l. flat_map f (below m) ++ l) (append-nil (f m))

    go : (k < n → Contains (flat_map f (below n)) x) → (t : Bool) → (k == n) ≡ t → Contains (flat_map f (below n) ++ f n) x
    go ih true e = Contains-append_right (flat_map f (below n)) (f n) x (subst (λ j. Contains (f j) x) (eqb-true _ _ e) c)
    go ih false e = Contains-append_left (flat_map f (below n)) (f n) x (ih (grind (arith, eqb_tells)))

pub below-contains : {A : Type 0} (f : ℕ → List A) (n : ℕ) (x : A) → Contains (flat_map f (below n)) x → (k : ℕ) × (k < n) × Contains (f k) x
below-contains f zero x c = contains-none x c
below-contains f (suc n) x c = ⊎_elim
    (λ h. let r = below-contains f n x h in (r.0, (let z = r.1 in omega arith), r.2))
    (λ h. (n, omega arith, h))
    (Contains-append_cases (flat_map f (below n)) (f n) x (subst (λ l. Contains l x) (whole n) c))
  where
    whole : (m : ℕ) → flat_map f (below m ++ m ∷ []) ≡ flat_map f (below m) ++ f m
    whole m = flat_map-append f (below m) (m ∷ []) ∙ ap (λ l. flat_map f (below m) ++ l) (append-nil (f m))

-- ---- names of contexts

abbrev pub names : List Context → List Name
names xs = map (λ x. x.name) xs

names-contain : (q : Name) (xs : List Context) (x : Context) → context_of q xs ≡ Some x → Contains (names xs) q
names-contain q [] x e = absurd cc
names-contain q (y ∷ ys) x e = go (λ h. names-contain q ys x h) (same_name q y.name) refl e
  where
    go : (context_of q ys ≡ Some x → Contains (names ys) q) → (t : Bool) → same_name q y.name ≡ t → (if t then Some y else context_of q ys) ≡ Some x → Contains (names (y ∷ ys)) q
    go ih true f g = contains-first q y.name (names ys) (sym (same_name_is q y.name f))
    go ih false f g = contains-later q y.name (names ys) (ih g)

pub contained-name : (q : Name) (xs : List Context) → Contains (names xs) q → (x : Context) × (context_of q xs ≡ Some x)
contained-name q [] c = contains-none q c
contained-name q (y ∷ ys) c = go (λ h. contained-name q ys h) (same_name q y.name) refl
  where
    later : same_name q y.name ≡ false → Contains (names ys) q
    later f = ⊎_elim (λ e. absurd (let z : true ≡ false = sym (ap (same_name q) e ∙ same_name_refl q) ∙ f in cc)) (λ h. h) (contains-cases q y.name (names ys) c)

    go : (Contains (names ys) q → (x : Context) × (context_of q ys ≡ Some x)) → (t : Bool) → same_name q y.name ≡ t → (x : Context) × (context_of q (y ∷ ys) ≡ Some x)
    go ih true f = (y, ap (λ t. if t then Some y else context_of q ys) f)
    go ih false f = let r = ih (later f) in (r.0, ap (λ t. if t then Some y else context_of q ys) f ∙ r.1)

-- ---- names of travellers

abbrev pub travellers : List Packet → List Name
travellers ps = filter_map (λ p. traveller p.body) ps

travellers-contain : (q : Name) (ps : List Packet) (x : Context) (more : List Context) → parts (arrival_of q) ps ≡ x ∷ more → Contains (travellers ps) q
travellers-contain q [] x more e = absurd cc
travellers-contain q (p ∷ ps) x more e = by p.body (λ h. travellers-contain q ps x more h) e
  where
    by : (body : Body) → (parts (arrival_of q) ps ≡ x ∷ more → Contains (travellers ps) q) → with_first (arrival_of q body) (parts (arrival_of q) ps) ≡ x ∷ more → Contains (with_first (traveller body) (travellers ps)) q
    by (Arrival y) ih f = go (same_name q y.name) refl f
      where
        go : (t : Bool) → same_name q y.name ≡ t → with_first (if t then Some y else None) (parts (arrival_of q) ps) ≡ x ∷ more → Contains (y.name ∷ travellers ps) q
        go true g h = contains-first q y.name (travellers ps) (sym (same_name_is q y.name g))
        go false g h = contains-later q y.name (travellers ps) (ih h)
    by (Issued r item) ih f = ih f
    by (Ack r late) ih f = ih f
    by (Returned t value) ih f = ih f

pub contained-traveller : (q : Name) (ps : List Packet) → Contains (travellers ps) q → (x : Context) × (more : List Context) × (parts (arrival_of q) ps ≡ x ∷ more)
contained-traveller q [] c = contains-none q c
contained-traveller q (p ∷ ps) c = by p.body (λ h. contained-traveller q ps h) c
  where
    by : (body : Body) → (Contains (travellers ps) q → (x : Context) × (more : List Context) × (parts (arrival_of q) ps ≡ x ∷ more)) → Contains (with_first (traveller body) (travellers ps)) q →
        (x : Context) × (more : List Context) × (with_first (arrival_of q body) (parts (arrival_of q) ps) ≡ x ∷ more)
    by (Arrival y) ih h = go (same_name q y.name) refl
      where
        later : same_name q y.name ≡ false → Contains (travellers ps) q
        later f = ⊎_elim (λ e. absurd (let z : true ≡ false = sym (ap (same_name q) e ∙ same_name_refl q) ∙ f in cc)) (λ g. g) (contains-cases q y.name (travellers ps) h)

        go : (t : Bool) → same_name q y.name ≡ t → (x : Context) × (more : List Context) × (with_first (if t then Some y else None) (parts (arrival_of q) ps) ≡ x ∷ more)
        go true f = (y, parts (arrival_of q) ps, refl)
        go false f = ih (later f)
    by (Issued r item) ih h = ih h
    by (Ack r late) ih h = ih h
    by (Returned t value) ih h = ih h

-- ---- where contexts are

module _ (u : Setup) (some : 1 ≤ u.nodelets) (c : Core) (w : World) (inv : Invariant u c w) (apart : IsApart u c) where
  abbrev standing : List Name
  standing = flat_map (λ k. names (c.nodes k).contexts) (below u.nodelets)

  abbrev travelling : List Name
  travelling = flat_map (λ o. flat_map (λ k. travellers (c.links o k)) (below u.nodelets)) (below u.nodelets)

  live_named : (q : Name) (s : Strand) → strand_of w q ≡ Some s → Lives u inv.tickets (view c q) q s → Contains (census u c) q
  live_named q s known l = by l.spot refl l.bound
    where
      stands-below : (k : ℕ) → (s.place ≡ k) ⊎ IsAway u (view c q) s l.x k → k < u.nodelets
      stands-below k (inl e) = subst (λ j. j < u.nodelets) e (inv.within q s known).place
      stands-below k (inr away) =
          let y : Sight = record { here = s.place; home = s.home; clear = true; served = 0; childless = λ d. false; all_ended = λ d. false; late = None } in
          subst (λ j. j < u.nodelets) (away.goes y refl (inl refl) (λ d f. refl)) (place_within u.nodelets y away.action some (inv.within q s known).place (inv.within q s known).home away.good)

      by : (p : Spot) → l.spot ≡ p → IsBound u (view c q) s l.x p → Contains (census u c) q
      by (At k) e bound = Contains-append_left standing travelling q (contains-below (λ j. names (c.nodes j).contexts) u.nodelets k q (stands-below k bound)
          (names-contain q (c.nodes k).contexts l.x (l.stands k ∙ ap (λ p. stands_by p l.x k) e ∙ ap (λ t. if t then Some l.x else None) (eq-eqb k k refl))))
      by (OnLink o k) e bound = linked (is_linked u.nodelets o k) refl
        where
          holds : parts (arrival_of q) (c.links o k) ≡ l.x ∷ []
          holds = l.travels o k ∙ ap (λ p. travels_by p l.x o k) e ∙ ap (λ t. if t && k == k then l.x ∷ [] else []) (eq-eqb o o refl) ∙ ap (λ t. if t then l.x ∷ [] else []) (eq-eqb k k refl)

          linked : (t : Bool) → is_linked u.nodelets o k ≡ t → Contains (census u c) q
          linked false f = absurd (let z : [] ≡ l.x ∷ [] = sym (ap (parts (arrival_of q)) (apart o k f)) ∙ holds in cc)
          linked true f =
              let ends = both (nat_lt o u.nodelets) refl (nat_lt k u.nodelets) refl (o == k) f in
              Contains-append_right standing travelling q (contains-below (λ a. flat_map (λ j. travellers (c.links a j)) (below u.nodelets)) u.nodelets o q ends.0
              (contains-below (λ j. travellers (c.links o j)) u.nodelets k q ends.1 (travellers-contain q (c.links o k) l.x [] holds)))
            where
              both : (r : Bool) → nat_lt o u.nodelets ≡ r → (s : Bool) → nat_lt k u.nodelets ≡ s → (t : Bool) → (r && s && not t) ≡ true → (o < u.nodelets) × (k < u.nodelets)
              both true g true h t i = (grind (arith, nat_tests), grind (arith, nat_tests))
              both true g false h t i = absurd cc
              both false g s h t i = absurd cc

  -- a live strand is named
  pub named : (q : Name) → IsLiveIn w q → Contains (census u c) q
  named q (s, known, live) =
      let all : Known u inv.tickets (view c q) q (Some s) = subst (λ (o : Option Strand). Known u inv.tickets (view c q) q o) known (inv.each q) in
      live_named q s known (subst (λ (t : Status). ByStatus u inv.tickets (view c q) q s t) live all.1)

  -- and only live strands are
  pub named_lives : (q : Name) → Contains (census u c) q → IsLiveIn w q
  named_lives q h = ⊎_elim at_nodelet on_link (Contains-append_cases standing travelling q h)
    where
      at_nodelet : Contains standing q → IsLiveIn w q
      at_nodelet g =
          let r = below-contains (λ j. names (c.nodes j).contexts) u.nodelets q g in
          let x = contained-name q (c.nodes r.0).contexts r.2 in
          let p = present u inv.tickets (view c q) q (strand_of w q) r.0 x.0 (inv.each q) x.1 in
          (p.s, p.known, p.here.live)

      on_link : Contains travelling q → IsLiveIn w q
      on_link g =
          let r = below-contains (λ a. flat_map (λ j. travellers (c.links a j)) (below u.nodelets)) u.nodelets q g in
          let s = below-contains (λ j. travellers (c.links r.0 j)) u.nodelets q r.2 in
          let x = contained-traveller q (c.links r.0 s.0) s.2 in
          let p = on_way u inv.tickets (view c q) q (strand_of w q) r.0 s.0 x.0 x.1 (inv.each q) x.2 in
          (p.s, p.known, p.live)

-- the world that legal events lead to has exactly the strands of the census live
pub census_is_live : (u : Setup) → is_sound u.code ≡ true → 1 ≤ u.nodelets → (events : List Event) (played : Played Node Packet) → IsPlayed u events played →
    (w : World) × (run_of (setting_of u) (steps_of played.told) ≡ Some w) × ((q : Name) → Contains (census u played.core) q ↔ IsLiveIn w q)
census_is_live u sound some events played legal =
    (kept.world, kept.leads, λ q. (λ h. named_lives u some played.core kept.world kept.holds apart q h, λ h. named u some played.core kept.world kept.holds apart q h))
  where
    kept : KeptBy u sound some (start (setting_of u)) played
    kept = play_kept u sound some events (start_core u) (start (setting_of u)) played (starts u sound some) legal

    apart : IsApart u played.core
    apart = links_apart u events played legal
