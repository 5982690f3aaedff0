-- Allocations.
use Rattle.std.proofs.Common.{◌≡◌, ℕ, zero, suc, ◌+◌, ◌-◌, ◌<◌, [], ◌∷◌, ◌++◌, length, map, find, Option, Some, None, refl, sym, ap, ◌∙◌, arith, Bool, true, false, ℤ, pos, ◌*ℤ◌, ◌^◌, ◌&&◌, not, nat_lt, nat_le, option_map, unsigned_abs}
use Rattle.std.specs.Prelude.{if◌then◌else◌, ◌==◌, int_le}
use Rattle.std.specs.Option.{option_or}
use Rattle.std.proofs.lemmas.Bool.{eqb-true, eq-eqb}
use Rattle.std.proofs.lemmas.Bool.Decides.{nat_tests}
use Rattle.std.proofs.lemmas.List.{append-nil}
use Rattle.std.proofs.lemmas.List.Folds.{find-append}
use Rattle.word_ops.specs.Report.{below}
use Rattle.word_ops.specs.declared.name.Name.{Name}
use Rattle.word_ops.specs.Operators.{same_word}
use Rattle.data_layout.specs.Address.{owner_of, address_at}
use Rattle.data_layout.specs.Cursor.{fits_view, cursor_after, allocated_at, cursors_after}
use Rattle.world_model.specs.Action.{Alloc, Request, Striped, Blocked, Local, Replicated}
use Rattle.world_model.specs.Allocation.{server_of, taken_from, block_view}
use Rattle.world_model.specs.World.{Item, Extent, Grant, World, with_strand}
use Rattle.world_model.specs.World as world
use Rattle.world_model.specs.Effect as world_effect
use Rattle.world_model.specs.Effect.{grant_of}
use Rattle.world_model.proofs.Names.{same_name_refl}
use Rattle.threadlet_code.specs.Breaches.{is_sound}
use Rattle.threadlet_code.specs.Machine.{State}
use Rattle.core_model.specs.Contexts.{Context, Issued}
use Rattle.core_model.specs.Nodes.{Setup, Node}
use Rattle.core_model.specs.Nodes as node
use Rattle.core_model.specs.Effects.{Effect, quiet, sending, to_all, with_fresh, announced, allocated, effect}
use Rattle.core_model.specs.Core.{Core, setting_of}
use Rattle.core_model.specs.Agreement.{cursor_home}
use Rattle.core_model.proofs.Invariant.Links.{part-kept}
use Rattle.core_model.proofs.Invariant.Sums.{total-same}
use Rattle.core_model.proofs.Invariant.Statement.{Invariant}
use Rattle.core_model.proofs.Actions.DueContext.{Before}
use Rattle.core_model.proofs.Actions.DoneOrRefused.{InWorld}
use Rattle.core_model.proofs.Actions.StayOrLeave.{changed_at}
use Rattle.core_model.proofs.Actions.Grants.{grant_granted}
use Rattle.core_model.proofs.Actions.WordActions.{IsPlain}
use Rattle.core_model.proofs.Events.QuietActions.{same_cells, same_granted, same_pieces, same_turns, all_same, quiet_plain}
use Rattle.core_model.proofs.Events.Issue.{to_each, to_each-sent, others-many}

-- ---- where a request is served

find-below : (p : ℕ → Bool) (m x : ℕ) → find p (below m) ≡ Some x → x < m
find-below p zero x e = absurd cc
find-below p (suc m) x e = by (find p (below m)) refl (find-below p m) (sym (find-append p (below m) (m ∷ [])) ∙ e)
  where
    last : (t : Bool) → (if t then Some m else None) ≡ Some x → x < suc m
    last true f = let z : m ≡ x = cc in omega arith
    last false f = absurd cc

    by : (o : Option ℕ) → find p (below m) ≡ o → ((y : ℕ) → find p (below m) ≡ Some y → y < m) → option_or o (find p (m ∷ [])) ≡ Some x → x < suc m
    by None f ih g = last (p m) g
    by (Some y) f ih g = let z : y ≡ x = cc in let h = ih y f in omega arith

low_home : (view k : ℕ) → view < 32 → 0 ≡ k → cursor_home view ≡ k
low_home view k less e = ap (λ t. if t then view - 32 else 0) (let z : nat_le 32 view ≡ false = grind (arith, nat_tests) in z) ∙ e

high_home : (h k : ℕ) → h ≡ k → cursor_home (32 + h) ≡ k
high_home h k e = ap (λ t. if t then 32 + h - 32 else 0) (let z : nat_le 32 (32 + h) ≡ true = grind (arith, nat_tests) in z) ∙ (let z : 32 + h - 32 ≡ h = omega arith in z) ∙ e

taken_home : (n k : ℕ) (request : Request) (z : ℕ × ℤ) → server_of n k request ≡ k → taken_from n k request ≡ Some z → cursor_home z.0 ≡ k
taken_home n k (Striped words) z e f = low_home z.0 k (let g : 0 ≡ z.0 = first 0 words f in omega arith) e
  where
    first : (view : ℕ) (m : ℤ) → Some (view, m) ≡ Some z → view ≡ z.0
    first view m g = let h : (view, m) ≡ z = cc in ap (λ (y : ℕ × ℤ). y.0) h
taken_home n k (Replicated words) z e f = low_home z.0 k (let g : 31 ≡ z.0 = first 31 words f in omega arith) e
  where
    first : (view : ℕ) (m : ℤ) → Some (view, m) ≡ Some z → view ≡ z.0
    first view m g = let h : (view, m) ≡ z = cc in ap (λ (y : ℕ × ℤ). y.0) h
taken_home n k (Local at words a) z e f = ap cursor_home (sym (first (32 + owner_of a k n) words f)) ∙ high_home (owner_of a k n) k e
  where
    first : (view : ℕ) (m : ℤ) → Some (view, m) ≡ Some z → view ≡ z.0
    first view m g = let h : (view, m) ≡ z = cc in ap (λ (y : ℕ × ℤ). y.0) h
taken_home n k (Blocked blocks words) z e f = some (int_le (pos 1) blocks) f
  where
    first : (view : ℕ) (m : ℤ) → Some (view, m) ≡ Some z → view ≡ z.0
    first view m g = let h : (view, m) ≡ z = cc in ap (λ (y : ℕ × ℤ). y.0) h

    found : (o : Option ℕ) → block_view words ≡ o → option_map (λ view. (view, blocks *ℤ words)) o ≡ Some z → cursor_home z.0 ≡ k
    found None g h = absurd cc
    found (Some view) g h = low_home z.0 k (let i : view ≡ z.0 = first view (blocks *ℤ words) h in let j : view < 21 = find-below (λ y. same_word words (pos (2 ^ y))) 21 view g in omega arith) e

    some : (t : Bool) → (if t then option_map (λ view. (view, blocks *ℤ words)) (block_view words) else None) ≡ Some z → cursor_home z.0 ≡ k
    some true g = found (block_view words) refl g
    some false g = absurd cc

taken_same : (n p k : ℕ) (request : Request) → server_of n p request ≡ server_of n k request → taken_from n p request ≡ taken_from n k request
taken_same n p k (Striped words) e = refl
taken_same n p k (Blocked blocks words) e = refl
taken_same n p k (Local at words a) e = ap (λ h. Some (32 + h, words)) e
taken_same n p k (Replicated words) e = refl

-- ---- cursors

moved_cursors : (u : Setup) (c : Core) (w : World) (inv : Invariant u c w) (k : ℕ) (v' : Node) (view : ℕ) (count : ℤ) → cursor_home view ≡ k → v'.cursors ≡ cursors_after u.nodelets (c.nodes k).cursors view count →
    (j : ℕ) → (changed_at c k v' (cursor_home j)).cursors j ≡ cursors_after u.nodelets w.cursors view count j
moved_cursors u c w inv k v' view count home is j = go (j == view) refl
  where
    value : ℕ → ℕ → Bool → ℕ
    value at old t = if t && fits_view at count then cursor_after view u.nodelets at (unsigned_abs count) else old

    there : (c.nodes k).cursors view ≡ w.cursors view
    there = ap (λ h. (c.nodes h).cursors view) (sym home) ∙ inv.shares.cursors view

    go : (t : Bool) → (j == view) ≡ t → (changed_at c k v' (cursor_home j)).cursors j ≡ value (w.cursors view) (w.cursors j) (j == view)
    go true e =
        let same : j ≡ view = eqb-true _ _ e in
        ap (λ t. (if t then v' else c.nodes (cursor_home j)).cursors j) (eq-eqb _ _ (ap cursor_home same ∙ home))
        ∙ ap (λ f. f j) is
        ∙ ap (λ y. value y ((c.nodes k).cursors j) (j == view)) there
        ∙ ap (λ y. value (w.cursors view) y (j == view)) (ap (c.nodes k).cursors same ∙ there ∙ ap w.cursors (sym same))
    go false e = part-kept (λ (y : Node). y.cursors j) c.nodes k v' (ap (λ f. f j) is ∙ ap (value ((c.nodes k).cursors view) ((c.nodes k).cursors j)) e) (cursor_home j)
        ∙ inv.shares.cursors j ∙ sym (ap (value (w.cursors view) (w.cursors j)) e)

module _ (u : Setup) (sound : is_sound u.code ≡ true) (c : Core) (w : World) (inv : Invariant u c w) (k : ℕ) (q : Name) (x : Context) (state : State) (request : Request) (b : Before u c w inv k q x state (Alloc request))
    (i : InWorld u sound c w inv k q x state (Alloc request) b) (serves : server_of u.nodelets k request ≡ k) where
  abbrev v : Node
  v = c.nodes k

  abbrev n : ℕ
  n = u.nodelets

  abbrev Goal : Effect → Type 0
  Goal e = IsPlain u sound c w inv k q x state (Alloc request) b e

  abbrev does : Option World
  does = world_effect.effect (setting_of u) w q b.s None (Alloc request)

  module _ (view : ℕ) (count : ℤ) (home : cursor_home view ≡ k) where
    abbrev moved : Node
    moved = record v { cursors = cursors_after n v.cursors view count }

    abbrev base : World
    base = record w { cursors = cursors_after n w.cursors view count }

    -- words that are granted to each nodelet
    spread : (extent : Extent) (address : ℤ) → does ≡ Some (world_effect.goes_on (world.with_grant base k extent) q (world.with_pending_but n b.s k (Grant extent)) k (address ∷ [])) →
        Goal (record (sending (node.with_issued (node.with_grant moved extent) x.name (n - 1)) (to_all n (Issued x.name (Grant extent)))) { answer = address ∷ [] })
    spread extent address is = record {
      out = to_each n item;
      contexts = refl;
      results = refl;
      next_number = refl;
      main_value = refl;
      counts = λ r ne. ap (λ t. if t then v.under_way r + (n - 1) else v.under_way r) ne;
      raised = ap (λ t. if t then v.under_way x.name + (n - 1) else v.under_way x.name) (same_name_refl x.name)
          ∙ ap (λ m. v.under_way x.name + m) (sym (total-same n _ _ (λ d less. ap length (to_each-sent n k item b.inside d)) ∙ others-many n k item b.inside));
      sends = λ d. sends (nat_lt d n);
      child = refl;
      base = world.with_grant base k extent;
      pending = λ d. if nat_lt d n && not (d == k) then b.s.pending d ++ item ∷ [] else b.s.pending d;
      strands = refl;
      adds = λ d. adds d (nat_lt d n && not (d == k)) ∙ ap (λ l. b.s.pending d ++ l) (sym (to_each-sent n k item b.inside d));
      is = is;
      shares = record {
        cells = same_cells u c w inv k v' refl;
        granted = grant_granted u c w inv k v' extent (world.with_grant base k extent) b.inside refl refl;
        cursors = moved_cursors u c w inv k v' view count home refl;
        pieces = same_pieces u c w inv k v' refl;
        turns = same_turns u c w inv k v' refl;
      };
      children = λ d. refl;
    }
      where
        item : Item
        item = Grant extent

        v' : Node
        v' = node.with_issued (node.with_grant moved extent) x.name (n - 1)

        sends : (t : Bool) → (if t then Issued x.name item ∷ [] else []) ≡ map (Issued x.name) (if t then item ∷ [] else [])
        sends true = refl
        sends false = refl

        adds : (d : ℕ) (t : Bool) → (if t then b.s.pending d ++ item ∷ [] else b.s.pending d) ≡ b.s.pending d ++ (if t then item ∷ [] else [])
        adds d true = refl
        adds d false = sym (append-nil (b.s.pending d))

    -- words that are granted here alone
    kept_here : (extent : Extent) (address : ℤ) → does ≡ Some (world_effect.goes_on (world.with_grant base k extent) q b.s k (address ∷ [])) → Goal (quiet (node.with_grant moved extent) (address ∷ []))
    kept_here extent address is = quiet_plain u sound c w inv k q x state (Alloc request) b (node.with_grant moved extent) (address ∷ []) (world.with_grant base k extent) refl refl refl refl refl refl is
        (record {
          cells = same_cells u c w inv k (node.with_grant moved extent) refl;
          granted = grant_granted u c w inv k (node.with_grant moved extent) extent (world.with_grant base k extent) b.inside refl refl;
          cursors = moved_cursors u c w inv k (node.with_grant moved extent) view count home refl;
          pieces = same_pieces u c w inv k (node.with_grant moved extent) refl;
          turns = same_turns u c w inv k (node.with_grant moved extent) refl;
        })
        (λ d. refl)

    ungranted : (address : ℤ) → does ≡ Some (world_effect.goes_on base q b.s k (address ∷ [])) → Goal (quiet moved (address ∷ []))
    ungranted address is = quiet_plain u sound c w inv k q x state (Alloc request) b moved (address ∷ []) base refl refl refl refl refl refl is
        (record {
          cells = same_cells u c w inv k moved refl;
          granted = same_granted u c w inv k moved refl base refl;
          cursors = moved_cursors u c w inv k moved view count home refl;
          pieces = same_pieces u c w inv k moved refl;
          turns = same_turns u c w inv k moved refl;
        })
        (λ d. refl)

    by_fresh : (r : Request) (fresh : Option Extent) (address : ℤ) → does ≡ Some (world_effect.goes_on (world_effect.with_fresh base k fresh) q (world_effect.announces n b.s k r fresh) k (address ∷ [])) →
        Goal (announced n (with_fresh moved fresh) x.name r fresh address)
    by_fresh r None address is = ungranted address is
    by_fresh (Local at words a) (Some extent) address is = kept_here extent address is
    by_fresh (Striped words) (Some extent) address is = spread extent address is
    by_fresh (Blocked blocks words) (Some extent) address is = spread extent address is
    by_fresh (Replicated words) (Some extent) address is = spread extent address is

    same_address : allocated_at w.cursors view count ≡ allocated_at v.cursors view count
    same_address = ap (λ y. if fits_view y count then address_at view y else pos 0) (sym (inv.shares.cursors view) ∙ ap (λ h. (c.nodes h).cursors view) home)

  by_taken : (taken : Option (ℕ × ℤ)) → ((z : ℕ × ℤ) → taken ≡ Some z → cursor_home z.0 ≡ k) → does ≡ Some (world_effect.served_with (setting_of u) w q b.s request taken) → Goal (allocated u v x.name request taken)
  by_taken None homes is = quiet_plain u sound c w inv k q x state (Alloc request) b v (pos 0 ∷ []) w refl refl refl refl refl refl
      (is ∙ ap (λ p. Some (world_effect.goes_on w q b.s p (pos 0 ∷ []))) i.goes) (all_same u c w inv k) (λ d. refl)
  by_taken (Some (view, count)) homes is =
      by_fresh view count (homes (view, count) refl) request (grant_of u.rules (allocated_at v.cursors view count) count) (allocated_at v.cursors view count)
      (is ∙ ap (λ p. Some (made p (allocated_at w.cursors view count))) i.goes ∙ ap (λ a. Some (made k a)) (same_address view count (homes (view, count) refl)))
    where
      made : ℕ → ℤ → World
      made p a = world_effect.goes_on (world_effect.with_fresh (record w { cursors = cursors_after n w.cursors view count }) p (grant_of u.rules a count)) q (world_effect.announces n b.s p request (grant_of u.rules a count)) p (a ∷ [])

  pub alloc_plain : IsPlain u sound c w inv k q x state (Alloc request) b (effect u k v x state (Alloc request))
  alloc_plain = by_taken (taken_from n k request) (λ z e. taken_home n k request z serves e)
      (ap (λ t. Some (world_effect.served_with (setting_of u) w q b.s request t)) (taken_same n b.s.place k request (i.goes ∙ sym serves)))
