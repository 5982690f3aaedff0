-- Actions that send nothing: turns, fences, moves, questions for the place, output, loads and fetches.
use Rattle.std.proofs.Common.{◌≡◌, ℕ, suc, ◌<◌, List, [], ◌∷◌, ◌++◌, length, Some, None, refl, sym, ap, ◌∙◌, arith, Bool, true, false, ℤ, pos, ◌&&◌}
use Rattle.std.specs.Prelude.{if◌then◌else◌, ◌==◌}
use Rattle.std.proofs.lemmas.Bool.{eqb-true, eq-eqb}
use Rattle.std.proofs.lemmas.List.{append-nil}
use Rattle.word_ops.specs.declared.place.Pos.{Pos}
use Rattle.word_ops.specs.declared.name.Name.{Name}
use Rattle.word_ops.specs.Operators.{same_word}
use Rattle.mem_atomics.specs.declared.fetch_op.FetchOp.{FetchOp}
use Rattle.mem_atomics.specs.NewWord.{fetched}
use Rattle.merge_law.specs.Machine.{is_linked}
use Rattle.world_model.specs.Action.{Action, Turn, Load, Fetch, Fence, Move, Where, Print}
use Rattle.world_model.specs.Meaning.{children_after}
use Rattle.world_model.specs.World.{Item, Extent, World, with_strand, children_at}
use Rattle.world_model.specs.World as world
use Rattle.world_model.specs.Effect as world_effect
use Rattle.threadlet_code.specs.Breaches.{is_sound}
use Rattle.threadlet_code.specs.Machine.{State}
use Rattle.core_model.specs.Contexts.{Context}
use Rattle.core_model.specs.Nodes.{Setup, Node}
use Rattle.core_model.specs.Nodes as node
use Rattle.core_model.specs.Effects.{quiet, effect}
use Rattle.core_model.specs.Core.{Core, setting_of}
use Rattle.core_model.specs.Agreement.{cursor_home}
use Rattle.core_model.proofs.Invariant.Links.{part-kept}
use Rattle.core_model.proofs.Invariant.Sums.{total-zero}
use Rattle.core_model.proofs.Invariant.Statement.{Invariant}
use Rattle.core_model.proofs.Actions.DueContext.{Before, settled}
use Rattle.core_model.proofs.Actions.DoneOrRefused.{InWorld}
use Rattle.core_model.proofs.Actions.StayOrLeave.{granted-as, changed_at}
use Rattle.core_model.proofs.Actions.Grants.{granted-there}
use Rattle.core_model.proofs.Actions.WordActions.{Shares, issued_to, gone_on, IsPlain}

-- ---- what is shared

module _ (u : Setup) (c : Core) (w : World) (inv : Invariant u c w) (k : ℕ) (v' : Node) where
  pub same_cells : v'.cells ≡ (c.nodes k).cells → (j : ℕ) (a : ℤ) → j < u.nodelets → (changed_at c k v' j).cells a ≡ w.cells j a
  same_cells e j a less = part-kept (λ (y : Node). y.cells a) c.nodes k v' (ap (λ f. f a) e) j ∙ inv.shares.cells j a less

  pub same_granted : v'.granted ≡ (c.nodes k).granted → (base : World) → base.grants ≡ w.grants → (j : ℕ) (a : ℤ) → j < u.nodelets → node.is_granted u.rules (changed_at c k v' j) a ≡ world.is_granted u.rules base j a
  same_granted e base f j a less = part-kept (λ (y : Node). node.is_granted u.rules y a) c.nodes k v' (granted-as u (c.nodes k) v' a e) j ∙ inv.shares.granted j a less ∙ granted-there u.rules w base j a f

  pub same_cursors : v'.cursors ≡ (c.nodes k).cursors → (view : ℕ) → (changed_at c k v' (cursor_home view)).cursors view ≡ w.cursors view
  same_cursors e view = part-kept (λ (y : Node). y.cursors view) c.nodes k v' (ap (λ f. f view) e) (cursor_home view) ∙ inv.shares.cursors view

  pub same_pieces : v'.pieces ≡ (c.nodes k).pieces → (changed_at c k v' 0).pieces ≡ w.pieces
  same_pieces e = part-kept (λ (y : Node). y.pieces) c.nodes k v' e 0 ∙ inv.shares.pieces

  pub same_turns : v'.served ≡ (c.nodes k).served → (j : ℕ) → j < u.nodelets → (changed_at c k v' j).served ≡ w.turns j
  same_turns e j less = part-kept (λ (y : Node). y.served) c.nodes k v' e j ∙ inv.shares.turns j less

-- nothing that is shared changes
pub all_same : (u : Setup) (c : Core) (w : World) (inv : Invariant u c w) (k : ℕ) → Shares u c k (c.nodes k) w
all_same u c w inv k = record {
  cells = same_cells u c w inv k (c.nodes k) refl;
  granted = same_granted u c w inv k (c.nodes k) refl w refl;
  cursors = same_cursors u c w inv k (c.nodes k) refl;
  pieces = same_pieces u c w inv k (c.nodes k) refl;
  turns = same_turns u c w inv k (c.nodes k) refl;
}

-- one word is another in both
pub word_cells : (u : Setup) (c : Core) (w : World) (inv : Invariant u c w) (k : ℕ) (v' : Node) (a x y : ℤ) → k < u.nodelets → v'.cells ≡ (node.with_word (c.nodes k) a x).cells → x ≡ y →
    (j : ℕ) (d : ℤ) → j < u.nodelets → (changed_at c k v' j).cells d ≡ (world.with_word w k a y).cells j d
word_cells u c w inv k v' a x y inside is same j d less = go (j == k) refl
  where
    go : (t : Bool) → (j == k) ≡ t → (if t then v' else c.nodes j).cells d ≡ (if t && same_word d a then y else w.cells j d)
    go true e = ap (λ f. f d) is ∙ ap (λ z. if same_word d a then z else (c.nodes k).cells d) same
        ∙ ap (λ z. if same_word d a then y else z) (ap (λ i. (c.nodes i).cells d) (sym (eqb-true _ _ e)) ∙ inv.shares.cells j d less)
    go false e = inv.shares.cells j d less

-- ---- effects that send nothing

pub no_issue : (n k d : ℕ) → issued_to n k (λ e. []) d ≡ []
no_issue n k d = go (is_linked n k d)
  where
    go : (t : Bool) → (if t then (let l : List Item = [] in l) else []) ≡ []
    go true = refl
    go false = refl

module _ (u : Setup) (sound : is_sound u.code ≡ true) (c : Core) (w : World) (inv : Invariant u c w) (k : ℕ) (q : Name) (x : Context) (state : State) where
  abbrev v : Node
  v = c.nodes k

  pub quiet_plain : (action : Action) (b : Before u c w inv k q x state action) (v' : Node) (answer : List ℤ) (base : World) →
      v'.contexts ≡ v.contexts → v'.results ≡ v.results → v'.next_number ≡ v.next_number → v'.main_value ≡ v.main_value → v'.under_way ≡ v.under_way → base.strands ≡ w.strands →
      world_effect.effect (setting_of u) w q b.s None action ≡ Some (with_strand base q (gone_on u sound c w inv k q x state action b b.s.pending answer)) → Shares u c k v' base →
      ((d : ℕ) → children_after action (λ f. length (children_at f b.s.children)) d ≡ length (children_at d b.s.children)) → IsPlain u sound c w inv k q x state action b (quiet v' answer)
  quiet_plain action b v' answer base e1 e2 e3 e4 e5 strands is shares children = record {
    out = λ d. [];
    contexts = e1;
    results = e2;
    next_number = e3;
    main_value = e4;
    counts = λ r ne. ap (λ f. f r) e5;
    raised = ap (λ f. f x.name) e5 ∙ (let z = total-zero u.nodelets (λ d. length (issued_to u.nodelets k (λ e. []) d)) (λ d. ap length (no_issue u.nodelets k d)) in omega arith);
    sends = λ d. refl;
    child = refl;
    base = base;
    pending = b.s.pending;
    strands = strands;
    adds = λ d. sym (append-nil (b.s.pending d)) ∙ ap (λ l. b.s.pending d ++ l) (sym (no_issue u.nodelets k d));
    is = is;
    shares = shares;
    children = children;
  }

  pub turn_plain : (b : Before u c w inv k q x state Turn) → IsPlain u sound c w inv k q x state Turn b (effect u k v x state Turn)
  turn_plain b = quiet_plain Turn b (node.with_turn v) [] (world.with_turn w k) refl refl refl refl refl refl
      (ap (λ p. Some (world_effect.goes_on (world.with_turn w p) q b.s p [])) (settled u sound c w inv k q x state Turn b (λ y. refl)))
      (record {
        cells = same_cells u c w inv k (node.with_turn v) refl;
        granted = same_granted u c w inv k (node.with_turn v) refl (world.with_turn w k) refl;
        cursors = same_cursors u c w inv k (node.with_turn v) refl;
        pieces = same_pieces u c w inv k (node.with_turn v) refl;
        turns = turns;
      })
      (λ d. refl)
    where
      turns : (j : ℕ) → j < u.nodelets → (changed_at c k (node.with_turn v) j).served ≡ world.with_at w.turns k (suc (w.turns k)) j
      turns j less = go (j == k)
        where
          go : (t : Bool) → (if t then node.with_turn v else c.nodes j).served ≡ (if t then suc (w.turns k) else w.turns j)
          go true = ap suc (inv.shares.turns k b.inside)
          go false = inv.shares.turns j less

  pub fence_plain : (b : Before u c w inv k q x state Fence) → IsPlain u sound c w inv k q x state Fence b (effect u k v x state Fence)
  fence_plain b = quiet_plain Fence b v [] w refl refl refl refl refl refl
      (ap (λ p. Some (world_effect.goes_on w q b.s p [])) (settled u sound c w inv k q x state Fence b (λ y. refl))) (all_same u c w inv k) (λ d. refl)

  pub where_plain : (b : Before u c w inv k q x state Where) → IsPlain u sound c w inv k q x state Where b (effect u k v x state Where)
  where_plain b = quiet_plain Where b v (pos k ∷ []) w refl refl refl refl refl refl
      (ap (λ p. Some (world_effect.goes_on w q b.s p (pos p ∷ []))) (settled u sound c w inv k q x state Where b (λ y. refl))) (all_same u c w inv k) (λ d. refl)

  pub move_plain : (at : Pos) (a : ℤ) (b : Before u c w inv k q x state (Move at a)) → InWorld u sound c w inv k q x state (Move at a) b →
      IsPlain u sound c w inv k q x state (Move at a) b (effect u k v x state (Move at a))
  move_plain at a b i = quiet_plain (Move at a) b v [] w refl refl refl refl refl refl
      (ap (λ p. Some (world_effect.goes_on w q b.s p [])) i.goes) (all_same u c w inv k) (λ d. refl)

  pub print_plain : (bytes : List ℕ) (b : Before u c w inv k q x state (Print bytes)) → InWorld u sound c w inv k q x state (Print bytes) b →
      IsPlain u sound c w inv k q x state (Print bytes) b (effect u k v x state (Print bytes))
  print_plain bytes b i = quiet_plain (Print bytes) b (node.with_piece v bytes) [] (world.with_piece w bytes) refl refl refl refl refl refl
      (ap (λ p. Some (world_effect.goes_on (world.with_piece w bytes) q b.s p [])) i.goes)
      (record {
        cells = same_cells u c w inv k (node.with_piece v bytes) refl;
        granted = same_granted u c w inv k (node.with_piece v bytes) refl (world.with_piece w bytes) refl;
        cursors = same_cursors u c w inv k (node.with_piece v bytes) refl;
        pieces = ap (λ (t : Bool). (if t then node.with_piece v bytes else c.nodes 0).pieces) (eq-eqb 0 k i.goes)
            ∙ ap (λ l. l ++ bytes ∷ []) (ap (λ j. (c.nodes j).pieces) (sym i.goes) ∙ inv.shares.pieces);
        turns = same_turns u c w inv k (node.with_piece v bytes) refl;
      })
      (λ d. refl)

  pub load_plain : (at : Pos) (a : ℤ) (b : Before u c w inv k q x state (Load at a)) → InWorld u sound c w inv k q x state (Load at a) b →
      IsPlain u sound c w inv k q x state (Load at a) b (effect u k v x state (Load at a))
  load_plain at a b i = quiet_plain (Load at a) b v (v.cells a ∷ []) w refl refl refl refl refl refl
      (ap (λ p. Some (world_effect.goes_on w q b.s p (w.cells p a ∷ []))) i.goes
      ∙ ap (λ y. Some (world_effect.goes_on w q b.s k (y ∷ []))) (sym (inv.shares.cells k a b.inside)))
      (all_same u c w inv k) (λ d. refl)

  pub fetch_plain : (at : Pos) (f : FetchOp) (a : ℤ) (b : Before u c w inv k q x state (Fetch at f a)) → InWorld u sound c w inv k q x state (Fetch at f a) b →
      IsPlain u sound c w inv k q x state (Fetch at f a) b (effect u k v x state (Fetch at f a))
  fetch_plain at f a b i = quiet_plain (Fetch at f a) b v' (v.cells a ∷ []) base refl refl refl refl refl refl
      (ap (λ p. Some (world_effect.goes_on (world.with_word w p a (fetched f (w.cells p a))) q b.s p (w.cells p a ∷ []))) i.goes
      ∙ ap (λ y. Some (world_effect.goes_on base q b.s k (y ∷ []))) (sym (inv.shares.cells k a b.inside)))
      (record {
        cells = word_cells u c w inv k v' a (fetched f (v.cells a)) (fetched f (w.cells k a)) b.inside refl (ap (fetched f) (inv.shares.cells k a b.inside));
        granted = same_granted u c w inv k v' refl base refl;
        cursors = same_cursors u c w inv k v' refl;
        pieces = same_pieces u c w inv k v' refl;
        turns = same_turns u c w inv k v' refl;
      })
      (λ d. refl)
    where
      v' : Node
      v' = node.with_word v a (fetched f (v.cells a))

      base : World
      base = world.with_word w k a (fetched f (w.cells k a))
