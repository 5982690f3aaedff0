-- Grants and operations that are taken from a link.
use Rattle.std.proofs.Common.{◌≡◌, ℕ, ◌<◌, ◌≤◌, List, ◌∷◌, Some, None, refl, sym, ap, ◌∙◌, subst, Bool, true, false, ℤ}
use Rattle.std.specs.Prelude.{if◌then◌else◌}
use Rattle.word_ops.specs.declared.place.Pos.{Pos}
use Rattle.word_ops.specs.declared.name.Name.{Name}
use Rattle.word_ops.specs.declared.step.NodeEvent.{NodeEvent}
use Rattle.mem_atomics.specs.declared.op.Op.{Op}
use Rattle.mem_atomics.specs.NewWord.{applied}
use Rattle.merge_law.specs.Machine.{is_linked}
use Rattle.world_model.specs.World.{Item, Operation, Grant, Extent, World, with_strand, with_at}
use Rattle.world_model.specs.World as world
use Rattle.world_model.specs.Step.{late_after}
use Rattle.core_model.specs.Contexts.{Issued}
use Rattle.core_model.specs.Nodes.{Setup, Node, is_granted}
use Rattle.core_model.specs.Nodes as node
use Rattle.core_model.specs.Effects.{operated}
use Rattle.core_model.specs.Takes.{take}
use Rattle.core_model.specs.Machine.{Packet, packet_of}
use Rattle.core_model.specs.Core.{Core}
use Rattle.core_model.proofs.Invariant.Views.{view, item_of, after_take}
use Rattle.core_model.proofs.Invariant.Links.{parts}
use Rattle.core_model.proofs.Invariant.LatePositions.{lesser, late_after-is}
use Rattle.core_model.proofs.Invariant.Statement.{Invariant}
use Rattle.core_model.proofs.Invariant.OtherStrands.{Kept}
use Rattle.core_model.proofs.Actions.Grants.{grant_granted}
use Rattle.core_model.proofs.Actions.WordActions.{Shares}
use Rattle.core_model.proofs.Events.QuietActions.{same_cells, same_granted, same_cursors, same_pieces, same_turns, word_cells}
use Rattle.core_model.proofs.Events.TakeItem.{HasItem, the_item, item_kept}

module _ (u : Setup) (c : Core) (w : World) (inv : Invariant u c w) (from k : ℕ) (linked : is_linked u.nodelets k from ≡ true) (inside : k < u.nodelets) (some : 1 ≤ u.nodelets) (stamp : ℕ) (event : ℕ → NodeEvent)
    (sent_at : ℕ) (q : Name) (left : List Packet) where
  abbrev v : Node
  v = c.nodes k

  -- a grant is added
  pub grant_kept : (extent : Extent) → c.links from k ≡ packet_of sent_at (Issued q (Grant extent)) ∷ left →
      Kept u w (after_take u c from k left stamp event (take u k v from (Issued q (Grant extent)))) (take u k v from (Issued q (Grant extent))).step
  grant_kept extent first = item_kept u c w inv from k linked inside some stamp event sent_at q (Grant extent) left first
      (the_item u c w inv from k linked inside some stamp event sent_at q (Grant extent) left first).s.late (world.with_grant w k extent) refl refl refl refl refl refl refl refl
      (record {
        cells = same_cells u c w inv k (node.with_grant v extent) refl;
        granted = grant_granted u c w inv k (node.with_grant v extent) extent (world.with_grant w k extent) inside refl refl;
        cursors = same_cursors u c w inv k (node.with_grant v extent) refl;
        pieces = same_pieces u c w inv k (node.with_grant v extent) refl;
        turns = same_turns u c w inv k (node.with_grant v extent) refl;
      })

  -- an operation is applied, or makes its strand late
  pub operation_kept : (op : Op) (a word : ℤ) (at : Pos) → c.links from k ≡ packet_of sent_at (Issued q (Operation op a word at)) ∷ left →
      Kept u w (after_take u c from k left stamp event (take u k v from (Issued q (Operation op a word at)))) (take u k v from (Issued q (Operation op a word at))).step
  operation_kept op a word at first = go (is_granted u.rules v a) refl
    where
      item : Item
      item = Operation op a word at

      h : HasItem u inv.tickets (view c q) q (world.strand_of w q) from k item (parts (item_of q) left)
      h = the_item u c w inv from k linked inside some stamp event sent_at q item left first

      l : List Item
      l = parts (item_of q) left

      stored : World
      stored = world.with_word w k a (applied op (w.cells k a) word)

      choose : Bool → World
      choose t = if t then with_strand stored q (record h.s { pending = with_at h.s.pending k l }) else with_strand w q (record h.s { pending = with_at h.s.pending k l; late = Some (late_after h.s.late at) })

      there : (t : Bool) → is_granted u.rules v a ≡ t → world.is_granted u.rules w k a ≡ t
      there t e = sym (inv.shares.granted k a inside) ∙ e

      go : (t : Bool) → is_granted u.rules v a ≡ t → Kept u w (after_take u c from k left stamp event (take u k v from (Issued q item))) (take u k v from (Issued q item)).step
      go true e = item_kept u c w inv from k linked inside some stamp event sent_at q item left first h.s.late stored
          (ap (λ (y : Node). y.contexts) is) (ap (λ (y : Node). y.under_way) is) (ap (λ (y : Node). y.results) is) (ap (λ (y : Node). y.next_number) is) (ap (λ (y : Node). y.main_value) is) refl
          (sym (ap (λ t. lesser (if t then None else Some at) h.s.late) e)) (ap (λ t. Some (choose t)) (there true e))
          (subst (λ (y : Node). Shares u c k y stored) (sym is) (record {
            cells = word_cells u c w inv k v' a (applied op (v.cells a) word) (applied op (w.cells k a) word) inside refl (ap (λ y. applied op y word) (inv.shares.cells k a inside));
            granted = same_granted u c w inv k v' refl stored refl;
            cursors = same_cursors u c w inv k v' refl;
            pieces = same_pieces u c w inv k v' refl;
            turns = same_turns u c w inv k v' refl;
          }))
        where
          v' : Node
          v' = operated v op a word

          is : (if is_granted u.rules v a then operated v op a word else node.applied_here v) ≡ v'
          is = ap (λ t. if t then operated v op a word else node.applied_here v) e
      go false e = item_kept u c w inv from k linked inside some stamp event sent_at q item left first (Some (late_after h.s.late at)) w
          (ap (λ (y : Node). y.contexts) is) (ap (λ (y : Node). y.under_way) is) (ap (λ (y : Node). y.results) is) (ap (λ (y : Node). y.next_number) is) (ap (λ (y : Node). y.main_value) is) refl
          (late_after-is h.s.late at ∙ sym (ap (λ t. lesser (if t then None else Some at) h.s.late) e)) (ap (λ t. Some (choose t)) (there false e))
          (subst (λ (y : Node). Shares u c k y w) (sym is) (record {
            cells = same_cells u c w inv k (node.applied_here v) refl;
            granted = same_granted u c w inv k (node.applied_here v) refl w refl;
            cursors = same_cursors u c w inv k (node.applied_here v) refl;
            pieces = same_pieces u c w inv k (node.applied_here v) refl;
            turns = same_turns u c w inv k (node.applied_here v) refl;
          }))
        where
          is : (if is_granted u.rules v a then operated v op a word else node.applied_here v) ≡ node.applied_here v
          is = ap (λ t. if t then operated v op a word else node.applied_here v) e
