-- Words that are granted at a nodelet and in the world.
use Rattle.std.proofs.Common.{◌≡◌, ℕ, ◌<◌, List, [], ◌∷◌, ◌++◌, refl, sym, ap, ◌∙◌, Bool, true, false, ℤ, ◌||◌}
use Rattle.std.specs.Prelude.{if◌then◌else◌, ◌==◌}
use Rattle.std.specs.List.{list_any}
use Rattle.std.proofs.lemmas.Bool.{eqb-true, eq-eqb}
use Rattle.std.proofs.lemmas.List.Folds.{list_any-append}
use Rattle.word_ops.specs.declared.rules.Rules.{Rules}
use Rattle.word_ops.specs.declared.rules.Rules.TheVariants.{Loose, Checked}
use Rattle.world_model.specs.World.{Extent, World, lies_in}
use Rattle.world_model.specs.World as world
use Rattle.core_model.specs.Nodes.{Setup, Node}
use Rattle.core_model.specs.Nodes as node
use Rattle.core_model.specs.Core.{Core}
use Rattle.core_model.proofs.Invariant.Statement.{Invariant}
use Rattle.core_model.proofs.Actions.StayOrLeave.{granted-as, changed_at}

pub granted-there : (r : Rules) (w base : World) (j : ℕ) (a : ℤ) → base.grants ≡ w.grants → world.is_granted r w j a ≡ world.is_granted r base j a
granted-there Loose w base j a e = refl
granted-there Checked w base j a e = ap (λ (f : ℕ → List Extent). list_any (lies_in a) (f j)) (sym e)

or_false : (t : Bool) → (t || false) ≡ t
or_false true = refl
or_false false = refl

more_granted : (r : Rules) (v : Node) (w : World) (k : ℕ) (extent : Extent) (a : ℤ) → node.is_granted r v a ≡ world.is_granted r w k a →
    node.is_granted r (node.with_grant v extent) a ≡ world.is_granted r (world.with_grant w k extent) k a
more_granted Loose v w k extent a e = refl
more_granted Checked v w k extent a e =
    ap (λ t. t || lies_in a extent) e
    ∙ ap (λ t. list_any (lies_in a) (w.grants k) || t) (sym (or_false (lies_in a extent)))
    ∙ sym (list_any-append (lies_in a) (w.grants k) (extent ∷ []))
    ∙ ap (λ t. list_any (lies_in a) (if t then w.grants k ++ extent ∷ [] else w.grants k)) (sym (eq-eqb k k refl))

not_granted : (r : Rules) (w : World) (j k : ℕ) (extent : Extent) (a : ℤ) → (j == k) ≡ false → world.is_granted r w j a ≡ world.is_granted r (world.with_grant w k extent) j a
not_granted Loose w j k extent a e = refl
not_granted Checked w j k extent a e = ap (λ t. list_any (lies_in a) (if t then w.grants k ++ extent ∷ [] else w.grants j)) (sym e)

-- one more grant in both
pub grant_granted : (u : Setup) (c : Core) (w : World) (inv : Invariant u c w) (k : ℕ) (v' : Node) (extent : Extent) (base : World) → k < u.nodelets → v'.granted ≡ (node.with_grant (c.nodes k) extent).granted →
    base.grants ≡ (world.with_grant w k extent).grants → (j : ℕ) (a : ℤ) → j < u.nodelets → node.is_granted u.rules (changed_at c k v' j) a ≡ world.is_granted u.rules base j a
grant_granted u c w inv k v' extent base inside e f j a less = go (j == k) refl ∙ granted-there u.rules (world.with_grant w k extent) base j a f
  where
    go : (t : Bool) → (j == k) ≡ t → node.is_granted u.rules (if t then v' else c.nodes j) a ≡ world.is_granted u.rules (world.with_grant w k extent) j a
    go true g =
        granted-as u (node.with_grant (c.nodes k) extent) v' a e
        ∙ more_granted u.rules (c.nodes k) w k extent a (inv.shares.granted k a inside)
        ∙ ap (λ i. world.is_granted u.rules (world.with_grant w k extent) i a) (sym (eqb-true _ _ g))
    go false g = inv.shares.granted j a less ∙ not_granted u.rules w j k extent a g
