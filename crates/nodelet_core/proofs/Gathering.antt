-- What a Sync joins that is done here.
use Rattle.std.proofs.Common.{◌≡◌, ◌⊎◌, inl, inr, ℕ, suc, ◌<◌, ◌≤◌, ℤ, List, [], length, Bool, true, false, Option, Some, None, refl, sym, ap, ◌∙◌, arith, subst}
use Rattle.std.specs.Prelude.{if◌then◌else◌, ◌==◌, ◌&&◌, ◌||◌, not, is_some, map, unwrap_or, pos}
use Rattle.std.specs.List.{list_all}
use Rattle.std.proofs.lemmas.Bool.{eqb-true, eq-eqb}
use Rattle.word_ops.specs.declared.name.Name.{Name}
use Rattle.word_ops.specs.Report.{below}
use Rattle.world_model.specs.Action.{Action, Sync}
use Rattle.world_model.specs.Sight.{Sight, can_sync, place_after}
use Rattle.nodelet_core.specs.declared.due.Due.TheVariants as due
use Rattle.nodelet_core.specs.declared.counting.Counted.{Counted}
use Rattle.nodelet_core.specs.code.Dues.{due_of}
use Rattle.core_model.specs.Runs.{DoneHere, way_of, are_recorded}
use Rattle.core_model.specs.Nodes.{Node, without_results}
use Rattle.core_model.specs.Effects.{Effect, quiet, nothing}
use Rattle.nodelet_core.proofs.Found.{both}
use Rattle.nodelet_core.proofs.Seeing.{each_there}
use Rattle.nodelet_core.proofs.Followed.{done_ready}
use Rattle.nodelet_core.proofs.Doing.{Leaves, nothing_counted}

pub is_sync : (action : Action) → due_of action ≡ due.Sync → (d : ℕ) × (action ≡ Sync d)
is_sync (Sync d) e = (d, refl)
is_sync action e = absurd cc

-- A Sync that is done here has no child to join, or all have ended.
sync_ends : (childless ended clear late : Bool) (here home : ℕ) → ((if childless then here else home) == here) ≡ true →
    (childless || (ended && ((here == home) || clear)) || (clear && late && not (here == home))) ≡ true → (childless ≡ true) ⊎ (ended ≡ true)
sync_ends true ended clear late here home stays ready = inl refl
sync_ends false true clear late here home stays ready = inr refl
sync_ends false false clear late here home stays ready =
    let same : (here == home) ≡ true = eq-eqb here home (sym (eqb-true home here stays)) in
    absurd (no_third clear late (here == home) same ready)
  where
    no_third : (clear late at_home : Bool) → at_home ≡ true → (clear && late && not at_home) ≡ true → ⊥
    no_third true true true e f = let wrong : false ≡ true = f in cc
    no_third true false at_home e f = let wrong : false ≡ true = f in cc
    no_third false late at_home e f = let wrong : false ≡ true = f in cc
    no_third true true false e f = let wrong : false ≡ true = e in cc

-- So the results of all children are here.
pub all_gathered : (n turns : ℕ) (s : Sight) (d count : ℕ) (free : Bool) (result : ℕ → Option ℤ) → s.childless d ≡ (count == 0) →
    s.all_ended d ≡ list_all (λ order. is_some (result order)) (below count) → way_of n turns s (Sync d) free ≡ DoneHere →
    (order : ℕ) → order < count → is_some (result order) ≡ true
all_gathered n turns s d count free result none ended done order less =
    let ready = done_ready n turns s (Sync d) free done in
    by (sync_ends (s.childless d) (s.all_ended d) s.clear (is_some s.late) s.here s.home ready.1 (both (can_sync s d) free ready.2).0)
  where
    by : ((s.childless d ≡ true) ⊎ (s.all_ended d ≡ true)) → is_some (result order) ≡ true
    by (inl e) = let zero : count ≡ 0 = eqb-true count 0 (sym none ∙ e) in absurd (omega (arith, zero, less))
    by (inr e) = each_there result count (sym ended ∙ e) order less

-- What a Sync leaves that takes these results.
pub sync_leaves : (n here stamp : ℕ) (v : Node) (name : Name) (depth count d owed : ℕ) (words : List ℤ) → depth ≡ d → count ≡ owed →
    words ≡ map (λ order. unwrap_or (v.results name depth order) (pos 0)) (below count) →
    Leaves n here stamp nothing_counted (without_results v name depth count) words nothing
    (quiet (without_results v name d owed) (map (λ order. unwrap_or (v.results name d order) (pos 0)) (below owed)))
sync_leaves n here stamp v name depth count d owed words same_depth same_count answers =
    subst (λ k. Leaves n here stamp nothing_counted (without_results v name depth count) words nothing
    (quiet (without_results v name k owed) (map (λ order. unwrap_or (v.results name k order) (pos 0)) (below owed)))) same_depth
    (subst (λ k. Leaves n here stamp nothing_counted (without_results v name depth count) words nothing
    (quiet (without_results v name depth k) (map (λ order. unwrap_or (v.results name depth order) (pos 0)) (below k)))) same_count
    (record { node = refl; answer = answers; bodies = refl }))
