-- Where no step made a strand trapped none of the world's strands has trapped.
use Rattle.std.proofs.Common.{◌≡◌, List, [], ◌∷◌, Option, Some, None, refl, sym, ap, ◌∙◌, subst, Bool, true, false, ⊎_elim, filter_map, option_and_then}
use Rattle.std.specs.Prelude.{if◌then◌else◌}
use Rattle.std.specs.Option.{option_map_or}
use Rattle.word_ops.specs.declared.name.Name.{Name}
use Rattle.word_ops.specs.declared.step.Step.{Step}
use Rattle.word_ops.specs.declared.step.Step.TheVariants.{Act, Apply}
use Rattle.word_ops.specs.declared.ending.End.{End}
use Rattle.word_ops.specs.Naming.{same_name}
use Rattle.merge_law.proofs.Somes.{some_is}
use Rattle.world_model.specs.World.{Setting, Status, Live, Ended, Trapped, Strand, World, main_name, lookup, strand_of, with_entry}
use Rattle.world_model.specs.Effect.{newborn}
use Rattle.world_model.specs.Step.{applied_at, step}
use Rattle.world_model.specs.Run.{Transition, transitions, trap_in, trap_by, start, run_from, run_of}
use Rattle.world_model.proofs.Names.{name_cases, lookup-same, lookup-other}
use Rattle.world_model.proofs.Steps.{Acted, acted_by, strand_beside}
use Rattle.core_model.proofs.Invariant.Links.{with_first}
use Rattle.core_model.proofs.NotStuck.Lineage.{Keeps, item_keeps}

-- it lives or has ended
abbrev pub IsWell : Status → Type 0
IsWell Live = Unit {0}
IsWell (Ended value) = Unit {0}
IsWell (Trapped kind at) = ⊥

abbrev pub AllWell : World → Type 0
AllWell w = (q : Name) (s : Strand) → strand_of w q ≡ Some s → IsWell s.status

untrapped : (name : Name) (t : Status) → trap_in name t ≡ None → IsWell t
untrapped name Live e = tt
untrapped name (Ended value) e = tt
untrapped name (Trapped kind at) e = absurd cc

act_well : (u : Setting) (w v : World) (name : Name) (child : Option Name) → AllWell w → trap_by (Act name child) v ≡ None → Acted u w name child v → AllWell v
act_well u w v name child well none a q s found = ⊎_elim itself other (name_cases q name)
  where
    itself : q ≡ name → IsWell s.status
    itself is = untrapped name s.status (sym (ap (option_and_then (λ (y : Strand). trap_in name y.status)) (ap (strand_of v) (sym is) ∙ found)) ∙ none)

    other : (same_name q name ≡ false) × (same_name name q ≡ false) → IsWell s.status
    other ne = ⊎_elim
        (λ r. well q s (sym (strand_beside v w name _ q r.is ne.0) ∙ found))
        (λ d. ⊎_elim
        (λ same. well q s (sym (strand_beside v d.shape.base name d.shape.after q d.shape.is ne.0 ∙ same) ∙ found))
        (λ born. subst (λ (y : Strand). IsWell y.status) (some_is _ s (sym (strand_beside v d.shape.base name d.shape.after q d.shape.is ne.0 ∙ born.after) ∙ found)) tt)
        (d.shape.others q))
        a.outcome

apply_well : (w v : World) (name : Name) (t : Strand) → lookup name w.strands ≡ Some t → AllWell w → Keeps w name t v → AllWell v
apply_well w v name t is well h q s found = ⊎_elim
    (λ same. let written : Some h.after ≡ Some s = sym (ap (λ p. lookup p (with_entry name h.after w.strands)) same ∙ lookup-same name h.after w.strands) ∙ now in
    subst (λ (y : Strand). IsWell y.status) (some_is h.after s written) (subst (λ (y : Status). IsWell y) (sym h.status) (well name t is)))
    (λ ne. well q s (sym (lookup-other q name h.after w.strands ne.0) ∙ now))
    (name_cases q name)
  where
    now : lookup q (with_entry name h.after w.strands) ≡ Some s
    now = ap (lookup q) (sym h.is) ∙ found

step_well : (u : Setting) (w v : World) (t : Step) → step u w t ≡ Some v → trap_by t v ≡ None → AllWell w → AllWell v
step_well u w v (Act name child) e none well = act_well u w v name child well none (acted_by u w name child v e)
step_well u w v (Apply name k) e none well = go (strand_of w name) refl e
  where
    go : (o : Option Strand) → strand_of w name ≡ o → option_and_then (λ s. applied_at u w name s k (s.pending k)) o ≡ Some v → AllWell v
    go None f g = absurd cc
    go (Some s) f g = apply_well w v name s f well (item_keeps u w name s k (s.pending k) v g)

-- the traps that steps from a world on make
abbrev pub traps : Setting → World → List Step → List End
traps u w told = filter_map (λ (t : Transition). trap_by t.done t.after) (transitions u w told)

run_well : (u : Setting) (told : List Step) (w v : World) → AllWell w → traps u w told ≡ [] → run_from u w told ≡ Some v → AllWell v
run_well u [] w v well none e = subst (λ (y : World). AllWell y) (some_is w v e) well
run_well u (t ∷ told) w v well none e = go (λ x f g h. run_well u told x v f g h) (step u w t) refl e
  where
    both : (x : World) (o : Option End) → trap_by t x ≡ o → with_first o (traps u x told) ≡ [] → (trap_by t x ≡ None) × (traps u x told ≡ [])
    both x None f g = (f, g)
    both x (Some z) f g = absurd cc

    go : ((x : World) → AllWell x → traps u x told ≡ [] → run_from u x told ≡ Some v → AllWell v) →
        (o : Option World) → step u w t ≡ o → option_and_then (λ x. run_from u x told) o ≡ Some v → AllWell v
    go ih None is f = absurd cc
    go ih (Some x) is f =
        let rest = both x (trap_by t x) refl (sym (ap (λ (o : Option World). filter_map (λ (y : Transition). trap_by y.done y.after) (option_map_or (λ z. record { before = w; done = t; after = z } ∷ transitions u z told) o [])) is) ∙ none) in
        ih x (step_well u w x t is rest.0 well) rest.1 f

-- so in every run
pub none_trapped : (u : Setting) (told : List Step) (w : World) → run_of u told ≡ Some w → traps u (start u) told ≡ [] → AllWell w
none_trapped u told w run none = run_well u told (start u) w begins none run
  where
    begins : AllWell (start u)
    begins q s found = go (same_name q main_name) found
      where
        go : (t : Bool) → (if t then Some (newborn u.meaning.main [] 0) else None) ≡ Some s → IsWell s.status
        go true e = subst (λ (y : Strand). IsWell y.status) (some_is _ s e) tt
        go false e = absurd cc
