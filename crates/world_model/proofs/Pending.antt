-- What is pending is what was issued and has not been applied.
use Rattle.std.proofs.Common.{◌≡◌, ℕ, List, [], ◌∷◌, ◌++◌, take, Option, Some, None, refl, sym, ap, ◌∙◌, subst, Bool, true, false, ⊎_elim}
use Rattle.std.specs.Prelude.{if◌then◌else◌, ◌==◌, ◌&&◌, is_some, option_and_then}
use Rattle.std.specs.Option.{option_map_or}
use Rattle.std.proofs.lemmas.Bool.{eqb-true}
use Rattle.std.proofs.lemmas.List.{append-nil, append_assoc}
use Rattle.word_ops.specs.declared.name.Name.{Name}
use Rattle.word_ops.specs.declared.step.Step.{Step}
use Rattle.word_ops.specs.declared.step.Step.TheVariants.{Act, Apply}
use Rattle.word_ops.specs.Naming.{same_name}
use Rattle.world_model.specs.Action.{Action}
use Rattle.world_model.specs.World.{Setting, Item, Strand, World, main_name, lookup, strand_of, with_trap}
use Rattle.world_model.specs.Step.{due, Refusal, refusal_of, step}
use Rattle.world_model.specs.Run.{run_from, run_of, start, transitions}
use Rattle.world_model.specs.Effect.{newborn}
use Rattle.world_model.specs.Traffic.{effective}
use Rattle.world_model.specs.Laws.{left_by, issued_by_step, applied_by_step, issued_by_run, applied_by_run}
use Rattle.world_model.proofs.Names.{same_name_refl, name_cases}
use Rattle.world_model.proofs.Shapes.{Shape, Born}
use Rattle.world_model.proofs.Steps.{Refused, Done, Acted, acted_by, Applied, applied_by, strand_after, strand_beside}

-- what a strand has pending at a nodelet, and nothing where there is no such strand
abbrev pub pending_of : World → Name → ℕ → List Item
pending_of w q k = option_map_or (λ s. s.pending k) (strand_of w q) []

pending_is : (w : World) (q : Name) (k : ℕ) (s : Strand) → strand_of w q ≡ Some s → pending_of w q k ≡ s.pending k
pending_is w q k s is = ap (λ o. option_map_or (λ (x : Strand). x.pending k) o []) is

pending_alike : (w v : World) (q : Name) (k : ℕ) → strand_of v q ≡ strand_of w q → pending_of v q k ≡ pending_of w q k
pending_alike w v q k is = ap (λ o. option_map_or (λ (x : Strand). x.pending k) o []) is

-- the action that had its effect, or none
effective_is : (u : Setting) (w : World) (s : Strand) (action : Action) (r : Option Refusal) → due u s ≡ Some action → refusal_of u w s action ≡ r →
    effective u w s ≡ (if is_some r then None else Some action)
effective_is u w s action r is_due is = rw is_due (ap (λ o. if is_some o then None else Some action) is)

-- what the acting strand issued
issued_is : (u : Setting) (w : World) (q : Name) (k : ℕ) (child : Option Name) (s : Strand) (o : Option Action) → strand_of w q ≡ Some s → effective u w s ≡ o →
    issued_by_step u q k w (Act q child) ≡ option_map_or (λ action. left_by u w s action k) o []
issued_is u w q k child s o is works =
    ap (λ t. if t then option_map_or (λ x. option_map_or (λ action. left_by u w x action k) (effective u w x) []) (strand_of w q) [] else []) (same_name_refl q)
    ∙ ap (λ p. option_map_or (λ x. option_map_or (λ action. left_by u w x action k) (effective u w x) []) p []) is
    ∙ ap (λ p. option_map_or (λ action. left_by u w s action k) p []) works

-- the acting strand
own_step : (u : Setting) (w v : World) (q : Name) (child : Option Name) (k : ℕ) → Acted u w q child v → pending_of w q k ++ issued_by_step u q k w (Act q child) ≡ pending_of v q k
own_step u w v q child k a = ⊎_elim refused done a.outcome
  where
    refused : Refused u w q a.strand child a.action v → pending_of w q k ++ issued_by_step u q k w (Act q child) ≡ pending_of v q k
    refused r =
        let none : issued_by_step u q k w (Act q child) ≡ [] = issued_is u w q k child a.strand None a.found (effective_is u w a.strand a.action (Some r.refusal) a.due_is r.why) in
        let before : pending_of w q k ≡ a.strand.pending k = pending_is w q k a.strand a.found in
        let after : pending_of v q k ≡ a.strand.pending k = pending_is v q k (with_trap a.strand r.refusal.place r.refusal.kind r.refusal.pos) (strand_after v w q _ r.is) in
        ap (λ items. pending_of w q k ++ items) none ∙ append-nil (pending_of w q k) ∙ before ∙ sym after

    done : Done u w q a.strand child a.action v → pending_of w q k ++ issued_by_step u q k w (Act q child) ≡ pending_of v q k
    done d =
        let more : issued_by_step u q k w (Act q child) ≡ left_by u w a.strand a.action k = issued_is u w q k child a.strand (Some a.action) a.found (effective_is u w a.strand a.action None a.due_is d.good) in
        let before : pending_of w q k ≡ a.strand.pending k = pending_is w q k a.strand a.found in
        let after : pending_of v q k ≡ d.shape.after.pending k = pending_is v q k d.shape.after (strand_after v d.shape.base q d.shape.after d.shape.is) in
        ap (λ items. pending_of w q k ++ items) more ∙ ap (λ items. items ++ left_by u w a.strand a.action k) before ∙ sym (d.shape.pending k) ∙ sym after

-- any other strand, where one acts
other_step : (u : Setting) (w v : World) (name : Name) (child : Option Name) (q : Name) (k : ℕ) → same_name q name ≡ false → Acted u w name child v → pending_of v q k ≡ pending_of w q k
other_step u w v name child q k ne a = ⊎_elim
    (λ r. pending_alike w v q k (strand_beside v w name (with_trap a.strand r.refusal.place r.refusal.kind r.refusal.pos) q r.is ne))
    (λ d. pending_alike d.shape.base v q k (strand_beside v d.shape.base name d.shape.after q d.shape.is ne) ∙ in_base d.shape)
    a.outcome
  where
    in_base : (p : Shape u w name a.strand a.action v) → pending_of p.base q k ≡ pending_of w q k
    in_base p = ⊎_elim (λ e. pending_alike w p.base q k e)
        (λ (b : Born u w a.strand a.action p.base q). pending_is p.base q k _ b.after ∙ sym (ap (λ o. option_map_or (λ (x : Strand). x.pending k) o []) b.before))
        (p.others q)

-- the strand of which an item is applied
abbrev TakenAt : World → Name → ℕ → Bool → List Item
TakenAt w q j t = if t then option_map_or (λ (s : Strand). take 1 (s.pending j)) (strand_of w q) [] else []

own_apply : (u : Setting) (w v : World) (q : Name) (j k : ℕ) → Applied u w q j v → pending_of w q k ≡ TakenAt w q j (k == j) ++ pending_of v q k
own_apply u w v q j k a = go (k == j) refl
  where
    before : pending_of w q k ≡ a.strand.pending k
    before = pending_is w q k a.strand a.found

    after : pending_of v q k ≡ a.after.pending k
    after = pending_is v q k a.after (strand_after v a.base q a.after a.is)

    left : (t : Bool) → (k == j) ≡ t → a.after.pending k ≡ (if t then a.items else a.strand.pending k)
    left t f = ap (λ (g : ℕ → List Item). g k) a.pending ∙ ap (λ b. if b then a.items else a.strand.pending k) f

    go : (t : Bool) → (k == j) ≡ t → pending_of w q k ≡ TakenAt w q j t ++ pending_of v q k
    go true f =
        let whole : pending_of w q k ≡ a.item ∷ a.items = before ∙ ap a.strand.pending (eqb-true _ _ f) ∙ a.first in
        let taken : TakenAt w q j true ≡ a.item ∷ [] = ap (λ o. option_map_or (λ (s : Strand). take 1 (s.pending j)) o []) a.found ∙ ap (λ items. take 1 items) a.first in
        let rest : pending_of v q k ≡ a.items = after ∙ left true f in
        whole ∙ sym (ap (λ items. items ++ pending_of v q k) taken ∙ ap (λ items. a.item ∷ items) rest)
    go false f = before ∙ sym (after ∙ left false f)

other_apply : (u : Setting) (w v : World) (name : Name) (j : ℕ) (q : Name) (k : ℕ) → same_name q name ≡ false → Applied u w name j v → pending_of v q k ≡ pending_of w q k
other_apply u w v name j q k ne a =
    pending_alike a.base v q k (strand_beside v a.base name a.after q a.is ne) ∙ pending_alike w a.base q k (ap (λ es. lookup q es) a.strands)

-- what was pending, and then what a step issues, is what the step applies, and then what is pending
pub step_pending : (u : Setting) (w v : World) (t : Step) (q : Name) (k : ℕ) → step u w t ≡ Some v →
    pending_of w q k ++ issued_by_step u q k w t ≡ applied_by_step q k w t ++ pending_of v q k
step_pending u w v (Act name child) q k e = ⊎_elim
    (λ is. subst (λ (m : Name). Acted u w m child v → pending_of w q k ++ issued_by_step u q k w (Act m child) ≡ pending_of v q k) is
    (λ a. own_step u w v q child k a) (acted_by u w name child v e))
    (λ ne. ap (λ t. pending_of w q k ++ (if t then option_map_or (λ x. option_map_or (λ action. left_by u w x action k) (effective u w x) []) (strand_of w name) [] else [])) ne.0
    ∙ append-nil (pending_of w q k) ∙ sym (other_step u w v name child q k ne.0 (acted_by u w name child v e)))
    (name_cases q name)
step_pending u w v (Apply name j) q k e = append-nil (pending_of w q k) ∙ ⊎_elim
    (λ is. subst (λ (m : Name). Applied u w m j v → pending_of w q k ≡ TakenAt w m j (same_name q m && k == j) ++ pending_of v q k) is
    (λ a. own_apply u w v q j k a ∙ ap (λ t. TakenAt w q j (t && k == j) ++ pending_of v q k) (sym (same_name_refl q))) (applied_by u w name j v e))
    (λ ne. sym (other_apply u w v name j q k ne.0 (applied_by u w name j v e)) ∙ ap (λ t. TakenAt w name j (t && k == j) ++ pending_of v q k) (sym ne.0))
    (name_cases q name)

chain : (p i more a x b y : List Item) → p ++ i ≡ a ++ x → x ++ more ≡ b ++ y → p ++ (i ++ more) ≡ (a ++ b) ++ y
chain p i more a x b y e1 e2 = sym (append_assoc p i more) ∙ ap (λ l. l ++ more) e1 ∙ append_assoc a x more ∙ ap (λ l. a ++ l) e2 ∙ sym (append_assoc a b y)

-- the same over a run from a world on
pub run_pending : (u : Setting) (told : List Step) (w v : World) (q : Name) (k : ℕ) → run_from u w told ≡ Some v →
    pending_of w q k ++ issued_by_run u q k (transitions u w told) ≡ applied_by_run q k (transitions u w told) ++ pending_of v q k
run_pending u [] w v q k e = append-nil (pending_of w q k) ∙ ap (λ x. pending_of x q k) (let z : w ≡ v = cc in z)
run_pending u (t ∷ told) w v q k e = go (λ x f. run_pending u told x v q k f) (step u w t) refl e
  where
    go : ((x : World) → run_from u x told ≡ Some v → pending_of x q k ++ issued_by_run u q k (transitions u x told) ≡ applied_by_run q k (transitions u x told) ++ pending_of v q k) →
        (o : Option World) → step u w t ≡ o → option_and_then (λ x. run_from u x told) o ≡ Some v →
        pending_of w q k ++ issued_by_run u q k (option_map_or (λ x. record { before = w; done = t; after = x } ∷ transitions u x told) o [])
        ≡ applied_by_run q k (option_map_or (λ x. record { before = w; done = t; after = x } ∷ transitions u x told) o []) ++ pending_of v q k
    go ih None is f = absurd cc
    go ih (Some x) is f = chain (pending_of w q k) (issued_by_step u q k w t) (issued_by_run u q k (transitions u x told)) (applied_by_step q k w t) (pending_of x q k)
        (applied_by_run q k (transitions u x told)) (pending_of v q k) (step_pending u w x t q k is) (ih x f)

-- nothing is pending at the start
start_pending : (u : Setting) (q : Name) (k : ℕ) → pending_of (start u) q k ≡ []
start_pending u q k = elim (same_name q main_name) as (λ t. option_map_or (λ (s : Strand). s.pending k) (if t then Some (newborn u.meaning.main [] 0) else None) [] ≡ []) [ true ↦ refl | false ↦ refl ]

pub pending_is_issued : (u : Setting) (told : List Step) (w : World) (q : Name) (s : Strand) (k : ℕ) → run_of u told ≡ Some w → strand_of w q ≡ Some s →
    issued_by_run u q k (transitions u (start u) told) ≡ applied_by_run q k (transitions u (start u) told) ++ s.pending k
pending_is_issued u told w q s k run is =
    ap (λ items. items ++ issued_by_run u q k (transitions u (start u) told)) (sym (start_pending u q k))
    ∙ run_pending u told (start u) w q k run
    ∙ ap (λ items. applied_by_run q k (transitions u (start u) told) ++ items) (pending_is w q k s is)
