-- The first trap that entries tell of, at any nodelet and at each.
use Rattle.std.proofs.Common.{◌≡◌, ℕ, suc, ◌<◌, ◌⊎◌, inl, inr, List, [], ◌∷◌, length, Option, Some, None, refl, sym, ap, ◌∙◌, arith, Bool, true, false, filter_map, option_map, option_and_then, AllPairs}
use Rattle.std.specs.Prelude.{if◌then◌else◌, ◌==◌, slice_get, slice_index_or}
use Rattle.std.specs.Option.{option_map_or}
use Rattle.std.proofs.lemmas.Bool.{eqb-true}
use Rattle.word_ops.specs.declared.name.Name.{Name}
use Rattle.word_ops.specs.declared.step.Step.{Step}
use Rattle.word_ops.specs.declared.step.Step.TheVariants.{Act, Apply}
use Rattle.word_ops.specs.declared.ending.End.{End}
use Rattle.merge_law.specs.Events.{Placed}
use Rattle.merge_law.specs.Merge.{steps_of}
use Rattle.merge_law.proofs.Somes.{some_is, same_number}
use Rattle.merge_law.proofs.Pairs.{Each, Pairwise}
use Rattle.world_model.specs.World.{Setting, Status, Live, Ended, Trapped, Strand, World, strand_of}
use Rattle.world_model.specs.Step.{step}
use Rattle.world_model.specs.Run.{Transition, transitions, trap_in, trap_by}
use Rattle.core_model.specs.declared.trapped.Trapped.{Trapped as Kept}
use Rattle.core_model.specs.Reached.{Reached, stepped, reached, kept_trap, trapped_in, trapped_at, first_trapped}
use Rattle.core_model.specs.CoreEnd.{end_by}
use Rattle.core_model.proofs.Invariant.Links.{with_first}

-- the trap that an entry tells of, at whatever nodelet
abbrev pub trap_of : Reached → Option Kept
trap_of r = trapped_in r.entry.entry.stamp r.world r.entry.entry.step

abbrev pub first_told : List Reached → Option Kept
first_told rs = slice_get (filter_map trap_of rs) 0

-- ---- it is the first trap of the run

abbrev first_by : Setting → World → List Step → Option End
first_by on w told = slice_get (filter_map (λ (t : Transition). trap_by t.done t.after) (transitions on w told)) 0

-- a step tells the trap that it makes, and else the next one does
one_told : (t : Step) (v : World) (stamp : ℕ) (es : List End) (ts : List Kept) → slice_get es 0 ≡ option_map end_by (slice_get ts 0) →
    slice_get (with_first (trap_by t v) es) 0 ≡ option_map end_by (slice_get (with_first (trapped_in stamp v (Some t)) ts) 0)
one_told (Apply name k) v stamp es ts rest = rest
one_told (Act name child) v stamp es ts rest = go (strand_of v name)
  where
    by : (status : Status) → slice_get (with_first (trap_in name status) es) 0 ≡ option_map end_by (slice_get (with_first (kept_trap stamp name status) ts) 0)
    by Live = rest
    by (Ended value) = rest
    by (Trapped kind at) = refl

    go : (o : Option Strand) → slice_get (with_first (option_and_then (λ s. trap_in name s.status) o) es) 0
        ≡ option_map end_by (slice_get (with_first (option_and_then (λ s. kept_trap stamp name s.status) o) ts) 0)
    go None = rest
    go (Some s) = by s.status

pub traps_same : (on : Setting) (told : List Placed) (w : World) → first_by on w (steps_of told) ≡ option_map end_by (first_told (reached on w told))
traps_same on [] w = refl
traps_same on (x ∷ told) w = go x.entry.step refl (λ v. traps_same on told v)
  where
    here : World → Reached
    here v = record { entry = x; world = v }

    go : (o : Option Step) → x.entry.step ≡ o → ((v : World) → first_by on v (steps_of told) ≡ option_map end_by (first_told (reached on v told))) →
        first_by on w (steps_of (x ∷ told)) ≡ option_map end_by (first_told (reached on w (x ∷ told)))
    go None e ih =
        ap (λ (o : Option Step). first_by on w (with_first o (steps_of told))) e
        ∙ ih w
        ∙ ap (λ (o : Option Step). option_map end_by (slice_get (with_first (trapped_in x.entry.stamp w o) (filter_map trap_of (reached on w told))) 0)) (sym e)
        ∙ ap (λ (o : Option Step). option_map end_by (first_told (option_map_or (λ v. here v ∷ reached on v told) (stepped on w o) []))) (sym e)
    go (Some t) e ih =
        ap (λ (o : Option Step). first_by on w (with_first o (steps_of told))) e
        ∙ at (step on w t)
        ∙ ap (λ (o : Option World). option_map end_by (first_told (option_map_or (λ v. here v ∷ reached on v told) o []))) (ap (stepped on w) (sym e))
      where
        at : (o : Option World) → slice_get (filter_map (λ (y : Transition). trap_by y.done y.after) (option_map_or (λ v. record { before = w; done = t; after = v } ∷ transitions on v (steps_of told)) o [])) 0
            ≡ option_map end_by (first_told (option_map_or (λ v. here v ∷ reached on v told) o []))
        at None = refl
        at (Some v) = one_told t v x.entry.stamp (filter_map (λ (y : Transition). trap_by y.done y.after) (transitions on v (steps_of told))) (filter_map trap_of (reached on v told)) (ih v)
            ∙ ap (λ (o : Option Step). option_map end_by (slice_get (with_first (trapped_in x.entry.stamp v o) (filter_map trap_of (reached on v told))) 0)) (sym e)

-- ---- it is the first of its nodelet, and comes before those of others

-- a trap has its entry's stamp
pub stamp_told : (r : Reached) (t : Kept) → trap_of r ≡ Some t → t.stamp ≡ r.entry.entry.stamp
stamp_told r t e = by_step r.entry.entry.step e
  where
    by_status : (name : Name) (status : Status) → kept_trap r.entry.entry.stamp name status ≡ Some t → t.stamp ≡ r.entry.entry.stamp
    by_status name Live f = absurd cc
    by_status name (Ended value) f = absurd cc
    by_status name (Trapped kind at) f = ap (λ (y : Kept). y.stamp) (sym (some_is _ t f))

    by_strand : (name : Name) (o : Option Strand) → option_and_then (λ s. kept_trap r.entry.entry.stamp name s.status) o ≡ Some t → t.stamp ≡ r.entry.entry.stamp
    by_strand name None f = absurd cc
    by_strand name (Some s) f = by_status name s.status f

    by_step : (o : Option Step) → trapped_in r.entry.entry.stamp r.world o ≡ Some t → t.stamp ≡ r.entry.entry.stamp
    by_step None f = absurd cc
    by_step (Some (Apply name k)) f = absurd cc
    by_step (Some (Act name child)) f = by_strand name (strand_of r.world name) f

-- an entry of nodelet k that told of this trap
pub record Told (P : Reached → Type 0) (k : ℕ) (t : Kept) : Type 0 where
  pub by : Reached
  pub has : P by
  pub at : by.entry.nodelet ≡ k
  pub is : trap_of by ≡ Some t

pub told_by : (P : Reached → Type 0) (rs : List Reached) (k : ℕ) (t : Kept) → Each P rs → first_trapped k rs ≡ Some t → Told P k t
told_by P [] k t all e = absurd cc
told_by P (r ∷ rs) k t all e = go (r.entry.nodelet == k) refl (trap_of r) refl e (λ f. told_by P rs k t all.1 f)
  where
    go : (b : Bool) → (r.entry.nodelet == k) ≡ b → (o : Option Kept) → trap_of r ≡ o → slice_get (with_first (if b then trap_of r else None) (filter_map (trapped_at k) rs)) 0 ≡ Some t →
        (first_trapped k rs ≡ Some t → Told P k t) → Told P k t
    go false f o g h ih = ih h
    go true f None g h ih = ih (ap (λ (o : Option Kept). slice_get (with_first o (filter_map (trapped_at k) rs)) 0) (sym g) ∙ h)
    go true f (Some s) g h ih =
        let same : Some s ≡ Some t = sym (ap (λ (o : Option Kept). slice_get (with_first o (filter_map (trapped_at k) rs)) 0) g) ∙ h in
        record { by = r; has = all.0; at = eqb-true _ _ f; is = g ∙ same }

pub data Leads (R : Reached → Reached → Type 0) (rs : List Reached) : Type 0 where
  NoneTold : first_told rs ≡ None → ((k : ℕ) → first_trapped k rs ≡ None) → Leads R rs
  FirstTold : (r : Reached) (t : Kept) → trap_of r ≡ Some t → first_told rs ≡ Some t → first_trapped r.entry.nodelet rs ≡ Some t →
      ((k : ℕ) (s : Kept) → first_trapped k rs ≡ Some s → (k ≡ r.entry.nodelet) ⊎ Told (R r) k s) → Leads R rs

pub leads : (R : Reached → Reached → Type 0) (rs : List Reached) → Pairwise R rs → Leads R rs
leads R [] pairs = NoneTold refl (λ k. refl)
leads R (r ∷ rs) pairs = go (trap_of r) refl (leads R rs pairs.1)
  where
    -- an entry that tells of no trap changes nothing
    skip : trap_of r ≡ None → (k : ℕ) → first_trapped k (r ∷ rs) ≡ first_trapped k rs
    skip e k = ap (λ (o : Option Kept). slice_get (with_first (if r.entry.nodelet == k then o else None) (filter_map (trapped_at k) rs)) 0) e ∙ either (r.entry.nodelet == k)
      where
        either : (b : Bool) → slice_get (with_first (let none : Option Kept = if b then None else None in none) (filter_map (trapped_at k) rs)) 0 ≡ first_trapped k rs
        either true = refl
        either false = refl

    skipped : trap_of r ≡ None → first_told (r ∷ rs) ≡ first_told rs
    skipped e = ap (λ (o : Option Kept). slice_get (with_first o (filter_map trap_of rs)) 0) e

    go : (o : Option Kept) → trap_of r ≡ o → Leads R rs → Leads R (r ∷ rs)
    go None e (NoneTold told none) = NoneTold (skipped e ∙ told) (λ k. skip e k ∙ none k)
    go None e (FirstTold s t is told kept others) =
        FirstTold s t is (skipped e ∙ told) (skip e s.entry.nodelet ∙ kept) (λ k x f. others k x (sym (skip e k) ∙ f))
    go (Some t) e rest = FirstTold r t e
        (ap (λ (o : Option Kept). slice_get (with_first o (filter_map trap_of rs)) 0) e)
        (ap (λ (b : Bool). slice_get (with_first (if b then trap_of r else None) (filter_map (trapped_at r.entry.nodelet) rs)) 0) (same_number r.entry.nodelet)
        ∙ ap (λ (o : Option Kept). slice_get (with_first o (filter_map (trapped_at r.entry.nodelet) rs)) 0) e)
        (λ k x f. at k x (r.entry.nodelet == k) refl f)
      where
        at : (k : ℕ) (x : Kept) (b : Bool) → (r.entry.nodelet == k) ≡ b → slice_get (with_first (if b then trap_of r else None) (filter_map (trapped_at k) rs)) 0 ≡ Some x →
            (k ≡ r.entry.nodelet) ⊎ Told (R r) k x
        at k x true f g = inl (sym (eqb-true _ _ f))
        at k x false f g = inr (told_by (R r) rs k x pairs.0 g)

-- ---- entries in order

each_from : {A : Type 0} (P : A → Type 0) (xs : List A) → ((j : ℕ) (d : A) → j < length xs → P (slice_index_or xs j d)) → Each P xs
each_from P [] all = tt
each_from P (x ∷ xs) all = (all 0 x (omega arith), each_from P xs (λ j d less. all (suc j) d (omega arith)))

pub pairwise_from : {A : Type 0} (R : A → A → Type 0) (xs : List A) → AllPairs R xs → Pairwise R xs
pairwise_from R [] all = tt
pairwise_from R (x ∷ xs) all =
    (each_from (R x) xs (λ j d less. all 0 (suc j) d (omega arith) (omega arith)), pairwise_from R xs (λ i j d before under. all (suc i) (suc j) d (omega arith) (omega arith)))

-- what holds of the pairs of entries holds of them with their worlds
pub reached_pairs : (R : Placed → Placed → Type 0) (on : Setting) (told : List Placed) (w : World) → Pairwise R told → Pairwise (λ (r s : Reached). R r.entry s.entry) (reached on w told)
reached_pairs R on [] w pairs = tt
reached_pairs R on (x ∷ told) w pairs = go (stepped on w x.entry.step) (λ v. reached_pairs R on told v pairs.1)
  where
    each : (P : Placed → Type 0) (rest : List Placed) (v : World) → Each P rest → Each (λ (s : Reached). P s.entry) (reached on v rest)
    each P [] v all = tt
    each P (y ∷ rest) v all = at (stepped on v y.entry.step) (λ z. each P rest z all.1)
      where
        at : (o : Option World) → ((z : World) → Each (λ (s : Reached). P s.entry) (reached on z rest)) → Each (λ (s : Reached). P s.entry) (option_map_or (λ z. record { entry = y; world = z } ∷ reached on z rest) o [])
        at None ih = tt
        at (Some z) ih = (all.0, ih z)

    go : (o : Option World) → ((v : World) → Pairwise (λ (r s : Reached). R r.entry s.entry) (reached on v told)) →
        Pairwise (λ (r s : Reached). R r.entry s.entry) (option_map_or (λ v. record { entry = x; world = v } ∷ reached on v told) o [])
    go None ih = tt
    go (Some v) ih = (each (R x) told v pairs.0, ih v)
