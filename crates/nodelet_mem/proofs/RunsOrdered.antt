-- Runs in order: what one tells of the others, and runs that are raised.
use Rattle.std.proofs.Common.{◌≡◌, ◌≢◌, ℕ, ◌+◌, ◌-◌, ◌<◌, ◌≤◌, ◌⊎◌, inl, inr, ℤ, ◌≤ℤ◌, ◌<ℤ◌, List, length, get_or, set, length-set, get_or-set_same, get_or-set_other, refl, sym, ap, ◌∙◌, subst, arith}
use Rattle.std.specs.Int.{int_max}
use Rattle.std.proofs.lemmas.Int.{ints}
use Rattle.std.specs.List.{insert}
use Rattle.std.proofs.lemmas.List.{get_or_default}
use Rattle.std.proofs.lemmas.List.Edits.{length-insert, get_or-insert_above}
use Rattle.nodelet_mem.specs.Grants.{run_up_to, AreOrdered, AreRaised, EndsInOrder}
use Rattle.nodelet_mem.specs.declared.grants.Run.{Run}
use Rattle.nodelet_mem.proofs.RunsJoined.{below_or_not, longer_second, no_longer, under_longer, longer_under}

-- what one run tells of those before it, or behind it
pub more_before : (runs : List Run) (m : ℕ) (a : ℤ) (x : Run) → AreOrdered runs → m < length runs → (get_or runs m x).first ≤ℤ a
    → (k : ℕ) (d : Run) → k < m + 1 → (get_or runs k d).first ≤ℤ a
more_before runs m a x ordered below h k d less = elim (below_or_not k m) [
  | inl l ↦ (let from = ordered.firsts k m d l below in omega (arith, ints, here))
  | inr l ↦ (let same : m ≡ k = omega arith in subst (λ n. (get_or runs n d).first ≤ℤ a) same here)
]
  where
    here : (get_or runs m d).first ≤ℤ a
    here = subst (λ (r : Run). r.first ≤ℤ a) (get_or_default runs m x d below) h

pub more_behind : (runs : List Run) (m : ℕ) (a : ℤ) (x : Run) → AreOrdered runs → m < length runs → a <ℤ (get_or runs m x).first
    → (k : ℕ) (d : Run) → m ≤ k → k < length runs → a <ℤ (get_or runs k d).first
more_behind runs m a x ordered below h k d more inside = elim (below_or_not m k) [
  | inl l ↦ (let from = ordered.firsts m k d l inside in omega (arith, ints, here))
  | inr l ↦ (let same : m ≡ k = omega arith in subst (λ n. a <ℤ (get_or runs n d).first) same here)
]
  where
    here : a <ℤ (get_or runs m d).first
    here = subst (λ (r : Run). a <ℤ r.first) (get_or_default runs m x d below) h

pub ended_before : (runs : List Run) (p q : ℕ) (a : ℤ) (x : Run) → q + 1 ≡ p → AreOrdered runs → q < length runs → (get_or runs q x).end <ℤ a
    → (k : ℕ) (d : Run) → k < p → (get_or runs k d).end <ℤ a
ended_before runs p q a x e ordered below h k d less = elim (below_or_not k q) [
  | inl l ↦ (let from = ordered.ends k q d l below in omega (arith, ints, here))
  | inr l ↦ (let same : q ≡ k = omega arith in subst (λ n. (get_or runs n d).end <ℤ a) same here)
]
  where
    here : (get_or runs q d).end <ℤ a
    here = subst (λ (r : Run). r.end <ℤ a) (get_or_default runs q x d below) h

-- raised runs stand in order
pub raised_ordered : (ys zs : List Run) (q : ℕ) (end : ℤ) → AreRaised ys q end zs
    → ((i j : ℕ) (d : Run) → i < j → j < length ys → (get_or ys i d).first ≤ℤ (get_or ys j d).first)
    → ((i j : ℕ) (d : Run) → i < j → j < length ys → ((get_or ys i d).end ≤ℤ (get_or ys j d).end) ⊎ ((q ≤ j) × ((get_or ys i d).end ≤ℤ end)))
    → AreOrdered zs
raised_ordered ys zs q end is firsts ends = record {
  firsts = λ i j d less inside. let below : j < length ys = (let s = is.sizes in omega arith) in
      subst (λ x. x ≤ℤ (get_or zs j d).first) (sym (first_of i d (omega arith))) (subst (λ x. (get_or ys i d).first ≤ℤ x) (sym (first_of j d below)) (firsts i j d less below));
  ends = λ i j d less inside. let below : j < length ys = (let s = is.sizes in omega arith) in
      kept_end i j d less below (below_or_not i q) (below_or_not j q) (ends i j d less below);
}
  where
    first_of : (k : ℕ) (d : Run) → k < length ys → (get_or zs k d).first ≡ (get_or ys k d).first
    first_of k d below = elim (below_or_not k q) [ inl l ↦ ap (λ (r : Run). r.first) (is.low k d l) | inr l ↦ ap (λ (r : Run). r.first) (is.high k d l below) ]

    kept_end : (i j : ℕ) (d : Run) → i < j → j < length ys → (i < q) ⊎ (q ≤ i) → (j < q) ⊎ (q ≤ j)
        → ((get_or ys i d).end ≤ℤ (get_or ys j d).end) ⊎ ((q ≤ j) × ((get_or ys i d).end ≤ℤ end)) → (get_or zs i d).end ≤ℤ (get_or zs j d).end
    kept_end i j d less below (inl a) (inl b) (inl h) =
        subst (λ x. x ≤ℤ (get_or zs j d).end) (sym (ap (λ (r : Run). r.end) (is.low i d a))) (subst (λ x. (get_or ys i d).end ≤ℤ x) (sym (ap (λ (r : Run). r.end) (is.low j d b))) h)
    kept_end i j d less below (inl a) (inl b) (inr h) = absurd (let l = h.0 in omega arith)
    kept_end i j d less below (inr a) (inl b) h = absurd (omega arith)
    kept_end i j d less below (inl a) (inr b) h =
        subst (λ x. x ≤ℤ (get_or zs j d).end) (sym (ap (λ (r : Run). r.end) (is.low i d a)))
        (subst (λ x. (get_or ys i d).end ≤ℤ x) (sym (ap (λ (r : Run). r.end) (is.high j d b below))) (under_longer (get_or ys i d).end (get_or ys j d).end end (elim h [ inl l ↦ inl l | inr l ↦ inr l.1 ])))
    kept_end i j d less below (inr a) (inr b) h =
        subst (λ x. x ≤ℤ (get_or zs j d).end) (sym (ap (λ (r : Run). r.end) (is.high i d a (omega arith))))
        (subst (λ x. int_max (get_or ys i d).end end ≤ℤ x) (sym (ap (λ (r : Run). r.end) (is.high j d b below)))
        (longer_under (get_or ys i d).end end _ (under_longer (get_or ys i d).end (get_or ys j d).end end (elim h [ inl l ↦ inl l | inr l ↦ inr l.1 ])) (longer_second (get_or ys j d).end end)))

-- one more run is raised
module _ (xs ys zs : List Run) (from i : ℕ) (end : ℤ) (x : Run) (sizes : length ys ≡ length xs) (below : i < length ys) (is : zs ≡ set ys i x) where
  pub raised_sizes : length zs ≡ length xs
  raised_sizes = ap length is ∙ length-set ys i x ∙ sizes

  other : (k : ℕ) (d : Run) → k ≢ i → get_or zs k d ≡ get_or ys k d
  other k d ne = ap (λ l. get_or l k d) is ∙ (let n = ne in rw get_or-set_other refl)

  pub raised_low : from ≤ i → ((k : ℕ) (d : Run) → k < from → get_or ys k d ≡ get_or xs k d) → (k : ℕ) (d : Run) → k < from → get_or zs k d ≡ get_or xs k d
  raised_low le low k d less = other k d (omega arith) ∙ low k d less

  pub raised_rest : ((k : ℕ) (d : Run) → i ≤ k → get_or ys k d ≡ get_or xs k d) → (k : ℕ) (d : Run) → i + 1 ≤ k → get_or zs k d ≡ get_or xs k d
  raised_rest rest k d more = other k d (omega arith) ∙ rest k d (omega arith)

  pub raised_high : ((d : Run) → x ≡ run_up_to (get_or ys i d) end) → ((k : ℕ) (d : Run) → from ≤ k → k < i → get_or ys k d ≡ run_up_to (get_or xs k d) end)
      → ((k : ℕ) (d : Run) → i ≤ k → get_or ys k d ≡ get_or xs k d) → (k : ℕ) (d : Run) → from ≤ k → k < i + 1 → get_or zs k d ≡ run_up_to (get_or xs k d) end
  raised_high new high rest k d more less = elim (below_or_not k i) [
    | inl l ↦ other k d (omega arith) ∙ high k d more l
    | inr l ↦ (let same : i ≡ k = omega arith in
        subst (λ n. get_or zs n d ≡ run_up_to (get_or xs n d) end) same
        (ap (λ l. get_or l i d) is ∙ get_or-set_same ys i x d below ∙ new d ∙ ap (λ r. run_up_to r end) (rest i d (omega arith))))
  ]

-- runs that end there or later are as they were
idle : (run : Run) (end : ℤ) → end ≤ℤ run.end → run ≡ run_up_to run end
idle run end h = ap (λ e. let r : Run = record { first = run.first; end = e } in r) (no_longer run.end end h)

pub raised_all : (xs ys : List Run) (from i : ℕ) (end : ℤ) (x : Run) → EndsInOrder xs from → from ≤ i → i < length xs → length ys ≡ length xs
    → end ≤ℤ (get_or xs i x).end
    → ((k : ℕ) (d : Run) → k < from → get_or ys k d ≡ get_or xs k d)
    → ((k : ℕ) (d : Run) → from ≤ k → k < i → get_or ys k d ≡ run_up_to (get_or xs k d) end)
    → ((k : ℕ) (d : Run) → i ≤ k → get_or ys k d ≡ get_or xs k d)
    → AreRaised xs from end ys
raised_all xs ys from i end x ordered le inside sizes reach low high rest = record {
  sizes = sizes;
  low = low;
  high = λ k d more below. elim (below_or_not k i) [ inl l ↦ high k d more l | inr l ↦ rest k d l ∙ idle (get_or xs k d) end (far k d l below) ];
}
  where
    here : (d : Run) → end ≤ℤ (get_or xs i d).end
    here d = subst (λ (r : Run). end ≤ℤ r.end) (get_or_default xs i x d inside) reach

    far : (k : ℕ) (d : Run) → i ≤ k → k < length xs → end ≤ℤ (get_or xs k d).end
    far k d more below = elim (below_or_not i k) [
      | inl l ↦ (let h = ordered i k d le l below in let r = here d in omega (arith, ints))
      | inr l ↦ (let same : i ≡ k = omega arith in subst (λ n. end ≤ℤ (get_or xs n d).end) same (here d))
    ]

-- behind a run that was put in, ends stand in order
pub ends_behind : (xs ys : List Run) (p : ℕ) (run : Run) → ys ≡ insert xs p run → p ≤ length xs → AreOrdered xs → EndsInOrder ys (p + 1)
ends_behind xs ys p run put within ordered i j d more less inside =
    subst (λ (r : Run). r.end ≤ℤ (get_or ys j d).end) (sym (later i (omega arith)))
    (subst (λ (r : Run). (get_or xs (i - 1) d).end ≤ℤ r.end) (sym (later j (omega arith))) (ordered.ends (i - 1) (j - 1) d (omega arith) (let s = size in omega arith)))
  where
    size : length ys ≡ length xs + 1
    size = ap length put ∙ length-insert xs p run within

    later : (k : ℕ) → p + 1 ≤ k → get_or ys k d ≡ get_or xs (k - 1) d
    later k far =
        let back : k ≡ (k - 1) + 1 = omega arith in
        ap (λ n. get_or ys n d) back ∙ ap (λ l. get_or l ((k - 1) + 1) d) put ∙ get_or-insert_above xs p run d (k - 1) (omega arith) within
