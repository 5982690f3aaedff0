-- What a grant makes of the runs.
use Rattle.std.proofs.Common.{◌≡◌, ℕ, ◌+◌, ◌-◌, ◌<◌, ◌≤◌, ◌⊎◌, inl, inr, ℤ, ◌≤ℤ◌, ◌<ℤ◌, List, length, get_or, sym, ap, ◌∙◌, subst, arith}
use Rattle.std.specs.Prelude.{◌||◌}
use Rattle.std.specs.List.{insert}
use Rattle.std.proofs.lemmas.Int.{ints}
use Rattle.std.proofs.lemmas.List.Edits.{length-insert, get_or-insert_below, get_or-insert_at, get_or-insert_above}
use Rattle.nodelet_mem.specs.Grants.{is_within, is_granted_by, AreOrdered, IsPlace, AreRaised}
use Rattle.nodelet_mem.specs.declared.grants.Run.{Run}
use Rattle.nodelet_mem.proofs.RunsJoined.{below_or_not, raised_same, covered, put_same, longer_second}
use Rattle.nodelet_mem.proofs.RunsOrdered.{raised_ordered}

-- a grant makes the run before its place longer
module _ (xs zs : List Run) (p q : ℕ) (first end : ℤ) (next : q + 1 ≡ p) (is : IsPlace xs first p) (near : (d : Run) → first ≤ℤ (get_or xs q d).end) (raised : AreRaised xs q end zs) where
  pub touched_ordered : AreOrdered xs → AreOrdered zs
  touched_ordered ordered = raised_ordered xs zs q end raised ordered.firsts (λ i j d less inside. inl (ordered.ends i j d less inside))

  near_all : (k : ℕ) (d : Run) → q ≤ k → k < length xs → (first ≤ℤ (get_or xs k d).first) ⊎ (first ≤ℤ (get_or xs k d).end)
  near_all k d more inside = elim (below_or_not k p) [
    | inl l ↦ (let same : q ≡ k = omega arith in inr (subst (λ n. first ≤ℤ (get_or xs n d).end) same (near d)))
    | inr l ↦ (let behind = is.behind k d l inside in inl (omega (arith, ints)))
  ]

  inside_q : q < length xs
  inside_q = let w = is.within in omega arith

  pub touched_same : (a : ℤ) (d : Run) → is_granted_by zs a ≡ (is_granted_by xs a || is_within first end a)
  touched_same a d =
      let at = raised.high q d (omega arith) inside_q in
      sym (covered zs q first end a d (let s = raised.sizes in let i = inside_q in omega arith)
      (subst (λ (r : Run). r.first ≤ℤ first) (sym at) (is.before q d (omega arith)))
      (subst (λ (r : Run). end ≤ℤ r.end) (sym at) (longer_second (get_or xs q d).end end)))
      ∙ raised_same xs zs q first end a d raised near_all

-- a grant is put at its place
module _ (xs ys zs : List Run) (p : ℕ) (run : Run) (is : IsPlace xs run.first p) (put : ys ≡ insert xs p run) (raised : AreRaised ys (p + 1) run.end zs) where
  size : length ys ≡ length xs + 1
  size = ap length put ∙ length-insert xs p run is.within

  at : (d : Run) → get_or ys p d ≡ run
  at d = ap (λ l. get_or l p d) put ∙ get_or-insert_at xs p run d is.within

  earlier : (k : ℕ) (d : Run) → k < p → get_or ys k d ≡ get_or xs k d
  earlier k d less = ap (λ l. get_or l k d) put ∙ get_or-insert_below xs p run d k less is.within

  later : (k m : ℕ) (d : Run) → m + 1 ≡ k → p ≤ m → get_or ys k d ≡ get_or xs m d
  later k m d e more = ap (λ n. get_or ys n d) (sym e) ∙ ap (λ l. get_or l (m + 1) d) put ∙ get_or-insert_above xs p run d m more is.within

  behind_first : (k : ℕ) (d : Run) → p + 1 ≤ k → k < length ys → run.first ≤ℤ (get_or ys k d).first
  behind_first k d more inside =
      let back : (k - 1) + 1 ≡ k = omega arith in
      let s = size in
      let far = is.behind (k - 1) d (omega arith) (omega arith) in
      subst (λ (r : Run). run.first ≤ℤ r.first) (sym (later k (k - 1) d back (omega arith))) (omega (arith, ints))

  pub put_granted : (a : ℤ) (d : Run) → is_granted_by zs a ≡ (is_granted_by xs a || is_within run.first run.end a)
  put_granted a d = put_same xs ys zs p run a d put (let s = size in let w = is.within in omega arith) (at d) raised behind_first

  abbrev Spot : ℕ → Type 0
  Spot k = (k < p) ⊎ ((k ≡ p) ⊎ ((m : ℕ) × (m + 1 ≡ k) × (p ≤ m)))

  spot : (k : ℕ) → Spot k
  spot k = elim (below_or_not k p) [
    | inl l ↦ inl l
    | inr l ↦ elim (below_or_not p k) [ inl h ↦ inr (inr (k - 1, omega arith, omega arith)) | inr h ↦ inr (inl (omega arith)) ]
  ]

  at_place : (k : ℕ) (d : Run) → k ≡ p → get_or ys k d ≡ run
  at_place k d e = ap (λ n. get_or ys n d) e ∙ at d

  both : (i j : ℕ) (d : Run) {r t : Run} → get_or ys i d ≡ r → get_or ys j d ≡ t → r.first ≤ℤ t.first → (get_or ys i d).first ≤ℤ (get_or ys j d).first
  both i j d {r} {t} e f h = subst (λ (x : Run). x.first ≤ℤ (get_or ys j d).first) (sym e) (subst (λ (x : Run). r.first ≤ℤ x.first) (sym f) h)

  both_ends : (i j : ℕ) (d : Run) {r t : Run} → get_or ys i d ≡ r → get_or ys j d ≡ t → r.end ≤ℤ t.end → (get_or ys i d).end ≤ℤ (get_or ys j d).end
  both_ends i j d {r} {t} e f h = subst (λ (x : Run). x.end ≤ℤ (get_or ys j d).end) (sym e) (subst (λ (x : Run). r.end ≤ℤ x.end) (sym f) h)

  firsts : AreOrdered xs → (i j : ℕ) (d : Run) → i < j → j < length ys → Spot i → Spot j → (get_or ys i d).first ≤ℤ (get_or ys j d).first
  firsts ordered i j d less inside (inl a) (inl b) = both i j d (earlier i d a) (earlier j d b) (ordered.firsts i j d less (let w = is.within in omega arith))
  firsts ordered i j d less inside (inl a) (inr (inl b)) = both i j d (earlier i d a) (at_place j d b) (is.before i d a)
  firsts ordered i j d less inside (inl a) (inr (inr b)) =
      let e = b.1 in let s = size in both i j d (earlier i d a) (later j b.0 d b.1 b.2) (ordered.firsts i b.0 d (let m = b.2 in omega arith) (omega arith))
  firsts ordered i j d less inside (inr (inl a)) (inl b) = absurd (omega arith)
  firsts ordered i j d less inside (inr (inl a)) (inr (inl b)) = absurd (omega arith)
  firsts ordered i j d less inside (inr (inl a)) (inr (inr b)) =
      subst (λ (r : Run). r.first ≤ℤ (get_or ys j d).first) (sym (at_place i d a)) (behind_first j d (let e = b.1 in let m = b.2 in omega arith) inside)
  firsts ordered i j d less inside (inr (inr a)) (inl b) = absurd (let e = a.1 in let m = a.2 in omega arith)
  firsts ordered i j d less inside (inr (inr a)) (inr (inl b)) = absurd (let e = a.1 in let m = a.2 in omega arith)
  firsts ordered i j d less inside (inr (inr a)) (inr (inr b)) =
      let e = a.1 in let f = b.1 in let s = size in both i j d (later i a.0 d a.1 a.2) (later j b.0 d b.1 b.2) (ordered.firsts a.0 b.0 d (omega arith) (omega arith))

  abbrev Ends : ℕ → ℕ → Run → Type 0
  Ends i j d = ((get_or ys i d).end ≤ℤ (get_or ys j d).end) ⊎ ((p + 1 ≤ j) × ((get_or ys i d).end ≤ℤ run.end))

  ends : AreOrdered xs → ((k : ℕ) (d : Run) → k < p → (get_or xs k d).end <ℤ run.first) → run.first ≤ℤ run.end
      → (i j : ℕ) (d : Run) → i < j → j < length ys → Spot i → Spot j → Ends i j d
  ends ordered apart up i j d less inside (inl a) (inl b) = inl (both_ends i j d (earlier i d a) (earlier j d b) (ordered.ends i j d less (let w = is.within in omega arith)))
  ends ordered apart up i j d less inside (inl a) (inr (inl b)) = inl (both_ends i j d (earlier i d a) (at_place j d b) (let h = apart i d a in omega (arith, ints)))
  ends ordered apart up i j d less inside (inl a) (inr (inr b)) =
      let e = b.1 in let s = size in inl (both_ends i j d (earlier i d a) (later j b.0 d b.1 b.2) (ordered.ends i b.0 d (let m = b.2 in omega arith) (omega arith)))
  ends ordered apart up i j d less inside (inr (inl a)) (inl b) = absurd (omega arith)
  ends ordered apart up i j d less inside (inr (inl a)) (inr (inl b)) = absurd (omega arith)
  ends ordered apart up i j d less inside (inr (inl a)) (inr (inr b)) =
      inr ((let e = b.1 in let m = b.2 in omega arith), subst (λ (r : Run). r.end ≤ℤ run.end) (sym (at_place i d a)) (omega (arith, ints)))
  ends ordered apart up i j d less inside (inr (inr a)) (inl b) = absurd (let e = a.1 in let m = a.2 in omega arith)
  ends ordered apart up i j d less inside (inr (inr a)) (inr (inl b)) = absurd (let e = a.1 in let m = a.2 in omega arith)
  ends ordered apart up i j d less inside (inr (inr a)) (inr (inr b)) =
      let e = a.1 in let f = b.1 in let s = size in inl (both_ends i j d (later i a.0 d a.1 a.2) (later j b.0 d b.1 b.2) (ordered.ends a.0 b.0 d (omega arith) (omega arith)))

  pub put_ordered : AreOrdered xs → ((k : ℕ) (d : Run) → k < p → (get_or xs k d).end <ℤ run.first) → run.first ≤ℤ run.end → AreOrdered zs
  put_ordered ordered apart up = raised_ordered ys zs (p + 1) run.end raised
      (λ i j d less inside. firsts ordered i j d less inside (spot i) (spot j))
      (λ i j d less inside. ends ordered apart up i j d less inside (spot i) (spot j))
