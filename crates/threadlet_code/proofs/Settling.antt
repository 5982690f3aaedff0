-- The heights of places to which a way came first.
use Rattle.std.proofs.Common.{◌≡◌, ℕ, zero, suc, ◌+◌, ◌-◌, ◌<◌, ◌≤◌, ◌⊎◌, inl, inr, List, length, Option, Some, None, refl, sym, ap, ◌∙◌, subst, arith, ⊎_elim, get_or-set_other, get_or-set_same}
use Rattle.std.specs.Prelude.{slice_index, option_map}
use Rattle.std.specs.Option.{option_or}
use Rattle.std.proofs.lemmas.Bool.{cases_lt}
use Rattle.std.proofs.lemmas.Bool.Decides.{eqb_tells}
use Rattle.std.proofs.lemmas.List.FromFn.{fill_by_all}
use Rattle.threadlet_code.specs.declared.code.FuncCode.{FuncCode}
use Rattle.threadlet_code.specs.declared.code.Code.{Code}
use Rattle.threadlet_code.specs.declared.walk.Span.{Span}
use Rattle.threadlet_code.specs.Ways.{Known, least, arrivals, longer, known_within, known_at}
use Rattle.threadlet_code.specs.Walking.{Spans, span_at, settle, settle_many, Stands, IsWalk}
use Rattle.threadlet_code.proofs.Waves.{settle_many_size}
use Rattle.threadlet_code.proofs.Spanning.{span_least}

-- The least of what came to a place.
abbrev pub least_at : Spans → ℕ → Option ℕ
least_at ways place = option_map (λ (s : Span). s.least) (span_at ways place)

nothing_new : (a b : Option ℕ) → b ≡ None → a ≡ option_or a b
nothing_new None b e = sym e
nothing_new (Some x) b e = refl

module _ (before : Known) (ways : Spans) (s : ℕ) (places : List ℕ)
    (fresh : (k : ℕ) → s ≤ k → k < length places → known_at before (slice_index places k) ≡ None)
    (within : (k : ℕ) → k < length places → slice_index places k < length before) where
  -- A place has its height, or what it had.
  IsSettled : Known → ℕ → Type 0
  IsSettled now p = known_at now p ≡ option_or (known_at before p) (least_at ways p)

  pub record Untouched (now : Known) (p m : ℕ) : Type 0 where
    pub known : known_at now p ≡ known_at before p
    pub others : (k : ℕ) → k < m → slice_index places (s + k) ≡ p → ⊥

  settle_here : (now : Known) (p m : ℕ) → p < length now → known_at before p ≡ None →
      (known_at now p ≡ option_or (known_at before p) (least_at ways p)) ⊎ Untouched now p m →
      known_at (settle p (span_at ways p) now) p ≡ option_or (known_at before p) (least_at ways p)
  settle_here now p m lt none how = by_span (span_at ways p) refl
    where
      by_span : (o : Option Span) → span_at ways p ≡ o → known_at (settle p o now) p ≡ option_or (known_at before p) (least_at ways p)
      by_span None e =
          ⊎_elim (λ k. k)
          (λ (u : Untouched now p m). u.known ∙ nothing_new (known_at before p) (least_at ways p) (ap (option_map (λ (s : Span). s.least)) e)) how
      by_span (Some span) e =
          get_or-set_same now p (Some span.least) None lt
          ∙ sym (ap (λ o. option_or o (least_at ways p)) none ∙ ap (option_map (λ (s : Span). s.least)) e)

  more_others : (p q m : ℕ) → (p ≡ q → ⊥) → q ≡ slice_index places (s + m) → ((k : ℕ) → k < m → slice_index places (s + k) ≡ p → ⊥) →
      (k : ℕ) → k < suc m → slice_index places (s + k) ≡ p → ⊥
  more_others p q m ne at others k lt e =
      ⊎_elim (λ below. others k below e) (λ last. let same : k ≡ m = omega arith in ne (sym e ∙ ap (λ j. slice_index places (s + j)) same ∙ sym at)) (cases_lt k m)

  settle_there : (now : Known) (p q m : ℕ) (o : Option Span) → (p ≡ q → ⊥) → q ≡ slice_index places (s + m) →
      (known_at now p ≡ option_or (known_at before p) (least_at ways p)) ⊎ Untouched now p m →
      (known_at (settle q o now) p ≡ option_or (known_at before p) (least_at ways p)) ⊎ Untouched (settle q o now) p (suc m)
  settle_there now p q m None ne at (inl k) = inl k
  settle_there now p q m None ne at (inr u) = inr (record { known = u.known; others = more_others p q m ne at u.others })
  settle_there now p q m (Some span) ne at (inl k) = inl (get_or-set_other now q p (Some span.least) None ne ∙ k)
  settle_there now p q m (Some span) ne at (inr u) =
      inr (record { known = get_or-set_other now q p (Some span.least) None ne ∙ u.known; others = more_others p q m ne at u.others })

  settled_or_not : (m : ℕ) → s + m ≤ length places → (p : ℕ) →
      (known_at (settle_many m ways s places before) p ≡ option_or (known_at before p) (least_at ways p)) ⊎ Untouched (settle_many m ways s places before) p m
  settled_or_not zero le p = inr (record { known = refl; others = λ k lt. absurd (omega arith) })
  settled_or_not (suc m) le p =
      let now = settle_many m ways s places before in
      let q = slice_index places (s + m) in
      let old = settled_or_not m (omega arith) p in
      let size = settle_many_size m ways s places before in
      let lt : q < length before = within (s + m) (omega arith) in
      ⊎_elim
      (λ same. inl (subst (λ r. known_at (settle r (span_at ways r) now) p ≡ option_or (known_at before p) (least_at ways p)) same.1
      (settle_here now p m (omega (arith, size, same.1)) (ap (known_at before) same.1 ∙ fresh (s + m) (omega arith) (omega arith)) old)))
      (λ other. settle_there now p q m (span_at ways q) other.1 refl old)
      (eqb_tells p q)

  -- All places to which a way came have their heights.
  pub all_settled : ((p : ℕ) (span : Span) → span_at ways p ≡ Some span → known_at before p ≡ None → Stands p s places) → s ≤ length places →
      (p : ℕ) → known_at (settle_many (length places - s) ways s places before) p ≡ option_or (known_at before p) (least_at ways p)
  all_settled covered le p = ⊎_elim (λ k. k) (λ u. by_span (span_at ways p) refl (known_at before p) refl u) (settled_or_not (length places - s) (omega arith) p)
    where
      now : Known
      now = settle_many (length places - s) ways s places before

      by_span : (o : Option Span) → span_at ways p ≡ o → (b : Option ℕ) → known_at before p ≡ b → Untouched (settle_many (length places - s) ways s places before) p (length places - s) →
          known_at (settle_many (length places - s) ways s places before) p ≡ option_or (known_at before p) (least_at ways p)
      by_span None e b e' u = u.known ∙ nothing_new (known_at before p) (least_at ways p) (ap (option_map (λ (s : Span). s.least)) e)
      by_span (Some span) e (Some h) e' u = u.known ∙ e' ∙ sym (ap (λ o. option_or o (least_at ways p)) e')
      by_span (Some span) e None e' u =
          let stands = covered p span e e' in
          absurd (u.others (stands.index - s) (omega (arith, stands.above, stands.inside))
          (let at : s + (stands.index - s) ≡ stands.index = omega (arith, stands.above) in ap (slice_index places) at ∙ stands.here))

-- ---- the heights of a walk with one instruction more

module _ (n : ℕ) (code : Code) (g : ℕ) (f : FuncCode) (known : Known) (ways : Spans) (reached : List ℕ) (settled : ℕ) (w : IsWalk n code g f known ways reached settled) where
  abbrev pub next : Known
  next = settle_many (length reached - settled) ways settled reached known

  pub next_size : length next ≡ length f.body
  next_size = settle_many_size (length reached - settled) ways settled reached known ∙ w.body

  pub next_at : (p : ℕ) → known_at next p ≡ option_or (known_at known p) (least_at ways p)
  next_at = all_settled known ways settled reached w.fresh (λ k lt. omega (arith, w.within k lt, w.body)) w.covered w.settled_in

  pub next_is : next ≡ known_within code g f (suc n)
  next_is =
      fill_by_all (λ p. option_or (known_at known p) (least (arrivals code g f p known))) next (length f.body) None next_size
      (λ p lt. next_at p ∙ ap (option_or (known_at known p)) (ap (option_map (λ (s : Span). s.least)) (w.ways_are p lt) ∙ span_least (arrivals code g f p known)))
      ∙ ap (longer code g f) w.known_is
