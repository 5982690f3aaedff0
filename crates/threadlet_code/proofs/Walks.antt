-- A walk that goes on by one instruction is a walk.
use Rattle.std.proofs.Common.{◌≡◌, ℕ, zero, suc, ◌+◌, ◌-◌, ◌<◌, ◌≤◌, inl, List, [], ◌∷◌, ◌++◌, length, Option, Some, None, refl, sym, ap, ◌∙◌, subst, arith, true, false, ⊎_elim, length-set, get_or-set_other, get_or-set_same}
use Rattle.std.specs.Prelude.{slice_get, slice_index, slice_set, replicate, option_map, nat_le, ◌&&◌}
use Rattle.std.specs.Option.{option_or}
use Rattle.std.proofs.lemmas.Bool.{cases_lt}
use Rattle.std.proofs.lemmas.List.{length-replicate}
use Rattle.threadlet_code.specs.declared.instr.Instr.{Instr}
use Rattle.threadlet_code.specs.declared.code.FuncCode.{FuncCode}
use Rattle.threadlet_code.specs.declared.code.Code.{Code}
use Rattle.threadlet_code.specs.declared.walk.Span.{Span}
use Rattle.threadlet_code.specs.Operands.{operands, results}
use Rattle.threadlet_code.specs.Ways.{Known, has_operands, exchanged, names_hold, goes_on, brings, arrivals, known_within, known_at}
use Rattle.threadlet_code.specs.Walking.{Spans, span_at, span_of, Wave, pass_many, settle_many, Stands, IsWalk}
use Rattle.threadlet_code.proofs.Among.{Among, among_append, among_left, among_right}
use Rattle.threadlet_code.proofs.Arrivals.{known_none, lengthened, least_among, Came, arrived, brings_it, comes_from, came, began}
use Rattle.threadlet_code.proofs.Bools.{some_none, and_true, from_le}
use Rattle.threadlet_code.proofs.Heights.{exchanged_above}
use Rattle.threadlet_code.proofs.Spanning.{same_span}
use Rattle.threadlet_code.proofs.Waves.{GoesOn, many_goes_on}
use Rattle.threadlet_code.proofs.Settling.{least_at, next, next_size, next_at, next_is}
use Rattle.threadlet_code.proofs.Fronts.{front, wave_at}
use Rattle.threadlet_code.proofs.Carries.{Carries, carries_start, many_carries}

-- ---- what a front brings

module _ (code : Code) (g : ℕ) (f : FuncCode) (known : Known) (s : ℕ) (places : List ℕ) (p : ℕ) where
  -- What place k of the front brings.
  abbrev brought : ℕ → List ℕ
  brought k = brings code g f p (slice_index places (s + k)) (slice_get f.body (slice_index places (s + k))) (known_at known (slice_index places (s + k)))

  from_front : (h m : ℕ) → Among h (front code g f known m s places p) → (k : ℕ) × (k < m) × Among h (brought k)
  from_front h zero a = absurd a
  from_front h (suc m) a =
      ⊎_elim
      (λ l. let r = from_front h m l in (r.0, omega (arith, r.1), r.2))
      (λ r. (m, omega arith, r))
      (among_append h (front code g f known m s places p) (brought m) a)

  in_front : (h m k : ℕ) → k < m → Among h (brought k) → Among h (front code g f known m s places p)
  in_front h zero k lt a = absurd (omega arith)
  in_front h (suc m) k lt a =
      ⊎_elim
      (λ below. among_left h (front code g f known m s places p) (brought m) (in_front h m k below a))
      (λ last. among_right h (front code g f known m s places p) (brought m) (let same : k ≡ m = omega arith in subst (λ j. Among h (brought j)) same a))
      (cases_lt k m)

-- ---- one instruction more

module _ (n : ℕ) (code : Code) (g : ℕ) (f : FuncCode) (known : Known) (ways : Spans) (reached : List ℕ) (settled : ℕ) (w : IsWalk n code g f known ways reached settled) where
  abbrev m : ℕ
  m = length reached - settled

  abbrev now : Known
  now = next n code g f known ways reached settled w

  abbrev before : Wave
  before = record { ways = ways; reached = reached }

  abbrev wave : Wave
  wave = pass_many m code g f now settled reached before

  at : (p : ℕ) → known_at now p ≡ option_or (known_at known p) (least_at ways p)
  at = next_at n code g f known ways reached settled w

  kept : (p h : ℕ) → known_at known p ≡ Some h → known_at now p ≡ Some h
  kept p h e = at p ∙ ap (λ o. option_or o (least_at ways p)) e

  on : GoesOn before wave
  on = many_goes_on code g f now m settled reached before

  carries : Carries before (length reached) wave
  carries = many_carries before (length reached) code g f now m settled reached before (carries_start before)

  none_yet : (p : ℕ) → span_at ways p ≡ None → known_at now p ≡ None
  none_yet p e = at p ∙ ap (λ o. option_or o (least_at ways p)) (w.came p e) ∙ ap (option_map (λ (s : Span). s.least)) e

  -- What comes to a place now came before, or comes from the front.
  to_both : (p h : ℕ) → Among h (arrivals code g f p now) → Among h (arrivals code g f p known ++ front code g f now m settled reached p)
  to_both p h a = ⊎_elim at_start behind_one (arrived code g f now p h a)
    where
      at_start : (p ≡ 0) × (h ≡ 0) → Among h (arrivals code g f p known ++ front code g f now m settled reached p)
      at_start z =
          among_left h (arrivals code g f p known) (front code g f now m settled reached p)
          (subst (λ k. Among k (arrivals code g f p known)) (sym z.1) (subst (λ q. Among 0 (arrivals code g f q known)) (sym z.0) (began code g f known)))

      behind_one : Came code g f now p h → Among h (arrivals code g f p known ++ front code g f now m settled reached p)
      behind_one c = by_old (known_at known c.place) refl (span_at ways c.place) refl
        where
          had : option_or (known_at known c.place) (least_at ways c.place) ≡ Some c.height
          had = sym (at c.place) ∙ c.before

          by_old : (o : Option ℕ) → known_at known c.place ≡ o → (q : Option Span) → span_at ways c.place ≡ q →
              Among h (arrivals code g f p known ++ front code g f now m settled reached p)
          by_old (Some k) is q is' =
              let old : known_at known c.place ≡ Some c.height = is ∙ (sym (ap (λ o. option_or o (least_at ways c.place)) is) ∙ had) in
              among_left h (arrivals code g f p known) (front code g f now m settled reached p)
              (came code g f known p h (record { place = c.place; instr = c.instr; height = c.height; here = c.here; before = old; on = c.on; leads = c.leads; behind = c.behind }))
          by_old None is None is' =
              absurd (some_none c.height (option_or (known_at known c.place) (least_at ways c.place)) had
              (ap (λ o. option_or o (least_at ways c.place)) is ∙ ap (option_map (λ (s : Span). s.least)) is'))
          by_old None is (Some span) is' =
              let st = w.covered c.place span is' is in
              let there : settled + (st.index - settled) ≡ st.index = omega (arith, st.above) in
              let here : slice_index reached (settled + (st.index - settled)) ≡ c.place = ap (slice_index reached) there ∙ st.here in
              among_right h (arrivals code g f p known) (front code g f now m settled reached p)
              (in_front code g f now settled reached p h m (st.index - settled) (omega (arith, st.above, st.inside))
              (subst (λ q. Among h (brings code g f p q (slice_get f.body q) (known_at now q))) (sym here) (brings_it code g f now p h c)))

  from_both : (p h : ℕ) → Among h (arrivals code g f p known ++ front code g f now m settled reached p) → Among h (arrivals code g f p now)
  from_both p h a = ⊎_elim old new (among_append h (arrivals code g f p known) (front code g f now m settled reached p) a)
    where
      old : Among h (arrivals code g f p known) → Among h (arrivals code g f p now)
      old l =
          ⊎_elim
          (λ z. subst (λ k. Among k (arrivals code g f p now)) (sym z.1) (subst (λ q. Among 0 (arrivals code g f q now)) (sym z.0) (began code g f now)))
          (λ (c : Came code g f known p h). came code g f now p h (record { place = c.place; instr = c.instr; height = c.height; here = c.here; before = kept c.place c.height c.before; on = c.on; leads = c.leads; behind = c.behind }))
          (arrived code g f known p h l)

      new : Among h (front code g f now m settled reached p) → Among h (arrivals code g f p now)
      new r =
          let k = from_front code g f now settled reached p h m r in
          comes_from code g f now p h (slice_index reached (settled + k.0)) (w.within (settled + k.0) (omega (arith, k.1))) k.2

  -- No way came to a place without a height.
  not_come : (p : ℕ) → known_at now p ≡ None → span_at ways p ≡ None
  not_come p e = by_span (span_at ways p) refl (known_at known p) refl
    where
      by_span : (o : Option Span) → span_at ways p ≡ o → (b : Option ℕ) → known_at known p ≡ b → o ≡ None
      by_span None is b is' = refl
      by_span (Some span) is (Some k) is' = absurd (some_none k (known_at now p) (kept p k is') e)
      by_span (Some span) is None is' =
          absurd (some_none span.least (known_at now p) (at p ∙ ap (λ o. option_or o (least_at ways p)) is' ∙ ap (option_map (λ (s : Span). s.least)) is) e)

  pub walk_next : IsWalk (suc n) code g f now wave.ways wave.reached (length reached)
  walk_next = record {
    known_is = next_is n code g f known ways reached settled w;
    body = next_size n code g f known ways reached settled w;
    sizes = on.sizes ∙ w.sizes;
    ways_are = λ p lt.
        wave_at code g f now m settled reached before p (omega (arith, w.sizes)) (arrivals code g f p known) (w.ways_are p lt)
        ∙ same_span (arrivals code g f p known ++ front code g f now m settled reached p) (arrivals code g f p now) (from_both p) (to_both p);
    covered = λ p span e e'. carries.covers p span e (not_come p e');
    came = λ p e. none_yet p (carries.opens p e);
    fresh = λ k le lt. none_yet (slice_index wave.reached k) (carries.fresh k le lt);
    within = λ k lt. let r = on.within (λ j lt'. omega (arith, w.within j lt', w.sizes)) k lt in omega (arith, r, w.sizes);
    settled_in = on.longer;
  }

-- ---- the walk of no instruction

module _ (code : Code) (g : ℕ) (f : FuncCode) (le : 1 ≤ length f.body) where
  abbrev none : Known
  none = replicate (length f.body) None

  abbrev point : Span
  point = record { least = 0; most = 0 }

  abbrev first : Spans
  first = slice_set (replicate (length f.body) None) 0 (Some point)

  no_span : (m p : ℕ) → span_at (replicate m None) p ≡ None
  no_span zero p = refl
  no_span (suc m) zero = refl
  no_span (suc m) (suc p) = no_span m p

  spans_size : length first ≡ length f.body
  spans_size = length-set (replicate (length f.body) None) 0 (Some point) ∙ length-replicate (length f.body) None

  none_else : (p : ℕ) → span_at first (suc p) ≡ None
  none_else p = get_or-set_other (replicate (length f.body) None) 0 (suc p) (Some point) None (λ e. let l : suc p ≡ 0 = e in omega arith) ∙ no_span (length f.body) (suc p)

  -- Nothing is brought where nothing is known.
  nothing_arrives : (p h : ℕ) → Among h (arrivals code g f p none) → (p ≡ 0) × (h ≡ 0)
  nothing_arrives p h a =
      ⊎_elim (λ z. z) (λ (c : Came code g f none p h). absurd (some_none c.height (known_at none c.place) c.before (known_none (length f.body) c.place))) (arrived code g f none p h a)

  ways_first : (p : ℕ) → span_at first p ≡ span_of (arrivals code g f p none)
  ways_first zero =
      get_or-set_same (replicate (length f.body) None) 0 (Some point) None (let l = length-replicate {A = Option Span} (length f.body) None in omega arith)
      ∙ same_span (0 ∷ []) (arrivals code g f 0 none)
      (λ h a. ⊎_elim (λ e. subst (λ k. Among k (arrivals code g f 0 none)) (sym e) (began code g f none)) (λ r. absurd r) a)
      (λ h a. inl (nothing_arrives 0 h a).1)
  ways_first (suc p) =
      none_else p ∙ same_span [] (arrivals code g f (suc p) none) (λ h a. absurd a) (λ h a. let z = (nothing_arrives (suc p) h a).0 in absurd (omega arith))

  pub walk_start : IsWalk 0 code g f none first (0 ∷ []) 0
  walk_start = record {
    known_is = refl;
    body = length-replicate (length f.body) None;
    sizes = spans_size;
    ways_are = λ p lt. ways_first p;
    covered = covered_first;
    came = λ p e. known_none (length f.body) p;
    fresh = λ k le' lt. known_none (length f.body) (slice_index (0 ∷ []) k);
    within = within_first;
    settled_in = omega arith;
  }
    where
      covered_first : (p : ℕ) (span : Span) → span_at first p ≡ Some span → known_at none p ≡ None → Stands p 0 (0 ∷ [])
      covered_first zero span e e' = record { index = 0; above = omega arith; inside = omega arith; here = refl }
      covered_first (suc p) span e e' = absurd (some_none span (span_at first (suc p)) e (none_else p))

      within_first : (k : ℕ) → k < 1 → slice_index (0 ∷ []) k < length f.body
      within_first zero lt = omega arith
      within_first (suc k) lt = absurd (omega arith)

-- ---- heights are low

-- A way that goes on has at most one word more behind the instruction.
on_above : (code : Code) (g : ℕ) (f : FuncCode) (place : ℕ) (instr : Instr) (h : ℕ) → goes_on code g f place instr h ≡ true → exchanged h (operands code instr) (results instr) ≤ h + 1
on_above code g f place instr h e = by_count (operands code instr) refl (and_true (names_hold code g f place && nat_le h f.height) (has_operands h (operands code instr)) e).1
  where
    by_count : (o : Option ℕ) → operands code instr ≡ o → has_operands h (operands code instr) ≡ true → exchanged h o (results instr) ≤ h + 1
    by_count None is has = absurd (let wrong : false ≡ true = ap (has_operands h) (sym is) ∙ has in cc)
    by_count (Some n) is has = exchanged_above code instr n h is (from_le n h (ap (has_operands h) (sym is) ∙ has))

-- A way has fewer words on the stack than instructions.
pub known_low : (n : ℕ) (code : Code) (g : ℕ) (f : FuncCode) (p h : ℕ) → known_at (known_within code g f n) p ≡ Some h → h < n
known_low zero code g f p h e = absurd (some_none h (known_at (replicate (length f.body) None) p) e (known_none (length f.body) p))
known_low (suc n) code g f p h e =
    let l = lengthened code g f (known_within code g f n) p h e in
    let low = known_low n code g f in
    ⊎_elim
    (λ old. let lt = low p h old in omega arith)
    (λ new. ⊎_elim (λ z. omega (arith, z.1)) (λ c. arrives_low low c) (arrived code g f (known_within code g f n) p h (least_among _ h new.1)))
    l.how
  where
    arrives_low : ((p h : ℕ) → known_at (known_within code g f n) p ≡ Some h → h < n) → Came code g f (known_within code g f n) p h → h < suc n
    arrives_low low c = omega (arith, c.behind, on_above code g f c.place c.instr c.height c.on, low c.place c.height c.before)

-- ---- what the steps of a walk need

pub walk_same : (n : ℕ) (code : Code) (g : ℕ) (f : FuncCode) (a a' : Known) (b b' : Spans) (r r' : List ℕ) (s s' : ℕ) → IsWalk n code g f a b r s → a' ≡ a → b' ≡ b → r' ≡ r → s' ≡ s → IsWalk n code g f a' b' r' s'
walk_same n code g f a a' b b' r r' s s' walk ea eb er es =
    subst (λ k. IsWalk n code g f k b' r' s') (sym ea)
    (subst (λ k. IsWalk n code g f a k r' s') (sym eb)
    (subst (λ k. IsWalk n code g f a b k s') (sym er)
    (subst (λ k. IsWalk n code g f a b r k) (sym es) walk)))

module _ (n : ℕ) (code : Code) (g : ℕ) (f : FuncCode) (known : Known) (ways : Spans) (reached : List ℕ) (settled : ℕ) (w : IsWalk n code g f known ways reached settled) where
  abbrev settled_known : Known
  settled_known = settle_many (length reached - settled) ways settled reached known

  pub settled_size : length settled_known ≡ length f.body
  settled_size = next_size n code g f known ways reached settled w

  pub settled_low : (p h : ℕ) → known_at settled_known p ≡ Some h → h < suc n
  settled_low p h e = known_low (suc n) code g f p h (ap (λ (k : Known). known_at k p) (sym (next_is n code g f known ways reached settled w)) ∙ e)

  -- The walk after its places are settled and its wave has spread.
  pub walk_on : (known1 : Known) (ways1 : Spans) (reached1 : List ℕ) (settled1 : ℕ) → known1 ≡ settled_known → ways1 ≡ ways → reached1 ≡ reached → settled1 ≡ length reached →
      (known2 : Known) (ways2 : Spans) (reached2 : List ℕ) (settled2 : ℕ) → known2 ≡ known1 → settled2 ≡ settled1 →
      ways2 ≡ (pass_many (settled1 - settled) code g f known1 settled reached1 (record { ways = ways1; reached = reached1 })).ways →
      reached2 ≡ (pass_many (settled1 - settled) code g f known1 settled reached1 (record { ways = ways1; reached = reached1 })).reached →
      IsWalk (n + 1) code g f known2 ways2 reached2 settled2
  walk_on known1 ways1 reached1 settled1 ek ew er es known2 ways2 reached2 settled2 ek' es' ew' er' =
      let one : suc n ≡ n + 1 = omega arith in
      let after = λ (s : ℕ) (k : Known) (v : Spans) (r : List ℕ). pass_many (s - settled) code g f k settled r (record { ways = v; reached = r }) in
      let same : after settled1 known1 ways1 reached1 ≡ after (length reached) settled_known ways reached =
      ap (λ s. after s known1 ways1 reached1) es ∙ ap (λ k. after (length reached) k ways1 reached1) ek
      ∙ ap (λ k. after (length reached) settled_known k reached1) ew ∙ ap (λ r. after (length reached) settled_known ways r) er in
      subst (λ k. IsWalk k code g f known2 ways2 reached2 settled2) one
      (walk_same (suc n) code g f _ known2 _ ways2 _ reached2 _ settled2 (walk_next n code g f known ways reached settled w)
      (ek' ∙ ek) (ew' ∙ ap (λ (v : Wave). v.ways) same) (er' ∙ ap (λ (v : Wave). v.reached) same) (es' ∙ es))
