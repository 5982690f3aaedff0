-- What waves keep, and what one step more of them is.
use Rattle.std.proofs.Common.{◌≡◌, ℕ, zero, suc, ◌+◌, ◌<◌, ◌≤◌, List, [], ◌∷◌, length, Option, Some, None, refl, sym, ap, ◌∙◌, arith, Bool, true, false, length-append, length-set, ⊎_elim}
use Rattle.std.specs.Prelude.{slice_get, slice_index, slice_set, nat_lt}
use Rattle.std.proofs.lemmas.Bool.{cases_lt}
use Rattle.std.proofs.lemmas.Bool.Decides.{nat_tests}
use Rattle.std.proofs.lemmas.List.{get_or_push}
use Rattle.std.proofs.Math.ListN.{get_or-append}
use Rattle.threadlet_code.specs.declared.code.FuncCode.{FuncCode}
use Rattle.threadlet_code.specs.declared.code.Code.{Code}
use Rattle.threadlet_code.specs.declared.walk.Span.{Span}
use Rattle.threadlet_code.specs.Ways.{Known, known_at}
use Rattle.threadlet_code.specs.Walking.{Spans, span_at, widened, Wave, reaches, comes, arrive, arrive_all, successors_at, spread, behind, pass, pass_many, settle, settle_many}

-- ---- heights that are settled

pub settle_size : (place : ℕ) (o : Option Span) (known : Known) → length (settle place o known) ≡ length known
settle_size place None known = refl
settle_size place (Some span) known = length-set known place (Some span.least)

pub settle_many_size : (n : ℕ) (ways : Spans) (s : ℕ) (places : List ℕ) (known : Known) → length (settle_many n ways s places known) ≡ length known
settle_many_size zero ways s places known = refl
settle_many_size (suc n) ways s places known =
    let place = slice_index places (s + n) in
    settle_size place (span_at ways place) (settle_many n ways s places known) ∙ settle_many_size n ways s places known

-- One place more is settled.
pub settle_many_more : (ways : Spans) (s i : ℕ) (places : List ℕ) (before now after : Known) (place : ℕ) → s ≤ i →
    ((m : ℕ) → s + m ≡ i → now ≡ settle_many m ways s places before) →
    slice_index places i ≡ place → after ≡ settle place (span_at ways place) now →
    (n : ℕ) → s + n ≡ i + 1 → after ≡ settle_many n ways s places before
settle_many_more ways s i places before now after place le so_far here is zero e = absurd (omega arith)
settle_many_more ways s i places before now after place le so_far here is (suc m) e =
    let at : s + m ≡ i = omega arith in
    let same : slice_index places (s + m) ≡ place = ap (slice_index places) at ∙ here in
    let step = λ (q : ℕ). settle q (span_at ways q) now in
    is ∙ ap step (sym same) ∙ ap (settle (slice_index places (s + m)) (span_at ways (slice_index places (s + m)))) (so_far m at)

-- ---- waves

pub same_wave : (a b : Wave) → a.ways ≡ b.ways → a.reached ≡ b.reached → a ≡ b
same_wave a b e e' =
    let first = λ (k : Spans). let w : Wave = record { ways = k; reached = a.reached } in w in
    let second = λ (k : List ℕ). let w : Wave = record { ways = b.ways; reached = k } in w in
    ap first e ∙ ap second e'

-- A wave goes on: it speaks of the same places, and those that were reached stay where they stand.
pub record GoesOn (before after : Wave) : Type 0 where
  pub sizes : length after.ways ≡ length before.ways
  pub longer : length before.reached ≤ length after.reached
  pub front : (k : ℕ) → k < length before.reached → slice_index after.reached k ≡ slice_index before.reached k
  pub within : ((k : ℕ) → k < length before.reached → slice_index before.reached k < length before.ways) →
      (k : ℕ) → k < length after.reached → slice_index after.reached k < length before.ways

pub stays : (wave : Wave) → GoesOn wave wave
stays wave = record { sizes = refl; longer = omega arith; front = λ k lt. refl; within = λ all k lt. all k lt }

pub then_on : (a b c : Wave) → GoesOn a b → GoesOn b c → GoesOn a c
then_on a b c p q = record {
  sizes = q.sizes ∙ p.sizes;
  longer = omega (arith, p.longer, q.longer);
  front = λ k lt. q.front k (omega (arith, p.longer)) ∙ p.front k lt;
  within = λ all k lt. let r = q.within (λ j lt'. omega (arith, p.within all j lt', p.sizes)) k lt in omega (arith, r, p.sizes);
}

pub arrive_goes_on : (height place : ℕ) (wave : Wave) → GoesOn wave (arrive height place wave)
arrive_goes_on height place wave = by_place (nat_lt place (length wave.ways)) refl
  where
    reached : nat_lt place (length wave.ways) ≡ true → (o : Option Span) →
        let after : Wave = record { ways = slice_set wave.ways place (Some (widened height (span_at wave.ways place))); reached = reaches o place wave.reached } in
        GoesOn wave after
    reached inside (Some span) = record { sizes = length-set wave.ways place _; longer = omega arith; front = λ k lt. refl; within = λ all k lt. all k lt }
    reached inside None = record {
      sizes = length-set wave.ways place _;
      longer = omega (arith, length-append wave.reached (place ∷ []));
      front = λ k lt. get_or-append wave.reached (place ∷ []) 0 k lt;
      within = λ all k lt.
          ⊎_elim
          (λ old. let e = get_or-append wave.reached (place ∷ []) 0 k old in omega (arith, all k old))
          (λ new. let e = get_or_push wave.reached place 0 k (let l = length-append wave.reached (place ∷ []) in omega arith) in
          let lt' : place < length wave.ways = grind (arith, nat_tests) in omega arith)
          (cases_lt k (length wave.reached));
    }

    by_place : (b : Bool) → nat_lt place (length wave.ways) ≡ b → GoesOn wave (comes b height place wave)
    by_place false e = stays wave
    by_place true e = reached e (span_at wave.ways place)

pub arrive_all_goes_on : (height : ℕ) (places : List ℕ) (wave : Wave) → GoesOn wave (arrive_all height places wave)
arrive_all_goes_on height [] wave = stays wave
arrive_all_goes_on height (place ∷ places) wave =
    then_on wave (arrive height place wave) _ (arrive_goes_on height place wave) (arrive_all_goes_on height places (arrive height place wave))

module _ (code : Code) (g : ℕ) (f : FuncCode) where
  pub pass_goes_on : (place : ℕ) (o : Option ℕ) (wave : Wave) → GoesOn wave (pass code g f place o wave)
  pass_goes_on place None wave = stays wave
  pass_goes_on place (Some h) wave = by_behind (behind code g f place (slice_get f.body place) h)
    where
      by_behind : (o : Option ℕ) → GoesOn wave (spread place (slice_get f.body place) o wave)
      by_behind None = stays wave
      by_behind (Some k) = arrive_all_goes_on k (successors_at place (slice_get f.body place)) wave

  pub many_goes_on : (known : Known) (m s : ℕ) (places : List ℕ) (w : Wave) → GoesOn w (pass_many m code g f known s places w)
  many_goes_on known zero s places w = stays w
  many_goes_on known (suc m) s places w =
      let q = slice_index places (s + m) in
      let now = pass_many m code g f known s places w in
      then_on w now (pass code g f q (known_at known q) now) (many_goes_on known m s places w) (pass_goes_on q (known_at known q) now)

  -- The way to one place more goes on.
  pub pass_many_more : (known : Known) (s i : ℕ) (places : List ℕ) (before now after : Wave) (place : ℕ) → s ≤ i →
      ((m : ℕ) → s + m ≡ i → now ≡ pass_many m code g f known s places before) →
      slice_index places i ≡ place → after ≡ pass code g f place (known_at known place) now →
      (n : ℕ) → s + n ≡ i + 1 → after ≡ pass_many n code g f known s places before
  pass_many_more known s i places before now after place le so_far here is zero e = absurd (omega arith)
  pass_many_more known s i places before now after place le so_far here is (suc m) e =
      let at : s + m ≡ i = omega arith in
      let same : slice_index places (s + m) ≡ place = ap (slice_index places) at ∙ here in
      let step = λ (q : ℕ). pass code g f q (known_at known q) now in
      is ∙ ap step (sym same) ∙ ap (pass code g f (slice_index places (s + m)) (known_at known (slice_index places (s + m)))) (so_far m at)
