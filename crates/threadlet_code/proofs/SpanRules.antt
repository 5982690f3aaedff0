-- The rules on ways, by the span of their heights.
use Rattle.std.proofs.Common.{◌≡◌, ℕ, ◌<◌, ◌≤◌, List, Option, Some, None, refl, sym, ap, ◌∙◌, arith, eq-eqb, Bool, true, false}
use Rattle.std.specs.Prelude.{◌==◌, not, nat_lt, nat_le, length, slice_get}
use Rattle.std.specs.List.{list_any}
use Rattle.std.proofs.lemmas.Bool.{eqb-true}
use Rattle.std.proofs.lemmas.Option.{get_or_from_slice_get}
use Rattle.threadlet_code.specs.declared.instr.Instr.{Instr}
use Rattle.threadlet_code.specs.declared.code.FuncCode.{FuncCode}
use Rattle.threadlet_code.specs.declared.code.Code.{Code}
use Rattle.threadlet_code.specs.declared.walk.Span.{Span}
use Rattle.threadlet_code.specs.Operands.{operands}
use Rattle.threadlet_code.specs.Ways.{has_operands, lacks_operands, differ, ways_to, underflow, height_differs, too_high}
use Rattle.threadlet_code.specs.Walking.{Spans, span_of, AreFound}
use Rattle.threadlet_code.specs.Judging.{lacks_least, is_wide, exceeds}
use Rattle.threadlet_code.proofs.Among.{Among, none_among, among_any}
use Rattle.threadlet_code.proofs.Bools.{le_test, from_le, not_lt, from_not_lt, not_false}
use Rattle.threadlet_code.proofs.Spanning.{Spanned, span_none, spanned}

-- A test that only the end of a span decides.
decided : (p : ℕ → Bool) (end : ℕ) (xs : List ℕ) → Among end xs → (p end ≡ false → (h : ℕ) → Among h xs → p h ≡ false) → list_any p xs ≡ p end
decided p end xs at others = by_test (p end) refl
  where
    by_test : (b : Bool) → p end ≡ b → list_any p xs ≡ b
    by_test true e = among_any p end xs at e
    by_test false e = none_among p xs (others e)

lacks_up : (code : Code) (instr : Option Instr) (low h : ℕ) → low ≤ h → lacks_operands code instr low ≡ false → lacks_operands code instr h ≡ false
lacks_up code None low h le e = refl
lacks_up code (Some instr) low h le e = by_count (operands code instr) e
  where
    by_count : (o : Option ℕ) → not (has_operands low o) ≡ false → not (has_operands h o) ≡ false
    by_count None e = e
    by_count (Some n) e = ap not (le_test n h (let l = from_le n low (not_false (nat_le n low) e) in omega arith))

pub underflow_by_span : (code : Code) (instr : Option Instr) (xs : List ℕ) → list_any (lacks_operands code instr) xs ≡ lacks_least code instr (span_of xs)
underflow_by_span code instr xs = by_span (span_of xs) refl
  where
    by_span : (o : Option Span) → span_of xs ≡ o → list_any (lacks_operands code instr) xs ≡ lacks_least code instr o
    by_span None e = none_among (lacks_operands code instr) xs (λ h a. absurd (span_none xs e h a))
    by_span (Some s) e =
        let sp = spanned xs s e in
        decided (lacks_operands code instr) s.least xs sp.least_among (λ none h a. lacks_up code instr s.least h (sp.bounds h a).0 none)

pub too_high_by_span : (height : ℕ) (xs : List ℕ) → list_any (λ h. nat_lt height h) xs ≡ exceeds height (span_of xs)
too_high_by_span height xs = by_span (span_of xs) refl
  where
    by_span : (o : Option Span) → span_of xs ≡ o → list_any (λ h. nat_lt height h) xs ≡ exceeds height o
    by_span None e = none_among (λ h. nat_lt height h) xs (λ h a. absurd (span_none xs e h a))
    by_span (Some s) e =
        let sp = spanned xs s e in
        decided (λ h. nat_lt height h) s.most xs sp.most_among (λ none h a. not_lt height h (omega (arith, from_not_lt height s.most none, (sp.bounds h a).1)))

pub differ_by_span : (xs : List ℕ) → differ xs ≡ is_wide (span_of xs)
differ_by_span xs = by_span (span_of xs) refl
  where
    by_test : (s : Span) → Spanned s xs → (b : Bool) → (s.least == s.most) ≡ b → differ xs ≡ not b
    by_test s sp false e =
        among_any (λ g. list_any (λ h. not (g == h)) xs) s.least xs sp.least_among
        (among_any (λ h. not (s.least == h)) s.most xs sp.most_among (ap not e))
    by_test s sp true e =
        let same : s.least ≡ s.most = eqb-true s.least s.most e in
        none_among (λ g. list_any (λ h. not (g == h)) xs) xs (λ g a. none_among (λ h. not (g == h)) xs
        (λ h b. ap not (eq-eqb g h (omega (arith, sp.bounds g a, sp.bounds h b)))))

    by_span : (o : Option Span) → span_of xs ≡ o → differ xs ≡ is_wide o
    by_span None e = none_among (λ g. list_any (λ h. not (g == h)) xs) xs (λ h a. absurd (span_none xs e h a))
    by_span (Some s) e = by_test s (spanned xs s e) (s.least == s.most) refl

-- ---- the rules at a place whose span was found

module _ (code : Code) (g : ℕ) (f : FuncCode) (ways : Spans) (found : AreFound code g f ways) (place : ℕ) (o : Option Span) (lt : place < length f.body) (at : slice_get ways place ≡ Some o) where
  same_ways : o ≡ span_of (ways_to code g f place)
  same_ways = sym (get_or_from_slice_get ways place o None at) ∙ found.each place lt

  pub underflow_found : (instr : Instr) → slice_get f.body place ≡ Some instr → lacks_least code (Some instr) o ≡ underflow code g f place
  underflow_found instr here =
      ap (lacks_least code (Some instr)) same_ways ∙ ap (λ i. lacks_least code i (span_of (ways_to code g f place))) (sym here)
      ∙ sym (underflow_by_span code (slice_get f.body place) (ways_to code g f place))

  pub differs_found : is_wide o ≡ height_differs code g f place
  differs_found = ap is_wide same_ways ∙ sym (differ_by_span (ways_to code g f place))

  pub too_high_found : exceeds f.height o ≡ too_high code g f place
  too_high_found = ap (exceeds f.height) same_ways ∙ sym (too_high_by_span f.height (ways_to code g f place))
