-- The span of some heights.
use Rattle.std.proofs.Common.{◌≡◌, ℕ, ◌≤◌, inl, inr, List, [], ◌∷◌, ◌++◌, Option, Some, None, refl, ap, ◌∙◌, subst, arith, ⊎_elim}
use Rattle.std.specs.Prelude.{min, max, option_map}
use Rattle.std.proofs.lemmas.Bool.{cases_lt}
use Rattle.std.proofs.lemmas.Option.{same_Some}
use Rattle.threadlet_code.specs.declared.walk.Span.{Span}
use Rattle.threadlet_code.specs.Ways.{least, lesser}
use Rattle.threadlet_code.specs.Walking.{widened, span_of}
use Rattle.threadlet_code.proofs.Among.{Among}

same_span_record : (a b : Span) → a.least ≡ b.least → a.most ≡ b.most → a ≡ b
same_span_record a b e e' =
    let first = λ (k : ℕ). let s : Span = record { least = k; most = a.most } in s in
    let second = λ (k : ℕ). let s : Span = record { least = b.least; most = k } in s in
    ap first e ∙ ap second e'

pub widened_twice : (h : ℕ) (o : Option Span) → widened h (Some (widened h o)) ≡ widened h o
widened_twice h None = same_span_record (widened h (Some (widened h None))) (widened h None) (omega arith) (omega arith)
widened_twice h (Some s) = same_span_record (widened h (Some (widened h (Some s)))) (widened h (Some s)) (omega arith) (omega arith)

widened_swap : (x h : ℕ) (o : Option Span) → widened x (Some (widened h o)) ≡ widened h (Some (widened x o))
widened_swap x h None = same_span_record (widened x (Some (widened h None))) (widened h (Some (widened x None))) (omega arith) (omega arith)
widened_swap x h (Some s) = same_span_record (widened x (Some (widened h (Some s)))) (widened h (Some (widened x (Some s)))) (omega arith) (omega arith)

-- One height more.
pub span_push : (xs : List ℕ) (h : ℕ) → span_of (xs ++ h ∷ []) ≡ Some (widened h (span_of xs))
span_push [] h = refl
span_push (x ∷ xs) h = ap Some (ap (widened x) (span_push xs h) ∙ widened_swap x h (span_of xs))

-- The least of a span is the least height.
pub span_least : (xs : List ℕ) → option_map (λ (s : Span). s.least) (span_of xs) ≡ least xs
span_least [] = refl
span_least (x ∷ xs) = ap Some (by_rest (span_of xs) ∙ ap (lesser x) (span_least xs))
  where
    by_rest : (o : Option Span) → (widened x o).least ≡ lesser x (option_map (λ (s : Span). s.least) o)
    by_rest None = refl
    by_rest (Some s) = refl

-- ---- a span and its heights

-- A span is that of heights among which its ends are, and which lie between them.
pub record Spanned (s : Span) (xs : List ℕ) : Type 0 where
  pub least_among : Among s.least xs
  pub most_among : Among s.most xs
  pub bounds : (h : ℕ) → Among h xs → (s.least ≤ h) × (h ≤ s.most)

spanned_more : (x : ℕ) (xs : List ℕ) (o : Option Span) → span_of xs ≡ o → ((s : Span) → span_of xs ≡ Some s → Spanned s xs) → (o ≡ None → (h : ℕ) → Among h xs → ⊥) → Spanned (widened x o) (x ∷ xs)
spanned_more x xs None e more none = record {
  least_among = inl refl;
  most_among = inl refl;
  bounds = λ h a. ⊎_elim (λ same. (omega arith, omega arith)) (λ r. absurd (none refl h r)) a;
}
spanned_more x xs (Some s) e more none =
    let p = more s e in
    record {
      least_among = ⊎_elim (λ lt. inl (omega arith)) (λ le. inr (let same : s.least ≡ min x s.least = omega arith in subst (λ k. Among k xs) same p.least_among)) (cases_lt x s.least);
      most_among = ⊎_elim (λ lt. inr (let same : s.most ≡ max x s.most = omega arith in subst (λ k. Among k xs) same p.most_among)) (λ le. inl (omega arith)) (cases_lt x s.most);
      bounds = λ h a. ⊎_elim (λ same. (omega arith, omega arith)) (λ r. let b = p.bounds h r in (omega (arith, b.0), omega (arith, b.1))) a;
    }

pub span_none : (xs : List ℕ) → span_of xs ≡ None → (h : ℕ) → Among h xs → ⊥
span_none [] e h a = a
span_none (x ∷ xs) e h a = let wrong : Some (widened x (span_of xs)) ≡ None = e in cc

pub spanned : (xs : List ℕ) (s : Span) → span_of xs ≡ Some s → Spanned s xs
spanned [] s e = absurd (let wrong : None ≡ Some s = e in cc)
spanned (x ∷ xs) s e =
    subst (λ t. Spanned t (x ∷ xs)) (same_Some (widened x (span_of xs)) s e)
    (spanned_more x xs (span_of xs) refl (spanned xs) (span_none xs))

-- Heights with the same members have the same span.
pub same_span : (xs ys : List ℕ) → ((h : ℕ) → Among h xs → Among h ys) → ((h : ℕ) → Among h ys → Among h xs) → span_of xs ≡ span_of ys
same_span xs ys there back = by_span (span_of xs) refl (span_of ys) refl
  where
    by_span : (a : Option Span) → span_of xs ≡ a → (b : Option Span) → span_of ys ≡ b → a ≡ b
    by_span None e None e' = refl
    by_span None e (Some t) e' = absurd (span_none xs e t.least (back t.least (spanned ys t e').least_among))
    by_span (Some s) e None e' = absurd (span_none ys e' s.least (there s.least (spanned xs s e).least_among))
    by_span (Some s) e (Some t) e' =
        let p = spanned xs s e in
        let q = spanned ys t e' in
        ap Some (same_span_record s t
        (omega (arith, (p.bounds t.least (back t.least q.least_among)).0, (q.bounds s.least (there s.least p.least_among)).0))
        (omega (arith, (p.bounds t.most (back t.most q.most_among)).1, (q.bounds s.most (there s.most p.most_among)).1)))
