-- A wave's places: where a way came first, and in which order.
use Rattle.std.proofs.Common.{◌≡◌, ℕ, zero, suc, ◌+◌, ◌<◌, ◌≤◌, List, [], ◌∷◌, ◌++◌, length, Option, Some, None, refl, sym, ap, ◌∙◌, arith, Bool, true, false, ⊎_elim, length-append, get_or-set_other, get_or-set_same}
use Rattle.std.specs.Prelude.{slice_get, slice_index, slice_set, nat_lt}
use Rattle.std.proofs.lemmas.Bool.{cases_lt}
use Rattle.std.proofs.lemmas.Bool.Decides.{eqb_tells}
use Rattle.std.proofs.lemmas.List.{get_or_push}
use Rattle.std.proofs.Math.ListN.{get_or-append}
use Rattle.threadlet_code.specs.declared.code.FuncCode.{FuncCode}
use Rattle.threadlet_code.specs.declared.code.Code.{Code}
use Rattle.threadlet_code.specs.declared.walk.Span.{Span}
use Rattle.threadlet_code.specs.Ways.{Known, known_at}
use Rattle.threadlet_code.specs.Walking.{span_at, widened, Wave, reaches, comes, arrive, arrive_all, successors_at, spread, behind, pass, pass_many, Stands}
use Rattle.threadlet_code.proofs.Bools.{some_none, from_lt}

-- What a wave makes of another, where the places from an index on were reached since: to these, and to no others, a
-- way came for the first time.
pub record Carries (before : Wave) (s : ℕ) (now : Wave) : Type 0 where
  pub long : s ≤ length now.reached
  pub opens : (p : ℕ) → span_at now.ways p ≡ None → span_at before.ways p ≡ None
  pub covers : (p : ℕ) (span : Span) → span_at now.ways p ≡ Some span → span_at before.ways p ≡ None → Stands p s now.reached
  pub fresh : (k : ℕ) → s ≤ k → k < length now.reached → span_at before.ways (slice_index now.reached k) ≡ None

pub carries_start : (w : Wave) → Carries w (length w.reached) w
carries_start w = record {
  long = omega arith;
  opens = λ p e. e;
  covers = λ p span e e'. absurd (some_none span (span_at w.ways p) e e');
  fresh = λ k le lt. absurd (omega arith);
}

module _ (before : Wave) (s : ℕ) where
  pushed : (p q : ℕ) (l : List ℕ) → Stands p s l → Stands p s (l ++ q ∷ [])
  pushed p q l st = record {
    index = st.index;
    above = st.above;
    inside = omega (arith, st.inside, length-append l (q ∷ []));
    here = get_or-append l (q ∷ []) 0 st.index st.inside ∙ st.here;
  }

  arrive_carries : (h q : ℕ) (w : Wave) → Carries before s w → Carries before s (arrive h q w)
  arrive_carries h q w c = by_place (nat_lt q (length w.ways)) refl
    where
      same : q < length w.ways → span_at (slice_set w.ways q (Some (widened h (span_at w.ways q)))) q ≡ Some (widened h (span_at w.ways q))
      same lt = get_or-set_same w.ways q (Some (widened h (span_at w.ways q))) None lt

      other : (p : ℕ) → (p ≡ q → ⊥) → span_at (slice_set w.ways q (Some (widened h (span_at w.ways q)))) p ≡ span_at w.ways p
      other p ne = get_or-set_other w.ways q p (Some (widened h (span_at w.ways q))) None ne

      opens : q < length w.ways → (p : ℕ) → span_at (slice_set w.ways q (Some (widened h (span_at w.ways q)))) p ≡ None → span_at before.ways p ≡ None
      opens lt p e =
          ⊎_elim
          (λ is. absurd (some_none (widened h (span_at w.ways q)) (span_at (slice_set w.ways q (Some (widened h (span_at w.ways q)))) p) (ap (span_at (slice_set w.ways q (Some (widened h (span_at w.ways q))))) is.1 ∙ same lt) e))
          (λ is. c.opens p (sym (other p is.1) ∙ e))
          (eqb_tells p q)

      by_old : q < length w.ways → (o : Option Span) → span_at w.ways q ≡ o →
          let after : Wave = record { ways = slice_set w.ways q (Some (widened h (span_at w.ways q))); reached = reaches o q w.reached } in
          Carries before s after
      by_old lt (Some span) old = record {
        long = c.long;
        opens = opens lt;
        covers = λ p span' e e'.
            ⊎_elim (λ is. c.covers p span (ap (span_at w.ways) is.1 ∙ old) e') (λ is. c.covers p span' (sym (other p is.1) ∙ e) e') (eqb_tells p q);
        fresh = c.fresh;
      }
      by_old lt None old = record {
        long = omega (arith, c.long, length-append w.reached (q ∷ []));
        opens = opens lt;
        covers = λ p span' e e'.
            ⊎_elim
            (λ is. record {
              index = length w.reached;
              above = c.long;
              inside = omega (arith, length-append w.reached (q ∷ []));
              here = get_or_push w.reached q 0 (length w.reached) refl ∙ sym is.1;
            })
            (λ is. pushed p q w.reached (c.covers p span' (sym (other p is.1) ∙ e) e'))
            (eqb_tells p q);
        fresh = λ k le lt'.
            ⊎_elim
            (λ older. ap (span_at before.ways) (get_or-append w.reached (q ∷ []) 0 k older) ∙ c.fresh k le older)
            (λ last. ap (span_at before.ways) (get_or_push w.reached q 0 k (let l = length-append w.reached (q ∷ []) in omega arith)) ∙ c.opens q old)
            (cases_lt k (length w.reached));
      }

      by_place : (b : Bool) → nat_lt q (length w.ways) ≡ b → Carries before s (comes b h q w)
      by_place false e = c
      by_place true e = by_old (from_lt q (length w.ways) e) (span_at w.ways q) refl

  arrive_all_carries : (h : ℕ) (qs : List ℕ) (w : Wave) → Carries before s w → Carries before s (arrive_all h qs w)
  arrive_all_carries h [] w c = c
  arrive_all_carries h (q ∷ qs) w c = arrive_all_carries h qs (arrive h q w) (arrive_carries h q w c)

  module _ (code : Code) (g : ℕ) (f : FuncCode) where
    pass_carries : (q : ℕ) (o : Option ℕ) (w : Wave) → Carries before s w → Carries before s (pass code g f q o w)
    pass_carries q None w c = c
    pass_carries q (Some h) w c = by_behind (behind code g f q (slice_get f.body q) h)
      where
        by_behind : (o : Option ℕ) → Carries before s (spread q (slice_get f.body q) o w)
        by_behind None = c
        by_behind (Some k) = arrive_all_carries k (successors_at q (slice_get f.body q)) w c

    pub many_carries : (known : Known) (m from : ℕ) (places : List ℕ) (w : Wave) → Carries before s w → Carries before s (pass_many m code g f known from places w)
    many_carries known zero from places w c = c
    many_carries known (suc m) from places w c =
        let q = slice_index places (from + m) in
        pass_carries q (known_at known q) (pass_many m code g f known from places w) (many_carries known m from places w c)
