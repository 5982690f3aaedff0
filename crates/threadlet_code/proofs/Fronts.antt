-- What a wave brings to a place.
use Rattle.std.proofs.Common.{◌≡◌, ℕ, zero, suc, ◌+◌, ◌<◌, ◌⊎◌, inl, inr, List, [], ◌∷◌, ◌++◌, length, Option, Some, None, refl, sym, ap, ◌∙◌, subst, arith, eq-eqb, append_assoc, Bool, true, false, ⊎_elim, get_or-set_other, get_or-set_same}
use Rattle.std.specs.Prelude.{slice_get, slice_index, nat_lt, ◌==◌, ◌&&◌, ◌||◌, if◌then◌else◌}
use Rattle.std.specs.List.{list_any}
use Rattle.std.proofs.lemmas.List.{append-nil}
use Rattle.std.proofs.lemmas.Bool.Decides.{eqb_tells}
use Rattle.threadlet_code.specs.declared.instr.Instr.{Instr}
use Rattle.threadlet_code.specs.declared.code.FuncCode.{FuncCode}
use Rattle.threadlet_code.specs.declared.code.Code.{Code}
use Rattle.threadlet_code.specs.declared.walk.Span.{Span}
use Rattle.threadlet_code.specs.Operands.{operands, results}
use Rattle.threadlet_code.specs.Naming.{successors, leads_to}
use Rattle.threadlet_code.specs.Ways.{Known, exchanged, goes_on, brings, known_at}
use Rattle.threadlet_code.specs.Walking.{behind, span_at, widened, span_of, Wave, comes, arrive, arrive_all, spread, pass, pass_many}
use Rattle.threadlet_code.proofs.Bools.{lt_test}
use Rattle.threadlet_code.proofs.Spanning.{widened_twice, span_push}
use Rattle.threadlet_code.proofs.Waves.{arrive_goes_on, many_goes_on}

-- ---- one way

module _ (h : ℕ) where
  -- What a place has once a way came to it, or did not.
  abbrev joined : Bool → Option Span → Option Span
  joined came old = if came then Some (widened h old) else old

  there : (q : ℕ) (w : Wave) (p : ℕ) → (p ≡ q → ⊥) → (b : Bool) → span_at (comes b h q w).ways p ≡ span_at w.ways p
  there q w p ne false = refl
  there q w p ne true = get_or-set_other w.ways q p (Some (widened h (span_at w.ways q))) None ne

  here : (q : ℕ) (w : Wave) → q < length w.ways → span_at (arrive h q w).ways q ≡ Some (widened h (span_at w.ways q))
  here q w lt =
      ap (λ b. span_at (comes b h q w).ways q) (lt_test q (length w.ways) lt)
      ∙ get_or-set_same w.ways q (Some (widened h (span_at w.ways q))) None lt

  arrive_at : (q : ℕ) (w : Wave) (p : ℕ) → p < length w.ways → span_at (arrive h q w).ways p ≡ joined (p == q) (span_at w.ways p)
  arrive_at q w p lt =
      ⊎_elim
      (λ same. subst (λ q. span_at (arrive h q w).ways p ≡ joined (p == q) (span_at w.ways p)) same.1
      (here p w lt ∙ sym (ap (λ b. joined b (span_at w.ways p)) (eq-eqb p p refl))))
      (λ other. there q w p other.1 (nat_lt q (length w.ways)) ∙ sym (ap (λ b. joined b (span_at w.ways p)) other.0))
      (eqb_tells p q)

  join_twice : (b c : Bool) (old : Option Span) → joined c (joined b old) ≡ joined (b || c) old
  join_twice false c old = refl
  join_twice true false old = refl
  join_twice true true old = ap Some (widened_twice h old)

  -- The same of several places.
  arrive_all_at : (qs : List ℕ) (w : Wave) (p : ℕ) → p < length w.ways → span_at (arrive_all h qs w).ways p ≡ joined (list_any (λ q. p == q) qs) (span_at w.ways p)
  arrive_all_at [] w p lt = refl
  arrive_all_at (q ∷ qs) w p lt =
      arrive_all_at qs (arrive h q w) p (omega (arith, (arrive_goes_on h q w).sizes))
      ∙ ap (joined (list_any (λ q. p == q) qs)) (arrive_at q w p lt)
      ∙ join_twice (p == q) (list_any (λ q. p == q) qs) (span_at w.ways p)

-- ---- the ways from several places

-- What has come once some heights did, of which there is one at most.
abbrev with_one : List ℕ → Option Span → Option Span
with_one [] old = old
with_one (h ∷ hs) old = Some (widened h old)

one_more : (xs hs : List ℕ) → (hs ≡ []) ⊎ ((h : ℕ) × (hs ≡ h ∷ [])) → with_one hs (span_of xs) ≡ span_of (xs ++ hs)
one_more xs hs (inl e) = ap (λ l. with_one l (span_of xs)) e ∙ sym (ap (λ l. span_of (xs ++ l)) e ∙ ap span_of (append-nil xs))
one_more xs hs (inr k) = ap (λ l. with_one l (span_of xs)) k.1 ∙ sym (ap (λ l. span_of (xs ++ l)) k.1 ∙ span_push xs k.0)

module _ (code : Code) (g : ℕ) (f : FuncCode) where
  brings_one : (p q : ℕ) (i : Option Instr) (o : Option ℕ) → (brings code g f p q i o ≡ []) ⊎ ((h : ℕ) × (brings code g f p q i o ≡ h ∷ []))
  brings_one p q None o = inl refl
  brings_one p q (Some i) None = inl refl
  brings_one p q (Some i) (Some h) = by_way (goes_on code g f q i h && leads_to q i p)
    where
      by_way : (b : Bool) → ((if b then exchanged h (operands code i) (results i) ∷ [] else []) ≡ []) ⊎ ((k : ℕ) × ((if b then exchanged h (operands code i) (results i) ∷ [] else []) ≡ k ∷ []))
      by_way true = inr (exchanged h (operands code i) (results i), refl)
      by_way false = inl refl

  pass_at : (q : ℕ) (o : Option ℕ) (w : Wave) (p : ℕ) → p < length w.ways →
      span_at (pass code g f q o w).ways p ≡ with_one (brings code g f p q (slice_get f.body q) o) (span_at w.ways p)
  pass_at q o w p lt = by_height o
    where
      by_leads : (b : Bool) (h : ℕ) (old : Option Span) → joined h b old ≡ with_one (if b then h ∷ [] else []) old
      by_leads true h old = refl
      by_leads false h old = refl

      by_way : (i : Instr) (h : ℕ) (b : Bool) →
          span_at (spread q (Some i) (if b then Some (exchanged h (operands code i) (results i)) else None) w).ways p ≡
          with_one (if b && leads_to q i p then exchanged h (operands code i) (results i) ∷ [] else []) (span_at w.ways p)
      by_way i h false = refl
      by_way i h true =
          let k = exchanged h (operands code i) (results i) in
          arrive_all_at k (successors q i) w p lt ∙ by_leads (leads_to q i p) k (span_at w.ways p)

      by_instr : (i : Option Instr) (h : ℕ) →
          span_at (spread q i (behind code g f q i h) w).ways p ≡ with_one (brings code g f p q i (Some h)) (span_at w.ways p)
      by_instr None h = refl
      by_instr (Some i) h = by_way i h (goes_on code g f q i h)

      without : (i : Option Instr) → span_at w.ways p ≡ with_one (brings code g f p q i None) (span_at w.ways p)
      without None = refl
      without (Some i) = refl

      by_height : (o : Option ℕ) → span_at (pass code g f q o w).ways p ≡ with_one (brings code g f p q (slice_get f.body q) o) (span_at w.ways p)
      by_height None = without (slice_get f.body q)
      by_height (Some h) = by_instr (slice_get f.body q) h

  module _ (known : Known) where
    -- The heights that so many places bring to one.
    abbrev pub front : ℕ → ℕ → List ℕ → ℕ → List ℕ
    front zero s places p = []
    front (suc m) s places p =
        let q = slice_index places (s + m) in
        front m s places p ++ brings code g f p q (slice_get f.body q) (known_at known q)

    -- A wave has what came before, and what its places bring.
    pub wave_at : (m s : ℕ) (places : List ℕ) (w : Wave) (p : ℕ) → p < length w.ways → (xs : List ℕ) → span_at w.ways p ≡ span_of xs →
        span_at (pass_many m code g f known s places w).ways p ≡ span_of (xs ++ front m s places p)
    wave_at zero s places w p lt xs e = e ∙ sym (ap span_of (append-nil xs))
    wave_at (suc m) s places w p lt xs e =
        let q = slice_index places (s + m) in
        let now = pass_many m code g f known s places w in
        let hs = brings code g f p q (slice_get f.body q) (known_at known q) in
        pass_at q (known_at known q) now p (omega (arith, (many_goes_on code g f known m s places w).sizes))
        ∙ ap (with_one hs) (wave_at m s places w p lt xs e)
        ∙ one_more (xs ++ front m s places p) hs (brings_one p q (slice_get f.body q) (known_at known q))
        ∙ ap span_of (append_assoc xs (front m s places p) hs)
