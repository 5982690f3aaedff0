-- How ways come to a place.
use Rattle.std.proofs.Common.{◌≡◌, ℕ, zero, suc, ◌<◌, ◌≤◌, ◌⊎◌, inl, inr, List, [], ◌∷◌, length, Option, Some, None, refl, sym, ap, ◌∙◌, subst, arith, Bool, true, false, ⊎_elim}
use Rattle.std.specs.Prelude.{replicate, slice_get, ◌==◌, ◌&&◌, min, if◌then◌else◌}
use Rattle.std.specs.Option.{option_or}
use Rattle.std.proofs.lemmas.Bool.{cases_lt, eqb-true}
use Rattle.std.proofs.lemmas.Option.{slice_get_within, same_Some}
use Rattle.std.proofs.lemmas.List.{get_or_past}
use Rattle.std.proofs.lemmas.List.FromFn.{get_or-map-range_with_len, length-map-range_with_len}
use Rattle.threadlet_code.specs.declared.instr.Instr.{Instr}
use Rattle.threadlet_code.specs.declared.code.FuncCode.{FuncCode}
use Rattle.threadlet_code.specs.declared.code.Code.{Code}
use Rattle.threadlet_code.specs.Operands.{operands, results}
use Rattle.threadlet_code.specs.Naming.{leads_to}
use Rattle.threadlet_code.specs.Ways.{Known, least, lesser, exchanged, goes_on, brings, arrivals, longer, known_at}
use Rattle.threadlet_code.proofs.Bools.{and_true}
use Rattle.threadlet_code.proofs.Among.{Among, among_right, among_append, among_parts, among_part}

-- A way with this height comes from the instruction at another place.
pub record Came (code : Code) (g : ℕ) (f : FuncCode) (known : Known) (to h : ℕ) : Type 0 where
  pub place : ℕ
  pub instr : Instr
  pub height : ℕ
  pub here : slice_get f.body place ≡ Some instr
  pub before : known_at known place ≡ Some height
  pub on : goes_on code g f place instr height ≡ true
  pub leads : leads_to place instr to ≡ true
  pub behind : h ≡ exchanged height (operands code instr) (results instr)

module _ (code : Code) (g : ℕ) (f : FuncCode) (known : Known) (to : ℕ) where
  abbrev pub Brought : ℕ → Type 0
  Brought h = ((to ≡ 0) × (h ≡ 0)) ⊎ Came code g f known to h

  brought_by : (h place : ℕ) (instr : Option Instr) → slice_get f.body place ≡ instr → (height : Option ℕ) → known_at known place ≡ height →
      Among h (brings code g f to place instr height) → Came code g f known to h
  brought_by h place None here height before a = absurd a
  brought_by h place (Some instr) here None before a = absurd a
  brought_by h place (Some instr) here (Some height) before a =
      by_way (goes_on code g f place instr height && leads_to place instr to) refl a
    where
      by_way : (b : Bool) → (goes_on code g f place instr height && leads_to place instr to) ≡ b →
          Among h (if b then exchanged height (operands code instr) (results instr) ∷ [] else []) → Came code g f known to h
      by_way false e a = absurd a
      by_way true e (inr a) = absurd a
      by_way true e (inl is) =
          let both = and_true (goes_on code g f place instr height) (leads_to place instr to) e in
          record { place = place; instr = instr; height = height; here = here; before = before; on = both.0; leads = both.1; behind = is }

  start_only : (h : ℕ) (b : Bool) → (to == 0) ≡ b → Among h (if b then 0 ∷ [] else []) → (to ≡ 0) × (h ≡ 0)
  start_only h true e (inl is) = (eqb-true to 0 e, is)
  start_only h true e (inr a) = absurd a
  start_only h false e a = absurd a

  pub arrived : (h : ℕ) → Among h (arrivals code g f to known) → Brought h
  arrived h a =
      ⊎_elim
      (λ l. inl (start_only h (to == 0) refl l))
      (λ r. let p = among_parts (λ place. brings code g f to place (slice_get f.body place) (known_at known place)) h 0 (length f.body) r in
      inr (brought_by h p.part (slice_get f.body p.part) refl (known_at known p.part) refl p.here))
      (among_append h (if to == 0 then 0 ∷ [] else []) _ a)

  -- What it brings.
  pub brings_it : (h : ℕ) (c : Came code g f known to h) → Among h (brings code g f to c.place (slice_get f.body c.place) (known_at known c.place))
  brings_it h c =
      subst (λ (o : Option Instr). Among h (brings code g f to c.place o (known_at known c.place))) (sym c.here)
      (subst (λ (o : Option ℕ). Among h (brings code g f to c.place (Some c.instr) o)) (sym c.before)
      (subst (λ (b : Bool). Among h (if b then exchanged c.height (operands code c.instr) (results c.instr) ∷ [] else []))
      (sym (ap (λ b. b && leads_to c.place c.instr to) c.on ∙ c.leads)) (inl c.behind)))

  -- What the instruction at a place of the body brings is among what comes.
  pub comes_from : (h place : ℕ) → place < length f.body → Among h (brings code g f to place (slice_get f.body place) (known_at known place)) → Among h (arrivals code g f to known)
  comes_from h place lt a =
      among_right h (if to == 0 then 0 ∷ [] else []) _
      (among_part (λ place. brings code g f to place (slice_get f.body place) (known_at known place)) h 0 (length f.body) place (omega arith) (omega arith) a)

  pub came : (h : ℕ) → Came code g f known to h → Among h (arrivals code g f to known)
  came h c = comes_from h c.place (slice_get_within f.body c.place c.instr c.here) (brings_it h c)

pub began : (code : Code) (g : ℕ) (f : FuncCode) (known : Known) → Among 0 (arrivals code g f 0 known)
began code g f known = inl refl

-- ---- the least of some heights

pub least_among : (xs : List ℕ) (h : ℕ) → least xs ≡ Some h → Among h xs
least_among [] h e = absurd (let wrong : None ≡ Some h = e in cc)
least_among (x ∷ xs) h e = by_rest (least xs) refl (least_among xs) (same_Some (lesser x (least xs)) h e)
  where
    by_rest : (o : Option ℕ) → least xs ≡ o → ((k : ℕ) → least xs ≡ Some k → Among k xs) → lesser x (least xs) ≡ h → Among h (x ∷ xs)
    by_rest None is more e = inl (sym e ∙ ap (lesser x) is)
    by_rest (Some k) is more e =
        let e' : min x k ≡ h = ap (lesser x) (sym is) ∙ e in
        ⊎_elim (λ lt. inl (omega arith)) (λ le. inr (let same : k ≡ h = omega arith in more h (is ∙ ap Some same))) (cases_lt x k)

pub least_there : (xs : List ℕ) (h : ℕ) → Among h xs → least xs ≡ None → ⊥
least_there [] h a e = a
least_there (x ∷ xs) h a e = let wrong : Some (lesser x (least xs)) ≡ None = e in cc

pub least_below : (xs : List ℕ) (m h : ℕ) → least xs ≡ Some m → Among h xs → m ≤ h
least_below [] m h e a = absurd a
least_below (x ∷ xs) m h e a = by_rest (least xs) refl (least_below xs) (same_Some (lesser x (least xs)) m e) a
  where
    by_rest : (o : Option ℕ) → least xs ≡ o → ((m h : ℕ) → least xs ≡ Some m → Among h xs → m ≤ h) → lesser x (least xs) ≡ m → Among h (x ∷ xs) → m ≤ h
    by_rest None is more e (inl same) = let e' : x ≡ m = ap (lesser x) (sym is) ∙ e in omega arith
    by_rest None is more e (inr a) = absurd (least_there xs h a is)
    by_rest (Some k) is more e (inl same) = let e' : min x k ≡ m = ap (lesser x) (sym is) ∙ e in omega arith
    by_rest (Some k) is more e (inr a) = let e' : min x k ≡ m = ap (lesser x) (sym is) ∙ e in omega (arith, more k h is a)

-- ---- what is known after one instruction more

pub known_none : (n place : ℕ) → known_at (replicate n None) place ≡ None
known_none zero place = refl
known_none (suc n) zero = refl
known_none (suc n) (suc place) = known_none n place

pub known_longer : (code : Code) (g : ℕ) (f : FuncCode) (known : Known) (place : ℕ) → place < length f.body →
    known_at (longer code g f known) place ≡ option_or (known_at known place) (least (arrivals code g f place known))
known_longer code g f known place lt =
    get_or-map-range_with_len (λ to. option_or (known_at known to) (least (arrivals code g f to known))) 0 (length f.body) place place None lt (omega arith)

-- A height is known where one was, or now as the least of those that come.
pub record Lengthened (code : Code) (g : ℕ) (f : FuncCode) (known : Known) (place h : ℕ) : Type 0 where
  pub inside : place < length f.body
  pub how : (known_at known place ≡ Some h) ⊎ ((known_at known place ≡ None) × (least (arrivals code g f place known) ≡ Some h))

pub lengthened : (code : Code) (g : ℕ) (f : FuncCode) (known : Known) (place h : ℕ) → known_at (longer code g f known) place ≡ Some h → Lengthened code g f known place h
lengthened code g f known place h e = ⊎_elim inside outside (cases_lt place (length f.body))
  where
    by_old : place < length f.body → (old : Option ℕ) → known_at known place ≡ old → option_or old (least (arrivals code g f place known)) ≡ Some h → Lengthened code g f known place h
    by_old lt None is e = record { inside = lt; how = inr (is, e) }
    by_old lt (Some k) is e = record { inside = lt; how = inl (is ∙ e) }

    inside : place < length f.body → Lengthened code g f known place h
    inside lt =
        by_old lt (known_at known place) refl (sym (known_longer code g f known place lt) ∙ e)

    outside : length f.body ≤ place → Lengthened code g f known place h
    outside le =
        let none : known_at (longer code g f known) place ≡ None =
        get_or_past (longer code g f known) place None
        (let l = length-map-range_with_len (λ to. option_or (known_at known to) (least (arrivals code g f to known))) 0 (length f.body) in omega arith) in
        let wrong : None ≡ Some h = sym none ∙ e in absurd (cc)

-- Heights with the same members have the same least.
pub same_least : (xs ys : List ℕ) → ((h : ℕ) → Among h xs → Among h ys) → ((h : ℕ) → Among h ys → Among h xs) → least xs ≡ least ys
same_least xs ys there back = by_least (least xs) refl (least ys) refl
  where
    by_least : (a : Option ℕ) → least xs ≡ a → (b : Option ℕ) → least ys ≡ b → a ≡ b
    by_least None e None e' = refl
    by_least None e (Some k) e' = absurd (least_there xs k (back k (least_among ys k e')) e)
    by_least (Some m) e None e' = absurd (least_there ys m (there m (least_among xs m e)) e')
    by_least (Some m) e (Some k) e' =
        let le = least_below xs m k e (back k (least_among ys k e')) in
        let ge = least_below ys k m e' (there m (least_among xs m e)) in
        let same : m ≡ k = omega arith in ap Some same
