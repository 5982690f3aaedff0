-- The first rule that is broken, by place and by function.
use Rattle.std.proofs.Common.{◌≡◌, ℕ, zero, suc, ◌+◌, ◌<◌, ◌≤◌, List, [], ◌∷◌, ◌++◌, length, Some, None, refl, sym, ap, ◌∙◌, arith, true}
use Rattle.std.specs.Prelude.{slice_get, map, filter, flat_map, option_map, not, take}
use Rattle.std.specs.List.{range_with_len}
use Rattle.std.proofs.lemmas.Option.{slice_get-map, slice_get_past, same_Some}
use Rattle.threadlet_code.specs.declared.rule.Rule.{Rule}
use Rattle.threadlet_code.specs.declared.rule.Rule.TheVariants as rule
use Rattle.threadlet_code.specs.declared.code.FuncCode.{FuncCode}
use Rattle.threadlet_code.specs.declared.code.Code.{Code}
use Rattle.threadlet_code.specs.Naming.{body_length, is_turn}
use Rattle.threadlet_code.specs.Ways.{heights}
use Rattle.threadlet_code.specs.Breaches.{Breach, breaks, is_broken, all_rules, numbers, breaches_at, breaches_in, breaches, first_breach, heights_from}
use Rattle.threadlet_code.proofs.Among.{filter_first, first_left, flat_map_more_none, flat_map_first}

numbers_of : {X : Type 0} (f : ℕ → List X) (n : ℕ) → 1 ≤ n → flat_map f (numbers n) ≡ flat_map f (range_with_len 0 n)
numbers_of f zero le = absurd (omega arith)
numbers_of f (suc n) le = refl

zero_more : (i : ℕ) → 0 + i ≡ i
zero_more i = omega arith

module _ (code : Code) (g : ℕ) (f : FuncCode) (known : slice_get code.functions g ≡ Some f) where
  abbrev breach : ℕ → Rule → Breach
  breach place r = record { function = g; place = place; rule = r }

  broken_at : (place : ℕ) → breaches_at code g place ≡ map (breach place) (filter (breaks code g f place) all_rules)
  broken_at place = ap (λ o. map (breach place) (filter (is_broken code g o place) all_rules)) known

  pub none_at : (place : ℕ) → filter (breaks code g f place) all_rules ≡ [] → breaches_at code g place ≡ []
  none_at place e = broken_at place ∙ ap (map (breach place)) e

  pub first_at : (place : ℕ) (r : Rule) → slice_get (filter (breaks code g f place) all_rules) 0 ≡ Some r → slice_get (breaches_at code g place) 0 ≡ Some (breach place r)
  first_at place r e =
      ap (λ l. slice_get l 0) (broken_at place)
      ∙ slice_get-map (breach place) (filter (breaks code g f place) all_rules) 0
      ∙ ap (option_map (breach place)) e

  in_places : 1 ≤ length f.body → breaches_in code g ≡ flat_map (breaches_at code g) (range_with_len 0 (length f.body))
  in_places le = ap (λ o. flat_map (breaches_at code g) (numbers (body_length o))) known ∙ numbers_of (breaches_at code g) (length f.body) le

  -- One place more without a breach.
  pub none_more : (i : ℕ) → flat_map (breaches_at code g) (range_with_len 0 i) ≡ [] → filter (breaks code g f i) all_rules ≡ [] → flat_map (breaches_at code g) (range_with_len 0 (i + 1)) ≡ []
  none_more i none e =
      let one : suc i ≡ i + 1 = omega arith in
      ap (λ k. flat_map (breaches_at code g) (range_with_len 0 k)) (sym one)
      ∙ flat_map_more_none (breaches_at code g) 0 i none (ap (breaches_at code g) (zero_more i) ∙ none_at i e)

  pub none_in : 1 ≤ length f.body → flat_map (breaches_at code g) (range_with_len 0 (length f.body)) ≡ [] → breaches_in code g ≡ []
  none_in le none = in_places le ∙ none

  pub first_in : (i : ℕ) (r : Rule) → i < length f.body → flat_map (breaches_at code g) (range_with_len 0 i) ≡ [] → slice_get (filter (breaks code g f i) all_rules) 0 ≡ Some r →
      slice_get (breaches_in code g) 0 ≡ Some (breach i r)
  first_in i r lt none e =
      ap (λ l. slice_get l 0) (in_places (omega arith))
      ∙ flat_map_first (breaches_at code g) 0 (length f.body) i (breach i r) lt none (ap (λ k. slice_get (breaches_at code g k) 0) (zero_more i) ∙ first_at i r e)

  -- A function without instructions.
  no_turn : length f.body ≡ 0 → breaks code g f 0 rule.NoEntryTurn ≡ true
  no_turn e = ap (λ i. not (is_turn i)) (slice_get_past f.body 0 (omega arith))

  pub first_empty : length f.body ≡ 0 → slice_get (breaches_in code g) 0 ≡ Some (breach 0 rule.NoEntryTurn)
  first_empty e =
      ap (λ o. slice_get (flat_map (breaches_at code g) (numbers (body_length o))) 0) known
      ∙ ap (λ n. slice_get (flat_map (breaches_at code g) (numbers n)) 0) e
      ∙ first_left (breaches_at code g 0) [] (breach 0 rule.NoEntryTurn)
      (first_at 0 rule.NoEntryTurn (filter_first (breaks code g f 0) all_rules 0 rule.NoEntryTurn refl refl (no_turn e)))

-- ---- functions

module _ (code : Code) where
  pub more_functions : (i : ℕ) → flat_map (breaches_in code) (range_with_len 0 i) ≡ [] → breaches_in code i ≡ [] → flat_map (breaches_in code) (range_with_len 0 (i + 1)) ≡ []
  more_functions i none e =
      let one : suc i ≡ i + 1 = omega arith in
      ap (λ k. flat_map (breaches_in code) (range_with_len 0 k)) (sym one)
      ∙ flat_map_more_none (breaches_in code) 0 i none (ap (breaches_in code) (zero_more i) ∙ e)

  pub none_of : 1 ≤ length code.functions → flat_map (breaches_in code) (range_with_len 0 (length code.functions)) ≡ [] → breaches code ≡ []
  none_of le none = numbers_of (breaches_in code) (length code.functions) le ∙ none

  pub first_of : (i : ℕ) (b : Breach) → i < length code.functions → flat_map (breaches_in code) (range_with_len 0 i) ≡ [] → slice_get (breaches_in code i) 0 ≡ Some b → first_breach code ≡ Some b
  first_of i b lt none e =
      ap (λ l. slice_get l 0) (numbers_of (breaches_in code) (length code.functions) (omega arith))
      ∙ flat_map_first (breaches_in code) 0 (length code.functions) i b lt none (ap (λ k. slice_get (breaches_in code k) 0) (zero_more i) ∙ e)

heights_more : (a : ℕ) (code : Code) (fs : List FuncCode) (i : ℕ) (f : FuncCode) → slice_get fs i ≡ Some f →
    heights_from a code (take (suc i) fs) ≡ heights_from a code (take i fs) ++ heights code (a + i) f ∷ []
heights_more a code [] i f at = absurd (let wrong : None ≡ Some f = at in cc)
heights_more a code (h ∷ fs) zero f at =
    let same : a ≡ a + 0 = omega arith in
    ap (λ (k : FuncCode). heights code a k ∷ []) (same_Some h f at) ∙ ap (λ k. heights code k f ∷ []) same
heights_more a code (h ∷ fs) (suc i) f at =
    let same : suc a + i ≡ a + suc i = omega arith in
    ap (λ l. heights code a h ∷ l) (heights_more (suc a) code fs i f at ∙ ap (λ k. heights_from (suc a) code (take i fs) ++ heights code k f ∷ []) same)

pub heights_push : (code : Code) (i : ℕ) (f : FuncCode) → slice_get code.functions i ≡ Some f →
    heights_from 0 code (take (i + 1) code.functions) ≡ heights_from 0 code (take i code.functions) ++ heights code i f ∷ []
heights_push code i f at =
    let one : suc i ≡ i + 1 = omega arith in
    ap (λ k. heights_from 0 code (take k code.functions)) (sym one) ∙ heights_more 0 code code.functions i f at
    ∙ ap (λ k. heights_from 0 code (take i code.functions) ++ heights code k f ∷ []) (zero_more i)
