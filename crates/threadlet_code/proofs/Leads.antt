-- The heights of a function that keeps all rules.
use Rattle.std.proofs.Common.{◌≡◌, ℕ, suc, ◌<◌, ◌≤◌, inl, inr, List, [], ◌∷◌, length, Some, None, refl, sym, ap, subst, ◌∙◌, arith, eq-eqb, Bool, true, false, ⊎_elim}
use Rattle.std.specs.Prelude.{slice_get, ◌==◌, ◌&&◌, ◌||◌, not, nat_lt, nat_le, option_and_then}
use Rattle.std.specs.List.{list_any}
use Rattle.std.proofs.lemmas.Bool.{cases_lt, eqb-true}
use Rattle.std.proofs.lemmas.List.{get_or_past}
use Rattle.std.proofs.lemmas.Option.{slice_get_within}
use Rattle.threadlet_code.specs.declared.instr.Instr.{Instr}
use Rattle.threadlet_code.specs.declared.instr.Instr.TheVariants as by
use Rattle.threadlet_code.specs.declared.rule.Rule.TheVariants as rule
use Rattle.threadlet_code.specs.declared.code.FuncCode.{FuncCode}
use Rattle.threadlet_code.specs.declared.code.Code.{Code}
use Rattle.threadlet_code.specs.Operands.{operands, results}
use Rattle.threadlet_code.specs.Naming.{successors, jump_of, is_last}
use Rattle.threadlet_code.specs.Rules.{bad_slot, bad_function, bad_format, bad_target}
use Rattle.threadlet_code.specs.Ways.{has_operands, lacks_operands, exchanged, differ, names_hold, goes_on, heights, ways_to, known_at}
use Rattle.threadlet_code.specs.Breaches.{is_sound}
use Rattle.threadlet_code.specs.Sound.{OfEach, KeepsRules, HeightsLead, RulesAreKept, VerifiedHeightsLead, HeightsAreOfWays}
use Rattle.threadlet_code.proofs.Among.{Among, among_any}
use Rattle.threadlet_code.proofs.Arrivals.{Came, came, began}
use Rattle.threadlet_code.proofs.Bools.{some_none, le_test, from_not_lt, not_false}
use Rattle.threadlet_code.proofs.Kept.{kept, keeps_rules, main_starts}
use Rattle.threadlet_code.proofs.Stable.{height_comes, way_found, size_of_heights}

-- No test of some heights passes where it passes for none.
unpassed : (p : ℕ → Bool) (h : ℕ) (xs : List ℕ) → list_any p xs ≡ false → Among h xs → p h ≡ false
unpassed p h xs none a = by_test (p h) refl
  where
    by_test : (b : Bool) → p h ≡ b → b ≡ false
    by_test false e = refl
    by_test true e = absurd (let wrong : true ≡ false = sym (among_any p h xs a e) ∙ none in cc)

same_heights : (xs : List ℕ) (g h : ℕ) → differ xs ≡ false → Among g xs → Among h xs → g ≡ h
same_heights xs g h e a b =
    let one : list_any (λ h. not (g == h)) xs ≡ false = unpassed (λ g. list_any (λ h. not (g == h)) xs) g xs e a in
    eqb-true g h (not_false (g == h) (unpassed (λ h. not (g == h)) h xs one b))

of_each_by : (P : ℕ → Type 0) (ns : List ℕ) → ((n : ℕ) → Among n ns → P n) → OfEach P ns
of_each_by P [] each = tt
of_each_by P (n ∷ ns) each = (each n (inl refl), of_each_by P ns (λ m a. each m (inr a)))

module _ (code : Code) (sound : is_sound code ≡ true) (g : ℕ) (f : FuncCode) (known : slice_get code.functions g ≡ Some f) where
  k : KeepsRules code f
  k = keeps_rules code sound g f known

  inside : (place h : ℕ) → known_at (heights code g f) place ≡ Some h → place < length f.body
  inside place h e =
      ⊎_elim (λ lt. lt) (λ le. absurd (some_none h (known_at (heights code g f) place) e (get_or_past (heights code g f) place None (omega (arith, size_of_heights code g f))))) (cases_lt place (length f.body))

  all_same : (place : ℕ) → place < length f.body → (a b : ℕ) → Among a (ways_to code g f place) → Among b (ways_to code g f place) → a ≡ b
  all_same place lt a b x y = same_heights (ways_to code g f place) a b (kept code sound g f known place rule.HeightDiffers (inl lt)) x y

  low : (place h : ℕ) → known_at (heights code g f) place ≡ Some h → h ≤ f.height
  low place h e =
      from_not_lt f.height h (unpassed (λ h. nat_lt f.height h) h (ways_to code g f place) (kept code sound g f known place rule.TooHigh (inl (inside place h e))) (height_comes code g f place h e))

  enough : (place h : ℕ) (instr : Instr) → known_at (heights code g f) place ≡ Some h → slice_get f.body place ≡ Some instr → has_operands h (operands code instr) ≡ true
  enough place h instr e here =
      let lacks : lacks_operands code (slice_get f.body place) h ≡ false =
      unpassed (lacks_operands code (slice_get f.body place)) h (ways_to code g f place) (kept code sound g f known place rule.Underflow (inl (inside place h e))) (height_comes code g f place h e) in
      not_false (has_operands h (operands code instr)) (ap (λ i. lacks_operands code i h) (sym here) ∙ lacks)

  holds : (place : ℕ) → place < length f.body → names_hold code g f place ≡ true
  holds place lt = none_of_four (bad_slot f place) (bad_function code g f place) (bad_format code f place) (bad_target f place)
      (kept code sound g f known place rule.BadSlot (inl lt)) (kept code sound g f known place rule.BadFunction (inl lt))
      (kept code sound g f known place rule.BadFormat (inl lt)) (kept code sound g f known place rule.BadTarget (inl lt))
    where
      none_of_four : (a b c d : Bool) → a ≡ false → b ≡ false → c ≡ false → d ≡ false → not (a || b || c || d) ≡ true
      none_of_four a b c d ea eb ec ed =
          ap (λ x. not (x || b || c || d)) ea ∙ ap (λ x. not (x || c || d)) eb ∙ ap (λ x. not (x || d)) ec ∙ ap not ed

  on : (place h : ℕ) (instr : Instr) → known_at (heights code g f) place ≡ Some h → slice_get f.body place ≡ Some instr → goes_on code g f place instr h ≡ true
  on place h instr e here =
      ap (λ b. b && nat_le h f.height && has_operands h (operands code instr)) (holds place (inside place h e))
      ∙ ap (λ b. b && has_operands h (operands code instr)) (le_test h f.height (low place h e))
      ∙ enough place h instr e here

  -- Behind an instruction there is one, unless nothing runs on there.
  next_inside : (place : ℕ) (instr : Instr) → slice_get f.body place ≡ Some instr → is_last (Some instr) ≡ false → suc place < length f.body
  next_inside place instr here last =
      ⊎_elim (λ lt. lt)
      (λ le. absurd (let lt = slice_get_within f.body place instr here in
      let end : suc place ≡ length f.body = omega arith in
      let wrong : false ≡ true = sym last ∙ ap is_last (sym here) ∙ k.end place end in cc))
      (cases_lt (suc place) (length f.body))

  to_inside : (place : ℕ) (instr : Instr) → slice_get f.body place ≡ Some instr → (to : ℕ) → Among to (successors place instr) → to < length f.body
  to_inside place (by.Jump t) here to (inl e) = let lt = k.targets place t (ap (option_and_then jump_of) here) in omega arith
  to_inside place (by.Jump t) here to (inr a) = absurd a
  to_inside place (by.JumpZero t) here to (inl e) = let lt = k.targets place t (ap (option_and_then jump_of) here) in omega arith
  to_inside place (by.JumpZero t) here to (inr (inl e)) = let lt = next_inside place (by.JumpZero t) here refl in omega arith
  to_inside place (by.JumpZero t) here to (inr (inr a)) = absurd a
  to_inside place by.Return here to a = absurd a
  to_inside place other here to (inl e) = let lt = next_inside place other here refl in omega arith
  to_inside place other here to (inr a) = absurd a

  pub heights_lead : HeightsLead code g f
  heights_lead = record {
    start = by_found (way_found code g f 0 0 start_there (began code g f (heights code g f)));
    inside = inside;
    low = low;
    enough = enough;
    behind = λ place h instr e here. of_each_by (λ to. known_at (heights code g f) to ≡ Some (exchanged h (operands code instr) (results instr))) (successors place instr)
        (λ to a. leads place h instr e here to a);
  }
    where
      start_there : 0 < length f.body
      start_there = slice_get_within f.body 0 by.Turn k.entry

      by_found : (n : ℕ) × (known_at (heights code g f) 0 ≡ Some n) → known_at (heights code g f) 0 ≡ Some 0
      by_found n = n.1 ∙ ap Some (all_same 0 start_there n.0 0 (height_comes code g f 0 n.0 n.1) (began code g f (heights code g f)))

      leads : (place h : ℕ) (instr : Instr) → known_at (heights code g f) place ≡ Some h → slice_get f.body place ≡ Some instr → (to : ℕ) → Among to (successors place instr) →
          known_at (heights code g f) to ≡ Some (exchanged h (operands code instr) (results instr))
      leads place h instr e here to a =
          let x = exchanged h (operands code instr) (results instr) in
          let c : Came code g f (heights code g f) to x = record {
            place = place;
            instr = instr;
            height = h;
            here = here;
            before = e;
            on = on place h instr e here;
            leads = among_any (λ next. to == next) to (successors place instr) a (eq-eqb to to refl);
            behind = refl;
          } in
          let way = came code g f (heights code g f) to x c in
          let lt = to_inside place instr here to a in
          let n = way_found code g f to x lt way in
          n.1 ∙ ap Some (all_same to lt n.0 x (height_comes code g f to n.0 n.1) way)

pub rules_are_kept : RulesAreKept
rules_are_kept code sound = (main_starts code sound, keeps_rules code sound)

pub verified_heights_lead : VerifiedHeightsLead
verified_heights_lead = heights_lead

pub heights_are_of_ways : HeightsAreOfWays
heights_are_of_ways code sound g f known place lt = (no_way (ways_to code g f place) refl, each_way)
  where
    no_way : (xs : List ℕ) → ways_to code g f place ≡ xs → known_at (heights code g f) place ≡ None → xs ≡ []
    no_way [] e none = refl
    no_way (x ∷ xs) e none =
        let found = way_found code g f place x lt (subst (Among x) (sym e) (inl refl)) in
        absurd (some_none found.0 (known_at (heights code g f) place) found.1 none)

    each_way : (h : ℕ) → known_at (heights code g f) place ≡ Some h → OfEach (λ way. way ≡ h) (ways_to code g f place) × (ways_to code g f place ≡ [] → ⊥)
    each_way h e =
        let a = height_comes code g f place h e in
        (of_each_by (λ way. way ≡ h) (ways_to code g f place) (λ w b. all_same code sound g f known place lt w h b a), λ none. subst (Among h) none a)
