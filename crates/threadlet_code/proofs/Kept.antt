-- What a code that breaks no rule keeps.
use Rattle.std.proofs.Common.{◌≡◌, ℕ, zero, suc, ◌<◌, ◌≤◌, ◌⊎◌, inl, inr, List, [], ◌∷◌, length, Option, Some, None, refl, sym, ap, ◌∙◌, subst, arith, eq-eqb, Bool, true, false, ⊎_elim}
use Rattle.std.specs.Prelude.{slice_get, ◌==◌, ◌&&◌, ◌||◌, not, nat_le, flat_map, filter, option_and_then}
use Rattle.std.proofs.lemmas.Bool.{cases_lt, eqb-true}
use Rattle.std.proofs.lemmas.Option.{slice_get_within, slice_get_past, option_and_then_some}
use Rattle.world_model.specs.World.{is_empty}
use Rattle.threadlet_code.specs.declared.instr.Instr.{Instr}
use Rattle.threadlet_code.specs.declared.instr.Instr.TheVariants.{Turn}
use Rattle.threadlet_code.specs.declared.rule.Rule.{Rule}
use Rattle.threadlet_code.specs.declared.rule.Rule.TheVariants as rule
use Rattle.threadlet_code.specs.declared.code.FuncCode.{FuncCode}
use Rattle.threadlet_code.specs.declared.code.Code.{Code}
use Rattle.threadlet_code.specs.Naming.{slot_named, function_named, format_named, jump_of, named, is_past, is_turn, is_return, is_spawn, is_last, body_length}
use Rattle.threadlet_code.specs.Rules.{bad_main, leads_back, can_start, follows_sync, is_jumped_to}
use Rattle.threadlet_code.specs.Breaches.{Breach, breaks, is_broken, all_rules, numbers, breaches_at, breaches_in, breaches, is_sound}
use Rattle.threadlet_code.specs.Laws.{HasTurns}
use Rattle.threadlet_code.specs.Sound.{KeepsRules}
use Rattle.threadlet_code.proofs.Bools.{from_not_lt, from_not_le, le_test, or_left, or_right, not_false, and_right}
use Rattle.threadlet_code.proofs.Among.{Among, among_left, among_part, among_filter, among_map}

among_rules : (r : Rule) → Among r all_rules
among_rules rule.NoEntryTurn = inl refl
among_rules rule.BadPlaces = inr (inl refl)
among_rules rule.BadSlot = inr (inr (inl refl))
among_rules rule.BadFunction = inr (inr (inr (inl refl)))
among_rules rule.BadFormat = inr (inr (inr (inr (inl refl))))
among_rules rule.BadTarget = inr (inr (inr (inr (inr (inl refl)))))
among_rules rule.LoopWithoutTurn = inr (inr (inr (inr (inr (inr (inl refl))))))
among_rules rule.FallsOff = inr (inr (inr (inr (inr (inr (inr (inl refl)))))))
among_rules rule.Underflow = inr (inr (inr (inr (inr (inr (inr (inr (inl refl))))))))
among_rules rule.HeightDiffers = inr (inr (inr (inr (inr (inr (inr (inr (inr (inl refl)))))))))
among_rules rule.TooHigh = inr (inr (inr (inr (inr (inr (inr (inr (inr (inr (inl refl))))))))))
among_rules rule.SpawnUntold = inr (inr (inr (inr (inr (inr (inr (inr (inr (inr (inr (inl refl)))))))))))
among_rules rule.ReturnUnsynced = inr (inr (inr (inr (inr (inr (inr (inr (inr (inr (inr (inr (inl refl))))))))))))

-- The numbers that are looked at: those under n, and the first.
among_numbers : {X : Type 0} (f : ℕ → List X) (x : X) (n i : ℕ) → (i < n) ⊎ (i ≡ 0) → Among x (f i) → Among x (flat_map f (numbers n))
among_numbers f x zero i (inl lt) a = absurd (omega arith)
among_numbers f x zero i (inr e) a = among_left x (f 0) [] (subst (λ j. Among x (f j)) e a)
among_numbers f x (suc n) i (inl lt) a = among_part f x 0 (suc n) i (omega arith) (omega arith) a
among_numbers f x (suc n) i (inr e) a = among_part f x 0 (suc n) i (omega arith) (omega arith) a

-- A rule that is broken is among the breaches.
pub breach_among : (code : Code) (g place : ℕ) (r : Rule) → (g < length code.functions) ⊎ (g ≡ 0) → (place < body_length (slice_get code.functions g)) ⊎ (place ≡ 0) →
    is_broken code g (slice_get code.functions g) place r ≡ true → Among (record { function = g; place = place; rule = r }) (breaches code)
breach_among code g place r in_code in_body broken =
    let b : Breach = record { function = g; place = place; rule = r } in
    among_numbers (breaches_in code) b (length code.functions) g in_code
    (among_numbers (breaches_at code g) b (body_length (slice_get code.functions g)) place in_body
    (among_map (λ r. record { function = g; place = place; rule = r }) r (filter (is_broken code g (slice_get code.functions g) place) all_rules)
    (among_filter (is_broken code g (slice_get code.functions g) place) r all_rules (among_rules r) broken)))

no_breaches : (l : List Breach) → is_empty l ≡ true → (b : Breach) → Among b l → ⊥
no_breaches [] e b a = a
no_breaches (x ∷ l) e b a = absurd (let wrong : false ≡ true = e in cc)

module _ (code : Code) (sound : is_sound code ≡ true) where
  pub unbroken : (g place : ℕ) (r : Rule) → (g < length code.functions) ⊎ (g ≡ 0) → (place < body_length (slice_get code.functions g)) ⊎ (place ≡ 0) →
      is_broken code g (slice_get code.functions g) place r ≡ false
  unbroken g place r in_code in_body = by_test (is_broken code g (slice_get code.functions g) place r) refl
    where
      by_test : (b : Bool) → is_broken code g (slice_get code.functions g) place r ≡ b → b ≡ false
      by_test false e = refl
      by_test true e = absurd (no_breaches (breaches code) sound _ (breach_among code g place r in_code in_body e))

  module _ (g : ℕ) (f : FuncCode) (known : slice_get code.functions g ≡ Some f) where
    -- No rule is broken in a place of a function that is there.
    pub kept : (place : ℕ) (r : Rule) → (place < length f.body) ⊎ (place ≡ 0) → breaks code g f place r ≡ false
    kept place r inside =
        ap (λ o. is_broken code g o place r) (sym known)
        ∙ unbroken g place r (inl (slice_get_within code.functions g f known)) (subst (λ o. (place < body_length o) ⊎ (place ≡ 0)) (sym known) inside)

    at_place : {X : Type 0} (what : Instr → Option X) (place : ℕ) (x : X) → option_and_then what (slice_get f.body place) ≡ Some x → place < length f.body
    at_place what place x e =
        option_and_then_some what (slice_get f.body place) x e (λ instr here there. slice_get_within f.body place instr here)

    in_range : (n : ℕ) (o : Option ℕ) (i : ℕ) → o ≡ Some i → is_past n o ≡ false → i < n
    in_range n o i e past = from_not_le n i (ap (is_past n) (sym e) ∙ past)

    a_turn : (o : Option Instr) → is_turn o ≡ true → o ≡ Some Turn
    a_turn None e = absurd (let wrong : false ≡ true = e in cc)
    a_turn (Some Turn) e = refl
    a_turn (Some other) e = absurd (let wrong : false ≡ true = e in cc)

    -- A place whose instruction passes a test is there.
    is_there : (test : Option Instr → Bool) → test None ≡ false → (place : ℕ) → test (slice_get f.body place) ≡ true → place < length f.body
    is_there test none place e =
        ⊎_elim (λ lt. lt)
        (λ le. absurd (let wrong : false ≡ true = sym none ∙ ap test (sym (slice_get_past f.body place le)) ∙ e in cc))
        (cases_lt place (length f.body))

    to_turn : (place to : ℕ) → named jump_of f place ≡ Some to → to ≤ place → slice_get f.body to ≡ Some Turn
    to_turn place to e back =
        let k : (nat_le to place && not (is_turn (slice_get f.body to))) ≡ false =
        ap (leads_back f place) (sym e) ∙ kept place rule.LoopWithoutTurn (inl (at_place jump_of place to e)) in
        a_turn (slice_get f.body to) (not_false _ (and_right (nat_le to place) _ (le_test to place back) k))

    ends : (place : ℕ) → suc place ≡ length f.body → is_last (slice_get f.body place) ≡ true
    ends place e = not_false _ (and_right (suc place == length f.body) _ (eq-eqb (suc place) (length f.body) e) (kept place rule.FallsOff (inl (omega arith))))

    spawns_told : (place : ℕ) → is_spawn (slice_get f.body place) ≡ true → f.spawns ≡ true
    spawns_told place e = by_told f.spawns refl
      where
        by_told : (b : Bool) → f.spawns ≡ b → b ≡ true
        by_told true is = refl
        by_told false is =
            absurd (let k : (not f.spawns && is_spawn (slice_get f.body place)) ≡ false = kept place rule.SpawnUntold (inl (is_there is_spawn refl place e)) in
            let wrong : true ≡ false = sym (ap (λ b. not b && is_spawn (slice_get f.body place)) is ∙ e) ∙ k in cc)

    return_kept : (place : ℕ) → f.spawns ≡ true → is_return (slice_get f.body place) ≡ true → (not (follows_sync f place) || is_jumped_to f place) ≡ false
    return_kept place spawns returns =
        and_right (f.spawns && is_return (slice_get f.body place)) _ (ap (λ b. b && is_return (slice_get f.body place)) spawns ∙ returns)
        (kept place rule.ReturnUnsynced (inl (is_there is_return refl place returns)))

    pub keeps_rules : KeepsRules code f
    keeps_rules = record {
      entry = a_turn (slice_get f.body 0) (not_false _ (kept 0 rule.NoEntryTurn (inr refl)));
      positions = eqb-true (length f.places) (length f.body) (not_false _ (kept 0 rule.BadPlaces (inr refl)));
      params = from_not_lt f.slots f.params (or_left _ _ (kept 0 rule.BadSlot (inr refl)));
      slots = λ place slot e. in_range f.slots (named slot_named f place) slot e (or_right _ _ (kept place rule.BadSlot (inl (at_place slot_named place slot e))));
      functions = λ place i e. in_range (length code.functions) (named function_named f place) i e (or_right (bad_main code g place) _ (kept place rule.BadFunction (inl (at_place function_named place i e))));
      formats = λ place i e. in_range (length code.formats) (named format_named f place) i e (kept place rule.BadFormat (inl (at_place format_named place i e)));
      targets = λ place to e. in_range (length f.body) (named jump_of f place) to e (kept place rule.BadTarget (inl (at_place jump_of place to e)));
      loops = to_turn;
      end = ends;
      spawns = spawns_told;
      synced = λ place spawns returns. not_false _ (or_left _ _ (return_kept place spawns returns));
      unjumped = λ place spawns returns. or_right (not (follows_sync f place)) _ (return_kept place spawns returns);
    }

  -- Main is there, and has no parameters.
  pub main_starts : can_start (slice_get code.functions code.main) ≡ true
  main_starts = by_first (slice_get code.functions 0) (unbroken 0 0 rule.BadFunction (inr refl) (inr refl))
    where
      by_first : (o : Option FuncCode) → is_broken code 0 o 0 rule.BadFunction ≡ false → can_start (slice_get code.functions code.main) ≡ true
      by_first None e = not_false _ e
      by_first (Some f) e = not_false _ (or_left (bad_main code 0 0) _ e)

  -- So silent instructions end.
  pub has_turns : HasTurns code
  has_turns = record {
    entry = λ g f known. (keeps_rules g f known).entry;
    loops = λ g f place to known e back. (keeps_rules g f known).loops place to e back;
  }
