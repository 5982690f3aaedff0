-- A code whose functions have heights that fit breaks no rule.
use Rattle.std.proofs.Common.{◌≡◌, ℕ, zero, suc, ◌<◌, List, [], ◌∷◌, length, Option, Some, None, refl, sym, ap, ◌∙◌, arith, eq-eqb, Bool, true, false, ⊎_elim, map}
use Rattle.std.specs.Prelude.{slice_get, ◌==◌, ◌&&◌, ◌||◌, not, nat_le, nat_lt, flat_map, filter}
use Rattle.std.specs.List.{list_any}
use Rattle.std.proofs.lemmas.Bool.{cases_lt, eqb-true}
use Rattle.std.proofs.lemmas.Option.{slice_get_within}
use Rattle.threadlet_code.specs.declared.instr.Instr.{Instr}
use Rattle.threadlet_code.specs.declared.instr.Instr.TheVariants.{Turn}
use Rattle.threadlet_code.specs.declared.rule.Rule.{Rule}
use Rattle.threadlet_code.specs.declared.rule.Rule.TheVariants as rule
use Rattle.threadlet_code.specs.declared.code.FuncCode.{FuncCode}
use Rattle.threadlet_code.specs.declared.code.Code.{Code}
use Rattle.threadlet_code.specs.Operands.{operands, results}
use Rattle.threadlet_code.specs.Naming.{successors, slot_named, function_named, format_named, jump_of, named, is_past, is_turn, is_return, is_spawn, is_last, body_length}
use Rattle.threadlet_code.specs.Rules.{no_entry_turn, bad_places, bad_slot, bad_function, leads_back, falls_off, spawn_untold, return_unsynced, can_start, follows_sync, is_jumped_to}
use Rattle.threadlet_code.specs.Ways.{Known, exchanged, has_operands, lacks_operands, arrivals, known_within, heights, ways_to, underflow, height_differs, too_high, known_at}
use Rattle.threadlet_code.specs.Breaches.{breaks, is_broken, all_rules, numbers, breaches_at, breaches_in, breaches, first_breach, is_sound}
use Rattle.world_model.specs.World.{is_empty}
use Rattle.threadlet_code.specs.Sound.{KeepsRules, AreHeights, IsWell, AreWell, WellCodeIsSound}
use Rattle.threadlet_code.proofs.Among.{Among, none_among, any_among, filter_none, flat_map_none}
use Rattle.threadlet_code.proofs.Bools.{and_false, not_lt, not_le}
use Rattle.threadlet_code.proofs.Among.{of_each}
use Rattle.threadlet_code.proofs.Arrivals.{known_none, Came, arrived, least_among, lengthened}

module _ (code : Code) (g : ℕ) (f : FuncCode) (height : ℕ → ℕ) (fits : AreHeights code f height) where
  -- What is known are the heights that fit.
  abbrev AreRight : Known → Type 0
  AreRight known = (place h : ℕ) → known_at known place ≡ Some h → h ≡ height place

  arrivals_right : (known : Known) → AreRight known → (to h : ℕ) → Among h (arrivals code g f to known) → h ≡ height to
  arrivals_right known right to h a = ⊎_elim at_start behind (arrived code g f known to h a)
    where
      at_start : (to ≡ 0) × (h ≡ 0) → h ≡ height to
      at_start e = e.1 ∙ sym (ap height e.0 ∙ fits.start)

      behind : Came code g f known to h → h ≡ height to
      behind c =
          let a = any_among (λ next. to == next) (successors c.place c.instr) c.leads in
          let same : to ≡ a.0 = eqb-true to a.0 a.2 in
          let e = of_each (λ to. height to ≡ exchanged (height c.place) (operands code c.instr) (results c.instr)) (successors c.place c.instr) a.0 (fits.behind c.place c.instr c.here) a.1 in
          c.behind ∙ ap (λ k. exchanged k (operands code c.instr) (results c.instr)) (right c.place c.height c.before) ∙ sym e ∙ ap height (sym same)

  right_within : (n : ℕ) → AreRight (known_within code g f n)
  right_within zero place h e = let wrong : None ≡ Some h = sym (known_none (length f.body) place) ∙ e in absurd (cc)
  right_within (suc n) place h e =
      let l = lengthened code g f (known_within code g f n) place h e in
      ⊎_elim (λ old. right_within n place h old) (λ new. arrivals_right (known_within code g f n) (right_within n) place h (least_among _ h new.1)) l.how

  -- The height of each way to a place fits.
  way_right : (place h : ℕ) → Among h (ways_to code g f place) → h ≡ height place
  way_right = arrivals_right (heights code g f) (right_within (length f.body))

  -- ---- the rules on ways

  has_its_operands : (place h : ℕ) (instr : Option Instr) → slice_get f.body place ≡ instr → h ≡ height place → lacks_operands code instr h ≡ false
  has_its_operands place h None here e = refl
  has_its_operands place h (Some instr) here e =
      ap (λ k. not (has_operands k (operands code instr))) e ∙ ap not (fits.enough place instr here)

  keeps_underflow : (place : ℕ) → underflow code g f place ≡ false
  keeps_underflow place =
      none_among (lacks_operands code (slice_get f.body place)) (ways_to code g f place)
      (λ h a. has_its_operands place h (slice_get f.body place) refl (way_right place h a))

  keeps_too_high : (place : ℕ) → (instr : Instr) → slice_get f.body place ≡ Some instr → too_high code g f place ≡ false
  keeps_too_high place instr here =
      none_among (λ h. nat_lt f.height h) (ways_to code g f place)
      (λ h a. not_lt f.height h (omega (arith, way_right place h a, fits.low place instr here)))

  keeps_height_differs : (place : ℕ) → height_differs code g f place ≡ false
  keeps_height_differs place =
      none_among (λ x. list_any (λ h. not (x == h)) (ways_to code g f place)) (ways_to code g f place)
      (λ x a. none_among (λ h. not (x == h)) (ways_to code g f place)
      (λ h b. ap not (eq-eqb x h (way_right place x a ∙ sym (way_right place h b)))))

-- ---- the rules without ways

not_past : (n : ℕ) (o : Option ℕ) → ((i : ℕ) → o ≡ Some i → i < n) → is_past n o ≡ false
not_past n None each = refl
not_past n (Some i) each = not_le n i (each i refl)

module _ (code : Code) (g : ℕ) (f : FuncCode) (main : can_start (slice_get code.functions code.main) ≡ true) (k : KeepsRules code f) where
  keeps_entry : (place : ℕ) → no_entry_turn f place ≡ false
  keeps_entry place = ap (λ o. place == 0 && not (is_turn o)) k.entry ∙ and_false (place == 0)

  keeps_places : (place : ℕ) → bad_places f place ≡ false
  keeps_places place = ap (λ b. place == 0 && not b) (eq-eqb (length f.places) (length f.body) k.positions) ∙ and_false (place == 0)

  keeps_slot : (place : ℕ) → bad_slot f place ≡ false
  keeps_slot place =
      ap (λ b. (place == 0 && b) || is_past f.slots (named slot_named f place)) (not_lt f.slots f.params k.params)
      ∙ ap (λ b. b || is_past f.slots (named slot_named f place)) (and_false (place == 0))
      ∙ not_past f.slots (named slot_named f place) (k.slots place)

  keeps_function : (place : ℕ) → bad_function code g f place ≡ false
  keeps_function place =
      ap (λ b. (g == 0 && place == 0 && not b) || is_past (length code.functions) (named function_named f place)) main
      ∙ ap (λ b. b || is_past (length code.functions) (named function_named f place)) (and_false (g == 0 && place == 0))
      ∙ not_past (length code.functions) (named function_named f place) (k.functions place)

  keeps_loop : (place : ℕ) (o : Option ℕ) → named jump_of f place ≡ o → leads_back f place o ≡ false
  keeps_loop place None e = refl
  keeps_loop place (Some to) e =
      ⊎_elim
      (λ after. ap (λ b. b && not (is_turn (slice_get f.body to))) (not_le to place after))
      (λ back. ap (λ o. nat_le to place && not (is_turn o)) (k.loops place to e back) ∙ and_false (nat_le to place))
      (cases_lt place to)

  keeps_end : (place : ℕ) → falls_off f place ≡ false
  keeps_end place = by_last (suc place == length f.body) refl
    where
      by_last : (b : Bool) → (suc place == length f.body) ≡ b → (b && not (is_last (slice_get f.body place))) ≡ false
      by_last false e = refl
      by_last true e = ap not (k.end place (eqb-true (suc place) (length f.body) e))

  keeps_spawns : (place : ℕ) → spawn_untold f place ≡ false
  keeps_spawns place = by_spawn (is_spawn (slice_get f.body place)) refl
    where
      by_spawn : (b : Bool) → is_spawn (slice_get f.body place) ≡ b → (not f.spawns && b) ≡ false
      by_spawn false e = and_false (not f.spawns)
      by_spawn true e = ap (λ b. not b && true) (k.spawns place e)

  keeps_synced : (place : ℕ) → return_unsynced f place ≡ false
  keeps_synced place = by_spawns f.spawns refl (is_return (slice_get f.body place)) refl
    where
      by_spawns : (s : Bool) → f.spawns ≡ s → (r : Bool) → is_return (slice_get f.body place) ≡ r →
          (s && r && (not (follows_sync f place) || is_jumped_to f place)) ≡ false
      by_spawns false e r e' = refl
      by_spawns true e false e' = refl
      by_spawns true e true e' =
          ap (λ b. not b || is_jumped_to f place) (k.synced place e e') ∙ k.unjumped place e e'

-- ---- all rules

module _ (code : Code) (well : AreWell code) where
  module _ (g : ℕ) (f : FuncCode) (known : slice_get code.functions g ≡ Some f) (place : ℕ) (instr : Instr) (here : slice_get f.body place ≡ Some instr) where
    abbrev w : IsWell code f
    w = well.functions g f known

    keeps_rule : (r : Rule) → breaks code g f place r ≡ false
    keeps_rule rule.NoEntryTurn = keeps_entry code g f well.main w.keeps place
    keeps_rule rule.BadPlaces = keeps_places code g f well.main w.keeps place
    keeps_rule rule.BadSlot = keeps_slot code g f well.main w.keeps place
    keeps_rule rule.BadFunction = keeps_function code g f well.main w.keeps place
    keeps_rule rule.BadFormat = not_past (length code.formats) (named format_named f place) (w.keeps.formats place)
    keeps_rule rule.BadTarget = not_past (length f.body) (named jump_of f place) (w.keeps.targets place)
    keeps_rule rule.LoopWithoutTurn = keeps_loop code g f well.main w.keeps place (named jump_of f place) refl
    keeps_rule rule.FallsOff = keeps_end code g f well.main w.keeps place
    keeps_rule rule.Underflow = keeps_underflow code g f w.height w.heights place
    keeps_rule rule.HeightDiffers = keeps_height_differs code g f w.height w.heights place
    keeps_rule rule.TooHigh = keeps_too_high code g f w.height w.heights place instr here
    keeps_rule rule.SpawnUntold = keeps_spawns code g f well.main w.keeps place
    keeps_rule rule.ReturnUnsynced = keeps_synced code g f well.main w.keeps place

  no_breach_at : (g : ℕ) (f : FuncCode) → slice_get code.functions g ≡ Some f → (place : ℕ) (instr : Instr) → slice_get f.body place ≡ Some instr → breaches_at code g place ≡ []
  no_breach_at g f known place instr here =
      ap (map (λ r. record { function = g; place = place; rule = r }))
      (ap (λ o. filter (is_broken code g o place) all_rules) known ∙ filter_none (breaks code g f place) all_rules (keeps_rule g f known place instr here))

  item : {X : Type 0} (xs : List X) (i : ℕ) → i < length xs → (x : X) × (slice_get xs i ≡ Some x)
  item [] i lt = absurd (omega arith)
  item (x ∷ xs) zero lt = (x, refl)
  item (x ∷ xs) (suc i) lt = item xs i (omega arith)

  no_breach_in : (g : ℕ) (f : FuncCode) → slice_get code.functions g ≡ Some f → breaches_in code g ≡ []
  no_breach_in g f known = ap (λ o. flat_map (breaches_at code g) (numbers (body_length o))) known ∙ by_length (length f.body) refl
    where
      by_length : (n : ℕ) → length f.body ≡ n → flat_map (breaches_at code g) (numbers n) ≡ []
      by_length zero e = absurd (let lt = slice_get_within f.body 0 Turn (well.functions g f known).keeps.entry in omega arith)
      by_length (suc n) e =
          flat_map_none (breaches_at code g) 0 (suc n)
          (λ place le lt. let i = item f.body place (omega arith) in no_breach_at g f known place i.0 i.1)

  pub well_code : breaches code ≡ []
  well_code = by_length (length code.functions) refl
    where
      by_main : (o : Option FuncCode) → slice_get code.functions code.main ≡ o → can_start o ≡ true → 0 < length code.functions
      by_main None e s = absurd (let wrong : false ≡ true = s in cc)
      by_main (Some f) e s = let lt = slice_get_within code.functions code.main f e in omega arith

      by_length : (n : ℕ) → length code.functions ≡ n → flat_map (breaches_in code) (numbers n) ≡ []
      by_length zero e = absurd (let lt = by_main (slice_get code.functions code.main) refl well.main in omega arith)
      by_length (suc n) e =
          flat_map_none (breaches_in code) 0 (suc n)
          (λ g le lt. let i = item code.functions g (omega arith) in no_breach_in g i.0 i.1)

  -- So verify can't find one.
  pub no_first_breach : first_breach code ≡ None
  no_first_breach = ap (λ l. slice_get l 0) well_code

  pub well_is_sound : is_sound code ≡ true
  well_is_sound = ap is_empty well_code

pub well_code_is_sound : WellCodeIsSound
well_code_is_sound code well = (no_first_breach code well, well_is_sound code well)
