-- A body whose lines all keep the rules has heights that fit, and keeps the rules as a whole.
use Rattle.std.proofs.Common.{◌≡◌, ℕ, zero, suc, ◌+◌, ◌-◌, ◌<◌, ◌≤◌, List, [], ◌∷◌, length, Option, Some, None, refl, sym, ap, ◌∙◌, subst, arith, Bool, true, false, map}
use Rattle.std.specs.Prelude.{slice_get, ◌==◌, ◌||◌, option_and_then}
use Rattle.std.specs.List.{list_any}
use Rattle.std.proofs.lemmas.Bool.{eqb-true}
use Rattle.std.proofs.lemmas.Option.{same_Some}
use Rattle.threadlet_code.specs.declared.instr.Instr.{Instr}
use Rattle.threadlet_code.specs.declared.instr.Instr.TheVariants.{Turn, Get, Set, Call, Print, Spawn, Jump, JumpZero, Return}
use Rattle.threadlet_code.specs.declared.code.Code.{Code}
use Rattle.threadlet_code.specs.Operands.{operands, results}
use Rattle.threadlet_code.specs.Naming.{slot_named, function_named, format_named, jump_of, named, is_named, is_return, is_spawn, successors}
use Rattle.threadlet_code.specs.Rules.{follows_sync, is_jumped_to}
use Rattle.threadlet_code.specs.Ways.{exchanged}
use Rattle.threadlet_code.specs.Sound.{OfEach, AreHeights}
use Rattle.codegen_expr.specs.Piece.{Line}
use Rattle.codegen_stmt.proofs.LineRules.{Body, Leads, IsNamed, Keeps, KeepsLines}

return_at : (o : Option Instr) → is_return o ≡ true → o ≡ Some Return
return_at (Some Return) e = refl
return_at None e = absurd (let wrong : false ≡ true = e in cc)
return_at (Some other) e = absurd (let wrong : false ≡ true = e in cc)

spawn_at : (o : Option Instr) → is_spawn o ≡ true → (g : ℕ) × (target : Option ℕ) × (hinted : Bool) × (o ≡ Some (Spawn g target hinted))
spawn_at (Some (Spawn g target hinted)) e = (g, target, hinted, refl)
spawn_at None e = absurd (let wrong : false ≡ true = e in cc)
spawn_at (Some other) e = absurd (let wrong : false ≡ true = e in cc)

module _ {code : Code} (b : Body code) where
  -- ---- one instruction

  slot_fits : (place : ℕ) (instr : Instr) → IsNamed b place instr → (slot : ℕ) → slot_named instr ≡ Some slot → slot < b.f.slots
  slot_fits place (Get s) n slot e = let same : s ≡ slot = same_Some s slot e in omega arith
  slot_fits place (Set s) n slot e = let same : s ≡ slot = same_Some s slot e in omega arith
  slot_fits place (Spawn g (Some s) hinted) n slot e = let same : s ≡ slot = same_Some s slot e in let lt = n.1 in omega arith
  slot_fits place (Spawn g None hinted) n slot e = absurd (let wrong : None ≡ Some slot = e in cc)
  slot_fits place other n slot e = absurd (let wrong : None ≡ Some slot = e in cc)

  function_fits : (place : ℕ) (instr : Instr) → IsNamed b place instr → (g : ℕ) → function_named instr ≡ Some g → g < length code.functions
  function_fits place (Call h) n g e = let same : h ≡ g = same_Some h g e in omega arith
  function_fits place (Spawn h target hinted) n g e = let same : h ≡ g = same_Some h g e in let lt = n.0 in omega arith
  function_fits place other n g e = absurd (let wrong : None ≡ Some g = e in cc)

  format_fits : (place : ℕ) (instr : Instr) → IsNamed b place instr → (i : ℕ) → format_named instr ≡ Some i → i < length code.formats
  format_fits place (Print j) n i e = let same : j ≡ i = same_Some j i e in omega arith
  format_fits place other n i e = absurd (let wrong : None ≡ Some i = e in cc)

  jump_leads : (place : ℕ) (instr : Instr) → IsNamed b place instr → (to : ℕ) → jump_of instr ≡ Some to → (words : ℕ) × Leads b place to words
  jump_leads place (Jump t) n to e = (b.height place, subst (λ k. Leads b place k (b.height place)) (same_Some t to e) n)
  jump_leads place (JumpZero t) n to e = (b.height place - 1, subst (λ k. Leads b place k (b.height place - 1)) (same_Some t to e) n)
  jump_leads place other n to e = absurd (let wrong : None ≡ Some to = e in cc)

  leaves_behind : (place : ℕ) (instr : Instr) → slice_get b.f.body place ≡ Some instr → IsNamed b place instr →
      OfEach (λ to. b.height to ≡ exchanged (b.height place) (operands code instr) (results instr)) (successors place instr)
  leaves_behind place (Jump to) is n = (n.height ∙ omega arith, tt)
  leaves_behind place (JumpZero to) is n = (n.height ∙ omega arith, (b.next place (JumpZero to) is, tt))
  leaves_behind place Return is n = tt
  leaves_behind place other is n = (b.next place other is, tt)

  -- ---- all of them

  kept_from : (lines : List Line) (start : ℕ) → KeepsLines b start lines → (i : ℕ) (instr : Instr) → slice_get (map (λ (l : Line). l.instr) lines) i ≡ Some instr → Keeps b (start + i) instr
  kept_from [] start k i instr e = absurd (let wrong : None ≡ Some instr = e in cc)
  kept_from (l ∷ lines) start k zero instr e =
      let here : start ≡ start + 0 = omega arith in
      subst (λ p. Keeps b p instr) here (subst (Keeps b start) (same_Some l.instr instr e) k.0)
  kept_from (l ∷ lines) start k (suc i) instr e =
      let here : suc start + i ≡ start + suc i = omega arith in
      subst (λ p. Keeps b p instr) here (kept_from lines (suc start) k.1 i instr e)

  no_jump : (place : ℕ) → b.f.spawns ≡ true → is_return (slice_get b.f.body place) ≡ true → (lines : List Line) (start : ℕ) → KeepsLines b start lines →
      list_any (λ instr. is_named place (jump_of instr)) (map (λ (l : Line). l.instr) lines) ≡ false
  no_jump place s r [] start k = refl
  no_jump place s r (l ∷ lines) start k =
      ap (λ x. x || list_any (λ instr. is_named place (jump_of instr)) (map (λ (l : Line). l.instr) lines)) (by_jump (jump_of l.instr) refl)
      ∙ no_jump place s r lines (suc start) k.1
    where
      by_jump : (o : Option ℕ) → jump_of l.instr ≡ o → is_named place o ≡ false
      by_jump None e = refl
      by_jump (Some to) e = by_same (place == to) refl
        where
          by_same : (t : Bool) → (place == to) ≡ t → t ≡ false
          by_same false same = refl
          by_same true same =
              let x = (jump_leads start l.instr k.0.named to e).1.entry.synced s in
              absurd (let wrong : false ≡ true = sym x ∙ sym (ap (λ p. is_return (slice_get b.f.body p)) (eqb-true place to same)) ∙ r in cc)

  -- A body of such lines, with 0 words at its start.
  module _ (lines : List Line) (is : b.f.body ≡ map (λ (l : Line). l.instr) lines) (k : KeepsLines b 0 lines) (start : b.height 0 ≡ 0) where
    kept_at : (place : ℕ) (instr : Instr) → slice_get b.f.body place ≡ Some instr → Keeps b place instr
    kept_at place instr e =
        let here : 0 + place ≡ place = omega arith in
        subst (λ p. Keeps b p instr) here (kept_from lines 0 k place instr (sym (ap (λ l. slice_get l place) is) ∙ e))

    pub are_heights : AreHeights code b.f b.height
    are_heights = record {
      start = start;
      enough = λ place instr here. (kept_at place instr here).enough;
      low = λ place instr here. (kept_at place instr here).low;
      behind = λ place instr here. leaves_behind place instr here (kept_at place instr here).named;
    }

    -- What is named at a place is named by the instruction there.
    named_at : (what : Instr → Option ℕ) (place n : ℕ) → named what b.f place ≡ Some n → (instr : Instr) × (slice_get b.f.body place ≡ Some instr) × (what instr ≡ Some n)
    named_at what place n e = by_line (slice_get b.f.body place) refl e
      where
        by_line : (o : Option Instr) → slice_get b.f.body place ≡ o → option_and_then what o ≡ Some n → (instr : Instr) × (slice_get b.f.body place ≡ Some instr) × (what instr ≡ Some n)
        by_line None here e = absurd (let wrong : None ≡ Some n = e in cc)
        by_line (Some instr) here e = (instr, here, e)

    pub slots_there : (place slot : ℕ) → named slot_named b.f place ≡ Some slot → slot < b.f.slots
    slots_there place slot e = let i = named_at slot_named place slot e in slot_fits place i.0 (kept_at place i.0 i.1).named slot i.2

    pub functions_there : (place g : ℕ) → named function_named b.f place ≡ Some g → g < length code.functions
    functions_there place g e = let i = named_at function_named place g e in function_fits place i.0 (kept_at place i.0 i.1).named g i.2

    pub formats_there : (place j : ℕ) → named format_named b.f place ≡ Some j → j < length code.formats
    formats_there place j e = let i = named_at format_named place j e in format_fits place i.0 (kept_at place i.0 i.1).named j i.2

    leads_at : (place to : ℕ) → named jump_of b.f place ≡ Some to → (words : ℕ) × Leads b place to words
    leads_at place to e = let i = named_at jump_of place to e in jump_leads place i.0 (kept_at place i.0 i.1).named to i.2

    pub targets_there : (place to : ℕ) → named jump_of b.f place ≡ Some to → to < length b.f.body
    targets_there place to e = (leads_at place to e).1.entry.inside

    pub loops_turn : (place to : ℕ) → named jump_of b.f place ≡ Some to → to ≤ place → slice_get b.f.body to ≡ Some Turn
    loops_turn place to e back = (leads_at place to e).1.turn back

    pub spawns_told : (place : ℕ) → is_spawn (slice_get b.f.body place) ≡ true → b.f.spawns ≡ true
    spawns_told place e =
        let s = spawn_at (slice_get b.f.body place) e in
        (kept_at place (Spawn s.0 s.1 s.2) s.3).named.2

    pub returns_synced : (place : ℕ) → b.f.spawns ≡ true → is_return (slice_get b.f.body place) ≡ true → follows_sync b.f place ≡ true
    returns_synced place s e = (kept_at place Return (return_at (slice_get b.f.body place) e)).named s

    pub returns_unjumped : (place : ℕ) → b.f.spawns ≡ true → is_return (slice_get b.f.body place) ≡ true → is_jumped_to b.f place ≡ false
    returns_unjumped place s e = ap (list_any (λ instr. is_named place (jump_of instr))) is ∙ no_jump place s e lines 0 k
