use Rattle.std.proofs.Common.{◌≡◌, ap, ◌∙◌, sym, ℕ, Option, Some, None, rules, w64, to_z-of_z}
use Rattle.std.specs.Prelude.{option_map, unwrap_or, ℤ}
use Rattle.std.specs.Option.{option_or}
use Rattle.word_ops.specs.declared.ending.End.{End}
use Rattle.word_ops.specs.declared.ending.End.TheVariants.{Done, Spent}
use Rattle.word_ops.specs.declared.ending.SpentCause.TheVariants.{Turns, Stamps}
use Rattle.core_model.specs.CoreEnd.{end_by, trap_end, value_end, stamps_end, turns_end}
use Rattle.sim_core.specs.Kept.{setup_in, core_in}
use Rattle.sim_core.proofs.machine.Core.end.Goals as goal

-- which of four comes first
by_second : (a b c d : Option End) (other e : End) → a ≡ None → b ≡ Some e → unwrap_or (option_or a (option_or b (option_or c d))) other ≡ e
by_second a b c d other e none is =
    ap (λ o. unwrap_or (option_or o (option_or b (option_or c d))) other) none ∙ ap (λ o. unwrap_or (option_or o (option_or c d)) other) is

by_third : (a b c d : Option End) (other e : End) → a ≡ None → b ≡ None → c ≡ Some e → unwrap_or (option_or a (option_or b (option_or c d))) other ≡ e
by_third a b c d other e none empty is =
    ap (λ o. unwrap_or (option_or o (option_or b (option_or c d))) other) none ∙ ap (λ o. unwrap_or (option_or o (option_or c d)) other) empty
    ∙ ap (λ o. unwrap_or (option_or o d) other) is

by_fourth : (a b c d : Option End) (other : End) → a ≡ None → b ≡ None → c ≡ None → unwrap_or (option_or a (option_or b (option_or c d))) other ≡ unwrap_or d other
by_fourth a b c d other none empty still =
    ap (λ o. unwrap_or (option_or o (option_or b (option_or c d))) other) none ∙ ap (λ o. unwrap_or (option_or o (option_or c d)) other) empty
    ∙ ap (λ o. unwrap_or (option_or o d) other) still

pub returns-in-Some-main_value : goal.returns-in-Some-main_value
returns-in-Some-main_value c =
    let code = c.args.code.now.code in
    let u = setup_in code c.args.self.now in
    let co = core_in code c.args.self.now in
    let D : ℤ → End = λ v. Done v in
    ap D (to_z-of_z {w = w64} {z = c.in-Some-main_value.value} (search rules)) ∙ sym (by_second (trap_end u co) (value_end u co) (stamps_end u co) (turns_end u co) (Spent 0 Turns) _ (ap (option_map end_by) (sym (c.earliest_trap.ensures code) ∙ c.in_default.is))
    (ap (option_map D) (sym (c.main_value.ensures code) ∙ c.in-Some-main_value.is)))

pub returns-in-Some-without_stamps : goal.returns-in-Some-without_stamps
returns-in-Some-without_stamps c =
    let code = c.args.code.now.code in
    let u = setup_in code c.args.self.now in
    let co = core_in code c.args.self.now in
    c.spent.ensures ∙ sym (by_third (trap_end u co) (value_end u co) (stamps_end u co) (turns_end u co) (Spent 0 Turns) _ (ap (option_map end_by) (sym (c.earliest_trap.ensures code) ∙ c.in_default.is))
    (ap (option_map (λ (v : ℤ). Done v)) (sym (c.main_value.ensures code) ∙ c.in_default-main_value.is))
    (ap (option_map (λ (k : ℕ). Spent k Stamps)) (sym (c.without_stamps.ensures code) ∙ c.in-Some-without_stamps.is)))

pub returns-in-None : goal.returns-in-None
returns-in-None c =
    let code = c.args.code.now.code in
    let u = setup_in code c.args.self.now in
    let co = core_in code c.args.self.now in
    c.spent-in-None.ensures ∙ sym (by_fourth (trap_end u co) (value_end u co) (stamps_end u co) (turns_end u co) (Spent 0 Turns) (ap (option_map end_by) (sym (c.earliest_trap.ensures code) ∙ c.in_default.is))
    (ap (option_map (λ (v : ℤ). Done v)) (sym (c.main_value.ensures code) ∙ c.in_default-main_value.is))
    (ap (option_map (λ (k : ℕ). Spent k Stamps)) (sym (c.without_stamps.ensures code) ∙ c.in_default-without_stamps.is))
    ∙ ap (λ (o : Option ℕ). unwrap_or (option_map (λ (k : ℕ). Spent k Turns) o) (Spent 0 Turns)) (sym c.without_turns.ensures ∙ c.in-None.is))

pub returns-in-Some-without_turns : goal.returns-in-Some-without_turns
returns-in-Some-without_turns c =
    let code = c.args.code.now.code in
    let u = setup_in code c.args.self.now in
    let co = core_in code c.args.self.now in
    c.spent-in-Some-without_turns.ensures ∙ sym (by_fourth (trap_end u co) (value_end u co) (stamps_end u co) (turns_end u co) (Spent 0 Turns) (ap (option_map end_by) (sym (c.earliest_trap.ensures code) ∙ c.in_default.is))
    (ap (option_map (λ (v : ℤ). Done v)) (sym (c.main_value.ensures code) ∙ c.in_default-main_value.is))
    (ap (option_map (λ (k : ℕ). Spent k Stamps)) (sym (c.without_stamps.ensures code) ∙ c.in_default-without_stamps.is))
    ∙ ap (λ (o : Option ℕ). unwrap_or (option_map (λ (k : ℕ). Spent k Turns) o) (Spent 0 Turns)) (sym c.without_turns.ensures ∙ c.in-Some-without_turns.is))
