-- The law of the code of expressions.
use Rattle.std.proofs.Common.{◌≡◌, List, [], ◌∷◌, refl, ap, ◌∙◌, ℤ}
use Rattle.threadlet_code.specs.declared.code.Code.{Code}
use Rattle.threadlet_code.specs.Laws.{HasTurns}
use Rattle.threadlet_code.specs.Running.{from}
use Rattle.threadlet_code.proofs.FromLaws.{silent_goes_on, action_is_made, last_action_ends}
use Rattle.codegen_expr.specs.Laws.{with_words, standing, CodeOfExpressionsActs}
use Rattle.codegen_expr.proofs.Steps.{Laws, Seat, pushed}
use Rattle.codegen_expr.proofs.KeptParts.{kept_expression}
use Rattle.codegen_expr.proofs.Emits.{emits}

abbrev pub laws_of_turns : (code : Code) → HasTurns code → Laws code
laws_of_turns code turns = record {
  from = from code;
  goes_on = λ state after answers e. silent_goes_on code turns state after answers e;
  asks_on = λ state action resume answers e. action_is_made code state action resume answers e;
  stops_on = λ state action answers e. last_action_ends code state action answers e;
}

same_words : (words stack : List ℤ) → pushed words stack ≡ with_words words stack
same_words [] stack = refl
same_words (word ∷ words) stack = same_words words (word ∷ stack)

pub code_of_expressions_acts : CodeOfExpressionsActs
code_of_expressions_acts code turns frame frames n f known functions slots source agree call calls e kept place first stack k has formats after answers le =
    let seat : Seat code = record { function = frame.function; f = f; known = known; slots = frame.slots; targets = frame.targets; frames = frames } in
    emits seat (laws_of_turns code turns) n functions slots source agree call
    (λ place stack at g words k there has after answers le. ap (λ l. from code (standing code frame frames n place l) answers) (same_words words stack) ∙ calls place stack at g words k there has after answers le)
    e (kept_expression functions slots e kept) place first stack k has formats after answers le
