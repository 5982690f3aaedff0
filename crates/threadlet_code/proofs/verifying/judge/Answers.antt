use Rattle.std.proofs.Common.{◌∷◌, [], ◌++◌, arith, sym, ap, ◌∙◌, subst, take}
use Rattle.threadlet_code.specs.declared.verdict.FunctionVerdict.TheVariants.{Keeps, Breaks}
use Rattle.threadlet_code.specs.Breaches.{heights_from}
use Rattle.threadlet_code.specs.Verdict.{JudgesFunction}
use Rattle.threadlet_code.specs.Ways.{Known}
use Rattle.threadlet_code.proofs.Firsts.{more_functions, first_of, heights_push}
use Rattle.threadlet_code.proofs.verifying.judge.Goals as goal

pub returns-in-Breaks : goal.returns-in-Breaks
returns-in-Breaks c =
    let code = c.args.code.now in
    let f = c.at-f.result.now in
    let j : JudgesFunction code c.loop-function.function f (Breaks c.in-Breaks.place c.in-Breaks.rule) =
    subst (JudgesFunction code c.loop-function.function f) c.in-Breaks.is c.in_ok-known.ensures in
    first_of code c.loop-function.function _ (omega arith) c.loop-function.invariant.none j

pub loop-function-preserved : goal.loop-function-preserved
loop-function-preserved c =
    let code = c.args.code.now in
    let f = c.at-f.result.now in
    let i = c.loop-function.invariant in
    let j : JudgesFunction code c.loop-function.function f (Keeps c.in-Keeps.known) =
    subst (JudgesFunction code c.loop-function.function f) c.in-Keeps.is c.in_ok-known.ensures in
    record {
      none = more_functions code c.loop-function.function i.none j.0;
      heights =
          c.in_ok-add-in-Keeps.ensures.ok
          ∙ ap (λ l. l ++ c.in-Keeps.known ∷ []) i.heights
          ∙ ap (λ (k : Known). heights_from 0 code (take c.loop-function.function code.functions) ++ k ∷ []) j.1
          ∙ sym (heights_push code c.loop-function.function f c.at-f.ensures);
    }
