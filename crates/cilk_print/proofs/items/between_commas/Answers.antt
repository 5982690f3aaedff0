use Rattle.std.proofs.Common.{◌<◌, sym, length, arith}
use Rattle.std.proofs.lemmas.Grind.{common_steps}
use Rattle.cilk_print.proofs.ItemSteps.{params_first, params_nothing}
use Rattle.cilk_print.proofs.items.between_commas.Goals as goal

pub returns-then-is_empty : goal.returns-then-is_empty
returns-then-is_empty c = sym (params_nothing c.args.page.now c.args.params.now (grind (arith, common_steps)))

pub returns : goal.returns
returns c =
    let some : 0 < length c.args.params.now = grind (arith, common_steps) in
    rw (params_first c.args.page.now c.args.params.now c.index-params-0.result some c.index-params-0.is, ← c.in_ok-param.ensures) c.behind_commas.ensures
