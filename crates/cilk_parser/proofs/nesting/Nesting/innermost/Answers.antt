use Rattle.std.proofs.Common.{sym, ◌∙◌, ap, ◌-◌, slice_get}
use Rattle.cilk_parser.proofs.Innermost.{innermost_is}
use Rattle.cilk_parser.proofs.nesting.Nesting.innermost.Goals as goal

pub returns-else-depth-eq0 : goal.returns-else-depth-eq0
returns-else-depth-eq0 c = innermost_is c.args.self.now.brackets c.at.result.now (ap (λ d. slice_get c.args.self.now.brackets (d - 1)) (sym c.len-depth.ensures) ∙ c.at.ensures)
