use Rattle.std.proofs.Common.{◌-◌, sym, ◌∙◌, ap, arith, slice_get, slice_set}
use Rattle.cilk_parser.proofs.Innermost.{counted_is}
use Rattle.cilk_parser.proofs.nesting.Nesting.count_end.Goals as goal

pub returns-clause-brackets : goal.returns-clause-brackets
returns-clause-brackets c =
    counted_is c.args.self.now.brackets c.set-before.new.self c.at-bracket.result.now c.one_more-inside.result (omega (arith, c.if-depth-eq0.false, c.len-depth.ensures))
    (ap (λ d. slice_get c.args.self.now.brackets (d - 1)) (sym c.len-depth.ensures) ∙ c.at-bracket.ensures)
    (c.set-before.ensures.new ∙ ap (λ d. slice_set c.args.self.now.brackets (d - 1) (record { outside = c.at-bracket.result.now.outside; inside = c.one_more-inside.result })) c.len-depth.ensures)
    c.one_more-inside.ensures
