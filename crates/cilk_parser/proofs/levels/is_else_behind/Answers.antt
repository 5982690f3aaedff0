use Rattle.std.proofs.Common.{◌∙◌}
use Rattle.cilk_parser.proofs.Walk.{else_there}
use Rattle.cilk_parser.proofs.levels.is_else_behind.Goals as goal

pub returns-then-n-tokens : goal.returns-then-n-tokens
returns-then-n-tokens c =
    c.is_word.ensures ∙ else_there c.args.text.now c.args.tokens.now c.args.n _ c.if-n-tokens.true
