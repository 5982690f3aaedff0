use Rattle.std.proofs.Common.{◌+◌, drop, sym, ◌∙◌, ap, arith}
use Rattle.cilk_model.specs.Lexemes.{lexemes_of}
use Rattle.cilk_model.specs.Levels.{deep_from, Nesting}
use Rattle.cilk_parser.specs.NestingOf.{nesting_of}
use Rattle.cilk_parser.proofs.Walk.{stays_deep, goes_deeper, over_limit, under_limit}
use Rattle.cilk_parser.proofs.levels.shallow_length.Goals as goal

pub tokens-init : goal.tokens-init
tokens-init c =
    (ap (λ z. deep_from z (lexemes_of c.args.text.now c.args.tokens.now)) (sym (c.new-here.ensures c.args.text.now)), omega arith, omega (arith, ap (λ z. z.level) (c.new-here.ensures c.args.text.now)))

pub returns-then-here-gt-LIMIT-clause-rest : goal.returns-then-here-gt-LIMIT-clause-rest
returns-then-here-gt-LIMIT-clause-rest c =
    let here : Nesting = nesting_of c.args.text.now c.tokens.here in
    let level = ap (λ z. z.level) c.in_ok-pass.ensures in
    sym (c.tokens.invariant.0 ∙ stays_deep c.args.text.now c.args.tokens.now c.tokens.at _ c.is_else_behind-else_next.result here c.tokens-test.true c.is_else_behind-else_next.ensures (over_limit _ _ level c.if-here-gt-LIMIT.true))

pub tokens-preserved : goal.tokens-preserved
tokens-preserved c =
    let here : Nesting = nesting_of c.args.text.now c.tokens.here in
    let level = ap (λ z. z.level) c.in_ok-pass.ensures in (
      c.tokens.invariant.0 ∙ goes_deeper c.args.text.now c.args.tokens.now c.tokens.at _ c.is_else_behind-else_next.result here c.tokens-test.true c.is_else_behind-else_next.ensures (under_limit _ _ level c.if-here-gt-LIMIT.false)
          ∙ ap (λ z. deep_from z (drop (c.tokens.at + 1) (lexemes_of c.args.text.now c.args.tokens.now))) (sym c.in_ok-pass.ensures),
      omega (arith, c.tokens-test.true),
      c.if-here-gt-LIMIT.false,
    )
