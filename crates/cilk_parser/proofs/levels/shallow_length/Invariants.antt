use Rattle.std.proofs.Common.{◌≡◌, ◌-◌, ◌≤◌, length, drop}
use Rattle.cilk_model.specs.Lexemes.{lexemes_of}
use Rattle.cilk_model.specs.Levels.{deep_part, deep_from}
use Rattle.cilk_parser.specs.NestingOf.{nesting_of}
use Rattle.cilk_parser.proofs.levels.shallow_length.Given as goal

abbrev pub invariant-tokens : goal.invariant-tokens
invariant-tokens l =
    (deep_part (lexemes_of l.text l.tokens) ≡ deep_from (nesting_of l.text l.here) (drop l.at (lexemes_of l.text l.tokens)))
    × (l.at ≤ length l.tokens) × (l.here.level ≤ 64)

abbrev pub decreases-tokens : goal.decreases-tokens
decreases-tokens l = length l.tokens - l.at
