use Rattle.std.proofs.Common.{◌≡◌, drop, map}
use Rattle.cilk_model.specs.Words.{is_one_of}
use Rattle.cilk_lexer.proofs.words.is_one_of.Given as goal

abbrev pub invariant-loop-word : goal.invariant-loop-word
invariant-loop-word l = is_one_of (map (λ word. word.now) l.words) l.run ≡ is_one_of (map (λ word. word.now) (drop l.word-index l.words)) l.run
