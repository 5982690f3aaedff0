use Rattle.std.proofs.Common.{◌≡◌, true, false, pos, ◌^◌, rules, tests}
use Rattle.std.proofs.lemmas.Iterator.{first_from_Range}
use Rattle.word_ops.specs.Operators.{same_word}
use Rattle.service.proofs.FirstBlocks.{first_is_block_view}
use Rattle.service.proofs.requests.block_view.Goals as goal

-- the first view that `find` comes to
pub returns-clause-view : goal.returns-clause-view
returns-clause-view c =
    let words = c.args.words in
    first_is_block_view words _
    (first_from_Range _ _ _ _ (λ i. same_word words (pos (2 ^ i)) ≡ true) (λ i. same_word words (pos (2 ^ i)) ≡ false) c.find.ensures.ran
    (λ x q k. search (rules, tests)) (λ x q k. (search rules, search (rules, tests))))
