use Rattle.std.proofs.lemmas.Result.{on_ok_weaker}
use Rattle.cilk_types.proofs.ItemLemmas.{before_item}
use Rattle.cilk_types.proofs.names.pass.Goals as goal

pub returns-clause-before : goal.returns-clause-before
returns-clause-before c =
    on_ok_weaker c.insert_new.result
    (λ e entries before. before_item c.args.counts c.args.item.now _ _ entries c.name_of.result.now c.word_of.result e c.name_of.ensures c.word_of.ensures before)
    c.insert_new.ensures.entries
