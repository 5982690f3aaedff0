use Rattle.cilk_parser.proofs.TextLemmas.{one_tree}
use Rattle.cilk_parser.proofs.text_laws.law_one_tree_of_a_text.Goals as goal

pub returns : goal.returns
returns c = one_tree c.law_tokens_are_one.ensures c.law_one_tree.ensures
