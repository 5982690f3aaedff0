use Rattle.cilk_parser.proofs.TextLemmas.{one_fault_of_a_text}
use Rattle.cilk_parser.proofs.text_laws.law_one_fault_of_a_text.Goals as goal

pub returns : goal.returns
returns c = one_fault_of_a_text c.law_one_tree_of_a_text.ensures c.law_tokens_are_one.ensures c.law_lexical_fault_is_one.ensures c.law_tokens_have_no_fault.ensures c.law_one_fault.ensures c.law_not_both.ensures
