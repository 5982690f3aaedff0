use Rattle.cilk_parser.proofs.TextLemmas.{one_program_of_a_text}
use Rattle.cilk_parser.proofs.text_laws.law_one_program_of_a_text.Goals as goal

pub returns : goal.returns
returns c = one_program_of_a_text c.law_one_tree_of_a_text.ensures
