use Rattle.cilk_parser.proofs.TextLemmas.{no_program}
use Rattle.cilk_parser.proofs.text_laws.law_faulty_texts_spell_no_program.Goals as goal

pub returns : goal.returns
returns c = no_program c.law_one_tree_of_a_text.ensures c.law_tokens_are_one.ensures c.law_tokens_have_no_fault.ensures c.law_not_both.ensures
