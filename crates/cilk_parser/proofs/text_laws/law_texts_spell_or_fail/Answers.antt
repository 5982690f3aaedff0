use Rattle.cilk_parser.proofs.TextLemmas.{spell_or_fail}
use Rattle.cilk_parser.proofs.text_laws.law_texts_spell_or_fail.Goals as goal

pub returns : goal.returns
returns c = spell_or_fail c.law_texts_lex.ensures c.law_lexemes_end_once.ensures c.law_one_of_both.ensures
