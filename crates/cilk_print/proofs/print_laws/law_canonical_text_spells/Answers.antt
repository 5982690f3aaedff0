use Rattle.cilk_print.proofs.print_laws.law_canonical_text_spells.Goals as goal
use Rattle.cilk_print.proofs.CanonicalSpells.{canonical_text_spells}

pub returns : goal.returns
returns c = canonical_text_spells
