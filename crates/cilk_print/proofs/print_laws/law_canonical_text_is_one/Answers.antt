use Rattle.cilk_print.proofs.print_laws.law_canonical_text_is_one.Goals as goal
use Rattle.cilk_print.proofs.CanonicalOne.{canonical_text_is_one}

pub returns : goal.returns
returns c = canonical_text_is_one
