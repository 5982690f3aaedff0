use Rattle.std.proofs.Common.{◌∙◌, ap, ℕ, List}
use Rattle.cilk_types.specs.Lowered.{lowered, lowered_list}
use Rattle.cilk_types.specs.Shown.{names_of}
use Rattle.cilk_types.specs.Making.{walked_of, words_at}
use Rattle.cilk_types.proofs.walk.words.Goals as goal

pub returns : goal.returns
unfolding walked_of words_at lowered
returns c =
    c.in_ok-words.ensures ∙ ap (λ (frame : List ℕ). lowered_list (names_of c.args.walk.now.scopes) frame c.args.es.now) c.as_slice-frame.ensures
