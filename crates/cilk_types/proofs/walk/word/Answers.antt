use Rattle.std.proofs.Common.{◌∙◌, ap, ℕ, List}
use Rattle.cilk_types.specs.Lowered.{lowered}
use Rattle.cilk_types.specs.Shown.{names_of}
use Rattle.cilk_types.specs.Making.{walked_of, word_at}
use Rattle.cilk_types.proofs.walk.word.Goals as goal

pub returns : goal.returns
unfolding walked_of word_at lowered
returns c =
    c.in_ok-word.ensures ∙ ap (λ (frame : List ℕ). lowered (names_of c.args.walk.now.scopes) frame c.args.e.now) c.as_slice-frame.ensures
