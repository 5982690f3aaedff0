use Rattle.std.proofs.Common.{◌≡◌, ◌∙◌, ap, length}
use Rattle.word_ops.specs.Report.{below}
use Rattle.cilk_model.specs.Locals.{after_params}
use Rattle.cilk_model.specs.Breaks.{at_head}
use Rattle.cilk_types.specs.Shown.{file_of, scopes_of}
use Rattle.cilk_types.specs.Functions.{head_of}
use Rattle.cilk_types.specs.Making.{walked_of}
use Rattle.cilk_types.proofs.lower_functions.head.Goals as goal

pub returns : goal.returns
unfolding walked_of head_of
returns c =
    let scopes : scopes_of c.declare_params.new.scopes ≡ after_params c.args.params.now (at_head (file_of c.args.file.now)) =
    c.in_ok-declare_params.ensures.scopes ∙ ap (after_params c.args.params.now) c.in_ok-scopes.ensures in
    let frame : c.in_ok-frame.frame ≡ below (length c.args.params.now) = c.in_ok-frame.ensures in
    λ i. record { name = c.args.name.now; scopes = scopes i; frame = frame i; next = c.args.next; bodies = c.args.bodies }
