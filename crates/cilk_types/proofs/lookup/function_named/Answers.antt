use Rattle.std.proofs.Common.{ap, Some, None}
use Rattle.std.specs.Option.{option_map}
use Rattle.cilk_model.specs.Scopes as model
use Rattle.cilk_types.specs.declared.scopes.Written.{Written}
use Rattle.cilk_types.specs.Shown.{written_of}
use Rattle.cilk_types.proofs.Meanings.{looked_up}
use Rattle.cilk_types.proofs.lookup.function_named.Goals as goal

pub returns-in-Some : goal.returns-in-Some
returns-in-Some c =
    ap (option_map (λ (w : Written). model.function (written_of w)))
    (looked_up c.args.name.now c.args.file.now.functions.entries (Some c.in-Some.written.now) c.in-Some.ensures.value)

pub returns-in-None : goal.returns-in-None
returns-in-None c =
    ap (option_map (λ (w : Written). model.function (written_of w)))
    (looked_up c.args.name.now c.args.file.now.functions.entries None c.in-None.ensures.value)
