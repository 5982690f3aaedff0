use Rattle.std.proofs.Common.{◌≡◌, ◌∙◌, ap, Option, Some, None}
use Rattle.std.specs.Option.{option_map}
use Rattle.cilk_model.specs.Scopes as model
use Rattle.cilk_types.specs.declared.scopes.GlobalWord.{GlobalWord}
use Rattle.cilk_types.specs.Shown.{global_of, global_known}
use Rattle.cilk_types.proofs.Meanings.{looked_up}
use Rattle.cilk_types.proofs.lookup.global_named.Goals as goal

stored : (o : Option GlobalWord) → option_map (λ g. model.global (global_of g)) o ≡ global_known (Some o)
stored None = λ i. None
stored (Some g) = λ i. Some (model.global (global_of g))

pub returns-in-Some : goal.returns-in-Some
returns-in-Some c =
    c.global_in.ensures ∙ stored _
    ∙ ap global_known (looked_up c.args.name.now c.args.file.now.before.entries (Some c.in-Some.entry.now) c.in-Some.ensures.value)

pub returns-in-None : goal.returns-in-None
returns-in-None c = ap global_known (looked_up c.args.name.now c.args.file.now.before.entries None c.in-None.ensures.value)
