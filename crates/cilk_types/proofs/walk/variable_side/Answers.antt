use Rattle.std.proofs.Common.{◌∙◌, ap, ℕ, List}
use Rattle.std.specs.Option.{option_map}
use Rattle.cilk_model.specs.StatementLowering.{variable_side}
use Rattle.cilk_types.specs.Shown.{names_of, meaning_of}
use Rattle.cilk_types.specs.Making.{walked_of, variable_at}
use Rattle.cilk_types.proofs.walk.variable_side.Goals as goal

pub returns : goal.returns
unfolding walked_of variable_at
returns c =
    let names = names_of c.args.walk.now.scopes in
    c.in_ok-side.ensures names
    ∙ ap (λ (frame : List ℕ). variable_side names frame c.args.at (option_map meaning_of c.meaning-found.result)) c.as_slice-frame.ensures
    ∙ ap (variable_side names c.args.walk.now.frame c.args.at) c.meaning-found.ensures
