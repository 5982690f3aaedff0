use Rattle.std.proofs.Common.{rules, ◌≡◌, ◌∙◌, ap, ap₂, true}
use Rattle.std.proofs.lemmas.Result.{IfOk-weaker}
use Rattle.clap.specs.Words.{Shape, app_of, rule_of, with_rule}
use Rattle.clap.specs.Simple.{app_of_fields, on_top}
use Rattle.emu_words.specs.Line.{bare_app, emu_app, mode_rule, with_flags, with_options}
use Rattle.emu_words.proofs.command.emu.Goals as goal

pub returns : goal.returns
unfolding emu_app
returns c =
    let mode_is : rule_of c.required-mode.result ≡ mode_rule = search rules in
    let bare_is : app_of c.no_binary_name-command.result ≡ bare_app =
    ap app_of_fields c.no_binary_name-command.ensures ∙ ap (on_top (λ (shape : Shape). record shape { no_binary_name = true })) c.new-2.ensures.app in
    let given_is : app_of c.in_ok-add_options.field-0 ≡ with_options (with_rule bare_app mode_rule) =
    c.in_ok-add_options.ensures ∙ ap with_options (c.in_ok-arg.ensures.shape (search rules) ∙ ap₂ with_rule bare_is mode_is) in
    IfOk-weaker c.add_flags.result _ _ (λ more is. is ∙ ap with_flags given_is) c.add_flags.ensures
