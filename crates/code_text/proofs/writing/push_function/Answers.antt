use Rattle.std.proofs.Common.{◌≡◌, ◌++◌, subst, ap, ◌∙◌, append_assoc}
use Rattle.std.specs.Prelude.{OnOk}
use Rattle.word_ops.specs.Ending.{line}
use Rattle.code_text.specs.Lines.{header_of, header_text}
use Rattle.code_text.specs.CodeText.{body_text}
use Rattle.code_text.proofs.writing.push_function.Goals as goal

pub returns : goal.returns
returns c =
    let f = c.args.f.now in let old = c.args.out.now in
    subst (λ t. OnOk c.push_body.result (c.push_body.new.out ≡ t))
    (ap (λ t. t ++ body_text f.places f.body) (c.in_ok-push_line.ensures ∙ ap (λ t. old ++ line t) (c.as_slice.ensures ∙ c.in_ok-header.ensures ∙ ap header_text c.of.ensures))
    ∙ append_assoc old (line (header_text (header_of f))) (body_text f.places f.body))
    c.push_body.ensures
