use Rattle.std.proofs.Common.{◌≡◌, IfOk, subst}
use Rattle.code_text.specs.CodeText.{code_text}
use Rattle.code_text.proofs.writing.write.Goals as goal

pub returns : goal.returns
returns c = subst (λ code. IfOk c.write_code.result (λ bytes. bytes ≡ code_text code)) c.code.ensures.code c.write_code.ensures
