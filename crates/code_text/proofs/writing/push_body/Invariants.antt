use Rattle.std.proofs.Common.{◌≡◌, ◌++◌, take}
use Rattle.code_text.specs.CodeText.{body_text}
use Rattle.code_text.proofs.writing.push_body.Given as goal

abbrev pub invariant-loop-i : goal.invariant-loop-i
invariant-loop-i l = l.out ≡ l.initial.out ++ body_text (take l.i l.f.places) (take l.i l.f.body)
