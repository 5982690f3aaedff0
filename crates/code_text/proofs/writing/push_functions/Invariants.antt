use Rattle.std.proofs.Common.{◌≡◌, ◌++◌, take, flat_map}
use Rattle.code_text.specs.CodeText.{function_text}
use Rattle.code_text.proofs.writing.push_functions.Given as goal

abbrev pub invariant-loop-f : goal.invariant-loop-f
invariant-loop-f l = l.out ≡ l.initial.out ++ flat_map function_text (take l.f-index l.functions)
