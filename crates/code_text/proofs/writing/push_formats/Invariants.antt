use Rattle.std.proofs.Common.{◌≡◌, ◌++◌, take, flat_map}
use Rattle.code_text.specs.CodeText.{format_line}
use Rattle.code_text.proofs.writing.push_formats.Given as goal

abbrev pub invariant-loop-format : goal.invariant-loop-format
invariant-loop-format l = l.out ≡ l.initial.out ++ flat_map format_line (take l.format-index l.formats)
