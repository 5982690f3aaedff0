use Rattle.std.proofs.Common.{◌≡◌, ◌++◌, take, flat_map, codes}
use Rattle.code_text.specs.Lines.{part_text}
use Rattle.code_text.proofs.spelling.spell_format.Given as goal

abbrev pub invariant-loop-part : goal.invariant-loop-part
invariant-loop-part l = l.text ≡ codes "format \"" ++ flat_map part_text (take l.part-index l.format)
