-- Texts of code, computed.
use Rattle.std.proofs.Common.{◌≡◌, [], ◌∷◌, None, true, false, refl, codes}
use Rattle.std.specs.Prelude.{pos, negsuc}
use Rattle.std.specs.Fmt.{digits}
use Rattle.word_ops.specs.declared.place.Pos.{Pos}
use Rattle.word_ops.specs.declared.format.Part.TheVariants.{Byte, Long}
use Rattle.threadlet_code.specs.declared.instr.Instr.TheVariants.{Push, Turn, Print, Return, Spawn}
use Rattle.threadlet_code.specs.declared.code.Code.{Code}
use Rattle.code_text.specs.Lines.{format_text, instr_text}
use Rattle.code_text.specs.CodeText.{code_text}

abbrev at : Pos
at = record { line = 1; column = 1 }

-- a script that prints 14
abbrev fourteen : Code
fourteen = record {
  functions = record {
    params = 0;
    slots = 0;
    height = 1;
    spawns = false;
    body = Turn ∷ Push (pos 14) ∷ Print 0 ∷ Push (pos 0) ∷ Return ∷ [];
    places = at ∷ at ∷ at ∷ at ∷ at ∷ [];
  } ∷ [];
  main = 0;
  formats = (Long ∷ Byte 10 ∷ []) ∷ [];
  globals = 0;
  replicated = 0;
}

the_text_of_a_script_that_prints_fourteen : code_text fourteen ≡ codes "emu-code 1\nglobals 0\nreplicated 0\nformats 1\nformat \"%ld\\n\"\nfunctions 1\nmain 0\nfunction params 0 slots 0 height 1 spawns 0 length 5\n1:1 turn\n1:1 push 14\n1:1 print 0\n1:1 push 0\n1:1 return\nend\n"
unfolding digits
the_text_of_a_script_that_prints_fourteen = refl

bytes_that_a_literal_spells_by_two : format_text (Byte 34 ∷ Byte 92 ∷ Byte 37 ∷ Byte 97 ∷ []) ≡ codes "format \"\\\"\\\\%%a\""
bytes_that_a_literal_spells_by_two = refl

a_child_without_a_slot : instr_text (Spawn 3 None true) ≡ codes "spawn 3 none hinted"
unfolding digits
a_child_without_a_slot = refl

the_least_word : instr_text (Push (negsuc 9)) ≡ codes "push -10"
unfolding digits
the_least_word = refl
