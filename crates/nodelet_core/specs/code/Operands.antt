-- The operands of the instruction before which a frame stands.
use Rattle.std.specs.Prelude.{◌≡◌, ◌-◌, ℕ, ℤ, List, [], take, drop, reverse, length, Some}
use Rattle.threadlet_code.specs.declared.instr.Instr.{Instr}
use Rattle.threadlet_code.specs.declared.instr.Instr.TheVariants.{Spawn}
use Rattle.threadlet_code.specs.Operands.{own_operands, hint_operands, taken}
use Rattle.threadlet_state.specs.declared.frame.Frame.{Frame}
use Rattle.threadlet_state.specs.Activations.{activation}

-- Words are so many operands off the stack of a frame that has so many slots.
pub record AreTop (slots : ℕ) (frame : Frame) (count : ℕ) (words : List ℤ) : Type 0 where
  pub size : length words ≡ count
  pub took : taken count (activation slots frame).stack [] ≡ Some (words, reverse (take (frame.top - count) (drop slots frame.words)))

-- How many words an action is made of, but for the arguments of a child.
abbrev pub needs : Instr → ℕ
needs (Spawn function target hinted) = hint_operands hinted 0
needs instr = own_operands instr
