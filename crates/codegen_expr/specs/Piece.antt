-- Pieces of code, and how larger ones are made of them.
use Rattle.std.specs.Prelude.{ℕ, suc, ◌+◌, max, List, [], ◌∷◌, ◌++◌, length, pos}
use Rattle.word_ops.specs.declared.place.Pos.{Pos}
use Rattle.word_ops.specs.declared.format.Part.{Part}
use Rattle.threadlet_code.specs.declared.instr.Instr.{Instr}
use Rattle.threadlet_code.specs.declared.instr.Instr.TheVariants.{Push, Jump, JumpZero, Print}

-- An instruction with its place in the text.
pub record Line : Type 0 where
  pub instr : Instr
  pub pos : Pos

abbrev pub line : Pos → Instr → Line
line at instr = record { instr = instr; pos = at }

-- An instruction that has no place in the text, as it neither traps nor has an address.
abbrev pub placeless : Instr → Line
placeless instr = line (record { line = 0; column = 0 }) instr

-- A piece of code: how many lines it has, the formats that it prints, how many words it has on the stack at
-- most, and its lines, where it begins at a place of a body and its formats are numbered from a number on.
pub record Piece : Type 0 where
  pub size : ℕ
  pub formats : List (List Part)
  pub rise : ℕ
  pub lines : ℕ → ℕ → List Line

-- Pieces that push a word each, one behind the other.
abbrev pub in_order : List Piece → Piece
in_order [] = record { size = 0; formats = []; rise = 0; lines = λ place format. [] }
in_order (piece ∷ pieces) =
    let rest = in_order pieces in
    record {
      size = piece.size + rest.size;
      formats = piece.formats ++ rest.formats;
      rise = max piece.rise (suc rest.rise);
      lines = λ place format. piece.lines place format ++ rest.lines (place + piece.size) (format + length piece.formats);
    }

-- Lines that make a word of those that parts have pushed.
abbrev pub operation : List Piece → List Line → Piece
operation parts own =
    let words = in_order parts in
    record {
      size = words.size + length own;
      formats = words.formats;
      rise = max words.rise 1;
      lines = λ place format. words.lines place format ++ own;
    }

-- The value of an action that has none.
abbrev pub zero_line : Line
zero_line = placeless (Push (pos 0))

-- A print of the words that parts have pushed; its format comes behind theirs.
abbrev pub printing : List Part → List Piece → Piece
printing format parts =
    let words = in_order parts in
    record {
      size = words.size + 2;
      formats = words.formats ++ format ∷ [];
      rise = max words.rise 1;
      lines = λ place first. words.lines place first ++ placeless (Print (first + length words.formats)) ∷ zero_line ∷ [];
    }

-- The end of a choice at a place: 1 where the word on top is not 0, and else 0.
abbrev pub judging : Pos → ℕ → List Line
judging at place =
    line at (JumpZero (place + 3)) ∷ line at (Push (pos 1)) ∷ line at (Jump (place + 4)) ∷ line at (Push (pos 0)) ∷ []

-- A test that goes to a second part for 0, and else leaves 1 and goes to the end.
abbrev pub skipping : Pos → ℕ → ℕ → List Line
skipping at second end = line at (JumpZero second) ∷ line at (Push (pos 1)) ∷ line at (Jump end) ∷ []

-- Both are true: the second is evaluated only where the first is true, and 0 is pushed at the end where it is not.
abbrev pub both : Pos → Piece → Piece → Piece
both at left right =
    record {
      size = left.size + suc (right.size + 4);
      formats = left.formats ++ right.formats;
      rise = max left.rise right.rise;
      lines = λ place format.
          let second = suc (place + left.size) in
          let judge = second + right.size in
          left.lines place format ++ (line at (JumpZero (judge + 3)) ∷ (right.lines second (format + length left.formats) ++ judging at judge));
    }

-- One is true: the second is evaluated only where the first is not.
abbrev pub either : Pos → Piece → Piece → Piece
either at left right =
    record {
      size = left.size + suc (suc (suc (right.size + 4)));
      formats = left.formats ++ right.formats;
      rise = max left.rise right.rise;
      lines = λ place format.
          let second = suc (suc (suc (place + left.size))) in
          let judge = second + right.size in
          left.lines place format ++ (skipping at second (judge + 4) ++ (right.lines second (format + length left.formats) ++ judging at judge));
    }
