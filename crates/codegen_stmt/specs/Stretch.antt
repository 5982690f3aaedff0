-- Stretches of code: what statements are compiled to.
use Rattle.std.specs.Prelude.{ℕ, suc, ◌+◌, max, Bool, true, false, List, [], ◌∷◌, ◌++◌, length, map, pos, None}
use Rattle.word_ops.specs.declared.place.Pos.{Pos}
use Rattle.word_ops.specs.declared.format.Part.{Part}
use Rattle.word_ops.specs.declared.operators.BinaryOp.TheVariants as op
use Rattle.mem_atomics.specs.declared.op.Op.TheVariants as atomic
use Rattle.threadlet_code.specs.declared.instr.Instr.TheVariants.{Push, Get, Set, Dup, Bin, Jump, JumpZero, Return, Turn, Load, Post, Spawn, Sync}
use Rattle.codegen_expr.specs.Piece.{Line, line, placeless, Piece, in_order}

-- Where a break and a continue lead.
pub record Exits : Type 0 where
  pub broken : ℕ
  pub continued : ℕ

-- A stretch: how many lines it has, the formats that it prints, how many words it has on the stack at most, and
-- its lines, by its exits, the place where it begins, and the number from which its formats are numbered.
pub record Stretch : Type 0 where
  pub size : ℕ
  pub formats : List (List Part)
  pub rise : ℕ
  pub lines : Exits → ℕ → ℕ → List Line

-- Lines that are the same wherever they stand.
abbrev pub plain : List Line → Stretch
plain own = record { size = length own; formats = []; rise = 0; lines = λ exits place format. own }

-- A jump to an exit.
abbrev pub leaving : (Exits → ℕ) → Stretch
leaving to = record { size = 1; formats = []; rise = 0; lines = λ exits place format. placeless (Jump (to exits)) ∷ [] }

-- One stretch behind another.
abbrev pub behind : Stretch → Stretch → Stretch
behind first second = record {
  size = first.size + second.size;
  formats = first.formats ++ second.formats;
  rise = max first.rise second.rise;
  lines = λ exits place format. first.lines exits place format ++ second.lines exits (place + first.size) (format + length first.formats);
}

-- Lines that use up the words that parts have pushed.
abbrev pub using : List Piece → List Line → Stretch
using parts own =
    let words = in_order parts in
    record {
      size = words.size + length own;
      formats = words.formats;
      rise = words.rise;
      lines = λ exits place format. words.lines place format ++ own;
    }

-- `*address += value`: the address is there twice, to be loaded and to be stored to.
abbrev pub adding : Pos → Piece → Piece → Stretch
adding at address value = record {
  size = address.size + suc (suc (value.size + 2));
  formats = address.formats ++ value.formats;
  rise = max address.rise (2 + value.rise);
  lines = λ exits place format.
      address.lines place format
      ++ (placeless Dup ∷ line at Load ∷ (value.lines (suc (suc (place + address.size))) (format + length address.formats)
      ++ placeless (Bin op.Add) ∷ line at (Post atomic.Store) ∷ []));
}

-- A test, and one of two stretches.
abbrev pub choosing : Piece → Stretch → Stretch → Stretch
choosing test yes_ no_ = record {
  size = test.size + suc (yes_.size + suc no_.size);
  formats = test.formats ++ (yes_.formats ++ no_.formats);
  rise = max test.rise (max yes_.rise no_.rise);
  lines = λ exits place format.
      let first = suc (place + test.size) in
      let second = suc (first + yes_.size) in
      let after_test = format + length test.formats in
      test.lines place format
      ++ (placeless (JumpZero second) ∷ (yes_.lines exits first after_test
      ++ (placeless (Jump (second + no_.size)) ∷ no_.lines exits second (after_test + length yes_.formats))));
}

-- A loop: a Turn, the test, the body, the step, and back. A break of the body leads behind it, a continue to the step.
abbrev pub looping : Piece → Stretch → Stretch → Stretch
looping test step body = record {
  size = suc (test.size + suc (body.size + (step.size + 1)));
  formats = test.formats ++ (body.formats ++ step.formats);
  rise = max test.rise (max body.rise step.rise);
  lines = λ exits place format.
      let first = suc (suc (place + test.size)) in
      let then = first + body.size in
      let out = suc (then + step.size) in
      let after_test = format + length test.formats in
      placeless Turn ∷ (test.lines (suc place) format
      ++ (placeless (JumpZero out) ∷ (body.lines (record { broken = out; continued = then }) first after_test
      ++ (step.lines exits then (after_test + length body.formats)
      ++ placeless (Jump place) ∷ []))));
}

-- The test of a `cilk_for`, behind its Turn: its variable and its bound are kept in two slots.
abbrev pub bounded : ℕ → ℕ → List Line
bounded kept out = placeless (Get kept) ∷ placeless (Get (suc kept)) ∷ placeless (Bin op.Lt) ∷ placeless (JumpZero out) ∷ []

-- One child, with the variable and the copies.
abbrev pub spawning_one : Pos → ℕ → ℕ → List ℕ → List Line
spawning_one at kept function copies =
    placeless (Get kept) ∷ (map (λ slot. placeless (Get slot)) copies ++ line at (Spawn function None false) ∷ [])

-- The next value of the variable, and back.
abbrev pub counting : ℕ → ℕ → List Line
counting kept head =
    placeless (Get kept) ∷ placeless (Push (pos 1)) ∷ placeless (Bin op.Add) ∷ placeless (Set kept) ∷ placeless (Jump head) ∷ []

-- A `cilk_for`: both bounds, then for each value a Turn, the test and a child, and a Sync at the end.
abbrev pub spawning : Pos → ℕ → Piece → Piece → ℕ → List ℕ → Stretch
spawning at kept low high function copies = record {
  size = low.size + suc (high.size + suc (length copies + 13));
  formats = low.formats ++ high.formats;
  rise = max (max low.rise high.rise) (max 2 (suc (length copies)));
  lines = λ exits place format.
      let head = suc (suc (place + low.size + high.size)) in
      let out = head + (length copies + 12) in
      low.lines place format
      ++ (placeless (Set kept) ∷ (high.lines (suc (place + low.size)) (format + length low.formats)
      ++ (placeless (Set (suc kept)) ∷ placeless Turn ∷ (bounded kept out
      ++ (spawning_one at kept function copies ++ (counting kept head ++ placeless Sync ∷ []))))));
}

-- The end of an activation: one that spawns syncs before it returns.
abbrev pub returning : Bool → List Line
returning true = placeless Sync ∷ placeless Return ∷ []
returning false = placeless Return ∷ []
