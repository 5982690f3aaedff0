-- The world that strands share, and what it keeps of each strand.
use Rattle.std.specs.Prelude.{ℕ, suc, pos, ℤ, ◌+ℤ◌, int_le, int_lt, List, [], ◌∷◌, ◌++◌, map, filter, Bool, true, false, ◌&&◌, ◌==◌, if◌then◌else◌, not, nat_lt, Option, Some, None, option_and_then}
use Rattle.std.specs.List.{list_all, list_any}
use Rattle.word_ops.specs.declared.place.Pos.{Pos}
use Rattle.word_ops.specs.declared.name.Name.{Name}
use Rattle.word_ops.specs.declared.rules.Rules.{Rules}
use Rattle.word_ops.specs.declared.rules.Rules.TheVariants.{Loose, Checked}
use Rattle.word_ops.specs.declared.ending.TrapKind.{TrapKind}
use Rattle.word_ops.specs.Naming.{same_name}
use Rattle.word_ops.specs.Operators.{same_word}
use Rattle.word_ops.specs.Report.{below}
use Rattle.mem_atomics.specs.declared.op.Op.{Op}
use Rattle.world_model.specs.Action.{Answers}
use Rattle.world_model.specs.Meaning.{Meaning}

-- What is run and on what: a meaning, the number of nodelets, the turns that each of them serves, the rules.
pub record Setting : Type 0 where
  pub meaning : Meaning
  pub nodelets : ℕ
  pub turns : ℕ
  pub rules : Rules

-- So many words from a first address on.
pub record Extent : Type 0 where
  pub first : ℤ
  pub count : ℕ

-- What a strand has pending at a nodelet: an operation with its address, its word and its place in the text,
-- or words to be granted there.
pub data Item : Type 0 where
  Operation : Op → ℤ → ℤ → Pos → Item
  Grant : Extent → Item

-- A strand lives until it has ended with a value or has trapped.
pub data Status : Type 0 where
  Live : Status
  Ended : ℤ → Status
  Trapped : TrapKind → Pos → Status

-- A strand: the function that it runs and its arguments; the nodelet where it was born and the one where it is;
-- its answers so far; what it has pending at each nodelet, the first to be applied first; its children not
-- joined, each with the depth of its activation, in spawn order; its late position; and its status.
pub record Strand : Type 0 where
  pub function : ℕ
  pub args : List ℤ
  pub home : ℕ
  pub place : ℕ
  pub answers : Answers
  pub pending : ℕ → List Item
  pub children : List (ℕ × Name)
  pub late : Option Pos
  pub status : Status

-- A world: the word of each cell, by nodelet and address; the words granted at each nodelet; the cursor of each
-- view; the pieces of output; the turns served at each nodelet; and the strands by name.
pub record World : Type 0 where
  pub cells : ℕ → ℤ → ℤ
  pub grants : ℕ → List Extent
  pub cursors : ℕ → ℕ
  pub pieces : List (List ℕ)
  pub turns : ℕ → ℕ
  pub strands : List (Name × Strand)

-- ---- what can be asked of them

-- An address lies in an extent.
abbrev pub lies_in : ℤ → Extent → Bool
lies_in address extent = int_le extent.first address && int_lt address (extent.first +ℤ pos extent.count)

-- The word at an address is granted at a nodelet: always under the loose rules, and else where it lies in
-- a grant of the nodelet.
abbrev pub is_granted : Rules → World → ℕ → ℤ → Bool
is_granted Loose w k address = true
is_granted Checked w k address = list_any (lies_in address) (w.grants k)

-- A list has nothing in it.
abbrev pub is_empty : {A : Type 0} → List A → Bool
is_empty [] = true
is_empty (x ∷ xs) = false

-- A strand is clear where nothing of it is pending at any of n nodelets.
abbrev pub is_clear : ℕ → Strand → Bool
is_clear n s = list_all (λ k. is_empty (s.pending k)) (below n)

-- The strand of a name, and none where no strand has it.
abbrev pub lookup : Name → List (Name × Strand) → Option Strand
lookup name [] = None
lookup name (entry ∷ entries) = if same_name name entry.0 then Some entry.1 else lookup name entries

-- The strand of a name in a world.
abbrev pub strand_of : World → Name → Option Strand
strand_of w name = lookup name w.strands

-- The children that the activation at depth d has to join, in spawn order.
abbrev pub children_at : ℕ → List (ℕ × Name) → List Name
children_at d children = map (λ child. child.1) (filter (λ child. child.0 == d) children)

-- The value of a strand that has ended.
abbrev pub value_in : Status → Option ℤ
value_in Live = None
value_in (Ended value) = Some value
value_in (Trapped kind at) = None

-- The value with which the strand of a name has ended.
abbrev pub value_of : World → Name → Option ℤ
value_of w name = option_and_then (λ s. value_in s.status) (strand_of w name)

-- The first strand's name.
abbrev pub main_name : Name
main_name = record { nodelet = 0; number = 0 }

-- ---- the world with one thing changed

-- A function with another value at one number.
abbrev pub with_at : {A : Type 0} → (ℕ → A) → ℕ → A → ℕ → A
with_at f k x j = if j == k then x else f j

-- A strand's entry replaced, or added as the last.
abbrev pub with_entry : Name → Strand → List (Name × Strand) → List (Name × Strand)
with_entry name s [] = (name, s) ∷ []
with_entry name s (entry ∷ entries) = if same_name name entry.0 then (name, s) ∷ entries else entry ∷ with_entry name s entries

-- A strand is another.
abbrev pub with_strand : World → Name → Strand → World
with_strand w name s = record w { strands = with_entry name s w.strands }

-- The word at an address of nodelet k is another.
abbrev pub with_word : World → ℕ → ℤ → ℤ → World
with_word w k address word =
    record w { cells = λ j a. if j == k && same_word a address then word else w.cells j a }

-- Words are granted at nodelet k.
abbrev pub with_grant : World → ℕ → Extent → World
with_grant w k extent = record w { grants = with_at w.grants k (w.grants k ++ extent ∷ []) }

-- One more turn is served at nodelet k.
abbrev pub with_turn : World → ℕ → World
with_turn w k = record w { turns = with_at w.turns k (suc (w.turns k)) }

-- One more piece of output.
abbrev pub with_piece : World → List ℕ → World
with_piece w bytes = record w { pieces = w.pieces ++ bytes ∷ [] }

-- ---- the strand with one thing changed

-- An item is the last pending at nodelet k.
abbrev pub with_pending : Strand → ℕ → Item → Strand
with_pending s k item = record s { pending = with_at s.pending k (s.pending k ++ item ∷ []) }

-- An item is the last pending at each of n nodelets other than k.
abbrev pub with_pending_but : ℕ → Strand → ℕ → Item → Strand
with_pending_but n s k item =
    record s { pending = λ j. if nat_lt j n && not (j == k) then s.pending j ++ item ∷ [] else s.pending j }

-- The strand traps at nodelet k.
abbrev pub with_trap : Strand → ℕ → TrapKind → Pos → Strand
with_trap s k kind at = record s { place = k; status = Trapped kind at }

-- The strand goes on at nodelet k with an answer.
abbrev pub with_answer : Strand → ℕ → List ℤ → Strand
with_answer s k answer = record s { place = k; answers = s.answers ++ answer ∷ [] }
