-- The stack of a frame: its words behind the slots, the top last.
use Rattle.std.proofs.Common.{◌≡◌, ℕ, suc, ◌+◌, ◌-◌, ◌<◌, ◌≤◌, List, [], ◌∷◌, ◌++◌, length, take, drop, Some, ap, ◌∙◌, arith, ℤ, pos}
use Rattle.std.specs.Prelude.{reverse, slice_get, slice_set}
use Rattle.std.specs.List.{slice_range}
use Rattle.std.proofs.lemmas.List.{reverse-append, take-set-le, drop-set-add, take_more_set, take_more, get_or-drop, drop-drop, length-drop, length-take-le, append_assoc, append-nil}
use Rattle.std.proofs.lemmas.Option.{slice_get_within, get_or_from_slice_get}
use Rattle.std.proofs.Math.Seq.{take-add}
use Rattle.threadlet_code.specs.Operands.{taken}
use Rattle.threadlet_code.specs.Machine as machine
use Rattle.threadlet_state.specs.declared.frame.Frame.{Frame}
use Rattle.threadlet_state.specs.Activations.{activation}

pub reverse_more : {X : Type 0} (xs : List X) (x : X) → reverse (xs ++ x ∷ []) ≡ x ∷ reverse xs
reverse_more xs x = reverse-append xs (x ∷ [])

-- A frame of the machine with other slots and another stack.
abbrev with_words : Frame → List ℤ → List ℤ → machine.Frame
with_words frame slots stack = record { function = frame.function; at = frame.at; slots = slots; stack = stack; targets = frame.targets }

module _ (slots top : ℕ) (words : List ℤ) (inside : slots + top < length words) where
  behind : top < length (drop slots words)
  behind = omega (arith, length-drop slots words)

  -- A word more on the stack.
  stack_set : (word : ℤ) → reverse (take (top + 1) (drop slots (slice_set words (slots + top) word))) ≡ word ∷ reverse (take top (drop slots words))
  stack_set word =
      ap (λ l. reverse (take (top + 1) l)) (drop-set-add slots words top word)
      ∙ ap reverse (take_more_set (drop slots words) top word behind)
      ∙ reverse_more (take top (drop slots words)) word

  -- The top of the stack.
  stack_top : (word : ℤ) → slice_get words (slots + top) ≡ Some word → reverse (take (top + 1) (drop slots words)) ≡ word ∷ reverse (take top (drop slots words))
  stack_top word e =
      ap reverse (take_more (drop slots words) top (pos 0) behind)
      ∙ ap (λ x. reverse (take top (drop slots words) ++ x ∷ [])) (get_or-drop slots words top (pos 0) ∙ get_or_from_slice_get words (slots + top) word (pos 0) e)
      ∙ reverse_more (take top (drop slots words)) word

pub pushed : (slots : ℕ) (frame : Frame) (word : ℤ) → slots + frame.top < length frame.words →
    activation slots (record frame { words = slice_set frame.words (slots + frame.top) word; top = frame.top + 1 }) ≡ machine.push word (activation slots frame)
pushed slots frame word inside =
    ap (λ l. with_words frame l (reverse (take (frame.top + 1) (drop slots (slice_set frame.words (slots + frame.top) word))))) (take-set-le slots frame.words (slots + frame.top) word (omega arith))
    ∙ ap (with_words frame (take slots frame.words)) (stack_set slots frame.top frame.words inside word)

pub popped : (slots : ℕ) (frame : Frame) (top : ℕ) (word : ℤ) → frame.top ≡ top + 1 → slice_get frame.words (slots + top) ≡ Some word →
    activation slots frame ≡ machine.push word (activation slots (record frame { top = top }))
popped slots frame top word more e =
    ap (λ k. with_words frame (take slots frame.words) (reverse (take k (drop slots frame.words)))) more
    ∙ ap (with_words frame (take slots frame.words)) (stack_top slots top frame.words (slice_get_within frame.words (slots + top) word e) word e)

-- ---- operands

-- The words of a list are taken off a stack that begins with them.
taken_reversed : (words rest behind : List ℤ) (n k : ℕ) → n ≡ length words + k → taken n (reverse words ++ rest) behind ≡ taken k rest (words ++ behind)
taken_reversed [] rest behind n k e = let same : n ≡ k = omega arith in ap (λ m. taken m rest behind) same
taken_reversed (word ∷ words) rest behind n k e =
    ap (λ l. taken n (l ++ rest) behind) (reverse-append (word ∷ []) words)
    ∙ ap (λ l. taken n l behind) (append_assoc (reverse words) (word ∷ []) rest)
    ∙ taken_reversed words (word ∷ rest) behind n (suc k) (omega arith)

-- So many words off the stack of a frame.
module _ (slots top count : ℕ) (words : List ℤ) (le : count ≤ top) (inside : slots + top ≤ length words) where
  abbrev args : List ℤ
  args = take count (drop (top - count) (drop slots words))

  size : length args ≡ count
  size = length-take-le count (drop (top - count) (drop slots words)) (omega (arith, length-drop (top - count) (drop slots words), length-drop slots words))

  there : args ≡ slice_range words (slots + top - count) (slots + top)
  there =
      ap (take count) (drop-drop (top - count) slots words)
      ∙ (let from : slots + (top - count) ≡ slots + top - count = omega arith in ap (λ k. take count (drop k words)) from)
      ∙ (let many : count ≡ slots + top - (slots + top - count) = omega arith in ap (λ k. take k (drop (slots + top - count) words)) many)

  pub arguments_taken : taken count (reverse (take top (drop slots words))) [] ≡ Some (slice_range words (slots + top - count) (slots + top), reverse (take (top - count) (drop slots words)))
  arguments_taken =
      (let split : top ≡ top - count + count = omega arith in ap (λ k. taken count (reverse (take k (drop slots words))) []) split)
      ∙ ap (λ l. taken count (reverse l) []) (take-add (top - count) count (drop slots words))
      ∙ ap (λ l. taken count l []) (reverse-append (take (top - count) (drop slots words)) args)
      ∙ taken_reversed args (reverse (take (top - count) (drop slots words))) [] count 0 (omega (arith, size))
      ∙ ap (λ l. Some (l, reverse (take (top - count) (drop slots words)))) (append-nil args ∙ there)
