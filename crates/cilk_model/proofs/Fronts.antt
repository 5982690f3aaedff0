-- The front of a text that passes a test.
use Rattle.std.proofs.Common.{◌≡◌, ◌≤◌, ℕ, List, Bool, length, take, take_while, ap, arith, length-take}
use Rattle.std.specs.List.{prefix_len}
use Rattle.std.proofs.lemmas.List.Sums.{prefix_len-le-length}
use Rattle.cilk_model.specs.Bytes.{is_run_byte, is_space}
use Rattle.cilk_model.specs.Pieces.{run_of}

front_length : (p : ℕ → Bool) (text : List ℕ) → length (take_while p text) ≡ prefix_len p text
front_length p text = omega (arith, length-take (prefix_len p text) text, prefix_len-le-length p text)

pub front_within : (p : ℕ → Bool) (text : List ℕ) → length (take_while p text) ≤ length text
front_within p text = omega (arith, front_length p text, prefix_len-le-length p text)

pub run_taken : (text : List ℕ) → take (length (run_of text)) text ≡ run_of text
run_taken text = ap (λ n. take n text) (front_length is_run_byte text)

pub run_within : (text : List ℕ) → length (run_of text) ≤ length text
run_within text = front_within is_run_byte text

pub spaces_within : (text : List ℕ) → length (take_while is_space text) ≤ length text
spaces_within text = front_within is_space text
