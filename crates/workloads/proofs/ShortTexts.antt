-- The texts of workloads are short.
use Rattle.std.proofs.Common.{◌≡◌, ◌≤◌, ◌*◌, ◌^◌, ◌/◌, ◌%◌, ◌-◌, ◌==◌, ℕ, suc, List, [], ◌∷◌, ◌++◌, length, Bool, true, false, ap, arith, length-append}
use Rattle.std.specs.Prelude.{if◌then◌else◌}
use Rattle.std.specs.Fmt.{decimal}
use Rattle.std.proofs.Math.Pow.{pow_mono}
use Rattle.std.proofs.lemmas.Fmt.{length-decimal-le}
use Rattle.workloads.specs.Workload.{elements, seed, stride, template, value_text, filled, workload_text}
use Rattle.workloads.specs.declared.templates.TheConstants.{GUPS, STREAM, CHASE, MARK, ELEMENTS, MASK, EIGHTH, STRIDE, SEED}

-- ---- a template is filled

one_of : (t : Bool) (xs ys : List ℕ) (most : ℕ) → length xs ≤ most → length ys ≤ most → length (if t then xs else ys) ≤ most
one_of true xs ys most h k = h
one_of false xs ys most h k = k

-- with texts of 20 bytes at most, it is 20 times as long at most
filled_short : (text : ℕ → List ℕ) → ((letter : ℕ) → length (text letter) ≤ 20) → (bytes : List ℕ) → length (filled text bytes) ≤ 20 * length bytes
filled_short text short [] = omega arith
filled_short text short (byte ∷ []) = omega arith
filled_short text short (byte ∷ letter ∷ rest) =
    one_of (byte == MARK) (text letter ++ filled text rest) (byte ∷ filled text (letter ∷ rest)) (20 * suc (suc (length rest)))
    (let one = short letter in let others = filled_short text short rest in let both = length-append (text letter) (filled text rest) in omega arith)
    (let others : length (filled text (letter ∷ rest)) ≤ 20 * suc (length rest) = filled_short text short (letter ∷ rest) in omega arith)

-- ---- values

decimal_short : (n : ℕ) → n ≤ 1000000 → length (decimal n) ≤ 20
decimal_short n small = length-decimal-le 20 n (omega arith) (omega arith) (omega arith)

elements_small : (number : ℕ) → elements number ≤ 2048
elements_small number =
    let power : 2 ^ (number / 3 % 6) ≤ 2 ^ 5 = pow_mono {i = number / 3 % 6} {j = 5} (omega arith) in
    omega arith

value_short : (number : ℕ) → number ≤ 1000000 → (letter : ℕ) → length (value_text number letter) ≤ 20
value_short number small letter =
    let most = elements_small number in
    one_of (letter == ELEMENTS) _ _ 20 (decimal_short (elements number) (omega arith))
    (one_of (letter == MASK) _ _ 20 (decimal_short (elements number - 1) (omega arith))
    (one_of (letter == EIGHTH) _ _ 20 (decimal_short (elements number / 8) (omega arith))
    (one_of (letter == STRIDE) _ _ 20 (decimal_short (stride number) (omega arith))
    (one_of (letter == SEED) _ [] 20 (decimal_short (seed number) (omega arith)) (omega arith)))))

-- ---- the text of a number

template_short : (number : ℕ) → length (template number) ≤ 1000
template_short number =
    one_of (number % 3 == 0) GUPS.now _ 1000 (omega arith)
    (one_of (number % 3 == 1) STREAM.now CHASE.now 1000 (omega arith) (omega arith))

workload_short : (number : ℕ) → number ≤ 1000000 → length (workload_text number) ≤ 1048576
workload_short number small =
    let long = filled_short (value_text number) (value_short number small) (template number) in
    let short = template_short number in
    omega arith

-- so is what has been filled of it
pub begun_short : (number : ℕ) (begun rest : List ℕ) → number ≤ 1000000 → begun ++ rest ≡ workload_text number → length begun ≤ 1048576
begun_short number begun rest small whole =
    let most = workload_short number small in
    let both = length-append begun rest in
    let same : length (begun ++ rest) ≡ length (workload_text number) = ap length whole in
    omega arith
