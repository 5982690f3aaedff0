-- An address is told by the number of its page and its place there.
use Rattle.std.proofs.Common.{◌≡◌, ◌≢◌, ℕ, ◌+◌, ◌*◌, ◌/◌, ◌%◌, ◌<◌, ℤ, pos, negsuc, true, false, ap, arith, refl, ◌∙◌, ◌-◌, ◌+ℤ◌, ◌*ℤ◌}
use Rattle.std.proofs.lemmas.Bool.Decides.{eqb_tells}
use Rattle.std.proofs.lemmas.Nat.{div-add-mod', mod_below, div-mul-add, mod-mul-add}
use Rattle.std.proofs.lemmas.Int.{ints}
use Rattle.word_ops.specs.Operators.{same_word}
use Rattle.nodelet_mem.specs.Pages.{page_of, place_of}

pub same_number : (m n : ℕ) → m / 512 ≡ n / 512 → m % 512 ≡ n % 512 → m ≡ n
same_number m n p q =
    let h = div-add-mod' m 512 in
    let k = div-add-mod' n 512 in
    omega (arith, h, k, p, q)

from_pos : (m n : ℕ) → pos m ≡ pos n → m ≡ n
from_pos m n e = cc

from_negsuc : (m n : ℕ) → negsuc m ≡ negsuc n → m ≡ n
from_negsuc m n e = cc

pub same_address : (a b : ℤ) → page_of a ≡ page_of b → place_of a ≡ place_of b → a ≡ b
same_address (pos m) (pos n) p q = ap pos (same_number m n (from_pos _ _ p) q)
same_address (pos m) (negsuc n) p q = grind arith
same_address (negsuc m) (pos n) p q = grind arith
same_address (negsuc m) (negsuc n) p q =
    let h = mod_below m 512 (omega arith) in
    let k = mod_below n 512 (omega arith) in
    ap negsuc (same_number m n (from_negsuc _ _ p) (omega (arith, h, k, q)))

pub place_below : (a : ℤ) → place_of a < 512
place_below (pos m) = mod_below m 512 (omega arith)
place_below (negsuc m) = omega arith

pub same_word_as_itself : (a : ℤ) → same_word a a ≡ true
same_word_as_itself (pos m) = grind (arith, eqb_tells)
same_word_as_itself (negsuc m) = grind (arith, eqb_tells)

pub other_word : (a b : ℤ) → a ≢ b → same_word a b ≡ false
other_word (pos m) (pos n) ne = grind (arith, eqb_tells)
other_word (pos m) (negsuc n) ne = refl
other_word (negsuc m) (pos n) ne = refl
other_word (negsuc m) (negsuc n) ne = grind (arith, eqb_tells)

below_zero : (k i : ℕ) → i < 512 → (negsuc k *ℤ pos 512) +ℤ pos i ≡ negsuc (k * 512 + (511 - i))
below_zero k i below = omega (arith, ints)

-- the address at a place of a page
pub page_of_place : (k : ℤ) (i : ℕ) → i < 512 → page_of ((k *ℤ pos 512) +ℤ pos i) ≡ k
page_of_place (pos k) i below = ap pos (div-mul-add k 512 i below)
page_of_place (negsuc k) i below = ap page_of (below_zero k i below) ∙ ap negsuc (div-mul-add k 512 (511 - i) (omega arith))

pub place_of_place : (k : ℤ) (i : ℕ) → i < 512 → place_of ((k *ℤ pos 512) +ℤ pos i) ≡ i
place_of_place (pos k) i below = mod-mul-add k 512 i below
place_of_place (negsuc k) i below =
    ap place_of (below_zero k i below)
    ∙ ap (λ r. 511 - r) (mod-mul-add k 512 (511 - i) (omega arith))
    ∙ (omega arith)

pub address_again : (a : ℤ) → (page_of a *ℤ pos 512) +ℤ pos (place_of a) ≡ a
address_again (pos a) = ap pos (div-add-mod' a 512)
address_again (negsuc a) =
    let h = mod_below a 512 (omega arith) in
    let split = div-add-mod' a 512 in
    below_zero (a / 512) (511 - a % 512) (omega arith) ∙ ap negsuc (omega (arith, h, split))
