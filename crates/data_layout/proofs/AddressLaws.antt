-- What holds of every address.
use Rattle.std.proofs.Common.{◌≡◌, ℕ, ◌+◌, ◌*◌, ◌%◌, ◌/◌, ◌^◌, ◌<◌, ◌≤◌, IsTrue, ℤ, pos, negsuc, ap, arith, rules}
use Rattle.std.proofs.lemmas.Bool.Decides.{nat_tests}
use Rattle.data_layout.specs.Address.{view_of, offset_of, address_at, is_view, is_valid, owner_of}

-- an address is at its offset of its view
pub view_of-address_at : (view offset : ℕ) → offset < 2 ^ 40 → view_of (address_at view offset) ≡ view
view_of-address_at view offset within = omega arith

pub offset_of-address_at : (view offset : ℕ) → offset < 2 ^ 40 → offset_of (address_at view offset) ≡ offset
offset_of-address_at view offset within = omega arith

pub address_at-parts : (address : ℕ) → address_at (view_of (pos address)) (offset_of (pos address)) ≡ pos address
address_at-parts address =
    let sum : address / 2 ^ 40 * 2 ^ 40 + address % 2 ^ 40 ≡ address = omega arith in
    ap pos sum

-- the owner of a valid address is one of the nodelets
pub owner_of-below : (address : ℤ) (place n : ℕ) → 1 ≤ n → IsTrue (is_valid address n) → place < n → owner_of address place n < n
owner_of-below (pos address) place n some valid here = grind (arith, nat_tests)
owner_of-below (negsuc address) place n some valid here = search rules

-- a word of a view other than the very first of view 0 is valid
pub is_valid-address_at :
    (view offset n : ℕ) → IsTrue (is_view view n) → offset < 2 ^ 40 → 0 < view + offset → IsTrue (is_valid (address_at view offset) n)
is_valid-address_at view offset n there within some = grind (arith, nat_tests)
