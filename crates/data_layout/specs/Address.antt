-- Addresses: what a view is, which addresses are valid, and who owns a word.
-- An address counts words. Nodelets, their number n and places are natural numbers.
use Rattle.std.specs.Prelude.{ℕ, ◌+◌, ◌-◌, ◌*◌, ◌/◌, ◌%◌, ◌^◌, Bool, false, ◌&&◌, ◌||◌, if◌then◌else◌, ◌==◌, nat_lt, nat_le, ℤ, pos, negsuc}

-- The view of an address: how many times 2 ^ 40 goes into it. Only addresses from 0 up have a view.
abbrev pub view_of : ℤ → ℕ
view_of (pos address) = address / 2 ^ 40
view_of (negsuc _) = 0

-- The offset of an address in its view, under 2 ^ 40.
abbrev pub offset_of : ℤ → ℕ
offset_of (pos address) = address % 2 ^ 40
offset_of (negsuc _) = 0

-- The address at an offset of a view.
abbrev pub address_at : ℕ → ℕ → ℤ
address_at view offset = pos (view * 2 ^ 40 + offset)

-- The views of n nodelets: 0 to 20 dealt in blocks, 31 replicated, and 32 + k local to nodelet k.
abbrev pub is_view : ℕ → ℕ → Bool
is_view view n = nat_le view 20 || view == 31 || (nat_le 32 view && nat_lt view (32 + n))

-- An address is valid where it is above 0 and its view is one of n nodelets.
abbrev pub is_valid : ℤ → ℕ → Bool
is_valid (pos address) n = nat_lt 0 address && is_view (view_of (pos address)) n
is_valid (negsuc _) n = false

-- The nodelet that owns the word of an address for a strand at `place`, by the view:
-- blocks of 2 ^ view words go round robin, a replicated word is everywhere, a local one at its nodelet.
abbrev pub owner_of : ℤ → ℕ → ℕ → ℕ
owner_of address place n =
    let view = view_of address in
    if nat_le view 20 then offset_of address / 2 ^ view % n else (if view == 31 then place else view - 32)
