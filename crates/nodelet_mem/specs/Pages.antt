-- Words in pages of 512.
use Rattle.std.specs.Prelude.{◌≡◌, ℕ, ℤ, pos, neg_ℤ, ◌≤ℤ◌, ◌<ℤ◌, ◌^◌, List, Option, Some, None, All, length, slice_index_or, unsigned_abs}
use Rattle.std.specs.Int.{int_div_euclid, int_rem_euclid}
use Rattle.std.specs.Ordering.{int_cmp}
use Rattle.std.specs.BTreeMap.{is_at}
use Rattle.std.specs.Map.{lookup, keys_of, values_of}

-- The number of the page with an address.
abbrev pub page_of : ℤ → ℤ
page_of address = int_div_euclid address (pos 512)

-- The place of an address in its page.
abbrev pub place_of : ℤ → ℕ
place_of address = unsigned_abs (int_rem_euclid address (pos 512))

-- The word at a place of a page; a page that is not there has words that are 0.
abbrev pub word_in : Option (List ℤ) → ℕ → ℤ
word_in None place = pos 0
word_in (Some page) place = slice_index_or page place (pos 0)

-- The page of a number.
abbrev pub page_numbered : List (ℤ × List ℤ) → ℤ → Option (List ℤ)
page_numbered pages number = lookup (is_at (int_cmp number)) pages

-- The word at an address.
abbrev pub word_at : List (ℤ × List ℤ) → ℤ → ℤ
word_at pages address = word_in (page_numbered pages (page_of address)) (place_of address)

-- A number of a page of 64-bit addresses.
abbrev pub IsPageNumber : ℤ → Type 0
IsPageNumber number = (neg_ℤ (pos (2 ^ 54)) ≤ℤ number) × (number <ℤ pos (2 ^ 54))

-- Pages have 512 words each, and numbers that addresses have.
pub record ArePages (pages : List (ℤ × List ℤ)) : Type 0 where
  pub numbers : All IsPageNumber (keys_of pages)
  pub sizes : All (λ page. length page ≡ 512) (values_of pages)
