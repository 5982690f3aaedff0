-- The words that are not 0, listed by address.
use Rattle.std.specs.Prelude.{◌≡◌, ◌≢◌, ℤ, pos, ◌+ℤ◌, ◌*ℤ◌, ◌<ℤ◌, List, [], ◌∷◌, All, AllPairs, Contains, if◌then◌else◌}
use Rattle.std.specs.List.{flat_map}
use Rattle.word_ops.specs.Operators.{same_word}

-- A list has exactly the words that are not 0, each behind its address, and the addresses ascend.
pub record AreWords (word : ℤ → ℤ) (listed : List (ℤ × ℤ)) : Type 0 where
  pub in_order : AllPairs (λ c d. c.0 <ℤ d.0) listed
  pub not_zero : All (λ c. (word c.0 ≡ c.1) × (c.1 ≢ pos 0)) listed
  pub whole : (a : ℤ) → word a ≢ pos 0 → Contains listed (a, word a)

-- The words of one page that are not 0, where the page begins at an address.
abbrev pub words_from : ℤ → List ℤ → List (ℤ × ℤ)
words_from first [] = []
words_from first (word ∷ words) =
    if same_word word (pos 0) then words_from (first +ℤ pos 1) words else (first, word) ∷ words_from (first +ℤ pos 1) words

-- The same of all pages, by their numbers.
abbrev pub words_of : List (ℤ × List ℤ) → List (ℤ × ℤ)
words_of pages = flat_map (λ page. words_from (page.0 *ℤ pos 512) page.1) pages
