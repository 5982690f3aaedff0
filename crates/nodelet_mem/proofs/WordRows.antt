-- Worked words and grants.
use Rattle.std.proofs.Common.{◌≡◌, ℤ, pos, negsuc, true, false, List, [], ◌∷◌, map, refl}
use Rattle.nodelet_mem.specs.Pages.{page_of, place_of, word_at}
use Rattle.nodelet_mem.specs.Listing.{words_from, words_of}
use Rattle.nodelet_mem.specs.Grants.{is_within}

-- ---- pages

pages_go_on_below_0 : map page_of (negsuc 512 ∷ negsuc 511 ∷ negsuc 0 ∷ pos 0 ∷ pos 511 ∷ pos 512 ∷ []) ≡ negsuc 1 ∷ negsuc 0 ∷ negsuc 0 ∷ pos 0 ∷ pos 0 ∷ pos 1 ∷ []
pages_go_on_below_0 = refl

places_ascend_with_addresses : map place_of (negsuc 512 ∷ negsuc 511 ∷ negsuc 0 ∷ pos 0 ∷ pos 511 ∷ pos 512 ∷ []) ≡ 511 ∷ 0 ∷ 511 ∷ 0 ∷ 511 ∷ 0 ∷ []
places_ascend_with_addresses = refl

-- the pages 0 and 2, of which the first words are written out
two_pages : List (ℤ × List ℤ)
two_pages = (pos 0, pos 4 ∷ pos 5 ∷ []) ∷ (pos 2, pos 6 ∷ []) ∷ []

words_of_no_page_are_0 : map (word_at two_pages) (negsuc 0 ∷ pos 0 ∷ pos 1 ∷ pos 2 ∷ pos 512 ∷ pos 1024 ∷ []) ≡ pos 0 ∷ pos 4 ∷ pos 5 ∷ pos 0 ∷ pos 0 ∷ pos 6 ∷ []
unfolding two_pages
words_of_no_page_are_0 = refl

-- ---- listed words

words_that_are_0_are_left_out : words_from (negsuc 1) (pos 0 ∷ negsuc 6 ∷ pos 0 ∷ pos 9 ∷ []) ≡ (negsuc 0, negsuc 6) ∷ (pos 1, pos 9) ∷ []
words_that_are_0_are_left_out = refl

pages_are_listed_in_order : words_of two_pages ≡ (pos 0, pos 4) ∷ (pos 1, pos 5) ∷ (pos 1024, pos 6) ∷ []
unfolding two_pages
pages_are_listed_in_order = refl

-- ---- grants

two_words_from_8_are_8_and_9 : map (is_within (pos 8) (pos 10)) (pos 7 ∷ pos 8 ∷ pos 9 ∷ pos 10 ∷ []) ≡ false ∷ true ∷ true ∷ false ∷ []
two_words_from_8_are_8_and_9 = refl

no_words_from_8_are_none : map (is_within (pos 8) (pos 8)) (pos 7 ∷ pos 8 ∷ pos 9 ∷ []) ≡ false ∷ false ∷ false ∷ []
no_words_from_8_are_none = refl
