-- The words of all pages are listed by address.
use Rattle.std.proofs.Common.{◌≡◌, ◌≢◌, ◌<◌, ℤ, pos, ◌+ℤ◌, ◌*ℤ◌, ◌≤ℤ◌, ◌<ℤ◌, Bool, true, false, cond, Some, List, [], ◌∷◌, length, get_or, refl, sym, ap, ◌∙◌, subst, arith}
use Rattle.std.specs.Prelude.{All, AllPairs, Contains}
use Rattle.std.specs.declared.cmp.Ordering.TheVariants.{Less}
use Rattle.std.specs.Ordering.{int_cmp, is_eq}
use Rattle.std.specs.Map.{keys_of, values_of}
use Rattle.std.specs.List.Sorted.{IsStrictlySortedBy}
use Rattle.std.proofs.lemmas.Int.{ints}
use Rattle.std.proofs.lemmas.Map.Keys.{sorted_tail}
use Rattle.std.proofs.lemmas.Map.Views.{All-after_first}
use Rattle.std.proofs.lemmas.List.Elements.{All-nil, All-head, All-tail, All-append, All-weaker, Contains-append_left, Contains-append_right}
use Rattle.nodelet_mem.specs.Listing.{AreWords, words_from, words_of}
use Rattle.nodelet_mem.specs.Pages.{page_of, place_of, word_in, word_at, page_numbered}
use Rattle.nodelet_mem.proofs.Addresses.{page_of_place, place_of_place, place_below, address_again}
use Rattle.std.proofs.lemmas.Bool.{true≢false}
use Rattle.nodelet_mem.proofs.Numbers.{less_is, equal_is, equal_shows, unequal_shows}
use Rattle.nodelet_mem.proofs.Listing.{From, Ascending, IsPlaced, words_from_on, words_ordered, words_placed, words_whole}

-- the first page shows its words, and the others theirs
head_word : (e : ℤ × List ℤ) (rest : List (ℤ × List ℤ)) (a : ℤ) → page_of a ≡ e.0 → word_at (e ∷ rest) a ≡ get_or e.1 (place_of a) (pos 0)
head_word e rest a p = ap (λ t. word_in (cond t (Some e.1) (page_numbered rest (page_of a))) (place_of a)) (equal_shows _ _ p)

tail_word : (e : ℤ × List ℤ) (rest : List (ℤ × List ℤ)) (a : ℤ) → page_of a ≢ e.0 → word_at (e ∷ rest) a ≡ word_at rest a
tail_word e rest a ne = ap (λ t. word_in (cond t (Some e.1) (page_numbered rest (page_of a))) (place_of a)) (unequal_shows _ _ ne)

-- pages of greater numbers have later words
one_page_on : (k q : ℤ) → k <ℤ q → (c : ℤ × ℤ) → From (q *ℤ pos 512) c → From ((k *ℤ pos 512) +ℤ pos 512) c
one_page_on k q less c h = omega (arith, ints)

pages_beyond : (k : ℤ) (pages : List (ℤ × List ℤ)) → All (λ q. int_cmp k q ≡ Less) (keys_of pages) → All (From ((k *ℤ pos 512) +ℤ pos 512)) (words_of pages)
pages_beyond k [] all = All-nil (From ((k *ℤ pos 512) +ℤ pos 512))
pages_beyond k (e ∷ rest) all = All-append (From ((k *ℤ pos 512) +ℤ pos 512)) _ _
    (All-weaker (From (e.0 *ℤ pos 512)) (From ((k *ℤ pos 512) +ℤ pos 512)) (one_page_on k e.0 (less_is k e.0 (All-head (λ q. int_cmp k q ≡ Less) e.0 (keys_of rest) all))) _ (words_from_on (e.0 *ℤ pos 512) e.1))
    (pages_beyond k rest (All-tail (λ q. int_cmp k q ≡ Less) e.0 (keys_of rest) all))

not_on_page : (k a : ℤ) → ((k *ℤ pos 512) +ℤ pos 512) ≤ℤ a → page_of a ≢ k
not_on_page k a h e =
    let again : (k *ℤ pos 512) +ℤ pos (place_of a) ≡ a = subst (λ n. (n *ℤ pos 512) +ℤ pos (place_of a) ≡ a) e (address_again a) in
    let below = place_below a in
    omega (arith, ints, again, below)

abbrev Sized : List (ℤ × List ℤ) → Type 0
Sized pages = All (λ page. length page ≡ 512) (values_of pages)

abbrev Sorted : List (ℤ × List ℤ) → Type 0
Sorted pages = IsStrictlySortedBy int_cmp (keys_of pages)

head_size : (e : ℤ × List ℤ) (rest : List (ℤ × List ℤ)) → Sized (e ∷ rest) → length e.1 ≡ 512
head_size e rest sizes = All-head (λ page. length page ≡ 512) e.1 (values_of rest) sizes

tail_sizes : (e : ℤ × List ℤ) (rest : List (ℤ × List ℤ)) → Sized (e ∷ rest) → Sized rest
tail_sizes e rest sizes = All-tail (λ page. length page ≡ 512) e.1 (values_of rest) sizes

later_words : (e : ℤ × List ℤ) (rest : List (ℤ × List ℤ)) → Sorted (e ∷ rest) → All (From ((e.0 *ℤ pos 512) +ℤ pos 512)) (words_of rest)
later_words e rest sorted = pages_beyond e.0 rest (All-after_first int_cmp e.0 (keys_of rest) sorted)

no_pairs : AllPairs Ascending []
no_pairs i j d less below = absurd (omega arith)

words_ascend : (pages : List (ℤ × List ℤ)) → Sorted pages → Sized pages → AllPairs Ascending (words_of pages)
words_ascend [] sorted sizes = no_pairs
words_ascend (e ∷ rest) sorted sizes = words_ordered (e.0 *ℤ pos 512) e.1 (words_of rest)
    (subst (λ n. All (From ((e.0 *ℤ pos 512) +ℤ pos n)) (words_of rest)) (sym (head_size e rest sizes)) (later_words e rest sorted))
    (words_ascend rest (sorted_tail int_cmp e.0 (keys_of rest) sorted) (tail_sizes e rest sizes))

abbrev Shown : List (ℤ × List ℤ) → ℤ × ℤ → Type 0
Shown pages c = (word_at pages c.0 ≡ c.1) × (c.1 ≢ pos 0)

placed_shown : (e : ℤ × List ℤ) (rest : List (ℤ × List ℤ)) → length e.1 ≡ 512 → (c : ℤ × ℤ) → IsPlaced (e.0 *ℤ pos 512) e.1 c → Shown (e ∷ rest) c
placed_shown e rest size c p =
    let below : p.0 < 512 = subst (λ n. p.0 < n) size p.1 in
    let page : page_of c.0 ≡ e.0 = ap page_of p.2 ∙ page_of_place e.0 p.0 below in
    let place : place_of c.0 ≡ p.0 = ap place_of p.2 ∙ place_of_place e.0 p.0 below in
    (head_word e rest c.0 page ∙ ap (λ i. get_or e.1 i (pos 0)) place ∙ p.3, p.4)

later_shown : (e : ℤ × List ℤ) (rest : List (ℤ × List ℤ)) (c : ℤ × ℤ) → Shown rest c × From ((e.0 *ℤ pos 512) +ℤ pos 512) c → Shown (e ∷ rest) c
later_shown e rest c h = (tail_word e rest c.0 (not_on_page e.0 c.0 h.1) ∙ h.0.0, h.0.1)

words_shown : (pages : List (ℤ × List ℤ)) → Sorted pages → Sized pages → All (Shown pages) (words_of pages)
words_shown [] sorted sizes = All-nil (Shown [])
words_shown (e ∷ rest) sorted sizes = All-append (Shown (e ∷ rest)) _ _
    (All-weaker (IsPlaced (e.0 *ℤ pos 512) e.1) (Shown (e ∷ rest)) (placed_shown e rest (head_size e rest sizes)) _ (words_placed (e.0 *ℤ pos 512) e.1))
    (All-weaker (λ c. Shown rest c × From ((e.0 *ℤ pos 512) +ℤ pos 512) c) (Shown (e ∷ rest)) (later_shown e rest) (words_of rest)
    (λ k d below. (words_shown rest (sorted_tail int_cmp e.0 (keys_of rest) sorted) (tail_sizes e rest sizes) k d below, later_words e rest sorted k d below)))

words_all : (pages : List (ℤ × List ℤ)) → Sized pages → (a : ℤ) → word_at pages a ≢ pos 0 → Contains (words_of pages) (a, word_at pages a)
words_all [] sizes a ne = absurd (ne refl)
words_all (e ∷ rest) sizes a ne = go (words_all rest (tail_sizes e rest sizes) a) (is_eq (int_cmp (page_of a) e.0)) refl
  where
    go : (word_at rest a ≢ pos 0 → Contains (words_of rest) (a, word_at rest a)) → (t : Bool) → is_eq (int_cmp (page_of a) e.0) ≡ t → Contains (words_of (e ∷ rest)) (a, word_at (e ∷ rest) a)
    go all true h =
        let page : page_of a ≡ e.0 = equal_is _ _ h in
        let word : word_at (e ∷ rest) a ≡ get_or e.1 (place_of a) (pos 0) = head_word e rest a page in
        let below : place_of a < length e.1 = subst (λ n. place_of a < n) (sym (head_size e rest sizes)) (place_below a) in
        let again : (e.0 *ℤ pos 512) +ℤ pos (place_of a) ≡ a = subst (λ n. (n *ℤ pos 512) +ℤ pos (place_of a) ≡ a) page (address_again a) in
        let found : Contains (words_from (e.0 *ℤ pos 512) e.1) ((e.0 *ℤ pos 512) +ℤ pos (place_of a), get_or e.1 (place_of a) (pos 0)) =
        words_whole (e.0 *ℤ pos 512) e.1 (place_of a) below (λ z. ne (word ∙ z)) in
        Contains-append_left _ (words_of rest) _ (subst (λ w. Contains (words_from (e.0 *ℤ pos 512) e.1) (a, w)) (sym word) (subst (λ b. Contains (words_from (e.0 *ℤ pos 512) e.1) (b, get_or e.1 (place_of a) (pos 0))) again found))
    go all false h =
        let other : page_of a ≢ e.0 = λ p. true≢false (sym (equal_shows _ _ p) ∙ h) in
        let word : word_at (e ∷ rest) a ≡ word_at rest a = tail_word e rest a other in
        Contains-append_right (words_from (e.0 *ℤ pos 512) e.1) _ _ (subst (λ w. Contains (words_of rest) (a, w)) (sym word) (all (λ z. ne (word ∙ z))))

pub listed_words : (pages : List (ℤ × List ℤ)) → IsStrictlySortedBy int_cmp (keys_of pages) → All (λ page. length page ≡ 512) (values_of pages) → AreWords (word_at pages) (words_of pages)
listed_words pages sorted sizes = record {
  in_order = words_ascend pages sorted sizes;
  not_zero = words_shown pages sorted sizes;
  whole = words_all pages sizes;
}
