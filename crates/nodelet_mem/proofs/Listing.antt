-- The words of a page are listed by address.
use Rattle.std.proofs.Common.{◌≡◌, ◌≢◌, ℕ, zero, suc, ◌+◌, ◌<◌, ℤ, pos, negsuc, ◌+ℤ◌, ◌≤ℤ◌, ◌<ℤ◌, Bool, true, false, List, [], ◌∷◌, ◌++◌, length, get_or, refl, sym, ap, ◌∙◌, subst, arith, drop, drop-cons, append_assoc}
use Rattle.std.specs.Prelude.{All, AllPairs, Contains, if◌then◌else◌}
use Rattle.std.proofs.lemmas.Int.{ints}
use Rattle.std.proofs.lemmas.Bool.Decides.{eqb_tells}
use Rattle.std.proofs.lemmas.List.Elements.{All-nil, All-cons, All-append, All-weaker, Contains-append_right}
use Rattle.std.proofs.lemmas.List.Kept.{AllPairs-cons}
use Rattle.word_ops.specs.Operators.{same_word}
use Rattle.nodelet_mem.specs.Listing.{words_from}
use Rattle.std.proofs.lemmas.Bool.{true≢false}
use Rattle.nodelet_mem.proofs.Addresses.{other_word}

same_is : (a b : ℤ) → same_word a b ≡ true → a ≡ b
same_is (pos m) (pos n) e = grind (arith, eqb_tells)
same_is (pos m) (negsuc n) e = absurd (true≢false (sym e))
same_is (negsuc m) (pos n) e = absurd (true≢false (sym e))
same_is (negsuc m) (negsuc n) e = grind (arith, eqb_tells)

zero_is_same : (w : ℤ) → same_word w (pos 0) ≡ false → w ≢ pos 0
zero_is_same w e z = true≢false (subst (λ x. same_word x (pos 0) ≡ false) z e)

-- addresses from one up, and below another
abbrev pub From : ℤ → ℤ × ℤ → Type 0
From low c = low ≤ℤ c.0

abbrev pub Below : ℤ → ℤ × ℤ → Type 0
Below high c = c.0 <ℤ high

abbrev pub Ascending : ℤ × ℤ → ℤ × ℤ → Type 0
Ascending c d = c.0 <ℤ d.0

from_earlier : (a : ℤ) (c : ℤ × ℤ) → From (a +ℤ pos 1) c → From a c
from_earlier a c h = omega (arith, ints)

after_first : (a : ℤ) (c : ℤ × ℤ) → From (a +ℤ pos 1) c → a <ℤ c.0
after_first a c h = omega (arith, ints)

one_more : (a : ℤ) (n : ℕ) → (a +ℤ pos 1) +ℤ pos n ≡ a +ℤ pos (suc n)
one_more a n = omega (arith, ints)

nothing_more : (a : ℤ) → a +ℤ pos 0 ≡ a
nothing_more a = omega (arith, ints)

-- no listed word of a page stands before it
pub words_from_on : (first : ℤ) (words : List ℤ) → All (From first) (words_from first words)
words_from_on first [] = All-nil (From first)
words_from_on first (w ∷ ws) = go (same_word w (pos 0)) (All-weaker (From (first +ℤ pos 1)) (From first) (from_earlier first) (words_from (first +ℤ pos 1) ws) (words_from_on (first +ℤ pos 1) ws))
  where
    go : (t : Bool) → All (From first) (words_from (first +ℤ pos 1) ws)
        → All (From first) (if t then words_from (first +ℤ pos 1) ws else (first, w) ∷ words_from (first +ℤ pos 1) ws)
    go true all = all
    go false all = All-cons (From first) (first, w) _ (omega (arith, ints)) all

-- behind the words of a page come later ones, so all stand in order
pub words_ordered : (first : ℤ) (words : List ℤ) (more : List (ℤ × ℤ)) → All (From (first +ℤ pos (length words))) more
    → AllPairs Ascending more → AllPairs Ascending (words_from first words ++ more)
words_ordered first [] more later pairs = pairs
words_ordered first (w ∷ ws) more later pairs = go (same_word w (pos 0)) (words_ordered (first +ℤ pos 1) ws more after pairs)
  where
    after : All (From ((first +ℤ pos 1) +ℤ pos (length ws))) more
    after = subst (λ a. All (From a) more) (sym (one_more first (length ws))) later

    one_on : (c : ℤ × ℤ) → From ((first +ℤ pos 1) +ℤ pos (length ws)) c → From (first +ℤ pos 1) c
    one_on c h = omega (arith, ints)

    behind : All (λ d. first <ℤ d.0) (words_from (first +ℤ pos 1) ws ++ more)
    behind = All-weaker (From (first +ℤ pos 1)) (λ d. first <ℤ d.0) (after_first first) _
        (All-append (From (first +ℤ pos 1)) _ _ (words_from_on (first +ℤ pos 1) ws) (All-weaker _ (From (first +ℤ pos 1)) one_on more after))

    go : (t : Bool) → AllPairs Ascending (words_from (first +ℤ pos 1) ws ++ more)
        → AllPairs Ascending ((if t then words_from (first +ℤ pos 1) ws else (first, w) ∷ words_from (first +ℤ pos 1) ws) ++ more)
    go true all = all
    go false all = AllPairs-cons Ascending (first, w) _ behind all

-- a word that is not 0, and stands at a place of the page
abbrev pub IsPlaced : ℤ → List ℤ → ℤ × ℤ → Type 0
IsPlaced first words c = (i : ℕ) × (i < length words) × (c.0 ≡ first +ℤ pos i) × (get_or words i (pos 0) ≡ c.1) × (c.1 ≢ pos 0)

one_later : (first w : ℤ) (ws : List ℤ) (c : ℤ × ℤ) → IsPlaced (first +ℤ pos 1) ws c → IsPlaced first (w ∷ ws) c
one_later first w ws c p = (suc p.0, (let h = p.1 in omega arith), p.2 ∙ one_more first p.0, p.3, p.4)

-- each listed word is one of its page
pub words_placed : (first : ℤ) (words : List ℤ) → All (IsPlaced first words) (words_from first words)
words_placed first [] = All-nil (IsPlaced first [])
words_placed first (w ∷ ws) = go (same_word w (pos 0)) refl (All-weaker (IsPlaced (first +ℤ pos 1) ws) (IsPlaced first (w ∷ ws)) (one_later first w ws) _ (words_placed (first +ℤ pos 1) ws))
  where
    go : (t : Bool) → same_word w (pos 0) ≡ t → All (IsPlaced first (w ∷ ws)) (words_from (first +ℤ pos 1) ws)
        → All (IsPlaced first (w ∷ ws)) (if t then words_from (first +ℤ pos 1) ws else (first, w) ∷ words_from (first +ℤ pos 1) ws)
    go true e all = all
    go false e all = All-cons (IsPlaced first (w ∷ ws)) (first, w) _ (zero, omega arith, sym (nothing_more first), refl, zero_is_same w e) all

here : (c : ℤ × ℤ) (cs : List (ℤ × ℤ)) → Contains (c ∷ cs) c
here c cs = (0, omega arith, refl)

-- each word of the page that is not 0 is listed
pub words_whole : (first : ℤ) (words : List ℤ) (i : ℕ) → i < length words → get_or words i (pos 0) ≢ pos 0
    → Contains (words_from first words) (first +ℤ pos i, get_or words i (pos 0))
words_whole first [] i below ne = absurd (ne refl)
words_whole first (w ∷ ws) zero below ne = go (same_word w (pos 0)) refl
  where
    go : (t : Bool) → same_word w (pos 0) ≡ t → Contains (if t then words_from (first +ℤ pos 1) ws else (first, w) ∷ words_from (first +ℤ pos 1) ws) (first +ℤ pos 0, w)
    go true e = absurd (ne (same_is w (pos 0) e))
    go false e = subst (λ a. Contains ((first, w) ∷ words_from (first +ℤ pos 1) ws) (a, w)) (sym (nothing_more first)) (here _ _)
words_whole first (w ∷ ws) (suc i) below ne =
    go (same_word w (pos 0)) (subst (λ a. Contains (words_from (first +ℤ pos 1) ws) (a, get_or ws i (pos 0))) (one_more first i) (words_whole (first +ℤ pos 1) ws i (omega arith) ne))
  where
    go : (t : Bool) → Contains (words_from (first +ℤ pos 1) ws) (first +ℤ pos (suc i), get_or ws i (pos 0))
        → Contains (if t then words_from (first +ℤ pos 1) ws else (first, w) ∷ words_from (first +ℤ pos 1) ws) (first +ℤ pos (suc i), get_or ws i (pos 0))
    go true h = h
    go false h = Contains-append_right ((first, w) ∷ []) _ _ h

-- the words of a page from one place on
pub words_next : (first : ℤ) (words : List ℤ) (i : ℕ) → i < length words
    → words_from (first +ℤ pos i) (drop i words) ≡ (if same_word (get_or words i (pos 0)) (pos 0) then words_from (first +ℤ pos (i + 1)) (drop (i + 1) words)
    else (first +ℤ pos i, get_or words i (pos 0)) ∷ words_from (first +ℤ pos (i + 1)) (drop (i + 1) words))
words_next first words i below =
    ap (words_from (first +ℤ pos i)) (drop-cons words i (pos 0) below)
    ∙ ap (λ a. if same_word (get_or words i (pos 0)) (pos 0) then words_from a (drop (suc i) words) else (first +ℤ pos i, get_or words i (pos 0)) ∷ words_from a (drop (suc i) words)) next
    ∙ ap (λ n. if same_word (get_or words i (pos 0)) (pos 0) then words_from (first +ℤ pos (i + 1)) (drop n words) else (first +ℤ pos i, get_or words i (pos 0)) ∷ words_from (first +ℤ pos (i + 1)) (drop n words)) later
  where
    next : (first +ℤ pos i) +ℤ pos 1 ≡ first +ℤ pos (i + 1)
    next = omega (arith, ints)

    later : suc i ≡ i + 1
    later = omega arith

module _ (found done : List (ℤ × ℤ)) (first : ℤ) (words : List ℤ) (i : ℕ) (below : i < length words)
    (so_far : found ++ words_from (first +ℤ pos i) (drop i words) ≡ done) where
  -- a word that is 0 is passed over
  pub passed_over : get_or words i (pos 0) ≡ pos 0 → found ++ words_from (first +ℤ pos (i + 1)) (drop (i + 1) words) ≡ done
  passed_over z = sym (ap (λ l. found ++ l) (words_next first words i below ∙ ap (λ t. if t then words_from (first +ℤ pos (i + 1)) (drop (i + 1) words)
      else (first +ℤ pos i, get_or words i (pos 0)) ∷ words_from (first +ℤ pos (i + 1)) (drop (i + 1) words)) (ap (λ x. same_word x (pos 0)) z))) ∙ so_far

  -- any other is put behind those found
  pub put_behind : get_or words i (pos 0) ≢ pos 0
      → (found ++ (first +ℤ pos i, get_or words i (pos 0)) ∷ []) ++ words_from (first +ℤ pos (i + 1)) (drop (i + 1) words) ≡ done
  put_behind ne = append_assoc found _ _ ∙ sym (ap (λ l. found ++ l) (words_next first words i below ∙ ap (λ t. if t then words_from (first +ℤ pos (i + 1)) (drop (i + 1) words)
      else (first +ℤ pos i, get_or words i (pos 0)) ∷ words_from (first +ℤ pos (i + 1)) (drop (i + 1) words)) (other_word (get_or words i (pos 0)) (pos 0) ne))) ∙ so_far
