-- What a format prints, part by part.
use Rattle.std.proofs.Common.{◌≡◌, ℕ, suc, ◌+◌, ◌<◌, ◌≤◌, List, [], ◌∷◌, ◌++◌, length, drop, ℤ, refl, sym, ap, ◌∙◌, append_assoc, append-nil, drop-drop, length-drop, get_or, add-one, arith}
use Rattle.std.proofs.Math.Seq.{drop-cons}
use Rattle.std.specs.Fmt.{signed_decimal}
use Rattle.word_ops.specs.Formats.{words_in, printed}
use Rattle.word_ops.specs.declared.format.Part.{Part}
use Rattle.word_ops.specs.declared.format.Part.TheVariants.{Byte, Long}

-- a part and those behind it have their words one after the other
words_in-cons : (part : Part) (parts : List Part) → words_in (part ∷ parts) ≡ words_in (part ∷ []) + words_in parts
words_in-cons (Byte byte) parts = let e : words_in parts ≡ 0 + words_in parts = omega arith in e
words_in-cons Long parts = let e : suc (words_in parts) ≡ 1 + words_in parts = omega arith in e

-- and their bytes
printed-cons :
    (part : Part) (parts : List Part) (words : List ℤ) → words_in (part ∷ []) ≤ length words →
    printed (part ∷ parts) words ≡ printed (part ∷ []) words ++ printed parts (drop (words_in (part ∷ [])) words)
printed-cons (Byte byte) parts words enough = refl
printed-cons Long parts [] enough = absurd (omega arith)
printed-cons Long parts (word ∷ words) enough = ap (λ x. x ++ printed parts words) (sym (append-nil (signed_decimal word)))

-- the parts under i and the words under n are printed as `piece`
pub record IsPrintedTo (parts : List Part) (words : List ℤ) (i n : ℕ) (piece : List ℕ) : Type 0 where
  pub left : n + words_in (drop i parts) ≡ length words
  pub rest : piece ++ printed (drop i parts) (drop n words) ≡ printed parts words

-- then so is part i, with the words up to `next`, as `longer`
pub one_part_more :
    (parts : List Part) (words : List ℤ) (i n next : ℕ) (piece longer : List ℕ) (d : Part) → i < length parts →
    next ≡ n + words_in (get_or parts i d ∷ []) → longer ≡ piece ++ printed (get_or parts i d ∷ []) (drop n words) →
    IsPrintedTo parts words i n piece → IsPrintedTo parts words (i + 1) next longer
one_part_more parts words i n next piece longer d within is_next is_longer so_far =
    let part : Part = get_or parts i d in
    let behind : List Part = drop (i + 1) parts in
    let taken : ℕ = words_in (part ∷ []) in
    let split : drop i parts ≡ part ∷ behind = drop-cons parts i d within ∙ rw add-one refl in
    let counts : words_in (drop i parts) ≡ taken + words_in behind = ap words_in split ∙ words_in-cons part behind in
    let enough : taken ≤ length (drop n words) = omega (arith, so_far.left, counts, length-drop n words) in
    let moved : drop taken (drop n words) ≡ drop next words = drop-drop taken n words ∙ ap (λ k. drop k words) (sym is_next) in
    let bytes : printed (drop i parts) (drop n words) ≡ printed (part ∷ []) (drop n words) ++ printed behind (drop next words) =
    ap (λ x. printed x (drop n words)) split ∙ printed-cons part behind (drop n words) enough
    ∙ ap (λ x. printed (part ∷ []) (drop n words) ++ printed behind x) moved in
    record {
      left = omega (arith, so_far.left, counts, is_next);
      rest = ap (λ x. x ++ printed behind (drop next words)) is_longer
          ∙ append_assoc piece (printed (part ∷ []) (drop n words)) (printed behind (drop next words)) ∙ ap (λ x. piece ++ x) (sym bytes) ∙ so_far.rest;
    }
