-- A page with one place set changes the word at one address.
use Rattle.std.proofs.Common.{◌≡◌, ◌≢◌, ⊎_elim, ℕ, ℤ, pos, Bool, true, false, cond, Some, List, length, slice_index_or, slice_set, ap, sym, refl, ◌∙◌, arith, subst}
use Rattle.std.specs.Prelude.{if◌then◌else◌}
use Rattle.std.specs.Ordering.{int_cmp, is_eq}
use Rattle.std.proofs.lemmas.Bool.{cases_eq}
use Rattle.std.proofs.lemmas.List.{get_or-set_other}
use Rattle.std.proofs.lemmas.Grind.{get_or-set_at}
use Rattle.word_ops.specs.Operators.{same_word}
use Rattle.nodelet_mem.specs.Pages.{page_of, place_of, word_in, word_at, page_numbered}
use Rattle.nodelet_mem.proofs.Numbers.{equal_is, unequal_is}
use Rattle.nodelet_mem.proofs.Addresses.{same_address, same_word_as_itself, other_word, place_below}

module _ (old new : List (ℤ × List ℤ)) (address w : ℤ) (page : List ℤ)
    (pages : (q : ℤ) → page_numbered new q ≡ cond (is_eq (int_cmp (page_of address) q)) (Some (slice_set page (place_of address) w)) (page_numbered old q))
    (shown : (i : ℕ) → word_in (page_numbered old (page_of address)) i ≡ slice_index_or page i (pos 0))
    (size : length page ≡ 512) where
  here : (a : ℤ) → a ≡ address → word_in (Some (slice_set page (place_of address) w)) (place_of a) ≡ (if same_word a address then w else word_at old a)
  here a e =
      let yes : same_word a address ≡ true = subst (λ z. same_word a z ≡ true) e (same_word_as_itself a) in
      get_or-set_at page (place_of address) (place_of a) w (pos 0) (ap place_of e) (let h = place_below address in omega arith)
      ∙ sym (ap (λ t. if t then w else word_at old a) yes)

  beside : (a : ℤ) → page_of address ≡ page_of a → (place_of a ≢ place_of address) → word_in (Some (slice_set page (place_of address) w)) (place_of a) ≡ (if same_word a address then w else word_at old a)
  beside a p ne =
      let no : same_word a address ≡ false = other_word a address (λ e. ne (ap place_of e)) in
      get_or-set_other page (place_of address) (place_of a) w (pos 0) ne
      ∙ sym (shown (place_of a))
      ∙ ap (λ k. word_in (page_numbered old k) (place_of a)) p
      ∙ sym (ap (λ t. if t then w else word_at old a) no)

  elsewhere : (a : ℤ) → page_of address ≢ page_of a → word_at old a ≡ (if same_word a address then w else word_at old a)
  elsewhere a ne =
      let no : same_word a address ≡ false = other_word a address (λ e. ne (sym (ap page_of e))) in
      sym (ap (λ t. if t then w else word_at old a) no)

  pub word_changed : (a : ℤ) → word_at new a ≡ (if same_word a address then w else word_at old a)
  word_changed a = ap (λ p. word_in p (place_of a)) (pages (page_of a)) ∙ go (is_eq (int_cmp (page_of address) (page_of a))) refl
    where
      go : (t : Bool) → is_eq (int_cmp (page_of address) (page_of a)) ≡ t
          → word_in (cond t (Some (slice_set page (place_of address) w)) (page_numbered old (page_of a))) (place_of a) ≡ (if same_word a address then w else word_at old a)
      go true e =
          let p : page_of address ≡ page_of a = equal_is _ _ e in
          ⊎_elim (λ q. here a (same_address a address (sym p) q)) (λ ne. beside a p ne) (cases_eq (place_of a) (place_of address))
      go false e = elsewhere a (unequal_is _ _ e)
