-- What a token means by a table of spellings.
use Rattle.std.proofs.Common.{◌≡◌, ℕ, Bool, true, false, cond, ◌&&◌, ◌==◌, List, [], ◌∷◌, Option, Some, None, MatchOption, refl, sym, ◌∙◌, ap, eqb-true}
use Rattle.std.specs.Prelude.{is_some, bytes_eq}
use Rattle.std.proofs.lemmas.Slice.Eq.{bytes_eq-Decides}
use Rattle.word_ops.specs.declared.place.Pos.{Pos}
use Rattle.cilk_model.specs.Lexemes.{Lexeme, pos_of}
use Rattle.cilk_parser.specs.Lookup.{meaning_of}
use Rattle.cilk_parser.proofs.Taking.{Tells}

and_parts : (a b : Bool) → (a && b) ≡ true → (a ≡ true) × (b ≡ true)
and_parts true b e = (refl, e)
and_parts false b e = absurd cc

-- An entry that says how what it means is spelled, and of which class it is.
abbrev pub Says : {T K : Type 0} → (T → K) → (K → List ℕ) → (K → ℕ) → ℕ × List ℕ × T → Type 0
Says means spelled class entry = (entry.1 ≡ spelled (means (entry.2))) × (entry.0 ≡ class (means (entry.2)))

abbrev pub AllSay : {T K : Type 0} → (T → K) → (K → List ℕ) → (K → ℕ) → List (ℕ × List ℕ × T) → Type 0
AllSay means spelled class [] = Unit {0}
AllSay means spelled class (entry ∷ table) = Says means spelled class entry × AllSay means spelled class table

-- What is found is spelled so, and is of the class.
pub found_says : {T K : Type 0} (means : T → K) (spelled : K → List ℕ) (class : K → ℕ) (n : ℕ) (bytes : List ℕ) (table : List (ℕ × List ℕ × T)) (x : T) →
    AllSay means spelled class table → meaning_of n bytes table ≡ Some x → (bytes ≡ spelled (means x)) × (n ≡ class (means x))
found_says means spelled class n bytes [] x all e = absurd cc
found_says means spelled class n bytes (entry ∷ table) x all e =
    at_first (entry.0 == n && bytes_eq bytes (entry.1)) refl e (found_says means spelled class n bytes table x (all.1)) where
      at_first : (b : Bool) → (entry.0 == n && bytes_eq bytes (entry.1)) ≡ b → cond b (Some (entry.2)) (meaning_of n bytes table) ≡ Some x →
          (meaning_of n bytes table ≡ Some x → (bytes ≡ spelled (means x)) × (n ≡ class (means x))) → (bytes ≡ spelled (means x)) × (n ≡ class (means x))
      at_first true d g h =
          let same : entry.2 ≡ x = cc in
          let d = and_parts (entry.0 == n) (bytes_eq bytes (entry.1)) d in (
            (bytes_eq-Decides bytes (entry.1)).0 (d.1) ∙ all.0.0 ∙ ap (λ z. spelled (means z)) same,
            sym (eqb-true (entry.0) n (d.0)) ∙ all.0.1 ∙ ap (λ z. class (means z)) same,
          )
      at_first false d g h = h g

-- Tokens of a kind are made from a place and bytes, and the table has each.
pub record Listed {T K : Type 0} (kind : Lexeme → Option (Pos × K)) (token : Pos × K → Lexeme) (Fit : Pos × K → Type 0)
    (bytes_of : Lexeme → Option (List ℕ)) (made : Pos → List ℕ → Lexeme)
    (means : T → K) (spelled : K → List ℕ) (class : K → ℕ) (n : ℕ) (table : List (ℕ × List ℕ × T)) : Type 0 where
  pub tells : Tells kind token Fit
  pub made_of : (t : Lexeme) (bytes : List ℕ) → bytes_of t ≡ Some bytes → t ≡ made (pos_of t) bytes
  pub bytes_of_token : (k : Pos × K) → bytes_of (token k) ≡ Some (spelled (k.1))
  pub token_made : (at : Pos) (k : K) → made at (spelled k) ≡ token (at, k)
  pub says : AllSay means spelled class table
  pub fits : (at : Pos) (x : T) → n ≡ class (means x) → Fit (at, means x)
  pub class_of : (k : Pos × K) → Fit k → class (k.1) ≡ n
  pub shown : (k : Pos × K) → Fit k → is_some (meaning_of (class (k.1)) (spelled (k.1)) table) ≡ true

module _ {T K : Type 0} {kind : Lexeme → Option (Pos × K)} {token : Pos × K → Lexeme} {Fit : Pos × K → Type 0}
    {bytes_of : Lexeme → Option (List ℕ)} {made : Pos → List ℕ → Lexeme}
    {means : T → K} {spelled : K → List ℕ} {class : K → ℕ} {n : ℕ} {table : List (ℕ × List ℕ × T)}
    (it : Listed kind token Fit bytes_of made means spelled class n table) where
  is_none : (t : Lexeme) (o : Option (Pos × K)) → kind t ≡ o → ((k : Pos × K) → kind t ≡ Some k → ⊥) → kind t ≡ None
  is_none t None e h = e
  is_none t (Some k) e h = absurd (h k e)

  -- A token with no bytes of this sort is not of the kind.
  pub by_no_bytes : (t : Lexeme) → bytes_of t ≡ None → kind t ≡ None
  by_no_bytes t e = is_none t (kind t) refl (λ k d.
      let clash : ◌≡◌ {A = Option (List ℕ)} None (Some (spelled (k.1))) = sym e ∙ ap bytes_of ((it.tells.says t k d).0) ∙ it.bytes_of_token k in cc)

  pub by_table : (t : Lexeme) (bytes : List ℕ) → bytes_of t ≡ Some bytes → (o : Option T) → o ≡ meaning_of n bytes table →
      MatchOption o (kind t ≡ None) (λ x. kind t ≡ Some (pos_of t, means x))
  by_table t bytes e (Some x) d =
      let f = found_says means spelled class n bytes table x it.says (sym d) in
      ap kind (it.made_of t bytes e ∙ ap (made (pos_of t)) (f.0) ∙ it.token_made (pos_of t) (means x))
      ∙ it.tells.shown (pos_of t, means x) (it.fits (pos_of t) x (f.1))
  by_table t bytes e None d = is_none t (kind t) refl (λ k g.
      let s = it.tells.says t k g in
      let same : Some bytes ≡ Some (spelled (k.1)) = sym e ∙ ap bytes_of (s.0) ∙ it.bytes_of_token k in
      let bytes_are : bytes ≡ spelled (k.1) = cc in
      let clash : false ≡ true = ap is_some (d ∙ ap (λ z. meaning_of n z table) bytes_are ∙ ap (λ z. meaning_of z (spelled (k.1)) table) (sym (it.class_of k (s.1)))) ∙ it.shown k (s.1) in
      cc)
