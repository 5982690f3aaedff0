-- The levels behind a place do not depend on what the code does not keep of it.
use Rattle.std.proofs.Common.{◌≡◌, ℕ, zero, suc, Bool, true, false, not, ◌&&◌, ◌||◌, if◌then◌else◌, List, [], ◌∷◌, length, refl, sym, ◌∙◌, ap, arith}
use Rattle.std.specs.Prelude.{nat_lt}
use Rattle.std.proofs.lemmas.List.{length-map}
use Rattle.cilk_model.specs.Lexemes.{Lexeme}
use Rattle.cilk_model.specs.Grammar.{Row}
use Rattle.cilk_model.specs.Tests.{is_mark, is_word, is_name, starts}
use Rattle.cilk_model.specs.Levels.{Inside, statements, head, other, Bracket, Nesting, level_limit, is_statements, is_head, among_statements, in_head, behind_two, start_level, restored, around, counted, one_more, is_declaring, is_bounding, is_naming, ends_cast, opens, closes, is_heavy, adds_one, opened, brackets_after, closed_level, level_after, after, deep_from}
use Rattle.cilk_parser.specs.NestingOf.{kept, kept_inside, kept_bracket, kept_brackets, kept_before}

-- ---- What is asked of brackets and of the tokens before

statements_kept : (i : Inside) → is_statements (kept_inside i) ≡ is_statements i
statements_kept statements = refl
statements_kept (head zero) = refl
statements_kept (head (suc zero)) = refl
statements_kept (head (suc (suc n))) = refl
statements_kept other = refl

among_kept : (bs : List Bracket) → among_statements (kept_brackets bs) ≡ among_statements bs
among_kept [] = refl
among_kept (b ∷ bs) = statements_kept b.inside

first_kept : (i : Inside) → is_head 0 (kept_inside i) ≡ is_head 0 i
first_kept statements = refl
first_kept (head zero) = refl
first_kept (head (suc zero)) = refl
first_kept (head (suc (suc n))) = grind arith
first_kept other = refl

in_first_kept : (bs : List Bracket) → in_head 0 (kept_brackets bs) ≡ in_head 0 bs
in_first_kept [] = refl
in_first_kept (b ∷ bs) = first_kept b.inside

test_kept : (i : Inside) → is_head 1 (kept_inside i) ≡ is_head 1 i
test_kept statements = refl
test_kept (head zero) = refl
test_kept (head (suc zero)) = refl
test_kept (head (suc (suc n))) = grind arith
test_kept other = refl

in_test_kept : (bs : List Bracket) → in_head 1 (kept_brackets bs) ≡ in_head 1 bs
in_test_kept [] = refl
in_test_kept (b ∷ bs) = test_kept b.inside

starts_kept : (test : Lexeme → Bool) (before : Row) → starts test (kept_before before) ≡ starts test before
starts_kept test [] = refl
starts_kept test (t ∷ []) = refl
starts_kept test (t ∷ u ∷ before) = refl

two_kept : (last second : Lexeme → Bool) (before : Row) → behind_two last second (kept_before before) ≡ behind_two last second before
two_kept last second [] = refl
two_kept last second (t ∷ []) = refl
two_kept last second (t ∷ u ∷ before) = refl

length_kept : (bs : List Bracket) → length (kept_brackets bs) ≡ length bs
length_kept bs = length-map bs kept_bracket

restored_kept : (bs : List Bracket) → restored (kept_brackets bs) ≡ restored bs
restored_kept [] = refl
restored_kept (b ∷ bs) = refl

around_kept : (bs : List Bracket) → around (kept_brackets bs) ≡ kept_brackets (around bs)
around_kept [] = refl
around_kept (b ∷ bs) = refl

one_more_kept : (i : Inside) → kept_inside (one_more (kept_inside i)) ≡ kept_inside (one_more i)
one_more_kept statements = refl
one_more_kept (head zero) = refl
one_more_kept (head (suc zero)) = refl
one_more_kept (head (suc (suc n))) = refl
one_more_kept other = refl

twice_inside : (i : Inside) → kept_inside (kept_inside i) ≡ kept_inside i
twice_inside statements = refl
twice_inside (head zero) = refl
twice_inside (head (suc zero)) = refl
twice_inside (head (suc (suc n))) = refl
twice_inside other = refl

kept_twice : (bs : List Bracket) → kept_brackets (kept_brackets bs) ≡ kept_brackets bs
kept_twice [] = refl
kept_twice (b ∷ bs) =
    ap (λ i. record { outside = b.outside; inside = i } ∷ kept_brackets (kept_brackets bs)) (twice_inside b.inside) ∙ ap (λ z. kept_bracket b ∷ z) (kept_twice bs)

counted_kept : (bs : List Bracket) → kept_brackets (counted (kept_brackets bs)) ≡ kept_brackets (counted bs)
counted_kept [] = refl
counted_kept (b ∷ bs) =
    ap (λ i. record { outside = b.outside; inside = i } ∷ kept_brackets (kept_brackets bs)) (one_more_kept b.inside)
    ∙ ap (λ z. kept_bracket (record { outside = b.outside; inside = one_more b.inside }) ∷ z) (kept_twice bs)

-- ---- What a token does

module _ (here : Nesting) (t : Lexeme) where
  declaring_kept : is_declaring (kept here) t ≡ is_declaring here t
  declaring_kept =
      let f : Bool → Bool → Bool → Bool → Bool = λ a b c d. is_mark "*" t && (a && not b || c && d) in
      ap (λ a. f a (in_head 0 (kept_brackets here.brackets)) (starts (is_mark ",") (kept_before here.before)) (among_statements (kept_brackets here.brackets))) (starts_kept (is_word "long") here.before)
      ∙ ap (λ b. f (starts (is_word "long") here.before) b (starts (is_mark ",") (kept_before here.before)) (among_statements (kept_brackets here.brackets))) (in_first_kept here.brackets)
      ∙ ap (λ c. f (starts (is_word "long") here.before) (in_head 0 here.brackets) c (among_statements (kept_brackets here.brackets))) (starts_kept (is_mark ",") here.before)
      ∙ ap (λ d. f (starts (is_word "long") here.before) (in_head 0 here.brackets) (starts (is_mark ",") here.before) d) (among_kept here.brackets)

  bounding_kept : is_bounding (kept here) t ≡ is_bounding here t
  bounding_kept =
      ap (λ a. is_mark "<" t && a && behind_two is_name (is_mark ";") (kept_before here.before)) (in_test_kept here.brackets)
      ∙ ap (λ b. is_mark "<" t && in_head 1 here.brackets && b) (two_kept is_name (is_mark ";") here.before)

  naming_kept : is_naming (kept here) t ≡ is_naming here t
  naming_kept = ap (λ b. is_mark "&" t && b) (two_kept (is_mark "(") (is_word "mw_replicated_init") here.before)

  cast_kept : ends_cast (kept here) ≡ ends_cast here
  cast_kept =
      ap (λ a. a || behind_two (is_mark "*") (is_word "long") (kept_before here.before)) (starts_kept (is_word "long") here.before)
      ∙ ap (λ b. starts (is_word "long") here.before || b) (two_kept (is_mark "*") (is_word "long") here.before)

  adds_kept : adds_one (kept here) t ≡ adds_one here t
  adds_kept =
      ap (λ a. is_heavy t && not (a || is_bounding (kept here) t || is_naming (kept here) t)) declaring_kept
      ∙ ap (λ a. is_heavy t && not (is_declaring here t || a || is_naming (kept here) t)) bounding_kept
      ∙ ap (λ a. is_heavy t && not (is_declaring here t || is_bounding here t || a)) naming_kept

  opened_kept : opened (kept here) t ≡ opened here t
  opened_kept = ap (λ a. if is_mark "{" t then statements else (if a then head 0 else other)) (starts_kept (is_word "cilk_for") here.before)

  closed_kept : (e : Bool) → closed_level (kept here) t e ≡ closed_level here t e
  closed_kept e =
      let f : ℕ → Bool → ℕ → ℕ = λ n c r. if is_mark "}" t && not e then n else (if is_mark ")" t && c then suc r else r) in
      ap (λ n. f n (ends_cast (kept here)) (restored (kept_brackets here.brackets))) (ap length (around_kept here.brackets) ∙ length_kept (around here.brackets))
      ∙ ap (λ c. f (start_level (around here.brackets)) c (restored (kept_brackets here.brackets))) cast_kept
      ∙ ap (λ r. f (start_level (around here.brackets)) (ends_cast here) r) (restored_kept here.brackets)

  pub level_kept : (e : Bool) → level_after (kept here) t e ≡ level_after here t e
  level_kept e =
      let f : ℕ → ℕ → Bool → ℕ = λ c n a.
      if opens t then suc here.level
      else (if closes t then c else (if is_mark "," t || (is_mark ";" t && not e) then n else (if a then suc here.level else here.level))) in
      ap (λ c. f c (start_level (kept_brackets here.brackets)) (adds_one (kept here) t)) (closed_kept e)
      ∙ ap (λ n. f (closed_level here t e) n (adds_one (kept here) t)) (length_kept here.brackets)
      ∙ ap (λ a. f (closed_level here t e) (start_level here.brackets) a) adds_kept

  one_of_four : (a b c : Bool) (x y z w p q r s : List Bracket) → kept_brackets x ≡ kept_brackets p → kept_brackets y ≡ kept_brackets q → kept_brackets z ≡ kept_brackets r → kept_brackets w ≡ kept_brackets s →
      kept_brackets (if a then x else (if b then y else (if c then z else w))) ≡ kept_brackets (if a then p else (if b then q else (if c then r else s)))
  one_of_four true b c x y z w p q r s e f g h = e
  one_of_four false true c x y z w p q r s e f g h = f
  one_of_four false false true x y z w p q r s e f g h = g
  one_of_four false false false x y z w p q r s e f g h = h

  brackets_kept : kept_brackets (brackets_after (kept here) t) ≡ kept_brackets (brackets_after here t)
  brackets_kept =
      one_of_four (opens t) (closes t) (is_mark ";" t) _ _ _ _ _ _ _ _
      (ap (λ i. record { outside = here.level; inside = kept_inside i } ∷ kept_brackets (kept_brackets here.brackets)) opened_kept
      ∙ ap (λ z. record { outside = here.level; inside = kept_inside (opened here t) } ∷ z) (kept_twice here.brackets))
      (ap kept_brackets (around_kept here.brackets) ∙ kept_twice (around here.brackets))
      (counted_kept here.brackets)
      (kept_twice here.brackets)

  before_kept : (before : Row) → kept_before (t ∷ kept_before before) ≡ kept_before (t ∷ before)
  before_kept [] = refl
  before_kept (u ∷ []) = refl
  before_kept (u ∷ v ∷ before) = refl

  pub after_kept : (e : Bool) → kept (after (kept here) t e) ≡ kept (after here t e)
  after_kept e =
      ap (λ l. record { level = l; brackets = kept_brackets (brackets_after (kept here) t); before = kept_before (t ∷ kept_before here.before) }) (level_kept e)
      ∙ ap (λ b. record { level = level_after here t e; brackets = b; before = kept_before (t ∷ kept_before here.before) }) brackets_kept
      ∙ ap (λ b. record { level = level_after here t e; brackets = kept_brackets (brackets_after here t); before = b }) (before_kept here.before)

pub deep_kept : (ts : Row) (here : Nesting) → deep_from (kept here) ts ≡ deep_from here ts
deep_kept [] here = refl
deep_kept (t ∷ ts) here =
    let e = starts (is_word "else") ts in
    ap (λ l. if nat_lt level_limit l then t ∷ ts else deep_from (after (kept here) t e) ts) (level_kept here t e)
    ∙ ap (λ d. if nat_lt level_limit (level_after here t e) then t ∷ ts else d)
    (sym (deep_kept ts (after (kept here) t e)) ∙ ap (λ z. deep_from z ts) (after_kept here t e) ∙ deep_kept ts (after here t e))
