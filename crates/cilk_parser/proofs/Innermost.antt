-- The innermost bracket, where the last of a list is innermost.
use Rattle.std.proofs.Common.{◌≡◌, ℕ, suc, ◌-◌, ◌<◌, Bool, true, false, if◌then◌else◌, List, [], ◌∷◌, ◌++◌, length, map, take, reverse, slice_get, slice_set, Option, Some, None, MatchOption, Result, Ok, Err, OnOk, refl, sym, ◌∙◌, ap, arith}
use Rattle.std.proofs.lemmas.List.{reverse-append}
use Rattle.cilk_ast.specs.declared.token.Token.{Token}
use Rattle.cilk_model.specs.Lexemes.{Lexeme, lexeme_of}
use Rattle.cilk_model.specs.Levels as level
use Rattle.cilk_model.specs.Tests.{is_mark, is_word, starts}
use Rattle.cilk_parser.specs.declared.nesting.Inside as code
use Rattle.cilk_parser.specs.declared.nesting.Inside.TheVariants.{Statements, First, Test, Step, Other}
use Rattle.cilk_parser.specs.declared.nesting.Bracket as code_bracket
use Rattle.cilk_parser.specs.NestingOf.{bracket_of, inside_of, bracket_at, before_of, kept_inside, kept_bracket, kept_brackets, kept_before}

-- A list that is not empty is what comes before its last item, and that.
pub front_and_last : {X : Type 0} (xs : List X) (x : X) → slice_get xs (length xs - 1) ≡ Some x → xs ≡ take (length xs - 1) xs ++ x ∷ []
front_and_last [] x e = absurd cc
front_and_last (y ∷ []) x e = let d : y ≡ x = cc in ap (λ z. z ∷ []) d
front_and_last (y ∷ z ∷ xs) x e =
    let n : length (y ∷ z ∷ xs) - 1 ≡ suc (length (z ∷ xs) - 1) = omega arith in
    ap (λ t. y ∷ t) (front_and_last (z ∷ xs) x (ap (slice_get (y ∷ z ∷ xs)) (sym n) ∙ e))
    ∙ ap (λ m. take m (y ∷ z ∷ xs) ++ x ∷ []) (sym n)

pub innermost_is : {X : Type 0} (xs : List X) (x : X) → slice_get xs (length xs - 1) ≡ Some x → reverse xs ≡ x ∷ reverse (take (length xs - 1) xs)
innermost_is xs x e = ap reverse (front_and_last xs x e) ∙ reverse-append (take (length xs - 1) xs) (x ∷ [])

front_and_set : {X : Type 0} (xs : List X) (y : X) → 0 < length xs → slice_set xs (length xs - 1) y ≡ take (length xs - 1) xs ++ y ∷ []
front_and_set [] y h = absurd (omega arith)
front_and_set (x ∷ []) y h = refl
front_and_set (x ∷ z ∷ xs) y h =
    let n : length (x ∷ z ∷ xs) - 1 ≡ suc (length (z ∷ xs) - 1) = omega arith in
    ap (λ m. slice_set (x ∷ z ∷ xs) m y) n ∙ ap (λ t. x ∷ t) (front_and_set (z ∷ xs) y (omega arith))
    ∙ ap (λ m. take m (x ∷ z ∷ xs) ++ y ∷ []) (sym n)

pub kept_of : (b : code_bracket.Bracket) → kept_bracket (bracket_of b) ≡ bracket_of b
kept_of b = ap (λ i. record { outside = b.outside; inside = i }) (of_inside b.inside) where
  of_inside : (i : code.Inside) → kept_inside (inside_of i) ≡ inside_of i
  of_inside Statements = refl
  of_inside First = refl
  of_inside Test = refl
  of_inside Step = refl
  of_inside Other = refl

pub kept_all : (bs : List code_bracket.Bracket) → kept_brackets (map bracket_of bs) ≡ map bracket_of bs
kept_all [] = refl
kept_all (b ∷ bs) = ap (λ z. z ∷ kept_brackets (map bracket_of bs)) (kept_of b) ∙ ap (λ z. bracket_of b ∷ z) (kept_all bs)

pub opened_is : (old new : List code_bracket.Bracket) (b : code_bracket.Bracket) (i : level.Inside) → new ≡ old ++ b ∷ [] → inside_of b.inside ≡ i →
    map bracket_of (reverse new) ≡ record { outside = b.outside; inside = i } ∷ map bracket_of (reverse old)
opened_is old new b i e d =
    ap (λ z. map bracket_of (reverse z)) e ∙ ap (map bracket_of) (reverse-append old (b ∷ []))
    ∙ ap (λ j. record { outside = b.outside; inside = j } ∷ map bracket_of (reverse old)) d

pub closed_is : (o : Option code_bracket.Bracket) (old new : List code_bracket.Bracket) → MatchOption o ((old ≡ []) × (new ≡ [])) (λ last. old ≡ new ++ last ∷ []) →
    map bracket_of (reverse new) ≡ level.around (map bracket_of (reverse old))
closed_is (Some b) old new e = sym (ap (λ z. level.around (map bracket_of z)) (ap reverse e ∙ reverse-append new (b ∷ [])))
closed_is None old new e = ap (λ z. map bracket_of (reverse z)) (e.1) ∙ sym (ap (λ z. level.around (map bracket_of (reverse z))) (e.0))

pub counted_is : (old new : List code_bracket.Bracket) (b : code_bracket.Bracket) (i : code.Inside) → 0 < length old → slice_get old (length old - 1) ≡ Some b →
    new ≡ slice_set old (length old - 1) (record { outside = b.outside; inside = i }) → inside_of i ≡ kept_inside (level.one_more (inside_of b.inside)) →
    map bracket_of (reverse new) ≡ kept_brackets (level.counted (map bracket_of (reverse old)))
counted_is old new b i h g e d =
    let c : code_bracket.Bracket = record { outside = b.outside; inside = i } in
    let front = take (length old - 1) old in
    ap (λ z. map bracket_of (reverse z)) (e ∙ front_and_set old c h) ∙ ap (map bracket_of) (reverse-append front (c ∷ []))
    ∙ ap (λ j. record { outside = b.outside; inside = j } ∷ map bracket_of (reverse front)) d
    ∙ ap (λ z. record { outside = b.outside; inside = kept_inside (level.one_more (inside_of b.inside)) } ∷ z) (sym (kept_all (reverse front)))
    ∙ sym (ap (λ z. kept_brackets (level.counted (map bracket_of z))) (innermost_is old b g))

module _ (here : level.Nesting) (t : Lexeme) where
  pub passed_open : level.opens t ≡ true → kept_brackets here.brackets ≡ here.brackets → bracket_at here t ∷ here.brackets ≡ kept_brackets (level.brackets_after here t)
  passed_open e k =
      ap (λ z. record { outside = here.level; inside = level.opened here t } ∷ z) (sym k)
      ∙ ap (λ i. record { outside = here.level; inside = i } ∷ kept_brackets here.brackets) (sym (kept_opened (is_mark "{" t) (starts (is_word "cilk_for") here.before)))
      ∙ ap (λ b. kept_brackets (if b then bracket_at here t ∷ here.brackets else (if level.closes t then level.around here.brackets else (if is_mark ";" t then level.counted here.brackets else here.brackets)))) (sym e) where
        kept_opened : (a b : Bool) → kept_inside (if a then level.statements else (if b then level.head 0 else level.other)) ≡ (if a then level.statements else (if b then level.head 0 else level.other))
        kept_opened true b = refl
        kept_opened false true = refl
        kept_opened false false = refl

  pub passed_close : level.opens t ≡ false → level.closes t ≡ true → kept_brackets (level.around here.brackets) ≡ kept_brackets (level.brackets_after here t)
  passed_close e d =
      ap (λ b. kept_brackets (if b then level.around here.brackets else (if is_mark ";" t then level.counted here.brackets else here.brackets))) (sym d)
      ∙ ap (λ b. kept_brackets (if b then bracket_at here t ∷ here.brackets else (if level.closes t then level.around here.brackets else (if is_mark ";" t then level.counted here.brackets else here.brackets)))) (sym e)

  pub passed_end : level.opens t ≡ false → level.closes t ≡ false → is_mark ";" t ≡ true → kept_brackets (level.counted here.brackets) ≡ kept_brackets (level.brackets_after here t)
  passed_end e d g =
      ap (λ b. kept_brackets (if b then level.counted here.brackets else here.brackets)) (sym g)
      ∙ ap (λ b. kept_brackets (if b then level.around here.brackets else (if is_mark ";" t then level.counted here.brackets else here.brackets))) (sym d)
      ∙ ap (λ b. kept_brackets (if b then bracket_at here t ∷ here.brackets else (if level.closes t then level.around here.brackets else (if is_mark ";" t then level.counted here.brackets else here.brackets)))) (sym e)

  pub passed_other : level.opens t ≡ false → level.closes t ≡ false → is_mark ";" t ≡ false → kept_brackets here.brackets ≡ kept_brackets (level.brackets_after here t)
  passed_other e d g =
      ap (λ b. kept_brackets (if b then level.counted here.brackets else here.brackets)) (sym g)
      ∙ ap (λ b. kept_brackets (if b then level.around here.brackets else (if is_mark ";" t then level.counted here.brackets else here.brackets))) (sym d)
      ∙ ap (λ b. kept_brackets (if b then bracket_at here t ∷ here.brackets else (if level.closes t then level.around here.brackets else (if is_mark ";" t then level.counted here.brackets else here.brackets)))) (sym e)

-- The last two tokens.
pub kept_tokens : (text : List ℕ) (t : Token) (last second : Option Token) →
    before_of text (Some t) last ≡ kept_before (lexeme_of text t ∷ before_of text last second)
kept_tokens text t None second = refl
kept_tokens text t (Some u) None = refl
kept_tokens text t (Some u) (Some v) = refl

pub closed_kept : (bs : List code_bracket.Bracket) → kept_brackets (level.around (map bracket_of bs)) ≡ level.around (map bracket_of bs)
closed_kept [] = refl
closed_kept (b ∷ bs) = kept_all bs

pub on_ok : {X E : Type 0} (r : Result X E) (P Q : Type 0) → (P → Q) → OnOk r P → OnOk r Q
on_ok (Ok x) P Q f h = f h
on_ok (Err e) P Q f h = tt
