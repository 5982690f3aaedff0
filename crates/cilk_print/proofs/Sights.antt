-- What the levels behind a place depend on, and no more: the level, the brackets, and a few tests of the tokens before.
use Rattle.std.proofs.Common.{◌≡◌, ℕ, suc, Bool, true, false, not, ◌&&◌, ◌||◌, if◌then◌else◌, List, [], ◌∷◌, ap, refl, ◌∙◌}
use Rattle.cilk_model.specs.Lexemes as lexeme
use Rattle.cilk_model.specs.Lexemes.{Lexeme}
use Rattle.cilk_model.specs.Tests.{is_mark, is_word, is_name, starts}
use Rattle.cilk_model.specs.Levels.{Inside, statements, head, other, Bracket, Nesting, among_statements, in_head, behind_two, start_level, restored, around, counted, opens, closes, is_heavy, after}

pub record Sight : Type 0 where
  pub level : ℕ
  pub brackets : List Bracket
  -- the token before is `long`, a `,`, `cilk_for`, or `mw_replicated_init`
  pub long : Bool
  pub comma : Bool
  pub loop : Bool
  pub init : Bool
  -- behind the first `;` of a `cilk_for`, and behind a name that stands there
  pub second : Bool
  pub named : Bool
  -- behind `mw_replicated_init (`, and behind `long *`
  pub naming : Bool
  pub starred : Bool

abbrev pub sight : Nesting → Sight
sight here = record {
  level = here.level;
  brackets = here.brackets;
  long = starts (is_word "long") here.before;
  comma = starts (is_mark ",") here.before;
  loop = starts (is_word "cilk_for") here.before;
  init = starts (is_word "mw_replicated_init") here.before;
  second = starts (is_mark ";") here.before && in_head 1 here.brackets;
  named = in_head 1 here.brackets && behind_two is_name (is_mark ";") here.before;
  naming = behind_two (is_mark "(") (is_word "mw_replicated_init") here.before;
  starred = behind_two (is_mark "*") (is_word "long") here.before;
}

-- ---- What a token does

-- whether a token raises the level, by whether it bounds a `cilk_for`
abbrev adds : Sight → Lexeme → Bool → Bool
adds z t bounding =
    is_heavy t && not (is_mark "*" t && (z.long && not (in_head 0 z.brackets) || z.comma && among_statements z.brackets) || bounding || is_mark "&" t && z.naming)

abbrev closed_then : Sight → Lexeme → Bool → ℕ
closed_then z t e =
    if is_mark "}" t && not e then start_level (around z.brackets)
    else (if is_mark ")" t && (z.long || z.starred) then suc (restored z.brackets) else restored z.brackets)

abbrev level_by : Sight → Lexeme → Bool → Bool → ℕ
level_by z t e bounding =
    if opens t then suc z.level
    else (if closes t then closed_then z t e
    else (if is_mark "," t || (is_mark ";" t && not e) then start_level z.brackets
    else (if adds z t bounding then suc z.level else z.level)))

abbrev opened_then : Sight → Lexeme → Inside
opened_then z t = if is_mark "{" t then statements else (if z.loop then head 0 else other)

abbrev brackets_then : Sight → Lexeme → List Bracket
brackets_then z t =
    if opens t then record { outside = z.level; inside = opened_then z t } ∷ z.brackets
    else (if closes t then around z.brackets else (if is_mark ";" t then counted z.brackets else z.brackets))

abbrev pub step : Sight → Lexeme → Bool → Sight
step z t e = record {
  level = level_by z t e (is_mark "<" t && z.named);
  brackets = brackets_then z t;
  long = is_word "long" t;
  comma = is_mark "," t;
  loop = is_word "cilk_for" t;
  init = is_word "mw_replicated_init" t;
  second = is_mark ";" t && in_head 1 (brackets_then z t);
  named = is_name t && z.second;
  naming = is_mark "(" t && z.init;
  starred = is_mark "*" t && z.long;
}

-- ---- The levels of a row are those of its sights

and_false : (b : Bool) → (b && false) ≡ false
and_false true = refl
and_false false = refl

and_joins : (a b c : Bool) → ((a && b) && c) ≡ (a && (b && c))
and_joins true b c = refl
and_joins false b c = refl

and_swaps : (a b : Bool) → (a && b) ≡ (b && a)
and_swaps true true = refl
and_swaps true false = refl
and_swaps false true = refl
and_swaps false false = refl

two_behind : (last other_ : Lexeme → Bool) (t : Lexeme) (before : List Lexeme) → behind_two last other_ (t ∷ before) ≡ (last t && starts other_ before)
two_behind last other_ t [] = and_swaps false (last t)
two_behind last other_ t (u ∷ before) = refl

named_then : (here : Nesting) (t : Lexeme) →
    (in_head 1 (brackets_then (sight here) t) && (is_name t && starts (is_mark ";") here.before)) ≡ (is_name t && (sight here).second)
named_then here (lexeme.name at x) = and_swaps (in_head 1 here.brackets) (starts (is_mark ";") here.before)
named_then here (lexeme.word at x) = and_false _
named_then here (lexeme.literal at v) = and_false _
named_then here (lexeme.text at x) = and_false _
named_then here (lexeme.mark at x) = and_false _
named_then here (lexeme.finish at) = and_false _

pub sight_after : (here : Nesting) (t : Lexeme) (e : Bool) → sight (after here t e) ≡ step (sight here) t e
sight_after here t e =
    let named_is = ap (λ b. in_head 1 (brackets_then (sight here) t) && b) (two_behind is_name (is_mark ";") t here.before) ∙ named_then here t in
    let naming_is = two_behind (is_mark "(") (is_word "mw_replicated_init") t here.before in
    let starred_is = two_behind (is_mark "*") (is_word "long") t here.before in
    let bounding_is = and_joins (is_mark "<" t) (in_head 1 here.brackets) (behind_two is_name (is_mark ";") here.before) in
    λ i. record (step (sight here) t e) { level = level_by (sight here) t e (bounding_is i); named = named_is i; naming = naming_is i; starred = starred_is i }
