-- What reading the tokens before the first that is too deep says of all of them. The theorems that a parser
-- needs: `spelled_by`, `unexpected_at`, `too_deep_at`, `never_at_end`.
use Rattle.std.proofs.Common.{◌≡◌, Bool, true, false, cond, [], ◌∷◌, ◌++◌, Ok, Err, refl, sym, ◌∙◌, ap, append_assoc, append-nil, length-append, arith}
use Rattle.std.specs.Prelude.{nat_lt}
use Rattle.cilk_ast.specs.declared.tree.Tree.{Tree}
use Rattle.cilk_ast.specs.declared.fault.FaultKind.TheVariants.{TooDeep, Unexpected}
use Rattle.cilk_model.specs.Lexemes.{Lexeme, pos_of}
use Rattle.cilk_model.specs.Tests.{is_word, starts}
use Rattle.cilk_model.specs.Levels.{Nesting, after, level_limit, outermost, deep_from, shallow_from, deep_part, shallow_part}
use Rattle.cilk_model.specs.Syntax.{Spelled, EndsOnce, SyntaxFault, too_deep, unexpected}
use Rattle.cilk_model.specs.Grammar.{Row}
use Rattle.cilk_model.specs.GrammarForms.{file}
use Rattle.cilk_parser.specs.Read.{read}
use Rattle.cilk_parser.proofs.Exact.{stop_begins, stop_ends, whole_is_read, not_at_end, no_file_before}

-- The shallow part and the deep part are all the tokens.
pub parts_from : (here : Nesting) (ts : Row) → shallow_from here ts ++ deep_from here ts ≡ ts
parts_from here [] = refl
parts_from here (t ∷ ts) =
    let next = after here t (starts (is_word "else") ts) in
    by_level (nat_lt level_limit next.level) (shallow_from next ts) (deep_from next ts) (parts_from next ts) where
      by_level : (b : Bool) (s d : Row) → s ++ d ≡ ts → cond b [] (t ∷ s) ++ cond b (t ∷ ts) d ≡ t ∷ ts
      by_level true s d e = refl
      by_level false s d e = ap (λ z. t ∷ z) e

pub parts : (ts : Row) → shallow_part ts ++ deep_part ts ≡ ts
parts ts = parts_from outermost ts

pub all_shallow : (ts : Row) → deep_part ts ≡ [] → shallow_part ts ≡ ts
all_shallow ts e = sym (append-nil (shallow_part ts)) ∙ ap (λ z. shallow_part ts ++ z) (sym e) ∙ parts ts

-- A row is empty, or has a first token.
pub data Split : Row → Type 0 where
  empty : Split []
  token : (t : Lexeme) (ts : Row) → Split (t ∷ ts)

pub split : (ts : Row) → Split ts
split [] = empty
split (t ∷ ts) = token t ts

-- A tree that is read is spelled.
pub spelled_by : {ts : Row} → EndsOnce ts → (rest : Row) (tree : Tree) → read file (shallow_part ts) ≡ Ok (tree, rest) → Spelled ts tree
spelled_by {ts} ends rest tree e = by_depth (deep_part ts) refl where
  by_depth : (d : Row) → deep_part ts ≡ d → Spelled ts tree
  by_depth [] g =
      record { spells = (whole_is_read ends rest tree (ap (read file) (sym (all_shallow ts g)) ∙ e)).1; shallow = g }
  by_depth (t ∷ behind) g = absurd (no_file_before ends (shallow_part ts) rest behind t tree (sym (parts ts) ∙ ap (λ z. shallow_part ts ++ z) g) e)

-- A token at which reading stops is unexpected.
pub unexpected_at : (ts rest : Row) (t : Lexeme) → read file (shallow_part ts) ≡ Err (t ∷ rest) → SyntaxFault ts (record { pos = pos_of t; kind = Unexpected })
unexpected_at ts rest t e =
    let d = stop_begins (shallow_part ts) (t ∷ rest) e in
    let whole : ts ≡ d.0 ++ (t ∷ (rest ++ deep_part ts)) = sym (parts ts) ∙ ap (λ z. z ++ deep_part ts) d.1 ∙ append_assoc d.0 (t ∷ rest) (deep_part ts) in
    unexpected (record {
      front = d.0;
      token = t;
      behind = rest ++ deep_part ts;
      is_rest = refl;
      split = whole;
      begun = d.2;
      ended = stop_ends d.0 rest t (ap (read file) (sym d.1) ∙ e);
    })
    (omega (arith, length-append rest (deep_part ts)))

-- Where reading comes to the first token that is too deep, that is the fault.
pub too_deep_at : (ts behind : Row) (t : Lexeme) → read file (shallow_part ts) ≡ Err [] → deep_part ts ≡ t ∷ behind → SyntaxFault ts (record { pos = pos_of t; kind = TooDeep })
too_deep_at ts behind t e g =
    let d = stop_begins (shallow_part ts) [] e in
    let front_is : d.0 ≡ shallow_part ts = sym (d.1 ∙ append-nil d.0) in
    too_deep (record {
      front = d.0;
      token = t;
      behind = behind;
      is_rest = refl;
      split = sym (parts ts) ∙ ap (λ z. z ++ deep_part ts) (sym front_is) ∙ ap (λ z. d.0 ++ z) g;
      begun = d.2;
      deep = g;
    })

-- Where no token is too deep, reading does not come to the end without a tree.
pub never_at_end : {ts : Row} → EndsOnce ts → read file (shallow_part ts) ≡ Err [] → deep_part ts ≡ [] → ⊥
never_at_end {ts} ends e g = not_at_end ends (ap (read file) (sym (all_shallow ts g)) ∙ e)
