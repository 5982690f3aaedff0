-- Operands and statements by their first tokens.
use Rattle.std.proofs.Common.{◌≡◌, Bool, true, false, cond, [], ◌∷◌, ◌++◌, Option, Some, None, Ok, Err, refl, sym, ◌∙◌, ap, append_assoc}
use Rattle.word_ops.specs.declared.place.Pos.{Pos}
use Rattle.cilk_ast.specs.declared.tree.TExpr as tree
use Rattle.cilk_ast.specs.declared.tree.TExpr.{TExpr}
use Rattle.cilk_model.specs.Lexemes.{pos_of}
use Rattle.cilk_model.specs.Signs.{mark, Prefix, minus, opposite, complement, contents, prefix_spelling}
use Rattle.cilk_model.specs.Tests.{is_mark, is_word, starts}
use Rattle.cilk_model.specs.Grammar.{Row, Spells, indexed, number, variable, paren, call, builtin, print, init_named, init_address}
use Rattle.cilk_model.specs.GrammarForms.{Val, postfix, indexes, primary, unary, expr}
use Rattle.cilk_parser.specs.Parsers.{Answer, goes_on, ◌>>=◌, gives, seen, chosen, choose, take}
use Rattle.cilk_parser.specs.Kinds.{a_mark, is_spawn}
use Rattle.cilk_parser.specs.Reading.{body_of, closed, read_bracketed}
use Rattle.cilk_parser.specs.Read.{read}
use Rattle.cilk_parser.proofs.Fuel.{read_body}
use Rattle.cilk_parser.proofs.Taking.{choose_no}
use Rattle.cilk_parser.proofs.Operators.{tells_prefix}
use Rattle.cilk_parser.proofs.Tokens.{is_mark-true}
use Rattle.cilk_parser.proofs.Openings.{opens_primary, opens_expr, opens_simple, starts_cast, expr_opens}
use Rattle.cilk_parser.proofs.Apart.{apart, apart_mark, apart_word, no_mark, no_word, neither}
use Rattle.cilk_parser.proofs.Rules.{Reads}
use Rattle.cilk_parser.proofs.RulesStatements.{StartsEffect}

no_prefix : (o : Prefix) (at : Pos) → opens_primary (mark (prefix_spelling o) at) ≡ false
no_prefix minus at = refl
no_prefix opposite at = refl
no_prefix complement at = refl
no_prefix contents at = refl

-- An operand in brackets is no cast.
pub postfix_no_cast : {x : Val postfix} {a : Row} → Spells postfix x a → (q : Row) → starts_cast (a ++ q) ≡ false
postfix_no_cast (indexed number g) q = refl
postfix_no_cast (indexed variable g) q = refl
postfix_no_cast (indexed {b = b} (paren {a = a} close h) g) q =
    simp append_assoc (apart_word "long" opens_expr (λ at. refl) (a ++ (mark ")" close ∷ (b ++ q))) (expr_opens h (mark ")" close ∷ (b ++ q))))
postfix_no_cast (indexed (call close h) g) q = refl
postfix_no_cast (indexed (builtin which e close h) g) q = refl
postfix_no_cast (indexed (print close h) g) q = refl
postfix_no_cast (indexed (init_named close h) g) q = refl
postfix_no_cast (indexed (init_address comma close h k) g) q = refl

-- ---- Brackets

-- What is read in brackets, then indexes: in either grouping.
regrouped : (at : Pos) (a : Answer TExpr) →
    goes_on (λ x. read (indexes x)) (goes_on (λ x. closed ")" (tree.Paren at x)) a) ≡ goes_on (λ x. take (a_mark ")") >>= λ _. read (indexes (tree.Paren at x))) a
regrouped at (Err r) = refl
regrouped at (Ok b) = by_kind (seen (a_mark ")") (b.1)) where
  by_kind : (o : Option Pos) →
      goes_on (λ x. read (indexes x)) (goes_on (λ _ r. Ok (tree.Paren at (b.0), r)) (chosen gives (λ ts. Err ts) o (b.1)))
      ≡ goes_on (λ _. read (indexes (tree.Paren at (b.0)))) (chosen gives (λ ts. Err ts) o (b.1))
  by_kind None = refl
  by_kind (Some k) = refl

bracketed : (at : Pos) (ts : Row) → starts (is_word "long") ts ≡ false → read_bracketed read at ts ≡ read postfix (mark "(" at ∷ ts)
unfolding body_of
bracketed at ts e =
    rw (no_word "long" ts e) (sym (read_body postfix (mark "(" at ∷ ts) ∙ ap (goes_on (λ x. read (indexes x))) (read_body primary (mark "(" at ∷ ts)) ∙ regrouped at (read expr ts)))

by_bracket : (ts : Row) → starts_cast ts ≡ false → choose (a_mark "(") (read_bracketed read) (read postfix) ts ≡ read postfix ts
by_bracket [] e = refl
by_bracket (t ∷ ts) e = at_first (is_mark "(" t) refl e where
  at_first : (b : Bool) → is_mark "(" t ≡ b → cond b (starts (is_word "long") ts) false ≡ false → choose (a_mark "(") (read_bracketed read) (read postfix) (t ∷ ts) ≡ read postfix (t ∷ ts)
  at_first true d g =
      let same = is_mark-true "(" t d in
      ap (λ z. choose (a_mark "(") (read_bracketed read) (read postfix) (z ∷ ts)) same ∙ bracketed (pos_of t) ts g ∙ ap (λ z. read postfix (z ∷ ts)) (sym same)
  at_first false d g = choose_no (a_mark "(") (read_bracketed read) (read postfix) (t ∷ ts) (ap (λ b. cond b (Some (pos_of t)) None) d)

pub operand_read : {x : TExpr} {ts q : Row} → starts opens_primary ts ≡ true → starts_cast ts ≡ false → Reads postfix ts x q → Reads unary ts x q
unfolding body_of
operand_read {ts = ts} d e h =
    record { it = read_body unary ts ∙ rw (apart tells_prefix opens_primary (λ k. no_prefix (k.1) (k.0)) ts d) (by_bracket ts e ∙ h.it) }

-- ---- Statements that start with an expression, a step or a spawn

pub simple_starts_effect : (ts : Row) → starts opens_simple ts ≡ true → StartsEffect ts
simple_starts_effect ts e = record {
  brace = apart_mark "{" opens_simple (λ at. refl) ts e;
  semicolon = no_mark ";" ts (apart_mark ";" opens_simple (λ at. refl) ts e);
  is_if = no_word "if" ts (apart_word "if" opens_simple (λ at. refl) ts e);
  is_while = no_word "while" ts (apart_word "while" opens_simple (λ at. refl) ts e);
  is_for = no_word "for" ts (apart_word "for" opens_simple (λ at. refl) ts e);
  is_cilk_for = no_word "cilk_for" ts (apart_word "cilk_for" opens_simple (λ at. refl) ts e);
  is_break = no_word "break" ts (apart_word "break" opens_simple (λ at. refl) ts e);
  is_continue = no_word "continue" ts (apart_word "continue" opens_simple (λ at. refl) ts e);
  is_return = no_word "return" ts (apart_word "return" opens_simple (λ at. refl) ts e);
  is_sync = no_word "cilk_sync" ts (apart_word "cilk_sync" opens_simple (λ at. refl) ts e);
}

pub spawn_starts_effect : (ts : Row) → starts is_spawn ts ≡ true → StartsEffect ts
spawn_starts_effect ts e = record {
  brace = apart_mark "{" is_spawn (λ at. refl) ts e;
  semicolon = no_mark ";" ts (apart_mark ";" is_spawn (λ at. refl) ts e);
  is_if = no_word "if" ts (apart_word "if" is_spawn (λ at. refl) ts e);
  is_while = no_word "while" ts (apart_word "while" is_spawn (λ at. refl) ts e);
  is_for = no_word "for" ts (apart_word "for" is_spawn (λ at. refl) ts e);
  is_cilk_for = no_word "cilk_for" ts (apart_word "cilk_for" is_spawn (λ at. refl) ts e);
  is_break = no_word "break" ts (apart_word "break" is_spawn (λ at. refl) ts e);
  is_continue = no_word "continue" ts (apart_word "continue" is_spawn (λ at. refl) ts e);
  is_return = no_word "return" ts (apart_word "return" is_spawn (λ at. refl) ts e);
  is_sync = no_word "cilk_sync" ts (apart_word "cilk_sync" is_spawn (λ at. refl) ts e);
}

-- An expression, and a simple statement, is no spawn.
pub expr_no_spawn : (ts : Row) → starts opens_expr ts ≡ true → starts is_spawn ts ≡ false
expr_no_spawn ts e =
    neither (is_word "cilk_spawn") (is_word "cilk_spawn_at") ts (apart_word "cilk_spawn" opens_expr (λ at. refl) ts e) (apart_word "cilk_spawn_at" opens_expr (λ at. refl) ts e)

pub simple_no_spawn : (ts : Row) → starts opens_simple ts ≡ true → starts is_spawn ts ≡ false
simple_no_spawn ts e =
    neither (is_word "cilk_spawn") (is_word "cilk_spawn_at") ts (apart_word "cilk_spawn" opens_simple (λ at. refl) ts e) (apart_word "cilk_spawn_at" opens_simple (λ at. refl) ts e)
