-- What each form of the grammar starts with.
use Rattle.std.proofs.Common.{◌≡◌, ℕ, Bool, true, false, cond, ◌||◌, [], ◌∷◌, ◌++◌, is_some, refl, ◌∙◌, ap, append_assoc}
use Rattle.cilk_ast.specs.declared.builtin.Builtin.{Builtin}
use Rattle.cilk_model.specs.Lexemes.{Lexeme}
use Rattle.cilk_model.specs.Signs.{mark, word, Prefix, prefix_spelling, builtin_spelling}
use Rattle.cilk_model.specs.Tests.{is_mark, is_word, is_name, is_literal, starts, prefix_of, builtin_of}
use Rattle.cilk_model.specs.Grammar.{Row, Spells, first, applied, cast, operand, indexed, number, variable, paren, call, builtin, print, init_named, init_address, here, placed, child, changed, up_before, down_before, nested, nothing, effect, lone_spawn, if_alone, if_else, while_loop, for_loop, cilk_for_loop, broken, continued, returned, synced, braces, void_function, int_function, long_function, plain_globals, replicated_globals, parameter}
use Rattle.cilk_model.specs.GrammarForms.{Val, expression, postfix, primary, spawn, simple, statement, block, item, param}
use Rattle.cilk_parser.specs.Parsers.{behind}
use Rattle.cilk_parser.specs.Kinds.{is_spawn}
use Rattle.cilk_parser.proofs.Operators.{prefix_same, builtin_same}

abbrev pub opens_primary : Lexeme → Bool
opens_primary t = is_mark "(" t || (is_literal t || (is_name t || (is_word "printf" t || is_some (builtin_of t))))

abbrev pub opens_expr : Lexeme → Bool
opens_expr t = opens_primary t || is_some (prefix_of t)

abbrev pub opens_simple : Lexeme → Bool
opens_simple t = opens_expr t || (is_mark "++" t || is_mark "--" t)

abbrev pub opens_statement : Lexeme → Bool
opens_statement t =
    opens_simple t || (is_spawn t || (is_mark "{" t || (is_mark ";" t || (is_word "if" t || (is_word "while" t || (is_word "for" t || (is_word "cilk_for" t
    || (is_word "break" t || (is_word "continue" t || (is_word "return" t || is_word "cilk_sync" t))))))))))

abbrev pub opens_item : Lexeme → Bool
opens_item t = is_word "long" t || (is_word "void" t || (is_word "int" t || is_word "replicated" t))

or_left : (a b : Bool) → a ≡ true → (a || b) ≡ true
or_left a b e = ap (λ z. z || b) e

or_right : (a b : Bool) → b ≡ true → (a || b) ≡ true
or_right true b e = refl
or_right false b e = e

-- A row that starts with one of some tokens starts with one of more tokens.
pub wider : (c d : Lexeme → Bool) (ts : Row) → starts c ts ≡ true → starts (λ t. c t || d t) ts ≡ true
wider c d [] e = absurd cc
wider c d (t ∷ ts) e = or_left (c t) (d t) e

other_way : (c d : Lexeme → Bool) (ts : Row) → starts d ts ≡ true → starts (λ t. c t || d t) ts ≡ true
other_way c d [] e = absurd cc
other_way c d (t ∷ ts) e = or_right (c t) (d t) e

builtin_opens : (which : Builtin) (at : _) → opens_primary (word (builtin_spelling which) at) ≡ true
builtin_opens which at = or_right (is_word "printf" (word (builtin_spelling which) at)) _ (ap is_some (builtin_same which at))

pub primary_opens : {x : Val primary} {a : Row} → Spells primary x a → (q : Row) → starts opens_primary (a ++ q) ≡ true
primary_opens number q = refl
primary_opens variable q = refl
primary_opens (paren close h) q = refl
primary_opens (call close h) q = refl
primary_opens (builtin {at = at} which e close h) q = builtin_opens which at
primary_opens (print close h) q = refl
primary_opens (init_named close h) q = refl
primary_opens (init_address comma close h g) q = refl

pub postfix_opens : {x : Val postfix} {a : Row} → Spells postfix x a → (q : Row) → starts opens_primary (a ++ q) ≡ true
postfix_opens (indexed {a = a} {b = b} h g) q = ap (starts opens_primary) (append_assoc a b q) ∙ primary_opens h (b ++ q)

prefix_opens : (o : Prefix) (at : _) → opens_expr (mark (prefix_spelling o) at) ≡ true
prefix_opens o at = or_right (opens_primary (mark (prefix_spelling o) at)) _ (ap is_some (prefix_same o at))

pub expr_opens : {n : ℕ} {x : Val (expression n)} {a : Row} → Spells (expression n) x a → (q : Row) → starts opens_expr (a ++ q) ≡ true
expr_opens (first {a = a} {b = b} h g) q = ap (starts opens_expr) (append_assoc a b q) ∙ expr_opens h (b ++ q)
expr_opens (applied {at = at} o h) q = prefix_opens o at
expr_opens (cast close h g) q = refl
expr_opens (operand {a = a} h) q = wider opens_primary (λ t. is_some (prefix_of t)) (a ++ q) (postfix_opens h q)

pub spawn_opens : {s : Val spawn} {a : Row} → Spells spawn s a → (q : Row) → starts is_spawn (a ++ q) ≡ true
spawn_opens (child at_name bracket close here g) q = refl
spawn_opens (child at_name bracket close (placed end h) g) q = refl

pub simple_opens : {may : Bool} {s : Val (simple may)} {a : Row} → Spells (simple may) s a → (q : Row) → starts opens_simple (a ++ q) ≡ true
simple_opens (changed {a = a} {b = b} h g) q =
    wider opens_expr (λ t. is_mark "++" t || is_mark "--" t) ((a ++ b) ++ q) (ap (starts opens_expr) (append_assoc a b q) ∙ expr_opens h (b ++ q))
simple_opens (up_before h) q = refl
simple_opens (down_before h) q = refl

pub block_opens : {s : Val block} {a : Row} → Spells block s a → (q : Row) → starts (is_mark "{") (a ++ q) ≡ true
block_opens (braces close h) q = refl

after_simple : Lexeme → Bool
after_simple t =
    is_spawn t || (is_mark "{" t || (is_mark ";" t || (is_word "if" t || (is_word "while" t || (is_word "for" t || (is_word "cilk_for" t
    || (is_word "break" t || (is_word "continue" t || (is_word "return" t || is_word "cilk_sync" t)))))))))

pub statement_opens : {s : Val statement} {a : Row} → Spells statement s a → (q : Row) → starts opens_statement (a ++ q) ≡ true
unfolding after_simple
statement_opens (nested (braces close h)) q = refl
statement_opens nothing q = refl
statement_opens (effect {a = a} end h) q =
    let ts = a ++ (mark ";" end ∷ q) in
    ap (starts opens_statement) (append_assoc a (mark ";" end ∷ []) q) ∙ wider opens_simple after_simple ts (simple_opens h (mark ";" end ∷ q))
statement_opens (lone_spawn end (child at_name bracket close here g)) q = refl
statement_opens (lone_spawn end (child at_name bracket close (placed bound h) g)) q = refl
statement_opens (if_alone close h g) q = refl
statement_opens (if_else close at_else h g e k) q = refl
statement_opens (while_loop close h g) q = refl
statement_opens (for_loop end_init end_test close h g k m) q = refl
statement_opens (cilk_for_loop end_low at_second less end_high close h g k m) q = refl
statement_opens broken q = refl
statement_opens continued q = refl
statement_opens (returned end h) q = refl
statement_opens synced q = refl

pub item_opens : {x : Val item} {a : Row} → Spells item x a → (q : Row) → starts opens_item (a ++ q) ≡ true
item_opens (void_function h) q = refl
item_opens (int_function h) q = refl
item_opens (long_function at_name h g) q = refl
item_opens (plain_globals at h g) q = refl
item_opens (replicated_globals at h g) q = refl

pub param_opens : {x : Val param} {a : Row} → Spells param x a → (q : Row) → starts (is_word "long") (a ++ q) ≡ true
param_opens (parameter at h) q = refl

-- ---- Brackets and casts

-- The row starts with a `(` and then `long`.
abbrev pub starts_cast : Row → Bool
starts_cast ts = cond (starts (is_mark "(") ts) (starts (is_word "long") (behind ts)) false
