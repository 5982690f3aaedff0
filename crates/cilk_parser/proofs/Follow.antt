-- What could go on with a part that has ended: the only tokens behind it that matter.
use Rattle.std.proofs.Common.{◌≡◌, ℕ, suc, ◌≤◌, Bool, true, false, cond, not, ◌||◌, ◌&&◌, ◌==◌, [], ◌∷◌, ◌++◌, Option, Some, None, refl, ◌∙◌, ap, arith, ltb-false, le-ltb, ne_eqb}
use Rattle.std.specs.Prelude.{nat_lt, option_and_then}
use Rattle.word_ops.specs.declared.place.Pos.{Pos}
use Rattle.word_ops.specs.declared.operators.BinaryOp.TheVariants as op
use Rattle.cilk_model.specs.Lexemes.{Lexeme, pos_of}
use Rattle.cilk_model.specs.Signs.{mark, Infix, either, both, binary, looseness, infix_spelling}
use Rattle.cilk_model.specs.Tests.{is_mark, is_word, is_finish, starts, infix_of}
use Rattle.cilk_model.specs.OpenEnds.{ends_open}
use Rattle.cilk_model.specs.Grammar.{Row, Spells, no_further, joins, no_index, index, last_arg, next_arg, last_local, next_local, unchanged, assigned, added, up_behind, down_behind, last_global, next_global, written, prototype}
use Rattle.cilk_model.specs.GrammarForms.{Form, Val, star, expression, further, postfix, indexes, primary, args, more_args, perhaps, origin, spawn, value, initial, local, more_locals, simple, change, init, step, up, statement, block, body, params, param, more_params, function, more_globals, item, items, file}
use Rattle.cilk_parser.specs.Parsers.{seen}
use Rattle.cilk_parser.specs.Kinds.{an_infix}
use Rattle.cilk_parser.proofs.Operators.{infix_same}
use Rattle.cilk_parser.proofs.Apart.{led_by_mark, neither, neither_first, neither_second}

abbrev pub is_tighter : ℕ → Option Infix → Bool
is_tighter n None = false
is_tighter n (Some o) = nat_lt (looseness o) n

abbrev pub extends_operand : Lexeme → Bool
extends_operand t = is_mark "(" t || is_mark "[" t

-- The token could go on with an expression of operators that are less loose than this.
abbrev pub extends : ℕ → Lexeme → Bool
extends n t = extends_operand t || is_tighter n (infix_of t)

abbrev pub is_change : Lexeme → Bool
is_change t = is_mark "=" t || (is_mark "+=" t || (is_mark "++" t || is_mark "--" t))

abbrev pub extends_simple : Lexeme → Bool
extends_simple t = extends 10 t || is_change t

abbrev pub extends_local : Lexeme → Bool
extends_local t = extends 10 t || is_mark "=" t

-- The row could go on with a part that has this value.
abbrev pub continues : (n : Form) → Val n → Row → Bool
continues star k q = starts (is_mark "*") q
continues (expression n) x q = starts (extends n) q
continues (further n y) x q = starts (extends (suc n)) q
continues postfix x q = starts extends_operand q
continues (indexes y) x q = starts extends_operand q
continues primary x q = starts (is_mark "(") q
continues args xs q = not (starts (is_mark ")") q)
continues more_args xs q = not (starts (is_mark ")") q)
continues perhaps x q = not (starts (is_mark ";") q)
continues origin x q = false
continues spawn s q = false
continues (value may) v q = starts (extends 10) q
continues initial v q = starts extends_local q
continues local s q = starts extends_local q
continues more_locals ss q = false
continues (simple may) s q = starts extends_simple q
continues (change may x) s q = starts extends_simple q
continues init i q = not (starts (is_mark ";") q)
continues step i q = not (starts (is_mark ")") q)
continues up i q = false
continues statement s q = ends_open s && starts (is_word "else") q
continues block s q = false
continues body ss q = not (starts (is_mark "}") q)
continues params ps q = not (starts (is_mark ")") q)
continues param p q = false
continues more_params ps q = not (starts (is_mark ")") q)
continues (function at k at_name f) fs q = false
continues (more_globals r) gs q = false
continues item fs q = false
continues items fs q = not (starts is_finish q)
continues file tree q = false

pub not_false : (b : Bool) → not b ≡ false → b ≡ true
not_false true e = refl
not_false false e = absurd cc

-- ---- Operators

tighter_false : (m n : ℕ) (o : Option Infix) → m ≤ n → is_tighter n o ≡ false → is_tighter m o ≡ false
tighter_false m n None h e = refl
tighter_false m n (Some o) h e = let d = ltb-false (looseness o) n e in le-ltb (looseness o) m (omega arith)

-- What does not go on with many operators does not go on with fewer.
pub fewer : (m n : ℕ) (q : Row) → m ≤ n → starts (extends n) q ≡ false → starts (extends m) q ≡ false
fewer m n [] h e = refl
fewer m n (t ∷ q) h e =
    neither extends_operand (λ t. is_tighter m (infix_of t)) (t ∷ q) (neither_first extends_operand (λ t. is_tighter n (infix_of t)) (t ∷ q) e)
    (tighter_false m n (infix_of t) h (neither_second extends_operand (λ t. is_tighter n (infix_of t)) (t ∷ q) e))

no_operator : (n : ℕ) (t : Lexeme) (o : Option Infix) → is_tighter (suc n) o ≡ false → option_and_then {U = Pos × Infix} (λ o. cond (looseness o == n) (Some (pos_of t, o)) None) o ≡ None
no_operator n t None e = refl
no_operator n t (Some o) e = let d = ltb-false (looseness o) (suc n) e in ap (λ b. cond b (Some (pos_of t, o)) None) (ne_eqb (looseness o) n (λ g. omega arith))

pub no_infix : (n : ℕ) (q : Row) → starts (extends (suc n)) q ≡ false → seen (an_infix n) q ≡ None
no_infix n [] e = refl
no_infix n (t ∷ q) e = no_operator n t (infix_of t) (neither_second extends_operand (λ t. is_tighter (suc n) (infix_of t)) (t ∷ q) e)

no_operand : (o : Infix) (at : _) → extends_operand (mark (infix_spelling o) at) ≡ false
no_operand either at = refl
no_operand both at = refl
no_operand (binary op.Or) at = refl
no_operand (binary op.Xor) at = refl
no_operand (binary op.And) at = refl
no_operand (binary op.Eq) at = refl
no_operand (binary op.Ne) at = refl
no_operand (binary op.Lt) at = refl
no_operand (binary op.Le) at = refl
no_operand (binary op.Gt) at = refl
no_operand (binary op.Ge) at = refl
no_operand (binary op.Shl) at = refl
no_operand (binary op.Shr) at = refl
no_operand (binary op.Add) at = refl
no_operand (binary op.Sub) at = refl
no_operand (binary op.Mul) at = refl
no_operand (binary op.Div) at = refl
no_operand (binary op.Rem) at = refl

-- An operator as loose as this goes on with no expression of tighter ones.
loose : (n : ℕ) (o : Infix) (at : _) (q : Row) → looseness o ≡ n → starts (extends n) (mark (infix_spelling o) at ∷ q) ≡ false
loose n o at q e =
    let t = mark (infix_spelling o) at in
    neither extends_operand (λ t. is_tighter n (infix_of t)) (t ∷ q) (no_operand o at) (ap (is_tighter n) (infix_same o at) ∙ le-ltb (looseness o) n (omega arith))

-- ---- What comes behind a part

pub further_ends : {n : ℕ} {x : Val (expression n)} {z : Val (further n x)} {b : Row} → Spells (further n x) z b → (q : Row) → starts (extends (suc n)) q ≡ false →
    starts (extends n) (b ++ q) ≡ false
further_ends {n} no_further q e = fewer n (suc n) q (omega arith) e
further_ends {n} (joins {at = at} {a = a} {b = b} o d h g) q e = loose n o at ((a ++ b) ++ q) d

pub indexes_end : {x : Val primary} {y : Val (indexes x)} {b : Row} → Spells (indexes x) y b → (q : Row) → starts extends_operand q ≡ false → starts (is_mark "(") (b ++ q) ≡ false
indexes_end no_index q e = neither_first (is_mark "(") (is_mark "[") q e
indexes_end (index close h g) q e = refl

pub more_args_end : {xs : Val more_args} {b : Row} → Spells more_args xs b → (q : Row) → starts (is_mark ")") q ≡ true → starts (extends 10) (b ++ q) ≡ false
more_args_end last_arg q e = led_by_mark ")" (extends 10) false q e (λ at. refl)
more_args_end (next_arg h g) q e = refl

pub more_locals_end : {ss : Val more_locals} {b : Row} → Spells more_locals ss b → (q : Row) → starts extends_local (b ++ q) ≡ false
more_locals_end last_local q = refl
more_locals_end (next_local h g) q = refl

pub change_ends : {may : Bool} {x : Val (simple may)} {y : _} {b : Row} → Spells (change may y) x b → (q : Row) → starts extends_simple q ≡ false → starts (extends 10) (b ++ q) ≡ false
change_ends unchanged q e = neither_first (extends 10) is_change q e
change_ends (assigned h) q e = refl
change_ends (added h) q e = refl
change_ends up_behind q e = refl
change_ends down_behind q e = refl

pub function_starts : {at : _} {k : _} {at_name : _} {f : _} {fs : _} {b : Row} → Spells (function at k at_name f) fs b → (q : Row) → starts (is_mark "(") (b ++ q) ≡ true
function_starts (written close h g) q = refl
function_starts (prototype close end h) q = refl

pub more_globals_start : {r : Bool} {gs : Val (more_globals r)} {b : Row} → Spells (more_globals r) gs b → (q : Row) → starts (is_mark "(") (b ++ q) ≡ false
more_globals_start last_global q = refl
more_globals_start (next_global at h g) q = refl
