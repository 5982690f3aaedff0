-- How deep the parts may go does not matter, where it is enough; so a form reads what its parts read.
use Rattle.std.proofs.Common.{◌≡◌, ℕ, zero, suc, ◌+◌, ◌-◌, ◌<◌, ◌≤◌, [], ◌∷◌, length, Ok, refl, ◌∙◌, ap, length-append, add-zero, arith}
use Rattle.cilk_model.specs.GrammarForms.{Form, Val, star, expression, further, postfix, indexes, primary, args, more_args, perhaps, origin, spawn, value, initial, local, more_locals, simple, change, init, step, up, statement, block, body, params, param, more_params, function, more_globals, item, items, file}
use Rattle.cilk_model.specs.Signs.{mark}
use Rattle.cilk_model.specs.Grammar.{Row, Spells, nested, nothing, effect, lone_spawn, if_alone, if_else, while_loop, for_loop, cilk_for_loop, broken, continued, returned, synced, braces, void_function, int_function, long_function, plain_globals, replicated_globals}
use Rattle.cilk_parser.specs.Reading.{Readers, body_of}
use Rattle.cilk_parser.specs.Read.{read_within, cost, read, rank}
use Rattle.cilk_parser.proofs.LocalRead.{local_read_within}
use Rattle.cilk_parser.proofs.Same.{Agree, Same}
use Rattle.cilk_parser.proofs.SameExpressions as expressions
use Rattle.cilk_parser.proofs.SameStatements as statements
use Rattle.cilk_parser.proofs.SameItems as tops

-- ---- Statements and items have tokens

pub block_long : {s : Val block} {a : Row} → Spells block s a → 0 < length a
block_long (braces close h) = omega arith

pub statement_long : {s : Val statement} {a : Row} → Spells statement s a → 0 < length a
statement_long (nested h) = block_long h
statement_long nothing = omega arith
statement_long (effect {a = a} end h) = omega (arith, length-append a (mark ";" end ∷ []))
statement_long (lone_spawn {a = a} end h) = omega (arith, length-append a (mark ";" end ∷ []))
statement_long (if_alone close h g) = omega arith
statement_long (if_else close at_else h g e k) = omega arith
statement_long (while_loop close h g) = omega arith
statement_long (for_loop end_init end_test close h g k m) = omega arith
statement_long (cilk_for_loop end_low at_second less end_high close h g k m) = omega arith
statement_long broken = omega arith
statement_long continued = omega arith
statement_long (returned end h) = omega arith
statement_long synced = omega arith

pub item_long : {x : Val item} {a : Row} → Spells item x a → 0 < length a
item_long (void_function h) = omega arith
item_long (int_function h) = omega arith
item_long (long_function at_name h g) = omega arith
item_long (plain_globals at h g) = omega arith
item_long (replicated_globals at h g) = omega arith

-- ---- What is left is no longer than what was there

shrinks : (depth : ℕ) (n : Form) (ts : Row) (x : Val n) (r : Row) → read_within depth n ts ≡ Ok (x, r) → length r ≤ length ts
shrinks depth n ts x r e =
    let d = (local_read_within depth n).reads ts x r e in omega (arith, ap length d.whole, length-append d.front r)

shrinks_statement : (depth : ℕ) (ts : Row) (x : Val statement) (r : Row) → read_within depth statement ts ≡ Ok (x, r) → length r < length ts
shrinks_statement depth ts x r e =
    let d = (local_read_within depth statement).reads ts x r e in omega (arith, ap length d.whole, length-append d.front r, statement_long d.spelled)

shrinks_item : (depth : ℕ) (ts : Row) (x : Val item) (r : Row) → read_within depth item ts ≡ Ok (x, r) → length r < length ts
shrinks_item depth ts x r e =
    let d = (local_read_within depth item).reads ts x r e in omega (arith, ap length d.whole, length-append d.front r, item_long d.spelled)

-- ---- Every form

module _ {P Q : Readers} {f : ℕ} (a : Agree P Q f) where
  same_body_of : (n : Form) (ts : Row) → cost n ts ≤ suc f → Same (body_of P n) (body_of Q n) ts
  same_body_of star ts h = expressions.same_star a ts
  same_body_of (expression zero) ts h = expressions.same_unary a ts h
  same_body_of (expression (suc n)) ts h = expressions.same_expression a n ts h
  same_body_of (further n x) ts h = expressions.same_further a n x ts h
  same_body_of postfix ts h = expressions.same_postfix a ts h
  same_body_of (indexes x) ts h = expressions.same_indexes a x ts h
  same_body_of primary ts h = expressions.same_primary a ts h
  same_body_of args ts h = expressions.same_args a ts h
  same_body_of more_args ts h = expressions.same_more_args a ts h
  same_body_of perhaps ts h = expressions.same_perhaps a ts h
  same_body_of origin ts h = expressions.same_origin a ts h
  same_body_of spawn ts h = statements.same_spawn a ts h
  same_body_of (value may) ts h = statements.same_value a may ts h
  same_body_of initial ts h = statements.same_initial a ts h
  same_body_of local ts h = statements.same_local a ts h
  same_body_of more_locals ts h = statements.same_more_locals a ts h
  same_body_of (simple may) ts h = statements.same_simple a may ts h
  same_body_of (change may x) ts h = statements.same_change a may x ts h
  same_body_of init ts h = statements.same_init_part a ts h
  same_body_of step ts h = statements.same_step a ts h
  same_body_of up ts h = statements.same_up a ts
  same_body_of statement ts h = statements.same_statement a ts h
  same_body_of block ts h = statements.same_block a ts h
  same_body_of body ts h = statements.same_body a ts h
  same_body_of params ts h = tops.same_params a ts h
  same_body_of param ts h = tops.same_param a ts h
  same_body_of more_params ts h = tops.same_more_params a ts h
  same_body_of (function at k at_name g) ts h = tops.same_function a at k at_name g ts h
  same_body_of (more_globals r) ts h = tops.same_more_globals a r ts h
  same_body_of item ts h = tops.same_item a ts h
  same_body_of items ts h = tops.same_items a ts h
  same_body_of file ts h = tops.same_file a ts h

rank_positive : (n : Form) → 0 < rank n
rank_positive star = omega arith
rank_positive (expression n) = omega arith
rank_positive (further n x) = omega arith
rank_positive postfix = omega arith
rank_positive (indexes x) = omega arith
rank_positive primary = omega arith
rank_positive args = omega arith
rank_positive more_args = omega arith
rank_positive perhaps = omega arith
rank_positive origin = omega arith
rank_positive spawn = omega arith
rank_positive (value may) = omega arith
rank_positive initial = omega arith
rank_positive local = omega arith
rank_positive more_locals = omega arith
rank_positive (simple may) = omega arith
rank_positive (change may x) = omega arith
rank_positive init = omega arith
rank_positive step = omega arith
rank_positive up = omega arith
rank_positive statement = omega arith
rank_positive block = omega arith
rank_positive body = omega arith
rank_positive params = omega arith
rank_positive param = omega arith
rank_positive more_params = omega arith
rank_positive (function at k at_name g) = omega arith
rank_positive (more_globals r) = omega arith
rank_positive item = omega arith
rank_positive items = omega arith
rank_positive file = omega arith

agree : (P Q : ℕ) (f : ℕ) → ((n : Form) (ts : Row) → cost n ts ≤ f → read_within P n ts ≡ read_within Q n ts) → Agree (read_within P) (read_within Q) f
agree P Q f h = record { shrinks = shrinks P; shrinks_statement = shrinks_statement P; shrinks_item = shrinks_item P; same = h }

deeper : (f : ℕ) (n : Form) (ts : Row) → cost n ts ≤ f → read_within (suc f) n ts ≡ read_within f n ts
unfolding read_within
deeper zero n ts h = absurd (omega (arith, rank_positive n))
deeper (suc f) n ts h = (same_body_of (agree (suc f) f f (deeper f)) n ts h).same

much_deeper : (k : ℕ) (n : Form) (ts : Row) → read_within (cost n ts + k) n ts ≡ read n ts
unfolding read
much_deeper zero n ts = simp add-zero refl
much_deeper (suc k) n ts =
    let e : cost n ts + suc k ≡ suc (cost n ts + k) = omega arith in
    ap (λ f. read_within f n ts) e ∙ deeper (cost n ts + k) n ts (omega arith) ∙ much_deeper k n ts

-- Every depth that is enough reads the same.
pub read_enough : (f : ℕ) (n : Form) (ts : Row) → cost n ts ≤ f → read_within f n ts ≡ read n ts
read_enough f n ts h = let e : f ≡ cost n ts + (f - cost n ts) = omega arith in ap (λ f. read_within f n ts) e ∙ much_deeper (f - cost n ts) n ts

to_read : (f : ℕ) → Agree (read_within f) read f
to_read f = record { shrinks = shrinks f; shrinks_statement = shrinks_statement f; shrinks_item = shrinks_item f; same = read_enough f }

-- What a form reads, by what its parts read.
pub read_body : (n : Form) (ts : Row) → read n ts ≡ body_of read n ts
unfolding read read_within
read_body n ts =
    let e : cost n ts ≡ suc (cost n ts - 1) = omega (arith, rank_positive n) in
    let f = cost n ts - 1 in
    ap (λ f. read_within f n ts) e ∙ (same_body_of (to_read f) n ts (omega arith)).same
