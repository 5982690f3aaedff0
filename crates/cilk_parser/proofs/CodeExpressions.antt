-- How expressions are read, step by step as the code takes tokens.
use Rattle.std.proofs.Common.{◌≡◌, ℕ, zero, suc, ◌-◌, ◌<◌, true, false, ℤ, List, [], ◌∷◌, Option, Some, None, Ok, Err, refl, sym, ◌∙◌, ap, arith}
use Rattle.std.specs.Prelude.{is_some, option_and_then}
use Rattle.word_ops.specs.declared.place.Pos.{Pos}
use Rattle.cilk_ast.specs.declared.kind.Kind.TheVariants.{Long, Ptr}
use Rattle.cilk_ast.specs.declared.builtin.Builtin.{Builtin}
use Rattle.cilk_ast.specs.declared.builtin.Builtin.TheVariants.{MwReplicatedInit}
use Rattle.cilk_ast.specs.declared.tree.TExpr as tree
use Rattle.cilk_ast.specs.declared.tree.TExpr.{TExpr}
use Rattle.cilk_model.specs.Lexemes as lexeme
use Rattle.cilk_model.specs.Lexemes.{Lexeme}
use Rattle.cilk_model.specs.Grammar.{Row}
use Rattle.cilk_model.specs.Signs.{Prefix, prefixed as applied, Infix, joined}
use Rattle.cilk_model.specs.Tests.{is_mark, is_name, starts}
use Rattle.cilk_model.specs.GrammarForms.{star, expression, further, postfix, indexes, primary, args, more_args, unary, expr}
use Rattle.cilk_parser.specs.Parsers.{Answer, Parser, goes_on, ◌>>=◌, gives, ◌▹◌, seen, behind, choose, take}
use Rattle.cilk_parser.specs.Kinds.{a_mark, a_word, a_name, a_literal, a_text, a_prefix, an_infix, a_builtin}
use Rattle.cilk_parser.specs.Reading.{body_of, closed, read_bracketed, read_named, read_init}
use Rattle.cilk_parser.specs.Read.{read}
use Rattle.cilk_parser.specs.Gives.{prefixed, left_behind}
use Rattle.cilk_parser.specs.Parts.{read_cast, read_name, read_builtin, read_print, read_replicated_init, read_init_at}
use Rattle.cilk_parser.specs.Spelled.{number_node}
use Rattle.cilk_parser.proofs.Fuel.{read_body}
use Rattle.cilk_parser.proofs.Steps.{Found, chose, passed, skipped, not_skipped, choose_next, choose_not_next, when_next, when_not, one_before}

pub star_there : (at : Pos) (ts left : Row) → seen (a_mark "*") ts ≡ Some at → left ≡ behind ts → read star ts ≡ Ok (Ptr, left)
unfolding body_of
star_there at ts left e d = read_body star ts ∙ chose (a_mark "*") (λ _. gives Ptr) (gives Long) at ts left e d

pub star_not : (ts left : Row) → seen (a_mark "*") ts ≡ None → left ≡ ts → read star ts ≡ Ok (Long, left)
unfolding body_of
star_not ts left e d = read_body star ts ∙ passed (a_mark "*") (λ _. gives Ptr) (gives Long) ts left e d

-- ---- Operators

abbrev pub operand : Parser TExpr
operand = choose (a_mark "(") (read_bracketed read) (read postfix)

abbrev pub prefix_operand : Pos × Prefix → Parser TExpr
prefix_operand o = read unary ▹ λ x. applied (o.1) (o.0) x

pub prefix_there : (o : Pos × Prefix) (ts left : Row) → seen a_prefix ts ≡ Some o → left ≡ behind ts → read (expression 0) ts ≡ goes_on (λ x z. Ok (applied (o.1) (o.0) x, z)) (read (expression 0) left)
unfolding body_of
prefix_there o ts left e d = read_body (expression 0) ts ∙ chose a_prefix prefix_operand operand o ts left e d

pub prefix_not : (ts left : Row) → seen a_prefix ts ≡ None → left ≡ ts → read (expression 0) ts ≡ operand left
unfolding body_of
prefix_not ts left e d = read_body (expression 0) ts ∙ passed a_prefix prefix_operand operand ts left e d

pub open_there : (at : Pos) (ts left : Row) → seen (a_mark "(") ts ≡ Some at → left ≡ behind ts → operand ts ≡ read_bracketed read at left
open_there at ts left e d = chose (a_mark "(") (read_bracketed read) (read postfix) at ts left e d

pub open_not : (ts left : Row) → seen (a_mark "(") ts ≡ None → left ≡ ts → operand ts ≡ read postfix left
open_not ts left e d = passed (a_mark "(") (read_bracketed read) (read postfix) ts left e d

abbrev pub in_brackets : Pos → Parser TExpr
in_brackets at = read expr >>= λ x. take (a_mark ")") >>= λ _. read (indexes (tree.Paren at x))

pub long_there : (at : Pos) (o : Option Pos) (ts left : Row) → Found (a_word "long") ts o → left ≡ left_behind o ts → is_some o ≡ true → read_bracketed read at ts ≡ read_cast at left
long_there at o ts left e d t = skipped (a_word "long") (λ _. read_cast at) (in_brackets at) (read_cast at) o ts left e d t (λ k. refl)

pub long_not : (at : Pos) (o : Option Pos) (ts left : Row) → Found (a_word "long") ts o → left ≡ left_behind o ts → is_some o ≡ false →
    read_bracketed read at ts ≡ goes_on (λ x. take (a_mark ")") >>= λ _. read (indexes (tree.Paren at x))) (read expr left)
long_not at o ts left e d t = not_skipped (a_word "long") (λ _. read_cast at) (in_brackets at) o ts left e d t

pub cast_step : (at : Pos) (ts : Row) → read_cast at ts ≡ goes_on (λ k. take (a_mark ")") >>= λ _. read unary ▹ λ x. tree.Cast at k x) (read star ts)
cast_step at ts = refl

pub first_step : (n : ℕ) (ts : Row) → 0 < n → read (expression n) ts ≡ goes_on (λ x. read (further (n - 1) x)) (read (expression (n - 1)) ts)
unfolding body_of
first_step zero ts h = absurd (omega arith)
first_step (suc n) ts h = let e : suc n - 1 ≡ n = omega arith in rw e (read_body (expression (suc n)) ts)

abbrev pub joining : ℕ → TExpr → Pos × Infix → Parser TExpr
joining n x o = read (expression n) >>= λ y. read (further n (joined (o.1) (o.0) x y))

pub infix_there : (n : ℕ) (x : TExpr) (o : Pos × Infix) (ts left : Row) → seen (an_infix n) ts ≡ Some o → left ≡ behind ts →
    read (further n x) ts ≡ goes_on (λ y. read (further n (joined (o.1) (o.0) x y))) (read (expression n) left)
unfolding body_of
infix_there n x o ts left e d = read_body (further n x) ts ∙ chose (an_infix n) (joining n x) (gives x) o ts left e d

pub infix_not : (n : ℕ) (x : TExpr) (ts left : Row) → seen (an_infix n) ts ≡ None → left ≡ ts → read (further n x) ts ≡ Ok (x, left)
unfolding body_of
infix_not n x ts left e d = read_body (further n x) ts ∙ passed (an_infix n) (joining n x) (gives x) ts left e d

-- ---- Operands

pub postfix_step : (ts : Row) → read postfix ts ≡ goes_on (λ x. read (indexes x)) (read primary ts)
unfolding body_of
postfix_step ts = read_body postfix ts

abbrev pub indexing : TExpr → Pos → Parser TExpr
indexing x at = read expr >>= λ i. take (a_mark "]") >>= λ _. read (indexes (tree.Index at x i))

pub index_there : (x : TExpr) (at : Pos) (ts left : Row) → seen (a_mark "[") ts ≡ Some at → left ≡ behind ts →
    read (indexes x) ts ≡ goes_on (λ i. take (a_mark "]") >>= λ _. read (indexes (tree.Index at x i))) (read expr left)
unfolding body_of
index_there x at ts left e d = read_body (indexes x) ts ∙ chose (a_mark "[") (indexing x) (gives x) at ts left e d

pub index_not : (x : TExpr) (ts left : Row) → seen (a_mark "[") ts ≡ None → left ≡ ts → read (indexes x) ts ≡ Ok (x, left)
unfolding body_of
index_not x ts left e d = read_body (indexes x) ts ∙ passed (a_mark "[") (indexing x) (gives x) ts left e d

-- Primary expressions that begin with no literal, then with no name, and so on.
abbrev pub primary_5 : Parser TExpr
primary_5 = take (a_mark "(") >>= λ at. read expr >>= λ x. closed ")" (tree.Paren at x)

abbrev pub primary_4 : Parser TExpr
primary_4 = choose (a_word "mw_replicated_init") read_replicated_init primary_5

abbrev pub primary_3 : Parser TExpr
primary_3 = choose (a_word "printf") read_print primary_4

abbrev pub primary_2 : Parser TExpr
primary_2 = choose a_builtin (λ b. read_builtin (b.0) (b.1)) primary_3

abbrev pub primary_1 : Parser TExpr
primary_1 = choose a_name (read_named read) primary_2

abbrev pub number : Pos × ℤ → Parser TExpr
number l = gives (tree.Number (l.0) (l.1))

pub literal_there : (x : TExpr) (ts left : Row) → option_and_then number_node (seen a_literal ts) ≡ Some x → left ≡ behind ts → read primary ts ≡ Ok (x, left)
unfolding body_of
literal_there x ts left e d = by_kind (seen a_literal ts) refl e where
  by_kind : (o : Option (Pos × ℤ)) → seen a_literal ts ≡ o → option_and_then number_node o ≡ Some x → read primary ts ≡ Ok (x, left)
  by_kind (Some l) g h = let same : tree.Number (l.0) (l.1) ≡ x = cc in read_body primary ts ∙ chose a_literal number primary_1 l ts left g d ∙ ap (λ z. Ok (z, left)) same
  by_kind None g h = absurd cc

pub literal_not : (ts left : Row) → seen a_literal ts ≡ None → left ≡ ts → read primary ts ≡ primary_1 left
unfolding body_of
literal_not ts left e d = read_body primary ts ∙ passed a_literal number primary_1 ts left e d

-- a name is next
pub named : (ts : Row) → starts is_name ts ≡ is_some (seen a_name ts)
named [] = refl
named (t ∷ ts) = of_token t where
  of_token : (t : Lexeme) → is_name t ≡ is_some (a_name t)
  of_token (lexeme.name at x) = refl
  of_token (lexeme.word at x) = refl
  of_token (lexeme.literal at x) = refl
  of_token (lexeme.text at x) = refl
  of_token (lexeme.mark at x) = refl
  of_token (lexeme.finish at) = refl

pub name_there : (ts : Row) → starts is_name ts ≡ true → primary_1 ts ≡ read_name ts
name_there ts e = choose_next a_name (read_named read) primary_2 ts (sym (named ts) ∙ e)

pub name_not : (ts : Row) → starts is_name ts ≡ false → primary_1 ts ≡ primary_2 ts
name_not ts e = choose_not_next a_name (read_named read) primary_2 ts (sym (named ts) ∙ e)

pub builtin_there : (b : Pos × Builtin) (ts left : Row) → seen a_builtin ts ≡ Some b → left ≡ behind ts → primary_2 ts ≡ read_builtin (b.0) (b.1) left
builtin_there b ts left e d = chose a_builtin (λ b. read_builtin (b.0) (b.1)) primary_3 b ts left e d

pub builtin_not : (ts left : Row) → seen a_builtin ts ≡ None → left ≡ ts → primary_2 ts ≡ primary_3 left
builtin_not ts left e d = passed a_builtin (λ b. read_builtin (b.0) (b.1)) primary_3 ts left e d

pub printf_there : (at : Pos) (ts left : Row) → seen (a_word "printf") ts ≡ Some at → left ≡ behind ts → primary_3 ts ≡ read_print at left
printf_there at ts left e d = chose (a_word "printf") read_print primary_4 at ts left e d

pub printf_not : (ts left : Row) → seen (a_word "printf") ts ≡ None → left ≡ ts → primary_3 ts ≡ primary_4 left
printf_not ts left e d = passed (a_word "printf") read_print primary_4 ts left e d

pub init_there : (at : Pos) (ts left : Row) → seen (a_word "mw_replicated_init") ts ≡ Some at → left ≡ behind ts → primary_4 ts ≡ read_replicated_init at left
init_there at ts left e d = chose (a_word "mw_replicated_init") read_replicated_init primary_5 at ts left e d

pub init_not : (ts left : Row) → seen (a_word "mw_replicated_init") ts ≡ None → left ≡ ts →
    primary_4 ts ≡ goes_on (λ at. read expr >>= λ x. closed ")" (tree.Paren at x)) (take (a_mark "(") left)
init_not ts left e d = passed (a_word "mw_replicated_init") read_replicated_init primary_5 ts left e d

-- ---- Calls

pub name_step : (ts : Row) → read_name ts ≡ goes_on (read_named read) (take a_name ts)
name_step ts = refl

abbrev pub calling : Pos × List ℕ → Parser TExpr
calling f = read args >>= λ xs. closed ")" (tree.Call (f.0) (f.1) xs)

pub call_there : (f : Pos × List ℕ) (o : Option Pos) (ts left : Row) → Found (a_mark "(") ts o → left ≡ left_behind o ts → is_some o ≡ true →
    read_named read f ts ≡ goes_on (λ xs. closed ")" (tree.Call (f.0) (f.1) xs)) (read args left)
call_there f o ts left e d t = skipped (a_mark "(") (λ _. calling f) (gives (tree.Var (f.0) (f.1))) (calling f) o ts left e d t (λ k. refl)

pub call_not : (f : Pos × List ℕ) (o : Option Pos) (ts left : Row) → Found (a_mark "(") ts o → left ≡ left_behind o ts → is_some o ≡ false →
    read_named read f ts ≡ Ok (tree.Var (f.0) (f.1), left)
call_not f o ts left e d t = not_skipped (a_mark "(") (λ _. calling f) (gives (tree.Var (f.0) (f.1))) o ts left e d t

pub builtin_step : (at : Pos) (b : Builtin) (ts : Row) → read_builtin at b ts ≡ goes_on (λ _. read args >>= λ xs. closed ")" (tree.Builtin at b xs)) (take (a_mark "(") ts)
builtin_step at b ts = refl

pub print_step : (at : Pos) (ts : Row) → read_print at ts ≡ goes_on (λ _. take a_text >>= λ t. read more_args >>= λ xs. closed ")" (tree.Print at (t.0) (t.1) xs)) (take (a_mark "(") ts)
print_step at ts = refl

pub replicated_step : (at : Pos) (ts : Row) → read_replicated_init at ts ≡ goes_on (λ _. read_init read at) (take (a_mark "(") ts)
replicated_step at ts = refl

abbrev pub init_by_address : Pos → Parser TExpr
init_by_address at = read expr >>= λ x. take (a_mark ",") >>= λ _. read expr >>= λ v. closed ")" (tree.Builtin at MwReplicatedInit (x ∷ v ∷ []))

pub named_init_there : (at : Pos) (o : Option Pos) (ts left : Row) → Found (a_mark "&") ts o → left ≡ left_behind o ts → is_some o ≡ true → read_init read at ts ≡ read_init_at at left
named_init_there at o ts left e d t = skipped (a_mark "&") (λ _. read_init_at at) (init_by_address at) (read_init_at at) o ts left e d t (λ k. refl)

pub named_init_not : (at : Pos) (o : Option Pos) (ts left : Row) → Found (a_mark "&") ts o → left ≡ left_behind o ts → is_some o ≡ false →
    read_init read at ts ≡ goes_on (λ x. take (a_mark ",") >>= λ _. read expr >>= λ v. closed ")" (tree.Builtin at MwReplicatedInit (x ∷ v ∷ []))) (read expr left)
named_init_not at o ts left e d t = not_skipped (a_mark "&") (λ _. read_init_at at) (init_by_address at) o ts left e d t

pub init_at_step : (at : Pos) (ts : Row) → read_init_at at ts ≡ goes_on (λ g. take (a_mark ",") >>= λ _. read expr >>= λ v. closed ")" (tree.InitAt at (g.0) (g.1) v)) (take a_name ts)
init_at_step at ts = refl

-- ---- Lists of arguments

fronts : (a : Answer TExpr) → goes_on (λ x. read more_args ▹ λ xs. x ∷ xs) a ≡ goes_on (λ x z. prefixed (x ∷ []) (read more_args z)) a
fronts (Ok a) = one_before (a.0) (read more_args (a.1))
fronts (Err r) = refl

abbrev pub some_args : Parser (List TExpr)
some_args = read expr >>= λ x. read more_args ▹ λ xs. x ∷ xs

pub args_none : (ts : Row) → starts (is_mark ")") ts ≡ true → read args ts ≡ Ok ([], ts)
unfolding body_of
args_none ts e = read_body args ts ∙ when_next (is_mark ")") (gives []) some_args ts e

pub args_some : (ts : Row) → starts (is_mark ")") ts ≡ false → read args ts ≡ goes_on (λ x z. prefixed (x ∷ []) (read more_args z)) (read expr ts)
unfolding body_of
args_some ts e = read_body args ts ∙ when_not (is_mark ")") (gives []) some_args ts e ∙ fronts (read expr ts)

pub arg_there : (o : Option Pos) (ts left : Row) → Found (a_mark ",") ts o → left ≡ left_behind o ts → is_some o ≡ true →
    read more_args ts ≡ goes_on (λ x z. prefixed (x ∷ []) (read more_args z)) (read expr left)
unfolding body_of
arg_there o ts left e d t = read_body more_args ts ∙ skipped (a_mark ",") (λ _. some_args) (gives []) some_args o ts left e d t (λ k. refl) ∙ fronts (read expr left)

pub arg_not : (o : Option Pos) (ts left : Row) → Found (a_mark ",") ts o → left ≡ left_behind o ts → is_some o ≡ false → read more_args ts ≡ Ok ([], left)
unfolding body_of
arg_not o ts left e d t = read_body more_args ts ∙ not_skipped (a_mark ",") (λ _. some_args) (gives []) o ts left e d t
