-- How statements and their parts are read, step by step as the code takes tokens.
use Rattle.std.proofs.Common.{◌≡◌, ℕ, Bool, true, false, cond, ◌&&◌, List, [], ◌∷◌, ◌++◌, Option, Some, None, MatchOption, Ok, Err, refl, sym, ◌∙◌, ap}
use Rattle.std.specs.Prelude.{is_some}
use Rattle.word_ops.specs.declared.place.Pos.{Pos}
use Rattle.cilk_ast.specs.declared.tree.TExpr.{TExpr}
use Rattle.cilk_ast.specs.declared.tree.TStmt as stmt
use Rattle.cilk_ast.specs.declared.tree.TStmt.{TStmt}
use Rattle.cilk_ast.specs.declared.tree.TSpawn.{TSpawn}
use Rattle.cilk_ast.specs.declared.tree.TValue.TheVariants.{Plain, Spawned}
use Rattle.cilk_model.specs.Lexemes.{pos_of}
use Rattle.cilk_model.specs.OpenEnds.{ends_open}
use Rattle.cilk_model.specs.Grammar.{Row}
use Rattle.cilk_model.specs.Tests.{is_mark, is_word, is_name, starts}
use Rattle.cilk_model.specs.GrammarForms.{Val, star, args, perhaps, origin, spawn, value, initial, local, more_locals, simple, change, init, step, up, statement, block, body, unary, expr}
use Rattle.cilk_parser.specs.Parsers.{Answer, Parser, goes_on, ◌>>=◌, gives, ◌▹◌, seen, behind, choose, take}
use Rattle.cilk_parser.specs.Kinds.{a_mark, a_word, a_name, is_spawn}
use Rattle.cilk_parser.specs.Reading.{body_of, closed, read_leave, read_if, read_else, read_while, read_for, read_cilk_for, read_no_block}
use Rattle.cilk_parser.specs.Read.{read}
use Rattle.cilk_parser.specs.Gives.{prefixed, left_behind}
use Rattle.cilk_parser.specs.Parts.{read_init_local, read_low, read_tested, read_high, read_stepped}
use Rattle.cilk_parser.proofs.Fuel.{read_body}
use Rattle.cilk_parser.proofs.CodeExpressions.{named}
use Rattle.cilk_parser.proofs.Steps.{Found, chose, passed, skipped, not_skipped, choose_next, choose_not_next, when_next, when_not, one_before}

-- ---- Parts of statements

pub perhaps_none : (ts : Row) → starts (is_mark ";") ts ≡ true → read perhaps ts ≡ Ok (None, ts)
unfolding body_of
perhaps_none ts e = read_body perhaps ts ∙ when_next (is_mark ";") (gives None) (read expr ▹ λ x. Some x) ts e

pub perhaps_some : (ts : Row) → starts (is_mark ";") ts ≡ false → read perhaps ts ≡ goes_on (λ x z. Ok (Some x, z)) (read expr ts)
unfolding body_of
perhaps_some ts e = read_body perhaps ts ∙ when_not (is_mark ";") (gives None) (read expr ▹ λ x. Some x) ts e

abbrev pub placed : Parser (Val origin)
placed = take (a_word "cilk_spawn_at") >>= λ at. take (a_mark "(") >>= λ _. read expr >>= λ x. closed ")" (at, Some x)

pub origin_here : (at : Pos) (ts left : Row) → seen (a_word "cilk_spawn") ts ≡ Some at → left ≡ behind ts → read origin ts ≡ Ok ((at, None), left)
unfolding body_of
origin_here at ts left e d = read_body origin ts ∙ chose (a_word "cilk_spawn") (λ at. gives (at, None)) placed at ts left e d

pub origin_placed : (ts left : Row) → seen (a_word "cilk_spawn") ts ≡ None → left ≡ ts →
    read origin ts ≡ goes_on (λ at. take (a_mark "(") >>= λ _. read expr >>= λ x. closed ")" (at, Some x)) (take (a_word "cilk_spawn_at") left)
unfolding body_of
origin_placed ts left e d = read_body origin ts ∙ passed (a_word "cilk_spawn") (λ at. gives (at, None)) placed ts left e d

pub spawn_step : (ts : Row) → read spawn ts ≡ goes_on (λ from. take a_name >>= λ f. take (a_mark "(") >>= λ _. read args >>= λ xs.
    closed ")" (let x : TSpawn = record { pos = from.0; hint = from.1; name_pos = f.0; name = f.1; args = xs } in x)) (read origin ts)
unfolding body_of
spawn_step ts = read_body spawn ts

pub value_spawned : (may : Bool) (ts : Row) → (may && starts is_spawn ts) ≡ true → read (value may) ts ≡ goes_on (λ s z. Ok (Spawned s, z)) (read spawn ts)
unfolding body_of
value_spawned true ts e = read_body (value true) ts ∙ when_next is_spawn (read spawn ▹ λ s. Spawned s) (read expr ▹ λ x. Plain x) ts e
value_spawned false ts e = absurd cc

pub value_plain : (may : Bool) (ts : Row) → (may && starts is_spawn ts) ≡ false → read (value may) ts ≡ goes_on (λ x z. Ok (Plain x, z)) (read expr ts)
unfolding body_of
value_plain true ts e = read_body (value true) ts ∙ when_not is_spawn (read spawn ▹ λ s. Spawned s) (read expr ▹ λ x. Plain x) ts e
value_plain false ts e = read_body (value false) ts

abbrev pub some_value : Parser (Val initial)
some_value = read (value true) ▹ λ v. Some v

pub initial_there : (o : Option Pos) (ts left : Row) → Found (a_mark "=") ts o → left ≡ left_behind o ts → is_some o ≡ true → read initial ts ≡ goes_on (λ v z. Ok (Some v, z)) (read (value true) left)
unfolding body_of
initial_there o ts left e d t = read_body initial ts ∙ skipped (a_mark "=") (λ _. some_value) (gives None) some_value o ts left e d t (λ k. refl)

pub initial_not : (o : Option Pos) (ts left : Row) → Found (a_mark "=") ts o → left ≡ left_behind o ts → is_some o ≡ false → read initial ts ≡ Ok (None, left)
unfolding body_of
initial_not o ts left e d t = read_body initial ts ∙ not_skipped (a_mark "=") (λ _. some_value) (gives None) o ts left e d t

pub local_step : (ts : Row) → read local ts ≡ goes_on (λ k. take a_name >>= λ x. read initial ▹ λ v. stmt.Local (x.0) k (x.1) v) (read star ts)
unfolding body_of
local_step ts = read_body local ts

fronts : (a : Answer TStmt) → goes_on (λ s. read more_locals ▹ λ ss. s ∷ ss) a ≡ goes_on (λ s z. prefixed (s ∷ []) (read more_locals z)) a
fronts (Ok a) = one_before (a.0) (read more_locals (a.1))
fronts (Err r) = refl

abbrev pub some_locals : Parser (List TStmt)
some_locals = read local >>= λ s. read more_locals ▹ λ ss. s ∷ ss

pub local_there : (o : Option Pos) (ts left : Row) → Found (a_mark ",") ts o → left ≡ left_behind o ts → is_some o ≡ true →
    read more_locals ts ≡ goes_on (λ s z. prefixed (s ∷ []) (read more_locals z)) (read local left)
unfolding body_of
local_there o ts left e d t = read_body more_locals ts ∙ skipped (a_mark ",") (λ _. some_locals) (closed ";" []) some_locals o ts left e d t (λ k. refl) ∙ fronts (read local left)

pub local_not : (o : Option Pos) (ts left : Row) → Found (a_mark ",") ts o → left ≡ left_behind o ts → is_some o ≡ false →
    read more_locals ts ≡ goes_on (λ _ z. Ok ([], z)) (take (a_mark ";") left)
unfolding body_of
local_not o ts left e d t = read_body more_locals ts ∙ not_skipped (a_mark ",") (λ _. some_locals) (closed ";" []) o ts left e d t

-- ---- Simple statements

abbrev pub simple_2 : Bool → Parser TStmt
simple_2 may = read expr >>= λ x. read (change may x)

abbrev pub downwards : Parser TStmt
downwards = read unary ▹ λ x. stmt.Down x

abbrev pub upwards : Parser TStmt
upwards = read unary ▹ λ x. stmt.Up x

abbrev pub simple_1 : Bool → Parser TStmt
simple_1 may = choose (a_mark "--") (λ _. downwards) (simple_2 may)

pub up_there : (may : Bool) (o : Option Pos) (ts left : Row) → Found (a_mark "++") ts o → left ≡ left_behind o ts → is_some o ≡ true → read (simple may) ts ≡ goes_on (λ x z. Ok (stmt.Up x, z)) (read unary left)
unfolding body_of
up_there may o ts left e d t = read_body (simple may) ts ∙ skipped (a_mark "++") (λ _. upwards) (simple_1 may) upwards o ts left e d t (λ k. refl)

pub up_not : (may : Bool) (o : Option Pos) (ts left : Row) → Found (a_mark "++") ts o → left ≡ left_behind o ts → is_some o ≡ false → read (simple may) ts ≡ simple_1 may left
unfolding body_of
up_not may o ts left e d t = read_body (simple may) ts ∙ not_skipped (a_mark "++") (λ _. upwards) (simple_1 may) o ts left e d t

pub down_there : (may : Bool) (o : Option Pos) (ts left : Row) → Found (a_mark "--") ts o → left ≡ left_behind o ts → is_some o ≡ true → simple_1 may ts ≡ goes_on (λ x z. Ok (stmt.Down x, z)) (read unary left)
down_there may o ts left e d t = skipped (a_mark "--") (λ _. downwards) (simple_2 may) downwards o ts left e d t (λ k. refl)

pub down_not : (may : Bool) (o : Option Pos) (ts left : Row) → Found (a_mark "--") ts o → left ≡ left_behind o ts → is_some o ≡ false →
    simple_1 may ts ≡ goes_on (λ x. read (change may x)) (read expr left)
down_not may o ts left e d t = not_skipped (a_mark "--") (λ _. downwards) (simple_2 may) o ts left e d t

abbrev pub change_3 : TExpr → Parser TStmt
change_3 x = choose (a_mark "--") (λ _. gives (stmt.Down x)) (gives (stmt.Eval x))

abbrev pub change_2 : TExpr → Parser TStmt
change_2 x = choose (a_mark "++") (λ _. gives (stmt.Up x)) (change_3 x)

abbrev pub adding : TExpr → Pos → Parser TStmt
adding x at = read expr ▹ λ y. stmt.AddTo at x y

abbrev pub change_1 : TExpr → Parser TStmt
change_1 x = choose (a_mark "+=") (adding x) (change_2 x)

abbrev pub assigning : Bool → TExpr → Pos → Parser TStmt
assigning may x at = read (value may) ▹ λ v. stmt.Assign at x v

pub assign_there : (may : Bool) (x : TExpr) (at : Pos) (ts left : Row) → seen (a_mark "=") ts ≡ Some at → left ≡ behind ts → read (change may x) ts ≡ goes_on (λ v z. Ok (stmt.Assign at x v, z)) (read (value may) left)
unfolding body_of
assign_there may x at ts left e d = read_body (change may x) ts ∙ chose (a_mark "=") (assigning may x) (change_1 x) at ts left e d

pub assign_not : (may : Bool) (x : TExpr) (ts left : Row) → seen (a_mark "=") ts ≡ None → left ≡ ts → read (change may x) ts ≡ change_1 x left
unfolding body_of
assign_not may x ts left e d = read_body (change may x) ts ∙ passed (a_mark "=") (assigning may x) (change_1 x) ts left e d

pub add_there : (x : TExpr) (at : Pos) (ts left : Row) → seen (a_mark "+=") ts ≡ Some at → left ≡ behind ts → change_1 x ts ≡ goes_on (λ y z. Ok (stmt.AddTo at x y, z)) (read expr left)
add_there x at ts left e d = chose (a_mark "+=") (adding x) (change_2 x) at ts left e d

pub add_not : (x : TExpr) (ts left : Row) → seen (a_mark "+=") ts ≡ None → left ≡ ts → change_1 x ts ≡ change_2 x left
add_not x ts left e d = passed (a_mark "+=") (adding x) (change_2 x) ts left e d

pub up_behind : (x : TExpr) (o : Option Pos) (ts left : Row) → Found (a_mark "++") ts o → left ≡ left_behind o ts → is_some o ≡ true → change_2 x ts ≡ Ok (stmt.Up x, left)
up_behind x o ts left e d t = skipped (a_mark "++") (λ _. gives (stmt.Up x)) (change_3 x) (gives (stmt.Up x)) o ts left e d t (λ k. refl)

pub up_not_behind : (x : TExpr) (o : Option Pos) (ts left : Row) → Found (a_mark "++") ts o → left ≡ left_behind o ts → is_some o ≡ false → change_2 x ts ≡ change_3 x left
up_not_behind x o ts left e d t = not_skipped (a_mark "++") (λ _. gives (stmt.Up x)) (change_3 x) o ts left e d t

pub down_behind : (x : TExpr) (o : Option Pos) (ts left : Row) → Found (a_mark "--") ts o → left ≡ left_behind o ts → is_some o ≡ true → change_3 x ts ≡ Ok (stmt.Down x, left)
down_behind x o ts left e d t = skipped (a_mark "--") (λ _. gives (stmt.Down x)) (gives (stmt.Eval x)) (gives (stmt.Down x)) o ts left e d t (λ k. refl)

pub nothing_behind : (x : TExpr) (o : Option Pos) (ts left : Row) → Found (a_mark "--") ts o → left ≡ left_behind o ts → is_some o ≡ false → change_3 x ts ≡ Ok (stmt.Eval x, left)
nothing_behind x o ts left e d t = not_skipped (a_mark "--") (λ _. gives (stmt.Down x)) (gives (stmt.Eval x)) o ts left e d t

-- ---- The heads of loops

abbrev pub init_simply : Parser (Val init)
init_simply = read (simple false) ▹ λ s. Some s

abbrev pub init_locally : Parser (Val init)
init_locally = read star >>= λ k. take a_name >>= λ i. take (a_mark "=") >>= λ _. read expr ▹ λ x. Some (stmt.Local (i.0) k (i.1) (Some (Plain x)))

abbrev pub some_init : Parser (Val init)
some_init = choose (a_word "long") (λ _. init_locally) init_simply

pub init_none : (ts : Row) → starts (is_mark ";") ts ≡ true → read init ts ≡ Ok (None, ts)
unfolding body_of
init_none ts e = read_body init ts ∙ when_next (is_mark ";") (gives None) some_init ts e

pub init_some : (ts : Row) → starts (is_mark ";") ts ≡ false → read init ts ≡ some_init ts
unfolding body_of
init_some ts e = read_body init ts ∙ when_not (is_mark ";") (gives None) some_init ts e

some_of : (a : Answer TExpr) (f : TExpr → TStmt) → goes_on (λ x z. Ok (Some (f x), z)) a ≡ goes_on (λ s z. Ok (Some s, z)) (goes_on (λ x z. Ok (f x, z)) a)
some_of (Ok a) f = refl
some_of (Err r) f = refl

-- The local of a `for`, and then that there is one.
local_some : (ts : Row) → init_locally ts ≡ goes_on (λ s z. Ok (Some s, z)) (read_init_local ts)
local_some ts = of_star (read star ts) where
  of_equal : (k : _) (i : Pos × List ℕ) (a : Answer Pos) →
      goes_on (λ _. read expr ▹ λ x. Some (stmt.Local (i.0) k (i.1) (Some (Plain x)))) a
      ≡ goes_on (λ s z. Ok (Some s, z)) (goes_on (λ _. read expr ▹ λ x. stmt.Local (i.0) k (i.1) (Some (Plain x))) a)
  of_equal k i (Ok a) = some_of (read expr (a.1)) (λ x. stmt.Local (i.0) k (i.1) (Some (Plain x)))
  of_equal k i (Err r) = refl

  of_name : (k : _) (a : Answer (Pos × List ℕ)) →
      goes_on (λ i. take (a_mark "=") >>= λ _. read expr ▹ λ x. Some (stmt.Local (i.0) k (i.1) (Some (Plain x)))) a
      ≡ goes_on (λ s z. Ok (Some s, z)) (goes_on (λ i. take (a_mark "=") >>= λ _. read expr ▹ λ x. stmt.Local (i.0) k (i.1) (Some (Plain x))) a)
  of_name k (Ok a) = of_equal k (a.0) (take (a_mark "=") (a.1))
  of_name k (Err r) = refl

  of_star : (a : Answer (Val star)) →
      goes_on (λ k. take a_name >>= λ i. take (a_mark "=") >>= λ _. read expr ▹ λ x. Some (stmt.Local (i.0) k (i.1) (Some (Plain x)))) a
      ≡ goes_on (λ s z. Ok (Some s, z)) (goes_on (λ k. take a_name >>= λ i. take (a_mark "=") >>= λ _. read expr ▹ λ x. stmt.Local (i.0) k (i.1) (Some (Plain x))) a)
  of_star (Ok a) = of_name (a.0) (take a_name (a.1))
  of_star (Err r) = refl

pub init_local_there : (o : Option Pos) (ts left : Row) → Found (a_word "long") ts o → left ≡ left_behind o ts → is_some o ≡ true →
    some_init ts ≡ goes_on (λ s z. Ok (Some s, z)) (read_init_local left)
init_local_there o ts left e d t = skipped (a_word "long") (λ _. init_locally) init_simply init_locally o ts left e d t (λ k. refl) ∙ local_some left

pub init_local_not : (o : Option Pos) (ts left : Row) → Found (a_word "long") ts o → left ≡ left_behind o ts → is_some o ≡ false →
    some_init ts ≡ goes_on (λ s z. Ok (Some s, z)) (read (simple false) left)
init_local_not o ts left e d t = not_skipped (a_word "long") (λ _. init_locally) init_simply o ts left e d t

pub step_none : (ts : Row) → starts (is_mark ")") ts ≡ true → read step ts ≡ Ok (None, ts)
unfolding body_of
step_none ts e = read_body step ts ∙ when_next (is_mark ")") (gives None) (read (simple false) ▹ λ s. Some s) ts e

pub step_some : (ts : Row) → starts (is_mark ")") ts ≡ false → read step ts ≡ goes_on (λ s z. Ok (Some s, z)) (read (simple false) ts)
unfolding body_of
step_some ts e = read_body step ts ∙ when_not (is_mark ")") (gives None) (read (simple false) ▹ λ s. Some s) ts e

abbrev pub up_first : Pos × List ℕ → Parser (Val up)
up_first i = closed "++" i

abbrev pub up_last : Parser (Val up)
up_last = take (a_mark "++") >>= λ _. take a_name

pub up_named : (ts : Row) → starts is_name ts ≡ true → read up ts ≡ goes_on (λ i. closed "++" i) (take a_name ts)
unfolding body_of
up_named ts e = read_body up ts ∙ choose_next a_name up_first up_last ts (sym (named ts) ∙ e)

pub up_marked : (ts : Row) → starts is_name ts ≡ false → read up ts ≡ goes_on (λ _. take a_name) (take (a_mark "++") ts)
unfolding body_of
up_marked ts e = read_body up ts ∙ choose_not_next a_name up_first up_last ts (sym (named ts) ∙ e)

-- ---- Statements

abbrev pub statement_5 : Parser TStmt
statement_5 = read_leave read

abbrev pub statement_4 : Parser TStmt
statement_4 = choose (a_word "cilk_for") (λ _. read_cilk_for read) statement_5

abbrev pub statement_3 : Parser TStmt
statement_3 = choose (a_word "for") (λ _. read_for read) statement_4

abbrev pub statement_2 : Parser TStmt
statement_2 = choose (a_word "while") (λ _. read_while read) statement_3

abbrev pub statement_1 : Parser TStmt
statement_1 = choose (a_word "if") (λ _. read_if read) statement_2

pub block_there : (ts : Row) → starts (is_mark "{") ts ≡ true → read statement ts ≡ read block ts
unfolding body_of
block_there ts e = read_body statement ts ∙ when_next (is_mark "{") (read block) (read_no_block read) ts e

pub block_not : (ts : Row) → starts (is_mark "{") ts ≡ false → read statement ts ≡ read_no_block read ts
unfolding body_of
block_not ts e = read_body statement ts ∙ when_not (is_mark "{") (read block) (read_no_block read) ts e

pub empty_there : (o : Option Pos) (ts left : Row) → Found (a_mark ";") ts o → left ≡ left_behind o ts → is_some o ≡ true → read_no_block read ts ≡ Ok (stmt.Empty, left)
empty_there o ts left e d t = skipped (a_mark ";") (λ _. gives stmt.Empty) statement_1 (gives stmt.Empty) o ts left e d t (λ k. refl)

pub empty_not : (o : Option Pos) (ts left : Row) → Found (a_mark ";") ts o → left ≡ left_behind o ts → is_some o ≡ false → read_no_block read ts ≡ statement_1 left
empty_not o ts left e d t = not_skipped (a_mark ";") (λ _. gives stmt.Empty) statement_1 o ts left e d t

pub if_there : (o : Option Pos) (ts left : Row) → Found (a_word "if") ts o → left ≡ left_behind o ts → is_some o ≡ true → statement_1 ts ≡ read_if read left
if_there o ts left e d t = skipped (a_word "if") (λ _. read_if read) statement_2 (read_if read) o ts left e d t (λ k. refl)

pub if_not : (o : Option Pos) (ts left : Row) → Found (a_word "if") ts o → left ≡ left_behind o ts → is_some o ≡ false → statement_1 ts ≡ statement_2 left
if_not o ts left e d t = not_skipped (a_word "if") (λ _. read_if read) statement_2 o ts left e d t

pub while_there : (o : Option Pos) (ts left : Row) → Found (a_word "while") ts o → left ≡ left_behind o ts → is_some o ≡ true → statement_2 ts ≡ read_while read left
while_there o ts left e d t = skipped (a_word "while") (λ _. read_while read) statement_3 (read_while read) o ts left e d t (λ k. refl)

pub while_not : (o : Option Pos) (ts left : Row) → Found (a_word "while") ts o → left ≡ left_behind o ts → is_some o ≡ false → statement_2 ts ≡ statement_3 left
while_not o ts left e d t = not_skipped (a_word "while") (λ _. read_while read) statement_3 o ts left e d t

pub for_there : (o : Option Pos) (ts left : Row) → Found (a_word "for") ts o → left ≡ left_behind o ts → is_some o ≡ true → statement_3 ts ≡ read_for read left
for_there o ts left e d t = skipped (a_word "for") (λ _. read_for read) statement_4 (read_for read) o ts left e d t (λ k. refl)

pub for_not : (o : Option Pos) (ts left : Row) → Found (a_word "for") ts o → left ≡ left_behind o ts → is_some o ≡ false → statement_3 ts ≡ statement_4 left
for_not o ts left e d t = not_skipped (a_word "for") (λ _. read_for read) statement_4 o ts left e d t

pub cilk_for_there : (o : Option Pos) (ts left : Row) → Found (a_word "cilk_for") ts o → left ≡ left_behind o ts → is_some o ≡ true → statement_4 ts ≡ read_cilk_for read left
cilk_for_there o ts left e d t = skipped (a_word "cilk_for") (λ _. read_cilk_for read) statement_5 (read_cilk_for read) o ts left e d t (λ k. refl)

pub cilk_for_not : (o : Option Pos) (ts left : Row) → Found (a_word "cilk_for") ts o → left ≡ left_behind o ts → is_some o ≡ false → statement_4 ts ≡ read_leave read left
cilk_for_not o ts left e d t = not_skipped (a_word "cilk_for") (λ _. read_cilk_for read) statement_5 o ts left e d t

-- Behind the first statement of an `if`.
abbrev pub other_branch : TExpr → TStmt → Parser TStmt
other_branch x s = read statement ▹ λ r. stmt.If x s (Some r)

abbrev pub perhaps_else : TExpr → TStmt → Parser TStmt
perhaps_else x s = choose (a_word "else") (λ _. other_branch x s) (gives (stmt.If x s None))

pub else_there : (x : TExpr) (s : TStmt) (o : Option Pos) (ts left : Row) → ends_open s ≡ false → Found (a_word "else") ts o → left ≡ left_behind o ts → is_some o ≡ true →
    read_else read x s ts ≡ goes_on (λ r z. Ok (stmt.If x s (Some r), z)) (read statement left)
else_there x s o ts left g e d t =
    ap (λ b. cond b (gives (stmt.If x s None)) (perhaps_else x s) ts) g
    ∙ skipped (a_word "else") (λ _. other_branch x s) (gives (stmt.If x s None)) (other_branch x s) o ts left e d t (λ k. refl)

pub else_not : (x : TExpr) (s : TStmt) (o : Option Pos) (ts left : Row) → Found (a_word "else") ts o → left ≡ left_behind o ts → is_some o ≡ false →
    read_else read x s ts ≡ Ok (stmt.If x s None, left)
else_not x s o ts left e d t =
    by_end (ends_open s) ∙ ap (λ z. Ok (stmt.If x s None, z)) (sym (same o d t)) where
      same : (o : Option Pos) → left ≡ left_behind o ts → is_some o ≡ false → left ≡ ts
      same (Some k) d t = absurd cc
      same None d t = d

      by_end : (b : Bool) → cond b (gives (stmt.If x s None)) (perhaps_else x s) ts ≡ Ok (stmt.If x s None, ts)
      by_end true = refl
      by_end false = not_skipped (a_word "else") (λ _. other_branch x s) (gives (stmt.If x s None)) o ts left e d t ∙ ap (λ z. Ok (stmt.If x s None, z)) (same o d t)

-- An `else` that was taken was next.
pub else_was_next : (o : Option Pos) (ts : Row) → Found (a_word "else") ts o → is_some o ≡ true → starts (is_word "else") ts ≡ true
else_was_next o [] e t = none o e t where
  none : (o : Option Pos) → Found (a_word "else") [] o → is_some o ≡ true → starts (is_word "else") [] ≡ true
  none (Some k) e t = absurd cc
  none None e t = absurd cc
else_was_next o (u ∷ ts) e t = there (is_word "else" u) o e t where
  there : (b : Bool) (o : Option Pos) → MatchOption o (cond b (Some (pos_of u)) None ≡ None) (λ k. cond b (Some (pos_of u)) None ≡ Some k) → is_some o ≡ true → b ≡ true
  there true o e t = refl
  there false (Some k) e t = absurd cc
  there false None e t = absurd cc

-- One that was not taken was not.
pub else_was_not_next : (o : Option Pos) (ts left : Row) → Found (a_word "else") ts o → left ≡ left_behind o ts → is_some o ≡ false → starts (is_word "else") left ≡ true → ⊥
else_was_not_next (Some k) ts left e d t g = absurd cc
else_was_not_next None ts left e d t g = next ts e (ap (starts (is_word "else")) (sym d) ∙ g) where
  next : (ts : Row) → seen (a_word "else") ts ≡ None → starts (is_word "else") ts ≡ true → ⊥
  next [] e g = absurd cc
  next (u ∷ ts) e g = let h = sym (ap (λ b. cond b (Some (pos_of u)) None) g) ∙ e in absurd cc

-- ---- Blocks

pub braces_step : (ts : Row) → read block ts ≡ goes_on (λ _. read body >>= λ ss. closed "}" (stmt.Block ss)) (take (a_mark "{") ts)
unfolding body_of
braces_step ts = read_body block ts

abbrev pub long_part : Parser (List TStmt)
long_part = read local >>= λ s. read more_locals >>= λ ss. read body ▹ λ rest. s ∷ (ss ++ rest)

abbrev pub statement_part : Parser (List TStmt)
statement_part = read statement >>= λ s. read body ▹ λ ss. s ∷ ss

abbrev pub some_body : Parser (List TStmt)
some_body = choose (a_word "long") (λ _. long_part) statement_part

pub body_none : (ts : Row) → starts (is_mark "}") ts ≡ true → read body ts ≡ Ok ([], ts)
unfolding body_of
body_none ts e = read_body body ts ∙ when_next (is_mark "}") (gives []) some_body ts e

pub body_some : (ts : Row) → starts (is_mark "}") ts ≡ false → read body ts ≡ some_body ts
unfolding body_of
body_some ts e = read_body body ts ∙ when_not (is_mark "}") (gives []) some_body ts e

locals_first : (s : TStmt) (ss : List TStmt) (a : Answer (List TStmt)) → goes_on (λ rest z. Ok (s ∷ (ss ++ rest), z)) a ≡ prefixed (s ∷ []) (prefixed ss a)
locals_first s ss (Ok a) = refl
locals_first s ss (Err r) = refl

more_first : (s : TStmt) (a : Answer (List TStmt)) → goes_on (λ ss. read body ▹ λ rest. s ∷ (ss ++ rest)) a ≡ goes_on (λ ss z. prefixed (s ∷ []) (prefixed ss (read body z))) a
more_first s (Ok a) = locals_first s (a.0) (read body (a.1))
more_first s (Err r) = refl

pub long_part_there : (o : Option Pos) (ts left : Row) → Found (a_word "long") ts o → left ≡ left_behind o ts → is_some o ≡ true →
    some_body ts ≡ goes_on (λ s z. goes_on (λ ss y. prefixed (s ∷ []) (prefixed ss (read body y))) (read more_locals z)) (read local left)
long_part_there o ts left e d t = skipped (a_word "long") (λ _. long_part) statement_part long_part o ts left e d t (λ k. refl) ∙ each (read local left) where
  each : (a : Answer TStmt) → goes_on (λ s. read more_locals >>= λ ss. read body ▹ λ rest. s ∷ (ss ++ rest)) a ≡ goes_on (λ s z. goes_on (λ ss y. prefixed (s ∷ []) (prefixed ss (read body y))) (read more_locals z)) a
  each (Ok a) = more_first (a.0) (read more_locals (a.1))
  each (Err r) = refl

pub long_part_not : (o : Option Pos) (ts left : Row) → Found (a_word "long") ts o → left ≡ left_behind o ts → is_some o ≡ false →
    some_body ts ≡ goes_on (λ s z. prefixed (s ∷ []) (read body z)) (read statement left)
long_part_not o ts left e d t = not_skipped (a_word "long") (λ _. long_part) statement_part o ts left e d t ∙ each (read statement left) where
  each : (a : Answer TStmt) → goes_on (λ s. read body ▹ λ ss. s ∷ ss) a ≡ goes_on (λ s z. prefixed (s ∷ []) (read body z)) a
  each (Ok a) = one_before (a.0) (read body (a.1))
  each (Err r) = refl

-- ---- What goes on behind the heads of statements

abbrev pub branch_if : TExpr → Parser TStmt
branch_if x = read statement >>= λ s. read_else read x s

abbrev pub then_while : TExpr → Parser TStmt
then_while x = read statement ▹ λ s. stmt.While x s

abbrev pub cilk_5 : Pos × List ℕ → TExpr → Pos × List ℕ → TExpr → Pos × List ℕ → Parser TStmt
cilk_5 i l j h n = read statement ▹ λ s. stmt.CilkFor (i.0) (i.1) l j h n s

abbrev pub cilk_4 : Pos × List ℕ → TExpr → Pos × List ℕ → TExpr → Parser TStmt
cilk_4 i l j h = read_stepped (cilk_5 i l j h)

abbrev pub cilk_3 : Pos × List ℕ → TExpr → Pos × List ℕ → Parser TStmt
cilk_3 i l j = read_high (cilk_4 i l j)

abbrev pub cilk_2 : Pos × List ℕ → TExpr → Parser TStmt
cilk_2 i l = read_tested (cilk_3 i l)

abbrev pub cilk_1 : Pos × List ℕ → Parser TStmt
cilk_1 i = read_low (cilk_2 i)
