-- How statements are read, from how their parts are.
use Rattle.std.proofs.Common.{◌≡◌, Bool, true, false, cond, List, [], ◌∷◌, ◌++◌, Option, Some, None, Ok, refl, ◌∙◌}
use Rattle.word_ops.specs.declared.place.Pos.{Pos}
use Rattle.cilk_ast.specs.declared.kind.Kind.{Kind}
use Rattle.cilk_ast.specs.declared.tree.TExpr.{TExpr}
use Rattle.cilk_ast.specs.declared.tree.TStmt as stmt
use Rattle.cilk_ast.specs.declared.tree.TStmt.{TStmt}
use Rattle.cilk_ast.specs.declared.tree.TSpawn.{TSpawn}
use Rattle.cilk_ast.specs.declared.tree.TValue.{TValue}
use Rattle.cilk_ast.specs.declared.tree.TValue.TheVariants.{Plain, Spawned}
use Rattle.cilk_model.specs.Lexemes.{Lexeme, name}
use Rattle.cilk_model.specs.Signs.{mark, word}
use Rattle.cilk_model.specs.Tests.{is_mark, starts}
use Rattle.cilk_model.specs.OpenEnds.{ends_open}
use Rattle.cilk_model.specs.Grammar.{Row}
use Rattle.cilk_model.specs.GrammarForms.{Val, star, perhaps, args, origin, spawn, value, initial, local, more_locals, simple, change, init, step, up, statement, block, body, unary, shift, expr}
use Rattle.cilk_parser.specs.Parsers.{Parser, seen, choose, gives, ◌▹◌}
use Rattle.cilk_parser.specs.Kinds.{a_mark, a_word, is_spawn}
use Rattle.cilk_parser.specs.Reading.{body_of, read_else, read_effect}
use Rattle.cilk_parser.specs.Read.{read}
use Rattle.cilk_parser.proofs.Fuel.{read_body}
use Rattle.cilk_parser.proofs.Taking.{choose_no}
use Rattle.cilk_parser.proofs.Rules.{Reads, seq, mapped}

pub child_read : (at_name bracket close : Pos) (f : List _) {from : Val origin} {xs : List TExpr} {ts r q : Row} → Reads origin ts from (name at_name f ∷ mark "(" bracket ∷ r) →
    Reads args r xs (mark ")" close ∷ q) → Reads spawn ts (record { pos = from.0; hint = from.1; name_pos = at_name; name = f; args = xs }) q
unfolding body_of
child_read at_name bracket close f {from = from} {xs = xs} {ts = ts} {r = r} {q = q} h g =
    record { it = read_body spawn ts ∙ seq _ _ from (name at_name f ∷ mark "(" bracket ∷ r) _ h.it (seq _ _ xs (mark ")" close ∷ q) _ g.it refl) }

pub plain_read : (may : Bool) {x : TExpr} {ts q : Row} → starts is_spawn ts ≡ false → Reads expr ts x q → Reads (value may) ts (Plain x) q
unfolding body_of
plain_read true {x = x} {ts = ts} {q = q} e h = record { it = read_body (value true) ts ∙ rw e (mapped (λ x. Plain x) _ x q h.it) }
plain_read false {x = x} {ts = ts} {q = q} e h = record { it = read_body (value false) ts ∙ mapped (λ x. Plain x) _ x q h.it }

pub spawned_read : {s : TSpawn} {ts q : Row} → starts is_spawn ts ≡ true → Reads spawn ts s q → Reads (value true) ts (Spawned s) q
unfolding body_of
spawned_read {s = s} {ts = ts} {q = q} e h = record { it = read_body (value true) ts ∙ rw e (mapped (λ x. Spawned x) _ s q h.it) }

pub initial_not : (ts : Row) → seen (a_mark "=") ts ≡ None → Reads initial ts None ts
unfolding body_of
initial_not ts e = record { it = read_body initial ts ∙ rw e refl }

pub initial_read : (equal : Pos) {v : TValue} {ts q : Row} → Reads (value true) ts v q → Reads initial (mark "=" equal ∷ ts) (Some v) q
unfolding body_of
initial_read equal {v = v} {q = q} h = record { it = read_body initial _ ∙ mapped (λ v. Some v) _ v q h.it }

-- ---- Locals and simple statements

pub declarator_read : (at : Pos) (x : List _) {k : Kind} {v : Val initial} {ts r q : Row} → Reads star ts k (name at x ∷ r) → Reads initial r v q →
    Reads local ts (stmt.Local at k x v) q
unfolding body_of
declarator_read at x {k = k} {v = v} {ts = ts} {r = r} {q = q} h g =
    record { it = read_body local ts ∙ seq _ _ k (name at x ∷ r) _ h.it (mapped (λ v. stmt.Local at k x v) _ v q g.it) }

pub last_local_read : (end : Pos) (ts : Row) → Reads more_locals (mark ";" end ∷ ts) [] ts
unfolding body_of
last_local_read end ts = record { it = read_body more_locals _ }

pub next_local_read : (comma : Pos) {s : TStmt} {ss : List TStmt} {ts r q : Row} → Reads local ts s r → Reads more_locals r ss q → Reads more_locals (mark "," comma ∷ ts) (s ∷ ss) q
unfolding body_of
next_local_read comma {s = s} {ss = ss} {r = r} {q = q} h g = record { it = read_body more_locals _ ∙ seq _ _ s r _ h.it (mapped (λ ss. s ∷ ss) _ ss q g.it) }

pub changed_read : (may : Bool) {x : TExpr} {s : TStmt} {ts r q : Row} → seen (a_mark "++") ts ≡ None → seen (a_mark "--") ts ≡ None → Reads expr ts x r → Reads (change may x) r s q →
    Reads (simple may) ts s q
unfolding body_of
changed_read may {x = x} {ts = ts} {r = r} d e h g = record { it = read_body (simple may) ts ∙ rw (d, e) (seq _ _ x r _ h.it g.it) }

pub up_before_read : (may : Bool) (at : Pos) {x : TExpr} {ts q : Row} → Reads unary ts x q → Reads (simple may) (mark "++" at ∷ ts) (stmt.Up x) q
unfolding body_of
up_before_read may at {x = x} {q = q} h = record { it = read_body (simple may) _ ∙ mapped (λ x. stmt.Up x) _ x q h.it }

pub down_before_read : (may : Bool) (at : Pos) {x : TExpr} {ts q : Row} → Reads unary ts x q → Reads (simple may) (mark "--" at ∷ ts) (stmt.Down x) q
unfolding body_of
down_before_read may at {x = x} {q = q} h = record { it = read_body (simple may) _ ∙ mapped (λ x. stmt.Down x) _ x q h.it }

pub unchanged_read : (may : Bool) (x : TExpr) (ts : Row) → seen (a_mark "=") ts ≡ None → seen (a_mark "+=") ts ≡ None → seen (a_mark "++") ts ≡ None → seen (a_mark "--") ts ≡ None →
    Reads (change may x) ts (stmt.Eval x) ts
unfolding body_of
unchanged_read may x ts a b c d = record { it = read_body (change may x) ts ∙ rw (a, b, c, d) refl }

pub assigned_read : (may : Bool) (at : Pos) (x : TExpr) {v : TValue} {ts q : Row} → Reads (value may) ts v q → Reads (change may x) (mark "=" at ∷ ts) (stmt.Assign at x v) q
unfolding body_of
assigned_read may at x {v = v} {q = q} h = record { it = read_body (change may x) _ ∙ mapped (λ v. stmt.Assign at x v) _ v q h.it }

pub added_read : (may : Bool) (at : Pos) (x : TExpr) {y : TExpr} {ts q : Row} → Reads expr ts y q → Reads (change may x) (mark "+=" at ∷ ts) (stmt.AddTo at x y) q
unfolding body_of
added_read may at x {y = y} {q = q} h = record { it = read_body (change may x) _ ∙ mapped (λ y. stmt.AddTo at x y) _ y q h.it }

pub up_behind_read : (may : Bool) (at : Pos) (x : TExpr) (ts : Row) → Reads (change may x) (mark "++" at ∷ ts) (stmt.Up x) ts
unfolding body_of
up_behind_read may at x ts = record { it = read_body (change may x) _ }

pub down_behind_read : (may : Bool) (at : Pos) (x : TExpr) (ts : Row) → Reads (change may x) (mark "--" at ∷ ts) (stmt.Down x) ts
unfolding body_of
down_behind_read may at x ts = record { it = read_body (change may x) _ }

-- ---- Statements

pub nested_read : {s : TStmt} {ts q : Row} → starts (is_mark "{") ts ≡ true → Reads block ts s q → Reads statement ts s q
unfolding body_of
nested_read {ts = ts} e h = record { it = read_body statement ts ∙ rw e h.it }

pub nothing_read : (end : Pos) (ts : Row) → Reads statement (mark ";" end ∷ ts) stmt.Empty ts
unfolding body_of
nothing_read end ts = record { it = read_body statement _ }

-- The row starts with no token that starts another statement.
pub record StartsEffect (ts : Row) : Type 0 where
  pub brace : starts (is_mark "{") ts ≡ false
  pub semicolon : seen (a_mark ";") ts ≡ None
  pub is_if : seen (a_word "if") ts ≡ None
  pub is_while : seen (a_word "while") ts ≡ None
  pub is_for : seen (a_word "for") ts ≡ None
  pub is_cilk_for : seen (a_word "cilk_for") ts ≡ None
  pub is_break : seen (a_word "break") ts ≡ None
  pub is_continue : seen (a_word "continue") ts ≡ None
  pub is_return : seen (a_word "return") ts ≡ None
  pub is_sync : seen (a_word "cilk_sync") ts ≡ None

statement_is_effect : (ts : Row) → StartsEffect ts → read statement ts ≡ read_effect read ts
unfolding body_of
statement_is_effect ts e =
    read_body statement ts ∙ rw (e.brace, e.semicolon, e.is_if, e.is_while, e.is_for, e.is_cilk_for, e.is_break, e.is_continue, e.is_return, e.is_sync) refl

pub effect_read : (end : Pos) {s : TStmt} {ts q : Row} → StartsEffect ts → starts is_spawn ts ≡ false → Reads (simple true) ts s (mark ";" end ∷ q) → Reads statement ts s q
effect_read end {s = s} {ts = ts} {q = q} e d h = record { it = statement_is_effect ts e ∙ rw d (seq _ _ s (mark ";" end ∷ q) _ h.it refl) }

pub lone_spawn_read : (end : Pos) {s : TSpawn} {ts q : Row} → StartsEffect ts → starts is_spawn ts ≡ true → Reads spawn ts s (mark ";" end ∷ q) → Reads statement ts (stmt.Spawn s) q
lone_spawn_read end {s = s} {ts = ts} {q = q} e d h = record { it = statement_is_effect ts e ∙ rw d (seq _ _ s (mark ";" end ∷ q) _ h.it refl) }

-- An `else` that is not there is not taken, whether one could be or not.
not_taken : {K X : Type 0} (b : Bool) (kind : Lexeme → Option K) (f : K → Parser X) (v : X) (q : Row) → seen kind q ≡ None → cond b (gives v) (choose kind f (gives v)) q ≡ Ok (v, q)
not_taken true kind f v q e = refl
not_taken false kind f v q e = choose_no kind f (gives v) q e

no_else : (x : TExpr) (s : TStmt) (q : Row) → seen (a_word "else") q ≡ None → read_else read x s q ≡ Ok (stmt.If x s None, q)
no_else x s q e = not_taken (ends_open s) (a_word "else") (λ _. read statement ▹ λ r. stmt.If x s (Some r)) (stmt.If x s None) q e

pub if_alone_read : (at bracket close : Pos) {x : TExpr} {s : TStmt} {ts r q : Row} → Reads expr ts x (mark ")" close ∷ r) → Reads statement r s q → seen (a_word "else") q ≡ None →
    Reads statement (word "if" at ∷ mark "(" bracket ∷ ts) (stmt.If x s None) q
unfolding body_of
if_alone_read at bracket close {x = x} {s = s} {r = r} {q = q} h g e =
    record { it = read_body statement _ ∙ seq _ _ x (mark ")" close ∷ r) _ h.it (seq _ _ s q _ g.it (no_else x s q e)) }

pub if_else_read : (at bracket close at_else : Pos) {x : TExpr} {s t : TStmt} {ts r u q : Row} → Reads expr ts x (mark ")" close ∷ r) → Reads statement r s (word "else" at_else ∷ u) →
    ends_open s ≡ false → Reads statement u t q → Reads statement (word "if" at ∷ mark "(" bracket ∷ ts) (stmt.If x s (Some t)) q
unfolding body_of
if_else_read at bracket close at_else {x = x} {s = s} {t = t} {r = r} {u = u} {q = q} h g e k =
    record { it = read_body statement _ ∙ seq _ _ x (mark ")" close ∷ r) _ h.it (seq _ _ s (word "else" at_else ∷ u) _ g.it (rw e (mapped (λ t. stmt.If x s (Some t)) _ t q k.it))) }

pub while_read : (at bracket close : Pos) {x : TExpr} {s : TStmt} {ts r q : Row} → Reads expr ts x (mark ")" close ∷ r) → Reads statement r s q →
    Reads statement (word "while" at ∷ mark "(" bracket ∷ ts) (stmt.While x s) q
unfolding body_of
while_read at bracket close {x = x} {s = s} {r = r} {q = q} h g =
    record { it = read_body statement _ ∙ seq _ _ x (mark ")" close ∷ r) _ h.it (mapped (λ s. stmt.While x s) _ s q g.it) }

pub for_read : (at bracket end_init end_test close : Pos) {i : Val init} {t : Val perhaps} {n : Val step} {s : TStmt} {ts r u v q : Row} → Reads init ts i (mark ";" end_init ∷ r) →
    Reads perhaps r t (mark ";" end_test ∷ u) → Reads step u n (mark ")" close ∷ v) → Reads statement v s q → Reads statement (word "for" at ∷ mark "(" bracket ∷ ts) (stmt.For i t n s) q
unfolding body_of
for_read at bracket end_init end_test close {i = i} {t = t} {n = n} {s = s} {r = r} {u = u} {v = v} {q = q} h g k m =
    record {
      it = read_body statement _ ∙ seq _ _ i (mark ";" end_init ∷ r) _ h.it (seq _ _ t (mark ";" end_test ∷ u) _ g.it
          (seq _ _ n (mark ")" close ∷ v) _ k.it (mapped (λ s. stmt.For i t n s) _ s q m.it)));
    }

pub cilk_for_read : (at bracket at_long at_first equal end_low at_second less end_high close : Pos) (i j : List _) {l h : TExpr} {n : Val up} {s : TStmt} {ts r u v q : Row} →
    Reads expr ts l (mark ";" end_low ∷ name at_second j ∷ mark "<" less ∷ r) → Reads shift r h (mark ";" end_high ∷ u) → Reads up u n (mark ")" close ∷ v) → Reads statement v s q →
    Reads statement (word "cilk_for" at ∷ mark "(" bracket ∷ word "long" at_long ∷ name at_first i ∷ mark "=" equal ∷ ts) (stmt.CilkFor at_first i l (at_second, j) h n s) q
unfolding body_of
cilk_for_read at bracket at_long at_first equal end_low at_second less end_high close i j {l = l} {h = h} {n = n} {s = s} {r = r} {u = u} {v = v} {q = q} a b c d =
    record {
      it = read_body statement _ ∙ seq _ _ l (mark ";" end_low ∷ name at_second j ∷ mark "<" less ∷ r) _ a.it (seq _ _ h (mark ";" end_high ∷ u) _ b.it
          (seq _ _ n (mark ")" close ∷ v) _ c.it (mapped (λ s. stmt.CilkFor at_first i l (at_second, j) h n s) _ s q d.it)));
    }

pub broken_read : (at end : Pos) (ts : Row) → Reads statement (word "break" at ∷ mark ";" end ∷ ts) (stmt.Break at) ts
unfolding body_of
broken_read at end ts = record { it = read_body statement _ }

pub continued_read : (at end : Pos) (ts : Row) → Reads statement (word "continue" at ∷ mark ";" end ∷ ts) (stmt.Continue at) ts
unfolding body_of
continued_read at end ts = record { it = read_body statement _ }

pub synced_read : (at end : Pos) (ts : Row) → Reads statement (word "cilk_sync" at ∷ mark ";" end ∷ ts) stmt.Sync ts
unfolding body_of
synced_read at end ts = record { it = read_body statement _ }

pub returned_read : (at end : Pos) {v : Val perhaps} {ts q : Row} → Reads perhaps ts v (mark ";" end ∷ q) → Reads statement (word "return" at ∷ ts) (stmt.Return at v) q
unfolding body_of
returned_read at end {v = v} {q = q} h = record { it = read_body statement _ ∙ seq _ _ v (mark ";" end ∷ q) _ h.it refl }

pub braces_read : (at close : Pos) {ss : List TStmt} {ts q : Row} → Reads body ts ss (mark "}" close ∷ q) → Reads block (mark "{" at ∷ ts) (stmt.Block ss) q
unfolding body_of
braces_read at close {ss = ss} {q = q} h = record { it = read_body block _ ∙ seq _ _ ss (mark "}" close ∷ q) _ h.it refl }

pub body_end : (ts : Row) → starts (is_mark "}") ts ≡ true → Reads body ts [] ts
unfolding body_of
body_end ts e = record { it = read_body body ts ∙ rw e refl }

pub locals_read : (at : Pos) {s : TStmt} {ss rest : List TStmt} {ts r u q : Row} → Reads local ts s r → Reads more_locals r ss u → Reads body u rest q →
    Reads body (word "long" at ∷ ts) (s ∷ (ss ++ rest)) q
unfolding body_of
locals_read at {s = s} {ss = ss} {rest = rest} {r = r} {u = u} {q = q} h g k =
    record { it = read_body body _ ∙ seq _ _ s r _ h.it (seq _ _ ss u _ g.it (mapped (λ rest. s ∷ (ss ++ rest)) _ rest q k.it)) }

pub next_statement_read : {s : TStmt} {ss : List TStmt} {ts r q : Row} → starts (is_mark "}") ts ≡ false → seen (a_word "long") ts ≡ None → Reads statement ts s r → Reads body r ss q →
    Reads body ts (s ∷ ss) q
unfolding body_of
next_statement_read {s = s} {ss = ss} {ts = ts} {r = r} {q = q} d e h g =
    record { it = read_body body ts ∙ rw (d, e) (seq _ _ s r _ h.it (mapped (λ ss. s ∷ ss) _ ss q g.it)) }

-- ---- The heads of loops

pub init_not : (ts : Row) → starts (is_mark ";") ts ≡ true → Reads init ts None ts
unfolding body_of
init_not ts e = record { it = read_body init ts ∙ rw e refl }

pub init_simple_read : {s : TStmt} {ts q : Row} → starts (is_mark ";") ts ≡ false → seen (a_word "long") ts ≡ None → Reads (simple false) ts s q → Reads init ts (Some s) q
unfolding body_of
init_simple_read {s = s} {ts = ts} {q = q} d e h = record { it = read_body init ts ∙ rw (d, e) (mapped (λ s. Some s) _ s q h.it) }

pub init_local_read : (at_long at equal : Pos) (i : List _) {k : Kind} {x : TExpr} {ts r q : Row} → Reads star ts k (name at i ∷ mark "=" equal ∷ r) → Reads expr r x q →
    Reads init (word "long" at_long ∷ ts) (Some (stmt.Local at k i (Some (Plain x)))) q
unfolding body_of
init_local_read at_long at equal i {k = k} {x = x} {r = r} {q = q} h g =
    record { it = read_body init _ ∙ seq _ _ k (name at i ∷ mark "=" equal ∷ r) _ h.it (mapped (λ x. Some (stmt.Local at k i (Some (Plain x)))) _ x q g.it) }

pub step_not : (ts : Row) → starts (is_mark ")") ts ≡ true → Reads step ts None ts
unfolding body_of
step_not ts e = record { it = read_body step ts ∙ rw e refl }

pub step_read : {s : TStmt} {ts q : Row} → starts (is_mark ")") ts ≡ false → Reads (simple false) ts s q → Reads step ts (Some s) q
unfolding body_of
step_read {s = s} {ts = ts} {q = q} e h = record { it = read_body step ts ∙ rw e (mapped (λ s. Some s) _ s q h.it) }

pub name_first_read : (at plus : Pos) (i : List _) (ts : Row) → Reads up (name at i ∷ mark "++" plus ∷ ts) (at, i) ts
unfolding body_of
name_first_read at plus i ts = record { it = read_body up _ }

pub name_last_read : (at plus : Pos) (i : List _) (ts : Row) → Reads up (mark "++" plus ∷ name at i ∷ ts) (at, i) ts
unfolding body_of
name_last_read at plus i ts = record { it = read_body up _ }
