-- How expressions are read, from how their parts are.
use Rattle.std.proofs.Common.{◌≡◌, ℕ, suc, true, false, ℤ, List, [], ◌∷◌, Some, None, refl, ◌∙◌}
use Rattle.word_ops.specs.declared.place.Pos.{Pos}
use Rattle.cilk_ast.specs.declared.kind.Kind.{Kind}
use Rattle.cilk_ast.specs.declared.kind.Kind.TheVariants.{Long, Ptr}
use Rattle.cilk_ast.specs.declared.builtin.Builtin.{Builtin}
use Rattle.cilk_ast.specs.declared.builtin.Builtin.TheVariants.{MwReplicatedInit}
use Rattle.cilk_ast.specs.declared.tree.TExpr as tree
use Rattle.cilk_ast.specs.declared.tree.TExpr.{TExpr}
use Rattle.cilk_model.specs.Lexemes.{name, literal, text}
use Rattle.cilk_model.specs.Signs.{mark, word, Prefix, prefix_spelling, prefixed, Infix, infix_spelling, joined, looseness, builtin_spelling, is_replicated_init}
use Rattle.cilk_model.specs.Tests.{is_mark, starts}
use Rattle.cilk_model.specs.Grammar.{Row}
use Rattle.cilk_model.specs.GrammarForms.{star, expression, further, postfix, indexes, primary, args, more_args, perhaps, origin, unary, expr}
use Rattle.cilk_parser.specs.Parsers.{seen}
use Rattle.cilk_parser.specs.Kinds.{a_mark, an_infix}
use Rattle.cilk_parser.specs.Reading.{body_of}
use Rattle.cilk_parser.proofs.Fuel.{read_body}
use Rattle.cilk_parser.proofs.Operators.{tells_prefix, tells_infix, tells_builtin}
use Rattle.cilk_parser.proofs.Rules.{Reads, seq, mapped}

pub star_there : (at : Pos) (ts : Row) → Reads star (mark "*" at ∷ ts) Ptr ts
unfolding body_of
star_there at ts = record { it = read_body star _ }

pub star_not : (ts : Row) → seen (a_mark "*") ts ≡ None → Reads star ts Long ts
unfolding body_of
star_not ts e = record { it = read_body star ts ∙ rw e refl }

-- ---- Operators

pub first_read : (n : ℕ) {ts r q : Row} {x z : TExpr} → Reads (expression n) ts x r → Reads (further n x) r z q → Reads (expression (suc n)) ts z q
unfolding body_of
first_read n {ts} {r} {x = x} h g = record { it = read_body (expression (suc n)) ts ∙ seq _ _ x r _ h.it g.it }

pub further_not : (n : ℕ) (x : TExpr) (ts : Row) → seen (an_infix n) ts ≡ None → Reads (further n x) ts x ts
unfolding body_of
further_not n x ts e = record { it = read_body (further n x) ts ∙ rw e refl }

pub joins_read : (n : ℕ) (o : Infix) (at : Pos) {x y z : TExpr} {ts r q : Row} → looseness o ≡ n → Reads (expression n) ts y r → Reads (further n (joined o at x y)) r z q →
    Reads (further n x) (mark (infix_spelling o) at ∷ ts) z q
unfolding body_of
joins_read n o at {x = x} {y = y} {ts = ts} {r = r} e h g =
    record { it = read_body (further n x) (mark (infix_spelling o) at ∷ ts) ∙ rw ((tells_infix n).shown (at, o) e) (seq _ _ y r _ h.it g.it) }

pub applied_read : (o : Prefix) (at : Pos) {x : TExpr} {ts q : Row} → Reads unary ts x q → Reads unary (mark (prefix_spelling o) at ∷ ts) (prefixed o at x) q
unfolding body_of
applied_read o at {x = x} {ts = ts} {q = q} h =
    record { it = read_body unary (mark (prefix_spelling o) at ∷ ts) ∙ rw (tells_prefix.shown (at, o) tt) (mapped (prefixed o at) _ x q h.it) }

pub cast_read : (at at_long close : Pos) {k : Kind} {x : TExpr} {ts r q : Row} → Reads star ts k (mark ")" close ∷ r) → Reads unary r x q →
    Reads unary (mark "(" at ∷ word "long" at_long ∷ ts) (tree.Cast at k x) q
unfolding body_of
cast_read at at_long close {k = k} {x = x} {ts = ts} {r = r} {q = q} h g =
    record { it = read_body unary _ ∙ seq _ _ k (mark ")" close ∷ r) _ h.it (mapped (tree.Cast at k) _ x q g.it) }

-- ---- Operands

pub indexed_read : {x y : TExpr} {ts r q : Row} → Reads primary ts x r → Reads (indexes x) r y q → Reads postfix ts y q
unfolding body_of
indexed_read {x = x} {ts = ts} {r = r} h g = record { it = read_body postfix ts ∙ seq _ _ x r _ h.it g.it }

pub index_not : (x : TExpr) (ts : Row) → seen (a_mark "[") ts ≡ None → Reads (indexes x) ts x ts
unfolding body_of
index_not x ts e = record { it = read_body (indexes x) ts ∙ rw e refl }

pub index_read : (at close : Pos) {x i y : TExpr} {ts r q : Row} → Reads expr ts i (mark "]" close ∷ r) → Reads (indexes (tree.Index at x i)) r y q →
    Reads (indexes x) (mark "[" at ∷ ts) y q
unfolding body_of
index_read at close {x = x} {i = i} {r = r} h g = record { it = read_body (indexes x) _ ∙ seq _ _ i (mark "]" close ∷ r) _ h.it g.it }

pub number_read : (at : Pos) (v : ℤ) (ts : Row) → Reads primary (literal at v ∷ ts) (tree.Number at v) ts
unfolding body_of
number_read at v ts = record { it = read_body primary _ }

pub variable_read : (at : Pos) (x : List ℕ) (ts : Row) → seen (a_mark "(") ts ≡ None → Reads primary (name at x ∷ ts) (tree.Var at x) ts
unfolding body_of
variable_read at x ts e = record { it = read_body primary _ ∙ rw e refl }

pub call_read : (at bracket close : Pos) (f : List ℕ) {xs : List TExpr} {ts q : Row} → Reads args ts xs (mark ")" close ∷ q) →
    Reads primary (name at f ∷ mark "(" bracket ∷ ts) (tree.Call at f xs) q
unfolding body_of
call_read at bracket close f {xs = xs} {q = q} h = record { it = read_body primary _ ∙ seq _ _ xs (mark ")" close ∷ q) _ h.it refl }

pub builtin_read : (at bracket close : Pos) (which : Builtin) {xs : List TExpr} {ts q : Row} → is_replicated_init which ≡ false → Reads args ts xs (mark ")" close ∷ q) →
    Reads primary (word (builtin_spelling which) at ∷ mark "(" bracket ∷ ts) (tree.Builtin at which xs) q
unfolding body_of
builtin_read at bracket close which {xs = xs} {ts = ts} {q = q} e h =
    record { it = read_body primary _ ∙ rw (tells_builtin.shown (at, which) e) (seq _ _ xs (mark ")" close ∷ q) _ h.it refl) }

pub print_read : (at bracket at_text close : Pos) (format : List ℕ) {xs : List TExpr} {ts q : Row} → Reads more_args ts xs (mark ")" close ∷ q) →
    Reads primary (word "printf" at ∷ mark "(" bracket ∷ text at_text format ∷ ts) (tree.Print at at_text format xs) q
unfolding body_of
print_read at bracket at_text close format {xs = xs} {q = q} h = record { it = read_body primary _ ∙ seq _ _ xs (mark ")" close ∷ q) _ h.it refl }

pub init_named_read : (at bracket ampersand at_name comma close : Pos) (g : List ℕ) {v : TExpr} {ts q : Row} → Reads expr ts v (mark ")" close ∷ q) →
    Reads primary (word "mw_replicated_init" at ∷ mark "(" bracket ∷ mark "&" ampersand ∷ name at_name g ∷ mark "," comma ∷ ts) (tree.InitAt at at_name g v) q
unfolding body_of
init_named_read at bracket ampersand at_name comma close g {v = v} {q = q} h = record { it = read_body primary _ ∙ seq _ _ v (mark ")" close ∷ q) _ h.it refl }

pub init_address_read : (at bracket comma close : Pos) {x v : TExpr} {ts r q : Row} → seen (a_mark "&") ts ≡ None → Reads expr ts x (mark "," comma ∷ r) → Reads expr r v (mark ")" close ∷ q) →
    Reads primary (word "mw_replicated_init" at ∷ mark "(" bracket ∷ ts) (tree.Builtin at MwReplicatedInit (x ∷ v ∷ [])) q
unfolding body_of
init_address_read at bracket comma close {x = x} {v = v} {ts = ts} {r = r} {q = q} e h g =
    record { it = read_body primary _ ∙ rw e (seq _ _ x (mark "," comma ∷ r) _ h.it (seq _ _ v (mark ")" close ∷ q) _ g.it refl)) }

pub paren_read : (at close : Pos) {x : TExpr} {ts q : Row} → Reads expr ts x (mark ")" close ∷ q) → Reads primary (mark "(" at ∷ ts) (tree.Paren at x) q
unfolding body_of
paren_read at close {x = x} {q = q} h = record { it = read_body primary _ ∙ seq _ _ x (mark ")" close ∷ q) _ h.it refl }

-- ---- Lists

pub args_not : (ts : Row) → starts (is_mark ")") ts ≡ true → Reads args ts [] ts
unfolding body_of
args_not ts e = record { it = read_body args ts ∙ rw e refl }

pub args_read : {x : TExpr} {xs : List TExpr} {ts r q : Row} → starts (is_mark ")") ts ≡ false → Reads expr ts x r → Reads more_args r xs q → Reads args ts (x ∷ xs) q
unfolding body_of
args_read {x = x} {xs = xs} {ts = ts} {r = r} {q = q} e h g =
    record { it = read_body args ts ∙ rw e (seq _ _ x r _ h.it (mapped (λ xs. x ∷ xs) _ xs q g.it)) }

pub more_args_not : (ts : Row) → seen (a_mark ",") ts ≡ None → Reads more_args ts [] ts
unfolding body_of
more_args_not ts e = record { it = read_body more_args ts ∙ rw e refl }

pub more_args_read : (comma : Pos) {x : TExpr} {xs : List TExpr} {ts r q : Row} → Reads expr ts x r → Reads more_args r xs q → Reads more_args (mark "," comma ∷ ts) (x ∷ xs) q
unfolding body_of
more_args_read comma {x = x} {xs = xs} {r = r} {q = q} h g = record { it = read_body more_args _ ∙ seq _ _ x r _ h.it (mapped (λ xs. x ∷ xs) _ xs q g.it) }

pub perhaps_not : (ts : Row) → starts (is_mark ";") ts ≡ true → Reads perhaps ts None ts
unfolding body_of
perhaps_not ts e = record { it = read_body perhaps ts ∙ rw e refl }

pub perhaps_read : {x : TExpr} {ts q : Row} → starts (is_mark ";") ts ≡ false → Reads expr ts x q → Reads perhaps ts (Some x) q
unfolding body_of
perhaps_read {x = x} {ts = ts} {q = q} e h = record { it = read_body perhaps ts ∙ rw e (mapped (λ x. Some x) _ x q h.it) }

pub here_read : (at : Pos) (ts : Row) → Reads origin (word "cilk_spawn" at ∷ ts) (at, None) ts
unfolding body_of
here_read at ts = record { it = read_body origin _ }

pub placed_read : (at bracket close : Pos) {x : TExpr} {ts q : Row} → Reads expr ts x (mark ")" close ∷ q) →
    Reads origin (word "cilk_spawn_at" at ∷ mark "(" bracket ∷ ts) (at, Some x) q
unfolding body_of
placed_read at bracket close {x = x} {q = q} h = record { it = read_body origin _ ∙ seq _ _ x (mark ")" close ∷ q) _ h.it refl }
