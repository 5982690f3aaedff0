-- How functions, globals and files are read, from how their parts are.
use Rattle.std.proofs.Common.{◌≡◌, Bool, true, false, List, [], ◌∷◌, ◌++◌, None, refl, ◌∙◌}
use Rattle.word_ops.specs.declared.place.Pos.{Pos}
use Rattle.cilk_ast.specs.declared.kind.Kind.{Kind}
use Rattle.cilk_ast.specs.declared.kind.Kind.TheVariants.{Void, Int}
use Rattle.cilk_ast.specs.declared.tree.TStmt.{TStmt}
use Rattle.cilk_ast.specs.declared.tree.Param.{Param}
use Rattle.cilk_ast.specs.declared.tree.Item.{Item}
use Rattle.cilk_ast.specs.declared.tree.Item.TheVariants.{Global, Function}
use Rattle.cilk_model.specs.Lexemes.{name, finish}
use Rattle.cilk_model.specs.Signs.{mark, word}
use Rattle.cilk_model.specs.Tests.{is_mark, is_finish, starts}
use Rattle.cilk_model.specs.Grammar.{Row}
use Rattle.cilk_model.specs.GrammarForms.{star, block, params, param, more_params, function, more_globals, item, items, file}
use Rattle.cilk_parser.specs.Parsers.{seen}
use Rattle.cilk_parser.specs.Kinds.{a_mark, a_word}
use Rattle.cilk_parser.specs.Reading.{body_of}
use Rattle.cilk_parser.proofs.Fuel.{read_body}
use Rattle.cilk_parser.proofs.Rules.{Reads, seq, mapped}

pub params_not : (ts : Row) → starts (is_mark ")") ts ≡ true → Reads params ts [] ts
unfolding body_of
params_not ts e = record { it = read_body params ts ∙ rw e refl }

pub void_params_read : (at : Pos) (ts : Row) → Reads params (word "void" at ∷ ts) [] ts
unfolding body_of
void_params_read at ts = record { it = read_body params _ }

pub params_read : {x : Param} {xs : List Param} {ts r q : Row} → starts (is_mark ")") ts ≡ false → seen (a_word "void") ts ≡ None → Reads param ts x r → Reads more_params r xs q →
    Reads params ts (x ∷ xs) q
unfolding body_of
params_read {x = x} {xs = xs} {ts = ts} {r = r} {q = q} d e h g =
    record { it = read_body params ts ∙ rw (d, e) (seq _ _ x r _ h.it (mapped (λ xs. x ∷ xs) _ xs q g.it)) }

pub param_read : (at_long at : Pos) (x : List _) {k : Kind} {ts q : Row} → Reads star ts k (name at x ∷ q) → Reads param (word "long" at_long ∷ ts) (record { pos = at; kind = k; name = x }) q
unfolding body_of
param_read at_long at x {k = k} {q = q} h = record { it = read_body param _ ∙ seq _ _ k (name at x ∷ q) _ h.it refl }

pub more_params_not : (ts : Row) → seen (a_mark ",") ts ≡ None → Reads more_params ts [] ts
unfolding body_of
more_params_not ts e = record { it = read_body more_params ts ∙ rw e refl }

pub more_params_read : (comma : Pos) {x : Param} {xs : List Param} {ts r q : Row} → Reads param ts x r → Reads more_params r xs q → Reads more_params (mark "," comma ∷ ts) (x ∷ xs) q
unfolding body_of
more_params_read comma {x = x} {xs = xs} {r = r} {q = q} h g = record { it = read_body more_params _ ∙ seq _ _ x r _ h.it (mapped (λ xs. x ∷ xs) _ xs q g.it) }

pub written_read : (at at_name bracket close : Pos) (k : Kind) (f : List _) {ps : List Param} {s : TStmt} {ts r q : Row} → Reads params ts ps (mark ")" close ∷ r) →
    seen (a_mark ";") r ≡ None → Reads block r s q → Reads (function at k at_name f) (mark "(" bracket ∷ ts) (Function at k at_name f ps s ∷ []) q
unfolding body_of
written_read at at_name bracket close k f {ps = ps} {s = s} {r = r} {q = q} h e g =
    record { it = read_body (function at k at_name f) _ ∙ seq _ _ ps (mark ")" close ∷ r) _ h.it (rw e (mapped (λ s. Function at k at_name f ps s ∷ []) _ s q g.it)) }

pub prototype_read : (at at_name bracket close end : Pos) (k : Kind) (f : List _) {ps : List Param} {ts q : Row} → Reads params ts ps (mark ")" close ∷ mark ";" end ∷ q) →
    Reads (function at k at_name f) (mark "(" bracket ∷ ts) [] q
unfolding body_of
prototype_read at at_name bracket close end k f {ps = ps} {q = q} h =
    record { it = read_body (function at k at_name f) _ ∙ seq _ _ ps (mark ")" close ∷ mark ";" end ∷ q) _ h.it refl }

pub last_global_read : (r : Bool) (end : Pos) (ts : Row) → Reads (more_globals r) (mark ";" end ∷ ts) [] ts
unfolding body_of
last_global_read r end ts = record { it = read_body (more_globals r) _ }

pub next_global_read : (r : Bool) (comma at : Pos) (g : List _) {k : Kind} {gs : List Item} {ts u q : Row} → Reads star ts k (name at g ∷ u) → Reads (more_globals r) u gs q →
    Reads (more_globals r) (mark "," comma ∷ ts) (Global at g k r ∷ gs) q
unfolding body_of
next_global_read r comma at g {k = k} {gs = gs} {u = u} {q = q} h m =
    record { it = read_body (more_globals r) _ ∙ seq _ _ k (name at g ∷ u) _ h.it (mapped (λ gs. Global at g k r ∷ gs) _ gs q m.it) }

pub void_function_read : (at at_name : Pos) (f : List _) {fs : List Item} {ts q : Row} → Reads (function at Void at_name f) ts fs q →
    Reads item (word "void" at ∷ name at_name f ∷ ts) fs q
unfolding body_of
void_function_read at at_name f h = record { it = read_body item _ ∙ h.it }

pub int_function_read : (at at_name : Pos) (f : List _) {fs : List Item} {ts q : Row} → Reads (function at Int at_name f) ts fs q → Reads item (word "int" at ∷ name at_name f ∷ ts) fs q
unfolding body_of
int_function_read at at_name f h = record { it = read_body item _ ∙ h.it }

pub long_function_read : (at at_name : Pos) (f : List _) {k : Kind} {fs : List Item} {ts u q : Row} → Reads star ts k (name at_name f ∷ u) → starts (is_mark "(") u ≡ true →
    Reads (function at k at_name f) u fs q → Reads item (word "long" at ∷ ts) fs q
unfolding body_of
long_function_read at at_name f {k = k} {u = u} h e g = record { it = read_body item _ ∙ seq _ _ k (name at_name f ∷ u) _ h.it (rw e g.it) }

pub plain_globals_read : (at_long at : Pos) (g : List _) {k : Kind} {gs : List Item} {ts u q : Row} → Reads star ts k (name at g ∷ u) → starts (is_mark "(") u ≡ false →
    Reads (more_globals false) u gs q → Reads item (word "long" at_long ∷ ts) (Global at g k false ∷ gs) q
unfolding body_of
plain_globals_read at_long at g {k = k} {gs = gs} {u = u} {q = q} h e m =
    record { it = read_body item _ ∙ seq _ _ k (name at g ∷ u) _ h.it (rw e (mapped (λ gs. Global at g k false ∷ gs) _ gs q m.it)) }

pub replicated_globals_read : (at_replicated at_long at : Pos) (g : List _) {k : Kind} {gs : List Item} {ts u q : Row} → Reads star ts k (name at g ∷ u) →
    Reads (more_globals true) u gs q → Reads item (word "replicated" at_replicated ∷ word "long" at_long ∷ ts) (Global at g k true ∷ gs) q
unfolding body_of
replicated_globals_read at_replicated at_long at g {k = k} {gs = gs} {u = u} {q = q} h m =
    record { it = read_body item _ ∙ seq _ _ k (name at g ∷ u) _ h.it (mapped (λ gs. Global at g k true ∷ gs) _ gs q m.it) }

pub items_end : (ts : Row) → starts is_finish ts ≡ true → Reads items ts [] ts
unfolding body_of
items_end ts e = record { it = read_body items ts ∙ rw e refl }

pub next_item_read : {fs gs : List Item} {ts r q : Row} → starts is_finish ts ≡ false → Reads item ts fs r → Reads items r gs q → Reads items ts (fs ++ gs) q
unfolding body_of
next_item_read {fs = fs} {gs = gs} {ts = ts} {r = r} {q = q} e h g = record { it = read_body items ts ∙ rw e (seq _ _ fs r _ h.it (mapped (λ gs. fs ++ gs) _ gs q g.it)) }

pub file_read : (end : Pos) {fs : List Item} {ts q : Row} → Reads items ts fs (finish end ∷ q) → Reads file ts (record { items = fs; end = end }) q
unfolding body_of
file_read end {fs = fs} {ts = ts} {q = q} h = record { it = read_body file ts ∙ seq _ _ fs (finish end ∷ q) _ h.it refl }
