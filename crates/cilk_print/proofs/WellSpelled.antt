-- The names, literals and texts of a tree are those of the tokens that spell it.
use Rattle.std.proofs.Common.{◌≡◌, sym, subst, ℕ, Bool, true, false, List, [], ◌∷◌, ◌++◌, map, flat_map, refl}
use Rattle.std.proofs.lemmas.Grind.{flat_map-append}
use Rattle.cilk_ast.specs.declared.kind.Kind.{Kind}
use Rattle.cilk_ast.specs.declared.kind.Kind.TheVariants as kind
use Rattle.cilk_ast.specs.declared.builtin.Builtin.TheVariants as built
use Rattle.cilk_ast.specs.declared.tree.TExpr.TheBlock.{shape-the_row-TExpr-0, hidden-the_row-TExpr-0}
use Rattle.cilk_ast.specs.declared.tree.TStmt.TheBlock.{shape-the_row-TStmt-1, hidden-the_row-TStmt-1}
use Rattle.cilk_ast.specs.TreeStatement.{part_of}
use Rattle.cilk_model.specs.Lexemes.{Lexeme}
use Rattle.cilk_model.specs.GrammarForms as form
use Rattle.cilk_model.specs.GrammarForms.{Form, Val}
use Rattle.cilk_model.specs.Grammar as by
use Rattle.cilk_model.specs.Grammar.{Row, Spells}
use Rattle.cilk_model.specs.TreeTokens.{mark, name, star, expression, perhaps, origin, spawn, value, initial, declared, simple, head, statement, parameter, result, replicated_word, item, in_brackets, between_commas, behind_commas, tokens_of}
use Rattle.cilk_print.proofs.FormTokens.{prefixed_tokens, joined_tokens, call_tokens, builtin_tokens, print_tokens, block_tokens, for_tokens, cilk_for_tokens}
use Rattle.cilk_print.proofs.Clear.{well, Well, all_well, more_well}
use denote.Hole.Carrier.{hidden}

joined_well : {a b : Row} → Well a → Well b → Well (a ++ b)
joined_well all_well v = v
joined_well (more_well h w) v = more_well h (joined_well w v)

front : (a b : Row) → Well (a ++ b) → Well a
front [] b w = all_well
front (t ∷ a) b (more_well h w) = more_well h (front a b w)

back : (a b : Row) → Well (a ++ b) → Well b
back [] b w = w
back (t ∷ a) b (more_well h w) = back a b w

tail : {t : Lexeme} {c : Row} → Well (t ∷ c) → Well c
tail (more_well h w) = w

first_well : {t : Lexeme} {c : Row} → Well (t ∷ c) → well t ≡ true
first_well (more_well h w) = h

bracketed_well : {a : Row} → Well a → Well (in_brackets a)
bracketed_well w = more_well refl (joined_well w (more_well refl all_well))

star_well : (k : Kind) → Well (star k)
star_well kind.Long = all_well
star_well kind.Ptr = more_well refl all_well
star_well kind.Void = all_well
star_well kind.Int = all_well

declared_well : (k : Kind) (x : List ℕ) → well (name x) ≡ true → Well (declared k x)
declared_well k x h = more_well refl (joined_well (star_well k) (more_well h all_well))

semicolon : Well (mark ";" ∷ [])
semicolon = more_well refl all_well

result_well : (k : Kind) → Well (result k)
result_well kind.Long = more_well refl all_well
result_well kind.Ptr = more_well refl (more_well refl all_well)
result_well kind.Void = more_well refl all_well
result_well kind.Int = more_well refl all_well

global_well : (r : Bool) (k : Kind) (g : List ℕ) → well (name g) ≡ true → Well (replicated_word r ++ (declared k g ++ mark ";" ∷ []))
global_well true k g h = more_well refl (joined_well (declared_well k g h) semicolon)
global_well false k g h = joined_well (declared_well k g h) semicolon

abbrev Good : (n : Form) → Val n → Type 0
Good form.star k = Unit {0}
Good (form.expression n) x = Well (expression x)
Good (form.further n x) z = Well (expression x) → Well (expression z)
Good form.postfix x = Well (expression x)
Good (form.indexes x) z = Well (expression x) → Well (expression z)
Good form.primary x = Well (expression x)
Good form.args xs = Well (between_commas (map expression xs))
Good form.more_args xs = Well (behind_commas (map expression xs))
Good form.perhaps e = Well (perhaps e)
Good form.origin from = Well (origin from.1)
Good form.spawn s = Well (spawn s)
Good (form.value may) v = Well (value v)
Good form.initial v = Well (initial v)
Good form.local s = Well (statement s)
Good form.more_locals ss = Well (flat_map statement ss)
Good (form.simple may) s = Well (simple s) × Well (statement s)
Good (form.change may x) s = Well (expression x) → Well (simple s) × Well (statement s)
Good form.init i = Well (head (part_of i))
Good form.step n = Well (head (part_of n))
Good form.up n = Well (name n.1 ∷ [])
Good form.statement s = Well (statement s)
Good form.block s = Well (statement s)
Good form.body ss = Well (flat_map statement ss)
Good form.params ps = Well (between_commas (map parameter ps))
Good form.param p = Well (parameter p)
Good form.more_params ps = Well (behind_commas (map parameter ps))
Good (form.function at k at_name f) fs = well (name f) ≡ true → Well (flat_map item fs)
Good (form.more_globals r) gs = Well (flat_map item gs)
Good form.item fs = Well (flat_map item fs)
Good form.items fs = Well (flat_map item fs)
Good form.file tree = Well (tokens_of tree)

pub good : {n : Form} {x : Val n} {a : Row} → Spells n x a → Well a → Good n x
unfolding shape-the_row-TExpr-0 hidden-the_row-TExpr-0 shape-the_row-TStmt-1 hidden-the_row-TStmt-1 hidden
good by.no_star w = tt
good by.a_star w = tt
-- ---- Expressions

good (by.first {a} {b} s t) w = good t (back a b w) (good s (front a b w))
good by.no_further w = λ h. h
good (by.joins {at} {x} {y} {a} {b} o e s t) (more_well _ w) =
    λ h. good t (back a b w) (subst Well (sym (joined_tokens o at x y)) (joined_well h (more_well refl (good s (front a b w)))))
good (by.applied {at} {x} o s) (more_well _ w) = subst Well (sym (prefixed_tokens o at x)) (more_well refl (good s w))
good (by.cast {k} {a} {b} close s t) (more_well _ (more_well _ w)) =
    joined_well (bracketed_well (more_well refl (star_well k))) (good t (tail (back a _ w)))
good (by.operand s) w = good s w
good (by.indexed {a} {b} s t) w = good t (back a b w) (good s (front a b w))
good by.no_index w = λ h. h
good (by.index {a} {b} close s t) (more_well _ w) =
    λ h. good t (tail (back a _ w)) (joined_well h (more_well refl (joined_well (good s (front a _ w)) (more_well refl all_well))))
good by.number (more_well h w) = more_well h all_well
good by.variable (more_well h w) = more_well h all_well
good (by.paren {a} close s) (more_well _ w) = bracketed_well (good s (front a _ w))
good (by.call {at} {f} {xs} {a} close s) (more_well h (more_well _ w)) =
    subst Well (sym (call_tokens at f xs)) (more_well h (bracketed_well (good s (front a _ w))))
good (by.builtin {at} {xs} {a} which e close s) (more_well _ (more_well _ w)) =
    subst Well (sym (builtin_tokens at which xs)) (more_well refl (bracketed_well (good s (front a _ w))))
good (by.print {at} {at_text} {format} {xs} {a} close s) (more_well _ (more_well _ (more_well h w))) =
    subst Well (sym (print_tokens at at_text format xs)) (more_well refl (bracketed_well (more_well h (good s (front a _ w)))))
good (by.init_named {a} close s) (more_well _ (more_well _ (more_well _ (more_well h (more_well _ w))))) =
    more_well refl (bracketed_well (more_well refl (more_well h (more_well refl (good s (front a _ w))))))
good (by.init_address {at} {p} {v} {a} {b} comma close s t) (more_well _ (more_well _ w)) =
    subst Well (sym (builtin_tokens at built.MwReplicatedInit (p ∷ v ∷ [])))
    (more_well refl (bracketed_well (joined_well (good s (front a _ w)) (more_well refl (joined_well (good t (front b _ (tail (back a _ w)))) all_well)))))
good by.no_args w = all_well
good (by.some_args {a} {b} s t) w = joined_well (good s (front a b w)) (good t (back a b w))
good by.last_arg w = all_well
good (by.next_arg {a} {b} s t) (more_well _ w) = more_well refl (joined_well (good s (front a b w)) (good t (back a b w)))
good by.left_out w = all_well
good (by.there s) w = good s w
-- ---- Spawns, and what stands behind a `=`

good by.here w = more_well refl all_well
good (by.placed {a} close s) (more_well _ (more_well _ w)) = more_well refl (bracketed_well (good s (front a _ w)))
good (by.child {a} {b} at_name bracket close s t) w =
    let q = back a _ w in
    joined_well (good s (front a _ w)) (more_well (first_well q) (bracketed_well (good t (front b _ (tail (tail q))))))
good (by.plain s) w = good s w
good (by.spawned s) w = good s w
good by.no_initial w = all_well
good (by.an_initial s) (more_well _ w) = more_well refl (good s w)
-- ---- Locals, and the statements that are expressions, assignments and steps

good (by.declarator {k} {x} {a} at s t) w =
    let q = back a _ w in
    joined_well (joined_well (declared_well k x (first_well q)) (good t (tail q))) semicolon
good by.last_local w = all_well
good (by.next_local {a} {b} s t) (more_well _ w) = joined_well (good s (front a b w)) (good t (back a b w))
good (by.changed {a} {b} s t) w = good t (back a b w) (good s (front a b w))
good (by.up_before s) (more_well _ w) = let u = joined_well (good s w) (more_well refl all_well) in (u, joined_well u semicolon)
good (by.down_before s) (more_well _ w) = let u = joined_well (good s w) (more_well refl all_well) in (u, joined_well u semicolon)
good by.unchanged w = λ h. (h, joined_well h semicolon)
good (by.assigned s) (more_well _ w) = λ h. let u = joined_well h (more_well refl (good s w)) in (u, joined_well u semicolon)
good (by.added s) (more_well _ w) = λ h. let u = joined_well h (more_well refl (good s w)) in (u, joined_well u semicolon)
good by.up_behind w = λ h. let u = joined_well h (more_well refl all_well) in (u, joined_well u semicolon)
good by.down_behind w = λ h. let u = joined_well h (more_well refl all_well) in (u, joined_well u semicolon)
-- ---- Statements

good (by.nested s) w = good s w
good by.nothing w = semicolon
good (by.effect {a} end s) w = (good s (front a _ w)).1
good (by.lone_spawn {a} end s) w = joined_well (good s (front a _ w)) semicolon
good (by.if_alone {a} close s t) (more_well _ (more_well _ w)) = more_well refl (joined_well (bracketed_well (good s (front a _ w))) (good t (tail (back a _ w))))
good (by.if_else {a} {b} close at_else s t open_end u) (more_well _ (more_well _ w)) =
    let q = tail (back a _ w) in
    more_well refl (joined_well (bracketed_well (good s (front a _ w))) (joined_well (good t (front b _ q)) (more_well refl (good u (tail (back b _ q))))))
good (by.while_loop {a} close s t) (more_well _ (more_well _ w)) = more_well refl (joined_well (bracketed_well (good s (front a _ w))) (good t (tail (back a _ w))))
good (by.for_loop {i} {t} {n} {s} {a} {b} {c} end_init end_test close u v x z) (more_well _ (more_well _ w)) =
    let q = tail (back a _ w) in
    let r = tail (back b _ q) in
    subst Well (sym (for_tokens i t n s)) (more_well refl (more_well refl (joined_well (good u (front a _ w)) (more_well refl
    (joined_well (good v (front b _ q)) (more_well refl (joined_well (good x (front c _ r)) (more_well refl (good z (tail (back c _ r)))))))))))
good (by.cilk_for_loop {at_first} {i} {j} {l} {h} {n} {s} {a} {b} {c} end_low at_second less end_high close t u v z) (more_well _ (more_well _ (more_well _ (more_well hi (more_well _ w))))) =
    let p = back a _ w in
    let q = tail (tail (tail p)) in
    let r = tail (back b _ q) in
    subst Well (sym (cilk_for_tokens at_first at_second i j l h n s)) (more_well refl (more_well refl (more_well refl (more_well hi (more_well refl
    (joined_well (good t (front a _ w)) (more_well refl (more_well (first_well (tail p)) (more_well refl
    (joined_well (good u (front b _ q)) (more_well refl (more_well (first_well (good v (front c _ r))) (more_well refl (more_well refl (good z (tail (back c _ r)))))))))))))))))
good by.broken w = more_well refl semicolon
good by.continued w = more_well refl semicolon
good (by.returned {a} end s) (more_well _ w) = more_well refl (joined_well (good s (front a _ w)) semicolon)
good by.synced w = more_well refl semicolon
good (by.braces {ss} {a} close s) (more_well _ w) = subst Well (sym (block_tokens ss)) (more_well refl (joined_well (good s (front a _ w)) (more_well refl all_well)))
good by.no_more w = all_well
good (by.locals {ss} {rest} {a} {b} {c} t u v) (more_well _ w) =
    let q = back a _ w in
    joined_well (good t (front a _ w)) (subst Well (sym (flat_map-append statement ss rest)) (joined_well (good u (front b c q)) (good v (back b c q))))
good (by.next_statement {a} {b} s t) w = joined_well (good s (front a b w)) (good t (back a b w))
-- ---- The heads of loops

good by.no_init w = all_well
good (by.init_simple s) w = (good s w).0
good (by.init_local {k} {i} {a} at equal s t) (more_well _ w) =
    let q = back a _ w in
    joined_well (declared_well k i (first_well q)) (more_well refl (good t (tail (tail q))))
good by.no_step w = all_well
good (by.a_step s) w = (good s w).0
good by.name_first (more_well h w) = more_well h all_well
good by.name_last (more_well _ (more_well h w)) = more_well h all_well
-- ---- Functions, globals and the file

good by.no_params w = all_well
good by.void_params w = all_well
good (by.some_params {a} {b} s t) w = joined_well (good s (front a b w)) (good t (back a b w))
good (by.parameter {k} {x} {a} at s) (more_well _ w) = declared_well k x (first_well (back a _ w))
good by.last_param w = all_well
good (by.next_param {a} {b} s t) (more_well _ w) = more_well refl (joined_well (good s (front a b w)) (good t (back a b w)))
good (by.written {k} {a} close t u) (more_well _ w) =
    λ h. joined_well (joined_well (result_well k) (more_well h (joined_well (bracketed_well (good t (front a _ w))) (good u (tail (back a _ w)))))) all_well
good (by.prototype close end s) w = λ h. all_well
good (by.void_function s) (more_well _ (more_well h w)) = good s w h
good (by.int_function s) (more_well _ (more_well h w)) = good s w h
good (by.long_function {a} at_name s t) (more_well _ w) = let q = back a _ w in good t (tail q) (first_well q)
good (by.plain_globals {k} {g} {a} at s t) (more_well _ w) = let q = back a _ w in joined_well (global_well false k g (first_well q)) (good t (tail q))
good (by.replicated_globals {k} {g} {a} at s t) (more_well _ (more_well _ w)) = let q = back a _ w in joined_well (global_well true k g (first_well q)) (good t (tail q))
good by.last_global w = all_well
good (by.next_global {r} {k} {g} {a} at s t) (more_well _ w) = let q = back a _ w in joined_well (global_well r k g (first_well q)) (good t (tail q))
good by.no_items w = all_well
good (by.next_item {fs} {gs} {a} {b} s t) w = subst Well (sym (flat_map-append item fs gs)) (joined_well (good s (front a b w)) (good t (back a b w)))
good (by.whole {a} end s) w = good s (front a _ w)
