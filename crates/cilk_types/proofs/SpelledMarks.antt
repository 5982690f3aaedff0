-- A tree has no more marks and words than the row that spells it has tokens, form by form.
use Rattle.std.proofs.Common.{[], ◌∷◌, Some, None, arith, length-append}
use Rattle.cilk_ast.specs.declared.builtin.Builtin.TheVariants as built
use Rattle.cilk_ast.specs.declared.tree.TExpr.TheBlock.{shape-the_row-TExpr-0, hidden-the_row-TExpr-0}
use Rattle.cilk_ast.specs.declared.tree.TStmt.TheBlock.{shape-the_row-TStmt-1, hidden-the_row-TStmt-1}
use Rattle.cilk_model.specs.GrammarForms.{Form, Val}
use Rattle.cilk_model.specs.Grammar as by
use Rattle.cilk_model.specs.Grammar.{Row, Spells}
use Rattle.cilk_types.proofs.SpelledForms.{Marked, prefixed_marks, joined_marks, call_marks, builtin_marks, print_marks, block_marks, if_marks, for_marks, body_sum, items_sum}
use denote.Hole.Carrier.{hidden}

pub marked : {n : Form} {x : Val n} {a : Row} → Spells n x a → Marked n x a
unfolding shape-the_row-TExpr-0 hidden-the_row-TExpr-0 shape-the_row-TStmt-1 hidden-the_row-TStmt-1 hidden
marked by.no_star = tt
marked by.a_star = tt
-- ---- Expressions

marked (by.first s t) = let p = marked s in let q = marked t in simp length-append (omega arith)
marked by.no_further = omega arith
marked (by.joins {at} {x} {y} o e s t) =
    let p = marked s in let q = marked t in let m = joined_marks o at x y in simp length-append (omega arith)
marked (by.applied {at} {x} o s) = let p = marked s in let m = prefixed_marks o at x in omega arith
marked (by.cast close s t) = let q = marked t in simp length-append (omega arith)
marked (by.operand s) = marked s
marked (by.indexed s t) = let p = marked s in let q = marked t in simp length-append (omega arith)
marked by.no_index = omega arith
marked (by.index close s t) = let p = marked s in let q = marked t in simp length-append (omega arith)
marked by.number = omega arith
marked by.variable = omega arith
marked (by.paren close s) = let p = marked s in simp length-append (omega arith)
marked (by.call {at} {f} {xs} close s) = let p = marked s in let m = call_marks at f xs in simp length-append (omega arith)
marked (by.builtin {at} {xs} which e close s) =
    let p = marked s in let m = builtin_marks at which xs in simp length-append (omega arith)
marked (by.print {at} {at_text} {format} {xs} close s) =
    let p = marked s in let m = print_marks at at_text format xs in simp length-append (omega arith)
marked (by.init_named close s) = let p = marked s in simp length-append (omega arith)
marked (by.init_address {at} {p} {v} comma close s t) =
    let l = marked s in let r = marked t in let m = builtin_marks at built.MwReplicatedInit (p ∷ v ∷ []) in simp length-append (omega arith)
marked by.no_args = omega arith
marked (by.some_args s t) = let p = marked s in let q = marked t in simp length-append (omega arith)
marked by.last_arg = omega arith
marked (by.next_arg s t) = let p = marked s in let q = marked t in simp length-append (omega arith)
marked by.left_out = omega arith
marked (by.there s) = marked s
-- ---- Spawns, and what stands behind a `=`

marked by.here = omega arith
marked (by.placed close s) = let p = marked s in simp length-append (omega arith)
marked (by.child at_name bracket close s t) = let p = marked s in let q = marked t in simp length-append (omega arith)
marked (by.plain s) = marked s
marked (by.spawned s) = marked s
marked by.no_initial = omega arith
marked (by.an_initial s) = let p = marked s in omega arith
-- ---- Locals, and the statements that are expressions, assignments and steps

marked (by.declarator at s t) = let q = marked t in simp length-append (omega arith)
marked by.last_local = omega arith
marked (by.next_local s t) = let p = marked s in let q = marked t in simp length-append (omega arith)
marked (by.changed s t) = let p = marked s in let q = marked t in simp length-append (omega arith)
marked (by.up_before s) = let p = marked s in omega arith
marked (by.down_before s) = let p = marked s in omega arith
marked by.unchanged = omega arith
marked (by.assigned s) = let p = marked s in omega arith
marked (by.added s) = let p = marked s in omega arith
marked by.up_behind = omega arith
marked by.down_behind = omega arith
-- ---- Statements

marked (by.nested s) = marked s
marked by.nothing = omega arith
marked (by.effect end s) = let p = marked s in simp length-append (omega arith)
marked (by.lone_spawn end s) = let p = marked s in simp length-append (omega arith)
marked (by.if_alone {x} {s} close t u) =
    let p = marked t in let q = marked u in let m = if_marks x s None in simp length-append (omega arith)
marked (by.if_else {x} {s} {r} close at_else t u open_end v) =
    let p = marked t in let q = marked u in let l = marked v in let m = if_marks x s (Some r) in simp length-append (omega arith)
marked (by.while_loop close t u) = let p = marked t in let q = marked u in simp length-append (omega arith)
marked (by.for_loop {i} {t} {n} {s} end_init end_test close u v w z) =
    let p = marked u in let q = marked v in let l = marked w in let r = marked z in let m = for_marks i t n s in simp length-append (omega arith)
marked (by.cilk_for_loop end_low at_second less end_high close t u v w) =
    let p = marked t in let q = marked u in let l = marked v in let r = marked w in simp length-append (omega arith)
marked by.broken = omega arith
marked by.continued = omega arith
marked (by.returned end s) = let p = marked s in simp length-append (omega arith)
marked by.synced = omega arith
marked (by.braces {ss} close s) = let p = marked s in let m = block_marks ss in simp length-append (omega arith)
marked by.no_more = omega arith
marked (by.locals {s} {ss} {rest} t u v) =
    let p = marked t in let q = marked u in let l = marked v in let m = body_sum ss rest in simp length-append (omega arith)
marked (by.next_statement s t) = let p = marked s in let q = marked t in simp length-append (omega arith)
-- ---- The heads of loops

marked by.no_init = omega arith
marked (by.init_simple s) = marked s
marked (by.init_local at equal s t) = let q = marked t in simp length-append (omega arith)
marked by.no_step = omega arith
marked (by.a_step s) = marked s
marked by.name_first = omega arith
marked by.name_last = omega arith
-- ---- Functions, globals and the file

marked by.no_params = tt
marked by.void_params = tt
marked (by.some_params s t) = tt
marked (by.parameter at s) = tt
marked by.last_param = tt
marked (by.next_param s t) = tt
marked (by.written close t u) = let q = marked u in simp length-append (omega arith)
marked (by.prototype close end s) = omega arith
marked (by.void_function s) = let p = marked s in omega arith
marked (by.int_function s) = let p = marked s in omega arith
marked (by.long_function at_name s t) = let q = marked t in simp length-append (omega arith)
marked (by.plain_globals at s t) = let q = marked t in simp length-append (omega arith)
marked (by.replicated_globals at s t) = let q = marked t in simp length-append (omega arith)
marked by.last_global = omega arith
marked (by.next_global at s t) = let q = marked t in simp length-append (omega arith)
marked by.no_items = omega arith
marked (by.next_item {fs} {gs} s t) = let p = marked s in let q = marked t in let m = items_sum fs gs in simp length-append (omega arith)
marked (by.whole end s) = let p = marked s in simp length-append (omega arith)
