-- No token of the canonical tokens of a tree is too deep, where none is of those that spell it, form by form.
use Rattle.std.proofs.Common.{◌∙◌, ap, sym, subst, [], ◌∷◌, ◌++◌, refl, append_assoc, append-nil}
use Rattle.std.proofs.lemmas.Grind.{flat_map-append}
use Rattle.cilk_ast.specs.declared.builtin.Builtin.TheVariants as built
use Rattle.cilk_ast.specs.declared.tree.TExpr.TheBlock.{shape-the_row-TExpr-0, hidden-the_row-TExpr-0}
use Rattle.cilk_ast.specs.declared.tree.Item.TheVariants.{Global}
use Rattle.cilk_ast.specs.declared.tree.TStmt.TheBlock.{shape-the_row-TStmt-1, hidden-the_row-TStmt-1}
use Rattle.cilk_model.specs.Lexemes as lexeme
use Rattle.cilk_model.specs.Signs as sign
use Rattle.cilk_model.specs.Signs.{prefix_spelling, infix_spelling, builtin_spelling}
use Rattle.cilk_model.specs.GrammarForms as form
use Rattle.cilk_model.specs.GrammarForms.{Form, Val}
use Rattle.cilk_model.specs.Grammar as by
use Rattle.cilk_model.specs.Grammar.{Row, Spells}
use Rattle.cilk_model.specs.TreeTokens.{nowhere, word, mark, name, star, expression, perhaps, origin, spawn, initial, statement, parameter, result, item}
use Rattle.cilk_print.proofs.FormTokens.{prefixed_tokens, joined_tokens, call_tokens, builtin_tokens, print_tokens, address_tokens, block_tokens, behind_bracket, for_tokens, cilk_for_tokens}
use Rattle.cilk_print.proofs.ShallowRows.{blank, Through}
use Rattle.cilk_print.proofs.RowEnds.{Balanced, no_row, token_then, both_rows, expression_balanced, perhaps_balanced, spawn_balanced, value_balanced, star_balanced}
use Rattle.cilk_print.proofs.Leads.{calm, ups, downs}
use Rattle.cilk_print.proofs.StatementRuns.{nested_keeps, keeps_is, blocks_is, plainly, raised, simple_keeps, alike_keeps, empty_keeps, none_keep, next_keeps, block_keeps, if_keeps, if_else_keeps, while_keeps, for_keeps, name_first, name_last, cilk_for_keeps}
use Rattle.cilk_print.proofs.DeclarationRuns.{declarator, no_locals, next_local, locals_keep, none_kept, next_kept, kept_is}
use Rattle.cilk_print.proofs.ItemRuns.{Listed, MoreGlobals, listed, none_listed, written_kept, prototype_kept, no_globals, next_global, plain_kept, replicated_kept, long_function_kept, file_through}
use Rattle.cilk_print.proofs.LevelForms.{Levelled, joint, simply_is, for_rows, cilk_for_rows}
use denote.Hole.Carrier.{hidden}

pub levelled : {n : Form} {x : Val n} {a : Row} → Spells n x a → Levelled n x (blank a)
unfolding shape-the_row-TExpr-0 hidden-the_row-TExpr-0 shape-the_row-TStmt-1 hidden-the_row-TStmt-1 hidden
levelled by.no_star = refl
levelled by.a_star = refl
-- ---- Expressions

levelled (by.first {a} {b} s t) = joint a b (levelled s) ∙ sym (levelled t)
levelled (by.no_further {x}) = sym (append-nil (expression x))
levelled (by.joins {at} {x} {y} {a} {b} o e s t) =
    levelled t ∙ ap (λ c. c ++ blank b) (joined_tokens o at x y) ∙ append_assoc (expression x) (mark (infix_spelling o) ∷ expression y) (blank b)
    ∙ ap (λ c. expression x ++ (mark (infix_spelling o) ∷ c)) (sym (joint a b (levelled s)))
levelled (by.applied {at} {x} o s) = ap (λ c. mark (prefix_spelling o) ∷ c) (levelled s) ∙ sym (prefixed_tokens o at x)
levelled (by.cast {k} {x} {a} {b} close s t) =
    ap (λ c. mark "(" ∷ word "long" ∷ c) (joint a (sign.mark ")" close ∷ b) (levelled s))
    ∙ ap (λ c. mark "(" ∷ word "long" ∷ (star k ++ (mark ")" ∷ c))) (levelled t) ∙ sym (behind_bracket (mark "(" ∷ word "long" ∷ star k) (expression x))
levelled (by.operand s) = levelled s
levelled (by.indexed {a} {b} s t) = joint a b (levelled s) ∙ sym (levelled t)
levelled (by.no_index {x}) = sym (append-nil (expression x))
levelled (by.index {x} {i} {a} {b} close s t) =
    levelled t ∙ append_assoc (expression x) (mark "[" ∷ (expression i ++ mark "]" ∷ [])) (blank b)
    ∙ ap (λ c. expression x ++ (mark "[" ∷ c)) (append_assoc (expression i) (mark "]" ∷ []) (blank b) ∙ sym (joint a (sign.mark "]" close ∷ b) (levelled s)))
levelled by.number = refl
levelled by.variable = refl
levelled (by.paren {a} close s) = ap (λ c. mark "(" ∷ c) (joint a (sign.mark ")" close ∷ []) (levelled s))
levelled (by.call {at} {f} {xs} {a} close s) =
    ap (λ c. name f ∷ mark "(" ∷ c) (joint a (sign.mark ")" close ∷ []) (levelled s)) ∙ sym (call_tokens at f xs)
levelled (by.builtin {at} {xs} {a} which e close s) =
    ap (λ c. word (builtin_spelling which) ∷ mark "(" ∷ c) (joint a (sign.mark ")" close ∷ []) (levelled s)) ∙ sym (builtin_tokens at which xs)
levelled (by.print {at} {at_text} {format} {xs} {a} close s) =
    ap (λ c. word "printf" ∷ mark "(" ∷ lexeme.text nowhere format ∷ c) (joint a (sign.mark ")" close ∷ []) (levelled s)) ∙ sym (print_tokens at at_text format xs)
levelled (by.init_named {g} {a} close s) =
    ap (λ c. word "mw_replicated_init" ∷ mark "(" ∷ mark "&" ∷ name g ∷ mark "," ∷ c) (joint a (sign.mark ")" close ∷ []) (levelled s))
levelled (by.init_address {at} {p} {v} {a} {b} comma close s t) =
    ap (λ c. word "mw_replicated_init" ∷ mark "(" ∷ c)
    (joint a (sign.mark "," comma ∷ (b ++ sign.mark ")" close ∷ [])) (levelled s)
    ∙ ap (λ c. expression p ++ (mark "," ∷ c)) (joint b (sign.mark ")" close ∷ []) (levelled t)) ∙ sym (address_tokens p v))
    ∙ sym (builtin_tokens at built.MwReplicatedInit (p ∷ v ∷ []))
levelled by.no_args = refl
levelled (by.some_args {x} {a} {b} s t) = joint a b (levelled s) ∙ ap (λ c. expression x ++ c) (levelled t)
levelled by.last_arg = refl
levelled (by.next_arg {x} {a} {b} s t) = ap (λ c. mark "," ∷ c) (joint a b (levelled s) ∙ ap (λ c. expression x ++ c) (levelled t))
levelled by.left_out = refl
levelled (by.there s) = levelled s
-- ---- Spawns, and what stands behind a `=`

levelled by.here = refl
levelled (by.placed {a} close s) = ap (λ c. word "cilk_spawn_at" ∷ mark "(" ∷ c) (joint a (sign.mark ")" close ∷ []) (levelled s))
levelled (by.child {from} {f} {a} {b} at_name bracket close s t) =
    joint a (lexeme.name at_name f ∷ sign.mark "(" bracket ∷ (b ++ sign.mark ")" close ∷ [])) (levelled s)
    ∙ ap (λ c. origin from.1 ++ (name f ∷ mark "(" ∷ c)) (joint b (sign.mark ")" close ∷ []) (levelled t))
levelled (by.plain s) = levelled s
levelled (by.spawned s) = levelled s
levelled by.no_initial = refl
levelled (by.an_initial s) = ap (λ c. mark "=" ∷ c) (levelled s)
-- ---- Locals, and the statements that are expressions, assignments and steps

levelled (by.declarator {k} {x} {v} {a} {b} at s t) = record {
  kind = k;
  called = x;
  starts = v;
  row = joint a (lexeme.name at x ∷ b) (levelled s) ∙ ap (λ c. star k ++ (name x ∷ c)) (levelled t);
  tokens = ap (λ c. word "long" ∷ (c ++ mark ";" ∷ [])) (append_assoc (star k) (name x ∷ []) (initial v));
}
levelled by.last_local = no_locals
levelled (by.next_local {s} {ss} {a} {b} t u) =
    let d = levelled t in
    subst (Levelled form.more_locals (s ∷ ss)) (ap (λ c. mark "," ∷ c) (sym (joint a b d.row))) (next_local d.kind d.called d.starts s d.tokens (levelled u))
levelled (by.changed {x} {s} {a} {b} t u) =
    let g = levelled u in
    record { ends = g.ends; simply = simply_is (joint a b (levelled t) ∙ sym g.tokens) (plainly (subst Balanced (sym g.tokens) (both_rows (expression x) (blank b) (expression_balanced x) g.balanced))) }
levelled (by.up_before {x} s) = record { ends = refl; simply = simply_is (ap (λ c. mark "++" ∷ c) (levelled s)) (raised x (mark "++") ups refl) }
levelled (by.down_before {x} s) = record { ends = refl; simply = simply_is (ap (λ c. mark "--" ∷ c) (levelled s)) (raised x (mark "--") downs refl) }
levelled (by.unchanged {x}) = record { ends = refl; tokens = sym (append-nil (expression x)); balanced = no_row }
levelled (by.assigned {x} {v} s) = record {
  ends = refl;
  tokens = ap (λ c. expression x ++ (mark "=" ∷ c)) (sym (levelled s));
  balanced = token_then (mark "=") _ (λ z e. refl) (subst Balanced (sym (levelled s)) (value_balanced v));
}
levelled (by.added {x} {y} s) = record {
  ends = refl;
  tokens = ap (λ c. expression x ++ (mark "+=" ∷ c)) (sym (levelled s));
  balanced = token_then (mark "+=") _ (λ z e. refl) (subst Balanced (sym (levelled s)) (expression_balanced y));
}
levelled by.up_behind = record { ends = refl; tokens = refl; balanced = token_then (mark "++") [] (λ z e. refl) no_row }
levelled by.down_behind = record { ends = refl; tokens = refl; balanced = token_then (mark "--") [] (λ z e. refl) no_row }
-- ---- Statements

levelled (by.nested s) = nested_keeps (levelled s)
levelled by.nothing = empty_keeps
levelled (by.effect {a} end s) =
    let g = levelled s in
    keeps_is g.ends (joint a (sign.mark ";" end ∷ []) refl) (simple_keeps g.simply)
levelled (by.lone_spawn {s} {a} end t) =
    keeps_is refl (joint a (sign.mark ";" end ∷ []) (levelled t)) (alike_keeps (spawn s) (spawn_balanced s))
levelled (by.if_alone {x} {s} {a} {b} close t u) =
    keeps_is (ap (λ c. word "if" ∷ mark "(" ∷ c) (behind_bracket (expression x) (statement s)))
    (ap (λ c. word "if" ∷ mark "(" ∷ c) (joint a (sign.mark ")" close ∷ b) (levelled t))) (if_keeps x (levelled u))
levelled (by.if_else {x} {s} {r} {a} {b} {c} close at_else t u open_end v) =
    keeps_is (ap (λ q. word "if" ∷ mark "(" ∷ q) (behind_bracket (expression x) (statement s ++ (word "else" ∷ statement r))))
    (ap (λ q. word "if" ∷ mark "(" ∷ q) (joint a (sign.mark ")" close ∷ (b ++ (sign.word "else" at_else ∷ c))) (levelled t)
    ∙ ap (λ q. expression x ++ (mark ")" ∷ q)) (joint b (sign.word "else" at_else ∷ c) refl)))
    (if_else_keeps x (levelled u) (levelled v))
levelled (by.while_loop {x} {s} {a} {b} close t u) =
    keeps_is (ap (λ c. word "while" ∷ mark "(" ∷ c) (behind_bracket (expression x) (statement s)))
    (ap (λ c. word "while" ∷ mark "(" ∷ c) (joint a (sign.mark ")" close ∷ b) (levelled t))) (while_keeps x (levelled u))
levelled (by.for_loop {i} {t} {n} {s} {a} {b} {c} {d} end_init end_test close u v w z) =
    keeps_is (for_tokens i t n s)
    (ap (λ q. word "for" ∷ mark "(" ∷ q) (for_rows a b c d end_init end_test close (levelled v)))
    (for_keeps t (levelled u) (levelled w) (levelled z))
levelled (by.cilk_for_loop {at_first} {i} {j} {l} {h} {n} {s} {a} {b} {c} {d} end_low at_second less end_high close t u v w) =
    keeps_is (cilk_for_tokens at_first at_second i j l h n s)
    (ap (λ q. word "cilk_for" ∷ mark "(" ∷ word "long" ∷ name i ∷ mark "=" ∷ q) (cilk_for_rows a b c d j end_low at_second less end_high close (levelled t) (levelled u)))
    (cilk_for_keeps i j n.1 l h (levelled v) (levelled w))
levelled (by.broken {at}) = alike_keeps (word "break" ∷ []) (token_then (word "break") [] (λ z e. refl) no_row)
levelled (by.continued {at}) = alike_keeps (word "continue" ∷ []) (token_then (word "continue") [] (λ z e. refl) no_row)
levelled (by.returned {v} {a} end s) =
    keeps_is refl (ap (λ c. word "return" ∷ c) (joint a (sign.mark ";" end ∷ []) (levelled s)))
    (alike_keeps (word "return" ∷ perhaps v) (token_then (word "return") (perhaps v) (λ z e. refl) (perhaps_balanced v)))
levelled by.synced = alike_keeps (word "cilk_sync" ∷ []) (token_then (word "cilk_sync") [] (λ z e. refl) no_row)
levelled (by.braces {ss} {a} close s) =
    blocks_is (block_tokens ss) (ap (λ c. mark "{" ∷ c) (joint a (sign.mark "}" close ∷ []) refl)) (block_keeps (levelled s))
levelled by.no_more = none_keep
levelled (by.locals {s} {ss} {rest} {a} {b} {c} t u v) =
    let d = levelled t in
    keeps_is refl (ap (λ q. word "long" ∷ q) (joint a (b ++ c) d.row ∙ ap (λ q. declarator d.kind d.called d.starts ++ q) (joint b c refl)))
    (locals_keep ss rest d.kind d.called d.starts s d.tokens (levelled u) (levelled v))
levelled (by.next_statement {a} {b} s t) = keeps_is refl (joint a b refl) (next_keeps (levelled s) (levelled t))
-- ---- The heads of loops

levelled by.no_init = plainly no_row
levelled (by.init_simple s) = (levelled s).simply
levelled (by.init_local {k} {i} {x} {a} {b} at equal s t) =
    simply_is (ap (λ c. word "long" ∷ c) (joint a (lexeme.name at i ∷ sign.mark "=" equal ∷ b) (levelled s) ∙ ap (λ c. star k ++ (name i ∷ mark "=" ∷ c)) (levelled t)
    ∙ sym (append_assoc (star k) (name i ∷ []) (mark "=" ∷ expression x))))
    (plainly (token_then (word "long") _ (λ z e. refl) (both_rows (star k ++ name i ∷ []) (mark "=" ∷ expression x)
    (both_rows (star k) (name i ∷ []) (star_balanced k) (token_then (name i) [] (λ z e. refl) no_row)) (token_then (mark "=") (expression x) (λ z e. refl) (expression_balanced x)))))
levelled by.no_step = plainly no_row
levelled (by.a_step s) = (levelled s).simply
levelled by.name_first = name_first
levelled by.name_last = name_last
-- ---- Functions, globals and the file

levelled by.no_params = listed
levelled by.void_params = none_listed refl
levelled (by.some_params {p} {ps} {a} {b} s t) =
    subst (Listed (p ∷ ps)) (sym (joint a b (levelled s) ∙ ap (λ c. parameter p ++ c) (levelled t))) listed
levelled (by.parameter {k} {x} {a} at s) = ap (λ c. word "long" ∷ c) (joint a (lexeme.name at x ∷ []) (levelled s))
levelled by.last_param = refl
levelled (by.next_param {p} {a} {b} s t) = ap (λ c. mark "," ∷ c) (joint a b (levelled s) ∙ ap (λ c. parameter p ++ c) (levelled t))
levelled (by.written {at} {at_name} {k} {f} {s} {a} {b} close t u) =
    kept_is refl (ap (λ c. result k ++ (name f ∷ mark "(" ∷ c)) (joint a (sign.mark ")" close ∷ b) refl)) (written_kept at at_name k f s (levelled t) (levelled u))
levelled (by.prototype {k} {f} {a} close end s) =
    kept_is refl (ap (λ c. result k ++ (name f ∷ mark "(" ∷ c)) (joint a (sign.mark ")" close ∷ sign.mark ";" end ∷ []) refl)) (prototype_kept k f (levelled s))
levelled (by.void_function s) = levelled s
levelled (by.int_function s) = levelled s
levelled (by.long_function {at} {f} {fs} {a} {b} at_name s t) = long_function_kept f fs at at_name a b s (levelled t)
levelled (by.plain_globals {k} {g} {gs} {a} {b} at s t) =
    kept_is refl (ap (λ c. word "long" ∷ c) (joint a (lexeme.name at g ∷ b) (levelled s))) (plain_kept at g k (levelled t))
levelled (by.replicated_globals {k} {g} {gs} {a} {b} at s t) =
    kept_is refl (ap (λ c. word "replicated" ∷ word "long" ∷ c) (joint a (lexeme.name at g ∷ b) (levelled s))) (replicated_kept at g k (levelled t))
levelled by.last_global = no_globals
levelled (by.next_global {r} {k} {g} {gs} {a} {b} at s t) =
    subst (MoreGlobals (Global at g k r ∷ gs)) (ap (λ c. mark "," ∷ c) (sym (joint a (lexeme.name at g ∷ b) (levelled s)))) (next_global at g k r (levelled t))
levelled by.no_items = none_kept
levelled (by.next_item {fs} {gs} {a} {b} s t) = kept_is (flat_map-append item fs gs) (joint a b refl) (next_kept (levelled s) (levelled t))
levelled (by.whole {fs} {a} end s) = λ through. file_through (levelled s) (subst (Through (calm 0 [])) (joint a (lexeme.finish end ∷ []) refl) through)
