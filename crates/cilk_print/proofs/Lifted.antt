-- The canonical tokens of a tree that some tokens spell spell the same tree, form by form.
use Rattle.std.proofs.Common.{◌∙◌, ap, sym, true, false, [], ◌∷◌, ◌++◌, map, refl, append_assoc, append-nil, Some, None}
use Rattle.std.proofs.lemmas.Grind.{flat_map-append}
use Rattle.cilk_ast.specs.declared.builtin.Builtin.TheVariants as built
use Rattle.cilk_ast.specs.declared.tree.TExpr as tree
use Rattle.cilk_ast.specs.declared.tree.TExpr.{TExpr}
use Rattle.cilk_ast.specs.declared.tree.TExpr.TheBlock.{shape-the_row-TExpr-0, hidden-the_row-TExpr-0}
use Rattle.cilk_ast.specs.declared.tree.TStmt as stmt
use Rattle.cilk_ast.specs.declared.tree.TStmt.{TStmt}
use Rattle.cilk_ast.specs.declared.tree.TStmt.TheBlock.{shape-the_row-TStmt-1, hidden-the_row-TStmt-1}
use Rattle.cilk_ast.specs.declared.tree.TValue.TheVariants.{Plain, Spawned}
use Rattle.cilk_ast.specs.declared.tree.Item.TheVariants.{Function}
use Rattle.cilk_model.specs.Signs.{prefixed, joined, infix_spelling}
use Rattle.cilk_model.specs.GrammarForms.{Form, Val}
use Rattle.cilk_model.specs.Grammar as by
use Rattle.cilk_model.specs.Grammar.{Row, Spells}
use Rattle.cilk_model.specs.SameTree as same
use Rattle.cilk_model.specs.TreeTokens.{word, mark, name, star, expression, value, initial, statement, item, parameter, between_commas}
use Rattle.cilk_print.proofs.Saying.{nothing, token, append, mapped, reads_is}
use Rattle.cilk_print.proofs.FormTokens.{prefixed_tokens, same_prefixed, joined_tokens, same_joined, raised, call_tokens, builtin_tokens, print_tokens, address_tokens, block_tokens, behind_bracket, for_tokens, cilk_for_tokens, ends_open_same}
use Rattle.cilk_print.proofs.LiftedLists.{local_then, all_then, same_parameter, items_join, same_join, global_then, void_item, int_item, long_item}
use Rattle.cilk_print.proofs.Lifts.{Lifts, none, more, dropped, kept}
use denote.Hole.Carrier.{hidden}

pub lifts : {n : Form} {x : Val n} {a : Row} → Spells n x a → Lifts n x
unfolding shape-the_row-TExpr-0 hidden-the_row-TExpr-0 shape-the_row-TStmt-1 hidden-the_row-TStmt-1 hidden
lifts by.no_star = nothing by.no_star
lifts by.a_star = token (λ at. nothing by.a_star)
-- ---- Expressions

lifts (by.first {n} {x} {z} s t) =
    let g = lifts t in
    reads_is g.tokens (append (lifts s) (λ f m. mapped (λ b r. record { tree = r.tree; spelled = by.first m.spelled r.spelled; same = r.same }) (g.reads m.tree m.same)))
lifts (by.no_further {n} {x}) = record {
  behind = [];
  tokens = sym (append-nil (expression x));
  reads = λ y s. nothing (record { tree = y; spelled = by.no_further; same = s });
}
lifts (by.joins {n} {at} {x} {y} {z} o e s t) =
    let g = lifts t in
    record {
      behind = mark (infix_spelling o) ∷ (expression y ++ g.behind);
      tokens = g.tokens ∙ ap (λ c. c ++ g.behind) (joined_tokens o at x y) ∙ append_assoc (expression x) (mark (infix_spelling o) ∷ expression y) g.behind;
      reads = λ l same_left. token (λ there. append (lifts s) (λ f m.
          mapped (λ b r. record { tree = r.tree; spelled = by.joins o e m.spelled r.spelled; same = r.same })
          (g.reads (joined o there l m.tree) (same_joined o at there x y l m.tree same_left m.same))));
    }
lifts (by.applied {at} {x} o s) =
    reads_is (prefixed_tokens o at x) (token (λ there. mapped (λ b m. record { tree = prefixed o there m.tree; spelled = by.applied o m.spelled; same = same_prefixed o at there x m.tree m.same }) (lifts s)))
lifts (by.cast {at} {at_long} {k} {x} close s t) =
    token (λ there. token (λ long_there. reads_is (behind_bracket (star k) (expression x)) (append (lifts s) (λ f m. token (λ close_there.
    mapped (λ b r. record { tree = tree.Cast there k r.tree; spelled = by.cast close_there m r.spelled; same = same.cast r.same }) (lifts t))))))
lifts (by.operand s) = mapped (λ b m. record { tree = m.tree; spelled = by.operand m.spelled; same = m.same }) (lifts s)
lifts (by.indexed s t) =
    let g = lifts t in
    reads_is g.tokens (append (lifts s) (λ f m. mapped (λ b r. record { tree = r.tree; spelled = by.indexed m.spelled r.spelled; same = r.same }) (g.reads m.tree m.same)))
lifts (by.no_index {x}) = record {
  behind = [];
  tokens = sym (append-nil (expression x));
  reads = λ y s. nothing (record { tree = y; spelled = by.no_index; same = s });
}
lifts (by.index {at} {x} {i} {y} close s t) =
    let g = lifts t in
    record {
      behind = mark "[" ∷ (expression i ++ (mark "]" ∷ g.behind));
      tokens = g.tokens ∙ append_assoc (expression x) (mark "[" ∷ (expression i ++ mark "]" ∷ [])) g.behind
          ∙ ap (λ c. expression x ++ (mark "[" ∷ c)) (append_assoc (expression i) (mark "]" ∷ []) g.behind);
      reads = λ l same_base. token (λ there. append (lifts s) (λ f m. token (λ close_there.
          mapped (λ b r. record { tree = r.tree; spelled = by.index close_there m.spelled r.spelled; same = r.same })
          (g.reads (tree.Index there l m.tree) (same.index same_base m.same)))));
    }
lifts (by.number {at} {v}) = token (λ there. nothing (record { tree = tree.Number there v; spelled = by.number; same = same.number }))
lifts (by.variable {at} {x}) = token (λ there. nothing (record { tree = tree.Var there x; spelled = by.variable; same = same.variable }))
lifts (by.paren close s) =
    token (λ there. append (lifts s) (λ f m. token (λ close_there. nothing (record { tree = tree.Paren there m.tree; spelled = by.paren close_there m.spelled; same = same.paren m.same }))))
lifts (by.call {at} {bracket} {f} {xs} close s) =
    reads_is (call_tokens at f xs) (token (λ there. token (λ bracket_there. append (lifts s) (λ a m. token (λ close_there.
    nothing (record { tree = tree.Call there f m.tree; spelled = by.call close_there m.spelled; same = same.call m.same }))))))
lifts (by.builtin {at} {bracket} {xs} which e close s) =
    reads_is (builtin_tokens at which xs) (token (λ there. token (λ bracket_there. append (lifts s) (λ a m. token (λ close_there.
    nothing (record { tree = tree.Builtin there which m.tree; spelled = by.builtin which e close_there m.spelled; same = same.builtin m.same }))))))
lifts (by.print {at} {bracket} {at_text} {format} {xs} close s) =
    reads_is (print_tokens at at_text format xs) (token (λ there. token (λ bracket_there. token (λ text_there. append (lifts s) (λ a m. token (λ close_there.
    nothing (record { tree = tree.Print there text_there format m.tree; spelled = by.print close_there m.spelled; same = same.print m.same })))))))
lifts (by.init_named {at} {bracket} {ampersand} {at_name} {comma} {g} {v} close s) =
    token (λ there. token (λ bracket_there. token (λ ampersand_there. token (λ name_there. token (λ comma_there. append (lifts s) (λ a m. token (λ close_there.
    nothing (record { tree = tree.InitAt there name_there g m.tree; spelled = by.init_named close_there m.spelled; same = same.init_at m.same }))))))))
lifts (by.init_address {at} {bracket} {p} {v} comma close s t) =
    reads_is (builtin_tokens at built.MwReplicatedInit (p ∷ v ∷ []) ∙ ap (λ c. word "mw_replicated_init" ∷ mark "(" ∷ c) (address_tokens p v))
    (token (λ there. token (λ bracket_there. append (lifts s) (λ a m. token (λ comma_there. append (lifts t) (λ b r. token (λ close_there.
    nothing (record {
      tree = tree.Builtin there built.MwReplicatedInit (m.tree ∷ r.tree ∷ []);
      spelled = by.init_address comma_there close_there m.spelled r.spelled;
      same = same.builtin (same.more_expressions m.same (same.more_expressions r.same same.no_expressions));
    }))))))))
lifts by.no_args = nothing (record { tree = []; spelled = by.no_args; same = same.no_expressions })
lifts (by.some_args s t) =
    append (lifts s) (λ a m. mapped (λ b r. record { tree = m.tree ∷ r.tree; spelled = by.some_args m.spelled r.spelled; same = same.more_expressions m.same r.same }) (lifts t))
lifts by.last_arg = nothing (record { tree = []; spelled = by.last_arg; same = same.no_expressions })
lifts (by.next_arg s t) =
    token (λ comma_there. append (lifts s) (λ a m.
    mapped (λ b r. record { tree = m.tree ∷ r.tree; spelled = by.next_arg m.spelled r.spelled; same = same.more_expressions m.same r.same }) (lifts t)))
lifts by.left_out = nothing (record { tree = None; spelled = by.left_out; same = same.no_expression })
lifts (by.there s) = mapped (λ b m. record { tree = Some m.tree; spelled = by.there m.spelled; same = same.an_expression m.same }) (lifts s)
-- ---- Spawns, and what stands behind a `=`

lifts by.here = token (λ there. nothing (record { tree = (there, None); spelled = by.here; same = same.no_expression }))
lifts (by.placed close s) =
    token (λ there. token (λ bracket_there. append (lifts s) (λ a m. token (λ close_there.
    nothing (record { tree = (there, Some m.tree); spelled = by.placed close_there m.spelled; same = same.an_expression m.same })))))
lifts (by.child {from} {f} {xs} at_name bracket close s t) =
    append (lifts s) (λ a m. token (λ name_there. token (λ bracket_there. append (lifts t) (λ b r. token (λ close_there.
    nothing (record {
      tree = record { pos = m.tree.0; hint = m.tree.1; name_pos = name_there; name = f; args = r.tree };
      spelled = by.child name_there bracket_there close_there m.spelled r.spelled;
      same = same.spawn m.same r.same;
    }))))))
lifts (by.plain s) = mapped (λ b m. record { tree = Plain m.tree; spelled = by.plain m.spelled; same = same.plain m.same }) (lifts s)
lifts (by.spawned s) = mapped (λ b m. record { tree = Spawned m.tree; spelled = by.spawned m.spelled; same = same.spawned m.same }) (lifts s)
lifts by.no_initial = nothing (record { tree = None; spelled = by.no_initial; same = same.no_value })
lifts (by.an_initial s) =
    token (λ there. mapped (λ b m. record { tree = Some m.tree; spelled = by.an_initial m.spelled; same = same.a_value m.same }) (lifts s))
-- ---- Locals, and the statements that are expressions, assignments and steps

lifts (by.declarator {k} {x} {v} at s t) = record {
  behind = star k ++ (name x ∷ initial v);
  tokens = ap (λ c. word "long" ∷ (c ++ mark ";" ∷ [])) (append_assoc (star k) (name x ∷ []) (initial v));
  reads = append (lifts s) (λ f m. token (λ there.
      mapped (λ b r. record { tree = stmt.Local there k x r.tree; spelled = by.declarator there m r.spelled; same = same.local r.same }) (lifts t)));
}
lifts by.last_local = none
lifts (by.next_local s t) = more (lifts s) (lifts t)
lifts (by.changed s t) =
    let g = lifts t in
    record {
      ends = g.ends;
      reads = reads_is g.tokens (append (lifts s) (λ f m.
          mapped (λ b r. record { tree = r.tree; spelled = by.changed m.spelled r.spelled; same = r.same }) (g.reads m.tree m.same)));
    }
lifts (by.up_before s) = record {
  ends = refl;
  reads = append (lifts s) (λ f m. token (λ there.
      nothing (record { tree = stmt.Up m.tree; spelled = by.changed (raised 10 m.tree f m.spelled) by.up_behind; same = same.up m.same })));
}
lifts (by.down_before s) = record {
  ends = refl;
  reads = append (lifts s) (λ f m. token (λ there.
      nothing (record { tree = stmt.Down m.tree; spelled = by.changed (raised 10 m.tree f m.spelled) by.down_behind; same = same.down m.same })));
}
lifts (by.unchanged {x}) = record {
  behind = [];
  tokens = sym (append-nil (expression x));
  ends = refl;
  reads = λ y s. nothing (record { tree = stmt.Eval y; spelled = by.unchanged; same = same.eval s });
}
lifts (by.assigned {v} s) = record {
  behind = mark "=" ∷ value v;
  tokens = refl;
  ends = refl;
  reads = λ y same_left. token (λ there. mapped (λ b m. record { tree = stmt.Assign there y m.tree; spelled = by.assigned m.spelled; same = same.assign same_left m.same }) (lifts s));
}
lifts (by.added {y} s) = record {
  behind = mark "+=" ∷ expression y;
  tokens = refl;
  ends = refl;
  reads = λ l same_left. token (λ there. mapped (λ b m. record { tree = stmt.AddTo there l m.tree; spelled = by.added m.spelled; same = same.add_to same_left m.same }) (lifts s));
}
lifts by.up_behind = record {
  behind = mark "++" ∷ [];
  tokens = refl;
  ends = refl;
  reads = λ y s. token (λ there. nothing (record { tree = stmt.Up y; spelled = by.up_behind; same = same.up s }));
}
lifts by.down_behind = record {
  behind = mark "--" ∷ [];
  tokens = refl;
  ends = refl;
  reads = λ y s. token (λ there. nothing (record { tree = stmt.Down y; spelled = by.down_behind; same = same.down s }));
}
-- ---- Statements

lifts (by.nested s) = mapped (λ b m. record { tree = m.tree; spelled = by.nested m.spelled; same = m.same }) (lifts s)
lifts by.nothing = token (λ there. nothing (record { tree = stmt.Empty; spelled = by.nothing; same = same.empty }))
lifts (by.effect end s) =
    let g = lifts s in
    reads_is g.ends (append g.reads (λ f m. token (λ end_there. nothing (record { tree = m.tree; spelled = by.effect end_there m.spelled; same = m.same }))))
lifts (by.lone_spawn end s) =
    append (lifts s) (λ f m. token (λ end_there. nothing (record { tree = stmt.Spawn m.tree; spelled = by.lone_spawn end_there m.spelled; same = same.lone_spawn m.same })))
lifts (by.if_alone {x} {s} close t u) =
    token (λ there. token (λ bracket_there. reads_is (behind_bracket (expression x) (statement s)) (append (lifts t) (λ f m. token (λ close_there.
    mapped (λ b r. record { tree = stmt.If m.tree r.tree None; spelled = by.if_alone close_there m.spelled r.spelled; same = same.choice m.same r.same same.no_statement }) (lifts u))))))
lifts (by.if_else {x} {s} {r} close at_else t u open_end v) =
    token (λ there. token (λ bracket_there. reads_is (behind_bracket (expression x) (statement s ++ (word "else" ∷ statement r)))
    (append (lifts t) (λ f m. token (λ close_there. append (lifts u) (λ g n. token (λ else_there.
    mapped (λ b q. record {
      tree = stmt.If m.tree n.tree (Some q.tree);
      spelled = by.if_else close_there else_there m.spelled n.spelled (sym (ends_open_same s n.tree n.same) ∙ open_end) q.spelled;
      same = same.choice m.same n.same (same.a_statement q.same);
    }) (lifts v))))))))
lifts (by.while_loop {x} {s} close t u) =
    token (λ there. token (λ bracket_there. reads_is (behind_bracket (expression x) (statement s)) (append (lifts t) (λ f m. token (λ close_there.
    mapped (λ b r. record { tree = stmt.While m.tree r.tree; spelled = by.while_loop close_there m.spelled r.spelled; same = same.while_loop m.same r.same }) (lifts u))))))
lifts (by.for_loop {i} {t} {n} {s} end_init end_test close u v w z) =
    reads_is (for_tokens i t n s) (token (λ there. token (λ bracket_there.
    append (lifts u) (λ f m. token (λ init_there. append (lifts v) (λ g o. token (λ test_there. append (lifts w) (λ h p. token (λ close_there.
    mapped (λ b q. record {
      tree = stmt.For m.tree o.tree p.tree q.tree;
      spelled = by.for_loop init_there test_there close_there m.spelled o.spelled p.spelled q.spelled;
      same = same.for_loop m.same o.same p.same q.same;
    }) (lifts z))))))))))
lifts (by.cilk_for_loop {at_first} {i} {j} {l} {h} {n} {s} end_low at_second less end_high close t u v w) =
    reads_is (cilk_for_tokens at_first at_second i j l h n s) (token (λ there. token (λ bracket_there. token (λ long_there. token (λ first_there. token (λ equal_there.
    append (lifts t) (λ f m. token (λ low_there. token (λ second_there. token (λ less_there.
    append (lifts u) (λ g o. token (λ high_there. token (λ third_there. token (λ plus_there. token (λ close_there.
    mapped (λ b q. record {
      tree = stmt.CilkFor first_there i m.tree (second_there, j) o.tree (third_there, n.1) q.tree;
      spelled = by.cilk_for_loop low_there second_there less_there high_there close_there m.spelled o.spelled by.name_first q.spelled;
      same = same.cilk_for_loop m.same o.same q.same;
    }) (lifts w))))))))))))))))
lifts by.broken = token (λ there. token (λ end_there. nothing (record { tree = stmt.Break there; spelled = by.broken; same = same.broken })))
lifts by.continued = token (λ there. token (λ end_there. nothing (record { tree = stmt.Continue there; spelled = by.continued; same = same.continued })))
lifts (by.returned end s) =
    token (λ there. append (lifts s) (λ f m. token (λ end_there. nothing (record { tree = stmt.Return there m.tree; spelled = by.returned end_there m.spelled; same = same.returned m.same }))))
lifts by.synced = token (λ there. token (λ end_there. nothing (record { tree = stmt.Sync; spelled = by.synced; same = same.synced })))
lifts (by.braces {ss} close s) =
    reads_is (block_tokens ss) (token (λ there. append (lifts s) (λ f m. token (λ close_there.
    nothing (record { tree = stmt.Block m.tree; spelled = by.braces close_there m.spelled; same = same.block m.same })))))
lifts by.no_more = nothing (record { tree = []; spelled = by.no_more; same = same.no_statements })
lifts (by.locals {s} {ss} {rest} t u v) = local_then s (ss ++ rest) (lifts t) (all_then ss rest (lifts u) (lifts v))
lifts (by.next_statement s t) =
    append (lifts s) (λ f m. mapped (λ b r. record { tree = m.tree ∷ r.tree; spelled = by.next_statement m.spelled r.spelled; same = same.more_statements m.same r.same }) (lifts t))
-- ---- The heads of loops

lifts by.no_init = nothing (record { tree = None; spelled = by.no_init; same = same.no_statement })
lifts (by.init_simple s) = mapped (λ b m. record { tree = Some m.tree; spelled = by.init_simple m.spelled; same = same.a_statement m.same }) (lifts s).reads
lifts (by.init_local {k} {i} {x} at equal s t) =
    token (λ long_there. reads_is (append_assoc (star k) (name i ∷ []) (mark "=" ∷ expression x)) (append (lifts s) (λ f m. token (λ there. token (λ equal_there.
    mapped (λ b r. record {
      tree = Some (stmt.Local there k i (Some (Plain r.tree)));
      spelled = by.init_local there equal_there m r.spelled;
      same = same.a_statement (same.local (same.a_value (same.plain r.same)));
    }) (lifts t))))))
lifts by.no_step = nothing (record { tree = None; spelled = by.no_step; same = same.no_statement })
lifts (by.a_step s) = mapped (λ b m. record { tree = Some m.tree; spelled = by.a_step m.spelled; same = same.a_statement m.same }) (lifts s).reads
lifts by.name_first = tt
lifts by.name_last = tt
-- ---- Functions, globals and the file

lifts by.no_params = nothing (record { tree = []; spelled = by.no_params; same = same.no_parameters })
lifts by.void_params = nothing (record { tree = []; spelled = by.no_params; same = same.no_parameters })
lifts (by.some_params {p} {ps} s t) =
    append (lifts s) (λ f m. mapped (λ b r. record { tree = m.tree ∷ r.tree; spelled = by.some_params m.spelled r.spelled; same = same_parameter p m.tree ps r.tree m.same r.same }) (lifts t))
lifts (by.parameter {k} {x} at s) =
    token (λ long_there. append (lifts s) (λ f m. token (λ there.
    nothing (record { tree = record { pos = there; kind = k; name = x }; spelled = by.parameter there m; same = same.more_parameters same.no_parameters }))))
lifts by.last_param = nothing (record { tree = []; spelled = by.last_param; same = same.no_parameters })
lifts (by.next_param {p} {ps} s t) =
    token (λ comma_there. append (lifts s) (λ f m.
    mapped (λ b r. record { tree = m.tree ∷ r.tree; spelled = by.next_param m.spelled r.spelled; same = same_parameter p m.tree ps r.tree m.same r.same }) (lifts t)))
lifts (by.written {k} {f} {ps} {s} close t u) =
    kept (token (λ bracket_there. reads_is (behind_bracket (between_commas (map parameter ps)) (statement s)) (append (lifts t) (λ g m. token (λ close_there.
    mapped (λ b r there name_there. record {
      tree = Function there k name_there f m.tree r.tree ∷ [];
      spelled = by.written close_there m.spelled r.spelled;
      same = same.function m.same r.same same.no_items;
    }) (lifts u))))))
lifts (by.prototype close end s) = dropped
lifts (by.void_function {f} {fs} s) = void_item f fs (lifts s)
lifts (by.int_function {f} {fs} s) = int_item f fs (lifts s)
lifts (by.long_function {k} {f} {fs} {a} at_name s t) = long_item k a f fs s (lifts t)
lifts (by.plain_globals {k} {g} {gs} at s t) = global_then false at g k gs (lifts s) (lifts t)
lifts (by.replicated_globals {k} {g} {gs} at s t) = global_then true at g k gs (lifts s) (lifts t)
lifts by.last_global = nothing (record { tree = []; spelled = by.no_items; same = same.no_items })
lifts (by.next_global {r} {k} {g} {gs} at s t) = global_then r at g k gs (lifts s) (lifts t)
lifts by.no_items = nothing (record { tree = []; spelled = by.no_items; same = same.no_items })
lifts (by.next_item {fs} {gs} s t) =
    reads_is (flat_map-append item fs gs) (append (lifts s) (λ f m.
    mapped (λ b r. record { tree = m.tree ++ r.tree; spelled = items_join m.tree r.tree f b m.spelled r.spelled; same = same_join fs m.tree gs r.tree m.same r.same }) (lifts t)))
lifts (by.whole {fs} end s) =
    append (lifts s) (λ f m. token (λ end_there. nothing (record { tree = record { items = m.tree; end = end_there }; spelled = by.whole end_there m.spelled; same = same.whole m.same })))
