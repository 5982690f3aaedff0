-- What is spelled is read, whatever follows that could not go on with it.
use Rattle.std.proofs.Common.{◌≡◌, true, false, ◌&&◌, ◌∷◌, ◌++◌, refl, sym, ◌∙◌, ap, append_assoc, arith}
use Rattle.cilk_model.specs.Lexemes.{name, finish}
use Rattle.cilk_model.specs.Signs.{mark, word}
use Rattle.cilk_model.specs.Tests.{is_mark, is_word, starts, infix_of}
use Rattle.cilk_model.specs.OpenEnds.{ends_open}
use Rattle.cilk_model.specs.GrammarForms.{Form, Val}
use Rattle.cilk_model.specs.Grammar.{Row, Spells, no_star, a_star, first, no_further, joins, applied, cast, operand, indexed, no_index, index, number, variable, paren, call, builtin, print, init_named, init_address, no_args, some_args, last_arg, next_arg, left_out, there, here, placed, child, plain, spawned, no_initial, an_initial, declarator, last_local, next_local, changed, up_before, down_before, unchanged, assigned, added, up_behind, down_behind, nested, nothing, effect, lone_spawn, if_alone, if_else, while_loop, for_loop, cilk_for_loop, broken, continued, returned, synced, braces, no_more, locals, next_statement, no_init, init_simple, init_local, no_step, a_step, name_first, name_last, no_params, void_params, some_params, parameter, last_param, next_param, written, prototype, void_function, int_function, long_function, plain_globals, replicated_globals, last_global, next_global, no_items, next_item, whole}
use Rattle.cilk_parser.proofs.Openings.{opens_expr, opens_simple, opens_statement, opens_item, expr_opens, postfix_opens, spawn_opens, simple_opens, block_opens, statement_opens, item_opens, param_opens}
use Rattle.cilk_parser.proofs.Apart.{led_by_mark, apart_mark, apart_word, apart_finish, no_mark, no_word, neither_first, neither_second}
use Rattle.cilk_parser.proofs.Follow.{extends, extends_operand, extends_simple, is_change, continues, not_false, fewer, no_infix, further_ends, indexes_end, more_args_end, more_locals_end, change_ends, function_starts, more_globals_start, is_tighter}
use Rattle.cilk_parser.proofs.Ends.{open_alone, open_else, open_while, open_for, open_cilk_for, body_no_else, no_else_behind}
use Rattle.cilk_parser.proofs.Operands.{postfix_no_cast, operand_read, simple_starts_effect, spawn_starts_effect, expr_no_spawn, simple_no_spawn}
use Rattle.cilk_parser.proofs.Rules.{Reads}
use Rattle.cilk_parser.proofs.RulesExpressions.{star_there, star_not, first_read, further_not, joins_read, applied_read, cast_read, indexed_read, index_not, index_read, number_read, variable_read, call_read, builtin_read, print_read, init_named_read, init_address_read, paren_read, args_not, args_read, more_args_not, more_args_read, perhaps_not, perhaps_read, here_read, placed_read}
use Rattle.cilk_parser.proofs.RulesStatements.{child_read, plain_read, spawned_read, initial_not, initial_read, declarator_read, last_local_read, next_local_read, changed_read, up_before_read, down_before_read, unchanged_read, assigned_read, added_read, up_behind_read, down_behind_read, nested_read, nothing_read, effect_read, lone_spawn_read, if_alone_read, if_else_read, while_read, for_read, cilk_for_read, broken_read, continued_read, synced_read, returned_read, braces_read, body_end, locals_read, next_statement_read, init_not, init_simple_read, init_local_read, step_not, step_read, name_first_read, name_last_read}
use Rattle.cilk_parser.proofs.RulesItems.{params_not, void_params_read, params_read, param_read, more_params_not, more_params_read, written_read, prototype_read, last_global_read, next_global_read, void_function_read, int_function_read, long_function_read, plain_globals_read, replicated_globals_read, items_end, next_item_read, file_read}

pub complete : {n : Form} {x : Val n} {p : Row} → Spells n x p → (q : Row) → continues n x q ≡ false → Reads n (p ++ q) x q
complete no_star q e = star_not q (no_mark "*" q e)
complete (a_star {at}) q e = star_there at q
complete (first {n} {b = b} h g) q e = simp append_assoc (first_read n (complete h (b ++ q) (further_ends g q e)) (complete g q e))
complete (no_further {n} {x}) q e = further_not n x q (no_infix n q e)
complete (joins {n} {at} {b = b} o d h g) q e = simp append_assoc (joins_read n o at d (complete h (b ++ q) (further_ends g q e)) (complete g q e))
complete (applied {at} o h) q e = applied_read o at (complete h q e)
complete (cast {at} {at_long} {b = b} close h g) q e = simp append_assoc (cast_read at at_long close (complete h (mark ")" close ∷ (b ++ q)) refl) (complete g q e))
complete (operand {a = a} h) q e =
    operand_read (postfix_opens h q) (postfix_no_cast h q) (complete h q (neither_first extends_operand (λ t. is_tighter 0 (infix_of t)) q e))
complete (indexed {b = b} h g) q e = simp append_assoc (indexed_read (complete h (b ++ q) (indexes_end g q e)) (complete g q e))
complete (no_index {x}) q e = index_not x q (no_mark "[" q (neither_second (is_mark "(") (is_mark "[") q e))
complete (index {at} {b = b} close h g) q e = simp append_assoc (index_read at close (complete h (mark "]" close ∷ (b ++ q)) refl) (complete g q e))
complete (number {at} {v}) q e = number_read at v q
complete (variable {at} {x}) q e = variable_read at x q (no_mark "(" q e)
complete (paren {at} close h) q e = simp append_assoc (paren_read at close (complete h (mark ")" close ∷ q) refl))
complete (call {at} {bracket} {f} close h) q e = simp append_assoc (call_read at bracket close f (complete h (mark ")" close ∷ q) refl))
complete (builtin {at} {bracket} which d close h) q e = simp append_assoc (builtin_read at bracket close which d (complete h (mark ")" close ∷ q) refl))
complete (print {at} {bracket} {at_text} {format} close h) q e = simp append_assoc (print_read at bracket at_text close format (complete h (mark ")" close ∷ q) refl))
complete (init_named {at} {bracket} {ampersand} {at_name} {comma} {g} close h) q e =
    simp append_assoc (init_named_read at bracket ampersand at_name comma close g (complete h (mark ")" close ∷ q) refl))
complete (init_address {at} {bracket} {a = a} {b = b} comma close h g) q e =
    let r = mark "," comma ∷ (b ++ (mark ")" close ∷ q)) in
    simp append_assoc (init_address_read at bracket comma close (no_mark "&" (a ++ r) (apart_mark "&" opens_expr (λ at. refl) (a ++ r) (expr_opens h r)))
    (complete h r refl) (complete g (mark ")" close ∷ q) refl))
complete no_args q e = args_not q (not_false _ e)
complete (some_args {a = a} {b = b} h g) q e =
    let r = b ++ q in
    simp append_assoc (args_read (apart_mark ")" opens_expr (λ at. refl) (a ++ r) (expr_opens h r)) (complete h r (more_args_end g q (not_false _ e))) (complete g q e))
complete last_arg q e = more_args_not q (no_mark "," q (led_by_mark ")" (is_mark ",") false q (not_false _ e) (λ at. refl)))
complete (next_arg {comma} {b = b} h g) q e = simp append_assoc (more_args_read comma (complete h (b ++ q) (more_args_end g q (not_false _ e))) (complete g q e))
complete left_out q e = perhaps_not q (not_false _ e)
complete (there {a = a} h) q e =
    perhaps_read (apart_mark ";" opens_expr (λ at. refl) (a ++ q) (expr_opens h q)) (complete h q (led_by_mark ";" (extends 10) false q (not_false _ e) (λ at. refl)))
complete (here {at}) q e = here_read at q
complete (placed {at} {bracket} close h) q e = simp append_assoc (placed_read at bracket close (complete h (mark ")" close ∷ q) refl))
complete (child {f = f} {b = b} at_name bracket close h g) q e =
    simp append_assoc (child_read at_name bracket close f (complete h (name at_name f ∷ mark "(" bracket ∷ (b ++ (mark ")" close ∷ q))) refl) (complete g (mark ")" close ∷ q) refl))
complete (plain {may} {a = a} h) q e = plain_read may (expr_no_spawn (a ++ q) (expr_opens h q)) (complete h q e)
complete (spawned h) q e = spawned_read (spawn_opens h q) (complete h q refl)
complete no_initial q e = initial_not q (no_mark "=" q (neither_second (extends 10) (is_mark "=") q e))
complete (an_initial {equal} h) q e = initial_read equal (complete h q (neither_first (extends 10) (is_mark "=") q e))
complete (declarator {x = x} {b = b} at h g) q e = simp append_assoc (declarator_read at x (complete h (name at x ∷ (b ++ q)) refl) (complete g q e))
complete (last_local {end}) q e = last_local_read end q
complete (next_local {comma} {b = b} h g) q e = simp append_assoc (next_local_read comma (complete h (b ++ q) (more_locals_end g q)) (complete g q refl))
complete (changed {may} {a = a} {b = b} h g) q e =
    let r = b ++ q in
    simp append_assoc (changed_read may (no_mark "++" (a ++ r) (apart_mark "++" opens_expr (λ at. refl) (a ++ r) (expr_opens h r)))
    (no_mark "--" (a ++ r) (apart_mark "--" opens_expr (λ at. refl) (a ++ r) (expr_opens h r))) (complete h r (change_ends g q e)) (complete g q e))
complete (up_before {may} {at} h) q e = up_before_read may at (complete h q (fewer 0 10 q (omega arith) (neither_first (extends 10) is_change q e)))
complete (down_before {may} {at} h) q e = down_before_read may at (complete h q (fewer 0 10 q (omega arith) (neither_first (extends 10) is_change q e)))
complete (unchanged {may} {x}) q e =
    let c = neither_second (extends 10) is_change q e in
    let d = neither_second (is_mark "=") _ q c in
    let f = neither_second (is_mark "+=") _ q d in
    unchanged_read may x q (no_mark "=" q (neither_first (is_mark "=") _ q c)) (no_mark "+=" q (neither_first (is_mark "+=") _ q d))
    (no_mark "++" q (neither_first (is_mark "++") (is_mark "--") q f)) (no_mark "--" q (neither_second (is_mark "++") (is_mark "--") q f))
complete (assigned {may} {at} {x} h) q e = assigned_read may at x (complete h q (neither_first (extends 10) is_change q e))
complete (added {may} {at} {x} h) q e = added_read may at x (complete h q (neither_first (extends 10) is_change q e))
complete (up_behind {may} {at} {x}) q e = up_behind_read may at x q
complete (down_behind {may} {at} {x}) q e = down_behind_read may at x q
complete (nested h) q e = nested_read (block_opens h q) (complete h q refl)
complete (nothing {end}) q e = nothing_read end q
complete (effect {a = a} end h) q e =
    let r = mark ";" end ∷ q in
    simp append_assoc (effect_read end (simple_starts_effect (a ++ r) (simple_opens h r)) (simple_no_spawn (a ++ r) (simple_opens h r)) (complete h r refl))
complete (lone_spawn {a = a} end h) q e =
    let r = mark ";" end ∷ q in
    simp append_assoc (lone_spawn_read end (spawn_starts_effect (a ++ r) (spawn_opens h r)) (spawn_opens h r) (complete h r refl))
complete (if_alone {at} {bracket} {x} {s} {b = b} close h g) q e =
    let d : starts (is_word "else") q ≡ false = sym (ap (λ z. z && starts (is_word "else") q) (open_alone x s)) ∙ e in
    simp append_assoc (if_alone_read at bracket close (complete h (mark ")" close ∷ (b ++ q)) refl) (complete g q (no_else_behind (ends_open s) q d)) (no_word "else" q d))
complete (if_else {at} {bracket} {x} {s} {r} {b = b} {c = c} close at_else h g d k) q e =
    let u = word "else" at_else ∷ (c ++ q) in
    simp append_assoc (if_else_read at bracket close at_else (complete h (mark ")" close ∷ (b ++ u)) refl) (complete g u (ap (λ z. z && true) d)) d
    (complete k q (ap (λ z. z && starts (is_word "else") q) (sym (open_else x s r)) ∙ e)))
complete (while_loop {at} {bracket} {x} {s} {b = b} close h g) q e =
    simp append_assoc (while_read at bracket close (complete h (mark ")" close ∷ (b ++ q)) refl) (complete g q (ap (λ z. z && starts (is_word "else") q) (sym (open_while x s)) ∙ e)))
complete (for_loop {at} {bracket} {i} {t} {n} {s} {b = b} {c = c} {d = d} end_init end_test close h g k m) q e =
    simp append_assoc (for_read at bracket end_init end_test close (complete h (mark ";" end_init ∷ (b ++ (mark ";" end_test ∷ (c ++ (mark ")" close ∷ (d ++ q)))))) refl)
    (complete g (mark ";" end_test ∷ (c ++ (mark ")" close ∷ (d ++ q)))) refl) (complete k (mark ")" close ∷ (d ++ q)) refl)
    (complete m q (ap (λ z. z && starts (is_word "else") q) (sym (open_for i t n s)) ∙ e)))
complete (cilk_for_loop {at} {bracket} {at_long} {at_first} {equal} {i} {j} {l} {h = top} {n} {s} {b = b} {c = c} {d = d} end_low at_second less end_high close h g k m) q e =
    simp append_assoc (cilk_for_read at bracket at_long at_first equal end_low at_second less end_high close i j
    (complete h (mark ";" end_low ∷ name at_second j ∷ mark "<" less ∷ (b ++ (mark ";" end_high ∷ (c ++ (mark ")" close ∷ (d ++ q)))))) refl)
    (complete g (mark ";" end_high ∷ (c ++ (mark ")" close ∷ (d ++ q)))) refl) (complete k (mark ")" close ∷ (d ++ q)) refl)
    (complete m q (ap (λ z. z && starts (is_word "else") q) (sym (open_cilk_for at_first i l (at_second, j) top n s)) ∙ e)))
complete (broken {at} {end}) q e = broken_read at end q
complete (continued {at} {end}) q e = continued_read at end q
complete (returned {at} end h) q e = simp append_assoc (returned_read at end (complete h (mark ";" end ∷ q) refl))
complete (synced {at} {end}) q e = synced_read at end q
complete (braces {at} close h) q e = simp append_assoc (braces_read at close (complete h (mark "}" close ∷ q) refl))
complete no_more q e = body_end q (not_false _ e)
complete (locals {at} {b = b} {c = c} h g k) q e =
    simp append_assoc (locals_read at (complete h (b ++ (c ++ q)) (more_locals_end g (c ++ q))) (complete g (c ++ q) refl) (complete k q e))
complete (next_statement {s} {a = a} {b = b} h g) q e =
    let r = b ++ q in
    simp append_assoc (next_statement_read (apart_mark "}" opens_statement (λ at. refl) (a ++ r) (statement_opens h r))
    (no_word "long" (a ++ r) (apart_word "long" opens_statement (λ at. refl) (a ++ r) (statement_opens h r)))
    (complete h r (no_else_behind (ends_open s) r (body_no_else g q (not_false _ e)))) (complete g q e))
complete no_init q e = init_not q (not_false _ e)
complete (init_simple {a = a} h) q e =
    init_simple_read (apart_mark ";" opens_simple (λ at. refl) (a ++ q) (simple_opens h q)) (no_word "long" (a ++ q) (apart_word "long" opens_simple (λ at. refl) (a ++ q) (simple_opens h q)))
    (complete h q (led_by_mark ";" extends_simple false q (not_false _ e) (λ at. refl)))
complete (init_local {at_long} {i = i} {b = b} at equal h g) q e =
    simp append_assoc (init_local_read at_long at equal i (complete h (name at i ∷ mark "=" equal ∷ (b ++ q)) refl)
    (complete g q (led_by_mark ";" (extends 10) false q (not_false _ e) (λ at. refl))))
complete no_step q e = step_not q (not_false _ e)
complete (a_step {a = a} h) q e =
    step_read (apart_mark ")" opens_simple (λ at. refl) (a ++ q) (simple_opens h q)) (complete h q (led_by_mark ")" extends_simple false q (not_false _ e) (λ at. refl)))
complete (name_first {at} {plus} {i}) q e = name_first_read at plus i q
complete (name_last {at} {plus} {i}) q e = name_last_read at plus i q
complete no_params q e = params_not q (not_false _ e)
complete (void_params {at}) q e = void_params_read at q
complete (some_params {a = a} {b = b} h g) q e =
    let r = b ++ q in
    simp append_assoc (params_read (apart_mark ")" (is_word "long") (λ at. refl) (a ++ r) (param_opens h r))
    (no_word "void" (a ++ r) (apart_word "void" (is_word "long") (λ at. refl) (a ++ r) (param_opens h r))) (complete h r refl) (complete g q e))
complete (parameter {at_long} {x = x} at h) q e = simp append_assoc (param_read at_long at x (complete h (name at x ∷ q) refl))
complete last_param q e = more_params_not q (no_mark "," q (led_by_mark ")" (is_mark ",") false q (not_false _ e) (λ at. refl)))
complete (next_param {comma} {b = b} h g) q e = simp append_assoc (more_params_read comma (complete h (b ++ q) refl) (complete g q e))
complete (written {at} {at_name} {bracket} {k} {f} {b = b} close h g) q e =
    simp append_assoc (written_read at at_name bracket close k f (complete h (mark ")" close ∷ (b ++ q)) refl) (no_mark ";" (b ++ q) (apart_mark ";" (is_mark "{") (λ at. refl) (b ++ q) (block_opens g q)))
    (complete g q refl))
complete (prototype {at} {at_name} {bracket} {k} {f} close end h) q e =
    simp append_assoc (prototype_read at at_name bracket close end k f (complete h (mark ")" close ∷ mark ";" end ∷ q) refl))
complete (void_function {at} {at_name} {f} h) q e = void_function_read at at_name f (complete h q refl)
complete (int_function {at} {at_name} {f} h) q e = int_function_read at at_name f (complete h q refl)
complete (long_function {at} {f = f} {b = b} at_name h g) q e =
    simp append_assoc (long_function_read at at_name f (complete h (name at_name f ∷ (b ++ q)) refl) (function_starts g q) (complete g q refl))
complete (plain_globals {at_long} {g = x} {b = b} at h g) q e =
    simp append_assoc (plain_globals_read at_long at x (complete h (name at x ∷ (b ++ q)) refl) (more_globals_start g q) (complete g q refl))
complete (replicated_globals {at_replicated} {at_long} {g = x} {b = b} at h g) q e =
    simp append_assoc (replicated_globals_read at_replicated at_long at x (complete h (name at x ∷ (b ++ q)) refl) (complete g q refl))
complete (last_global {r} {end}) q e = last_global_read r end q
complete (next_global {r} {comma} {g = x} {b = b} at h g) q e =
    simp append_assoc (next_global_read r comma at x (complete h (name at x ∷ (b ++ q)) refl) (complete g q refl))
complete no_items q e = items_end q (not_false _ e)
complete (next_item {a = a} {b = b} h g) q e =
    let r = b ++ q in
    simp append_assoc (next_item_read (apart_finish opens_item (λ at. refl) (a ++ r) (item_opens h r)) (complete h r refl) (complete g q e))
complete (whole end h) q e = simp append_assoc (file_read end (complete h (finish end ∷ q) refl))
