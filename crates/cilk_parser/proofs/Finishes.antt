-- The end of the text stands behind all that the grammar spells, and nowhere else.
use Rattle.std.proofs.Common.{◌≡◌, true, ◌∷◌, ◌++◌, refl, sym, ◌∙◌, ap}
use Rattle.word_ops.specs.declared.place.Pos.{Pos}
use Rattle.cilk_model.specs.Lexemes.{finish}
use Rattle.cilk_model.specs.Tests.{is_finish}
use Rattle.cilk_model.specs.Syntax.{Unfinished, none, more, EndsOnce}
use Rattle.cilk_model.specs.GrammarForms.{Form, Val, file}
use Rattle.cilk_model.specs.Grammar.{Row, Spells, no_star, a_star, first, no_further, joins, applied, cast, operand, indexed, no_index, index, number, variable, paren, call, builtin, print, init_named, init_address, no_args, some_args, last_arg, next_arg, left_out, there, here, placed, child, plain, spawned, no_initial, an_initial, declarator, last_local, next_local, changed, up_before, down_before, unchanged, assigned, added, up_behind, down_behind, nested, nothing, effect, lone_spawn, if_alone, if_else, while_loop, for_loop, cilk_for_loop, broken, continued, returned, synced, braces, no_more, locals, next_statement, no_init, init_simple, init_local, no_step, a_step, name_first, name_last, no_params, void_params, some_params, parameter, last_param, next_param, written, prototype, void_function, int_function, long_function, plain_globals, replicated_globals, last_global, next_global, no_items, next_item, whole}

append : {a b : Row} → Unfinished a → Unfinished b → Unfinished (a ++ b)
append none h = h
append (more e g) h = more e (append g h)

-- What each form has of the end.
Inside : Form → Row → Type 0
Inside file p = EndsOnce p
Inside _ p = Unfinished p

inside : {n : Form} {x : Val n} {p : Row} → Spells n x p → Inside n p
unfolding Inside
inside no_star = none
inside a_star = more refl none
inside (first h0 h1) = append (inside h0) (inside h1)
inside no_further = none
inside (joins _ _ h0 h1) = more refl (append (inside h0) (inside h1))
inside (applied _ h0) = more refl (inside h0)
inside (cast _ h0 h1) = more refl (more refl (append (inside h0) (more refl (inside h1))))
inside (operand h0) = inside h0
inside (indexed h0 h1) = append (inside h0) (inside h1)
inside no_index = none
inside (index _ h0 h1) = more refl (append (inside h0) (more refl (inside h1)))
inside number = more refl none
inside variable = more refl none
inside (paren _ h0) = more refl (append (inside h0) (more refl none))
inside (call _ h0) = more refl (more refl (append (inside h0) (more refl none)))
inside (builtin _ _ _ h0) = more refl (more refl (append (inside h0) (more refl none)))
inside (print _ h0) = more refl (more refl (more refl (append (inside h0) (more refl none))))
inside (init_named _ h0) = more refl (more refl (more refl (more refl (more refl (append (inside h0) (more refl none))))))
inside (init_address _ _ h0 h1) = more refl (more refl (append (inside h0) (more refl (append (inside h1) (more refl none)))))
inside no_args = none
inside (some_args h0 h1) = append (inside h0) (inside h1)
inside last_arg = none
inside (next_arg h0 h1) = more refl (append (inside h0) (inside h1))
inside left_out = none
inside (there h0) = inside h0
inside here = more refl none
inside (placed _ h0) = more refl (more refl (append (inside h0) (more refl none)))
inside (child _ _ _ h0 h1) = append (inside h0) (more refl (more refl (append (inside h1) (more refl none))))
inside (plain h0) = inside h0
inside (spawned h0) = inside h0
inside no_initial = none
inside (an_initial h0) = more refl (inside h0)
inside (declarator _ h0 h1) = append (inside h0) (more refl (inside h1))
inside last_local = more refl none
inside (next_local h0 h1) = more refl (append (inside h0) (inside h1))
inside (changed h0 h1) = append (inside h0) (inside h1)
inside (up_before h0) = more refl (inside h0)
inside (down_before h0) = more refl (inside h0)
inside unchanged = none
inside (assigned h0) = more refl (inside h0)
inside (added h0) = more refl (inside h0)
inside up_behind = more refl none
inside down_behind = more refl none
inside (nested h0) = inside h0
inside nothing = more refl none
inside (effect _ h0) = append (inside h0) (more refl none)
inside (lone_spawn _ h0) = append (inside h0) (more refl none)
inside (if_alone _ h0 h1) = more refl (more refl (append (inside h0) (more refl (inside h1))))
inside (if_else _ _ h0 h1 _ h2) = more refl (more refl (append (inside h0) (more refl (append (inside h1) (more refl (inside h2))))))
inside (while_loop _ h0 h1) = more refl (more refl (append (inside h0) (more refl (inside h1))))
inside (for_loop _ _ _ h0 h1 h2 h3) = more refl (more refl (append (inside h0) (more refl (append (inside h1) (more refl (append (inside h2) (more refl (inside h3))))))))
inside (cilk_for_loop _ _ _ _ _ h0 h1 h2 h3) = more refl (more refl (more refl (more refl (more refl (append (inside h0) (more refl (more refl (more refl (append (inside h1) (more refl (append (inside h2) (more refl (inside h3)))))))))))))
inside broken = more refl (more refl none)
inside continued = more refl (more refl none)
inside (returned _ h0) = more refl (append (inside h0) (more refl none))
inside synced = more refl (more refl none)
inside (braces _ h0) = more refl (append (inside h0) (more refl none))
inside no_more = none
inside (locals h0 h1 h2) = more refl (append (inside h0) (append (inside h1) (inside h2)))
inside (next_statement h0 h1) = append (inside h0) (inside h1)
inside no_init = none
inside (init_simple h0) = inside h0
inside (init_local _ _ h0 h1) = more refl (append (inside h0) (more refl (more refl (inside h1))))
inside no_step = none
inside (a_step h0) = inside h0
inside name_first = more refl (more refl none)
inside name_last = more refl (more refl none)
inside no_params = none
inside void_params = more refl none
inside (some_params h0 h1) = append (inside h0) (inside h1)
inside (parameter _ h0) = more refl (append (inside h0) (more refl none))
inside last_param = none
inside (next_param h0 h1) = more refl (append (inside h0) (inside h1))
inside (written _ h0 h1) = more refl (append (inside h0) (more refl (inside h1)))
inside (prototype _ _ h0) = more refl (append (inside h0) (more refl (more refl none)))
inside (void_function h0) = more refl (more refl (inside h0))
inside (int_function h0) = more refl (more refl (inside h0))
inside (long_function _ h0 h1) = more refl (append (inside h0) (more refl (inside h1)))
inside (plain_globals _ h0 h1) = more refl (append (inside h0) (more refl (inside h1)))
inside (replicated_globals _ h0 h1) = more refl (more refl (append (inside h0) (more refl (inside h1))))
inside last_global = more refl none
inside (next_global _ h0 h1) = more refl (append (inside h0) (more refl (inside h1)))
inside no_items = none
inside (next_item h0 h1) = append (inside h0) (inside h1)
inside (whole end h) = record { before = _; end = end; split = refl; unfinished = inside h }

pub file_ends : {tree : Val file} {p : Row} → Spells file tree p → EndsOnce p
unfolding Inside
file_ends h = inside h

-- Two rows up to their first ends are the same row.
pub same_end : {a b : Row} → Unfinished a → Unfinished b → (d e : Pos) (r s : Row) → a ++ (finish d ∷ r) ≡ b ++ (finish e ∷ s) → r ≡ s
same_end none none d e r s h = cc
same_end none (more {t = t} g k) d e r s h = let clash : is_finish t ≡ true = sym (ap is_finish (let z : finish d ≡ t = cc in z)) in absurd (let c = sym g ∙ clash in cc)
same_end (more {t = t} g k) none d e r s h = let clash : is_finish t ≡ true = ap is_finish (let z : t ≡ finish e = cc in z) in absurd (let c = sym g ∙ clash in cc)
same_end (more {ts = a} g k) (more {ts = b} m n) d e r s h = same_end k n d e r s (let z : a ++ (finish d ∷ r) ≡ b ++ (finish e ∷ s) = cc in z)
