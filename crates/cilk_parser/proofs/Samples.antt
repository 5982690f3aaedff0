-- Each form of the grammar is spelled by some tokens.
use Rattle.std.proofs.Common.{ℕ, zero, suc, [], ◌∷◌, None, pos}
use Rattle.word_ops.specs.declared.place.Pos.{Pos}
use Rattle.cilk_ast.specs.declared.kind.Kind.TheVariants.{Long}
use Rattle.cilk_ast.specs.declared.tree.TExpr as tree
use Rattle.cilk_ast.specs.declared.tree.TStmt as stmt
use Rattle.cilk_ast.specs.declared.tree.TValue.TheVariants.{Plain}
use Rattle.cilk_model.specs.Lexemes.{name, literal, finish}
use Rattle.cilk_model.specs.Signs.{mark, word}
use Rattle.cilk_model.specs.GrammarForms.{Form, Val, star, expression, further, postfix, indexes, primary, args, more_args, perhaps, origin, spawn, value, initial, local, more_locals, simple, change, init, step, up, statement, block, body, params, param, more_params, function, more_globals, item, items, file}
use Rattle.cilk_model.specs.Grammar.{Row, Spells, no_star, first, no_further, operand, indexed, no_index, number, no_args, last_arg, left_out, here, child, plain, no_initial, declarator, last_local, changed, unchanged, nothing, braces, no_more, no_init, no_step, name_first, no_params, parameter, last_param, prototype, plain_globals, last_global, no_items, whole}

at : Pos
at = record { line = 1; column = 1 }

a_number : (n : ℕ) → Spells (expression n) (tree.Number at (pos 0)) (literal at (pos 0) ∷ [])
a_number zero = operand (indexed number no_index)
a_number (suc n) = first (a_number n) no_further

pub sample : (n : Form) → (x : Val n) × (a : Row) × Spells n x a
sample star = (Long, [], no_star)
sample (expression n) = (tree.Number at (pos 0), literal at (pos 0) ∷ [], a_number n)
sample (further n x) = (x, [], no_further)
sample postfix = (tree.Number at (pos 0), literal at (pos 0) ∷ [], indexed number no_index)
sample (indexes x) = (x, [], no_index)
sample primary = (tree.Number at (pos 0), literal at (pos 0) ∷ [], number)
sample args = ([], [], no_args)
sample more_args = ([], [], last_arg)
sample perhaps = (None, [], left_out)
sample origin = ((at, None), word "cilk_spawn" at ∷ [], here)
sample spawn = (
  record { pos = at; hint = None; name_pos = at; name = []; args = [] },
  word "cilk_spawn" at ∷ name at [] ∷ mark "(" at ∷ mark ")" at ∷ [],
  child at at at here no_args,
)
sample (value may) = (Plain (tree.Number at (pos 0)), literal at (pos 0) ∷ [], plain (a_number 10))
sample initial = (None, [], no_initial)
sample local = (stmt.Local at Long [] None, name at [] ∷ [], declarator at no_star no_initial)
sample more_locals = ([], mark ";" at ∷ [], last_local)
sample (simple may) = (stmt.Eval (tree.Number at (pos 0)), literal at (pos 0) ∷ [], changed (a_number 10) unchanged)
sample (change may x) = (stmt.Eval x, [], unchanged)
sample init = (None, [], no_init)
sample step = (None, [], no_step)
sample up = ((at, []), name at [] ∷ mark "++" at ∷ [], name_first)
sample statement = (stmt.Empty, mark ";" at ∷ [], nothing)
sample block = (stmt.Block [], mark "{" at ∷ mark "}" at ∷ [], braces at no_more)
sample body = ([], [], no_more)
sample params = ([], [], no_params)
sample param = (record { pos = at; kind = Long; name = [] }, word "long" at ∷ name at [] ∷ [], parameter at no_star)
sample more_params = ([], [], last_param)
sample (function at_f k at_name f) = ([], mark "(" at ∷ mark ")" at ∷ mark ";" at ∷ [], prototype at at no_params)
sample (more_globals r) = ([], mark ";" at ∷ [], last_global)
sample item = (_, word "long" at ∷ name at [] ∷ mark ";" at ∷ [], plain_globals at no_star last_global)
sample items = ([], [], no_items)
sample file = (record { items = []; end = at }, finish at ∷ [], whole at no_items)
