-- The parts of each form of statement that code builds, and what the form does itself.
use Rattle.std.proofs.Common.{◌≡◌, ℕ, ◌+◌, List, [], ◌∷◌, length, Option, None, true, false, refl}
use Rattle.word_ops.specs.declared.place.Pos.{Pos}
use Rattle.mem_atomics.specs.declared.op.Op.TheVariants as op
use Rattle.cilk_ast.specs.declared.program.Expr.{Expr}
use Rattle.cilk_ast.specs.declared.program.Stmt as code
use Rattle.cilk_ast.specs.declared.program.Stmt.{Stmt}
use Rattle.cilk_ast.specs.declared.program.Stmt.TheBlock.{shape-the_row-Stmt-1, hidden-the_row-Stmt-1}
use Rattle.cilk_ast.proofs.StatementForms.{listed_row}
use Rattle.threadlet_code.specs.declared.instr.Instr.TheVariants as by
use Rattle.codegen_expr.specs.Piece.{line, placeless}
use Rattle.codegen_stmt.specs.declared.around.Around.{Around}
use Rattle.codegen_stmt.specs.Stretch.{returning}
use Rattle.codegen_stmt.specs.Compiled.{is_hinted}
use Rattle.codegen_stmt.specs.Parts.{hint_of, words_of, children_of, own_size, is_simple, own_lines}
use denote.Hole.Carrier.{hidden}

pub words_nothing : words_of code.Nothing ≡ []
unfolding words_of shape-the_row-Stmt-1 hidden-the_row-Stmt-1 hidden
words_nothing = refl

pub hint_nothing : hint_of code.Nothing ≡ None
unfolding hint_of shape-the_row-Stmt-1 hidden-the_row-Stmt-1 hidden
hint_nothing = refl

pub children_nothing : children_of code.Nothing ≡ []
unfolding children_of shape-the_row-Stmt-1 hidden-the_row-Stmt-1 hidden
children_nothing = refl

pub size_nothing : (around : Around) → own_size around code.Nothing ≡ 0
unfolding own_size shape-the_row-Stmt-1 hidden-the_row-Stmt-1 hidden
size_nothing around = refl

pub simple_nothing : is_simple code.Nothing ≡ false
unfolding is_simple shape-the_row-Stmt-1 hidden-the_row-Stmt-1 hidden
simple_nothing = refl

pub lines_nothing : (around : Around) → own_lines around code.Nothing ≡ []
unfolding own_lines shape-the_row-Stmt-1 hidden-the_row-Stmt-1 hidden
lines_nothing around = refl

pub words_block : (body : List Stmt) → words_of (code.Block body) ≡ []
unfolding words_of shape-the_row-Stmt-1 hidden-the_row-Stmt-1 hidden
words_block body = refl

pub hint_block : (body : List Stmt) → hint_of (code.Block body) ≡ None
unfolding hint_of shape-the_row-Stmt-1 hidden-the_row-Stmt-1 hidden
hint_block body = refl

pub children_block : (body : List Stmt) → children_of (code.Block body) ≡ body
unfolding children_of shape-the_row-Stmt-1 hidden-the_row-Stmt-1 hidden
children_block body = listed_row body

pub size_block : (around : Around) (body : List Stmt) → own_size around (code.Block body) ≡ 0
unfolding own_size shape-the_row-Stmt-1 hidden-the_row-Stmt-1 hidden
size_block around body = refl

pub simple_block : (body : List Stmt) → is_simple (code.Block body) ≡ false
unfolding is_simple shape-the_row-Stmt-1 hidden-the_row-Stmt-1 hidden
simple_block body = refl

pub lines_block : (around : Around) (body : List Stmt) → own_lines around (code.Block body) ≡ []
unfolding own_lines shape-the_row-Stmt-1 hidden-the_row-Stmt-1 hidden
lines_block around body = refl

pub words_eval : (e : Expr) → words_of (code.Eval e) ≡ e ∷ []
unfolding words_of shape-the_row-Stmt-1 hidden-the_row-Stmt-1 hidden
words_eval e = refl

pub hint_eval : (e : Expr) → hint_of (code.Eval e) ≡ None
unfolding hint_of shape-the_row-Stmt-1 hidden-the_row-Stmt-1 hidden
hint_eval e = refl

pub children_eval : (e : Expr) → children_of (code.Eval e) ≡ []
unfolding children_of shape-the_row-Stmt-1 hidden-the_row-Stmt-1 hidden
children_eval e = refl

pub size_eval : (around : Around) (e : Expr) → own_size around (code.Eval e) ≡ 1
unfolding own_size shape-the_row-Stmt-1 hidden-the_row-Stmt-1 hidden
size_eval around e = refl

pub simple_eval : (e : Expr) → is_simple (code.Eval e) ≡ true
unfolding is_simple shape-the_row-Stmt-1 hidden-the_row-Stmt-1 hidden
simple_eval e = refl

pub lines_eval : (around : Around) (e : Expr) → own_lines around (code.Eval e) ≡ placeless by.Pop ∷ []
unfolding own_lines shape-the_row-Stmt-1 hidden-the_row-Stmt-1 hidden
lines_eval around e = refl

pub words_set : (slot : ℕ) (e : Expr) → words_of (code.Set slot e) ≡ e ∷ []
unfolding words_of shape-the_row-Stmt-1 hidden-the_row-Stmt-1 hidden
words_set slot e = refl

pub hint_set : (slot : ℕ) (e : Expr) → hint_of (code.Set slot e) ≡ None
unfolding hint_of shape-the_row-Stmt-1 hidden-the_row-Stmt-1 hidden
hint_set slot e = refl

pub children_set : (slot : ℕ) (e : Expr) → children_of (code.Set slot e) ≡ []
unfolding children_of shape-the_row-Stmt-1 hidden-the_row-Stmt-1 hidden
children_set slot e = refl

pub size_set : (around : Around) (slot : ℕ) (e : Expr) → own_size around (code.Set slot e) ≡ 1
unfolding own_size shape-the_row-Stmt-1 hidden-the_row-Stmt-1 hidden
size_set around slot e = refl

pub simple_set : (slot : ℕ) (e : Expr) → is_simple (code.Set slot e) ≡ true
unfolding is_simple shape-the_row-Stmt-1 hidden-the_row-Stmt-1 hidden
simple_set slot e = refl

pub lines_set : (around : Around) (slot : ℕ) (e : Expr) → own_lines around (code.Set slot e) ≡ placeless (by.Set slot) ∷ []
unfolding own_lines shape-the_row-Stmt-1 hidden-the_row-Stmt-1 hidden
lines_set around slot e = refl

pub words_store : (at : Pos) (a : Expr) (e : Expr) → words_of (code.Store at a e) ≡ a ∷ e ∷ []
unfolding words_of shape-the_row-Stmt-1 hidden-the_row-Stmt-1 hidden
words_store at a e = refl

pub hint_store : (at : Pos) (a : Expr) (e : Expr) → hint_of (code.Store at a e) ≡ None
unfolding hint_of shape-the_row-Stmt-1 hidden-the_row-Stmt-1 hidden
hint_store at a e = refl

pub children_store : (at : Pos) (a : Expr) (e : Expr) → children_of (code.Store at a e) ≡ []
unfolding children_of shape-the_row-Stmt-1 hidden-the_row-Stmt-1 hidden
children_store at a e = refl

pub size_store : (around : Around) (at : Pos) (a : Expr) (e : Expr) → own_size around (code.Store at a e) ≡ 1
unfolding own_size shape-the_row-Stmt-1 hidden-the_row-Stmt-1 hidden
size_store around at a e = refl

pub simple_store : (at : Pos) (a : Expr) (e : Expr) → is_simple (code.Store at a e) ≡ true
unfolding is_simple shape-the_row-Stmt-1 hidden-the_row-Stmt-1 hidden
simple_store at a e = refl

pub lines_store : (around : Around) (at : Pos) (a : Expr) (e : Expr) → own_lines around (code.Store at a e) ≡ line at (by.Post op.Store) ∷ []
unfolding own_lines shape-the_row-Stmt-1 hidden-the_row-Stmt-1 hidden
lines_store around at a e = refl

pub words_add_to : (at : Pos) (a : Expr) (e : Expr) → words_of (code.AddTo at a e) ≡ a ∷ e ∷ []
unfolding words_of shape-the_row-Stmt-1 hidden-the_row-Stmt-1 hidden
words_add_to at a e = refl

pub hint_add_to : (at : Pos) (a : Expr) (e : Expr) → hint_of (code.AddTo at a e) ≡ None
unfolding hint_of shape-the_row-Stmt-1 hidden-the_row-Stmt-1 hidden
hint_add_to at a e = refl

pub children_add_to : (at : Pos) (a : Expr) (e : Expr) → children_of (code.AddTo at a e) ≡ []
unfolding children_of shape-the_row-Stmt-1 hidden-the_row-Stmt-1 hidden
children_add_to at a e = refl

pub size_add_to : (around : Around) (at : Pos) (a : Expr) (e : Expr) → own_size around (code.AddTo at a e) ≡ 4
unfolding own_size shape-the_row-Stmt-1 hidden-the_row-Stmt-1 hidden
size_add_to around at a e = refl

pub simple_add_to : (at : Pos) (a : Expr) (e : Expr) → is_simple (code.AddTo at a e) ≡ false
unfolding is_simple shape-the_row-Stmt-1 hidden-the_row-Stmt-1 hidden
simple_add_to at a e = refl

pub lines_add_to : (around : Around) (at : Pos) (a : Expr) (e : Expr) → own_lines around (code.AddTo at a e) ≡ []
unfolding own_lines shape-the_row-Stmt-1 hidden-the_row-Stmt-1 hidden
lines_add_to around at a e = refl

pub words_spawn : (at : Pos) (target : Option ℕ) (g : ℕ) (hint : Option Expr) (args : List Expr) → words_of (code.Spawn at target g hint args) ≡ args
unfolding words_of shape-the_row-Stmt-1 hidden-the_row-Stmt-1 hidden
words_spawn at target g hint args = refl

pub hint_spawn : (at : Pos) (target : Option ℕ) (g : ℕ) (hint : Option Expr) (args : List Expr) → hint_of (code.Spawn at target g hint args) ≡ hint
unfolding hint_of shape-the_row-Stmt-1 hidden-the_row-Stmt-1 hidden
hint_spawn at target g hint args = refl

pub children_spawn : (at : Pos) (target : Option ℕ) (g : ℕ) (hint : Option Expr) (args : List Expr) → children_of (code.Spawn at target g hint args) ≡ []
unfolding children_of shape-the_row-Stmt-1 hidden-the_row-Stmt-1 hidden
children_spawn at target g hint args = refl

pub size_spawn : (around : Around) (at : Pos) (target : Option ℕ) (g : ℕ) (hint : Option Expr) (args : List Expr) → own_size around (code.Spawn at target g hint args) ≡ 1
unfolding own_size shape-the_row-Stmt-1 hidden-the_row-Stmt-1 hidden
size_spawn around at target g hint args = refl

pub simple_spawn : (at : Pos) (target : Option ℕ) (g : ℕ) (hint : Option Expr) (args : List Expr) → is_simple (code.Spawn at target g hint args) ≡ true
unfolding is_simple shape-the_row-Stmt-1 hidden-the_row-Stmt-1 hidden
simple_spawn at target g hint args = refl

pub lines_spawn : (around : Around) (at : Pos) (target : Option ℕ) (g : ℕ) (hint : Option Expr) (args : List Expr) → own_lines around (code.Spawn at target g hint args) ≡ line at (by.Spawn g target (is_hinted hint)) ∷ []
unfolding own_lines shape-the_row-Stmt-1 hidden-the_row-Stmt-1 hidden
lines_spawn around at target g hint args = refl

pub words_if_ : (test : Expr) (yes_ : Stmt) (no_ : Stmt) → words_of (code.If test yes_ no_) ≡ test ∷ []
unfolding words_of shape-the_row-Stmt-1 hidden-the_row-Stmt-1 hidden
words_if_ test yes_ no_ = refl

pub hint_if_ : (test : Expr) (yes_ : Stmt) (no_ : Stmt) → hint_of (code.If test yes_ no_) ≡ None
unfolding hint_of shape-the_row-Stmt-1 hidden-the_row-Stmt-1 hidden
hint_if_ test yes_ no_ = refl

pub children_if_ : (test : Expr) (yes_ : Stmt) (no_ : Stmt) → children_of (code.If test yes_ no_) ≡ yes_ ∷ no_ ∷ []
unfolding children_of shape-the_row-Stmt-1 hidden-the_row-Stmt-1 hidden
children_if_ test yes_ no_ = refl

pub size_if_ : (around : Around) (test : Expr) (yes_ : Stmt) (no_ : Stmt) → own_size around (code.If test yes_ no_) ≡ 2
unfolding own_size shape-the_row-Stmt-1 hidden-the_row-Stmt-1 hidden
size_if_ around test yes_ no_ = refl

pub simple_if_ : (test : Expr) (yes_ : Stmt) (no_ : Stmt) → is_simple (code.If test yes_ no_) ≡ false
unfolding is_simple shape-the_row-Stmt-1 hidden-the_row-Stmt-1 hidden
simple_if_ test yes_ no_ = refl

pub lines_if_ : (around : Around) (test : Expr) (yes_ : Stmt) (no_ : Stmt) → own_lines around (code.If test yes_ no_) ≡ []
unfolding own_lines shape-the_row-Stmt-1 hidden-the_row-Stmt-1 hidden
lines_if_ around test yes_ no_ = refl

pub words_loop : (test : Expr) (step_ : Stmt) (body : Stmt) → words_of (code.Loop test step_ body) ≡ test ∷ []
unfolding words_of shape-the_row-Stmt-1 hidden-the_row-Stmt-1 hidden
words_loop test step_ body = refl

pub hint_loop : (test : Expr) (step_ : Stmt) (body : Stmt) → hint_of (code.Loop test step_ body) ≡ None
unfolding hint_of shape-the_row-Stmt-1 hidden-the_row-Stmt-1 hidden
hint_loop test step_ body = refl

pub children_loop : (test : Expr) (step_ : Stmt) (body : Stmt) → children_of (code.Loop test step_ body) ≡ body ∷ step_ ∷ []
unfolding children_of shape-the_row-Stmt-1 hidden-the_row-Stmt-1 hidden
children_loop test step_ body = refl

pub size_loop : (around : Around) (test : Expr) (step_ : Stmt) (body : Stmt) → own_size around (code.Loop test step_ body) ≡ 3
unfolding own_size shape-the_row-Stmt-1 hidden-the_row-Stmt-1 hidden
size_loop around test step_ body = refl

pub simple_loop : (test : Expr) (step_ : Stmt) (body : Stmt) → is_simple (code.Loop test step_ body) ≡ false
unfolding is_simple shape-the_row-Stmt-1 hidden-the_row-Stmt-1 hidden
simple_loop test step_ body = refl

pub lines_loop : (around : Around) (test : Expr) (step_ : Stmt) (body : Stmt) → own_lines around (code.Loop test step_ body) ≡ []
unfolding own_lines shape-the_row-Stmt-1 hidden-the_row-Stmt-1 hidden
lines_loop around test step_ body = refl

pub words_each : (at : Pos) (low : Expr) (high : Expr) (g : ℕ) (copies : List ℕ) → words_of (code.Each at low high g copies) ≡ low ∷ high ∷ []
unfolding words_of shape-the_row-Stmt-1 hidden-the_row-Stmt-1 hidden
words_each at low high g copies = refl

pub hint_each : (at : Pos) (low : Expr) (high : Expr) (g : ℕ) (copies : List ℕ) → hint_of (code.Each at low high g copies) ≡ None
unfolding hint_of shape-the_row-Stmt-1 hidden-the_row-Stmt-1 hidden
hint_each at low high g copies = refl

pub children_each : (at : Pos) (low : Expr) (high : Expr) (g : ℕ) (copies : List ℕ) → children_of (code.Each at low high g copies) ≡ []
unfolding children_of shape-the_row-Stmt-1 hidden-the_row-Stmt-1 hidden
children_each at low high g copies = refl

pub size_each : (around : Around) (at : Pos) (low : Expr) (high : Expr) (g : ℕ) (copies : List ℕ) → own_size around (code.Each at low high g copies) ≡ length copies + 15
unfolding own_size shape-the_row-Stmt-1 hidden-the_row-Stmt-1 hidden
size_each around at low high g copies = refl

pub simple_each : (at : Pos) (low : Expr) (high : Expr) (g : ℕ) (copies : List ℕ) → is_simple (code.Each at low high g copies) ≡ false
unfolding is_simple shape-the_row-Stmt-1 hidden-the_row-Stmt-1 hidden
simple_each at low high g copies = refl

pub lines_each : (around : Around) (at : Pos) (low : Expr) (high : Expr) (g : ℕ) (copies : List ℕ) → own_lines around (code.Each at low high g copies) ≡ []
unfolding own_lines shape-the_row-Stmt-1 hidden-the_row-Stmt-1 hidden
lines_each around at low high g copies = refl

pub words_break_ : words_of code.Break ≡ []
unfolding words_of shape-the_row-Stmt-1 hidden-the_row-Stmt-1 hidden
words_break_ = refl

pub hint_break_ : hint_of code.Break ≡ None
unfolding hint_of shape-the_row-Stmt-1 hidden-the_row-Stmt-1 hidden
hint_break_ = refl

pub children_break_ : children_of code.Break ≡ []
unfolding children_of shape-the_row-Stmt-1 hidden-the_row-Stmt-1 hidden
children_break_ = refl

pub size_break_ : (around : Around) → own_size around code.Break ≡ 1
unfolding own_size shape-the_row-Stmt-1 hidden-the_row-Stmt-1 hidden
size_break_ around = refl

pub simple_break_ : is_simple code.Break ≡ true
unfolding is_simple shape-the_row-Stmt-1 hidden-the_row-Stmt-1 hidden
simple_break_ = refl

pub lines_break_ : (around : Around) → own_lines around code.Break ≡ placeless (by.Jump around.broken) ∷ []
unfolding own_lines shape-the_row-Stmt-1 hidden-the_row-Stmt-1 hidden
lines_break_ around = refl

pub words_continue_ : words_of code.Continue ≡ []
unfolding words_of shape-the_row-Stmt-1 hidden-the_row-Stmt-1 hidden
words_continue_ = refl

pub hint_continue_ : hint_of code.Continue ≡ None
unfolding hint_of shape-the_row-Stmt-1 hidden-the_row-Stmt-1 hidden
hint_continue_ = refl

pub children_continue_ : children_of code.Continue ≡ []
unfolding children_of shape-the_row-Stmt-1 hidden-the_row-Stmt-1 hidden
children_continue_ = refl

pub size_continue_ : (around : Around) → own_size around code.Continue ≡ 1
unfolding own_size shape-the_row-Stmt-1 hidden-the_row-Stmt-1 hidden
size_continue_ around = refl

pub simple_continue_ : is_simple code.Continue ≡ true
unfolding is_simple shape-the_row-Stmt-1 hidden-the_row-Stmt-1 hidden
simple_continue_ = refl

pub lines_continue_ : (around : Around) → own_lines around code.Continue ≡ placeless (by.Jump around.continued) ∷ []
unfolding own_lines shape-the_row-Stmt-1 hidden-the_row-Stmt-1 hidden
lines_continue_ around = refl

pub words_return_ : (e : Expr) → words_of (code.Return e) ≡ e ∷ []
unfolding words_of shape-the_row-Stmt-1 hidden-the_row-Stmt-1 hidden
words_return_ e = refl

pub hint_return_ : (e : Expr) → hint_of (code.Return e) ≡ None
unfolding hint_of shape-the_row-Stmt-1 hidden-the_row-Stmt-1 hidden
hint_return_ e = refl

pub children_return_ : (e : Expr) → children_of (code.Return e) ≡ []
unfolding children_of shape-the_row-Stmt-1 hidden-the_row-Stmt-1 hidden
children_return_ e = refl

pub size_return_ : (around : Around) (e : Expr) → own_size around (code.Return e) ≡ length (returning around.spawns)
unfolding own_size shape-the_row-Stmt-1 hidden-the_row-Stmt-1 hidden
size_return_ around e = refl

pub simple_return_ : (e : Expr) → is_simple (code.Return e) ≡ true
unfolding is_simple shape-the_row-Stmt-1 hidden-the_row-Stmt-1 hidden
simple_return_ e = refl

pub lines_return_ : (around : Around) (e : Expr) → own_lines around (code.Return e) ≡ returning around.spawns
unfolding own_lines shape-the_row-Stmt-1 hidden-the_row-Stmt-1 hidden
lines_return_ around e = refl

pub words_sync : words_of code.Sync ≡ []
unfolding words_of shape-the_row-Stmt-1 hidden-the_row-Stmt-1 hidden
words_sync = refl

pub hint_sync : hint_of code.Sync ≡ None
unfolding hint_of shape-the_row-Stmt-1 hidden-the_row-Stmt-1 hidden
hint_sync = refl

pub children_sync : children_of code.Sync ≡ []
unfolding children_of shape-the_row-Stmt-1 hidden-the_row-Stmt-1 hidden
children_sync = refl

pub size_sync : (around : Around) → own_size around code.Sync ≡ 1
unfolding own_size shape-the_row-Stmt-1 hidden-the_row-Stmt-1 hidden
size_sync around = refl

pub simple_sync : is_simple code.Sync ≡ true
unfolding is_simple shape-the_row-Stmt-1 hidden-the_row-Stmt-1 hidden
simple_sync = refl

pub lines_sync : (around : Around) → own_lines around code.Sync ≡ placeless by.Sync ∷ []
unfolding own_lines shape-the_row-Stmt-1 hidden-the_row-Stmt-1 hidden
lines_sync around = refl

pub ruleset words_by_form = (words_nothing, words_block, words_eval, words_set, words_store, words_add_to, words_spawn, words_if_, words_loop, words_each, words_break_, words_continue_, words_return_, words_sync)

pub ruleset hint_by_form = (hint_nothing, hint_block, hint_eval, hint_set, hint_store, hint_add_to, hint_spawn, hint_if_, hint_loop, hint_each, hint_break_, hint_continue_, hint_return_, hint_sync)

pub ruleset children_by_form = (children_nothing, children_block, children_eval, children_set, children_store, children_add_to, children_spawn, children_if_, children_loop, children_each, children_break_, children_continue_, children_return_, children_sync)

pub ruleset size_by_form = (size_nothing, size_block, size_eval, size_set, size_store, size_add_to, size_spawn, size_if_, size_loop, size_each, size_break_, size_continue_, size_return_, size_sync)

pub ruleset simple_by_form = (simple_nothing, simple_block, simple_eval, simple_set, simple_store, simple_add_to, simple_spawn, simple_if_, simple_loop, simple_each, simple_break_, simple_continue_, simple_return_, simple_sync)

pub ruleset lines_by_form = (lines_nothing, lines_block, lines_eval, lines_set, lines_store, lines_add_to, lines_spawn, lines_if_, lines_loop, lines_each, lines_break_, lines_continue_, lines_return_, lines_sync)
