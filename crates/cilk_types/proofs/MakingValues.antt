-- What left sides, values, spawns and the statements without statements in them are, by their forms.
use Rattle.std.proofs.Common.{◌≡◌, ℕ, ◌+◌, ◌++◌, List, [], ◌∷◌, append-nil, add-zero, sym, Option, Some, None, refl, pos, negsuc}
use Rattle.word_ops.specs.declared.place.Pos.{Pos}
use Rattle.word_ops.specs.declared.operators.BinaryOp.TheVariants as by
use Rattle.cilk_ast.specs.declared.kind.Kind.{Kind}
use Rattle.cilk_ast.specs.declared.program.Expr as word
use Rattle.cilk_ast.specs.declared.program.Expr.{Word}
use Rattle.cilk_ast.specs.declared.program.Stmt as program
use Rattle.cilk_ast.specs.declared.tree.TSpawn.{TSpawn}
use Rattle.cilk_ast.specs.declared.tree.TValue.{TValue}
use Rattle.cilk_ast.specs.declared.tree.TValue.TheVariants.{Plain, Spawned}
use Rattle.cilk_ast.specs.declared.tree.TExpr as code
use Rattle.cilk_ast.specs.declared.tree.TExpr.TheBlock.{shape-the_row-TExpr-0, hidden-the_row-TExpr-0}
use Rattle.cilk_ast.specs.declared.tree.TExpr.{TExpr, Number, Var, Call', Builtin', Print'}
use Rattle.cilk_ast.specs.TreeExpression.{Paren, Un, Deref, Cast, Index, Bin, Both, Either, InitAt}
use Rattle.cilk_ast.specs.declared.tree.TStmt as statements
use Rattle.cilk_ast.proofs.TreeExpressionForms.{paren_form, deref_form, index_form}
use Rattle.cilk_model.specs.Scopes.{declared}
use Rattle.cilk_model.specs.Sorts.{begins_at}
use Rattle.cilk_model.specs.StatementLowering.{Side, cell, put, added, target_of}
use Rattle.cilk_types.specs.Making.{Walked, made, past, word_at, words_at, called_at, hint_at, tested_at, returned_at, variable_at, side_at, spawned_at, assigned_at, initial_at, local_at, declared_at}
use denote.Hole.Carrier.{hidden}

-- ---- left sides

pub side_var : (w : Walked) (at : Pos) (name : List ℕ) → side_at w (Var at name) ≡ variable_at w at name
unfolding side_at variable_at
side_var w at name = refl

pub side_paren : (w : Walked) (at : Pos) (inner : TExpr) → side_at w (code.Paren at inner) ≡ side_at w inner
unfolding side_at shape-the_row-TExpr-0 hidden-the_row-TExpr-0 hidden
side_paren w at inner = refl

pub side_deref : (w : Walked) (at : Pos) (inner : TExpr) → side_at w (code.Deref at inner) ≡ cell at (word_at w inner)
unfolding side_at word_at shape-the_row-TExpr-0 hidden-the_row-TExpr-0 hidden
side_deref w at inner = refl

pub side_index : (w : Walked) (at : Pos) (base index : TExpr) →
    side_at w (code.Index at base index) ≡ cell at (word.Bin at by.Add (word_at w base) (word_at w index))
unfolding side_at word_at shape-the_row-TExpr-0 hidden-the_row-TExpr-0 hidden
side_index w at base index = refl

-- any other expression
pub side_other : (w : Walked) (e : TExpr) → ((at : Pos) (name : List ℕ) → e ≡ Var at name → ⊥) →
    ((at : Pos) (inner : TExpr) → e ≡ code.Paren at inner → ⊥) → ((at : Pos) (inner : TExpr) → e ≡ code.Deref at inner → ⊥) →
    ((at : Pos) (base index : TExpr) → e ≡ code.Index at base index → ⊥) → side_at w e ≡ cell (begins_at e) (word_at w e)
unfolding side_at word_at
side_other w (Var at name) v p d i = absurd (v at name refl)
side_other w (Paren at inner) v p d i = absurd (p at inner (sym (paren_form at inner)))
side_other w (Deref at inner) v p d i = absurd (d at inner (sym (deref_form at inner)))
side_other w (Index at base index) v p d i = absurd (i at base index (sym (index_form at base index)))
side_other w (Number at value) v p d i = refl
side_other w (Un at op inner) v p d i = refl
side_other w (Cast at kind inner) v p d i = refl
side_other w (Bin at op left right) v p d i = refl
side_other w (Both at left right) v p d i = refl
side_other w (Either at left right) v p d i = refl
side_other w (Call' at name n args) v p d i = refl
side_other w (Builtin' at which n args) v p d i = refl
side_other w (Print' at text_at format n args) v p d i = refl
side_other w (InitAt at name_at name value) v p d i = refl

pub ruleset side_lowered = (side_var, side_paren, side_deref, side_index, side_other)

-- ---- values and spawns

pub no_hint : (w : Walked) → hint_at w None ≡ None
unfolding hint_at
no_hint w = refl

pub some_hint : (w : Walked) (e : TExpr) → hint_at w (Some e) ≡ Some (word_at w e)
unfolding hint_at word_at
some_hint w e = refl

pub spawned_is : (w : Walked) (target : Option ℕ) (spawn : TSpawn) →
    spawned_at w target spawn ≡ program.Spawn spawn.pos target (called_at w spawn.name) (hint_at w spawn.hint) (words_at w spawn.args)
unfolding spawned_at called_at hint_at words_at
spawned_is w target spawn = refl

pub plain_assigned : (w : Walked) (left : Side) (e : TExpr) → assigned_at w left (Plain e) ≡ put left (word_at w e)
unfolding assigned_at word_at
plain_assigned w left e = refl

pub spawn_assigned : (w : Walked) (left : Side) (spawn : TSpawn) → assigned_at w left (Spawned spawn) ≡ spawned_at w (target_of left) spawn
unfolding assigned_at spawned_at
spawn_assigned w left spawn = refl

pub no_initial : (w : Walked) (slot : ℕ) → initial_at w slot None ≡ program.Set slot (Word (pos 0))
unfolding initial_at
no_initial w slot = refl

pub plain_initial : (w : Walked) (slot : ℕ) (e : TExpr) → initial_at w slot (Some (Plain e)) ≡ program.Set slot (word_at w e)
unfolding initial_at word_at
plain_initial w slot e = refl

pub spawn_initial : (w : Walked) (slot : ℕ) (spawn : TSpawn) →
    initial_at w slot (Some (Spawned spawn)) ≡ program.Block (program.Set slot (Word (pos 0)) ∷ spawned_at w (Some slot) spawn ∷ [])
unfolding initial_at spawned_at
spawn_initial w slot spawn = refl

pub none_returned : (w : Walked) → returned_at w None ≡ Word (pos 0)
unfolding returned_at
none_returned w = refl

pub some_returned : (w : Walked) (e : TExpr) → returned_at w (Some e) ≡ word_at w e
unfolding returned_at word_at
some_returned w e = refl

pub none_tested : (w : Walked) → tested_at w None ≡ Word (pos 1)
unfolding tested_at
none_tested w = refl

pub some_tested : (w : Walked) (e : TExpr) → tested_at w (Some e) ≡ word_at w e
unfolding tested_at word_at
some_tested w e = refl

pub ruleset value_forms =
    (no_hint, some_hint, spawned_is, plain_assigned, spawn_assigned, no_initial, plain_initial, spawn_initial, none_returned, some_returned, none_tested, some_tested)

-- ---- statements without statements in them

pub made_empty : (w : Walked) → made statements.Empty w ≡ program.Nothing
unfolding made
made_empty w = refl

pub made_local : (at : Pos) (kind : Kind) (name : List ℕ) (value : Option TValue) (w : Walked) →
    made (statements.Local at kind name value) w ≡ local_at w value
unfolding made local_at initial_at
made_local at kind name value w = refl

pub made_eval : (e : TExpr) (w : Walked) → made (statements.Eval e) w ≡ program.Eval (word_at w e)
unfolding made word_at
made_eval e w = refl

pub made_assign : (at : Pos) (left : TExpr) (value : TValue) (w : Walked) →
    made (statements.Assign at left value) w ≡ assigned_at w (side_at w left) value
unfolding made assigned_at side_at
made_assign at left value w = refl

pub made_add : (at : Pos) (left value : TExpr) (w : Walked) →
    made (statements.AddTo at left value) w ≡ added at (side_at w left) (word_at w value)
unfolding made side_at word_at
made_add at left value w = refl

pub made_up : (left : TExpr) (w : Walked) → made (statements.Up left) w ≡ added (begins_at left) (side_at w left) (Word (pos 1))
unfolding made side_at
made_up left w = refl

pub made_down : (left : TExpr) (w : Walked) → made (statements.Down left) w ≡ added (begins_at left) (side_at w left) (Word (negsuc 0))
unfolding made side_at
made_down left w = refl

pub made_spawn : (spawn : TSpawn) (w : Walked) → made (statements.Spawn spawn) w ≡ spawned_at w None spawn
unfolding made spawned_at
made_spawn spawn w = refl

pub made_break : (at : Pos) (w : Walked) → made (statements.Break at) w ≡ program.Break
unfolding made
made_break at w = refl

pub made_continue : (at : Pos) (w : Walked) → made (statements.Continue at) w ≡ program.Continue
unfolding made
made_continue at w = refl

pub made_return : (at : Pos) (value : Option TExpr) (w : Walked) → made (statements.Return at value) w ≡ program.Return (returned_at w value)
unfolding made returned_at
made_return at value w = refl

pub made_sync : (w : Walked) → made statements.Sync w ≡ program.Sync
unfolding made
made_sync w = refl

-- they leave code where it was, but for a local
still : (w : Walked) → record w { frame = w.frame ++ []; next = w.next + 0; bodies = w.bodies ++ [] } ≡ w
still w = λ i. record w { frame = append-nil w.frame i; next = add-zero w.next i; bodies = append-nil w.bodies i }

pub past_local : (at : Pos) (kind : Kind) (name : List ℕ) (value : Option TValue) (w : Walked) →
    past (statements.Local at kind name value) w ≡ declared_at name kind w
unfolding past declared_at
past_local at kind name value w = λ i. record w {
  scopes = declared name kind w.scopes;
  frame = w.frame ++ w.scopes.count ∷ [];
  next = add-zero w.next i;
  bodies = append-nil w.bodies i;
}

pub past_empty : (w : Walked) → past statements.Empty w ≡ w
unfolding past
past_empty w = still w

pub past_eval : (e : TExpr) (w : Walked) → past (statements.Eval e) w ≡ w
unfolding past
past_eval e w = still w

pub past_assign : (at : Pos) (left : TExpr) (value : TValue) (w : Walked) → past (statements.Assign at left value) w ≡ w
unfolding past
past_assign at left value w = still w

pub past_add : (at : Pos) (left value : TExpr) (w : Walked) → past (statements.AddTo at left value) w ≡ w
unfolding past
past_add at left value w = still w

pub past_up : (left : TExpr) (w : Walked) → past (statements.Up left) w ≡ w
unfolding past
past_up left w = still w

pub past_down : (left : TExpr) (w : Walked) → past (statements.Down left) w ≡ w
unfolding past
past_down left w = still w

pub past_spawn : (spawn : TSpawn) (w : Walked) → past (statements.Spawn spawn) w ≡ w
unfolding past
past_spawn spawn w = still w

pub past_break : (at : Pos) (w : Walked) → past (statements.Break at) w ≡ w
unfolding past
past_break at w = still w

pub past_continue : (at : Pos) (w : Walked) → past (statements.Continue at) w ≡ w
unfolding past
past_continue at w = still w

pub past_return : (at : Pos) (value : Option TExpr) (w : Walked) → past (statements.Return at value) w ≡ w
unfolding past
past_return at value w = still w

pub past_sync : (w : Walked) → past statements.Sync w ≡ w
unfolding past
past_sync w = still w

pub ruleset made_simple =
    (made_empty, made_local, made_eval, made_assign, made_add, made_up, made_down, made_spawn, made_break, made_continue, made_return, made_sync)

pub ruleset past_simple =
    (past_empty, past_local, past_eval, past_assign, past_add, past_up, past_down, past_spawn, past_break, past_continue, past_return, past_sync)
