-- Which statements of a program spawn, by their forms.
use Rattle.std.proofs.Common.{◌≡◌, ◌∙◌, ap, sym, ℕ, suc, Bool, true, false, not, ◌&&◌, ◌||◌, List, [], ◌∷◌, drop, Option, Some, refl}
use Rattle.std.specs.List.{slice_get}
use Rattle.word_ops.specs.declared.place.Pos.{Pos}
use Rattle.cilk_ast.specs.Kept.{has_spawn, is_no_spawn}
use Rattle.cilk_ast.specs.Parts.{each, each_of}
use Rattle.cilk_ast.specs.declared.program.Expr.{Expr}
use Rattle.cilk_ast.specs.declared.program.Stmt as code
use Rattle.cilk_ast.specs.declared.program.Stmt.TheBlock.{shape-the_row-Stmt-0, hidden-the_row-Stmt-0}
use Rattle.cilk_ast.specs.declared.program.Stmt.{Stmt}
use Rattle.cilk_ast.proofs.StatementForms.{if_form, loop_form}
use Rattle.cilk_types.proofs.ArgumentLemmas.{drop_item}
use Rattle.cilk_types.specs.Spawning.{spawns_in, some_spawn, spawns_in_list}
use denote.Hole.Carrier.{hidden}

not_both : (p q : Bool) → not (p && q) ≡ not p || not q
not_both true q = refl
not_both false q = refl

row_spawns : (body : List Stmt) → not (each_of is_no_spawn (hidden-the_row-Stmt-0 body)) ≡ some_spawn body
unfolding spawns_in shape-the_row-Stmt-0 hidden-the_row-Stmt-0 hidden
row_spawns [] = refl
row_spawns (s ∷ body) =
    not_both (each is_no_spawn s) (each_of is_no_spawn (hidden-the_row-Stmt-0 body)) ∙ ap (λ b. has_spawn s || b) (row_spawns body)

pub block_spawns : (body : List Stmt) → spawns_in (code.Block body) ≡ spawns_in_list body
unfolding spawns_in spawns_in_list
block_spawns body = row_spawns body

pub if_spawns : (test : Expr) (yes_ no_ : Stmt) → spawns_in (code.If test yes_ no_) ≡ spawns_in yes_ || spawns_in no_
unfolding spawns_in
if_spawns test yes_ no_ = ap has_spawn (if_form test yes_ no_) ∙ not_both (each is_no_spawn yes_) (each is_no_spawn no_)

pub loop_spawns : (test : Expr) (step body : Stmt) → spawns_in (code.Loop test step body) ≡ spawns_in step || spawns_in body
unfolding spawns_in
loop_spawns test step body = ap has_spawn (loop_form test step body) ∙ not_both (each is_no_spawn step) (each is_no_spawn body)

pub spawn_spawns : (at : Pos) (target : Option ℕ) (function : ℕ) (hint : Option Expr) (args : List Expr) →
    spawns_in (code.Spawn at target function hint args) ≡ true
unfolding spawns_in
spawn_spawns at target function hint args = refl

pub each_spawns : (at : Pos) (low high : Expr) (function : ℕ) (copies : List ℕ) → spawns_in (code.Each at low high function copies) ≡ true
unfolding spawns_in
each_spawns at low high function copies = refl

-- the other forms do not
pub nothing_spawns : spawns_in code.Nothing ≡ false
unfolding spawns_in
nothing_spawns = refl

pub eval_spawns : (value : Expr) → spawns_in (code.Eval value) ≡ false
unfolding spawns_in
eval_spawns value = refl

pub set_spawns : (slot : ℕ) (value : Expr) → spawns_in (code.Set slot value) ≡ false
unfolding spawns_in
set_spawns slot value = refl

pub store_spawns : (at : Pos) (address value : Expr) → spawns_in (code.Store at address value) ≡ false
unfolding spawns_in
store_spawns at address value = refl

pub add_spawns : (at : Pos) (address value : Expr) → spawns_in (code.AddTo at address value) ≡ false
unfolding spawns_in
add_spawns at address value = refl

pub break_spawns : spawns_in code.Break ≡ false
unfolding spawns_in
break_spawns = refl

pub continue_spawns : spawns_in code.Continue ≡ false
unfolding spawns_in
continue_spawns = refl

pub return_spawns : (value : Expr) → spawns_in (code.Return value) ≡ false
unfolding spawns_in
return_spawns value = refl

pub sync_spawns : spawns_in code.Sync ≡ false
unfolding spawns_in
sync_spawns = refl

pub ruleset spawning_forms =
    (block_spawns, if_spawns, loop_spawns, spawn_spawns, each_spawns, nothing_spawns, eval_spawns, set_spawns, store_spawns, add_spawns, break_spawns, continue_spawns, return_spawns, sync_spawns)

-- statements one after the other
pub next_spawns : (s : Stmt) (rest : List Stmt) → spawns_in_list (s ∷ rest) ≡ spawns_in s || spawns_in_list rest
unfolding spawns_in_list
next_spawns s rest = refl

pub none_spawns : spawns_in_list [] ≡ false
unfolding spawns_in_list
none_spawns = refl

pub spawns_here : (body : List Stmt) (i : ℕ) (s : Stmt) (b all : Bool) → slice_get body i ≡ Some s → b ≡ spawns_in s → b ≡ true →
    spawns_in_list (drop i body) ≡ all → true ≡ all
spawns_here body i s b all item is yes_ h =
    sym (ap (λ t. t || spawns_in_list (drop (suc i) body)) (sym is ∙ yes_))
    ∙ sym (ap spawns_in_list (drop_item body i s item) ∙ next_spawns s (drop (suc i) body)) ∙ h

pub spawns_later : (body : List Stmt) (i j : ℕ) (s : Stmt) (b all : Bool) → j ≡ suc i → slice_get body i ≡ Some s → b ≡ spawns_in s → b ≡ false →
    spawns_in_list (drop i body) ≡ all → spawns_in_list (drop j body) ≡ all
spawns_later body i j s b all next item is no_ h =
    ap (λ n. spawns_in_list (drop n body)) next
    ∙ sym (ap spawns_in_list (drop_item body i s item) ∙ next_spawns s (drop (suc i) body) ∙ ap (λ t. t || spawns_in_list (drop (suc i) body)) (sym is ∙ no_))
    ∙ h
