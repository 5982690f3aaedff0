-- A statement with no statement in it, in which no rule is broken, is well formed in a program.
use Rattle.std.proofs.Common.{◌≡◌, ◌∙◌, ap, sym, ℕ, ◌≤◌, Bool, true, List, [], ◌∷◌, length, map, Option, Some, None, refl}
use Rattle.std.specs.Prelude.{nat_lt, pos}
use Rattle.std.specs.List.{list_all}
use Rattle.std.proofs.lemmas.Bool.{and_from}
use Rattle.std.proofs.lemmas.List.{length-map}
use Rattle.word_ops.specs.declared.place.Pos.{Pos}
use Rattle.word_ops.specs.declared.operators.BinaryOp.TheVariants as by
use Rattle.cilk_ast.specs.declared.kind.Kind.{Kind}
use Rattle.cilk_ast.specs.declared.program.Function.{Function}
use Rattle.cilk_ast.specs.declared.program.Expr.{Expr, Word, Slot}
use Rattle.cilk_ast.specs.declared.tree.TSpawn.{TSpawn}
use Rattle.cilk_ast.specs.declared.tree.TValue.{TValue}
use Rattle.cilk_ast.specs.declared.tree.TValue.TheVariants.{Plain, Spawned}
use Rattle.cilk_ast.specs.declared.tree.TExpr.{TExpr, Number, Var, Call', Builtin', Print'}
use Rattle.cilk_ast.specs.TreeExpression.{Paren, Un, Deref, Cast, Index, Bin, Both, Either, InitAt}
use Rattle.cilk_ast.specs.Parts.{expressions_of}
use Rattle.cilk_ast.specs.Kept.{takes, is_target}
use Rattle.cilk_ast.specs.declared.fault.FaultKind.TheVariants as fault
use Rattle.cilk_ast.specs.declared.kind.Kind.TheVariants as sort
use Rattle.cilk_ast.specs.declared.program.Stmt as code
use Rattle.cilk_model.specs.FirstFault.{broken}
use Rattle.cilk_model.specs.Scopes.{Entity, local, global, function, Names}
use Rattle.cilk_model.specs.Sorts.{counted, judged, spawn_kind, is_value}
use Rattle.cilk_model.specs.ExpressionBreaks.{misfit, unfit, index_misfits, call_faults, faults_of, list_faults, hint_faults, spawn_faults}
use Rattle.cilk_model.specs.StatementBreaks.{given_misfit, brings_other, value_faults, initial_faults, return_faults, test_faults}
use Rattle.cilk_model.specs.Copies.{Frame, number_of, named_by, named_by_list, named_by_option, named_by_spawn, named_by_value, named_by_initial}
use Rattle.cilk_model.specs.ExpressionLowering.{index_of, expression, hint}
use Rattle.cilk_model.specs.StatementLowering.{Side, slot, cell, variable_side, side, spawn_to, target_of, put, added, assigned, initial, returned, tested}
use Rattle.cilk_types.proofs.KeptLists.{no_left, no_right, three_unbroken}
use Rattle.cilk_types.proofs.KeptNumbers.{Within, within_left, within_right}
use Rattle.cilk_types.proofs.KeptForms.{all_sound, sound_bin}
use Rattle.cilk_types.proofs.KeptNames.{Agrees, Sees, takes_called}
use Rattle.cilk_types.proofs.KeptExpressions.{slot_sound, sound_expression}
use Rattle.cilk_types.proofs.KeptStatementForms.{block_sound, statement_sound}

-- the slot of a side is under the number of slots, and its address is well formed
abbrev pub side_sound : List Function → ℕ → Side → Bool
side_sound functions slots (slot n) = nat_lt n slots
side_sound functions slots (cell at address) = all_sound functions slots address

target_sound : (functions : List Function) (slots : ℕ) (left : Side) → side_sound functions slots left ≡ true → is_target slots (target_of left) ≡ true
target_sound functions slots (slot n) h = h
target_sound functions slots (cell at address) h = refl

pub put_sound : (functions : List Function) (slots : ℕ) (left : Side) (value : Expr) → side_sound functions slots left ≡ true → all_sound functions slots value ≡ true →
    statement_sound functions slots (put left value) ≡ true
put_sound functions slots (slot n) value h k = and_from _ _ (and_from _ _ h refl) (and_from _ _ k refl)
put_sound functions slots (cell at address) value h k = and_from _ _ h (and_from _ _ k refl)

pub added_sound : (functions : List Function) (slots : ℕ) (at : Pos) (left : Side) (value : Expr) → side_sound functions slots left ≡ true →
    all_sound functions slots value ≡ true → statement_sound functions slots (added at left value) ≡ true
added_sound functions slots at (slot n) value h k =
    let read : all_sound functions slots (Slot n) ≡ true = and_from _ _ (and_from _ _ (and_from _ _ h refl) refl) refl in
    and_from _ _ (and_from _ _ h refl) (and_from _ _ (sound_bin functions slots at by.Add (Slot n) value read k) refl)
added_sound functions slots at (cell cell_at address) value h k = and_from _ _ h (and_from _ _ k refl)

module _ (functions : List Function) (slots : ℕ) (named : List ℕ) (names : Names) (frame : Frame) (agrees : Agrees functions names)
    (sees : Sees named frame names) (under : length frame ≤ slots) where
  sound : (e : TExpr) → faults_of names e ≡ [] → Within (named_by names e) named → all_sound functions slots (expression names frame e) ≡ true
  sound e h w = sound_expression functions slots named names frame agrees sees under e h w

  variable_side_sound : (at : Pos) (name : List ℕ) (entity : Option Entity) → names name ≡ entity → Within (number_of entity) named →
      side_sound functions slots (variable_side names frame at entity) ≡ true
  variable_side_sound at name (Some (local l)) is w = slot_sound functions slots named names frame agrees sees under name l is w
  variable_side_sound at name (Some (global g)) is w = refl
  variable_side_sound at name (Some (function f)) is w = refl
  variable_side_sound at name None is w = refl

  pub sound_side : (left : TExpr) → faults_of names left ≡ [] → Within (named_by names left) named → side_sound functions slots (side names frame left) ≡ true
  sound_side (Var at name) h w = variable_side_sound at name (names name) refl w
  sound_side (Paren at inner) h w = sound_side inner h w
  sound_side (Deref at inner) h w = sound inner (no_left (faults_of names inner) (unfit sort.Ptr (judged names inner)) h) w
  sound_side (Index at base index) h w =
      let parts = three_unbroken (faults_of names base) (faults_of names index) (index_misfits (judged names base) (judged names index)) h in
      sound_bin functions slots at by.Add (expression names frame base) (expression names frame index)
      (sound base parts.first (within_left (named_by names base) (named_by names index) named w))
      (sound index parts.second (within_right (named_by names base) (named_by names index) named w))
  sound_side (Number at value) h w = sound (Number at value) h w
  sound_side (Un at op inner) h w = sound (Un at op inner) h w
  sound_side (Cast at kind inner) h w = sound (Cast at kind inner) h w
  sound_side (Bin at op left right) h w = sound (Bin at op left right) h w
  sound_side (Both at left right) h w = sound (Both at left right) h w
  sound_side (Either at left right) h w = sound (Either at left right) h w
  sound_side (Call' at name n args) h w = sound (Call' at name n args) h w
  sound_side (Builtin' at which n args) h w = sound (Builtin' at which n args) h w
  sound_side (Print' at text_at format n args) h w = sound (Print' at text_at format n args) h w
  sound_side (InitAt at name_at name value) h w = sound (InitAt at name_at name value) h w

  sound_list : (args : List TExpr) → list_faults names args ≡ [] → Within (named_by_list names args) named →
      list_all (all_sound functions slots) (map (expression names frame) args) ≡ true
  sound_list [] h w = refl
  sound_list (arg ∷ rest) h w =
      and_from _ _ (sound arg (no_left (faults_of names arg) (list_faults names rest) h) (within_left (named_by names arg) (named_by_list names rest) named w))
      (sound_list rest (no_right (faults_of names arg) (list_faults names rest) h) (within_right (named_by names arg) (named_by_list names rest) named w))

  hinted_sound : (at : Pos) (target : Option ℕ) (f : ℕ) (given : Option TExpr) (args : List Expr) → hint_faults names given ≡ [] →
      Within (named_by_option names given) named → list_all (all_sound functions slots) args ≡ true →
      list_all (all_sound functions slots) (expressions_of (code.Spawn at target f (hint names frame given) args)) ≡ true
  hinted_sound at target f None args h w k = k
  hinted_sound at target f (Some e) args h w k = and_from _ _ (sound e (no_left (faults_of names e) (unfit sort.Ptr (judged names e)) h) w) k

  pub spawn_sound : (target : Option ℕ) (spawn : TSpawn) → is_target slots target ≡ true → spawn_faults names spawn ≡ [] → Within (named_by_spawn names spawn) named →
      statement_sound functions slots (spawn_to names frame target spawn) ≡ true
  spawn_sound target spawn t h w =
      let called = call_faults spawn.name_pos (names spawn.name) (map (judged names) spawn.args) in
      let parts = three_unbroken (hint_faults names spawn.hint) called (list_faults names spawn.args) h in
      let many = takes_called functions names agrees spawn.name_pos spawn.name (names spawn.name) (map (judged names) spawn.args) refl parts.second in
      let args = map (expression names frame) spawn.args in
      let as_many : length (map (judged names) spawn.args) ≡ length args =
      length-map spawn.args (judged names) ∙ sym (length-map spawn.args (expression names frame)) in
      and_from _ _ (and_from _ _ t (sym (ap (takes functions (index_of (names spawn.name))) as_many) ∙ many))
      (hinted_sound spawn.pos target (index_of (names spawn.name)) spawn.hint args parts.first
      (within_left (named_by_option names spawn.hint) (named_by_list names spawn.args) named w)
      (sound_list spawn.args parts.third (within_right (named_by_option names spawn.hint) (named_by_list names spawn.args) named w)))

  pub assigned_sound : (wanted : Option Kind) (left : Side) (value : TValue) → side_sound functions slots left ≡ true → value_faults names wanted value ≡ [] →
      Within (named_by_value names value) named → statement_sound functions slots (assigned names frame left value) ≡ true
  assigned_sound wanted left (Plain e) l h w =
      put_sound functions slots left (expression names frame e) l (sound e (no_left (faults_of names e) (given_misfit wanted (judged names e)) h) w)
  assigned_sound wanted left (Spawned spawn) l h w =
      spawn_sound (target_of left) spawn (target_sound functions slots left l)
      (no_left (spawn_faults names spawn) (brings_other wanted (spawn_kind names spawn) spawn.pos) h) w

  pub initial_sound : (kind : Kind) (n : ℕ) (value : Option TValue) → nat_lt n slots ≡ true → initial_faults names kind value ≡ [] →
      Within (named_by_initial names value) named → statement_sound functions slots (initial names frame n value) ≡ true
  initial_sound kind n None l h w = put_sound functions slots (slot n) (Word (pos 0)) l refl
  initial_sound kind n (Some (Plain e)) l h w = assigned_sound (Some kind) (slot n) (Plain e) l h w
  initial_sound kind n (Some (Spawned spawn)) l h w =
      block_sound functions slots (code.Set n (Word (pos 0)) ∷ spawn_to names frame (Some n) spawn ∷ [])
      (and_from _ _ (put_sound functions slots (slot n) (Word (pos 0)) l refl)
      (and_from _ _ (assigned_sound (Some kind) (slot n) (Spawned spawn) l h w) refl))

  pub returned_sound : (result : Kind) (at : Pos) (value : Option TExpr) → return_faults names result at value ≡ [] → Within (named_by_option names value) named →
      all_sound functions slots (returned names frame value) ≡ true
  returned_sound result at None h w = refl
  returned_sound sort.Void at (Some e) h w = sound e (no_right (broken fault.WrongType at) (faults_of names e) h) w
  returned_sound sort.Long at (Some e) h w = sound e (no_left (faults_of names e) (unfit (counted sort.Long) (judged names e)) h) w
  returned_sound sort.Ptr at (Some e) h w = sound e (no_left (faults_of names e) (unfit (counted sort.Ptr) (judged names e)) h) w
  returned_sound sort.Int at (Some e) h w = sound e (no_left (faults_of names e) (unfit (counted sort.Int) (judged names e)) h) w

  pub tested_sound : (test : Option TExpr) → test_faults names test ≡ [] → Within (named_by_option names test) named →
      all_sound functions slots (tested names frame test) ≡ true
  tested_sound None h w = refl
  tested_sound (Some e) h w = sound e (no_left (faults_of names e) (misfit is_value (judged names e)) h) w
