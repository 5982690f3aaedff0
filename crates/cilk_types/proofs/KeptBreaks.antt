-- In a body in which no rule is broken each break and continue stands in a loop.
use Rattle.std.proofs.Common.{◌≡◌, ℕ, ◌+◌, Bool, true, [], ◌++◌, length, Option, Some, None, refl}
use Rattle.std.specs.List.{list_all}
use Rattle.std.proofs.lemmas.Bool.{and_from}
use Rattle.word_ops.specs.declared.place.Pos.{Pos}
use Rattle.cilk_ast.specs.Kept.{breaks_agree}
use Rattle.cilk_ast.specs.TreeStatement.{If, While, For, CilkFor, Present}
use Rattle.cilk_ast.specs.declared.kind.Kind.{Kind}
use Rattle.cilk_ast.specs.declared.program.Expr.{Expr}
use Rattle.cilk_ast.specs.declared.tree.TStmt.{TStmt, Empty, Block', Local, Eval, Assign, AddTo, Up, Down, Spawn, Break, Continue, Return, Sync, Held-TStmt-If-2, None', Row_of-TStmt as Stmts, end_of-TStmt as no_stmts, more_of-TStmt as more_stmts}
use Rattle.cilk_ast.specs.declared.tree.TValue.TheVariants.{Plain, Spawned}
use Rattle.cilk_ast.specs.declared.tree.TValue.{TValue}
use Rattle.cilk_ast.specs.declared.fault.FaultKind.TheVariants as fault
use Rattle.cilk_model.specs.Copies.{Frame}
use Rattle.cilk_model.specs.ExpressionBreaks.{part_faults}
use Rattle.cilk_model.specs.ExpressionLowering.{expression}
use Rattle.cilk_model.specs.Locals.{after, after_part}
use Rattle.cilk_model.specs.Scopes.{Names, Scopes, names_in, opened}
use Rattle.cilk_model.specs.Sorts.{is_value}
use Rattle.cilk_model.specs.StatementBreaks.{test_faults, faults_in, faults_in_part, faults_in_all}
use Rattle.cilk_model.specs.StatementLowering.{Side, slot, cell, side, added, assigned, initial, framed, framed_part, bodies_of, bodies_of_part, tested, statement, statement_part, statements}
use Rattle.cilk_types.proofs.KeptLists.{four_unbroken, no_left, no_right, not_broken, three_unbroken}
use Rattle.cilk_types.proofs.KeptStatementForms.{block_breaks, if_breaks, loop_breaks}

assigned_breaks : (names : Names) (frame : Frame) (left : Side) (value : TValue) (inside : Bool) → breaks_agree (assigned names frame left value) inside ≡ true
assigned_breaks names frame (slot n) (Plain e) inside = refl
assigned_breaks names frame (cell at address) (Plain e) inside = refl
assigned_breaks names frame left (Spawned spawn) inside = refl

added_breaks : (at : Pos) (left : Side) (value : Expr) (inside : Bool) → breaks_agree (added at left value) inside ≡ true
added_breaks at (slot n) value inside = refl
added_breaks at (cell cell_at address) value inside = refl

initial_breaks : (names : Names) (frame : Frame) (n : ℕ) (value : Option TValue) (inside : Bool) → breaks_agree (initial names frame n value) inside ≡ true
initial_breaks names frame n None inside = refl
initial_breaks names frame n (Some (Plain e)) inside = refl
initial_breaks names frame n (Some (Spawned spawn)) inside = block_breaks _ inside refl

module _ (result : Kind) where
  mutual
    pub breaks_stand : (s : TStmt) (scopes : Scopes) (frame : Frame) (next : ℕ) (inside : Bool) → faults_in result s scopes inside ≡ [] →
        breaks_agree (statement s scopes frame next) inside ≡ true
    breaks_stand Empty scopes frame next inside h = refl
    breaks_stand (Block' n body) scopes frame next inside h = block_breaks _ inside (all_breaks_stand body (opened scopes) frame next inside h)
    breaks_stand (Local at kind name value) scopes frame next inside h = initial_breaks (names_in scopes) frame (length frame) value inside
    breaks_stand (Eval e) scopes frame next inside h = refl
    breaks_stand (Assign at left value) scopes frame next inside h = assigned_breaks (names_in scopes) frame (side (names_in scopes) frame left) value inside
    breaks_stand (AddTo at left value) scopes frame next inside h = added_breaks at (side (names_in scopes) frame left) _ inside
    breaks_stand (Up left) scopes frame next inside h = added_breaks _ (side (names_in scopes) frame left) _ inside
    breaks_stand (Down left) scopes frame next inside h = added_breaks _ (side (names_in scopes) frame left) _ inside
    breaks_stand (Spawn spawn) scopes frame next inside h = refl
    breaks_stand (If test yes_ no_) scopes frame next inside h =
        let parts = three_unbroken (part_faults (names_in scopes) is_value test) (faults_in result yes_ scopes inside) (faults_in_part result no_ (after yes_ scopes) inside) h in
        if_breaks (expression (names_in scopes) frame test) _ _ inside (breaks_stand yes_ scopes frame next inside parts.second)
        (part_breaks_stand no_ (after yes_ scopes) (frame ++ framed yes_ scopes) (next + bodies_of yes_) inside parts.third)
    breaks_stand (While test body) scopes frame next inside h =
        loop_breaks (expression (names_in scopes) frame test) _ _ inside refl
        (breaks_stand body scopes frame next true (no_right (part_faults (names_in scopes) is_value test) (faults_in result body scopes true) h))
    breaks_stand (For init test step body) scopes frame next inside h =
        let begun = after_part init (opened scopes) in
        let begun_frame = frame ++ framed_part init (opened scopes) in
        let begun_next = next + bodies_of_part init in
        let parts =
        four_unbroken (faults_in_part result init (opened scopes) inside) (test_faults (names_in begun) test) (faults_in_part result step begun inside)
        (faults_in result body (after_part step begun) true) h in
        block_breaks _ inside
        (and_from _ _ (part_breaks_stand init (opened scopes) frame next inside parts.first)
        (and_from _ _
        (loop_breaks (tested (names_in begun) begun_frame test) _ _ inside (part_breaks_stand step begun begun_frame begun_next inside parts.third)
        (breaks_stand body (after_part step begun) (begun_frame ++ framed_part step begun) (begun_next + bodies_of_part step) true parts.fourth))
        refl))
    breaks_stand (CilkFor at name low second high third body) scopes frame next inside h = refl
    breaks_stand (Break at) scopes frame next inside h = not_broken inside fault.Escapes at h
    breaks_stand (Continue at) scopes frame next inside h = not_broken inside fault.Escapes at h
    breaks_stand (Return at value) scopes frame next inside h = refl
    breaks_stand Sync scopes frame next inside h = refl

    pub part_breaks_stand : (part : Held-TStmt-If-2) (scopes : Scopes) (frame : Frame) (next : ℕ) (inside : Bool) → faults_in_part result part scopes inside ≡ [] →
        breaks_agree (statement_part part scopes frame next) inside ≡ true
    part_breaks_stand None' scopes frame next inside h = refl
    part_breaks_stand (Present s) scopes frame next inside h = breaks_stand s scopes frame next inside h

    pub all_breaks_stand : {n : _} (body : Stmts n) (scopes : Scopes) (frame : Frame) (next : ℕ) (inside : Bool) → faults_in_all result body scopes inside ≡ [] →
        list_all (λ s. breaks_agree s inside) (statements body scopes frame next) ≡ true
    all_breaks_stand no_stmts scopes frame next inside h = refl
    all_breaks_stand (more_stmts first rest) scopes frame next inside h =
        and_from _ _
        (breaks_stand first scopes frame next inside (no_left (faults_in result first scopes inside) (faults_in_all result rest (after first scopes) inside) h))
        (all_breaks_stand rest (after first scopes) (frame ++ framed first scopes) (next + bodies_of first) inside
        (no_right (faults_in result first scopes inside) (faults_in_all result rest (after first scopes) inside) h))
