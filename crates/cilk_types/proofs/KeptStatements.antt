-- A statement in which no rule is broken is well formed in a program.
use Rattle.std.proofs.Common.{◌≡◌, ℕ, ◌+◌, ◌≤◌, Bool, true, false, List, [], ◌++◌, length, None, refl, arith, lt-ltb, length-append}
use Rattle.std.specs.List.{list_all}
use Rattle.std.specs.Prelude.{nat_lt, pos, negsuc}
use Rattle.std.proofs.lemmas.Bool.{and_from}
use Rattle.cilk_ast.specs.TreeStatement.{If, While, For, CilkFor, Present}
use Rattle.cilk_ast.specs.declared.kind.Kind.{Kind}
use Rattle.cilk_ast.specs.declared.program.Expr.{Word}
use Rattle.cilk_ast.specs.declared.program.Function.{Function}
use Rattle.cilk_ast.specs.declared.program.Stmt.{Nothing}
use Rattle.cilk_ast.specs.declared.tree.TStmt.{TStmt, Empty, Block', Local, Eval, Assign, AddTo, Up, Down, Spawn, Break, Continue, Return, Sync, Held-TStmt-If-2, None', Row_of-TStmt as Stmts, end_of-TStmt as no_stmts, more_of-TStmt as more_stmts}
use Rattle.cilk_ast.specs.declared.fault.FaultKind.TheVariants as fault
use Rattle.cilk_model.specs.Copies.{Frame, named_by, named_by_option, named_by_value, named_in, named_in_part, named_in_all}
use Rattle.cilk_model.specs.ExpressionBreaks.{misfit, faults_of, part_faults}
use Rattle.cilk_model.specs.ExpressionLowering.{expression}
use Rattle.cilk_model.specs.FirstFault.{broken_if}
use Rattle.cilk_model.specs.Locals.{in_body, after, after_part}
use Rattle.cilk_model.specs.Scopes.{Scopes, names_in, is_twice, opened}
use Rattle.cilk_model.specs.Sorts.{is_word, is_value, kind_of, judged, begins_at}
use Rattle.cilk_model.specs.StatementBreaks.{side_faults, target_faults, value_faults, initial_faults, added_misfit, return_faults, test_faults, other_name, faults_in, faults_in_part, faults_in_all}
use Rattle.cilk_model.specs.StatementLowering.{side, tested, framed, framed_part, framed_all, bodies_of, bodies_of_part, statement, statement_part, statements, outlines, outlines_part, outlines_all}
use Rattle.cilk_types.proofs.KeptLists.{four_unbroken, no_left, no_right, three_unbroken}
use Rattle.cilk_types.proofs.KeptNumbers.{Within, three_within, within_left, within_right}
use Rattle.cilk_types.proofs.KeptStands.{Stands, stands_behind, stands_first, stands_left, stands_right}
use Rattle.cilk_types.proofs.KeptKnown.{Holds, agrees_names, sees_names}
use Rattle.cilk_types.proofs.KeptScopes.{holds_after, holds_after_part, holds_opened}
use Rattle.cilk_types.proofs.KeptStatementForms.{block_sound, if_sound, loop_sound, statement_sound}
use Rattle.cilk_types.proofs.KeptSimple.{added_sound, assigned_sound, initial_sound, returned_sound, spawn_sound, tested_sound}
use Rattle.cilk_types.proofs.KeptCounts.{outlines_many, part_outlines_many}
use Rattle.cilk_types.proofs.KeptPlaces.{each_kept, expression_kept, left_kept}

module _ (functions : List Function) (slots : ℕ) (named : List ℕ) (result : Kind) (name : List ℕ) where
  mutual
    pub statement_kept : (s : TStmt) (scopes : Scopes) (frame : Frame) (next : ℕ) (inside : Bool) → Holds functions named frame scopes →
        length frame + length (framed s scopes) ≤ slots → Stands functions next (outlines name s scopes frame next) →
        faults_in result s scopes inside ≡ [] → Within (named_in s scopes) named → statement_sound functions slots (statement s scopes frame next) ≡ true
    statement_kept Empty scopes frame next inside holds room stands h w = refl
    statement_kept (Block' n body) scopes frame next inside holds room stands h w =
        block_sound functions slots (statements body (opened scopes) frame next)
        (all_kept body (opened scopes) frame next inside (holds_opened functions named frame scopes holds) room stands h w)
    statement_kept (Local at kind variable value) scopes frame next inside holds room stands h w =
        initial_sound functions slots named (names_in scopes) frame (agrees_names functions named frame scopes holds) (sees_names functions named frame scopes holds)
        (omega arith) kind (length frame) value (lt-ltb (length frame) slots (omega arith))
        (no_right (broken_if (is_twice variable scopes.around) fault.Twice at) (initial_faults (names_in scopes) kind value) h) w
    statement_kept (Eval e) scopes frame next inside holds room stands h w =
        and_from _ _ (expression_kept functions slots named e scopes frame holds (omega arith) h w) refl
    statement_kept (Assign at left value) scopes frame next inside holds room stands h w =
        let names = names_in scopes in
        let agrees = agrees_names functions named frame scopes holds in
        let sees = sees_names functions named frame scopes holds in
        let parts = three_unbroken (side_faults scopes left) (target_faults names left value) (value_faults names (kind_of names left) value) h in
        assigned_sound functions slots named names frame agrees sees (omega arith) (kind_of names left) (side names frame left) value
        (left_kept functions slots named left scopes frame holds (omega arith) parts.first (within_left (named_by names left) (named_by_value names value) named w))
        parts.third (within_right (named_by names left) (named_by_value names value) named w)
    statement_kept (AddTo at left value) scopes frame next inside holds room stands h w =
        let names = names_in scopes in
        let parts = three_unbroken (side_faults scopes left) (faults_of names value) (added_misfit (kind_of names left) (judged names value)) h in
        added_sound functions slots at (side names frame left) (expression names frame value)
        (left_kept functions slots named left scopes frame holds (omega arith) parts.first (within_left (named_by names left) (named_by names value) named w))
        (expression_kept functions slots named value scopes frame holds (omega arith) parts.second (within_right (named_by names left) (named_by names value) named w))
    statement_kept (Up left) scopes frame next inside holds room stands h w =
        added_sound functions slots (begins_at left) (side (names_in scopes) frame left) (Word (pos 1))
        (left_kept functions slots named left scopes frame holds (omega arith) (no_left (side_faults scopes left) (misfit is_value (judged (names_in scopes) left)) h) w) refl
    statement_kept (Down left) scopes frame next inside holds room stands h w =
        added_sound functions slots (begins_at left) (side (names_in scopes) frame left) (Word (negsuc 0))
        (left_kept functions slots named left scopes frame holds (omega arith) (no_left (side_faults scopes left) (misfit is_value (judged (names_in scopes) left)) h) w) refl
    statement_kept (Spawn spawn) scopes frame next inside holds room stands h w =
        spawn_sound functions slots named (names_in scopes) frame (agrees_names functions named frame scopes holds) (sees_names functions named frame scopes holds)
        (omega arith) None spawn refl h w
    statement_kept (If test yes_ no_) scopes frame next inside holds room stands h w =
        let names = names_in scopes in
        let first = framed yes_ scopes in
        let behind = after yes_ scopes in
        let parts = three_unbroken (part_faults names is_value test) (faults_in result yes_ scopes inside) (faults_in_part result no_ behind inside) h in
        let within = three_within (named_by names test) (named_in yes_ scopes) (named_in_part no_ behind) named w in
        let longer = length-append frame first in
        let split = length-append first (framed_part no_ behind) in
        let bodies = outlines name yes_ scopes frame next in
        let others = outlines_part name no_ behind (frame ++ first) (next + bodies_of yes_) in
        if_sound functions slots (expression names frame test) (statement yes_ scopes frame next) (statement_part no_ behind (frame ++ first) (next + bodies_of yes_))
        (expression_kept functions slots named test scopes frame holds (omega arith) (no_left (faults_of names test) (misfit is_value (judged names test)) parts.first) within.first)
        (statement_kept yes_ scopes frame next inside holds (omega arith) (stands_left functions next bodies others stands) parts.second within.second)
        (part_kept no_ behind (frame ++ first) (next + bodies_of yes_) inside (holds_after functions named frame yes_ scopes holds) (omega arith)
        (stands_right functions next (bodies_of yes_) bodies others (outlines_many name yes_ scopes frame next) stands) parts.third within.third)
    statement_kept (While test body) scopes frame next inside holds room stands h w =
        let names = names_in scopes in
        let tests = part_faults names is_value test in
        loop_sound functions slots (expression names frame test) Nothing (statement body scopes frame next)
        (expression_kept functions slots named test scopes frame holds (omega arith)
        (no_left (faults_of names test) (misfit is_value (judged names test)) (no_left tests (faults_in result body scopes true) h))
        (within_left (named_by names test) (named_in body scopes) named w))
        refl
        (statement_kept body scopes frame next true holds room stands (no_right tests (faults_in result body scopes true) h)
        (within_right (named_by names test) (named_in body scopes) named w))
    statement_kept (For init test step body) scopes frame next inside holds room stands h w =
        let begun = after_part init (opened scopes) in
        let stepped = after_part step begun in
        let firsts = framed_part init (opened scopes) in
        let steps = framed_part step begun in
        let begun_frame = frame ++ firsts in
        let stepped_frame = begun_frame ++ steps in
        let begun_next = next + bodies_of_part init in
        let stepped_next = begun_next + bodies_of_part step in
        let first_bodies = outlines_part name init (opened scopes) frame next in
        let step_bodies = outlines_part name step begun begun_frame begun_next in
        let last_bodies = outlines name body stepped stepped_frame stepped_next in
        let parts =
        four_unbroken (faults_in_part result init (opened scopes) inside) (test_faults (names_in begun) test) (faults_in_part result step begun inside)
        (faults_in result body stepped true) h in
        let heads = named_in_part init (opened scopes) ++ named_by_option (names_in begun) test ++ named_in_part step begun in
        let within =
        three_within (named_in_part init (opened scopes)) (named_by_option (names_in begun) test) (named_in_part step begun) named
        (within_left heads (named_in body stepped) named w) in
        let length_1 = length-append frame firsts in
        let length_2 = length-append begun_frame steps in
        let length_3 = length-append firsts steps in
        let length_4 = length-append (firsts ++ steps) (framed body stepped) in
        let length_5 = length-append first_bodies step_bodies in
        let length_6 = part_outlines_many name init (opened scopes) frame next in
        let length_7 = part_outlines_many name step begun begun_frame begun_next in
        let heads_stand = stands_left functions next (first_bodies ++ step_bodies) last_bodies stands in
        let begun_holds = holds_after_part functions named frame init (opened scopes) (holds_opened functions named frame scopes holds) in
        let stepped_holds = holds_after_part functions named begun_frame step begun begun_holds in
        let agrees = agrees_names functions named begun_frame begun begun_holds in
        let sees = sees_names functions named begun_frame begun begun_holds in
        block_sound functions slots _
        (and_from _ _
        (part_kept init (opened scopes) frame next inside (holds_opened functions named frame scopes holds) (omega arith)
        (stands_left functions next first_bodies step_bodies heads_stand) parts.first within.first)
        (and_from _ _
        (loop_sound functions slots (tested (names_in begun) begun_frame test) (statement_part step begun begun_frame begun_next)
        (statement body stepped stepped_frame stepped_next)
        (tested_sound functions slots named (names_in begun) begun_frame agrees sees (omega arith) test parts.second within.second)
        (part_kept step begun begun_frame begun_next inside begun_holds (omega arith)
        (stands_behind functions next begun_next first_bodies step_bodies (omega arith) heads_stand) parts.third within.third)
        (statement_kept body stepped stepped_frame stepped_next true stepped_holds (omega arith)
        (stands_behind functions next stepped_next (first_bodies ++ step_bodies) last_bodies (omega arith) stands) parts.fourth
        (within_right heads (named_in body stepped) named w)))
        refl))
    statement_kept (CilkFor at variable low second high third body) scopes frame next inside holds room stands h w =
        let names = names_in scopes in
        let inner = in_body variable scopes in
        let heads = part_faults names is_word low ++ other_name variable second ++ part_faults names is_word high ++ other_name variable third in
        let parts =
        four_unbroken (part_faults names is_word low) (other_name variable second) (part_faults names is_word high) (other_name variable third)
        (no_left heads (faults_in result body inner false) h) in
        let within = three_within (named_by names low) (named_by names high) (named_in body inner) named w in
        each_kept functions slots named at variable low high body scopes frame next _ holds (omega arith) (stands_first functions next _ _ stands) refl parts.first parts.third
        within.first within.second
    statement_kept (Break at) scopes frame next inside holds room stands h w = refl
    statement_kept (Continue at) scopes frame next inside holds room stands h w = refl
    statement_kept (Return at value) scopes frame next inside holds room stands h w =
        and_from _ _
        (returned_sound functions slots named (names_in scopes) frame (agrees_names functions named frame scopes holds) (sees_names functions named frame scopes holds)
        (omega arith) result at value
        (no_left (return_faults (names_in scopes) result at value) (broken_if (nat_lt 0 scopes.level) fault.Escapes at) h) w)
        refl
    statement_kept Sync scopes frame next inside holds room stands h w = refl

    pub part_kept : (part : Held-TStmt-If-2) (scopes : Scopes) (frame : Frame) (next : ℕ) (inside : Bool) → Holds functions named frame scopes →
        length frame + length (framed_part part scopes) ≤ slots → Stands functions next (outlines_part name part scopes frame next) →
        faults_in_part result part scopes inside ≡ [] → Within (named_in_part part scopes) named →
        statement_sound functions slots (statement_part part scopes frame next) ≡ true
    part_kept None' scopes frame next inside holds room stands h w = refl
    part_kept (Present s) scopes frame next inside holds room stands h w = statement_kept s scopes frame next inside holds room stands h w

    pub all_kept : {n : _} (body : Stmts n) (scopes : Scopes) (frame : Frame) (next : ℕ) (inside : Bool) → Holds functions named frame scopes →
        length frame + length (framed_all body scopes) ≤ slots → Stands functions next (outlines_all name body scopes frame next) →
        faults_in_all result body scopes inside ≡ [] → Within (named_in_all body scopes) named →
        list_all (statement_sound functions slots) (statements body scopes frame next) ≡ true
    all_kept no_stmts scopes frame next inside holds room stands h w = refl
    all_kept (more_stmts s rest) scopes frame next inside holds room stands h w =
        let first = framed s scopes in
        let behind = after s scopes in
        let longer = length-append frame first in
        let split = length-append first (framed_all rest behind) in
        let bodies = outlines name s scopes frame next in
        let others = outlines_all name rest behind (frame ++ first) (next + bodies_of s) in
        and_from _ _
        (statement_kept s scopes frame next inside holds (omega arith) (stands_left functions next bodies others stands)
        (no_left (faults_in result s scopes inside) (faults_in_all result rest behind inside) h) (within_left (named_in s scopes) (named_in_all rest behind) named w))
        (all_kept rest behind (frame ++ first) (next + bodies_of s) inside (holds_after functions named frame s scopes holds) (omega arith)
        (stands_right functions next (bodies_of s) bodies others (outlines_many name s scopes frame next) stands)
        (no_right (faults_in result s scopes inside) (faults_in_all result rest behind inside) h) (within_right (named_in s scopes) (named_in_all rest behind) named w))
