-- How many nodes a statement has, and the functions that its bodies of `cilk_for` become, by the marks and words of
-- its text.
use Rattle.std.proofs.Common.{◌≡◌, ◌∙◌, ap, sym, ℕ, suc, ◌+◌, ◌*◌, ◌≤◌, List, [], ◌∷◌, ◌++◌, length, None, refl, arith, length-append}
use Rattle.std.specs.Prelude.{pos, negsuc}
use Rattle.std.proofs.lemmas.List.Sums.{sum-map, sum_by-cons}
use Rattle.std.proofs.lemmas.List.{length-map}
use Rattle.cilk_ast.specs.declared.program.Expr.{Word}
use Rattle.cilk_ast.specs.declared.program.Function.{Function}
use Rattle.cilk_ast.specs.declared.program.Stmt.{Stmt, Nothing}
use Rattle.cilk_ast.specs.declared.program.Stmt as code
use Rattle.cilk_ast.specs.declared.tree.TStmt.{TStmt, Empty, Block', Local, Eval, Assign, AddTo, Up, Down, Spawn, Break, Continue, Return, Sync, Held-TStmt-If-2, None', Row_of-TStmt as Stmts, end_of-TStmt as no_stmts, more_of-TStmt as more_stmts}
use Rattle.cilk_ast.specs.TreeStatement.{If, While, For, CilkFor, Present}
use Rattle.cilk_ast.specs.Nodes.{statement_nodes, node_count}
use Rattle.cilk_model.specs.Scopes.{Scopes, names_in, opened}
use Rattle.cilk_model.specs.Sorts.{begins_at}
use Rattle.cilk_model.specs.Locals.{in_body, after, after_part, locals_of, locals_of_part, locals_of_all}
use Rattle.cilk_model.specs.Copies.{Frame, copies_of, named_in}
use Rattle.cilk_model.specs.ExpressionLowering.{slot_in, expression}
use Rattle.cilk_model.specs.StatementLowering.{side, tested, framed, framed_part, bodies_of, bodies_of_part, body_frame, statement, statement_part, statements, outlines, outlines_part, outlines_all}
use Rattle.cilk_types.specs.Marks.{marks_in, marks_in_part, marks_in_all}
use Rattle.cilk_types.proofs.KeptNumbers.{is_in, filter_shorter}
use Rattle.cilk_types.proofs.KeptCounts.{framed_few, part_framed_few}
use Rattle.cilk_types.proofs.KeptNodes.{nodes_few}
use Rattle.cilk_types.proofs.KeptSimpleNodes.{body_nodes, block_nodes, if_nodes, loop_nodes, added_nodes, side_few, spawn_few, assigned_few, initial_few, returned_few, tested_few}

-- the nodes of functions in a list
abbrev pub function_nodes : List Function → ℕ
function_nodes [] = 0
function_nodes (f ∷ functions) = statement_nodes f.body + function_nodes functions

pub function_sum : (functions : List Function) → node_count functions ≡ function_nodes functions
function_sum [] = refl
function_sum (f ∷ functions) =
    sum-map (λ f. statement_nodes f.body) (f ∷ functions) ∙ sum_by-cons (λ f. statement_nodes f.body) f functions
    ∙ ap (λ n. statement_nodes f.body + n) (sym (sum-map (λ f. statement_nodes f.body) functions) ∙ function_sum functions)

pub joined_nodes : (fs gs : List Function) → function_nodes (fs ++ gs) ≡ function_nodes fs + function_nodes gs
joined_nodes [] gs = omega arith
joined_nodes (f ∷ fs) gs = let h = joined_nodes fs gs in omega arith

module _ (name : List ℕ) where
  mutual
    pub statement_few : (s : TStmt) (scopes : Scopes) (frame : Frame) (next : ℕ) → length frame + length (locals_of s) ≤ 258 →
        statement_nodes (statement s scopes frame next) + function_nodes (outlines name s scopes frame next) ≤ 64 * marks_in s
    statement_few Empty scopes frame next room = omega arith
    statement_few (Block' n body) scopes frame next room =
        let h = all_few body (opened scopes) frame next room in let e = block_nodes (statements body (opened scopes) frame next) in omega arith
    statement_few (Local at kind variable value) scopes frame next room = let h = initial_few (names_in scopes) frame (length frame) value in omega arith
    statement_few (Eval e) scopes frame next room = let h = nodes_few (names_in scopes) frame e in omega arith
    statement_few (Assign at left value) scopes frame next room =
        let h = assigned_few (names_in scopes) frame (side (names_in scopes) frame left) value in let k = side_few (names_in scopes) frame left in omega arith
    statement_few (AddTo at left value) scopes frame next room =
        let h = added_nodes at (side (names_in scopes) frame left) (expression (names_in scopes) frame value) in
        let k = side_few (names_in scopes) frame left in
        let l = nodes_few (names_in scopes) frame value in
        omega arith
    statement_few (Up left) scopes frame next room =
        let h = added_nodes (begins_at left) (side (names_in scopes) frame left) (Word (pos 1)) in let k = side_few (names_in scopes) frame left in omega arith
    statement_few (Down left) scopes frame next room =
        let h = added_nodes (begins_at left) (side (names_in scopes) frame left) (Word (negsuc 0)) in let k = side_few (names_in scopes) frame left in omega arith
    statement_few (Spawn spawn) scopes frame next room = let h = spawn_few (names_in scopes) frame None spawn in omega arith
    statement_few (If test yes_ no_) scopes frame next room =
        let names = names_in scopes in
        let first = framed yes_ scopes in
        let behind = after yes_ scopes in
        let longer = length-append frame first in
        let few = framed_few yes_ scopes in
        let split = length-append (locals_of yes_) (locals_of_part no_) in
        let bodies = outlines name yes_ scopes frame next in
        let others = outlines_part name no_ behind (frame ++ first) (next + bodies_of yes_) in
        let sum = joined_nodes bodies others in
        let h = nodes_few names frame test in
        let k = statement_few yes_ scopes frame next (omega arith) in
        let l = part_few no_ behind (frame ++ first) (next + bodies_of yes_) (omega arith) in
        let e = if_nodes (expression names frame test) (statement yes_ scopes frame next) (statement_part no_ behind (frame ++ first) (next + bodies_of yes_)) in
        omega arith
    statement_few (While test body) scopes frame next room =
        let h = nodes_few (names_in scopes) frame test in
        let k = statement_few body scopes frame next room in
        let e = loop_nodes (expression (names_in scopes) frame test) Nothing (statement body scopes frame next) in
        omega arith
    statement_few (For init test step body) scopes frame next room =
        let begun = after_part init (opened scopes) in
        let stepped = after_part step begun in
        let firsts = framed_part init (opened scopes) in
        let steps = framed_part step begun in
        let begun_frame = frame ++ firsts in
        let stepped_frame = begun_frame ++ steps in
        let begun_next = next + bodies_of_part init in
        let stepped_next = begun_next + bodies_of_part step in
        let first_bodies = outlines_part name init (opened scopes) frame next in
        let step_bodies = outlines_part name step begun begun_frame begun_next in
        let last_bodies = outlines name body stepped stepped_frame stepped_next in
        let length_1 = length-append frame firsts in
        let length_2 = length-append begun_frame steps in
        let length_3 = length-append (locals_of_part init) (locals_of_part step) in
        let length_4 = length-append (locals_of_part init ++ locals_of_part step) (locals_of body) in
        let few_1 = part_framed_few init (opened scopes) in
        let few_2 = part_framed_few step begun in
        let sum_1 = joined_nodes (first_bodies ++ step_bodies) last_bodies in
        let sum_2 = joined_nodes first_bodies step_bodies in
        let h = part_few init (opened scopes) frame next (omega arith) in
        let k = part_few step begun begun_frame begun_next (omega arith) in
        let l = statement_few body stepped stepped_frame stepped_next (omega arith) in
        let t = tested_few (names_in begun) begun_frame test in
        let begin = statement_part init (opened scopes) frame next in
        let again = statement_part step begun begun_frame begun_next in
        let inner = statement body stepped stepped_frame stepped_next in
        let e = loop_nodes (tested (names_in begun) begun_frame test) again inner in
        let f = block_nodes (begin ∷ code.Loop (tested (names_in begun) begun_frame test) again inner ∷ []) in
        omega arith
    statement_few (CilkFor at variable low second high third body) scopes frame next room =
        let inner_scopes = in_body variable scopes in
        let inner_named = named_in body inner_scopes in
        let inner = body_frame variable body scopes frame in
        let fewer = filter_shorter (λ number. is_in number inner_named) frame in
        let as_many = length-map (copies_of frame inner_named) (slot_in frame) in
        let h = nodes_few (names_in scopes) frame low in
        let k = nodes_few (names_in scopes) frame high in
        let l = statement_few body inner_scopes inner (suc next) (omega arith) in
        omega arith
    statement_few (Break at) scopes frame next room = omega arith
    statement_few (Continue at) scopes frame next room = omega arith
    statement_few (Return at value) scopes frame next room = let h = returned_few (names_in scopes) frame value in omega arith
    statement_few Sync scopes frame next room = omega arith

    pub part_few : (part : Held-TStmt-If-2) (scopes : Scopes) (frame : Frame) (next : ℕ) → length frame + length (locals_of_part part) ≤ 258 →
        statement_nodes (statement_part part scopes frame next) + function_nodes (outlines_part name part scopes frame next) ≤ suc (64 * marks_in_part part)
    part_few None' scopes frame next room = omega arith
    part_few (Present s) scopes frame next room = let h = statement_few s scopes frame next room in omega arith

    pub all_few : {n : _} (body : Stmts n) (scopes : Scopes) (frame : Frame) (next : ℕ) → length frame + length (locals_of_all body) ≤ 258 →
        body_nodes (statements body scopes frame next) + function_nodes (outlines_all name body scopes frame next) ≤ 64 * marks_in_all body
    all_few no_stmts scopes frame next room = omega arith
    all_few (more_stmts s rest) scopes frame next room =
        let first = framed s scopes in
        let behind = after s scopes in
        let longer = length-append frame first in
        let few = framed_few s scopes in
        let split = length-append (locals_of s) (locals_of_all rest) in
        let sum = joined_nodes (outlines name s scopes frame next) (outlines_all name rest behind (frame ++ first) (next + bodies_of s)) in
        let h = statement_few s scopes frame next (omega arith) in
        let k = all_few rest behind (frame ++ first) (next + bodies_of s) (omega arith) in
        omega arith
