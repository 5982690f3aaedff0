-- The functions that the bodies of `cilk_for` in an unbroken statement become are well formed.
use Rattle.std.proofs.Common.{◌≡◌, ◌∙◌, ℕ, suc, ◌+◌, ◌^◌, ◌≤◌, Bool, true, false, List, [], ◌++◌, length, refl, arith, le-leb, le_trans, length-append}
use Rattle.std.specs.List.{list_all}
use Rattle.std.proofs.lemmas.Bool.{and_from}
use Rattle.std.proofs.lemmas.List.Folds.{list_all-append}
use Rattle.cilk_ast.specs.declared.kind.Kind.{Kind}
use Rattle.cilk_ast.specs.declared.program.Function.{Function}
use Rattle.cilk_ast.specs.declared.program.Stmt.{Stmt}
use Rattle.cilk_ast.specs.declared.tree.TStmt.{TStmt, Empty, Block', Local, Eval, Assign, AddTo, Up, Down, Spawn, Break, Continue, Return, Sync, Held-TStmt-If-2, None', Row_of-TStmt as Stmts, end_of-TStmt as no_stmts, more_of-TStmt as more_stmts}
use Rattle.cilk_ast.specs.TreeStatement.{If, While, For, CilkFor, Present}
use Rattle.cilk_ast.specs.Kept.{breaks_agree, has_spawn, same_truth, keeps_function}
use Rattle.cilk_model.specs.Scopes.{Scopes, names_in, opened}
use Rattle.cilk_model.specs.Sorts.{is_word, is_value}
use Rattle.cilk_model.specs.ExpressionBreaks.{part_faults}
use Rattle.cilk_model.specs.Locals.{in_body, after, after_part, locals_of, locals_of_part, locals_of_all}
use Rattle.cilk_model.specs.StatementBreaks.{test_faults, other_name, faults_in, faults_in_part, faults_in_all}
use Rattle.cilk_model.specs.Copies.{Frame, named_by, named_by_option, named_in, named_in_part, named_in_all}
use Rattle.cilk_model.specs.StatementLowering.{framed, framed_part, bodies_of, bodies_of_part, body_frame, function_of, statement, outlines, outlines_part, outlines_all}
use Rattle.cilk_types.proofs.KeptLists.{four_unbroken, no_left, no_right, three_unbroken}
use Rattle.cilk_types.proofs.KeptNumbers.{Within, filter_shorter, is_in, three_within, within_all, within_left, within_right}
use Rattle.cilk_types.proofs.KeptStands.{Stands, stands_behind, stands_left, stands_rest, stands_right}
use Rattle.cilk_types.proofs.KeptKnown.{Holds}
use Rattle.cilk_types.proofs.KeptScopes.{holds_after, holds_after_part, holds_in_body, holds_opened}
use Rattle.cilk_types.proofs.KeptStatementForms.{keeps_statement_sound, statement_sound}
use Rattle.cilk_types.proofs.KeptBreaks.{breaks_stand}
use Rattle.cilk_types.proofs.KeptCounts.{framed_few, outlines_many, part_framed_few, part_outlines_many}
use Rattle.cilk_types.proofs.KeptStatements.{statement_kept}

same_self : (b : Bool) → same_truth b b ≡ true
same_self true = refl
same_self false = refl

-- a function with a body that is well formed
pub function_keeps : (functions : List Function) (name : List ℕ) (params slots : ℕ) (body : Stmt) → params ≤ slots → slots ≤ 2 ^ 28 →
    statement_sound functions slots body ≡ true → breaks_agree body false ≡ true → keeps_function functions (function_of name params slots body) ≡ true
function_keeps functions name params slots body few small sound breaks =
    and_from _ _
    (and_from _ _
    (and_from _ _ (and_from _ _ (le-leb params slots few) (le-leb slots (2 ^ 28) small)) (keeps_statement_sound functions slots body sound))
    breaks)
    (same_self (has_spawn body))

both_keep : (functions xs ys : List Function) → list_all (keeps_function functions) xs ≡ true → list_all (keeps_function functions) ys ≡ true →
    list_all (keeps_function functions) (xs ++ ys) ≡ true
both_keep functions xs ys h k = list_all-append (keeps_function functions) xs ys ∙ and_from _ _ h k

module _ (functions : List Function) (result : Kind) (name : List ℕ) (limit : ℕ) (small : limit ≤ 2 ^ 28) where
  mutual
    pub outlines_kept : (s : TStmt) (named : List ℕ) (scopes : Scopes) (frame : Frame) (next : ℕ) (inside : Bool) → Holds functions named frame scopes →
        length frame + length (locals_of s) ≤ limit → Stands functions next (outlines name s scopes frame next) →
        faults_in result s scopes inside ≡ [] → Within (named_in s scopes) named → list_all (keeps_function functions) (outlines name s scopes frame next) ≡ true
    outlines_kept (Block' n body) named scopes frame next inside holds room stands h w =
        all_outlines_kept body named (opened scopes) frame next inside (holds_opened functions named frame scopes holds) room stands h w
    outlines_kept (If test yes_ no_) named scopes frame next inside holds room stands h w =
        let names = names_in scopes in
        let first = framed yes_ scopes in
        let behind = after yes_ scopes in
        let parts = three_unbroken (part_faults names is_value test) (faults_in result yes_ scopes inside) (faults_in_part result no_ behind inside) h in
        let within = three_within (named_by names test) (named_in yes_ scopes) (named_in_part no_ behind) named w in
        let longer = length-append frame first in
        let few = framed_few yes_ scopes in
        let split = length-append (locals_of yes_) (locals_of_part no_) in
        let bodies = outlines name yes_ scopes frame next in
        let others = outlines_part name no_ behind (frame ++ first) (next + bodies_of yes_) in
        both_keep functions bodies others
        (outlines_kept yes_ named scopes frame next inside holds (omega arith) (stands_left functions next bodies others stands) parts.second within.second)
        (part_outlines_kept no_ named behind (frame ++ first) (next + bodies_of yes_) inside (holds_after functions named frame yes_ scopes holds) (omega arith)
        (stands_right functions next (bodies_of yes_) bodies others (outlines_many name yes_ scopes frame next) stands) parts.third within.third)
    outlines_kept (While test body) named scopes frame next inside holds room stands h w =
        outlines_kept body named scopes frame next true holds room stands
        (no_right (part_faults (names_in scopes) is_value test) (faults_in result body scopes true) h)
        (within_right (named_by (names_in scopes) test) (named_in body scopes) named w)
    outlines_kept (For init test step body) named scopes frame next inside holds room stands h w =
        let begun = after_part init (opened scopes) in
        let stepped = after_part step begun in
        let firsts = framed_part init (opened scopes) in
        let steps = framed_part step begun in
        let begun_frame = frame ++ firsts in
        let stepped_frame = begun_frame ++ steps in
        let begun_next = next + bodies_of_part init in
        let stepped_next = begun_next + bodies_of_part step in
        let first_bodies = outlines_part name init (opened scopes) frame next in
        let step_bodies = outlines_part name step begun begun_frame begun_next in
        let last_bodies = outlines name body stepped stepped_frame stepped_next in
        let parts =
        four_unbroken (faults_in_part result init (opened scopes) inside) (test_faults (names_in begun) test) (faults_in_part result step begun inside)
        (faults_in result body stepped true) h in
        let heads = named_in_part init (opened scopes) ++ named_by_option (names_in begun) test ++ named_in_part step begun in
        let within =
        three_within (named_in_part init (opened scopes)) (named_by_option (names_in begun) test) (named_in_part step begun) named
        (within_left heads (named_in body stepped) named w) in
        let length_1 = length-append frame firsts in
        let length_2 = length-append begun_frame steps in
        let length_3 = length-append (locals_of_part init) (locals_of_part step) in
        let length_4 = length-append (locals_of_part init ++ locals_of_part step) (locals_of body) in
        let length_5 = length-append first_bodies step_bodies in
        let length_6 = part_outlines_many name init (opened scopes) frame next in
        let length_7 = part_outlines_many name step begun begun_frame begun_next in
        let few_1 = part_framed_few init (opened scopes) in
        let few_2 = part_framed_few step begun in
        let heads_stand = stands_left functions next (first_bodies ++ step_bodies) last_bodies stands in
        let begun_holds = holds_after_part functions named frame init (opened scopes) (holds_opened functions named frame scopes holds) in
        let stepped_holds = holds_after_part functions named begun_frame step begun begun_holds in
        both_keep functions (first_bodies ++ step_bodies) last_bodies
        (both_keep functions first_bodies step_bodies
        (part_outlines_kept init named (opened scopes) frame next inside (holds_opened functions named frame scopes holds) (omega arith)
        (stands_left functions next first_bodies step_bodies heads_stand) parts.first within.first)
        (part_outlines_kept step named begun begun_frame begun_next inside begun_holds (omega arith)
        (stands_behind functions next begun_next first_bodies step_bodies (omega arith) heads_stand) parts.third within.third))
        (outlines_kept body named stepped stepped_frame stepped_next true stepped_holds (omega arith)
        (stands_behind functions next stepped_next (first_bodies ++ step_bodies) last_bodies (omega arith) stands) parts.fourth
        (within_right heads (named_in body stepped) named w))
    outlines_kept (CilkFor at variable low second high third body) named scopes frame next inside holds room stands h w =
        let names = names_in scopes in
        let inner_scopes = in_body variable scopes in
        let inner_named = named_in body inner_scopes in
        let inner = body_frame variable body scopes frame in
        let total = length (inner ++ framed body inner_scopes) in
        let heads = part_faults names is_word low ++ other_name variable second ++ part_faults names is_word high ++ other_name variable third in
        let unbroken = no_right heads (faults_in result body inner_scopes false) h in
        let within = three_within (named_by names low) (named_by names high) inner_named named w in
        let inner_holds = holds_in_body functions named frame variable body scopes within.third holds in
        let split = length-append inner (framed body inner_scopes) in
        let few = framed_few body inner_scopes in
        let fewer = filter_shorter (λ number. is_in number inner_named) frame in
        let rest = stands_rest functions next _ (outlines name body inner_scopes inner (suc next)) stands in
        let sound =
        statement_kept functions total inner_named result name body inner_scopes inner (suc next) false inner_holds (omega arith) rest unbroken (within_all inner_named) in
        let small_total : total ≤ limit = omega arith in
        and_from _ _
        (function_keeps functions name (length inner) total (statement body inner_scopes inner (suc next)) (omega arith) (le_trans small_total small) sound
        (breaks_stand result body inner_scopes inner (suc next) false unbroken))
        (outlines_kept body inner_named inner_scopes inner (suc next) false inner_holds (omega arith) rest unbroken (within_all inner_named))
    outlines_kept Empty named scopes frame next inside holds room stands h w = refl
    outlines_kept (Local at kind variable value) named scopes frame next inside holds room stands h w = refl
    outlines_kept (Eval e) named scopes frame next inside holds room stands h w = refl
    outlines_kept (Assign at left value) named scopes frame next inside holds room stands h w = refl
    outlines_kept (AddTo at left value) named scopes frame next inside holds room stands h w = refl
    outlines_kept (Up left) named scopes frame next inside holds room stands h w = refl
    outlines_kept (Down left) named scopes frame next inside holds room stands h w = refl
    outlines_kept (Spawn spawn) named scopes frame next inside holds room stands h w = refl
    outlines_kept (Break at) named scopes frame next inside holds room stands h w = refl
    outlines_kept (Continue at) named scopes frame next inside holds room stands h w = refl
    outlines_kept (Return at value) named scopes frame next inside holds room stands h w = refl
    outlines_kept Sync named scopes frame next inside holds room stands h w = refl

    pub part_outlines_kept : (part : Held-TStmt-If-2) (named : List ℕ) (scopes : Scopes) (frame : Frame) (next : ℕ) (inside : Bool) →
        Holds functions named frame scopes → length frame + length (locals_of_part part) ≤ limit → Stands functions next (outlines_part name part scopes frame next) →
        faults_in_part result part scopes inside ≡ [] → Within (named_in_part part scopes) named →
        list_all (keeps_function functions) (outlines_part name part scopes frame next) ≡ true
    part_outlines_kept None' named scopes frame next inside holds room stands h w = refl
    part_outlines_kept (Present s) named scopes frame next inside holds room stands h w = outlines_kept s named scopes frame next inside holds room stands h w

    pub all_outlines_kept : {n : _} (body : Stmts n) (named : List ℕ) (scopes : Scopes) (frame : Frame) (next : ℕ) (inside : Bool) →
        Holds functions named frame scopes → length frame + length (locals_of_all body) ≤ limit → Stands functions next (outlines_all name body scopes frame next) →
        faults_in_all result body scopes inside ≡ [] → Within (named_in_all body scopes) named →
        list_all (keeps_function functions) (outlines_all name body scopes frame next) ≡ true
    all_outlines_kept no_stmts named scopes frame next inside holds room stands h w = refl
    all_outlines_kept (more_stmts s rest) named scopes frame next inside holds room stands h w =
        let first = framed s scopes in
        let behind = after s scopes in
        let longer = length-append frame first in
        let few = framed_few s scopes in
        let split = length-append (locals_of s) (locals_of_all rest) in
        let bodies = outlines name s scopes frame next in
        let others = outlines_all name rest behind (frame ++ first) (next + bodies_of s) in
        both_keep functions bodies others
        (outlines_kept s named scopes frame next inside holds (omega arith) (stands_left functions next bodies others stands)
        (no_left (faults_in result s scopes inside) (faults_in_all result rest behind inside) h) (within_left (named_in s scopes) (named_in_all rest behind) named w))
        (all_outlines_kept rest named behind (frame ++ first) (next + bodies_of s) inside (holds_after functions named frame s scopes holds) (omega arith)
        (stands_right functions next (bodies_of s) bodies others (outlines_many name s scopes frame next) stands)
        (no_right (faults_in result s scopes inside) (faults_in_all result rest behind inside) h) (within_right (named_in s scopes) (named_in_all rest behind) named w))
