-- A function in which no rule is broken, and the functions that its bodies of `cilk_for` become, are well formed.
use Rattle.std.proofs.Common.{◌≡◌, ◌∙◌, ap, sym, subst, ℕ, zero, suc, ◌+◌, ◌^◌, ◌≤◌, true, false, List, [], ◌∷◌, ◌++◌, length, refl, arith, le_trans, length-append}
use Rattle.std.specs.List.{list_all}
use Rattle.word_ops.specs.Report.{below}
use Rattle.cilk_ast.specs.declared.kind.Kind.{Kind}
use Rattle.cilk_ast.specs.declared.program.Function.{Function}
use Rattle.cilk_ast.specs.declared.tree.Param.{Param}
use Rattle.cilk_ast.specs.declared.tree.TStmt.{TStmt, Empty, Block', Local, Eval, Assign, AddTo, Up, Down, Spawn, Break, Continue, Return, Sync, Row_of-TStmt as Stmts}
use Rattle.cilk_ast.specs.TreeStatement.{If, While, For, CilkFor}
use Rattle.cilk_ast.specs.Kept.{keeps_function}
use Rattle.cilk_ast.specs.declared.program.Stmt as code
use Rattle.cilk_model.specs.Scopes.{Names, Scopes, declared}
use Rattle.cilk_model.specs.Locals.{locals_of, locals_of_all, after_params}
use Rattle.cilk_model.specs.StatementBreaks.{faults_in, faults_in_all, faults_in_body}
use Rattle.cilk_model.specs.Copies.{Frame, named_in, named_in_all}
use Rattle.cilk_model.specs.StatementLowering.{framed, framed_all, bodies_of, function_of, statement, statements, outlines, outlines_all}
use Rattle.cilk_model.specs.Breaks.{at_head}
use Rattle.cilk_model.specs.Lowering.{Lowered, body_outlines, lowered}
use Rattle.cilk_types.proofs.KeptNumbers.{in_first, in_right, is_in, within_all}
use Rattle.cilk_types.proofs.KeptStands.{Stands}
use Rattle.cilk_types.proofs.KeptKnown.{Files, Holds, all_known, known_longer}
use Rattle.cilk_types.proofs.KeptScopes.{declared_known}
use Rattle.cilk_types.proofs.KeptStatementForms.{block_breaks, block_sound}
use Rattle.cilk_types.proofs.KeptBreaks.{all_breaks_stand, breaks_stand}
use Rattle.cilk_types.proofs.KeptCounts.{all_framed_few, all_outlines_many, framed_few, outlines_many}
use Rattle.cilk_types.proofs.KeptStatements.{all_kept, statement_kept}
use Rattle.cilk_types.proofs.KeptBodies.{all_outlines_kept, function_keeps, outlines_kept}

-- ---- parameters

pub below_many : (n : ℕ) → length (below n) ≡ n
below_many zero = refl
below_many (suc n) = let e = length-append (below n) (n ∷ []) in let h = below_many n in omega arith

params_known : (named : List ℕ) (params : List Param) (k : ℕ) (scopes : Scopes) → scopes.count ≡ k → all_known named (below k) scopes.around ≡ true →
    all_known named (below (k + length params)) (after_params params scopes).around ≡ true
params_known named [] k scopes e m = let same : k + 0 ≡ k = omega arith in ap (λ n. all_known named (below n) scopes.around) same ∙ m
params_known named (p ∷ params) k scopes e m =
    let same : k + suc (length params) ≡ suc k + length params = omega arith in
    let now = declared p.name p.kind scopes in
    ap (λ n. all_known named (below n) (after_params params now).around) same
    ∙ params_known named params (suc k) now (ap (λ n. suc n) e)
    (declared_known named (below k) (below (suc k)) p.name p.kind scopes
    (ap (λ n. is_in n (below (suc k))) e ∙ in_right k (below k) (k ∷ []) (in_first k []))
    (known_longer named (below k) (k ∷ []) scopes.around m))

params_file : (params : List Param) (scopes : Scopes) → (after_params params scopes).file ≡ scopes.file
params_file [] scopes = refl
params_file (p ∷ params) scopes = params_file params (declared p.name p.kind scopes)

-- what is known at the beginning of a function's body
holds_in_function : (functions : List Function) (file : Names) (files : Files functions file) (named : List ℕ) (params : List Param) →
    Holds functions named (below (length params)) (after_params params (at_head file))
holds_in_function functions file files named params = record {
  files = subst (Files functions) (sym (params_file params (at_head file))) files;
  known =
      let same : length params ≡ 0 + length params = omega arith in
      ap (λ n. all_known named (below n) (after_params params (at_head file)).around) same ∙ params_known named params 0 (at_head file) refl refl;
}

-- ---- functions

-- the function and its bodies of `cilk_for` are well formed
pub record ItemKept (functions : List Function) (item : Lowered) : Type 0 where
  pub function : keeps_function functions item.function ≡ true
  pub bodies : list_all (keeps_function functions) item.bodies ≡ true

module _ (functions : List Function) (file : Names) (files : Files functions file) (result : Kind) (name : List ℕ) (params : List Param) (few : length params ≤ 8)
    (next : ℕ) where
  -- where the body is one statement, and where it is a block
  statement_item : (s : TStmt) → length (locals_of s) ≤ 250 → faults_in result s (after_params params (at_head file)) false ≡ [] →
      Stands functions next (outlines name s (after_params params (at_head file)) (below (length params)) next) →
      (keeps_function functions
      (function_of name (length params) (length (below (length params) ++ framed s (after_params params (at_head file))))
      (statement s (after_params params (at_head file)) (below (length params)) next)) ≡ true)
      × (list_all (keeps_function functions) (outlines name s (after_params params (at_head file)) (below (length params)) next) ≡ true)
  statement_item s locals h stands =
      let scopes = after_params params (at_head file) in
      let frame = below (length params) in
      let named = named_in s scopes in
      let total = length (frame ++ framed s scopes) in
      let holds = holds_in_function functions file files named params in
      let many = below_many (length params) in
      let split = length-append frame (framed s scopes) in
      let fewer = framed_few s scopes in
      let small : total ≤ 258 = omega arith in
      let small_limit : 258 ≤ 2 ^ 28 = omega arith in (
        function_keeps functions name (length params) total (statement s scopes frame next) (omega arith) (le_trans small small_limit)
            (statement_kept functions total named result name s scopes frame next false holds (omega arith) stands h (within_all named))
            (breaks_stand result s scopes frame next false h),
        outlines_kept functions result name 258 small_limit s named scopes frame next false holds (omega arith) stands h (within_all named),
      )

  block_item : {n : _} (body : Stmts n) → length (locals_of_all body) ≤ 250 → faults_in_all result body (after_params params (at_head file)) false ≡ [] →
      Stands functions next (outlines_all name body (after_params params (at_head file)) (below (length params)) next) →
      (keeps_function functions
      (function_of name (length params) (length (below (length params) ++ framed_all body (after_params params (at_head file))))
      (code.Block (statements body (after_params params (at_head file)) (below (length params)) next))) ≡ true)
      × (list_all (keeps_function functions) (outlines_all name body (after_params params (at_head file)) (below (length params)) next) ≡ true)
  block_item body locals h stands =
      let scopes = after_params params (at_head file) in
      let frame = below (length params) in
      let named = named_in_all body scopes in
      let total = length (frame ++ framed_all body scopes) in
      let holds = holds_in_function functions file files named params in
      let many = below_many (length params) in
      let split = length-append frame (framed_all body scopes) in
      let fewer = all_framed_few body scopes in
      let small : total ≤ 258 = omega arith in
      let small_limit : 258 ≤ 2 ^ 28 = omega arith in (
        function_keeps functions name (length params) total (code.Block (statements body scopes frame next)) (omega arith) (le_trans small small_limit)
            (block_sound functions total (statements body scopes frame next)
            (all_kept functions total named result name body scopes frame next false holds (omega arith) stands h (within_all named)))
            (block_breaks (statements body scopes frame next) false (all_breaks_stand result body scopes frame next false h)),
        all_outlines_kept functions result name 258 small_limit body named scopes frame next false holds (omega arith) stands h (within_all named),
      )

  pub item_kept : (body : TStmt) → length (locals_of body) ≤ 250 → faults_in_body result body (after_params params (at_head file)) ≡ [] →
      Stands functions next (body_outlines name body (after_params params (at_head file)) (below (length params)) next) →
      ItemKept functions (lowered file name params body next)
  item_kept (Block' n body) locals h stands = let kept = block_item body locals h stands in record { function = kept.0; bodies = kept.1 }
  item_kept Empty locals h stands = let kept = statement_item Empty locals h stands in record { function = kept.0; bodies = kept.1 }
  item_kept (Local at kind variable value) locals h stands = let kept = statement_item (Local at kind variable value) locals h stands in record { function = kept.0; bodies = kept.1 }
  item_kept (Eval e) locals h stands = let kept = statement_item (Eval e) locals h stands in record { function = kept.0; bodies = kept.1 }
  item_kept (Assign at left value) locals h stands = let kept = statement_item (Assign at left value) locals h stands in record { function = kept.0; bodies = kept.1 }
  item_kept (AddTo at left value) locals h stands = let kept = statement_item (AddTo at left value) locals h stands in record { function = kept.0; bodies = kept.1 }
  item_kept (Up left) locals h stands = let kept = statement_item (Up left) locals h stands in record { function = kept.0; bodies = kept.1 }
  item_kept (Down left) locals h stands = let kept = statement_item (Down left) locals h stands in record { function = kept.0; bodies = kept.1 }
  item_kept (Spawn spawn) locals h stands = let kept = statement_item (Spawn spawn) locals h stands in record { function = kept.0; bodies = kept.1 }
  item_kept (If test yes_ no_) locals h stands = let kept = statement_item (If test yes_ no_) locals h stands in record { function = kept.0; bodies = kept.1 }
  item_kept (While test body) locals h stands = let kept = statement_item (While test body) locals h stands in record { function = kept.0; bodies = kept.1 }
  item_kept (For init test step body) locals h stands = let kept = statement_item (For init test step body) locals h stands in record { function = kept.0; bodies = kept.1 }
  item_kept (CilkFor at variable low second high third body) locals h stands =
      let kept = statement_item (CilkFor at variable low second high third body) locals h stands in record { function = kept.0; bodies = kept.1 }
  item_kept (Break at) locals h stands = let kept = statement_item (Break at) locals h stands in record { function = kept.0; bodies = kept.1 }
  item_kept (Continue at) locals h stands = let kept = statement_item (Continue at) locals h stands in record { function = kept.0; bodies = kept.1 }
  item_kept (Return at value) locals h stands = let kept = statement_item (Return at value) locals h stands in record { function = kept.0; bodies = kept.1 }
  item_kept Sync locals h stands = let kept = statement_item Sync locals h stands in record { function = kept.0; bodies = kept.1 }

-- a function has as many bodies of `cilk_for` as its body
pub item_many : (name : List ℕ) (body : TStmt) (scopes : Scopes) (frame : Frame) (next : ℕ) → length (body_outlines name body scopes frame next) ≡ bodies_of body
item_many name (Block' n body) scopes frame next = all_outlines_many name body scopes frame next
item_many name Empty scopes frame next = outlines_many name Empty scopes frame next
item_many name (Local at kind variable value) scopes frame next = outlines_many name (Local at kind variable value) scopes frame next
item_many name (Eval e) scopes frame next = outlines_many name (Eval e) scopes frame next
item_many name (Assign at left value) scopes frame next = outlines_many name (Assign at left value) scopes frame next
item_many name (AddTo at left value) scopes frame next = outlines_many name (AddTo at left value) scopes frame next
item_many name (Up left) scopes frame next = outlines_many name (Up left) scopes frame next
item_many name (Down left) scopes frame next = outlines_many name (Down left) scopes frame next
item_many name (Spawn spawn) scopes frame next = outlines_many name (Spawn spawn) scopes frame next
item_many name (If test yes_ no_) scopes frame next = outlines_many name (If test yes_ no_) scopes frame next
item_many name (While test body) scopes frame next = outlines_many name (While test body) scopes frame next
item_many name (For init test step body) scopes frame next = outlines_many name (For init test step body) scopes frame next
item_many name (CilkFor at variable low second high third body) scopes frame next = outlines_many name (CilkFor at variable low second high third body) scopes frame next
item_many name (Break at) scopes frame next = outlines_many name (Break at) scopes frame next
item_many name (Continue at) scopes frame next = outlines_many name (Continue at) scopes frame next
item_many name (Return at value) scopes frame next = outlines_many name (Return at value) scopes frame next
item_many name Sync scopes frame next = outlines_many name Sync scopes frame next
