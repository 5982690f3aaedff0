-- How many functions the bodies of `cilk_for` become, and how many slots a frame gets.
use Rattle.std.proofs.Common.{◌≡◌, ◌∙◌, ap, ap₂, ℕ, suc, ◌+◌, ◌≤◌, List, ◌++◌, length, refl, arith, length-append}
use Rattle.cilk_ast.specs.declared.tree.TStmt.{TStmt, Empty, Block', Local, Eval, Assign, AddTo, Up, Down, Spawn, Break, Continue, Return, Sync, Held-TStmt-If-2, None', Row_of-TStmt as Stmts, end_of-TStmt as no_stmts, more_of-TStmt as more_stmts}
use Rattle.cilk_ast.specs.TreeStatement.{If, While, For, CilkFor, Present}
use Rattle.cilk_model.specs.Scopes.{Scopes, opened}
use Rattle.cilk_model.specs.Locals.{in_body, after, after_part, locals_of, locals_of_part, locals_of_all}
use Rattle.cilk_model.specs.Copies.{Frame}
use Rattle.cilk_model.specs.StatementLowering.{framed, framed_part, framed_all, bodies_of, bodies_of_part, bodies_of_all, body_frame, outlines, outlines_part, outlines_all}

length_two : {A : Type 0} (xs ys : List A) (m n : ℕ) → length xs ≡ m → length ys ≡ n → length (xs ++ ys) ≡ m + n
length_two xs ys m n h k = length-append xs ys ∙ ap₂ (λ a b. a + b) h k

module _ (name : List ℕ) where
  mutual
    pub outlines_many : (s : TStmt) (scopes : Scopes) (frame : Frame) (next : ℕ) → length (outlines name s scopes frame next) ≡ bodies_of s
    outlines_many (Block' n body) scopes frame next = all_outlines_many body (opened scopes) frame next
    outlines_many (If test yes_ no_) scopes frame next =
        length_two (outlines name yes_ scopes frame next) (outlines_part name no_ (after yes_ scopes) (frame ++ framed yes_ scopes) (next + bodies_of yes_)) _ _
        (outlines_many yes_ scopes frame next) (part_outlines_many no_ (after yes_ scopes) (frame ++ framed yes_ scopes) (next + bodies_of yes_))
    outlines_many (While test body) scopes frame next = outlines_many body scopes frame next
    outlines_many (For init test step body) scopes frame next =
        let begun = after_part init (opened scopes) in
        let begun_frame = frame ++ framed_part init (opened scopes) in
        let begun_next = next + bodies_of_part init in
        let firsts = outlines_part name init (opened scopes) frame next in
        let steps = outlines_part name step begun begun_frame begun_next in
        length_two (firsts ++ steps) _ _ _
        (length_two firsts steps _ _ (part_outlines_many init (opened scopes) frame next) (part_outlines_many step begun begun_frame begun_next))
        (outlines_many body (after_part step begun) (begun_frame ++ framed_part step begun) (begun_next + bodies_of_part step))
    outlines_many (CilkFor at variable low second high third body) scopes frame next =
        ap (λ n. suc n) (outlines_many body (in_body variable scopes) (body_frame variable body scopes frame) (suc next))
    outlines_many Empty scopes frame next = refl
    outlines_many (Local at kind variable value) scopes frame next = refl
    outlines_many (Eval e) scopes frame next = refl
    outlines_many (Assign at left value) scopes frame next = refl
    outlines_many (AddTo at left value) scopes frame next = refl
    outlines_many (Up left) scopes frame next = refl
    outlines_many (Down left) scopes frame next = refl
    outlines_many (Spawn spawn) scopes frame next = refl
    outlines_many (Break at) scopes frame next = refl
    outlines_many (Continue at) scopes frame next = refl
    outlines_many (Return at value) scopes frame next = refl
    outlines_many Sync scopes frame next = refl

    pub part_outlines_many : (part : Held-TStmt-If-2) (scopes : Scopes) (frame : Frame) (next : ℕ) → length (outlines_part name part scopes frame next) ≡ bodies_of_part part
    part_outlines_many None' scopes frame next = refl
    part_outlines_many (Present s) scopes frame next = outlines_many s scopes frame next

    pub all_outlines_many : {n : _} (body : Stmts n) (scopes : Scopes) (frame : Frame) (next : ℕ) → length (outlines_all name body scopes frame next) ≡ bodies_of_all body
    all_outlines_many no_stmts scopes frame next = refl
    all_outlines_many (more_stmts first rest) scopes frame next =
        length_two (outlines name first scopes frame next) (outlines_all name rest (after first scopes) (frame ++ framed first scopes) (next + bodies_of first)) _ _
        (outlines_many first scopes frame next) (all_outlines_many rest (after first scopes) (frame ++ framed first scopes) (next + bodies_of first))

le_two : {A B : Type 0} (xs xs' : List A) (ys ys' : List B) → length xs ≤ length ys → length xs' ≤ length ys' → length (xs ++ xs') ≤ length (ys ++ ys')
le_two xs xs' ys ys' h k = let e = length-append xs xs' in let e' = length-append ys ys' in omega arith

mutual
  pub framed_few : (s : TStmt) (scopes : Scopes) → length (framed s scopes) ≤ length (locals_of s)
  framed_few (Block' n body) scopes = all_framed_few body (opened scopes)
  framed_few (Local at kind name value) scopes = omega arith
  framed_few (If test yes_ no_) scopes =
      le_two (framed yes_ scopes) (framed_part no_ (after yes_ scopes)) (locals_of yes_) (locals_of_part no_) (framed_few yes_ scopes) (part_framed_few no_ (after yes_ scopes))
  framed_few (While test body) scopes = framed_few body scopes
  framed_few (For init test step body) scopes =
      let begun = after_part init (opened scopes) in
      le_two (framed_part init (opened scopes) ++ framed_part step begun) (framed body (after_part step begun)) (locals_of_part init ++ locals_of_part step) (locals_of body)
      (le_two (framed_part init (opened scopes)) (framed_part step begun) (locals_of_part init) (locals_of_part step)
      (part_framed_few init (opened scopes)) (part_framed_few step begun))
      (framed_few body (after_part step begun))
  framed_few (CilkFor at name low second high third body) scopes = omega arith
  framed_few Empty scopes = omega arith
  framed_few (Eval e) scopes = omega arith
  framed_few (Assign at left value) scopes = omega arith
  framed_few (AddTo at left value) scopes = omega arith
  framed_few (Up left) scopes = omega arith
  framed_few (Down left) scopes = omega arith
  framed_few (Spawn spawn) scopes = omega arith
  framed_few (Break at) scopes = omega arith
  framed_few (Continue at) scopes = omega arith
  framed_few (Return at value) scopes = omega arith
  framed_few Sync scopes = omega arith

  pub part_framed_few : (part : Held-TStmt-If-2) (scopes : Scopes) → length (framed_part part scopes) ≤ length (locals_of_part part)
  part_framed_few None' scopes = omega arith
  part_framed_few (Present s) scopes = framed_few s scopes

  pub all_framed_few : {n : _} (body : Stmts n) (scopes : Scopes) → length (framed_all body scopes) ≤ length (locals_of_all body)
  all_framed_few no_stmts scopes = omega arith
  all_framed_few (more_stmts first rest) scopes =
      le_two (framed first scopes) (framed_all rest (after first scopes)) (locals_of first) (locals_of_all rest) (framed_few first scopes) (all_framed_few rest (after first scopes))
