-- What a `for` and a `cilk_for` are in a program, and how far code has come behind them.
use Rattle.std.proofs.Common.{◌≡◌, ◌∙◌, ap, sym, ℕ, suc, ◌+◌, List, [], ◌∷◌, ◌++◌, length, append_assoc, append-nil, Option, refl, arith}
use Rattle.std.specs.Prelude.{slice_set}
use Rattle.std.proofs.Math.Seq.{set-append_seam}
use Rattle.word_ops.specs.declared.place.Pos.{Pos}
use Rattle.cilk_ast.specs.declared.program.Function.{Function}
use Rattle.cilk_ast.specs.declared.program.Stmt as program
use Rattle.cilk_ast.specs.declared.program.Stmt.{Stmt}
use Rattle.cilk_ast.specs.declared.tree.TExpr.{TExpr}
use Rattle.cilk_ast.specs.declared.tree.TStmt as code
use Rattle.cilk_ast.specs.declared.tree.TStmt.{TStmt, Held-TStmt-If-2}
use Rattle.cilk_ast.specs.TreeStatement.{For, part_of}
use Rattle.cilk_ast.proofs.TreeStatementForms.{for_form, cilk_for_form}
use Rattle.cilk_model.specs.Scopes.{closed}
use Rattle.cilk_model.specs.Locals.{after}
use Rattle.cilk_model.specs.StatementLowering.{framed, framed_part, bodies_of, bodies_of_part, statement_part, statement, function_of, outlines, outlines_part}
use Rattle.cilk_types.specs.Making.{Walked, made, past, made_part, past_part, within, without, tested_at, word_at, copies_at, each_at, spare, entered, kept_of, function_at, back, leaving, past_body}
use Rattle.cilk_types.specs.declared.lower_statements.Tested.{Tested}
use Rattle.cilk_types.proofs.MakingForms.{behind_part, part_made, part_past, made_if, past_if}

regroup : {X : Type 0} (a b c d : List X) → a ++ (b ++ c ++ d) ≡ a ++ b ++ c ++ d
regroup a b c d = sym (append_assoc a (b ++ c) d) ∙ ap (λ l. l ++ d) (sym (append_assoc a b c))

regroup_sum : (a b c d : ℕ) → a + (b + c + d) ≡ a + b + c + d
regroup_sum a b c d = omega arith

-- a `for` whose parts are as definitions have them
for_past : (init : Held-TStmt-If-2) (test : Option TExpr) (step : Held-TStmt-If-2) (body : TStmt) (w : Walked) →
    past (For init test step body) w ≡ without (past body (behind_part step (behind_part init (within w))))
unfolding past within without behind_part
for_past init test step body w =
    let o = within w in
    let b = behind_part init o in
    let t = behind_part step b in
    λ i. record {
      name = w.name;
      scopes = closed (after body t.scopes);
      frame = regroup w.frame (framed_part init o.scopes) (framed_part step b.scopes) (framed body t.scopes) i;
      next = regroup_sum w.next (bodies_of_part init) (bodies_of_part step) (bodies_of body) i;
      bodies =
          regroup w.bodies (outlines_part w.name init o.scopes w.frame w.next) (outlines_part w.name step b.scopes b.frame b.next)
          (outlines w.name body t.scopes t.frame t.next) i;
    }

pub past_for : (init : Option TStmt) (test : Option TExpr) (step : Option TStmt) (body : TStmt) (w : Walked) →
    past (code.For init test step body) w ≡ without (past body (past_part step (past_part init (within w))))
past_for init test step body w =
    ap (λ s. past s w) (for_form init test step body) ∙ for_past (part_of init) test (part_of step) body w
    ∙ ap (λ b. without (past body (behind_part (part_of step) b))) (part_past init (within w))
    ∙ ap (λ t. without (past body t)) (part_past step (past_part init (within w)))

-- what a `for` is, where its initial part leaves code so far, and its step so far
for_parts : Option TStmt → Option TExpr → Option TStmt → TStmt → Walked → Walked → Walked → Stmt
for_parts init test step body o b t =
    program.Block (made_part init o ∷ program.Loop (tested_at b test) (made_part step b) (made body t) ∷ [])

for_made : (init : Option TStmt) (test : Option TExpr) (step : Option TStmt) (body : TStmt) (w : Walked) →
    made (For (part_of init) test (part_of step) body) w
    ≡ for_parts init test step body (within w) (behind_part (part_of init) (within w)) (behind_part (part_of step) (behind_part (part_of init) (within w)))
unfolding made within tested_at behind_part for_parts
for_made init test step body w =
    let o = within w in
    let b = behind_part (part_of init) o in
    let t = behind_part (part_of step) b in
    ap (λ (s : Stmt). program.Block (s ∷ program.Loop (tested_at b test) (statement_part (part_of step) b.scopes b.frame b.next) (made body t) ∷ []))
    (part_made init o)
    ∙ ap (λ (s : Stmt). program.Block (made_part init o ∷ program.Loop (tested_at b test) s (made body t) ∷ [])) (part_made step b)

pub made_for : (init : Option TStmt) (test : Option TExpr) (step : Option TStmt) (body : TStmt) (w : Walked) →
    let o = within w in
    let b = past_part init o in
    made (code.For init test step body) w
    ≡ program.Block (made_part init o ∷ program.Loop (tested_at b test) (made_part step b) (made body (past_part step b)) ∷ [])
unfolding for_parts
made_for init test step body w =
    let o = within w in
    ap (λ s. made s w) (for_form init test step body) ∙ for_made init test step body w
    ∙ ap (λ b. for_parts init test step body o b (behind_part (part_of step) b)) (part_past init o)
    ∙ ap (for_parts init test step body o (past_part init o)) (part_past step (past_part init o))

-- ---- `cilk_for`

pub made_cilk_for :
    (at : Pos) (name : List ℕ) (low : TExpr) (second : Pos × List ℕ) (high : TExpr) (third : Pos × List ℕ) (body : TStmt) (w : Walked) →
    made (code.CilkFor at name low second high third body) w ≡ each_at w at low high (copies_at w name body)
unfolding made each_at copies_at word_at
made_cilk_for at name low second high third body w = ap (λ s. made s w) (cilk_for_form at name low second high third body)

-- a function takes the place of the one that was there so far
in_place : (before behind : List Function) (f : Function) → before ++ f ∷ behind ≡ slice_set (before ++ spare ∷ [] ++ behind) (length before) f
in_place before behind f =
    sym (ap (λ fs. slice_set fs (length before) f) (append_assoc before (spare ∷ []) behind) ∙ set-append_seam before spare behind f)

pub past_cilk_for :
    (at : Pos) (name : List ℕ) (low : TExpr) (second : Pos × List ℕ) (high : TExpr) (third : Pos × List ℕ) (body : TStmt) (w : Walked) →
    past (code.CilkFor at name low second high third body) w ≡ past_body name (copies_at w name body) body w
unfolding made past copies_at kept_of entered function_at back leaving past_body
past_cilk_for at name low second high third body w =
    let copies = copies_at w name body in
    let inner = entered name copies w in
    let f = function_of w.name (suc (length copies)) (length (inner.frame ++ framed body inner.scopes)) (statement body inner.scopes inner.frame inner.next) in
    ap (λ s. past s w) (cilk_for_form at name low second high third body)
    ∙ (λ i. record {
      name = w.name;
      scopes = record (closed (after body inner.scopes)) { level = w.scopes.level };
      frame = append-nil w.frame i;
      next = (let e : w.next + suc (bodies_of body) ≡ suc w.next + bodies_of body = omega arith in e) i;
      bodies = in_place w.bodies (outlines w.name body inner.scopes inner.frame inner.next) f i;
    })

pub ruleset making_loops = (made_for, past_for, made_cilk_for, past_cilk_for)

pub body_is : (variable copies : List ℕ) (body : TStmt) (w : Walked) →
    past_body variable copies body w
    ≡ leaving (kept_of (suc (length copies)) w) (made body (entered variable copies w)) (past body (entered variable copies w))
unfolding past_body
body_is variable copies body w = refl

pub left_is : (frame : List ℕ) (level place params : ℕ) (body : Stmt) (w : Walked) →
    leaving (frame, level, place, params) body w ≡ back (frame, level, place, params) (function_at w params body) w
unfolding leaving
left_is frame level place params body w = refl

pub ruleset body_forms = (body_is, left_is)

-- ---- an `if`, part by part

pub if_made_so : (s : TStmt) (test : TExpr) (yes_ again : TStmt) (no_ : Option TStmt) (w w1 : Walked) (t : Tested) → s ≡ code.If test yes_ no_ → again ≡ yes_ →
    t ≡ record { test = word_at w test; body = made again w } → w1 ≡ past again w → program.If t.test t.body (made_part no_ w1) ≡ made s w
if_made_so s test yes_ again no_ w w1 t is same is_t is_1 =
    (λ i.
    program.If (ap (λ (x : Tested). x.test) is_t i) ((ap (λ (x : Tested). x.body) is_t ∙ ap (λ x. made x w) same) i)
    (made_part no_ ((is_1 ∙ ap (λ x. past x w) same) i)))
    ∙ sym (ap (λ x. made x w) is ∙ made_if test yes_ no_ w)

pub if_past_so : (s : TStmt) (test : TExpr) (yes_ again : TStmt) (no_ : Option TStmt) (w w1 : Walked) → s ≡ code.If test yes_ no_ → again ≡ yes_ →
    w1 ≡ past again w → past_part no_ w1 ≡ past s w
if_past_so s test yes_ again no_ w w1 is same is_1 =
    ap (past_part no_) (is_1 ∙ ap (λ x. past x w) same) ∙ sym (ap (λ x. past x w) is ∙ past_if test yes_ no_ w)
