-- Expressions, left sides and the head of a `cilk_for` at a place are well formed.
use Rattle.std.proofs.Common.{◌≡◌, ◌∙◌, ap, sym, ℕ, suc, ◌≤◌, true, not, List, [], ◌∷◌, length, map, slice_get, Some, refl, lt-ltb}
use Rattle.std.specs.List.{list_all}
use Rattle.std.specs.Prelude.{nat_lt}
use Rattle.std.proofs.lemmas.Bool.{and_from}
use Rattle.std.proofs.lemmas.List.{length-map}
use Rattle.word_ops.specs.declared.place.Pos.{Pos}
use Rattle.cilk_ast.specs.declared.program.Function.{Function}
use Rattle.cilk_ast.specs.declared.tree.TExpr.{TExpr}
use Rattle.cilk_ast.specs.declared.tree.TStmt.{TStmt}
use Rattle.cilk_ast.specs.declared.fault.FaultKind.TheVariants as fault
use Rattle.cilk_ast.specs.declared.program.Stmt as code
use Rattle.cilk_model.specs.Copies.{Frame, copies_of, named_by, named_in}
use Rattle.cilk_model.specs.ExpressionBreaks.{misfit, faults_of, part_faults}
use Rattle.cilk_model.specs.ExpressionLowering.{slot_in, expression}
use Rattle.cilk_model.specs.FirstFault.{broken_if}
use Rattle.cilk_model.specs.Locals.{in_body}
use Rattle.cilk_model.specs.Scopes.{Scopes, names_in}
use Rattle.cilk_model.specs.Sorts.{is_word, judged, begins_at}
use Rattle.cilk_model.specs.StatementBreaks.{is_place, is_outer, side_faults}
use Rattle.cilk_model.specs.StatementLowering.{side, body_frame}
use Rattle.cilk_types.proofs.KeptLists.{no_left, three_unbroken}
use Rattle.cilk_types.proofs.KeptNumbers.{Within, in_first, in_rest, is_in, within_filter}
use Rattle.cilk_types.proofs.KeptStands.{takes_at}
use Rattle.cilk_types.proofs.KeptForms.{all_sound}
use Rattle.cilk_types.proofs.KeptNames.{slot_under}
use Rattle.cilk_types.proofs.KeptExpressions.{sound_expression}
use Rattle.cilk_types.proofs.KeptKnown.{Holds, agrees_names, sees_names}
use Rattle.cilk_types.proofs.KeptStatementForms.{statement_sound}
use Rattle.cilk_types.proofs.KeptSimple.{side_sound, sound_side}

-- the slots of locals that are in a frame
copied_under : (slots : ℕ) (frame : Frame) → length frame ≤ slots → (copies : Frame) → Within copies frame →
    list_all (λ slot. nat_lt slot slots) (map (slot_in frame) copies) ≡ true
copied_under slots frame under [] w = refl
copied_under slots frame under (n ∷ copies) w =
    and_from _ _ (lt-ltb (slot_in frame n) slots (slot_under frame n slots (w.each n (in_first n copies)) under))
    (copied_under slots frame under copies (record { each = λ m h. w.each m (in_rest m n copies h) }))

module _ (functions : List Function) (slots : ℕ) (named : List ℕ) where
  -- an expression at a place
  pub expression_kept : (e : TExpr) (scopes : Scopes) (frame : Frame) → Holds functions named frame scopes → length frame ≤ slots →
      faults_of (names_in scopes) e ≡ [] → Within (named_by (names_in scopes) e) named → all_sound functions slots (expression (names_in scopes) frame e) ≡ true
  expression_kept e scopes frame holds under h w =
      sound_expression functions slots named (names_in scopes) frame (agrees_names functions named frame scopes holds) (sees_names functions named frame scopes holds) under e h w

  -- a `cilk_for`, without its body
  pub each_kept : (at : Pos) (variable : List ℕ) (low high : TExpr) (body : TStmt) (scopes : Scopes) (frame : Frame) (next : ℕ) (f : Function) →
      Holds functions named frame scopes → length frame ≤ slots → slice_get functions next ≡ Some f → f.params ≡ length (body_frame variable body scopes frame) →
      part_faults (names_in scopes) is_word low ≡ [] → part_faults (names_in scopes) is_word high ≡ [] →
      Within (named_by (names_in scopes) low) named → Within (named_by (names_in scopes) high) named →
      statement_sound functions slots
      (code.Each at (expression (names_in scopes) frame low) (expression (names_in scopes) frame high) next
      (map (slot_in frame) (copies_of frame (named_in body (in_body variable scopes))))) ≡ true
  each_kept at variable low high body scopes frame next f holds under is many l h wl wh =
      let names = names_in scopes in
      let inner = named_in body (in_body variable scopes) in
      let copies = copies_of frame inner in
      let as_many : f.params ≡ suc (length (map (slot_in frame) copies)) = many ∙ ap (λ n. suc n) (sym (length-map copies (slot_in frame))) in
      and_from _ _
      (and_from _ _ (copied_under slots frame under copies (within_filter (λ number. is_in number inner) frame))
      (takes_at functions next (suc (length (map (slot_in frame) copies))) f is as_many))
      (and_from _ _ (expression_kept low scopes frame holds under (no_left (faults_of names low) (misfit is_word (judged names low)) l) wl)
      (and_from _ _ (expression_kept high scopes frame holds under (no_left (faults_of names high) (misfit is_word (judged names high)) h) wh) refl))

  -- a left side at a place
  pub left_kept : (left : TExpr) (scopes : Scopes) (frame : Frame) → Holds functions named frame scopes → length frame ≤ slots →
      side_faults scopes left ≡ [] → Within (named_by (names_in scopes) left) named → side_sound functions slots (side (names_in scopes) frame left) ≡ true
  left_kept left scopes frame holds under h w =
      let parts =
      three_unbroken (faults_of (names_in scopes) left) (broken_if (not (is_place left)) fault.NotAPlace (begins_at left))
      (broken_if (is_outer scopes left) fault.AssignsOuter (begins_at left)) h in
      sound_side functions slots named (names_in scopes) frame (agrees_names functions named frame scopes holds) (sees_names functions named frame scopes holds) under
      left parts.first w
