-- A statement that is none of those with parts that are statements ends with a `;`.
use Rattle.std.proofs.Common.{◌≡◌, ◌∙◌, sym, subst, List, [], ◌∷◌, ℕ, Option}
use Rattle.word_ops.specs.declared.place.Pos.{Pos}
use Rattle.cilk_ast.specs.declared.tree.TExpr.{TExpr}
use Rattle.cilk_ast.specs.declared.tree.TStmt as code
use Rattle.cilk_ast.specs.declared.tree.TStmt.{TStmt}
use Rattle.cilk_ast.specs.declared.tree.TStmt.TheOpen as open_form
use Rattle.cilk_ast.specs.declared.tree.TStmt.TheOpen.{TStmt-F}
use Rattle.cilk_ast.specs.declared.tree.TStmt.TheViews.{out-TStmt, roll-TStmt, roll-out-TStmt, rolls-Block, rolls-If, rolls-While, rolls-For, rolls-CilkFor, rolls-Empty, rolls-Local, rolls-Eval, rolls-Assign, rolls-AddTo, rolls-Up, rolls-Down, rolls-Spawn, rolls-Break, rolls-Continue, rolls-Return, rolls-Sync}
use Rattle.cilk_model.specs.declared.layout.Page.{Page}
use Rattle.cilk_model.specs.TreeTokens.{mark, simple}
use Rattle.cilk_model.specs.Layout.{put}
use Rattle.cilk_print.specs.Printing.{printed_simple, printed_statement}
use Rattle.cilk_print.proofs.Pages.{put_all_append}

abbrev ends_so : Page → TStmt → Type 0
ends_so page s = printed_statement page s ≡ put (printed_simple page s) (mark ";")

module _ (page : Page) (s : TStmt)
    (no_block : (body : List TStmt) → s ≡ code.Block body → ⊥)
    (no_if : (test : TExpr) (yes_ : TStmt) (no_ : Option TStmt) → s ≡ code.If test yes_ no_ → ⊥)
    (no_while : (test : TExpr) (body : TStmt) → s ≡ code.While test body → ⊥)
    (no_for : (init : Option TStmt) (test : Option TExpr) (step : Option TStmt) (body : TStmt) → s ≡ code.For init test step body → ⊥)
    (no_cilk_for : (at : Pos) (i : List ℕ) (low : TExpr) (second : Pos × List ℕ) (high : TExpr) (third : Pos × List ℕ) (body : TStmt) → s ≡ code.CilkFor at i low second high third body → ⊥) where
  by_form : (o : TStmt-F TStmt) → roll-TStmt o ≡ s → ends_so page s
  unfolding printed_statement printed_simple
  by_form (open_form.Block body) e = absurd (no_block body (sym e ∙ rolls-Block body))
  by_form (open_form.If test yes_ no_) e = absurd (no_if test yes_ no_ (sym e ∙ rolls-If test yes_ no_))
  by_form (open_form.While test body) e = absurd (no_while test body (sym e ∙ rolls-While test body))
  by_form (open_form.For init test step body) e = absurd (no_for init test step body (sym e ∙ rolls-For init test step body))
  by_form (open_form.CilkFor at i low second high third body) e =
      absurd (no_cilk_for at i low second high third body (sym e ∙ rolls-CilkFor at i low second high third body))
  by_form open_form.Empty e = subst (ends_so page) (sym rolls-Empty ∙ e) (put_all_append page (simple code.Empty) (mark ";" ∷ []))
  by_form (open_form.Local at k x v) e = subst (ends_so page) (sym (rolls-Local at k x v) ∙ e) (put_all_append page (simple (code.Local at k x v)) (mark ";" ∷ []))
  by_form (open_form.Eval x) e = subst (ends_so page) (sym (rolls-Eval x) ∙ e) (put_all_append page (simple (code.Eval x)) (mark ";" ∷ []))
  by_form (open_form.Assign at x v) e = subst (ends_so page) (sym (rolls-Assign at x v) ∙ e) (put_all_append page (simple (code.Assign at x v)) (mark ";" ∷ []))
  by_form (open_form.AddTo at x v) e = subst (ends_so page) (sym (rolls-AddTo at x v) ∙ e) (put_all_append page (simple (code.AddTo at x v)) (mark ";" ∷ []))
  by_form (open_form.Up x) e = subst (ends_so page) (sym (rolls-Up x) ∙ e) (put_all_append page (simple (code.Up x)) (mark ";" ∷ []))
  by_form (open_form.Down x) e = subst (ends_so page) (sym (rolls-Down x) ∙ e) (put_all_append page (simple (code.Down x)) (mark ";" ∷ []))
  by_form (open_form.Spawn x) e = subst (ends_so page) (sym (rolls-Spawn x) ∙ e) (put_all_append page (simple (code.Spawn x)) (mark ";" ∷ []))
  by_form (open_form.Break at) e = subst (ends_so page) (sym (rolls-Break at) ∙ e) (put_all_append page (simple (code.Break at)) (mark ";" ∷ []))
  by_form (open_form.Continue at) e = subst (ends_so page) (sym (rolls-Continue at) ∙ e) (put_all_append page (simple (code.Continue at)) (mark ";" ∷ []))
  by_form (open_form.Return at v) e = subst (ends_so page) (sym (rolls-Return at v) ∙ e) (put_all_append page (simple (code.Return at v)) (mark ";" ∷ []))
  by_form open_form.Sync e = subst (ends_so page) (sym rolls-Sync ∙ e) (put_all_append page (simple code.Sync) (mark ";" ∷ []))

  pub simple_statement : printed_statement page s ≡ put (printed_simple page s) (mark ";")
  simple_statement = by_form (out-TStmt s) (roll-out-TStmt s)
