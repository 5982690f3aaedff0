use Rattle.std.proofs.Common.{◌≡◌, ◌∙◌, ap, sym, true, ◌+◌, ◌&&◌, ◌<◌, ◌≤◌, length, arith, add-one}
use Rattle.std.specs.Prelude.{nat_le}
use Rattle.std.proofs.lemmas.List.{drop_all}
use Rattle.cilk_ast.specs.declared.tree.TExpr as code
use Rattle.cilk_ast.specs.declared.tree.TExpr.{size-TExpr}
use Rattle.cilk_types.specs.Shown.{names_of}
use Rattle.cilk_types.specs.Judging.{judgement, is_double, behind}
use Rattle.cilk_types.proofs.Chains.{chain_step}
use Rattle.cilk_types.proofs.Depths.{base_depth}
use Rattle.cilk_types.proofs.ArgumentLemmas.{at_item, arguments_next, arguments_over, words_next, words_over}
use Rattle.cilk_types.proofs.expressions.+judging.Goals as goal

pub arguments-loop-i-preserved : goal.arguments-loop-i-preserved
arguments-loop-i-preserved t c =
    arguments_next (names_of c.args.scopes.now) c.args.wanted.now c.args.args.now c.loop-i.i (c.loop-i.i + 1) c.index-args-i.result c.judge-part.result
    c.wanted_at.result c.loop-i.found c.with_argument-found.result _ (add-one c.loop-i.i)
    (at_item c.args.args.now c.loop-i.i c.index-args-i.result c.loop-i-test.true c.index-args-i.is) c.judge-part.ensures c.wanted_at.ensures
    c.with_argument-found.ensures c.loop-i.invariant

pub arguments-returns : goal.arguments-returns
arguments-returns t c =
    let end : c.loop-i.i ≡ length c.args.args.now = omega (arith, c.loop-i.auto.i-end, c.loop-i-test.false) in
    c.fit_where.ensures ∙ ap (λ n. record c.loop-i.found { fit = c.loop-i.found.fit && nat_le (length c.args.wanted.now) n }) (sym end)
    ∙ arguments_over (names_of c.args.scopes.now) c.args.wanted.now c.args.args.now c.loop-i.i c.loop-i.found _
    (drop_all c.loop-i.i c.args.args.now c.loop-i-test.false) c.loop-i.invariant

pub words-loop-i-preserved : goal.words-loop-i-preserved
words-loop-i-preserved t c =
    words_next (names_of c.args.scopes.now) c.args.args.now c.loop-i.i (c.loop-i.i + 1) c.index-args-i.result c.judge-part.result c.loop-i.found
    c.with_argument-found.result _ (add-one c.loop-i.i) (at_item c.args.args.now c.loop-i.i c.index-args-i.result c.loop-i-test.true c.index-args-i.is)
    c.judge-part.ensures c.with_argument-found.ensures c.loop-i.invariant

pub words-returns : goal.words-returns
words-returns t c =
    words_over (names_of c.args.scopes.now) c.args.args.now c.loop-i.i c.loop-i.found _ (drop_all c.loop-i.i c.args.args.now c.loop-i-test.false) c.loop-i.invariant

pub judge-loop-rest-preserved : goal.judge-loop-rest-preserved
judge-loop-rest-preserved t c =
    let base = c.in-Index.base in
    let index = c.in-Index.index in
    let got : c.get-rest.result.now ≡ base = c.get-rest.ensures in
    let less : size-TExpr base < size-TExpr (code.Index c.in-Index.pos base index) = base_depth c.in-Index.pos base index in
    let depth : size-TExpr c.get-rest.result.now ≤ size-TExpr c.args.e.now =
    omega (arith, less, ap size-TExpr got, ap size-TExpr c.in-Index.is, c.loop-rest.invariant.0) in (
      depth,
      ap (λ b. behind true (judgement (names_of c.args.scopes.now) b) c.earlier-outside.result) got
          ∙ chain_step (names_of c.args.scopes.now) c.in-Index.pos base index c.loop-rest.rest.now c.args.e.now c.judge-part.result c.loop-rest.taken
          c.loop-rest.outside c.earlier-outside.result c.in-Index.is (ap is_double (sym c.get.ensures) ∙ sym c.is_index_of_index.ensures ∙ c.if-not-is_index_of_index.false) (c.judge-part.ensures ∙ ap (judgement (names_of c.args.scopes.now)) c.get-in-Index.ensures)
          c.earlier-outside.ensures c.loop-rest.invariant.1,
    )
