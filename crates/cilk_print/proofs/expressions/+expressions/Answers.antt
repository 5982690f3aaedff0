use Rattle.std.proofs.Common.{◌≡◌, ◌∙◌, ap, sym, subst, ◌+◌, ◌<◌, List, [], ◌∷◌, ◌++◌, Bor, map, drop, length, All, arith}
use Rattle.std.proofs.lemmas.List.{map_push, nil_from_length}
use Rattle.std.proofs.lemmas.List.Elements.{All-push, All-take}
use Rattle.cilk_ast.specs.declared.tree.TExpr as code
use Rattle.cilk_ast.specs.declared.tree.TExpr.{TExpr, size-TExpr}
use Rattle.cilk_model.specs.TreeTokens.{expression}
use Rattle.std.proofs.lemmas.Grind.{common_steps}
use Rattle.cilk_print.specs.Printing.{printed, printed_behind, printed_indexes, indexes_of}
use Rattle.cilk_print.proofs.ExpressionSteps.{behind_next, behind_last, between_first, between_nothing}
use Rattle.cilk_print.proofs.Chains.{base_depth, index_depth, chain_step, chain_base, chain_index, no_indexes}
use Rattle.cilk_print.proofs.expressions.+expressions.Goals as goal

pub behind_commas-loop-i-preserved : goal.behind_commas-loop-i-preserved
behind_commas-loop-i-preserved t c =
    ap (λ p. printed_behind p (drop (c.loop-i.i + 1) c.args.args.now)) (c.in_ok-expression.ensures ∙ ap (λ p. printed p c.index-args-i.result) c.in_ok-tight.ensures)
    ∙ sym (behind_next c.loop-i.page c.args.args.now c.loop-i.i c.index-args-i.result c.loop-i-test.true c.index-args-i.is)
    ∙ c.loop-i.invariant

pub behind_commas-returns : goal.behind_commas-returns
behind_commas-returns t c = sym (behind_last c.loop-i.page c.args.args.now c.loop-i.i c.loop-i-test.false) ∙ c.loop-i.invariant

pub between_commas-returns-then-is_empty : goal.between_commas-returns-then-is_empty
between_commas-returns-then-is_empty t c = sym (between_nothing c.args.page.now c.args.args.now (grind (arith, common_steps)))

pub between_commas-returns : goal.between_commas-returns
between_commas-returns t c =
    let some : 0 < length c.args.args.now = grind (arith, common_steps) in
    rw (between_first c.args.page.now c.args.args.now c.index-args-0.result some c.index-args-0.is, ← c.in_ok-expression.ensures) c.behind_commas.ensures

-- what the references point to
abbrev seen : List (Bor TExpr) → List TExpr
seen es = map (λ i. i.now) es

abbrev is_below : TExpr → Bor TExpr → Type 0
is_below e i = size-TExpr i.now < size-TExpr e

pub expression-loop-rest-preserved : goal.expression-loop-rest-preserved
expression-loop-rest-preserved t c =
    let base = c.in-Index.base in
    let index = c.in-Index.index in
    let got : c.get-rest.result.now ≡ base = c.get-rest.ensures in
    let got_index : c.get-in-Index.result.now ≡ index = c.get-in-Index.ensures in
    let pushed : c.push.new.self.items ≡ c.loop-rest.indexes.items ++ c.get-in-Index.result ∷ [] = c.in_ok-push.ensures.items in
    let all_seen : seen c.push.new.self.items ≡ seen c.loop-rest.indexes.items ++ index ∷ [] =
    ap seen pushed ∙ map_push (λ (i : Bor TExpr). i.now) c.loop-rest.indexes.items c.get-in-Index.result ∙ ap (λ x. seen c.loop-rest.indexes.items ++ x ∷ []) got_index in
    let less : size-TExpr base < size-TExpr (code.Index c.in-Index.pos base index) = base_depth c.in-Index.pos base index in
    let less_index : size-TExpr index < size-TExpr (code.Index c.in-Index.pos base index) = index_depth c.in-Index.pos base index in
    let new_below : is_below c.args.e.now c.get-in-Index.result = omega (arith, less_index, ap size-TExpr got_index, ap size-TExpr c.in-Index.is, c.loop-rest.invariant.depth) in
    record {
      depth = omega (arith, less, ap size-TExpr got, ap size-TExpr c.in-Index.is, c.loop-rest.invariant.depth);
      depths = subst (All (is_below c.args.e.now)) (sym pushed) (All-push (is_below c.args.e.now) c.loop-rest.indexes.items c.get-in-Index.result c.loop-rest.invariant.depths new_below);
      tokens = (λ i. expression (got i) ++ indexes_of (all_seen i))
          ∙ chain_step c.in-Index.pos base index c.args.e.now c.loop-rest.rest.now (seen c.loop-rest.indexes.items) c.in-Index.is c.loop-rest.invariant.tokens;
    }

pub expression-loop-index-init : goal.expression-loop-index-init
expression-loop-index-init t c = record {
  depths = c.loop-rest.invariant.depths;
  left = ap (λ p. printed_indexes p (seen c.loop-rest.indexes.items)) c.in_ok-form.ensures
      ∙ chain_base c.args.page.now c.loop-rest.rest.now c.args.e.now (seen c.loop-rest.indexes.items) c.loop-rest.invariant.tokens;
}

pub expression-loop-index-preserved : goal.expression-loop-index-preserved
expression-loop-index-preserved t c =
    let popped : c.loop-index.indexes.items ≡ c.pop.new.self.items ++ c.in-Some.index ∷ [] = c.in-Some.ensures.items in
    let all_seen : seen c.loop-index.indexes.items ≡ seen c.pop.new.self.items ++ c.in-Some.index.now ∷ [] =
    ap seen popped ∙ map_push (λ (i : Bor TExpr). i.now) c.pop.new.self.items c.in-Some.index in
    record {
      depths = subst (All (is_below c.args.e.now)) (sym c.pop.ensures.rest) (All-take (is_below c.args.e.now) _ c.loop-index.indexes.items c.loop-index.invariant.depths);
      left = ap (λ p. printed_indexes p (seen c.pop.new.self.items)) c.in_ok-in_square.ensures
          ∙ sym (chain_index c.loop-index.page (seen c.pop.new.self.items) c.in-Some.index.now)
          ∙ sym (ap (printed_indexes c.loop-index.page) all_seen)
          ∙ c.loop-index.invariant.left;
    }

pub expression-returns : goal.expression-returns
expression-returns t c =
    let empty : c.loop-index.indexes.items ≡ [] =
    nil_from_length c.loop-index.indexes.items (grind (arith, common_steps, c.in_default-pop.ensures.cases, c.loop-index.indexes.ok)) in
    sym (no_indexes c.loop-index.page) ∙ ap (λ is. printed_indexes c.loop-index.page (seen is)) (sym empty) ∙ c.loop-index.invariant.left
