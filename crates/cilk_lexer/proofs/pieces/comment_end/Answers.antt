use Rattle.std.proofs.Common.{◌≡◌, ◌∙◌, ap, sym, drop, Some, option_map, cond, suc, ◌+◌, codes}
use Rattle.std.proofs.lemmas.List.{take_rest}
use Rattle.cilk_model.specs.Pieces.{begins, comment_end}
use Rattle.cilk_lexer.proofs.Comments.{comment_end_at, one_more}
use Rattle.cilk_lexer.proofs.pieces.comment_end.Goals as goal

pub loop-i-preserved : goal.loop-i-preserved
loop-i-preserved c =
    let rest = c.args.rest.now in
    let i = c.loop-i.i in
    let no : begins (codes "*/") (drop i rest) ≡ c.starts_with.result = ap (begins (codes "*/")) (sym (take_rest rest i)) ∙ sym c.starts_with.ensures.value in
    c.loop-i.invariant
    ∙ ap (option_map (λ k. k + i)) (comment_end_at rest i c.loop-i-test.true ∙ ap (λ b. cond b (Some 2) (option_map suc (comment_end (drop (i + 1) rest)))) (no ∙ c.if-starts_with.false))
    ∙ one_more i (comment_end (drop (i + 1) rest))
