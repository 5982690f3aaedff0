use Rattle.std.proofs.Common.{◌≡◌, ◌+◌, ◌∷◌, ◌++◌, suc, take, drop, ap, ◌∙◌, arith}
use Rattle.std.specs.Prelude.{slice_set}
use Rattle.std.proofs.lemmas.List.{set_split}
use Rattle.std.proofs.lemmas.Result.{on_ok_weaker}
use Rattle.threadlet_state.proofs.copying.put_copy.Goals as goal

pub returns-then-i-len : goal.returns-then-i-len
returns-then-i-len c =
    let copies = c.args.copies.now in
    let frame = c.args.frame.now in
    let i = c.args.i in
    let more : suc i ≡ i + 1 = omega arith in
    on_ok_weaker c.overwrite.result
    (λ copied. ap (slice_set copies i) copied ∙ set_split copies i frame (omega (arith, c.if-i-len.true, c.len.ensures)) ∙ ap (λ k. take i copies ++ frame ∷ drop k copies) more)
    c.overwrite.ensures
