use Rattle.std.proofs.Common.{◌≡◌, ◌++◌, ◌∷◌, [], length, map, take, ap, ◌∙◌, arith, to_z, of_z, w64, rules}
use Rattle.std.proofs.Math.Seq.{take-length}
use Rattle.word_ops.specs.declared.traffic.Cell.{Cell}
use Rattle.sim_core.specs.code.CellsBelow.{cell_at}
use Rattle.sim_core.proofs.CellLists.{cells_on}
use Rattle.sim_core.proofs.cells.add_cells.Goals as goal

pub loop-i-preserved : goal.loop-i-preserved
loop-i-preserved c =
    let k = c.args.nodelet in
    let x = c.at.result.now in
    let at : to_z w64 (of_z w64 x.0) ≡ x.0 = search rules in
    let held : to_z w64 (of_z w64 x.1) ≡ x.1 = search rules in
    let same : cell_at k (to_z w64 (of_z w64 x.0), to_z w64 (of_z w64 x.1)) ≡ cell_at k x =
    ap (λ a. cell_at k (a, to_z w64 (of_z w64 x.1))) at ∙ ap (λ w. cell_at k (x.0, w)) held in
    cells_on c.args.cells.now c.loop-i.cells _ k c.args.words.now c.loop-i.i x c.at.ensures c.loop-i.invariant
    (c.in_ok-add.ensures.ok ∙ ap (λ (cell : Cell). c.loop-i.cells ++ cell ∷ []) same)

pub returns : goal.returns
returns c =
    let all : c.loop-i.i ≡ length c.args.words.now = let h = c.loop-i-test.false in let b = c.loop-i.auto.i-end in let n = c.len-i-end.ensures in omega arith in
    c.loop-i.invariant ∙ ap (λ l. c.args.cells.now ++ map (cell_at c.args.nodelet) l) (ap (λ n. take n c.args.words.now) all ∙ take-length c.args.words.now)
