use Rattle.std.proofs.Common.{◌≡◌, ◌+◌, ℕ, List, sym, arith, subst}
use Rattle.word_ops.specs.declared.traffic.Cell.{Cell}
use Rattle.nodelet_mem.specs.declared.words.Words.{Words}
use Rattle.nodelet_mem.specs.Listing.{AreWords}
use Rattle.nodelet_mem.specs.Words.{word_of}
use Rattle.sim_core.specs.Kept.{core_in}
use Rattle.sim_core.specs.Shown.{cells_in}
use Rattle.sim_core.specs.code.CellsBelow.{AreCellsBelow}
use Rattle.sim_core.proofs.CellLists.{no_cells, cells_more, all_cells, words_there}
use Rattle.sim_core.proofs.machine.Core.cells.Goals as goal

pub loop-k-init : goal.loop-k-init
loop-k-init c = λ code.
    let P : List Cell → Type 0 = λ l. AreCellsBelow 0 (cells_in (core_in code c.args.self.now)) l in
    subst P (sym c.new-cells.ensures) (no_cells (cells_in (core_in code c.args.self.now)))

pub loop-k-preserved : goal.loop-k-preserved
loop-k-preserved c = λ code.
    let v = c.node.result.now in
    let words = c.in_ok-words.words in
    let Q : Words → Type 0 = λ w. AreWords (word_of w) words in
    let P : List Cell → Type 0 = λ l. AreCellsBelow (c.loop-k.k + 1) (cells_in (core_in code c.args.self.now)) l in
    subst P (sym c.in_ok-add_cells.ensures)
    (cells_more (cells_in (core_in code c.args.self.now)) c.loop-k.k c.loop-k.cells words (c.loop-k.invariant code)
    (words_there code c.args.self.now c.loop-k.k v words c.node.ensures (subst Q c.words.ensures c.in_ok-words.ensures)))

pub returns : goal.returns
returns c = λ code.
    let end : c.loop-k.k ≡ c.args.self.now.count = let h = c.loop-k-test.false in let b = c.loop-k.auto.k-end in omega arith in
    let P : ℕ → Type 0 = λ k. AreCellsBelow k (cells_in (core_in code c.args.self.now)) c.loop-k.cells in
    all_cells code c.args.self.now c.loop-k.cells (subst P end (c.loop-k.invariant code))
