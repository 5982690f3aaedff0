use Rattle.std.proofs.Common.{◌≡◌, ◌++◌, ◌∷◌, [], ◌<◌, length, ℕ, ap, ◌∙◌, sym, arith, append_assoc, map}
use Rattle.std.specs.Prelude.{slice_index}
use Rattle.word_ops.specs.Report.{below}
use Rattle.core_model.specs.Nodes.{Node}
use Rattle.sim_core.specs.Kept.{core_in}
use Rattle.sim_core.proofs.Legal.{node_there}
use Rattle.sim_core.proofs.TallyLists.{map_more, counted_there}
use Rattle.sim_core.proofs.machine.Core.add_moves_from.Goals as goal

pub at-requires : goal.at-requires
at-requires c =
    let v = c.node.result.now in
    let size : length c.tally.result.now.moves ≡ v.nodelets = ap (λ (t : _). length t.moves) c.tally.ensures ∙ v.tally_size.moves in
    let all : v.nodelets ≡ c.args.self.now.count = (c.args.self.now.numbered c.loop-j.j v c.node.ensures).nodelets in
    let less : c.args.i < c.args.self.now.count = c.requires in
    omega arith

pub loop-j-preserved : goal.loop-j-preserved
loop-j-preserved c = λ code.
    let f : ℕ → ℕ = λ j. ((core_in code c.args.self.now).nodes j).tallies.moves c.args.i in
    let read : Node → ℕ → ℕ = λ w. w.tallies.moves in
    let x = counted_there code c.args.self.now c.loop-j.j c.node.result.now c.node.ensures read c.tally.result.now.moves c.args.i c.at.result.now
    (ap read (node_there code c.args.self.now c.loop-j.j c.node.result.now c.node.ensures) ∙ ap (λ (t : _). slice_index t.moves) (sym c.tally.ensures)) c.at.ensures in
    c.in_ok-add.ensures.ok ∙ ap (λ l. l ++ c.at.result.now ∷ []) (c.loop-j.invariant code) ∙ append_assoc c.args.counts.now (map f (below c.loop-j.j)) (c.at.result.now ∷ [])
    ∙ ap (λ l. c.args.counts.now ++ l) (ap (λ y. map f (below c.loop-j.j) ++ y ∷ []) x ∙ sym (map_more f c.loop-j.j))

pub returns : goal.returns
returns c = λ code.
    let end : c.loop-j.j ≡ c.args.self.now.count = let h = c.loop-j-test.false in let b = c.loop-j.auto.j-end in omega arith in
    c.loop-j.invariant code ∙ ap (λ n. c.args.counts.now ++ map (λ j. ((core_in code c.args.self.now).nodes j).tallies.moves c.args.i) (below n)) end
