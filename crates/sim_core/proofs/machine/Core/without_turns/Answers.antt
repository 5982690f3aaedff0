use Rattle.std.proofs.Common.{◌<◌, ap, ◌∙◌, sym, ℕ}
use Rattle.sim_core.specs.Kept.{core_in, setup_in}
use Rattle.core_model.specs.CoreEnd.{lacks_turn_at}
use Rattle.sim_core.proofs.Legal.{node_there, fits_there}
use Rattle.sim_core.proofs.FirstOnes.{found, none_found_more, lacks_there}
use Rattle.sim_core.proofs.machine.Core.without_turns.Goals as goal

pub lacks_turn-requires : goal.lacks_turn-requires
lacks_turn-requires c = record { fits = fits_there c.args.code.now.code c.args.self.now c.loop-k.k c.node.result.now c.node.ensures c.requires.fits }

pub returns-then-lacks_turn : goal.returns-then-lacks_turn
returns-then-lacks_turn c =
    let less : c.loop-k.k < c.args.self.now.count = c.loop-k-test.true in
    let u = setup_in c.args.code.now.code c.args.self.now in
    sym (found (λ (k : ℕ). lacks_turn_at u ((core_in c.args.code.now.code c.args.self.now).nodes k)) c.args.self.now.count c.loop-k.k less c.loop-k.invariant
    (ap (lacks_turn_at u) (node_there c.args.code.now.code c.args.self.now c.loop-k.k c.node.result.now c.node.ensures)
    ∙ lacks_there c.args.code.now.code c.args.self.now c.loop-k.k c.node.result.now c.node.ensures ∙ sym c.lacks_turn.ensures ∙ c.if-lacks_turn.true))

pub loop-k-preserved : goal.loop-k-preserved
loop-k-preserved c =
    let u = setup_in c.args.code.now.code c.args.self.now in
    none_found_more (λ (k : ℕ). lacks_turn_at u ((core_in c.args.code.now.code c.args.self.now).nodes k)) c.loop-k.k c.loop-k.invariant
    (ap (lacks_turn_at u) (node_there c.args.code.now.code c.args.self.now c.loop-k.k c.node.result.now c.node.ensures)
    ∙ lacks_there c.args.code.now.code c.args.self.now c.loop-k.k c.node.result.now c.node.ensures ∙ sym c.lacks_turn.ensures ∙ c.if-lacks_turn.false)
