use Rattle.std.proofs.Common.{◌≡◌, ◌∷◌, [], refl, arith}
use Rattle.nodelet_core.specs.Carried.{context_in}
use Rattle.core_model.specs.Nodes.{with_strand}
use Rattle.core_model.specs.Machine.{stamped_node}
use Rattle.nodelet_core.proofs.Becoming.{became_did}
use Rattle.nodelet_core.proofs.Taking.{became_stamp}
use Rattle.nodelet_core.proofs.nodelet.Nodelet.take_context.Goals as goal

pub set_stamp-requires : goal.set_stamp-requires
set_stamp-requires c =
    let x = c.args.x in
    let same : c.arrive.new.self.stamp ≡ c.args.self.now.stamp =
    became_stamp (λ code v. with_strand v (context_in code x)) (x ∷ []) c.args.self.now c.arrive.new.self c.in_ok-arrive.ensures.ok (λ code v. refl) in
    record { later = omega (arith, same) }

pub returns-clause-ok : goal.returns-clause-ok
returns-clause-ok c =
    let x = c.args.x in
    became_did (λ code v. with_strand v (context_in code x)) (stamped_node c.args.stamp) (x ∷ []) c.args.self.now c.arrive.new.self c.set_stamp.new.self c.in_ok-arrive.ensures.ok c.set_stamp.ensures
