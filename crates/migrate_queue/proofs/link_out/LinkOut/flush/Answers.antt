use Rattle.std.proofs.Common.{◌∙◌}
use Rattle.migrate_queue.specs.Links.{pushed, outbox}
use Rattle.migrate_queue.proofs.Moved.{front_gained, back_lost}
use Rattle.migrate_queue.proofs.link_out.LinkOut.flush.Goals as goal

pub returns-after-loop-self-clause-pushed : goal.returns-after-loop-self-clause-pushed
returns-after-loop-self-clause-pushed c =
    let old = c.args.self.now in
    let new = c.loop-self.self in
    let kept = c.loop-self.invariant in
    c.is_full.ensures.looked.1 ∙ front_gained (pushed old) (outbox old) (pushed new) (outbox new) c.loop-self.moved kept.sent kept.pushed

pub returns-after-loop-self-clause-outbox : goal.returns-after-loop-self-clause-outbox
returns-after-loop-self-clause-outbox c =
    let old = c.args.self.now in
    let new = c.loop-self.self in
    let kept = c.loop-self.invariant in
    back_lost (pushed old) (outbox old) (pushed new) (outbox new) c.loop-self.moved kept.sent kept.pushed
