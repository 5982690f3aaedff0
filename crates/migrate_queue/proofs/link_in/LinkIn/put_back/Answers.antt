use Rattle.rtrb.specs.Ring.{received}
use Rattle.migrate_queue.proofs.PutBackLaws.{still_taken-last}
use Rattle.migrate_queue.proofs.link_in.LinkIn.put_back.Goals as goal

pub invariant_of-self-clause-came_last : goal.invariant_of-self-clause-came_last
invariant_of-self-clause-came_last c =
    let old = c.args.self.now in
    still_taken-last (received old.ring) old.back c.args.packet old.came_last c.requires.none c.requires.last
