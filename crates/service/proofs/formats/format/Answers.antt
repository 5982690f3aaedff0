use Rattle.service.proofs.Printing.{one_part_more}
use Rattle.service.proofs.formats.format.Goals as goal

pub loop-part-preserved : goal.loop-part-preserved
loop-part-preserved c =
    one_part_more c.as_slice-part-items.result.now c.as_slice-all.result.now c.loop-part.part-index c.loop-part.next c.in_ok-next.next c.loop-part.piece c.push_part.new.piece _
    c.loop-part-test.true c.in_ok-next.ensures.next c.in_ok-next.ensures.piece c.loop-part.invariant
