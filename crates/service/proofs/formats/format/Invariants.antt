use Rattle.service.proofs.Printing.{IsPrintedTo}
use Rattle.service.proofs.formats.format.Given as goal

-- the parts so far are printed, with the words so far
abbrev pub invariant-loop-part : goal.invariant-loop-part
invariant-loop-part l = IsPrintedTo l.part-items l.all l.part-index l.next l.piece
