use Rattle.std.proofs.Common.{arith, ap, length, length-drop}
use Rattle.std.proofs.Math.Seq.{take-add}
use Rattle.std.proofs.lemmas.List.{take_rest}
use Rattle.emu_io.proofs.HeldLemmas.{Grew-append}
use Rattle.emu_io.proofs.writing.write_all.Goals as goal

pub loop-written-preserved : goal.loop-written-preserved
loop-written-preserved g c =
    let taken = rw (c.as_slice.ensures, take_rest) at c.in-Ok.ensures.taken in
    record {
      grew = rw take-add (Grew-append _ _ _ _ _ c.loop-written.invariant.grew taken);
      within = grind (arith, length-drop);
      faults = omega arith;
      empty = λ none. absurd (omega (arith, ap length none));
    }
