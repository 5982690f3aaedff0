use Rattle.std.proofs.Common.{length, arith, sym, ap, ◌∙◌}
use Rattle.std.specs.Prelude.{slice_index}
use Rattle.std.proofs.lemmas.Option.{get_or_from_slice_get}
use Rattle.threadlet_code.specs.Walking.{Spans, span_at, settle}
use Rattle.threadlet_code.proofs.Waves.{settle_size, settle_many_more}
use Rattle.threadlet_code.proofs.walk.Walk.settle.Goals as goal

pub loop-i-preserved : goal.loop-i-preserved
loop-i-preserved c =
    let i = c.loop-i.invariant in
    let place = c.at-place.result.now in
    record {
      ways = c.settle_place.ensures.ways ∙ i.ways;
      reached = c.settle_place.ensures.reached ∙ i.reached;
      settled = c.settle_place.ensures.settled ∙ i.settled;
      size = ap length c.settle_place.ensures.known ∙ settle_size place (span_at c.loop-i.self.ways place) c.loop-i.self.known ∙ i.size;
      above = omega arith;
      known = settle_many_more c.args.self.now.ways c.args.self.now.settled c.loop-i.i c.args.self.now.reached c.args.self.now.known c.loop-i.self.known c.settle_place.new.self.known place
          (omega arith) i.known
          (ap (λ l. slice_index l c.loop-i.i) (sym i.reached) ∙ get_or_from_slice_get c.loop-i.self.reached c.loop-i.i place 0 c.at-place.ensures)
          (c.settle_place.ensures.known ∙ ap (λ (s : Spans). settle place (span_at s place) c.loop-i.self.known) i.ways);
    }
