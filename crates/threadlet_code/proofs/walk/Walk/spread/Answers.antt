use Rattle.std.proofs.Common.{◌≡◌, arith, sym, ap, ◌∙◌, subst}
use Rattle.std.proofs.lemmas.Option.{get_or_from_slice_get}
use Rattle.threadlet_code.specs.Ways.{Known, known_at}
use Rattle.threadlet_code.specs.Walking.{Wave, pass}
use Rattle.threadlet_code.proofs.Waves.{same_wave, GoesOn, pass_goes_on, pass_many_more}
use Rattle.threadlet_code.proofs.walk.Walk.spread.Goals as goal

pub loop-i-preserved : goal.loop-i-preserved
loop-i-preserved c =
    let i = c.loop-i.invariant in
    let code = c.args.code.now in
    let f = c.args.f.now in
    let place = c.at-place.result.now in
    let known : Known = c.loop-i.self.known in
    let before : Wave = record { ways = c.args.self.now.ways; reached = c.args.self.now.reached } in
    let now : Wave = record { ways = c.loop-i.self.ways; reached = c.loop-i.self.reached } in
    let after : Wave = record { ways = c.pass.new.self.ways; reached = c.pass.new.self.reached } in
    let passed : after ≡ pass code c.args.function f place (known_at known place) now =
    same_wave after (pass code c.args.function f place (known_at known place) now) c.in_ok-pass.ensures.ways c.in_ok-pass.ensures.reached in
    let on : GoesOn now after = subst (GoesOn now) (sym passed) (pass_goes_on code c.args.function f place (known_at known place) now) in
    record {
      known = c.pass.ensures.known ∙ i.known;
      settled = c.pass.ensures.settled ∙ i.settled;
      longer = omega (arith, on.longer, i.longer);
      front = λ k lt. on.front k (omega (arith, i.longer)) ∙ i.front k lt;
      above = omega arith;
      wave = λ n e. pass_many_more code c.args.function f c.args.self.now.known c.args.from c.loop-i.i c.args.self.now.reached before now after place (omega arith) i.wave
          (sym (i.front c.loop-i.i (omega arith)) ∙ get_or_from_slice_get c.loop-i.self.reached c.loop-i.i place 0 c.at-place.ensures)
          (passed ∙ ap (λ (k : Known). pass code c.args.function f place (known_at k place) now) i.known) n e;
    }
