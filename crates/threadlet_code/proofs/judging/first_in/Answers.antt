use Rattle.std.proofs.Common.{◌≡◌, [], length, arith, subst}
use Rattle.std.specs.Prelude.{flat_map}
use Rattle.std.specs.List.{range_with_len}
use Rattle.threadlet_code.specs.Breaches.{breaches_at}
use Rattle.threadlet_code.proofs.Firsts.{none_in, none_more, first_in}
use Rattle.threadlet_code.proofs.judging.first_in.Goals as goal

pub returns-in-Some-clause-first : goal.returns-in-Some-clause-first
returns-in-Some-clause-first c =
    first_in c.args.code.now c.args.function c.args.f.now c.requires.known c.loop-place.place c.in-Some.rule (omega arith) c.loop-place.invariant c.in-Some.ensures

pub loop-place-preserved : goal.loop-place-preserved
loop-place-preserved c =
    none_more c.args.code.now c.args.function c.args.f.now c.requires.known c.loop-place.place c.loop-place.invariant c.in-None.ensures

pub returns-clause-first : goal.returns-clause-first
returns-clause-first c =
    none_in c.args.code.now c.args.function c.args.f.now c.requires.known c.requires.some
    (let end : c.loop-place.place ≡ length c.args.f.now.body = omega arith in
    subst (λ k. flat_map (breaches_at c.args.code.now c.args.function) (range_with_len 0 k) ≡ []) end c.loop-place.invariant)
