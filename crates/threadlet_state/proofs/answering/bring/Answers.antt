use Rattle.std.proofs.Common.{◌≡◌, length, sym, ◌∙◌, arith, None}
use Rattle.std.proofs.lemmas.Slice.Zip.{zip_turn, zip_end}
use Rattle.threadlet_state.proofs.Bringing.{all_brought, slot_at}
use Rattle.threadlet_state.proofs.answering.bring.Goals as goal

pub set-requires : goal.set-requires
set-requires c =
    let s = c.into_iter-target-iterator.result in
    let first : s.a.rest.now ≡ c.args.targets.now = cc in
    let second : s.b.rest.now ≡ c.args.results.now = cc in
    let t = zip_turn c.args.targets.now c.args.results.now c.loop-target.yielded s c.loop-target.target-iterator c.next.new.self c.next.result first second c.loop-target.yielded_by (c.in-Some.target, c.in-Some.result) c.in-Some.is c.next.ensures.steps in
    omega (arith, c.loop-target.invariant.size, slot_at (length c.args.words.now) c.args.targets.now (length c.loop-target.yielded) c.in-Some-target.slot c.requires t.0 (sym c.in-Some-target.is ∙ t.2 None))

pub returns : goal.returns
returns c =
    let s = c.into_iter-target-iterator.result in
    let first : s.a.rest.now ≡ c.args.targets.now = cc in
    let second : s.b.rest.now ≡ c.args.results.now = cc in
    let n = zip_end c.args.targets.now c.args.results.now c.loop-target.yielded s c.loop-target.target-iterator c.next.new.self c.next.result first second c.loop-target.yielded_by c.in-None.is c.next.ensures.steps in
    all_brought c.args.words.now c.args.targets.now c.args.results.now (length c.loop-target.yielded) c.loop-target.words n c.loop-target.invariant
