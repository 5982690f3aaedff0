use Rattle.std.proofs.Common.{◌≡◌, ◌-◌, ap, ◌∙◌, refl, Some}
use Rattle.std.proofs.lemmas.Result.{on_err_weaker}
use Rattle.threadlet_code.specs.declared.instr.Instr.TheVariants as by
use Rattle.threadlet_state.specs.Silent.{next_instr, is_call}
use Rattle.threadlet_state.proofs.Here.{deepest, same_item, function_there, place_there, next_is}
use Rattle.threadlet_state.proofs.Stepped.{stays_put, stays_there, room_there, steps_there}
use Rattle.threadlet_state.proofs.stepping.step_frames.Goals as goal

pub at-f-requires : goal.at-f-requires
at-f-requires c =
    let d = deepest c.args.code.now c.requires.sound c.args.frames.now c.requires.silent.fits c.len-deepest.result c.len-deepest.ensures c.at-frame.result.now c.at-frame.ensures in
    function_there d

pub at-requires : goal.at-requires
at-requires c =
    let d = deepest c.args.code.now c.requires.sound c.args.frames.now c.requires.silent.fits c.len-deepest.result c.len-deepest.ensures c.at-frame.result.now c.at-frame.ensures in
    place_there d c.at-f.result.now c.at-f.ensures

pub call-requires-clause-here : goal.call-requires-clause-here
call-requires-clause-here c =
    let d = deepest c.args.code.now c.requires.sound c.args.frames.now c.requires.silent.fits c.len-deepest.result c.len-deepest.ensures c.at-frame.result.now c.at-frame.ensures in
    next_is d c.at-f.result.now c.at-f.ensures (by.Call c.in-Call.function) (c.at.ensures ∙ ap Some c.in-Call.is)

pub give_back-requires-clause-here : goal.give_back-requires-clause-here
give_back-requires-clause-here c =
    let d = deepest c.args.code.now c.requires.sound c.args.frames.now c.requires.silent.fits c.len-deepest.result c.len-deepest.ensures c.at-frame.result.now c.at-frame.ensures in
    next_is d c.at-f.result.now c.at-f.ensures by.Return (c.at.ensures ∙ ap Some c.in-Return.is)

pub run_here-requires : goal.run_here-requires
run_here-requires c =
    let d = deepest c.args.code.now c.requires.sound c.args.frames.now c.requires.silent.fits c.len-deepest.result c.len-deepest.ensures c.at-frame.result.now c.at-frame.ensures in
    let on = c.requires.silent.silent in
    let f = c.at-f.result.now in
    let instr = c.at.result.now in
    let put = stays_put instr c.in_default.not-Call c.in_default.not-Return in
    let lent = c.at_mut.result.now in
    let n = c.len-deepest.result in
    let again = same_item c.args.frames.now (n - 1) c.at-frame.result.now lent c.at-frame.ensures c.at_mut.ensures.item in
    record {
      stays = stays_there d on f c.at-f.ensures instr c.at.ensures put lent again;
      room = room_there d on f c.at-f.ensures instr c.at.ensures put lent again c.requires.short;
    }

pub returns-in_default-clause-ok : goal.returns-in_default-clause-ok
returns-in_default-clause-ok c =
    let d = deepest c.args.code.now c.requires.sound c.args.frames.now c.requires.silent.fits c.len-deepest.result c.len-deepest.ensures c.at-frame.result.now c.at-frame.ensures in
    let put = stays_put c.at.result.now c.in_default.not-Call c.in_default.not-Return in
    let lent = c.at_mut.result.now in
    let n = c.len-deepest.result in
    let again = same_item c.args.frames.now (n - 1) c.at-frame.result.now lent c.at-frame.ensures c.at_mut.ensures.item in
    let done = c.run_here.ensures in
    steps_there d c.requires.silent.silent c.at-f.result.now c.at-f.ensures c.at.result.now c.at.ensures put lent again n c.len-deepest.ensures refl
    c.run_here.new.frame done.function done.laid done.leads

pub returns-in-Call-clause-call : goal.returns-in-Call-clause-call
returns-in-Call-clause-call c =
    let d = deepest c.args.code.now c.requires.sound c.args.frames.now c.requires.silent.fits c.len-deepest.result c.len-deepest.ensures c.at-frame.result.now c.at-frame.ensures in
    let here : next_instr c.args.code.now c.args.frames.now ≡ Some (by.Call c.in-Call.function) =
    next_is d c.at-f.result.now c.at-f.ensures (by.Call c.in-Call.function) (c.at.ensures ∙ ap Some c.in-Call.is) in
    on_err_weaker c.call.result (λ kept. ap is_call here) c.call.ensures.err
