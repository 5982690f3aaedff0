use Rattle.std.proofs.Common.{◌-◌, ap, sym, ◌∙◌, subst}
use Rattle.std.specs.Prelude.{slice_set}
use Rattle.std.proofs.lemmas.List.{set-get_or}
use Rattle.std.proofs.lemmas.Option.{get_or_from_slice_get}
use Rattle.std.proofs.lemmas.Result.{on_ok_weaker, on_err_weaker}
use Rattle.threadlet_state.specs.declared.frame.Frame.{Frame}
use Rattle.threadlet_state.specs.Answered.{IsReady, GoesOnBehind}
use Rattle.threadlet_state.proofs.Here.{deepest, last_set, same_item, size_is, function_there, place_there}
use Rattle.threadlet_state.proofs.Resumed.{names_there, ready, step_spawns, goes_on_behind}
use Rattle.threadlet_state.proofs.answering.answer_frames.Goals as goal

pub at-f-requires : goal.at-f-requires
at-f-requires c =
    let d = deepest c.args.code.now c.requires.sound c.args.frames.now c.requires.asked.fits c.len-deepest.result c.len-deepest.ensures c.at-frame.result.now c.at-frame.ensures in
    function_there d

pub at-instr-requires : goal.at-instr-requires
at-instr-requires c =
    let d = deepest c.args.code.now c.requires.sound c.args.frames.now c.requires.asked.fits c.len-deepest.result c.len-deepest.ensures c.at-frame.result.now c.at-frame.ensures in
    place_there d c.at-f.result.now c.at-f.ensures

pub operand_count-count-requires : goal.operand_count-count-requires
operand_count-count-requires c =
    let d = deepest c.args.code.now c.requires.sound c.args.frames.now c.requires.asked.fits c.len-deepest.result c.len-deepest.ensures c.at-frame.result.now c.at-frame.ensures in
    names_there d c.at-f.result.now c.at-f.ensures c.at-instr.result.now c.at-instr.ensures

pub go_on-requires : goal.go_on-requires
go_on-requires c =
    let d = deepest c.args.code.now c.requires.sound c.args.frames.now c.requires.asked.fits c.len-deepest.result c.len-deepest.ensures c.at-frame.result.now c.at-frame.ensures in
    let f = c.at-f.result.now in
    let instr = c.at-instr.result.now in
    let count = c.operand_count-count.result in
    let again = same_item c.args.frames.now (c.len-deepest.result - 1) c.at-frame.result.now c.at_mut.result.now c.at-frame.ensures c.at_mut.ensures.item in
    subst (IsReady f instr count) again (ready d f c.at-f.ensures instr c.at-instr.ensures count c.operand_count-count.ensures c.requires.asked.asked c.requires.short)

pub returns-clause-ok : goal.returns-clause-ok
returns-clause-ok c =
    let d = deepest c.args.code.now c.requires.sound c.args.frames.now c.requires.asked.fits c.len-deepest.result c.len-deepest.ensures c.at-frame.result.now c.at-frame.ensures in
    let frames = c.args.frames.now in
    let n = c.len-deepest.result in
    let f = c.at-f.result.now in
    let instr = c.at-instr.result.now in
    let count = c.operand_count-count.result in
    let next = c.go_on.new.frame in
    let again = same_item frames (n - 1) c.at-frame.result.now c.at_mut.result.now c.at-frame.ensures c.at_mut.ensures.item in
    on_ok_weaker c.go_on.result
    (λ on. goes_on_behind d f c.at-f.ensures instr c.at-instr.ensures count c.operand_count-count.ensures c.requires.asked.asked c.args.answer.now
    (slice_set frames (n - 1) next) next (last_set frames (n - 1) next (size_is d n c.len-deepest.ensures))
    (c.go_on.ensures.function ∙ ap (λ (x : Frame). x.function) (sym again)) c.go_on.ensures.laid
    (subst (λ (x : Frame). GoesOnBehind f instr count c.args.answer.now x next) (sym again) on))
    c.go_on.ensures.on

pub returns-clause-err : goal.returns-clause-err
returns-clause-err c =
    let frames = c.args.frames.now in
    let i = c.len-deepest.result - 1 in
    let lent = c.at_mut.result.now in
    on_err_weaker c.go_on.result
    (λ kept. ap (slice_set frames i) (kept ∙ sym (get_or_from_slice_get frames i lent lent c.at_mut.ensures.item)) ∙ set-get_or frames i lent)
    c.go_on.ensures.err

pub returns-clause-spawn : goal.returns-clause-spawn
returns-clause-spawn c =
    let d = deepest c.args.code.now c.requires.sound c.args.frames.now c.requires.asked.fits c.len-deepest.result c.len-deepest.ensures c.at-frame.result.now c.at-frame.ensures in
    on_err_weaker c.go_on.result
    (step_spawns d c.at-f.result.now c.at-f.ensures c.at-instr.result.now c.at-instr.ensures c.operand_count-count.result c.operand_count-count.ensures)
    c.go_on.ensures.spawn
