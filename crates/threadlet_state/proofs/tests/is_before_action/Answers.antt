use Rattle.std.proofs.Common.{◌≡◌, sym, subst, ⊎_elim, refl, true, false}
use Rattle.threadlet_code.specs.declared.code.Code.{Code}
use Rattle.threadlet_code.specs.declared.instr.Instr.{Instr}
use Rattle.threadlet_code.specs.Machine.{step}
use Rattle.threadlet_state.specs.Activations.{state_of}
use Rattle.threadlet_state.specs.Answered.{is_asked}
use Rattle.threadlet_state.specs.Fit.{frames_fit}
use Rattle.threadlet_state.specs.Silent.{stays}
use Rattle.threadlet_state.proofs.Here.{deepest, function_there, place_there}
use Rattle.threadlet_state.proofs.Resumed.{asks_there}
use Rattle.threadlet_state.proofs.Rooms.{moves_frames}
use Rattle.threadlet_state.proofs.tests.is_before_action.Goals as goal

pub at-f-requires : goal.at-f-requires
at-f-requires c =
    let text = c.code-text.result.now in
    let frames = c.args.context.now.frames in
    let fits : frames_fit text frames ≡ true = subst (λ (t : Code). frames_fit t frames ≡ true) (sym c.code-text.ensures.code) c.requires in
    function_there (deepest text c.code-text.ensures.sound frames fits c.len.result c.len.ensures c.at-frame.result.now c.at-frame.ensures)

pub at-requires : goal.at-requires
at-requires c =
    let text = c.code-text.result.now in
    let frames = c.args.context.now.frames in
    let fits : frames_fit text frames ≡ true = subst (λ (t : Code). frames_fit t frames ≡ true) (sym c.code-text.ensures.code) c.requires in
    place_there (deepest text c.code-text.ensures.sound frames fits c.len.result c.len.ensures c.at-frame.result.now c.at-frame.ensures) c.at-f.result.now c.at-f.ensures

-- It is neither silent nor a call nor a return.
IsAction : Instr → Type 0
IsAction instr = (stays instr ≡ false) × (moves_frames instr ≡ false)

pub returns-in-Turn : goal.returns-in-Turn
unfolding IsAction
returns-in-Turn c so =
    let text = c.code-text.result.now in
    let frames = c.args.context.now.frames in
    let fits : frames_fit text frames ≡ true = subst (λ (t : Code). frames_fit t frames ≡ true) (sym c.code-text.ensures.code) c.requires in
    let d = deepest text c.code-text.ensures.sound frames fits c.len.result c.len.ensures c.at-frame.result.now c.at-frame.ensures in
    let acts : IsAction c.at.result.now =
    ⊎_elim (λ e. subst IsAction (sym e) (refl, refl)) (λ others. ⊎_elim (λ e. subst IsAction (sym e) (refl, refl)) (λ rest.
    ⊎_elim (λ e. subst IsAction (sym e.3) (refl, refl)) (λ e. subst IsAction (sym e) (refl, refl)) rest) others) c.in-Turn.is in
    subst (λ (t : Code). is_asked (step t (state_of t frames)) ≡ true) c.code-text.ensures.code
    (asks_there d c.at-f.result.now c.at-f.ensures c.at.result.now c.at.ensures acts.0 acts.1)
