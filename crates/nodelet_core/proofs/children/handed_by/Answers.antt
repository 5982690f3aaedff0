use Rattle.std.proofs.Common.{◌≡◌, ◌≤◌, ℕ, suc, Option, Some, None, sym, ap, ◌∙◌, arith, length, true}
use Rattle.std.specs.Prelude.{slice_get, option_map, option_and_then}
use Rattle.world_model.specs.Action as act
use Rattle.threadlet_code.specs.declared.instr.Instr.TheVariants as by
use Rattle.threadlet_code.specs.declared.code.FuncCode.{FuncCode}
use Rattle.threadlet_code.specs.declared.code.Code.{Code}
use Rattle.threadlet_code.specs.Naming.{function_named}
use Rattle.threadlet_code.specs.Operands.{operands, params_of, hint_operands}
use Rattle.threadlet_code.specs.Machine.{place_in, step}
use Rattle.threadlet_code.proofs.Kept.{keeps_rules}
use Rattle.threadlet_state.specs.Activations.{activation, state_of}
use Rattle.threadlet_state.specs.Fit.{frames_fit}
use Rattle.threadlet_state.proofs.Here.{deepest, function_there, place_there, step_is, laid, under, enough, depth_is}
use Rattle.core_model.specs.Runs.{action_in}
use Rattle.nodelet_core.proofs.Bearing.{hint_more, is_spawn, spawn_hands, no_spawn}
use Rattle.nodelet_core.proofs.children.handed_by.Goals as goal

pub at-f-requires : goal.at-f-requires
at-f-requires c =
    let fits = ap (λ t. frames_fit t c.args.context.now.frames) c.code-text.ensures.code ∙ c.requires.fits in
    let d = deepest c.code-text.result.now c.code-text.ensures.sound c.args.context.now.frames fits c.len.result c.len.ensures c.at-frame.result.now c.at-frame.ensures in
    function_there d

pub at-requires : goal.at-requires
at-requires c =
    let fits = ap (λ t. frames_fit t c.args.context.now.frames) c.code-text.ensures.code ∙ c.requires.fits in
    let d = deepest c.code-text.result.now c.code-text.ensures.sound c.args.context.now.frames fits c.len.result c.len.ensures c.at-frame.result.now c.at-frame.ensures in
    place_there d c.at-f.result.now c.at-f.ensures

pub at-requires-in-Spawn : goal.at-requires-in-Spawn
at-requires-in-Spawn c =
    let text = c.code-text.result.now in
    let frame = c.at-frame.result.now in
    let f = c.at-f.result.now in
    (keeps_rules text c.code-text.ensures.sound frame.function f c.at-f.ensures).functions frame.at c.in-Spawn.function
    (ap (option_and_then function_named) (c.at.ensures ∙ ap Some c.in-Spawn.is))

pub top_words-requires-clause-laid : goal.top_words-requires-clause-laid
top_words-requires-clause-laid c =
    let fits = ap (λ t. frames_fit t c.args.context.now.frames) c.code-text.ensures.code ∙ c.requires.fits in
    let d = deepest c.code-text.result.now c.code-text.ensures.sound c.args.context.now.frames fits c.len.result c.len.ensures c.at-frame.result.now c.at-frame.ensures in
    laid d c.at-f.result.now c.at-f.ensures

pub top_words-requires-clause-enough : goal.top_words-requires-clause-enough
top_words-requires-clause-enough c =
    let fits = ap (λ t. frames_fit t c.args.context.now.frames) c.code-text.ensures.code ∙ c.requires.fits in
    let d = deepest c.code-text.result.now c.code-text.ensures.sound c.args.context.now.frames fits c.len.result c.len.ensures c.at-frame.result.now c.at-frame.ensures in
    let hinted = c.in-Spawn.hinted in
    let params = c.at-in-Spawn.result.now.params in
    let counted : operands c.code-text.result.now (by.Spawn c.in-Spawn.function c.in-Spawn.target hinted) ≡ Some (hint_operands hinted params) =
    ap (λ (o : Option FuncCode). option_map (hint_operands hinted) (option_map (λ (h : FuncCode). h.params) o)) c.at-in-Spawn.ensures in
    let all : hint_operands hinted params ≤ c.at-frame.result.now.top =
    enough d c.at-f.result.now c.at-f.ensures (by.Spawn c.in-Spawn.function c.in-Spawn.target hinted) (c.at.ensures ∙ ap Some c.in-Spawn.is) (hint_operands hinted params) counted in
    omega (arith, all, hint_more hinted params)

pub returns-in-Spawn : goal.returns-in-Spawn
returns-in-Spawn c = λ action hint comes decides.
    let text : Code = c.code-text.result.now in
    let frames = c.args.context.now.frames in
    let fits = ap (λ t. frames_fit t frames) c.code-text.ensures.code ∙ c.requires.fits in
    let d = deepest text c.code-text.ensures.sound frames fits c.len.result c.len.ensures c.at-frame.result.now c.at-frame.ensures in
    let frame = c.at-frame.result.now in
    let f = c.at-f.result.now in
    let instr = by.Spawn c.in-Spawn.function c.in-Spawn.target c.in-Spawn.hinted in
    let h = c.at-in-Spawn.result.now in
    let there = step_is d f c.at-f.ensures instr (c.at.ensures ∙ ap Some c.in-Spawn.is) in
    let hands = spawn_hands text (place_in f frame.at) (activation f.slots frame) (under d) c.in-Spawn.function c.in-Spawn.target c.in-Spawn.hinted h.params c.top_words.result.now _
    (ap (option_map (λ (k : FuncCode). k.params)) c.at-in-Spawn.ensures) c.top_words.ensures.took action
    (sym (ap action_in there) ∙ ap (λ (t : Code). action_in (step t (state_of t frames))) c.code-text.ensures.code ∙ comes) in
    (hands.0, hands.1 ∙ ap (λ n. act.Spawn n c.in-Spawn.function c.top_words.result.now hands.0) (sym (depth_is d)))

pub returns-in_default : goal.returns-in_default
returns-in_default c = λ action hint comes decides.
    let text : Code = c.code-text.result.now in
    let frames = c.args.context.now.frames in
    let fits = ap (λ t. frames_fit t frames) c.code-text.ensures.code ∙ c.requires.fits in
    let d = deepest text c.code-text.ensures.sound frames fits c.len.result c.len.ensures c.at-frame.result.now c.at-frame.ensures in
    let frame = c.at-frame.result.now in
    let f = c.at-f.result.now in
    let there = step_is d f c.at-f.ensures c.at.result.now c.at.ensures in
    let s = is_spawn action hint decides in
    absurd (no_spawn text (place_in f frame.at) (activation f.slots frame) (under d) c.at.result.now c.in_default.not-Spawn s.0 s.1 s.2 s.3
    (sym (ap action_in there) ∙ ap (λ (t : Code). action_in (step t (state_of t frames))) c.code-text.ensures.code ∙ comes ∙ ap Some s.4))
