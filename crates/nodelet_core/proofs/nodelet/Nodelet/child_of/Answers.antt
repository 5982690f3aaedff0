use Rattle.std.proofs.Common.{◌≡◌, ◌≤◌, ◌<◌, ◌-◌, ℕ, List, ℤ, Option, Some, None, refl, sym, ap, ◌∙◌, arith, length, subst, true}
use Rattle.std.specs.Prelude.{slice_get}
use Rattle.world_model.specs.Action as act
use Rattle.world_model.specs.Action.{Action}
use Rattle.threadlet_code.specs.declared.code.Code.{Code}
use Rattle.threadlet_code.specs.Machine.{State, step}
use Rattle.threadlet_code.specs.Running.{started, owed}
use Rattle.threadlet_state.specs.declared.context.Context as carried
use Rattle.threadlet_state.specs.Activations.{state_of}
use Rattle.threadlet_state.specs.Fit.{frames_fit}
use Rattle.threadlet_state.proofs.FrameLaws.{frames_as_state}
use Rattle.nodelet_core.specs.Carried.{context_in}
use Rattle.core_model.specs.Effects as effects
use Rattle.nodelet_core.specs.Kept.{node_of, setup_of}
use Rattle.nodelet_core.specs.code.Dues.{due_of}
use Rattle.nodelet_core.specs.code.Doing.{IsChild}
use Rattle.nodelet_core.proofs.Seeing.{some_frames, few_frames, owed_is}
use Rattle.nodelet_core.proofs.Bearing.{takes_args, if_ok, child_is}
use Rattle.nodelet_core.proofs.nodelet.Nodelet.child_of.Goals as goal

pub handed_by-handed-requires : goal.handed_by-handed-requires
handed_by-handed-requires c = record { fits = c.requires.due.1.stands.fits }

pub overflow_cast-ticket : goal.overflow_cast-ticket
overflow_cast-ticket c = omega (arith, c.len-depth.ensures, few_frames c.args.code.now.code c.args.context.now.frames c.requires.due.1.stands.fits)

pub overflow_sub-depth : goal.overflow_sub-depth
overflow_sub-depth c = omega (arith, c.len-depth.ensures, some_frames c.args.code.now.code c.args.context.now.frames c.requires.due.1.stands.fits)

pub at-requires : goal.at-requires
at-requires c = omega (arith, c.len-depth.ensures, some_frames c.args.code.now.code c.args.context.now.frames c.requires.due.1.stands.fits)

pub next_name-requires : goal.next_name-requires
next_name-requires c = record { stamp = c.requires.due.1.stands.stamp }

pub started-requires : goal.started-requires
started-requires c =
    let code : Code = c.args.code.now.code in
    let frames = c.args.context.now.frames in
    let is = c.requires.due.1 in
    let hands = c.handed_by-handed.ensures is.action c.requires.due.0 is.comes is.decides in
    record {
      args = takes_args code c.args.code.now.sound (state_of code frames) (frames_as_state code c.args.code.now.sound frames is.stands.fits).0
          (length frames) c.handed_by-handed.result.function c.handed_by-handed.result.words.now hands.0 (is.comes ∙ ap Some hands.1);
    }

pub returns : goal.returns
returns c =
    let code : Code = c.args.code.now.code in
    let v = c.args.self.now in
    let x = c.args.context.now in
    let state : State = state_of code x.frames in
    let is = c.requires.due.1 in
    let handed = c.handed_by-handed.result in
    let ordered : length c.at.result.now.targets ≡ owed (length x.frames) state =
    sym (owed_is code x.frames c.len-depth.result c.len-depth.ensures (omega (arith, c.len-depth.ensures, some_frames code x.frames is.stands.fits)) c.at.result.now c.at.ensures) in
    let born : (child : carried.Context) →
    child ≡ record { name = c.next_name.result; home = c.args.home; place = c.args.home; ticket = Some (record { parent = x.name; home = x.home; depth = c.len-depth.result; order = c.len.result }); frames = child.frames; late = None } →
    state_of code child.frames ≡ started handed.function (slice_get code.functions handed.function) handed.words.now →
    frames_fit code child.frames ≡ true → IsChild code v x c.args.home child = λ child rest begun fits. record {
      is = λ action d function args hint comes spawns.
          let hands = c.handed_by-handed.ensures action c.requires.due.0 comes (let same : action ≡ is.action = cc in ap due_of same ∙ is.decides) in
          let whole : act.Spawn (length x.frames) handed.function handed.words.now hands.0 ≡ act.Spawn d function args hint = sym hands.1 ∙ spawns in
          let deep : length x.frames ≡ d = cc in
          let same_function : handed.function ≡ function = cc in
          let same_args : handed.words.now ≡ args = cc in
          child_is code v x child c.args.home c.next_name.result c.len-depth.result c.len.result handed.function handed.words.now rest begun (c.next_name.ensures code) c.len-depth.ensures (c.len.ensures ∙ ordered)
          ∙ ap (λ i. effects.child_of (setup_of code v) v.number (node_of code v) (context_in code x) state i handed.function handed.words.now c.args.home) deep
          ∙ ap (λ i. effects.child_of (setup_of code v) v.number (node_of code v) (context_in code x) state d i handed.words.now c.args.home) same_function
          ∙ ap (λ i. effects.child_of (setup_of code v) v.number (node_of code v) (context_in code x) state d function i c.args.home) same_args;
      fits = fits;
    } in
    if_ok c.started.result _ _ _ (IsChild code v x c.args.home) born c.started.ensures.rest c.started.ensures.state c.started.ensures.fits
