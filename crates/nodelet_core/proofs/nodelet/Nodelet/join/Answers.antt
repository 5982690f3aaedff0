use Rattle.std.proofs.Common.{◌≡◌, ◌≤◌, ◌<◌, ◌-◌, ℕ, suc, List, [], ◌∷◌, Bool, true, false, ℤ, Option, Some, None, refl, sym, ap, ◌∙◌, arith, length, subst}
use Rattle.std.specs.Prelude.{slice_get, is_some}
use Rattle.world_model.specs.Action.{Action, Sync}
use Rattle.threadlet_code.specs.declared.code.Code.{Code}
use Rattle.threadlet_code.specs.Machine.{State, asks, step}
use Rattle.threadlet_state.specs.Answered.{is_spawn}
use Rattle.threadlet_code.specs.Running.{owed}
use Rattle.threadlet_state.specs.Activations.{state_of}
use Rattle.spawn_tree.specs.Joining.{result_of}
use Rattle.nodelet_core.specs.declared.due.Due.TheVariants as due
use Rattle.nodelet_core.specs.Carried.{context_in}
use Rattle.core_model.specs.Nodes.{Node, without_results}
use Rattle.core_model.specs.Effects.{effect, nothing}
use Rattle.nodelet_core.specs.Kept.{node_of, setup_of}
use Rattle.core_model.specs.Runs.{DoneHere, way_of, sight_at, is_free}
use Rattle.nodelet_core.proofs.Syncing.{sync_depth}
use Rattle.nodelet_core.proofs.Seeing.{some_frames, few_frames, owed_is, state_size}
use Rattle.nodelet_core.proofs.Resuming.{stands_before, comes_asked, is_answered}
use Rattle.nodelet_core.proofs.Doing.{Leaves, had_gone_on, nothing_counted}
use Rattle.nodelet_core.proofs.Stamps.{nothing_sent}
use Rattle.nodelet_core.proofs.Gathering.{is_sync, all_gathered, sync_leaves}
use Rattle.nodelet_core.proofs.nodelet.Nodelet.join.Goals as goal

pub overflow_sub-depth : goal.overflow_sub-depth
overflow_sub-depth c = omega (arith, c.len-depth.ensures, some_frames c.args.code.now.code c.args.context.frames c.requires.due.stands.fits)

pub at-requires : goal.at-requires
at-requires c = omega (arith, c.len-depth.ensures, some_frames c.args.code.now.code c.args.context.frames c.requires.due.stands.fits)

pub overflow_cast-depth : goal.overflow_cast-depth
overflow_cast-depth c = omega (arith, c.len-depth.ensures, few_frames c.args.code.now.code c.args.context.frames c.requires.due.stands.fits)

pub take_results-requires : goal.take_results-requires
take_results-requires c =
    let code : Code = c.args.code.now.code in
    let v = c.args.self.now in
    let x = c.args.context in
    let state : State = state_of code x.frames in
    let is = c.requires.due in
    let s = is_sync is.action is.decides in
    let deep : s.0 ≡ c.len-depth.result = sync_depth code state s.0 (is.comes ∙ ap Some s.1) ∙ state_size code x.frames ∙ sym c.len-depth.ensures in
    let owes : owed s.0 state ≡ c.len-owed.result =
    ap (λ d. owed d state) (deep ∙ c.len-depth.ensures)
    ∙ owed_is code x.frames c.len-depth.result c.len-depth.ensures (omega (arith, c.len-depth.ensures, some_frames code x.frames is.stands.fits)) c.at.result.now c.at.ensures
    ∙ sym c.len-owed.ensures in
    let sight = sight_at v.number (node_of code v) (context_in code x) state in
    let free : Bool = is_free v.number (node_of code v) x.ticket is.action in
    λ order less.
    let within : order < owed s.0 state = omega (arith, less, owes) in
    let there = all_gathered v.nodelets v.turns sight s.0 (owed s.0 state) free (λ o. result_of v.joins x.name s.0 o) refl refl
    (ap (λ a. way_of v.nodelets v.turns sight a free) (sym s.1) ∙ is.done_here) order within in
    ap (λ d. is_some (result_of v.joins x.name d order)) (sym deep) ∙ there

pub answer-requires : goal.answer-requires
answer-requires c = record { asked = stands_before c.args.code.now.code c.args.self.now c.args.context due.Sync c.requires.due refl }

pub go_on-requires-clause-stamp : goal.go_on-requires-clause-stamp
go_on-requires-clause-stamp c =
    let same = ap (λ (w : Node). w.stamp) (c.in_ok-results.ensures.ok.node c.args.code.now.code) in
    omega (arith, same, c.requires.due.stands.stamp)

pub returns-clause-ok : goal.returns-clause-ok
returns-clause-ok c = λ sent.
    let code : Code = c.args.code.now.code in
    let v = c.args.self.now in
    let x = c.args.context in
    let state : State = state_of code x.frames in
    let depth = c.len-depth.result in
    let count = c.len-owed.result in
    let words = c.as_slice.result.now in
    let node : Node = node_of code v in
    had_gone_on code v c.take_results.new.self c.go_on.new.self x c.answer.new.context (λ w. without_results w x.name depth count) _ nothing_counted words nothing sent sent due.Sync refl
    (record {
      did = c.in_ok-results.ensures.ok;
      keeps_stamp = refl;
      counts = c.nothing.ensures;
      became = c.go_on.ensures;
      same = c.answer.ensures.kept;
      answered = c.in_ok-answer.ensures.ok;
      sent = nothing_sent _ _ _ _ sent;
    })
    (λ action comes decides.
    let s = is_sync action decides in
    let deep : s.0 ≡ depth = sync_depth code state s.0 (comes ∙ ap Some s.1) ∙ state_size code x.frames ∙ sym c.len-depth.ensures in
    let owes : owed s.0 state ≡ count =
    ap (λ d. owed d state) (deep ∙ c.len-depth.ensures)
    ∙ owed_is code x.frames depth c.len-depth.ensures (omega (arith, c.len-depth.ensures, some_frames code x.frames c.requires.due.stands.fits)) c.at.result.now c.at.ensures
    ∙ sym c.len-owed.ensures in
    subst (λ a. Leaves v.nodelets v.number (suc v.stamp) nothing_counted (without_results node x.name depth count) words nothing
    (effect (setup_of code v) v.number node (context_in code x) state a)) (sym s.1)
    (sync_leaves v.nodelets v.number (suc v.stamp) node x.name depth count s.0 (owed s.0 state) words (sym deep) (sym owes) (c.as_slice.ensures ∙ c.in_ok-results.ensures.results code)))

pub returns-in_err-answer-clause-err : goal.returns-in_err-answer-clause-err
returns-in_err-answer-clause-err c =
    let code : Code = c.args.code.now.code in
    let is = c.requires.due in
    let comes = comes_asked code (state_of code c.args.context.frames) is.action is.comes (ap is_answered is.decides) in
    absurd (let wrong : false ≡ true =
    sym (ap is_spawn comes.1 ∙ ap (λ a. is_spawn (asks a comes.0)) (is_sync is.action is.decides).1) ∙ c.in_err-answer.ensures.spawn in cc)
