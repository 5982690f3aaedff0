use Rattle.std.proofs.Common.{◌≡◌, [], true, suc, Some, refl, sym, subst}
use Rattle.world_model.specs.Action as act
use Rattle.world_model.specs.Action.{Action}
use Rattle.threadlet_code.specs.Machine.{step}
use Rattle.nodelet_core.specs.code.Dues.{due_of}
use Rattle.core_model.specs.Runs.{action_in}
use Rattle.threadlet_state.specs.Activations.{state_of}
use Rattle.nodelet_core.specs.declared.due.Due.TheVariants as due
use Rattle.nodelet_core.specs.Carried.{context_in}
use Rattle.core_model.specs.Nodes.{with_piece}
use Rattle.core_model.specs.Effects.{nothing, effect}
use Rattle.nodelet_core.specs.Kept.{node_of, setup_of}
use Rattle.nodelet_core.proofs.Resuming.{stands_before}
use Rattle.nodelet_core.proofs.Stamps.{nothing_sent, did_before_last}
use Rattle.nodelet_core.proofs.Doing.{Leaves, had_gone_on, nothing_counted}
use Rattle.nodelet_core.proofs.nodelet.Nodelet.print.Goals as goal

pub answer-requires : goal.answer-requires
answer-requires c = record { asked = stands_before c.args.code.now.code c.args.self.now c.args.context due.Print c.requires.due refl }

pub go_on-requires-clause-stamp : goal.go_on-requires-clause-stamp
go_on-requires-clause-stamp c =
    did_before_last c.args.code.now.code (λ w. with_piece w c.in_ok-piece.piece)
    c.args.self.now c.keep_piece.new.self c.in_ok-keep_piece.ensures.ok refl c.requires.due.stands.stamp

pub returns-clause-ok : goal.returns-clause-ok
returns-clause-ok c = λ sent.
    let code = c.args.code.now.code in
    let v = c.args.self.now in
    let x = c.args.context in
    let piece = c.in_ok-piece.piece in
    let told : (action : Action) → action_in (step code (state_of code x.frames)) ≡ Some action → due_of action ≡ due.Print → action ≡ act.Print piece =
    subst (λ k. (action : Action) → action_in (step k (state_of k x.frames)) ≡ Some action → due_of action ≡ due.Print → action ≡ act.Print piece) c.code.ensures.code c.in_ok-piece.ensures in
    had_gone_on code v c.keep_piece.new.self c.go_on.new.self x c.answer.new.context (λ w. with_piece w piece) c.nothing.result nothing_counted [] nothing sent sent due.Print refl
    (record {
      did = c.in_ok-keep_piece.ensures.ok;
      keeps_stamp = refl;
      counts = c.nothing.ensures;
      became = c.go_on.ensures;
      same = c.answer.ensures.kept;
      answered = c.in_ok-answer.ensures.ok;
      sent = nothing_sent _ _ _ _ sent;
    })
    (λ action comes decides.
    subst (λ a. Leaves v.nodelets v.number (suc v.stamp) nothing_counted (with_piece (node_of code v) piece) [] nothing
    (effect (setup_of code v) v.number (node_of code v) (context_in code x) (state_of code x.frames) a))
    (sym (told action comes decides)) (record { node = refl; answer = refl; bodies = refl }))
