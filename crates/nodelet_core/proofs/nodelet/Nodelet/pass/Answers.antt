use Rattle.std.proofs.Common.{◌≡◌, ℕ, suc, ℤ, List, true, refl}
use Rattle.threadlet_code.specs.declared.code.Code.{Code}
use Rattle.threadlet_code.specs.Machine.{State}
use Rattle.threadlet_state.specs.Activations.{state_of}
use Rattle.nodelet_core.specs.declared.nodelet.Nodelet.{Nodelet}
use Rattle.nodelet_core.specs.declared.due.Due.{Due}
use Rattle.nodelet_core.specs.declared.due.Due.TheVariants as due
use Rattle.core_model.specs.Contexts.{Context}
use Rattle.nodelet_core.specs.Carried.{context_in}
use Rattle.core_model.specs.Effects.{nothing, effect}
use Rattle.nodelet_core.specs.code.Dues.{asked}
use Rattle.nodelet_core.specs.Kept.{node_of, setup_of}
use Rattle.nodelet_core.specs.code.Doing.{PassesWith}
use Rattle.nodelet_core.proofs.Resuming.{is_answered, is_whole, stands_before}
use Rattle.nodelet_core.proofs.Stamps.{nothing_sent}
use Rattle.nodelet_core.proofs.Doing.{Leaves, had_whole, nothing_counted, did_nothing}
use Rattle.nodelet_core.proofs.nodelet.Nodelet.pass.Goals as goal

module _ (v : Nodelet) where
  -- An action that passes is answered, and told whole.
  passes_answered : (d : Due) (words : List ℤ) → PassesWith v d words → is_answered d ≡ true
  passes_answered due.Fence words p = refl
  passes_answered (due.Move at a) words p = refl
  passes_answered due.Where words p = refl
  passes_answered (due.Load at a) words p = refl
  passes_answered other words p = absurd p

  passes_whole : (d : Due) (words : List ℤ) → PassesWith v d words → is_whole d ≡ true
  passes_whole due.Fence words p = refl
  passes_whole (due.Move at a) words p = refl
  passes_whole due.Where words p = refl
  passes_whole (due.Load at a) words p = refl
  passes_whole other words p = absurd p

  -- It leaves the nodelet as it is.
  passes : (code : Code) (x : Context) (state : State) (stamp : ℕ) (d : Due) (words : List ℤ) → PassesWith v d words →
      Leaves v.nodelets v.number stamp nothing_counted (node_of code v) words nothing (effect (setup_of code v) v.number (node_of code v) x state (asked d))
  passes code x state stamp due.Fence words p = record { node = refl; answer = p; bodies = refl }
  passes code x state stamp (due.Move at a) words p = record { node = refl; answer = p; bodies = refl }
  passes code x state stamp due.Where words p = record { node = refl; answer = p; bodies = refl }
  passes code x state stamp (due.Load at a) words p = record { node = refl; answer = p; bodies = refl }
  passes code x state stamp other words p = absurd p

pub answer-requires : goal.answer-requires
answer-requires c = record {
  asked = stands_before c.args.code.now.code c.args.self.now c.args.context c.args.due c.requires.due
      (passes_answered c.args.self.now c.args.due c.args.words.now c.requires.passes);
}

pub returns-clause-ok : goal.returns-clause-ok
returns-clause-ok c = λ sent.
    let v = c.args.self.now in
    let words = c.args.words.now in
    had_whole c.args.code.now.code v v c.go_on.new.self c.args.context c.answer.new.context (λ v. v) _ nothing_counted words nothing sent sent
    c.args.due (passes_answered v c.args.due words c.requires.passes) (passes_whole v c.args.due words c.requires.passes)
    (record {
      did = did_nothing v;
      keeps_stamp = refl;
      counts = c.nothing.ensures;
      became = c.go_on.ensures;
      same = c.answer.ensures.kept;
      answered = c.in_ok-answer.ensures.ok;
      sent = nothing_sent _ _ _ _ sent;
    })
    (passes v c.args.code.now.code (context_in c.args.code.now.code c.args.context) (state_of c.args.code.now.code c.args.context.frames) (suc v.stamp) c.args.due words c.requires.passes)
