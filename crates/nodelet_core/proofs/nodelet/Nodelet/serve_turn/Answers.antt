use Rattle.std.proofs.Common.{ap, refl, [], true}
use Rattle.nodelet_core.specs.declared.due.Due.TheVariants as due
use Rattle.nodelet_core.specs.declared.counting.Counted.{Counted}
use Rattle.core_model.specs.Effects.{nothing}
use Rattle.nodelet_core.proofs.Resuming.{stands_before}
use Rattle.nodelet_core.proofs.Stamps.{nothing_sent}
use Rattle.nodelet_core.proofs.Doing.{had_whole, nothing_counted, did_nothing}
use Rattle.nodelet_core.proofs.nodelet.Nodelet.serve_turn.Goals as goal

pub answer-requires : goal.answer-requires
answer-requires c = record { asked = stands_before c.args.code.now.code c.args.self.now c.args.context due.Turn c.requires.due refl }

pub returns-clause-ok : goal.returns-clause-ok
returns-clause-ok c = λ sent.
    had_whole c.args.code.now.code c.args.self.now c.args.self.now c.go_on.new.self c.args.context c.answer.new.context
    (λ v. v) _ (record nothing_counted { turn = true }) [] nothing sent sent due.Turn refl refl
    (record {
      did = did_nothing c.args.self.now;
      keeps_stamp = refl;
      counts = ap (λ (k : Counted). let z : Counted = record k { turn = true } in z) c.nothing.ensures;
      became = c.go_on.ensures;
      same = c.answer.ensures.kept;
      answered = c.in_ok-answer.ensures.ok;
      sent = nothing_sent _ _ _ _ sent;
    })
    (record { node = refl; answer = refl; bodies = refl })
