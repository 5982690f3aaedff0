use Rattle.std.proofs.Common.{◌≡◌, ℕ, suc, Option, Some, None, refl, sym, ap, ◌∙◌, subst, true, arith, ◌<◌}
use Rattle.std.specs.Prelude.{is_some}
use Rattle.word_ops.specs.declared.place.Pos.{Pos}
use Rattle.word_ops.specs.declared.ending.TrapKind.TheVariants.{OutOfBounds}
use Rattle.world_model.specs.Action.{Action}
use Rattle.world_model.specs.Sight.{is_bad}
use Rattle.threadlet_code.specs.declared.code.Code.{Code}
use Rattle.threadlet_state.specs.Fit.{frames_fit}
use Rattle.threadlet_code.specs.Machine.{State, step}
use Rattle.threadlet_state.specs.Activations.{state_of}
use Rattle.nodelet_core.specs.declared.due.Due.{Due}
use Rattle.nodelet_core.specs.declared.sight.Way as coded
use Rattle.nodelet_core.specs.declared.sight.Way.TheVariants as way
use Rattle.nodelet_core.specs.code.Dues.{due_of, asked, way_seen}
use Rattle.nodelet_core.specs.Carried.{context_in}
use Rattle.core_model.specs.Nodes.{moved_from}
use Rattle.core_model.specs.Runs.{Outcome, action_in, by_way, done_here, outside, trapped, sent_whole, sight_at, is_free}
use Rattle.nodelet_core.specs.Kept.{node_of, setup_of}
use Rattle.nodelet_core.specs.code.Doing.{Left, HadEffect}
use Rattle.nodelet_core.proofs.Found.{both, home_among}
use Rattle.nodelet_core.proofs.Doing.{trap_left}
use Rattle.nodelet_core.proofs.Followed.{on_ok, place_among, bad_is, is_outside, is_inside, done_ready, sent_linked, left_as, stay_left}
use Rattle.nodelet_core.proofs.nodelet.Nodelet.follow.Goals as goal

pub send_whole-requires-clause-linked : goal.send_whole-requires-clause-linked
send_whole-requires-clause-linked g c =
    let v = c.args.self.now in
    let x = c.args.context in
    let code = c.args.code.now.code in
    let w = c.requires.way in
    sent_linked v.nodelets v.turns (sight_at v.number (node_of code v) (context_in code x) (state_of code x.frames)) w.action (is_free v.number (node_of code v) x.ticket w.action)
    (omega (arith, v.here)) v.here (home_among v.nodelets x c.requires.stands.among) c.in-SentTo.nodelet (w.is ∙ ap way_seen c.in-SentTo.is)

pub send_whole-requires-clause-reaches : goal.send_whole-requires-clause-reaches
send_whole-requires-clause-reaches g c = c.requires.reaches c.in-SentTo.nodelet (send_whole-requires-clause-linked g c)

pub returns-in-Waits-clause-ok : goal.returns-in-Waits-clause-ok
returns-in-Waits-clause-ok g c = λ action silent left comes decides leads.
    let v = c.args.self.now in
    let x = c.args.context in
    let code = c.args.code.now.code in
    let state : State = state_of code x.frames in
    stay_left code v c.stay.new.self x state _ silent left c.requires.stands.fits refl c.stay.ensures
    (ap (λ (k : coded.Way). by_way (setup_of code v) v.number (node_of code v) (context_in code x) state silent (step code state) action (way_seen k)) (sym c.in-Waits.is) ∙ leads)

pub returns-in-Refused-clause-ok : goal.returns-in-Refused-clause-ok
returns-in-Refused-clause-ok g c = λ action silent left comes decides leads.
    let v = c.args.self.now in
    let x = c.args.context in
    let code = c.args.code.now.code in
    let state : State = state_of code x.frames in
    let kind = c.in-Refused.kind in
    let at = c.in-Refused.pos in
    let is : Some (trapped (node_of code v) x.name (suc silent) kind at) ≡ Some left =
    ap (λ (k : coded.Way). by_way (setup_of code v) v.number (node_of code v) (context_in code x) state silent (step code state) action (way_seen k)) (sym c.in-Refused.is) ∙ leads in
    subst (Left code (suc v.stamp) v c.trap.new.self _ _) (let z = is in cc) (trap_left code v c.trap.new.self x.name kind at None _ (suc silent) c.trap.ensures)

pub is_outside-requires : goal.is_outside-requires
is_outside-requires g c =
    let v = c.args.self.now in
    let x = c.args.context in
    let code = c.args.code.now.code in
    let w = c.requires.way in
    let sight = sight_at v.number (node_of code v) (context_in code x) (state_of code x.frames) in
    record {
      good = ap (λ (d : Due). is_bad v.nodelets (asked d)) (sym w.decides)
          ∙ bad_is v.nodelets w.action
          ∙ (done_ready v.nodelets v.turns sight w.action (is_free v.number (node_of code v) x.ticket w.action) (w.is ∙ ap way_seen c.in-DoneHere.is)).0;
    }

pub returns-in-DoneHere-clause-ok : goal.returns-in-DoneHere-clause-ok
returns-in-DoneHere-clause-ok g c = λ action silent left comes decides leads.
    let v = c.args.self.now in
    let x = c.args.context in
    let code = c.args.code.now.code in
    let state : State = state_of code x.frames in
    let m = setup_of code v in
    let node = node_of code v in
    let at = c.pos_of.result in
    let out : outside m v.number node action ≡ Some at =
    is_outside m v.number node action c.args.due decides (sym (c.is_outside.ensures code) ∙ c.if-is_outside.true) ∙ ap Some (sym c.pos_of.ensures) in
    let is : Some (trapped (moved_from v.number x.place node) x.name (suc silent) OutOfBounds at) ≡ Some left =
    ap (done_here m v.number node (context_in code x) state (suc silent) (step code state)) (sym out)
    ∙ ap (λ (k : coded.Way). by_way m v.number node (context_in code x) state silent (step code state) action (way_seen k)) (sym c.in-DoneHere.is) ∙ leads in
    subst (Left code (suc v.stamp) v c.trap-in-DoneHere.new.self _ _) (let z = is in cc)
    (trap_left code v c.trap-in-DoneHere.new.self x.name OutOfBounds at (Some x.place) _ (suc silent) c.trap-in-DoneHere.ensures)

pub effect-requires-clause-due : goal.effect-requires-clause-due
effect-requires-clause-due g c =
    let w = c.requires.way in
    record { stands = c.requires.stands; action = w.action; comes = w.comes; decides = w.decides; done_here = w.is ∙ ap way_seen c.in-DoneHere.is }

pub returns-in-DoneHere-2-clause-ok : goal.returns-in-DoneHere-2-clause-ok
returns-in-DoneHere-2-clause-ok g c =
    let v = c.args.self.now in
    let x = c.args.context in
    let code = c.args.code.now.code in
    let state : State = state_of code x.frames in
    let m = setup_of code v in
    let node = node_of code v in
    on_ok c.effect.result (HadEffect code v c.effect.new.self (g.O.Outlet.sent c.args.out.now) (g.O.Outlet.sent c.effect.new.out) x c.args.due) _ (λ had action silent left comes decides leads.
    had action (suc silent) left comes decides (
    ap (done_here m v.number node (context_in code x) state (suc silent) (step code state))
    (sym (is_inside m v.number node action c.args.due decides (sym (c.is_outside.ensures code) ∙ c.if-is_outside.false)))
    ∙ ap (λ (k : coded.Way). by_way m v.number node (context_in code x) state silent (step code state) action (way_seen k)) (sym c.in-DoneHere.is) ∙ leads)) c.effect.ensures.ok

pub stay-requires : goal.stay-requires
stay-requires g c = record { stamp = c.requires.stands.stamp; here = c.requires.stands.here; among = c.requires.stands.among }

pub trap-requires : goal.trap-requires
trap-requires g c = record { stamp = c.requires.stands.stamp; from = λ i e. absurd (let wrong : None ≡ Some i = e in cc) }

pub trap-requires-in-DoneHere : goal.trap-requires-in-DoneHere
trap-requires-in-DoneHere g c = record {
  stamp = c.requires.stands.stamp;
  from = λ i e. let same : c.args.context.place ≡ i = cc in subst (λ k. k < c.args.self.now.nodelets) same (place_among c.args.self.now.nodelets c.args.context c.requires.stands.among);
}

pub effect-requires-clause-reaches : goal.effect-requires-clause-reaches
effect-requires-clause-reaches g c = c.requires.reaches

pub send_whole-requires-clause-stamp : goal.send_whole-requires-clause-stamp
send_whole-requires-clause-stamp g c = c.requires.stands.stamp

pub returns-in-SentTo-clause-ok : goal.returns-in-SentTo-clause-ok
returns-in-SentTo-clause-ok g c =
    let v = c.args.self.now in
    let x = c.args.context in
    let code = c.args.code.now.code in
    let state : State = state_of code x.frames in
    let k = c.in-SentTo.nodelet in
    let y = context_in code x in
    let node = node_of code v in
    let before = g.O.Outlet.sent c.args.out.now in
    let after = g.O.Outlet.sent c.send_whole.new.out in
    on_ok c.send_whole.result ((text : Code) → frames_fit text x.frames ≡ true → Left text (suc v.stamp) v c.send_whole.new.self before after
    (sent_whole (node_of text v) (context_in text x) (state_of text x.frames) 0 k)) _ (λ sent action silent left comes decides leads.
    let is : Some (sent_whole node y state (suc silent) k) ≡ Some left =
    ap (λ (w : coded.Way). by_way (setup_of code v) v.number node y state silent (step code state) action (way_seen w)) (sym c.in-SentTo.is) ∙ leads in
    subst (Left code (suc v.stamp) v c.send_whole.new.self before after) (let z = is in cc)
    (left_as code (suc v.stamp) v c.send_whole.new.self before after _ (sent_whole node y state (suc silent) k) refl refl (sent code c.requires.stands.fits))) c.send_whole.ensures.ok

pub returns-in-SentTo-clause-err : goal.returns-in-SentTo-clause-err
returns-in-SentTo-clause-err g c = c.send_whole.ensures.err

pub returns-in-SentTo-clause-not_sent : goal.returns-in-SentTo-clause-not_sent
returns-in-SentTo-clause-not_sent g c = c.send_whole.ensures.not_sent

pub returns-in-DoneHere-2-clause-err : goal.returns-in-DoneHere-2-clause-err
returns-in-DoneHere-2-clause-err g c = c.effect.ensures.err

pub returns-in-DoneHere-2-clause-not_sent : goal.returns-in-DoneHere-2-clause-not_sent
returns-in-DoneHere-2-clause-not_sent g c = c.effect.ensures.not_sent
