use Rattle.std.proofs.Common.{◌≡◌, ◌<◌, ℕ, suc, List, [], Bool, true, false, Option, Some, None, refl, sym, ap, ◌∙◌, subst, arith}
use Rattle.std.specs.Prelude.{◌==◌, ◌&&◌, nat_lt, option_map}
use Rattle.std.proofs.lemmas.Bool.{eq-eqb}
use Rattle.std.proofs.lemmas.Bool.Decides.{eqb_tells, nat_tests}
use Rattle.world_model.specs.Action as act
use Rattle.world_model.specs.Action.{Action}
use Rattle.world_model.specs.Sight.{is_bad}
use Rattle.threadlet_code.specs.declared.code.Code.{Code}
use Rattle.threadlet_code.specs.Machine.{State, step}
use Rattle.threadlet_state.specs.declared.context.Context as carried
use Rattle.threadlet_state.specs.Activations.{state_of}
use Rattle.nodelet_core.specs.declared.due.Due.{Due}
use Rattle.nodelet_core.specs.declared.due.Due.TheVariants as due
use Rattle.nodelet_core.specs.declared.counting.Counted.{Counted}
use Rattle.core_model.specs.Contexts.{Context, Arrival}
use Rattle.nodelet_core.specs.Carried.{context_in}
use Rattle.nodelet_core.specs.code.Dues.{due_of, asked, hint_of}
use Rattle.core_model.specs.Nodes.{Node, with_strand}
use Rattle.core_model.specs.Effects.{Sends, effect, only_to, nothing}
use Rattle.nodelet_core.specs.Kept.{node_of, setup_of, context_fits}
use Rattle.core_model.specs.Runs.{sight_at, is_free, has_effect, went_on}
use Rattle.core_model.specs.Machine.{stamped_node}
use Rattle.core_model.specs.Takes.{has_home}
use Rattle.nodelet_core.specs.code.Doing.{Left, goes_on_at}
use Rattle.nodelet_core.proofs.Found.{home_among}
use Rattle.nodelet_core.proofs.Followed.{bad_is, done_ready}
use Rattle.nodelet_core.proofs.Resuming.{is_answered, stands_before, comes_asked}
use Rattle.nodelet_core.proofs.Bearing.{is_spawn}
use Rattle.nodelet_core.proofs.Doing.{Leaves, had_gone_on, did_nothing, nothing_counted}
use Rattle.nodelet_core.proofs.Stamps.{sent_from, sent_at}
use Rattle.nodelet_core.proofs.Births.{of_birth, birth_stamp, leaves_here, leaves_away, came_left}
use Rattle.nodelet_core.proofs.nodelet.Nodelet.spawn.Goals as goal

pub birthplace-home-requires : goal.birthplace-home-requires
birthplace-home-requires g c =
    let v = c.args.self.now in
    let x = c.args.context in
    let code = c.args.code.now.code in
    let w = c.requires.due in
    record {
      good = ap (λ (d : Due). is_bad v.nodelets (asked d)) (sym w.decides)
          ∙ bad_is v.nodelets w.action
          ∙ (done_ready v.nodelets v.turns (sight_at v.number (node_of code v) (context_in code x) (state_of code x.frames)) w.action (is_free v.number (node_of code v) x.ticket w.action) w.done_here).0;
    }

pub child_of-requires : goal.child_of-requires
child_of-requires g c = record { due = (c.args.hint, c.requires.due) }

pub answer-requires : goal.answer-requires
answer-requires g c = record { asked = stands_before c.args.code.now.code c.args.self.now c.args.context (due.Spawn c.args.hint) c.requires.due refl }

pub add-requires : goal.add-requires
add-requires g c =
    let n = c.args.self.now.nodelets in
    let x = c.args.context in
    let is = c.requires.due in
    let home = c.birthplace-home.result in
    let s = is_spawn is.action c.args.hint is.decides in
    let child = c.in_ok-child.ensures.is is.action s.0 s.1 s.2 s.3 is.comes s.4 in
    let within : home < n = c.birthplace-home.ensures.within in
    let parent : x.home < n = home_among n x is.stands.among in
    let all : (nat_lt home n && nat_lt home n && nat_lt x.home n) ≡ true = grind (arith, nat_tests) in
    record { among = ap (λ (z : Context). nat_lt z.place n && nat_lt z.home n && has_home n z.ticket) child ∙ all }

pub go_on-requires-clause-stamp : goal.go_on-requires-clause-stamp
go_on-requires-clause-stamp g c =
    let same : c.add.new.self.stamp ≡ c.args.self.now.stamp = ap (λ (w : Node). w.stamp) (c.in_ok-add.ensures.ok.node c.args.code.now.code) in
    omega (arith, same, c.requires.due.stands.stamp)

pub returns-then-home-self-clause-ok : goal.returns-then-home-self-clause-ok
returns-then-home-self-clause-ok g c = λ action count left comes decides had.
    let code : Code = c.args.code.now.code in
    let v = c.args.self.now in
    let x = c.args.context in
    let y = c.answer.new.context in
    let child = c.in_ok-child.child in
    let home = c.birthplace-home.result in
    let hint = c.args.hint in
    let m = setup_of code v in
    let node : Node = node_of code v in
    let state : State = state_of code x.frames in
    let sent = g.O.Outlet.sent c.args.out.now in
    let s = is_spawn action hint decides in
    let whole : due.Spawn (option_map hint_of s.3) ≡ due.Spawn hint = ap due_of (sym s.4) ∙ decides in
    let same : option_map hint_of s.3 ≡ hint = cc in
    let resumes = comes_asked code state action comes (ap is_answered decides) in
    let gives : Some (went_on v.number (context_in code x) count resumes.0 (effect m v.number node (context_in code x) state action)) ≡ Some left =
    sym (ap (has_effect m v.number node (context_in code x) state count) resumes.1) ∙ had in
    let leaves : Leaves v.nodelets v.number (suc v.stamp) (of_birth false hint home) (with_strand node (context_in code child)) [] nothing (effect m v.number node (context_in code x) state action) =
    subst (λ a. Leaves v.nodelets v.number (suc v.stamp) (of_birth false hint home) (with_strand node (context_in code child)) [] nothing (effect m v.number node (context_in code x) state a)) (sym s.4)
    (leaves_here m v.number (suc v.stamp) node (context_in code x) state s.0 s.1 s.2 s.3 hint home same c.birthplace-home.ensures.place (eq-eqb home v.number c.if-home-self.true)
    (context_in code child) (c.in_ok-child.ensures.is action s.0 s.1 s.2 s.3 comes s.4)) in
    let counts = ap (λ (k : Counted). let z : Counted = record k { spawned = true; bore_at = c.hinted_to.result } in z) c.nothing.ensures
    ∙ ap (λ b. let z : Counted = record nothing_counted { spawned = true; bore_at = b } in z) c.hinted_to.ensures in
    let answered = c.in_ok-answer.ensures.ok in
    subst (Left code (suc v.stamp) v c.go_on.new.self sent sent) (let z = gives in cc)
    (came_left code v c.add.new.self c.go_on.new.self x y child _ (of_birth false hint home) sent c.in_ok-add.ensures.ok c.go_on.ensures counts c.answer.ensures.kept answered.fits
    c.in_ok-child.ensures.fits resumes.0 (answered.resumes action resumes.0 resumes.1) count (effect m v.number node (context_in code x) state action) leaves)

pub returns-clause-ok : goal.returns-clause-ok
returns-clause-ok g c =
    let code : Code = c.args.code.now.code in
    let v = c.args.self.now in
    let x = c.args.context in
    let y = c.answer.new.context in
    let after = c.go_on-2.new.self in
    let child = c.in_ok-child-2.child in
    let boxed : child ≡ c.in_ok-child.child = c.in_ok-child-2.ensures.ok in
    let home = c.birthplace-home.result in
    let hint = c.args.hint in
    let node : Node = node_of code v in
    let state : State = state_of code x.frames in
    let before = g.O.Outlet.sent c.args.out.now in
    let later = g.O.Outlet.sent c.send.new.out in
    let sends : Sends = only_to home (Arrival (context_in code child)) in
    let apart = c.if-home-self.false in
    let other : (home == v.number) ≡ false = grind (arith, eqb_tells) in
    let counts = ap (λ (k : Counted). let z : Counted = record k { sent_away = true; spawned = true; bore_at = c.hinted_to.result } in z) c.nothing.ensures
    ∙ ap (λ b. let z : Counted = record nothing_counted { sent_away = true; spawned = true; bore_at = b } in z) c.hinted_to.ensures in
    let stamp : after.stamp ≡ suc v.stamp =
    ap (λ (w : Node). w.stamp) (c.go_on-2.ensures.node code ∙ ap (λ k. goes_on_at v.nodelets v.number k y code node) counts)
    ∙ birth_stamp v.nodelets v.number y.place home true hint (stamped_node (suc v.stamp) node) in
    let sent = c.send.ensures.sent code (ap (context_fits code) boxed ∙ c.in_ok-child.ensures.fits) in
    had_gone_on code v v after x y (λ w. w) _ (of_birth true hint home) [] sends before later (due.Spawn hint) refl
    (record {
      did = did_nothing v;
      keeps_stamp = refl;
      counts = counts;
      became = c.go_on-2.ensures;
      same = c.answer.ensures.kept;
      answered = c.in_ok-answer.ensures.ok;
      sent = sent_from code v.nodelets v.number (suc v.stamp) sends before (g.O.Outlet.sent c.reserve.new.self) later c.reserve.ensures.sent
          (sent_at code after.nodelets after.number after.stamp v.nodelets v.number (suc v.stamp) sends _ _ c.go_on-2.ensures.settings.nodelets c.go_on-2.ensures.settings.number stamp sent);
    })
    (λ action comes decides.
    let s = is_spawn action hint decides in
    let whole : due.Spawn (option_map hint_of s.3) ≡ due.Spawn hint = ap due_of (sym s.4) ∙ decides in
    let same : option_map hint_of s.3 ≡ hint = cc in
    subst (λ a. Leaves v.nodelets v.number (suc v.stamp) (of_birth true hint home) node [] sends (effect (setup_of code v) v.number node (context_in code x) state a)) (sym s.4)
    (leaves_away (setup_of code v) v.number (suc v.stamp) node (context_in code x) state s.0 s.1 s.2 s.3 hint home same c.birthplace-home.ensures.place other
    (context_in code child) (ap (context_in code) boxed ∙ c.in_ok-child.ensures.is action s.0 s.1 s.2 s.3 comes s.4)))
