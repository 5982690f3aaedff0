use Rattle.std.proofs.Common.{◌≡◌, ◌≢◌, ℕ, suc, Option, Some, None, OnOk, OnErr, refl, sym, ap, ◌∙◌, subst, false, true, arith, ◌<◌, ◌≤◌, rules, get_or, length, Contains}
use Rattle.std.specs.Prelude.{option_and_then, option_map, is_err}
use Rattle.std.specs.List.{list_all}
use Rattle.std.proofs.lemmas.Bool.Decides.{nat_tests, eqb_tells}
use Rattle.word_ops.specs.declared.name.Name.{Name}
use Rattle.word_ops.specs.declared.step.Entry.{Entry}
use Rattle.word_ops.specs.declared.step.NodeEvent.TheVariants.{Run}
use Rattle.world_model.specs.Action.{Action}
use Rattle.threadlet_code.specs.declared.code.Code.{Code}
use Rattle.threadlet_code.specs.Machine.{State, step}
use Rattle.threadlet_code.specs.Running.{halt}
use Rattle.threadlet_state.specs.declared.context.Context as carried
use Rattle.threadlet_state.specs.Activations.{state_of}
use Rattle.threadlet_state.specs.Answered.{IsHalted}
use Rattle.threadlet_state.specs.Fit.{frames_fit}
use Rattle.merge_law.specs.Machine.{is_linked}
use Rattle.nodelet_core.specs.declared.due.Due.{Due}
use Rattle.nodelet_core.specs.declared.next.Next.TheVariants.{Goes, Waits}
use Rattle.core_model.specs.Contexts.{Context, context_of}
use Rattle.nodelet_core.specs.Carried.{context_in}
use Rattle.nodelet_core.specs.code.Dues.{due_of, way_seen}
use Rattle.nodelet_core.specs.Kept.{node_of, setup_of, next_by, context_fits, all_fit, names_at, IsUnchanged}
use Rattle.core_model.specs.Runs as runs
use Rattle.core_model.specs.Runs.{Outcome, action_in, taken_up}
use Rattle.nodelet_core.specs.code.Standing.{ascends, is_among, IsFound}
use Rattle.nodelet_core.specs.code.Became.{HasEntered}
use Rattle.nodelet_core.specs.Left.{HasRun}
use Rattle.nodelet_core.specs.code.Doing.{Left, way_in, FollowedWay}
use Rattle.nodelet_core.proofs.Becoming.{unchanged_then}
use Rattle.nodelet_core.proofs.Nexting.{due_told, none_told}
use Rattle.nodelet_core.proofs.Found.{none_named, found_is, holds_at, home_among}
use Rattle.nodelet_core.proofs.Ran.{any_ok, any_err, no_ok, no_err, of_ok, of_err, no_action, run_is, left_by, entered_as, entered_stamp, entered_names, entered_fits, entered_way, entered_by_way, had_run, name_stands}
use Rattle.nodelet_core.proofs.nodelet.Nodelet.run.Goals as goal

-- The context of a name that is not here does not go on.
pub returns-in_default-clause-ok : goal.returns-in_default-clause-ok
returns-in_default-clause-ok g c =
    let code = c.args.code.now.code in
    let v = c.args.self.now in
    let rests : Waits ≡ Goes =
    sym (ap (λ (o : Option Context). next_by (option_and_then (λ x. taken_up (setup_of code v) v.number (node_of code v) x (halt code x.state)) o))
    (none_named code c.args.name v.standing.contexts.items c.in_default.ensures)) ∙ c.requires.goes in
    absurd (let wrong : Waits ≡ Goes = rests in cc)

pub run_silent-requires : goal.run_silent-requires
run_silent-requires g c =
    let code : Code = c.args.code.now.code in
    let contexts = c.args.self.now.standing.contexts.items in
    let x = c.in-Some.context.now in
    let there = c.in-Some.ensures in
    record { fits = ap (context_fits code) c.in_ok-context.ensures ∙ holds_at (context_fits code) contexts c.requires.fits there.0.0 x there.0.1 there.0.2 }

pub next_due-requires : goal.next_due-requires
next_due-requires g c = record { fits = c.run_silent.ensures.fits }

-- Nor does one that stands before nothing.
pub returns-in_default-next_due-clause-ok : goal.returns-in_default-next_due-clause-ok
returns-in_default-next_due-clause-ok g c =
    let code : Code = c.args.code.now.code in
    let v = c.args.self.now in
    let contexts = v.standing.contexts.items in
    let x = c.in-Some.context.now in
    let y = c.run_silent.new.context in
    let there = c.in-Some.ensures in
    let silent = c.in_ok-silent.silent in
    let state : State = state_of code y.frames in
    let found : context_of c.args.name (node_of code v).contexts ≡ Some (context_in code x) =
    ap (λ (t : Name). context_of t (node_of code v).contexts) there.1
    ∙ found_is code contexts (ap ascends v.standing.same_names ∙ v.standing.ascending) there.0.0 x there.0.1 there.0.2 in
    let halted : IsHalted code x.frames silent y.frames = ap (λ (w : carried.Context). halt code (state_of code w.frames)) (sym c.in_ok-context.ensures) ∙ c.in_ok-silent.ensures.halted in
    no_action code v c.args.name x y silent found halted c.requires.goes (none_told (step code state) c.in_default-next_due.ensures)

pub way-way-requires : goal.way-way-requires
way-way-requires g c =
    let n = c.args.self.now.nodelets in
    let contexts = c.args.self.now.standing.contexts.items in
    let x = c.in-Some.context.now in
    let there = c.in-Some.ensures in
    let home : x.home < n = home_among n x (holds_at (is_among n) contexts c.args.self.now.among there.0.0 x there.0.1 there.0.2) in
    record {
      home = subst (λ (k : ℕ). k < n) (sym (ap (λ (w : carried.Context). w.home) (c.run_silent.ensures.kept ∙ ap (λ (w : carried.Context). let z : carried.Context = record w { frames = c.run_silent.new.context.frames } in z) c.in_ok-context.ensures))) home;
      fits = c.run_silent.ensures.fits;
    }

pub entry_of-requires : goal.entry_of-requires
entry_of-requires g c = record { stamp = c.requires.stamp; few = c.in_ok-silent.ensures.few }

pub returns-in_err-enter-clause-fits : goal.returns-in_err-enter-clause-fits
returns-in_err-enter-clause-fits g c = ap (list_all (context_fits c.args.code.now.code)) c.in_err-enter.ensures.err.contexts ∙ c.requires.fits

pub follow-done-requires : goal.follow-done-requires
follow-done-requires g c =
    let code : Code = c.args.code.now.code in
    let v = c.args.self.now in
    let contexts = v.standing.contexts.items in
    let x = c.in-Some.context.now in
    let y = c.run_silent.new.context in
    let there = c.in-Some.ensures in
    let silent = c.in_ok-silent.silent in
    let state : State = state_of code y.frames in
    let found : context_of c.args.name (node_of code v).contexts ≡ Some (context_in code x) =
    ap (λ (t : Name). context_of t (node_of code v).contexts) there.1
    ∙ found_is code contexts (ap ascends v.standing.same_names ∙ v.standing.ascending) there.0.0 x there.0.1 there.0.2 in
    let halted : IsHalted code x.frames silent y.frames = ap (λ (w : carried.Context). halt code (state_of code w.frames)) (sym c.in_ok-context.ensures) ∙ c.in_ok-silent.ensures.halted in
    let kept : y ≡ record x { frames = y.frames } =
    c.run_silent.ensures.kept ∙ ap (λ (w : carried.Context). let z : carried.Context = record w { frames = y.frames } in z) c.in_ok-context.ensures in
    let d = c.in-Some-next_due.due in
    let told = due_told (step code state) d c.in-Some-next_due.ensures in
    let mid = c.enter.new.self in
    let entry = c.entry_of.result in
    let raw = c.in_ok-enter.ensures.ok in
    let entered : HasEntered entry v mid = record { settings = record { number = raw.settings.number; nodelets = raw.settings.nodelets; turns = raw.settings.turns; rules = raw.settings.rules }; node = raw.node; contexts = raw.contexts; entries = raw.entries } in
    let among : is_among v.nodelets x ≡ true = holds_at (is_among v.nodelets) contexts v.among there.0.0 x there.0.1 there.0.2 in
    let stamp : mid.stamp < 18446744073709551615 = omega (arith, entered_stamp code v mid entry entered, c.requires.stamp) in
    record {
      stands = record {
        stamp = stamp;
        here = subst (λ (w : carried.Context). Contains (names_at mid) w.name) (sym kept)
            (subst (λ names. Contains names x.name) (sym (entered_names code v mid entry entered)) (name_stands contexts x there.0));
        among = ap (is_among mid.nodelets) kept ∙ ap (λ n. is_among n x) entered.settings.nodelets ∙ among;
        fits = c.run_silent.ensures.fits;
      };
      way = record {
        action = told.0;
        comes = told.1;
        decides = told.2;
        is = entered_way code v mid entry entered y told.0 ∙ sym (c.way-way.ensures told.0 told.1 told.2);
      };
      reaches = λ k linked.
          let same = entered.settings in
          let other : is_linked v.nodelets v.number k ≡ true = ap (λ n. is_linked n v.number k) (sym same.nodelets) ∙ ap (λ n. is_linked mid.nodelets n k) (sym same.number) ∙ linked in
          let within : k < v.nodelets = grind (arith, nat_tests, eqb_tells) in
          let apart : k ≢ v.number = grind (arith, nat_tests, eqb_tells) in
          c.requires.reaches k within apart;
    }

pub returns-then-is_err : goal.returns-then-is_err
returns-then-is_err g c =
    let code : Code = c.args.code.now.code in
    let v = c.args.self.now in
    let mid = c.enter.new.self in
    let entry = c.entry_of.result in
    let raw = c.in_ok-enter.ensures.ok in
    let entered : HasEntered entry v mid = record { settings = record { number = raw.settings.number; nodelets = raw.settings.nodelets; turns = raw.settings.turns; rules = raw.settings.rules }; node = raw.node; contexts = raw.contexts; entries = raw.entries } in
    let failed : is_err c.follow-done.result ≡ true = sym c.is_err.ensures.value ∙ c.if-is_err.true in
    let same = of_err c.follow-done.result (IsUnchanged mid c.follow-done.new.self) failed c.follow-done.ensures.err in
    let back : IsUnchanged v c.withdraw_entry.new.self = c.withdraw_entry.ensures entry v (entered_as v mid c.follow-done.new.self entry entered same) in
    record {
      ok = no_ok c.follow-done.result (HasRun code v c.withdraw_entry.new.self (g.O.Outlet.sent c.args.out.now) (g.O.Outlet.sent c.follow-done.new.out) c.args.name) failed;
      fits = ap (list_all (context_fits code)) back.contexts ∙ c.requires.fits;
      err = any_err c.follow-done.result (IsUnchanged v c.withdraw_entry.new.self) back;
      not_sent = c.follow-done.ensures.not_sent;
      reaches = c.follow-done.ensures.reaches;
      made = c.follow-done.ensures.made;
    }

pub returns-else-is_err-clause-ok : goal.returns-else-is_err-clause-ok
returns-else-is_err-clause-ok g c =
    let code : Code = c.args.code.now.code in
    let v = c.args.self.now in
    let contexts = v.standing.contexts.items in
    let x = c.in-Some.context.now in
    let y = c.run_silent.new.context in
    let there = c.in-Some.ensures in
    let silent = c.in_ok-silent.silent in
    let state : State = state_of code y.frames in
    let found : context_of c.args.name (node_of code v).contexts ≡ Some (context_in code x) =
    ap (λ (t : Name). context_of t (node_of code v).contexts) there.1
    ∙ found_is code contexts (ap ascends v.standing.same_names ∙ v.standing.ascending) there.0.0 x there.0.1 there.0.2 in
    let halted : IsHalted code x.frames silent y.frames = ap (λ (w : carried.Context). halt code (state_of code w.frames)) (sym c.in_ok-context.ensures) ∙ c.in_ok-silent.ensures.halted in
    let kept : y ≡ record x { frames = y.frames } =
    c.run_silent.ensures.kept ∙ ap (λ (w : carried.Context). let z : carried.Context = record w { frames = y.frames } in z) c.in_ok-context.ensures in
    let d = c.in-Some-next_due.due in
    let told = due_told (step code state) d c.in-Some-next_due.ensures in
    let action = told.0 in
    let mid = c.enter.new.self in
    let after = c.follow-done.new.self in
    let before = g.O.Outlet.sent c.args.out.now in
    let later = g.O.Outlet.sent c.follow-done.new.out in
    let entry = c.entry_of.result in
    let raw = c.in_ok-enter.ensures.ok in
    let entered : HasEntered entry v mid = record { settings = record { number = raw.settings.number; nodelets = raw.settings.nodelets; turns = raw.settings.turns; rules = raw.settings.rules }; node = raw.node; contexts = raw.contexts; entries = raw.entries } in
    let followed = of_ok c.follow-done.result (FollowedWay code mid after before later y d c.way-way.result) (sym c.is_err.ensures.value ∙ c.if-is_err.false) c.follow-done.ensures.ok in
    let left = left_by (runs.run (setup_of code v) v.number (node_of code v) c.args.name) c.requires.goes in
    let leads : runs.by_way (setup_of code v) v.number (node_of code v) (context_in code y) state silent (step code state) action (way_seen c.way-way.result) ≡ Some left.0 =
    ap (runs.by_way (setup_of code v) v.number (node_of code v) (context_in code y) state silent (step code state) action) (c.way-way.ensures action told.1 told.2)
    ∙ sym (run_is code v c.args.name x y silent found halted kept action told.1) ∙ left.1 in
    let left_so : Left code (suc mid.stamp) mid after before later left.0 =
    followed action silent left.0 told.1 told.2 (entered_by_way code v mid entry entered (context_in code y) state silent (step code state) action (way_seen c.way-way.result) ∙ leads) in
    let named : y.name ≡ c.args.name = ap (λ (w : carried.Context). w.name) kept ∙ sym there.1 in
    let told_so : entry ≡ record { stamp = suc v.stamp; event = Run c.args.name left.0.count; step = left.0.step } =
    c.entry_of.ensures code action left.0 told.1 told.2 leads
    ∙ ap (λ n. let it : Entry = record { stamp = suc v.stamp; event = Run n left.0.count; step = left.0.step } in it) named in
    any_ok c.follow-done.result (HasRun code v after before later c.args.name)
    (had_run code v mid entry entered after before later c.args.name left.0 c.requires.stamp left.1 told_so left_so)

pub returns-else-is_err-clause-fits : goal.returns-else-is_err-clause-fits
returns-else-is_err-clause-fits g c =
    let code : Code = c.args.code.now.code in
    let v = c.args.self.now in
    let contexts = v.standing.contexts.items in
    let x = c.in-Some.context.now in
    let y = c.run_silent.new.context in
    let there = c.in-Some.ensures in
    let silent = c.in_ok-silent.silent in
    let state : State = state_of code y.frames in
    let found : context_of c.args.name (node_of code v).contexts ≡ Some (context_in code x) =
    ap (λ (t : Name). context_of t (node_of code v).contexts) there.1
    ∙ found_is code contexts (ap ascends v.standing.same_names ∙ v.standing.ascending) there.0.0 x there.0.1 there.0.2 in
    let halted : IsHalted code x.frames silent y.frames = ap (λ (w : carried.Context). halt code (state_of code w.frames)) (sym c.in_ok-context.ensures) ∙ c.in_ok-silent.ensures.halted in
    let kept : y ≡ record x { frames = y.frames } =
    c.run_silent.ensures.kept ∙ ap (λ (w : carried.Context). let z : carried.Context = record w { frames = y.frames } in z) c.in_ok-context.ensures in
    let d = c.in-Some-next_due.due in
    let told = due_told (step code state) d c.in-Some-next_due.ensures in
    let action = told.0 in
    let mid = c.enter.new.self in
    let after = c.follow-done.new.self in
    let before = g.O.Outlet.sent c.args.out.now in
    let later = g.O.Outlet.sent c.follow-done.new.out in
    let entry = c.entry_of.result in
    let raw = c.in_ok-enter.ensures.ok in
    let entered : HasEntered entry v mid = record { settings = record { number = raw.settings.number; nodelets = raw.settings.nodelets; turns = raw.settings.turns; rules = raw.settings.rules }; node = raw.node; contexts = raw.contexts; entries = raw.entries } in
    let followed = of_ok c.follow-done.result (FollowedWay code mid after before later y d c.way-way.result) (sym c.is_err.ensures.value ∙ c.if-is_err.false) c.follow-done.ensures.ok in
    let left = left_by (runs.run (setup_of code v) v.number (node_of code v) c.args.name) c.requires.goes in
    let leads : runs.by_way (setup_of code v) v.number (node_of code v) (context_in code y) state silent (step code state) action (way_seen c.way-way.result) ≡ Some left.0 =
    ap (runs.by_way (setup_of code v) v.number (node_of code v) (context_in code y) state silent (step code state) action) (c.way-way.ensures action told.1 told.2)
    ∙ sym (run_is code v c.args.name x y silent found halted kept action told.1) ∙ left.1 in
    let left_so : Left code (suc mid.stamp) mid after before later left.0 =
    followed action silent left.0 told.1 told.2 (entered_by_way code v mid entry entered (context_in code y) state silent (step code state) action (way_seen c.way-way.result) ∙ leads) in
    left_so.fits (entered_fits code v mid entry entered ∙ c.requires.fits)

pub returns-else-is_err-clause-err : goal.returns-else-is_err-clause-err
returns-else-is_err-clause-err g c =
    no_err c.follow-done.result (IsUnchanged c.args.self.now c.follow-done.new.self) (sym c.is_err.ensures.value ∙ c.if-is_err.false)

pub returns-else-is_err-clause-not_sent : goal.returns-else-is_err-clause-not_sent
returns-else-is_err-clause-not_sent g c = c.follow-done.ensures.not_sent
