use Rattle.std.proofs.Common.{sym, ap, ◌∙◌}
use Rattle.threadlet_code.specs.Machine.{State, step}
use Rattle.threadlet_code.specs.Fitting.{Fits}
use Rattle.threadlet_state.specs.Activations.{state_of}
use Rattle.threadlet_state.proofs.FrameLaws.{frames_as_state}
use Rattle.core_model.specs.Contexts.{Context}
use Rattle.nodelet_core.specs.Carried.{context_in}
use Rattle.core_model.specs.Nodes.{Setup}
use Rattle.nodelet_core.specs.code.Dues.{way_seen}
use Rattle.nodelet_core.specs.Kept.{node_of, setup_of, next_by}
use Rattle.core_model.specs.Runs.{by_way}
use Rattle.nodelet_core.proofs.Nexting.{waits_alone, goes_else, action_taken, silent_goes, not_waits, due_told, none_told}
use Rattle.nodelet_core.proofs.nodelet.Nodelet.next_of.Goals as goal

pub returns-in-None : goal.returns-in-None
returns-in-None c =
    let code = c.args.code.now.code in
    let state : State = state_of code c.args.context.now.frames in
    let fits : Fits code state = (frames_as_state code c.args.code.now.sound c.args.context.now.frames c.requires.fits).0 in
    silent_goes (setup_of code c.args.self.now) c.args.self.now.number (node_of code c.args.self.now) (context_in code c.args.context.now) c.args.code.now.sound state fits
    (none_told (step code state) (sym c.in-None.is ∙ c.next_due.ensures))

pub returns-in-Waits : goal.returns-in-Waits
returns-in-Waits c =
    let code = c.args.code.now.code in
    let v = c.args.self.now in
    let m : Setup = setup_of code v in
    let x : Context = context_in code c.args.context.now in
    let state : State = state_of code c.args.context.now.frames in
    let fits : Fits code state = (frames_as_state code c.args.code.now.sound c.args.context.now.frames c.requires.fits).0 in
    let told = due_told (step code state) c.in-Some.due (sym c.in-Some.is ∙ c.next_due.ensures) in
    waits_alone m v.number (node_of code v) x state (step code state) told.0 told.1
    ∙ ap (λ w. next_by (by_way m v.number (node_of code v) x state 0 (step code state) told.0 w)) (ap way_seen (sym c.in-Waits.is) ∙ c.way.ensures told.0 told.1 told.2)
    ∙ sym (ap next_by (action_taken m v.number (node_of code v) x c.args.code.now.sound state fits told.0 told.1))

pub returns-in_default : goal.returns-in_default
returns-in_default c =
    let code = c.args.code.now.code in
    let v = c.args.self.now in
    let m : Setup = setup_of code v in
    let x : Context = context_in code c.args.context.now in
    let state : State = state_of code c.args.context.now.frames in
    let fits : Fits code state = (frames_as_state code c.args.code.now.sound c.args.context.now.frames c.requires.fits).0 in
    let told = due_told (step code state) c.in-Some.due (sym c.in-Some.is ∙ c.next_due.ensures) in
    let says = c.way.ensures told.0 told.1 told.2 in
    goes_else m v.number (node_of code v) x state (step code state) told.0 told.1 _ (λ e. not_waits c.way.result c.in_default.not-Waits (says ∙ e))
    ∙ sym (ap next_by (action_taken m v.number (node_of code v) x c.args.code.now.sound state fits told.0 told.1))
