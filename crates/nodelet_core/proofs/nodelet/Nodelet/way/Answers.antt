use Rattle.std.proofs.Common.{◌≡◌, ℕ, sym, ap, ◌∙◌, length, Bool, Some}
use Rattle.std.specs.Prelude.{◌==◌}
use Rattle.world_model.specs.Action.{Sync}
use Rattle.threadlet_code.specs.declared.code.Code.{Code}
use Rattle.threadlet_code.specs.Machine.{State}
use Rattle.threadlet_code.specs.Running.{owed}
use Rattle.threadlet_state.specs.Activations.{state_of}
use Rattle.ack_fence.specs.Counting.{count_of}
use Rattle.nodelet_core.specs.code.Dues.{due_of, asked, seen}
use Rattle.core_model.specs.Runs.{way_of, is_free, are_recorded}
use Rattle.nodelet_core.specs.Kept.{node_of}
use Rattle.nodelet_core.proofs.Deciding.{sees, decided}
use Rattle.nodelet_core.proofs.Syncing.{sync_depth, free_is}
use Rattle.nodelet_core.proofs.Seeing.{some_frames, few_frames, state_size}
use Rattle.nodelet_core.proofs.nodelet.Nodelet.way.Goals as goal

pub sight-sight-requires : goal.sight-sight-requires
sight-sight-requires c = record { some = some_frames c.args.code.now.code c.args.context.now.frames c.requires.fits; few = few_frames c.args.code.now.code c.args.context.now.frames c.requires.fits }

pub returns : goal.returns
returns c = λ action asks_it is_due.
    let code : Code = c.args.code.now.code in
    let v = c.args.self.now in
    let x = c.args.context.now in
    let s = c.sight-sight.result in
    let says = c.sight-sight.ensures in
    let state : State = state_of code x.frames in
    let node = node_of code v in
    let free : Bool = is_free v.number node x.ticket action in
    let clear : Bool = count_of v.under_way x.name == 0 in
    let childless : ℕ → Bool = λ d. owed d state == 0 in
    let all_ended : ℕ → Bool = λ d. are_recorded node x.name d (owed d state) in
    let free_same : c.is_free-free.result ≡ free = c.is_free-free.ensures code ∙ ap (λ d. is_free v.number node x.ticket (asked d)) (sym is_due) ∙ free_is v.number node x.ticket action in
    let whole : (d : ℕ) → action ≡ Sync d → (childless d ≡ s.childless) × (all_ended d ≡ s.all_ended) = λ d e.
    let deep : d ≡ length x.frames = sync_depth code state d (asks_it ∙ ap Some e) ∙ state_size code x.frames in
    let syncs = sym is_due ∙ ap due_of e in
    (ap childless deep ∙ sym (says.childless code), ap all_ended deep ∙ sym (says.all_ended code syncs)) in
    c.way_of.ensures
    ∙ ap (λ f. way_of v.nodelets v.turns (seen s) (asked c.args.due) f) free_same
    ∙ ap (λ d. way_of v.nodelets v.turns (seen s) (asked d) free) (sym is_due)
    ∙ ap (λ k. way_of v.nodelets v.turns (sees v.nodelets v.turns k s.home s.served s.clear s.late free (λ d. s.childless) (λ d. s.all_ended)) (asked (due_of action)) free) says.here
    ∙ ap (λ k. way_of v.nodelets v.turns (sees v.nodelets v.turns v.number k s.served s.clear s.late free (λ d. s.childless) (λ d. s.all_ended)) (asked (due_of action)) free) says.home
    ∙ ap (λ k. way_of v.nodelets v.turns (sees v.nodelets v.turns v.number x.home k s.clear s.late free (λ d. s.childless) (λ d. s.all_ended)) (asked (due_of action)) free) says.served
    ∙ ap (λ k. way_of v.nodelets v.turns (sees v.nodelets v.turns v.number x.home v.counts.turns k s.late free (λ d. s.childless) (λ d. s.all_ended)) (asked (due_of action)) free) says.clear
    ∙ ap (λ k. way_of v.nodelets v.turns (sees v.nodelets v.turns v.number x.home v.counts.turns clear k free (λ d. s.childless) (λ d. s.all_ended)) (asked (due_of action)) free) says.late
    ∙ sym (decided v.nodelets v.turns v.number x.home v.counts.turns clear x.late free childless all_ended s.childless s.all_ended action whole)
