use Rattle.std.proofs.Common.{◌≡◌, ℕ, ◌+◌, Option, Some, ap, sym, ◌∙◌}
use Rattle.word_ops.specs.declared.name.Name.{Name}
use Rattle.word_ops.specs.declared.step.Step.{Step}
use Rattle.word_ops.specs.declared.step.Step.TheVariants.{Act}
use Rattle.threadlet_state.specs.Activations.{state_of}
use Rattle.nodelet_core.specs.declared.sight.Way as coded
use Rattle.nodelet_core.specs.Carried.{context_in}
use Rattle.nodelet_core.specs.Kept.{node_of, setup_of}
use Rattle.nodelet_core.proofs.Entries.{entry_with, told_by, entry_is}
use Rattle.nodelet_core.proofs.nodelet.Nodelet.entry_of.Goals as goal
use Rattle.nodelet_core.proofs.nodelet.Nodelet.entry_of.Goals.{in-Waits, in-SentTo, in-Refused, in-DoneHere}

pub returns : goal.returns
returns c = λ code action left comes decides leads.
    let v = c.args.self.now in
    let x = c.args.context.now in
    let m = setup_of code v in
    let here = v.number in
    let node = node_of code v in
    let y = context_in code x in
    let state = state_of code x.frames in
    let silent = c.args.silent in
    let due = c.args.due in
    let by : (w : coded.Way) → c.args.way ≡ w → told_by m here node y state w silent due ≡ told_by m here node y state c.args.way silent due =
    λ w is. ap (λ (k : coded.Way). told_by m here node y state k silent due) (sym is) in
    let told : c.match-way.count ≡ told_by m here node y state c.args.way silent due = elim c.match-way.branch [
      | in-Waits w ↦ w.count-is ∙ by _ w.in-Waits.is
      | in-SentTo w ↦ w.count-is ∙ by _ w.in-SentTo.is
      | in-Refused w ↦ w.count-is ∙ by _ w.in-Refused.is
      | in-DoneHere w ↦ w.count-is
          ∙ ap (λ (child : Option Name). let p : ℕ × Option Step = (silent + 1, Some (Act x.name child)) in p) (w.child_name.ensures code)
          ∙ by _ w.in-DoneHere.is
    ] in
    ap (entry_with m here node y state) told ∙ entry_is m here node y state code silent action due c.args.way left comes decides leads
