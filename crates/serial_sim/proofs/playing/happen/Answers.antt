use Rattle.std.proofs.Common.{◌≡◌, ◌∷◌, ◌++◌, [], List, Option, ap, ◌∙◌}
use Rattle.std.specs.Prelude.{option_to_list, if◌then◌else◌}
use Rattle.std.proofs.lemmas.Result.{on_ok_weaker}
use Rattle.word_ops.specs.declared.step.Step.{Step}
use Rattle.merge_law.specs.Events.{nodelet_of}
use Rattle.sim_core.specs.Advanced.{entries_at}
use Rattle.serial_sim.proofs.GoesFurther.{same_number}
use Rattle.serial_sim.proofs.playing.happen.Goals as goal

pub returns-clause-ok : goal.returns-clause-ok
returns-clause-ok c =
    let advanced = c.in_ok-event.ensures.ok in
    let k = nodelet_of c.args.event in
    let last : entries_at c.event.new.self k ≡ entries_at c.args.core.now k ++ advanced.left.entry.entry ∷ [] =
    advanced.entries k ∙ ap (λ b. entries_at c.args.core.now k ++ (if b then advanced.left.entry.entry ∷ [] else [])) (same_number k) in
    let step = c.last_step.ensures (entries_at c.args.core.now k) advanced.left.entry.entry (ap (entries_at c.event.new.self) c.nodelet_of.ensures ∙ last) in
    let P : Option Step → List Step = λ s. c.args.told.now ++ option_to_list s in
    on_ok_weaker c.tell.result (λ told. record { advanced = advanced; told = told ∙ ap P step }) c.tell.ensures
