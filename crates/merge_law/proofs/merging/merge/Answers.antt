use Rattle.std.proofs.Common.{ap, ◌∙◌}
use Rattle.std.specs.Prelude.{filter_map}
use Rattle.merge_law.specs.Order.{by_key}
use Rattle.merge_law.proofs.Replays.{stamp_of_entry}
use Rattle.merge_law.proofs.Placing.{step_of_entry, steps_of-merged}
use Rattle.merge_law.proofs.merging.merge.Goals as goal

pub returns : goal.returns
returns c =
    let sorted = c.as_slice.ensures.value ∙ c.in_ok-sort_by_stamp.ensures ∙ ap (by_key stamp_of_entry) c.in_ok-entries.ensures in
    c.from_vec.ensures ∙ c.in_ok-found.ensures ∙ ap (filter_map step_of_entry) sorted ∙ steps_of-merged c.args.parts.now
