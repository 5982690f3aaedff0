use Rattle.data_layout.proofs.LeastMultiple.{next_multiple_of_is_least}
use Rattle.data_layout.proofs.cursors.after.Goals as goal

-- the row is not empty, and std's word gives its least multiple
pub returns-then-view-le-LAST_BLOCKS-clause-row : goal.returns-then-view-le-LAST_BLOCKS-clause-row
returns-then-view-le-LAST_BLOCKS-clause-row c =
    λ blocks. rw (c.next_multiple_of.ensures.value, c.row.ensures.words)
    (next_multiple_of_is_least _ _ (rw c.row.ensures.words at c.row.ensures.some))
