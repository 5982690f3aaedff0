use Rattle.std.proofs.Common.{◌≡◌, ℕ, zero, suc, pos, replicate, slice_index_or, refl, ap, ◌∙◌}
use Rattle.nodelet_mem.proofs.page.Page.blank.Goals as goal

all_zero : (n i : ℕ) → slice_index_or (replicate n (pos 0)) i (pos 0) ≡ pos 0
all_zero zero i = refl
all_zero (suc n) zero = refl
all_zero (suc n) (suc i) = all_zero n i

pub returns-clause-words : goal.returns-clause-words
returns-clause-words c = λ i. ap (λ l. slice_index_or l i (pos 0)) c.in_ok-new.ensures.ok ∙ all_zero 512 i
