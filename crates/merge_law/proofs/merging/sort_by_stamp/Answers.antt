use Rattle.std.proofs.Common.{ℕ, refl, rules, None}
use Rattle.std.proofs.lemmas.List.Sorted.{IsNonDecreasingBy-from_sort_by_key, answers_always}
use Rattle.word_ops.specs.declared.step.Entry.{Entry}
use Rattle.word_ops.specs.declared.step.NodeEvent.TheVariants.{Take}
use Rattle.merge_law.proofs.ByKey.{is_by_key}
use Rattle.merge_law.proofs.merging.sort_by_stamp.Goals as goal

pub returns : goal.returns
returns c =
    let sorted = c.in_ok-sort_by_key.ensures in
    let stamp : Entry → ℕ = λ e. e.stamp in
    is_by_key stamp c.args.entries.now.items c.sort_by_key.new.self.items (λ s. record { stamp = s; event = Take 0; step = None }) (λ s. refl)
    (IsNonDecreasingBy-from_sort_by_key stamp _ sorted.sorted (λ a r q k. search rules))
    (sorted.stable stamp (answers_always _ _ _ (λ f a r g k. search rules)))
