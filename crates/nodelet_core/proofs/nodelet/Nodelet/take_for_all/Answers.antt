use Rattle.std.proofs.Common.{◌≡◌, ◌≤◌, ◌-◌, pos, sym, ap, ◌∙◌, subst, to_z, of_z, w64}
use Rattle.std.proofs.lemmas.Int.{to_z-of_z}
use Rattle.std.specs.Prelude.{if◌then◌else◌}
use Rattle.word_ops.specs.Operators.{same_word}
use Rattle.world_model.specs.Allocation.{taken_from}
use Rattle.ack_fence.specs.Counting.{count_of}
use Rattle.nodelet_core.specs.code.Dues.{asked_request}
use Rattle.nodelet_core.specs.code.Became.{Did}
use Rattle.nodelet_core.specs.code.Doing.{with_taken, with_withdrawn, kept_for}
use Rattle.nodelet_core.proofs.Becoming.{did_then}
use Rattle.nodelet_core.proofs.Allotting.{did_counts, taken_counts, not_zero}
use Rattle.nodelet_core.proofs.nodelet.Nodelet.take_for_all.Goals as goal

pub withdraw_items-requires : goal.withdraw_items-requires
withdraw_items-requires c =
    let v = c.args.self.now in
    let mid = c.take_words-address.new.self in
    let name = c.args.name in
    let taken = taken_from v.nodelets v.number (asked_request c.args.request) in
    let a = c.take_words-address.result in
    let counts = did_counts (with_taken v.nodelets c.args.count a taken) v mid name c.take_words-address.ensures.did (taken_counts v.nodelets c.args.count a taken) in
    subst (λ k. k - 1 ≤ count_of mid.under_way name) (sym c.take_words-address.ensures.did.settings.nodelets) (subst (λ k. v.nodelets - 1 ≤ k) (sym counts) c.requires.issued)

pub returns-then-address-ne0-clause-did : goal.returns-then-address-ne0-clause-did
returns-then-address-ne0-clause-did c =
    let v = c.args.self.now in
    let mid = c.take_words-address.new.self in
    let name = c.args.name in
    let a = c.take_words-address.result in
    let take = with_taken v.nodelets c.args.count a (taken_from v.nodelets v.number (asked_request c.args.request)) in
    let taken = taken_from v.nodelets v.number (asked_request c.args.request) in
    subst (λ z. Did (λ w. kept_for name (v.nodelets - 1) z (with_taken v.nodelets c.args.count z taken w)) v mid) (sym (to_z-of_z w64 a (record { sfits = c.take_words-address.type_inv })))
    (subst (λ t. Did (λ w. if t then with_withdrawn (take w) name (v.nodelets - 1) else take w) v mid) (sym (not_zero a (λ e. c.if-address-ne0.true (ap (of_z w64) e)))) c.take_words-address.ensures.did)

pub returns-clause-did : goal.returns-clause-did
returns-clause-did c =
    let v = c.args.self.now in
    let mid = c.take_words-address.new.self in
    let after = c.withdraw_items.new.self in
    let name = c.args.name in
    let a = c.take_words-address.result in
    let zero : a ≡ pos 0 = sym (to_z-of_z w64 a (record { sfits = c.take_words-address.type_inv })) ∙ ap (to_z w64) c.if-address-ne0.false in
    let take = with_taken v.nodelets c.args.count a (taken_from v.nodelets v.number (asked_request c.args.request)) in
    let back : Did (λ w. with_withdrawn w name (v.nodelets - 1)) mid after =
    subst (λ n. Did (λ w. with_withdrawn w name (n - 1)) mid after) c.take_words-address.ensures.did.settings.nodelets c.withdraw_items.ensures.did in
    let taken = taken_from v.nodelets v.number (asked_request c.args.request) in
    subst (λ z. Did (λ w. kept_for name (v.nodelets - 1) z (with_taken v.nodelets c.args.count z taken w)) v after) (sym (to_z-of_z w64 a (record { sfits = c.take_words-address.type_inv })))
    (subst (λ t. Did (λ w. if t then with_withdrawn (take w) name (v.nodelets - 1) else take w) v after) (sym (ap (λ z. same_word z (pos 0)) zero))
    (did_then take (λ w. with_withdrawn w name (v.nodelets - 1)) v mid after c.take_words-address.ensures.did back))
