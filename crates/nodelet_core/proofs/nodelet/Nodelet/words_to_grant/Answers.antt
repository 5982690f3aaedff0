use Rattle.std.proofs.Common.{◌≡◌, sym, ap, ◌∙◌, subst, rules, to_z, of_z, w64}
use Rattle.service.specs.Requests.{taken_by, words_granted}
use Rattle.world_model.specs.Allocation.{taken_from}
use Rattle.nodelet_core.specs.code.Dues.{asked_request}
use Rattle.nodelet_core.specs.Kept.{node_of}
use Rattle.nodelet_core.specs.code.Doing.{address_for, fresh_of, grant_for}
use Rattle.nodelet_core.proofs.Granting.{grants_none, grants_some}
use Rattle.nodelet_core.proofs.nodelet.Nodelet.words_to_grant.Goals as goal

pub returns-in-Loose : goal.returns-in-Loose
returns-in-Loose c = λ code.
    let v = c.args.self.now in
    let taken = taken_from v.nodelets v.number (asked_request c.args.request) in
    subst (λ r. fresh_of r (node_of code v) taken ≡ grant_for 0 (address_for (node_of code v) taken)) (sym c.in-Loose.is) (grants_none (node_of code v) taken)

pub returns-in-Checked : goal.returns-in-Checked
returns-in-Checked c = λ code.
    let v = c.args.self.now in
    let taken = taken_from v.nodelets v.number (asked_request c.args.request) in
    let it = c.served-kind.result in
    let blocks : to_z w64 (of_z w64 it.1) ≡ it.1 = search rules in
    let words : to_z w64 (of_z w64 it.2) ≡ it.2 = search rules in
    let same : words_granted taken ≡ c.words_granted.result =
    sym (c.words_granted.ensures.words
    ∙ ap (λ z. words_granted (taken_by it.0 z (to_z w64 (of_z w64 it.2)))) blocks ∙ ap (λ z. words_granted (taken_by it.0 it.1 z)) words
    ∙ ap words_granted (c.served-kind.ensures.taken v.nodelets c.requires.served)) in
    subst (λ r. fresh_of r (node_of code v) taken ≡ grant_for c.words_granted.result (address_for (node_of code v) taken)) (sym c.in-Checked.is)
    (grants_some (node_of code v) taken ∙ ap (λ k. grant_for k (address_for (node_of code v) taken)) same)
