use Rattle.std.proofs.Common.{◌≡◌, refl, ap, ◌∙◌, rules, to_z, of_z, w64}
use Rattle.service.specs.Requests.{taken_by}
use Rattle.data_layout.specs.CursorTable.{cursor_of}
use Rattle.world_model.specs.Allocation.{taken_from}
use Rattle.nodelet_core.specs.code.Dues.{asked_request}
use Rattle.nodelet_core.specs.Kept.{node_of}
use Rattle.nodelet_core.proofs.Holding.{served_node}
use Rattle.nodelet_core.proofs.nodelet.Nodelet.serve.Goals as goal

pub returns-clause-did : goal.returns-clause-did
returns-clause-did c =
    let v = c.args.self.now in
    let it = c.served-kind.result in
    let blocks : to_z w64 (of_z w64 it.1) ≡ it.1 = search rules in
    let words : to_z w64 (of_z w64 it.2) ≡ it.2 = search rules in
    record {
      settings = record { number = refl; nodelets = refl; turns = refl; rules = refl };
      node = λ code. served_node v.nodelets v.services.cursors.nodelets (node_of code v) (cursor_of c.serve.new.self.cursors) c.serve.new.self.pieces
          (taken_from v.nodelets v.number (asked_request c.args.request)) (taken_by it.0 (to_z w64 (of_z w64 it.1)) (to_z w64 (of_z w64 it.2)))
          c.serve.ensures.cursors v.served_by_all
          (ap (λ z. taken_by it.0 z (to_z w64 (of_z w64 it.2))) blocks ∙ ap (taken_by it.0 it.1) words ∙ c.served-kind.ensures.taken v.nodelets c.requires)
          c.serve.ensures.pieces;
      contexts = refl;
      entries = refl;
    }
