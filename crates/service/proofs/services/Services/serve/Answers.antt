use Rattle.std.proofs.Common.{sym, rules, w64, FitsSigned}
use Rattle.std.proofs.lemmas.Int.{to_z-of_z}
use Rattle.data_layout.specs.CursorTable.{cursor_of}
use Rattle.service.specs.Requests.{taken_by}
use Rattle.service.proofs.Refusals.{cursors_then-refused}
use Rattle.service.proofs.services.Services.serve.Goals.{in-Some, in-None}
use Rattle.service.proofs.services.Services.serve.Goals as goal

pub returns-clause-cursors : goal.returns-clause-cursors
returns-clause-cursors c v =
    let fits_b : FitsSigned w64 c.args.b = c.ranges.b in
    let fits_n : FitsSigned w64 c.args.n = c.ranges.n in
    elim c.match-taken.branch [
      | in-Some w ↦
          let fits : FitsSigned w64 w.in-Some.it.count = search rules in
          let is = simp to_z-of_z at w.in-Some.ensures.some in
          rw (w.self-inside-is, ← c.self.view_is) (rw is (simp to_z-of_z at (w.alloc_view.ensures.cursors v)))
      | in-None w ↦
          let cursors = c.self.inside.cursors in
          let none = simp to_z-of_z at w.in-None.ensures.none in
          rw (w.self-inside-is, ← c.self.view_is)
          (sym (cursors_then-refused cursors.nodelets (cursor_of cursors) (taken_by c.args.kind c.args.b c.args.n) v none))
    ]
