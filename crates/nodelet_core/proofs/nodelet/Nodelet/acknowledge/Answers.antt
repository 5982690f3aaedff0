use Rattle.std.proofs.Common.{◌≡◌, [], refl, ap, ◌∙◌, sym, subst, arith}
use Rattle.nodelet_core.specs.declared.nodelet.Nodelet.{Nodelet}
use Rattle.core_model.specs.Contexts.{context_of}
use Rattle.core_model.specs.Machine.{stamped_node}
use Rattle.nodelet_core.specs.code.Became.{Did}
use Rattle.nodelet_core.proofs.Taking.{did_stamp, became_stamp, late_stamp, acknowledged_late, acknowledged_done}
use Rattle.nodelet_core.proofs.nodelet.Nodelet.acknowledge.Goals as goal
use Rattle.nodelet_core.proofs.nodelet.Nodelet.acknowledge.Goals.{in-Some, in_default}

pub set_stamp-requires : goal.set_stamp-requires
set_stamp-requires c =
    let v = c.args.self.now in
    let b = c.withdraw_items.new.self in
    let withdrawn = did_stamp _ v b c.withdraw_items.ensures.did (λ w. refl) in
    let same : c.match-late.self.stamp ≡ v.stamp = elim c.match-late.branch [
      | in-Some w ↦ ap (λ (z : Nodelet). z.stamp) w.self-is
          ∙ became_stamp _ [] b w.make_late.new.self w.make_late.ensures (λ code x. late_stamp x w.in-Some.pos (context_of c.args.name x.contexts)) ∙ withdrawn
      | in_default w ↦ ap (λ (z : Nodelet). z.stamp) w.self-is ∙ withdrawn
    ] in
    record { later = omega (arith, same) }

pub returns : goal.returns
returns c =
    let v = c.args.self.now in
    let b = c.withdraw_items.new.self in
    let e = c.set_stamp.new.self in
    let stamp = c.args.stamp in
    elim c.match-late.branch [
      | in-Some w ↦ acknowledged_late c.args.name w.in-Some.pos c.args.late stamp v b w.make_late.new.self e (sym w.in-Some.is) c.withdraw_items.ensures.did w.make_late.ensures
          (subst (λ (z : Nodelet). Did (stamped_node stamp) z e) w.self-is c.set_stamp.ensures)
      | in_default w ↦ acknowledged_done c.args.name c.args.late stamp v b e (sym w.in_default.is) c.withdraw_items.ensures.did
          (subst (λ (z : Nodelet). Did (stamped_node stamp) z e) w.self-is c.set_stamp.ensures)
    ]
