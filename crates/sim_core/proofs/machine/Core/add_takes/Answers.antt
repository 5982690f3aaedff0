use Rattle.std.proofs.Common.{◌≡◌, ◌++◌, sym, ◌∙◌}
use Rattle.std.specs.Prelude.{[], ◌∷◌, if◌then◌else◌}
use Rattle.merge_law.specs.declared.event.Event.{Event}
use Rattle.merge_law.specs.declared.event.Event.TheVariants as event
use Rattle.core_model.specs.Core.{is_legal}
use Rattle.sim_core.specs.Kept.{setup_in, core_in}
use Rattle.sim_core.proofs.Listing.{listed_below, listed_on, passed, left_out}
use Rattle.sim_core.proofs.machine.Core.add_takes.Goals as goal
use Rattle.sim_core.proofs.machine.Core.add_takes.Goals.{then-legal+in_ok-add, else-legal}

pub loop-origin-preserved : goal.loop-origin-preserved
loop-origin-preserved c =
    let events = c.loop-origin.events in
    let test = is_legal (setup_in c.args.code.now.code c.args.self.now) (core_in c.args.code.now.code c.args.self.now) in
    let it : Event = event.Take c.loop-origin.origin c.args.k in
    let next : c.if-legal.events ≡ events ++ (if test it then it ∷ [] else []) = elim c.if-legal.branch [
      | then-legal+in_ok-add w ↦ passed events c.if-legal.events (test it) it (sym c.legal.ensures ∙ w.if-legal.true) (w.events-is ∙ w.in_ok-add.ensures.ok)
      | else-legal w ↦ left_out events c.if-legal.events (test it) it (sym c.legal.ensures ∙ w.if-legal.false) w.events-is
    ] in
    listed_on c.args.events.now _ _ events c.if-legal.events (test it) it c.loop-origin.invariant
    (listed_below test (λ origin. event.Take origin c.args.k) c.loop-origin.origin) next
