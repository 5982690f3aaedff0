use Rattle.std.proofs.Common.{Some, sym, ap, ◌∙◌}
use Rattle.nodelet_core.specs.declared.due.Due.{Due}
use Rattle.nodelet_core.specs.code.Doing.{child_named}
use Rattle.nodelet_core.specs.Kept.{node_of}
use Rattle.nodelet_core.proofs.nodelet.Nodelet.child_name.Goals as goal

pub returns-in-Spawn : goal.returns-in-Spawn
returns-in-Spawn c = λ code.
    ap Some (c.next_name.ensures code) ∙ sym (ap (λ (d : Due). child_named c.args.self.now.number (node_of code c.args.self.now) d) c.in-Spawn.is)
