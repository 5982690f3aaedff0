use Rattle.cilk_types.specs.Spawning.{spawns_in}
use Rattle.cilk_types.proofs.lower_bodies.function_of.Goals as goal

pub returns : goal.returns
unfolding spawns_in
returns c = λ i. record { name = c.args.name; params = c.args.params; slots = c.args.slots; spawns = c.spawns.ensures i; body = c.args.body }
