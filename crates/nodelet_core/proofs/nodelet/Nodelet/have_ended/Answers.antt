use Rattle.spawn_tree.specs.Joining.{result_of}
use Rattle.nodelet_core.proofs.Seeing.{all_told}
use Rattle.nodelet_core.proofs.nodelet.Nodelet.have_ended.Goals as goal

pub returns-in-Sync : goal.returns-in-Sync
returns-in-Sync c = λ code e. all_told (result_of c.args.self.now.joins c.args.parent c.args.depth) c.ready.result c.args.count c.ready.ensures
