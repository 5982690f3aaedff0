use Rattle.std.proofs.lemmas.Result.{IfOk-weaker}
use Rattle.word_ops.specs.Report.{below}
use Rattle.spawn_tree.specs.Joining.{result_of}
use Rattle.nodelet_core.proofs.Holding.{known_of}
use Rattle.nodelet_core.proofs.nodelet.Nodelet.take_results.Goals as goal

pub returns-clause-results : goal.returns-clause-results
returns-clause-results c =
    IfOk-weaker c.collect.result _ _ (λ all e code. known_of (below c.args.count) (result_of c.args.self.now.joins c.args.parent c.args.depth) all e) c.collect.ensures.results
