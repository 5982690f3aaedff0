use Rattle.std.proofs.Common.{sym, ap, ◌∙◌, map}
use Rattle.std.specs.Prelude.{is_some}
use Rattle.word_ops.specs.declared.name.Name.{Name}
use Rattle.core_model.specs.Contexts.{context_of}
use Rattle.nodelet_core.specs.Carried.{context_in}
use Rattle.nodelet_core.proofs.Found.{none_named, some_named}
use Rattle.nodelet_core.proofs.nodelet.Nodelet.is_here.Goals as goal

pub returns-in-None : goal.returns-in-None
returns-in-None c = λ code.
    sym (ap is_some (none_named code c.args.name c.args.self.now.standing.contexts.items c.in-None.ensures))

pub returns-in-Some : goal.returns-in-Some
returns-in-Some c = λ code.
    let found = c.in-Some.ensures in
    let contexts = c.args.self.now.standing.contexts.items in
    sym (ap (λ (t : Name). is_some (context_of t (map (context_in code) contexts))) found.1
    ∙ some_named code contexts found.0.0 _ found.0.1 found.0.2)
