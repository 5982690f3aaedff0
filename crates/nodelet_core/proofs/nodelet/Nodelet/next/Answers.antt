use Rattle.std.proofs.Common.{Option, sym, ap, ◌∙◌, map}
use Rattle.std.specs.Prelude.{option_and_then}
use Rattle.word_ops.specs.declared.name.Name.{Name}
use Rattle.threadlet_code.specs.Running.{halt}
use Rattle.core_model.specs.Contexts.{Context, context_of}
use Rattle.nodelet_core.specs.Carried.{context_in}
use Rattle.nodelet_core.specs.Kept.{node_of, setup_of, next_by, context_fits}
use Rattle.core_model.specs.Runs.{taken_up}
use Rattle.nodelet_core.specs.code.Standing.{ascends, is_among}
use Rattle.nodelet_core.proofs.Found.{none_named, found_is, holds_at, home_among}
use Rattle.nodelet_core.proofs.nodelet.Nodelet.next.Goals as goal

pub next_of-requires : goal.next_of-requires
next_of-requires c =
    let contexts = c.args.self.now.standing.contexts.items in
    let x = c.in-Some.context.now in
    let found = c.in-Some.ensures in
    record {
      home = home_among c.args.self.now.nodelets x (holds_at (is_among c.args.self.now.nodelets) contexts c.args.self.now.among found.0.0 x found.0.1 found.0.2);
      fits = holds_at (context_fits c.args.code.now.code) contexts c.requires.fits found.0.0 x found.0.1 found.0.2;
    }

pub returns-in-None : goal.returns-in-None
returns-in-None c =
    let code = c.args.code.now.code in
    let v = c.args.self.now in
    sym (ap (λ (o : Option Context). next_by (option_and_then (λ x. taken_up (setup_of code v) v.number (node_of code v) x (halt code x.state)) o))
    (none_named code c.args.name v.standing.contexts.items c.in-None.ensures))

pub returns-in-Some : goal.returns-in-Some
returns-in-Some c =
    let code = c.args.code.now.code in
    let v = c.args.self.now in
    let contexts = v.standing.contexts.items in
    let found = c.in-Some.ensures in
    c.next_of.ensures
    ∙ sym (ap (λ (o : Option Context). next_by (option_and_then (λ x. taken_up (setup_of code v) v.number (node_of code v) x (halt code x.state)) o))
    (ap (λ (t : Name). context_of t (map (context_in code) contexts)) found.1 ∙ found_is code contexts (ap ascends v.standing.same_names ∙ v.standing.ascending) found.0.0 c.in-Some.context.now found.0.1 found.0.2))
