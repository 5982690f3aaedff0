use Rattle.std.proofs.Common.{[], ◌++◌, map, ap, sym, ◌∙◌, flat_map}
use Rattle.std.specs.Prelude.{slice_get}
use Rattle.word_ops.specs.Report.{below}
use Rattle.core_model.specs.Contexts.{Context}
use Rattle.nodelet_core.specs.Kept.{names_at}
use Rattle.sim_core.specs.Kept.{setup_in, node_by}
use Rattle.sim_core.specs.code.Named.{names_from}
use Rattle.sim_core.proofs.CensusKept.{standing_named, travelling_named}
use Rattle.sim_core.proofs.machine.Core.census.Goals as goal

pub returns : goal.returns
returns c code =
    let kept = c.args.self.now in
    let u = setup_in code kept in
    c.in_ok-add_travelling.ensures
    ∙ ap (λ names. names ++ flat_map names_from c.as_slice-2.result.now)
    (c.in_ok-add_standing.ensures ∙ ap (λ names. names ++ flat_map names_at c.as_slice.result.now) c.new-names.ensures)
    ∙ ap (λ nodes. [] ++ flat_map names_at nodes ++ flat_map names_from c.as_slice-2.result.now) c.as_slice.ensures.value
    ∙ ap (λ links. flat_map names_at kept.nodes.items ++ flat_map names_from links) c.as_slice-2.ensures.value
    ∙ ap (λ names. names ++ flat_map names_from kept.links.items) (sym (standing_named u kept.nodes.items kept.links.items kept.nodes_count))
    ∙ ap (λ names. flat_map (λ k. map (λ (x : Context). x.name) (node_by u k (slice_get kept.nodes.items k)).contexts) (below u.nodelets) ++ names) (sym (travelling_named u kept.nodes.items kept.links.items kept.links_count kept.all_linked))
