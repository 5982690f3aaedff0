use Rattle.std.proofs.Common.{◌≡◌, ℕ, refl, sym, ◌∙◌}
use Rattle.std.proofs.lemmas.List.{length-set}
use Rattle.std.proofs.lemmas.List.Sums.{list_all-from_AllPass}
use Rattle.std.proofs.lemmas.Option.{slice_get_read}
use Rattle.std.proofs.lemmas.Result.{on_ok_weaker}
use Rattle.nodelet_core.specs.Kept.{packet_fits, SameSettings}
use Rattle.nodelet_core.specs.Kept as nodelet
use Rattle.nodelet_core.specs.Left.{HasRun}
use Rattle.sim_core.specs.code.Links.{packets_to, has_links}
use Rattle.sim_core.proofs.AtPlaces.{list_all_at_place}
use Rattle.sim_core.proofs.Linked.{as_many_links}
use Rattle.sim_core.proofs.Legal.{fits_there}
use Rattle.sim_core.proofs.Outcomes.{in_either, all_changed, changed_numbered}
use Rattle.sim_core.proofs.Runnable.{on_err_both, run_inside, node_read, stamp_rises, context_goes, reaches_others, ran, links_fit, sent_fits, unsent_fits, unsent_still}
use Rattle.sim_core.proofs.machine.Core.run.Goals as goal

pub run-requires-clause-stamp : goal.run-requires-clause-stamp
run-requires-clause-stamp c = stamp_rises c.args.code.now.code c.args.self.now c.args.k c.args.name c.requires.legal c.index_mut.result.now c.index_mut.ensures.value

pub run-requires-clause-goes : goal.run-requires-clause-goes
run-requires-clause-goes c = context_goes c.args.code.now.code c.args.self.now c.args.k c.args.name c.requires.legal c.index_mut.result.now c.index_mut.ensures.value

pub run-requires-clause-fits : goal.run-requires-clause-fits
run-requires-clause-fits c =
    fits_there c.args.code.now.code c.args.self.now c.args.k c.index_mut.result.now
    (node_read c.args.code.now.code c.args.self.now c.args.k c.args.name c.requires.legal c.index_mut.result.now c.index_mut.ensures.value) c.requires.fits

pub run-requires-clause-reaches : goal.run-requires-clause-reaches
run-requires-clause-reaches c =
    let kept = c.args.self.now in
    let inside = run_inside c.args.code.now.code kept c.args.k c.args.name c.requires.legal in
    reaches_others kept c.args.k c.index_mut.result.now c.index_mut-2.result.now
    (slice_get_read kept.nodes.items kept.count c.args.k c.index_mut.result.now (sym kept.nodes_count) inside c.index_mut.ensures.value)
    (slice_get_read kept.links.items kept.count c.args.k c.index_mut-2.result.now (sym kept.links_count) inside c.index_mut-2.ensures.value)

pub invariant_of-self : goal.invariant_of-self
invariant_of-self c =
    let kept = c.args.self.now in
    let k = c.args.k in
    let v = c.index_mut.result.now in
    let w = c.run.new.self in
    let inside = run_inside c.args.code.now.code kept k c.args.name c.requires.legal in
    let out_was = slice_get_read kept.links.items kept.count k c.index_mut-2.result.now (sym kept.links_count) inside c.index_mut-2.ensures.value in
    let settings : SameSettings v w = in_either c.run.result c.run.ensures.ok c.run.ensures.err
    (λ (h : HasRun c.args.code.now.code v w (packets_to c.index_mut-2.result.now) (packets_to c.run.new.out) c.args.name). h.had.settings) (λ (h : nodelet.IsUnchanged v w). h.settings) in
    record {
      some = kept.some;
      few = kept.few;
      nodes_count = length-set kept.nodes.items k w ∙ kept.nodes_count;
      links_count = length-set kept.links.items k c.run.new.out ∙ kept.links_count;
      all_linked = all_changed (has_links kept.count) kept.links.items k c.run.new.out kept.all_linked
          (as_many_links kept.count c.index_mut-2.result.now c.run.new.out c.run.ensures.reaches
          (list_all_at_place (has_links kept.count) kept.links.items k c.index_mut-2.result.now kept.all_linked out_was));
      numbered = changed_numbered kept.count kept.turns kept.rules kept.nodes.items k v w settings
          (slice_get_read kept.nodes.items kept.count k v (sym kept.nodes_count) inside c.index_mut.ensures.value) kept.numbered;
    }

pub returns-clause-ok : goal.returns-clause-ok
returns-clause-ok c =
    let kept = c.args.self.now in
    let code = c.args.code.now.code in
    let k = c.args.k in
    let v = c.index_mut.result.now in
    let out = c.index_mut-2.result.now in
    let inside = run_inside code kept k c.args.name c.requires.legal in
    on_ok_weaker c.run.result
    (λ (h : HasRun code v c.run.new.self (packets_to out) (packets_to c.run.new.out) c.args.name).
    ran code kept _ k v c.run.new.self (node_read code kept k c.args.name c.requires.legal v c.index_mut.ensures.value) refl (record { count = refl; turns = refl; rules = refl }) out c.run.new.out
    (slice_get_read kept.links.items kept.count k out (sym kept.links_count) inside c.index_mut-2.ensures.value) refl c.args.name inside h)
    c.run.ensures.ok

pub returns-clause-fits : goal.returns-clause-fits
returns-clause-fits c =
    let kept = c.args.self.now in
    let code = c.args.code.now.code in
    let k = c.args.k in
    let v = c.index_mut.result.now in
    let out = c.index_mut-2.result.now in
    let inside = run_inside code kept k c.args.name c.requires.legal in
    let was = node_read code kept k c.args.name c.requires.legal v c.index_mut.ensures.value in
    let out_was = slice_get_read kept.links.items kept.count k out (sym kept.links_count) inside c.index_mut-2.ensures.value in
    let fit = links_fit code kept c.requires.fits in
    in_either c.run.result c.run.ensures.ok c.run.ensures.not_sent
    (λ (h : HasRun code v c.run.new.self (packets_to out) (packets_to c.run.new.out) c.args.name).
    sent_fits code kept c.requires.fits k c.run.new.self c.run.ensures.fits kept.links.items fit out c.run.new.out out_was h.had.more h.had.sent (λ j. list_all-from_AllPass (packet_fits code) (h.had.more j) (h.had.fit j)))
    (λ (h : (j : ℕ) → packets_to c.run.new.out j ≡ packets_to out j).
    unsent_fits code kept c.requires.fits k c.run.new.self c.run.ensures.fits kept.links.items fit out c.run.new.out out_was h)

pub returns-clause-err : goal.returns-clause-err
returns-clause-err c =
    let kept = c.args.self.now in
    let code = c.args.code.now.code in
    let k = c.args.k in
    let v = c.index_mut.result.now in
    let out = c.index_mut-2.result.now in
    let inside = run_inside code kept k c.args.name c.requires.legal in
    on_err_both c.run.result c.run.ensures.err c.run.ensures.not_sent
    (λ (same : nodelet.IsUnchanged v c.run.new.self) (unsent : (j : ℕ) → packets_to c.run.new.out j ≡ packets_to out j).
    unsent_still code kept _ k v c.run.new.self (node_read code kept k c.args.name c.requires.legal v c.index_mut.ensures.value) refl (record { count = refl; turns = refl; rules = refl }) out c.run.new.out
    (slice_get_read kept.links.items kept.count k out (sym kept.links_count) inside c.index_mut-2.ensures.value) refl same unsent)
