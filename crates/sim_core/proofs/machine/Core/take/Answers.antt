use Rattle.std.proofs.Common.{◌≡◌, ◌∷◌, Some, refl, sym, ap, ◌∙◌}
use Rattle.std.specs.Prelude.{◌==◌, slice_get, true}
use Rattle.std.specs.List.{list_all}
use Rattle.std.proofs.lemmas.List.{length-set}
use Rattle.std.proofs.lemmas.Option.{slice_get_read}
use Rattle.std.proofs.lemmas.List.Sums.{list_all-from_AllPass}
use Rattle.nodelet_core.specs.Kept.{all_fit, packet_fits, context_fits}
use Rattle.nodelet_core.specs.Left.{HasTaken}
use Rattle.sim_core.specs.code.Links.{packets_to, has_links}
use Rattle.sim_core.specs.Kept.{outgoing_fits}
use Rattle.sim_core.proofs.AtPlaces.{list_all_at_place}
use Rattle.core_model.proofs.Actions.Sights.{both_true}
use Rattle.sim_core.proofs.Linked.{as_many_links}
use Rattle.sim_core.proofs.Legal.{fits_there}
use Rattle.sim_core.proofs.Outcomes.{all_changed, changed_numbered, packets_fit, fits_after, still}
use Rattle.sim_core.proofs.Runnable.{reaches_others, links_fit, sent_fits}
use Rattle.sim_core.proofs.Taken.{one_waits, take_ends, taker_read, taker_links, taker_links_were, out_was, packet_stamp, taker_stamp, packet_fit, awaited, middle_fit, put_back_same, has_taken}
use Rattle.sim_core.proofs.machine.Core.take.Goals as goal

pub invariant_of-self : goal.invariant_of-self
invariant_of-self c =
    one_waits c.args.code.now.code c.args.self.now c.args.origin c.args.k c.requires.legal c.index_mut.result.now c.index_mut.ensures.value (sym c.take.ensures.first ∙ c.in_default.is)

pub returns-in_default-clause-ok : goal.returns-in_default-clause-ok
returns-in_default-clause-ok c =
    one_waits c.args.code.now.code c.args.self.now c.args.origin c.args.k c.requires.legal c.index_mut.result.now c.index_mut.ensures.value (sym c.take.ensures.first ∙ c.in_default.is)

pub returns-in_default-clause-fits : goal.returns-in_default-clause-fits
returns-in_default-clause-fits c =
    one_waits c.args.code.now.code c.args.self.now c.args.origin c.args.k c.requires.legal c.index_mut.result.now c.index_mut.ensures.value (sym c.take.ensures.first ∙ c.in_default.is)

pub deliver-taken-requires-clause-stamp : goal.deliver-taken-requires-clause-stamp
deliver-taken-requires-clause-stamp c =
    let code = c.args.code.now.code in
    let kept = c.args.self.now in
    let o = c.args.origin in
    let k = c.args.k in
    let legal = c.requires.legal in
    let out = c.index_mut.result.now in
    let read = c.index_mut.ensures.value in
    let p = c.in-Some.packet in
    let first : Some p ≡ slice_get (packets_to out k) 0 = sym c.in-Some.is ∙ c.take.ensures.first in
    let v = c.index_mut-2.result.now in
    let was = taker_read code kept o k legal v c.index_mut-2.ensures.value in
    taker_stamp code kept o k legal out read p first v was

pub deliver-taken-requires-clause-sent_at : goal.deliver-taken-requires-clause-sent_at
deliver-taken-requires-clause-sent_at c =
    let code = c.args.code.now.code in
    let kept = c.args.self.now in
    let o = c.args.origin in
    let k = c.args.k in
    let legal = c.requires.legal in
    let out = c.index_mut.result.now in
    let read = c.index_mut.ensures.value in
    let p = c.in-Some.packet in
    let first : Some p ≡ slice_get (packets_to out k) 0 = sym c.in-Some.is ∙ c.take.ensures.first in
    packet_stamp code kept o k legal out read p first

pub deliver-taken-requires-clause-awaited : goal.deliver-taken-requires-clause-awaited
deliver-taken-requires-clause-awaited c =
    let code = c.args.code.now.code in
    let kept = c.args.self.now in
    let o = c.args.origin in
    let k = c.args.k in
    let legal = c.requires.legal in
    let out = c.index_mut.result.now in
    let read = c.index_mut.ensures.value in
    let p = c.in-Some.packet in
    let first : Some p ≡ slice_get (packets_to out k) 0 = sym c.in-Some.is ∙ c.take.ensures.first in
    let v = c.index_mut-2.result.now in
    let was = taker_read code kept o k legal v c.index_mut-2.ensures.value in
    awaited code kept o k legal out read p first c.args.code.now.sound c.requires.reached v was

pub deliver-taken-requires-clause-reaches : goal.deliver-taken-requires-clause-reaches
deliver-taken-requires-clause-reaches c =
    let code = c.args.code.now.code in
    let kept = c.args.self.now in
    let o = c.args.origin in
    let k = c.args.k in
    let legal = c.requires.legal in
    let out = c.index_mut.result.now in
    let read = c.index_mut.ensures.value in
    let p = c.in-Some.packet in
    let first : Some p ≡ slice_get (packets_to out k) 0 = sym c.in-Some.is ∙ c.take.ensures.first in
    let v = c.index_mut-2.result.now in
    let was = taker_read code kept o k legal v c.index_mut-2.ensures.value in
    let out1 = c.take.new.self in
    let outk = c.index_mut-3.result.now in
    reaches_others kept k v outk was (taker_links_were code kept o k legal out1 outk c.index_mut-3.ensures.value)

pub invariant_of-self-in-Ok : goal.invariant_of-self-in-Ok
invariant_of-self-in-Ok c =
    let code = c.args.code.now.code in
    let kept = c.args.self.now in
    let o = c.args.origin in
    let k = c.args.k in
    let legal = c.requires.legal in
    let out = c.index_mut.result.now in
    let read = c.index_mut.ensures.value in
    let p = c.in-Some.packet in
    let first : Some p ≡ slice_get (packets_to out k) 0 = sym c.in-Some.is ∙ c.take.ensures.first in
    let v = c.index_mut-2.result.now in
    let was = taker_read code kept o k legal v c.index_mut-2.ensures.value in
    let out1 = c.take.new.self in
    let outk = c.index_mut-3.result.now in
    let w = c.deliver-taken.new.self in
    let linked1 : has_links kept.count out1 ≡ true = ap (λ i. i == kept.count) c.take.ensures.count ∙ list_all_at_place (has_links kept.count) kept.links.items o out kept.all_linked (out_was code kept o k legal out read p first) in
    let linkedk : has_links kept.count c.deliver-taken.new.out ≡ true = as_many_links kept.count outk c.deliver-taken.new.out c.deliver-taken.ensures.reaches
    (list_all_at_place (has_links kept.count) kept.links.items k outk kept.all_linked (taker_links_were code kept o k legal out1 outk c.index_mut-3.ensures.value)) in
    let all1 = all_changed (has_links kept.count) kept.links.items o out1 kept.all_linked linked1 in
    let all2 = all_changed (has_links kept.count) _ k c.deliver-taken.new.out all1 linkedk in
    let settings = (c.in-Ok.ensures.ok code (packet_fit code kept o k legal out read p first c.requires.fits)).had.settings in
    record {
      some = kept.some;
      few = kept.few;
      nodes_count = length-set kept.nodes.items k w ∙ kept.nodes_count;
      links_count = length-set _ k c.deliver-taken.new.out ∙ length-set kept.links.items o out1 ∙ kept.links_count;
      all_linked = all2;
      numbered = changed_numbered kept.count kept.turns kept.rules kept.nodes.items k v w settings was kept.numbered;
    }

pub invariant_of-self-in-Err : goal.invariant_of-self-in-Err
invariant_of-self-in-Err c =
    let code = c.args.code.now.code in
    let kept = c.args.self.now in
    let o = c.args.origin in
    let k = c.args.k in
    let legal = c.requires.legal in
    let out = c.index_mut.result.now in
    let read = c.index_mut.ensures.value in
    let p = c.in-Some.packet in
    let first : Some p ≡ slice_get (packets_to out k) 0 = sym c.in-Some.is ∙ c.take.ensures.first in
    let v = c.index_mut-2.result.now in
    let was = taker_read code kept o k legal v c.index_mut-2.ensures.value in
    let out1 = c.take.new.self in
    let outk = c.index_mut-3.result.now in
    let w = c.deliver-taken.new.self in
    let linked1 : has_links kept.count out1 ≡ true = ap (λ i. i == kept.count) c.take.ensures.count ∙ list_all_at_place (has_links kept.count) kept.links.items o out kept.all_linked (out_was code kept o k legal out read p first) in
    let linkedk : has_links kept.count c.deliver-taken.new.out ≡ true = as_many_links kept.count outk c.deliver-taken.new.out c.deliver-taken.ensures.reaches
    (list_all_at_place (has_links kept.count) kept.links.items k outk kept.all_linked (taker_links_were code kept o k legal out1 outk c.index_mut-3.ensures.value)) in
    let all1 = all_changed (has_links kept.count) kept.links.items o out1 kept.all_linked linked1 in
    let all2 = all_changed (has_links kept.count) _ k c.deliver-taken.new.out all1 linkedk in
    let settings = c.in-Err.ensures.err.settings in
    record {
      some = kept.some;
      few = kept.few;
      nodes_count = length-set kept.nodes.items k w ∙ kept.nodes_count;
      links_count = length-set _ o c.put_back.new.self ∙ length-set _ k c.deliver-taken.new.out ∙ length-set kept.links.items o out1 ∙ kept.links_count;
      all_linked = all_changed (has_links kept.count) _ o c.put_back.new.self all2 (ap (λ i. i == kept.count) c.put_back.ensures.count ∙ list_all_at_place (has_links kept.count) _ o c.index_mut-in-Err.result.now all2
          (slice_get_read _ kept.count o c.index_mut-in-Err.result.now (sym (length-set _ k c.deliver-taken.new.out ∙ length-set kept.links.items o out1 ∙ kept.links_count)) (take_ends code kept o k legal).origin_there c.index_mut-in-Err.ensures.value));
      numbered = changed_numbered kept.count kept.turns kept.rules kept.nodes.items k v w settings was kept.numbered;
    }

pub returns-in-Ok-clause-ok : goal.returns-in-Ok-clause-ok
returns-in-Ok-clause-ok c =
    let code = c.args.code.now.code in
    let kept = c.args.self.now in
    let o = c.args.origin in
    let k = c.args.k in
    let legal = c.requires.legal in
    let out = c.index_mut.result.now in
    let read = c.index_mut.ensures.value in
    let p = c.in-Some.packet in
    let first : Some p ≡ slice_get (packets_to out k) 0 = sym c.in-Some.is ∙ c.take.ensures.first in
    let v = c.index_mut-2.result.now in
    let was = taker_read code kept o k legal v c.index_mut-2.ensures.value in
    let out1 = c.take.new.self in
    let outk = c.index_mut-3.result.now in
    has_taken code kept o k legal out read p first out1 c.take.ensures.rest c.take.ensures.elsewhere _ v c.deliver-taken.new.self was refl (record { count = refl; turns = refl; rules = refl }) outk c.deliver-taken.new.out c.index_mut-3.ensures.value refl
    (c.in-Ok.ensures.ok code (packet_fit code kept o k legal out read p first c.requires.fits))

pub returns-in-Ok-clause-fits : goal.returns-in-Ok-clause-fits
returns-in-Ok-clause-fits c =
    let code = c.args.code.now.code in
    let kept = c.args.self.now in
    let o = c.args.origin in
    let k = c.args.k in
    let legal = c.requires.legal in
    let out = c.index_mut.result.now in
    let read = c.index_mut.ensures.value in
    let p = c.in-Some.packet in
    let first : Some p ≡ slice_get (packets_to out k) 0 = sym c.in-Some.is ∙ c.take.ensures.first in
    let v = c.index_mut-2.result.now in
    let was = taker_read code kept o k legal v c.index_mut-2.ensures.value in
    let out1 = c.take.new.self in
    let outk = c.index_mut-3.result.now in
    let body_fit = packet_fit code kept o k legal out read p first c.requires.fits in
    let h : HasTaken code v c.deliver-taken.new.self (packets_to outk) (packets_to c.deliver-taken.new.out) o p = c.in-Ok.ensures.ok code body_fit in
    sent_fits code kept c.requires.fits k c.deliver-taken.new.self (c.in-Ok.ensures.fits code (fits_there code kept k v was c.requires.fits) body_fit) _ (middle_fit code kept o k legal out read p first out1 c.take.ensures.rest c.take.ensures.elsewhere c.requires.fits) outk c.deliver-taken.new.out
    (taker_links code kept o k legal out1 outk c.index_mut-3.ensures.value) h.had.more h.had.sent (λ j. list_all-from_AllPass (packet_fits code) (h.had.more j) (h.had.fit j))

pub returns-in-Err-clause-fits : goal.returns-in-Err-clause-fits
returns-in-Err-clause-fits c =
    let code = c.args.code.now.code in
    let kept = c.args.self.now in
    let o = c.args.origin in
    let k = c.args.k in
    let legal = c.requires.legal in
    let out = c.index_mut.result.now in
    let read = c.index_mut.ensures.value in
    let p = c.in-Some.packet in
    let first : Some p ≡ slice_get (packets_to out k) 0 = sym c.in-Some.is ∙ c.take.ensures.first in
    let v = c.index_mut-2.result.now in
    let was = taker_read code kept o k legal v c.index_mut-2.ensures.value in
    let out1 = c.take.new.self in
    let outk = c.index_mut-3.result.now in
    let back : packets_to c.put_back.new.self k ≡ p ∷ packets_to c.index_mut-in-Err.result.now k = c.put_back.ensures.packets ∙ ap (λ q. q ∷ packets_to c.index_mut-in-Err.result.now k) c.in-Err.ensures.handed_back in
    let same = put_back_same code kept o k legal out read p first out1 c.take.ensures.rest c.take.ensures.elsewhere outk c.deliver-taken.new.out c.index_mut-in-Err.result.now c.put_back.new.self c.index_mut-3.ensures.value c.in-Err.ensures.not_sent c.index_mut-in-Err.ensures.value back c.put_back.ensures.elsewhere in
    let here : all_fit code c.deliver-taken.new.self ≡ true = ap (list_all (context_fits code)) c.in-Err.ensures.err.contexts ∙ fits_there code kept k v was c.requires.fits in
    fits_after code kept.nodes.items _ k c.deliver-taken.new.self (both_true (list_all (all_fit code) kept.nodes.items) (list_all (outgoing_fits code) kept.links.items) c.requires.fits).0 here
    (λ i j. ap (list_all (packet_fits code)) (same i j) ∙ packets_fit code kept.links.items (links_fit code kept c.requires.fits) i j)

pub returns-in-Err-clause-err : goal.returns-in-Err-clause-err
returns-in-Err-clause-err c =
    let code = c.args.code.now.code in
    let kept = c.args.self.now in
    let o = c.args.origin in
    let k = c.args.k in
    let legal = c.requires.legal in
    let out = c.index_mut.result.now in
    let read = c.index_mut.ensures.value in
    let p = c.in-Some.packet in
    let first : Some p ≡ slice_get (packets_to out k) 0 = sym c.in-Some.is ∙ c.take.ensures.first in
    let v = c.index_mut-2.result.now in
    let was = taker_read code kept o k legal v c.index_mut-2.ensures.value in
    let out1 = c.take.new.self in
    let outk = c.index_mut-3.result.now in
    let back : packets_to c.put_back.new.self k ≡ p ∷ packets_to c.index_mut-in-Err.result.now k = c.put_back.ensures.packets ∙ ap (λ q. q ∷ packets_to c.index_mut-in-Err.result.now k) c.in-Err.ensures.handed_back in
    let same = put_back_same code kept o k legal out read p first out1 c.take.ensures.rest c.take.ensures.elsewhere outk c.deliver-taken.new.out c.index_mut-in-Err.result.now c.put_back.new.self c.index_mut-3.ensures.value c.in-Err.ensures.not_sent c.index_mut-in-Err.ensures.value back c.put_back.ensures.elsewhere in
    still code kept _ k v c.deliver-taken.new.self was refl (record { count = refl; turns = refl; rules = refl }) c.in-Err.ensures.err same
