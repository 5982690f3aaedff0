use Rattle.std.proofs.Common.{◌≡◌, Some, cond, slice_set, sym, subst, ap, ◌∙◌, rules, SFits, to_z, of_z, w64}
use Rattle.std.specs.Ordering.{int_cmp, is_eq}
use Rattle.std.proofs.lemmas.Int.{to_z-of_z}
use Rattle.std.specs.BTreeMap.{insert_entry}
use Rattle.nodelet_mem.specs.Pages.{ArePages, page_of, place_of, word_in, page_numbered}
use Rattle.nodelet_mem.proofs.PagesKept.{pages_added}
use Rattle.nodelet_mem.proofs.WordChanged.{word_changed}
use Rattle.nodelet_mem.proofs.pages.Pages.store_apart.Goals as goal

pub invariant_of-self-2 : goal.invariant_of-self-2
invariant_of-self-2 c =
    let fits : SFits w64 c.page_of.result = search rules in
    rw c.in_ok-insert.ensures.entries
    (subst (λ k. ArePages (insert_entry int_cmp c.self.inside.by_number.entries k c.set.new.self)) (sym (to_z-of_z w64 c.page_of.result fits))
    (pages_added c.page_of.result _ _ c.self.invariant c.page_of.ensures.range c.set.ensures.size))

pub returns-clause-ok : goal.returns-clause-ok
returns-clause-ok c =
    let fits : SFits w64 c.page_of.result = search rules in
    let address : to_z w64 (of_z w64 c.args.address) ≡ c.args.address = to_z-of_z w64 c.args.address c.ranges.address in
    let key : to_z w64 (of_z w64 c.page_of.result) ≡ page_of c.args.address = to_z-of_z w64 c.page_of.result fits ∙ c.page_of.ensures.number ∙ ap page_of address in
    let place : c.place_of.result ≡ place_of c.args.address = c.place_of.ensures.place ∙ ap place_of address in
    let written : c.set.new.self ≡ slice_set c.in_ok-page.page (place_of c.args.address) c.args.word =
    c.set.ensures.words
    ∙ ap (λ i. slice_set c.in_ok-page.page i (to_z w64 (of_z w64 c.args.word))) place
    ∙ ap (slice_set c.in_ok-page.page (place_of c.args.address)) (to_z-of_z w64 c.args.word c.ranges.word) in
    word_changed c.args.self.now c.insert.new.self.entries c.args.address c.args.word c.in_ok-page.page
    (λ q. c.in_ok-insert.ensures.updates.0 q
    ∙ ap (λ k. cond (is_eq (int_cmp k q)) (Some c.set.new.self) (page_numbered c.self.inside.by_number.entries q)) key
    ∙ ap (λ p. cond (is_eq (int_cmp (page_of c.args.address) q)) (Some p) (page_numbered c.self.inside.by_number.entries q)) written
    ∙ ap (λ m. cond (is_eq (int_cmp (page_of c.args.address) q)) (Some (slice_set c.in_ok-page.page (place_of c.args.address) c.args.word)) (page_numbered m q)) c.self.view_is)
    (λ i. ap (λ p. word_in p i) c.requires.none ∙ sym (c.in_ok-page.ensures.words i))
    c.in_ok-page.ensures.size
