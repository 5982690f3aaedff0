use Rattle.std.proofs.Common.{◌≡◌, ◌∙◌, ap, sym, rules, SFits, to_z, of_z, w64}
use Rattle.std.proofs.lemmas.Int.{to_z-of_z}
use Rattle.std.specs.Option.{option_copied_mut}
use Rattle.nodelet_mem.specs.Pages.{page_numbered, page_of}
use Rattle.nodelet_mem.proofs.PagesKept.{pages_written}
use Rattle.nodelet_mem.proofs.pages.Pages.store.Goals as goal

pub invariant_of-self : goal.invariant_of-self
invariant_of-self c = rw (c.get_mut.follows.holds c.set.new.self).0 (pages_written _ _ _ c.self.invariant c.set.ensures.size)

pub store_apart-requires : goal.store_apart-requires
store_apart-requires c =
    let fits : SFits w64 c.page_of.result = search rules in
    let key : page_of (to_z w64 (of_z w64 c.args.address)) ≡ to_z w64 (of_z w64 c.page_of.result) = sym (to_z-of_z w64 c.page_of.result fits ∙ c.page_of.ensures.number) in
    record {
      none = ap (λ m. page_numbered m.entries (page_of (to_z w64 (of_z w64 c.args.address)))) c.get_mut.follows.holds-at-none
          ∙ ap (page_numbered c.self.inside.by_number.entries) key
          ∙ sym c.get_mut.ensures.value
          ∙ ap option_copied_mut c.in-None.is;
    }
