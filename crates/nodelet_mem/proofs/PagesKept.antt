-- What a change of one page leaves true of all.
use Rattle.std.proofs.Common.{◌≡◌, ℤ, List, length, Bool}
use Rattle.std.specs.Ordering.{int_cmp}
use Rattle.std.specs.Map.{set_value}
use Rattle.std.specs.BTreeMap.{insert_entry}
use Rattle.std.proofs.lemmas.Map.{keys-set_value}
use Rattle.std.proofs.lemmas.Map.Views.{All-values-set_value, All-values-insert_entry, All-keys-insert_entry}
use Rattle.nodelet_mem.specs.Pages.{ArePages, IsPageNumber}

pub pages_written : (test : ℤ → Bool) (pages : List (ℤ × List ℤ)) (page : List ℤ) → ArePages pages → length page ≡ 512 → ArePages (set_value test pages page)
pages_written test pages page are size = record {
  numbers = rw (keys-set_value test pages page) are.numbers;
  sizes = All-values-set_value test (λ p. length p ≡ 512) pages page are.sizes size;
}

pub pages_added : (number : ℤ) (pages : List (ℤ × List ℤ)) (page : List ℤ) → ArePages pages → IsPageNumber number → length page ≡ 512 → ArePages (insert_entry int_cmp pages number page)
pages_added number pages page are fits size = record {
  numbers = All-keys-insert_entry int_cmp number page IsPageNumber pages are.numbers fits;
  sizes = All-values-insert_entry int_cmp number page (λ p. length p ≡ 512) pages are.sizes size;
}
