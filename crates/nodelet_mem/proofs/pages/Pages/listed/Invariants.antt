use Rattle.std.proofs.Common.{◌≡◌, ◌++◌}
use Rattle.std.specs.Prelude.{All}
use Rattle.std.specs.Map.{keys_of}
use Rattle.nodelet_mem.specs.Listing.{words_of}
use Rattle.nodelet_mem.specs.Pages.{IsPageNumber}
use Rattle.nodelet_mem.proofs.pages.Pages.listed.Given as goal

-- the words found so far, and those of the pages that are left, are the words of all pages
abbrev pub invariant-loop-number : goal.invariant-loop-number
invariant-loop-number l = record {
  found : l.found.items ++ words_of l.number-iterator ≡ words_of l.self;
  numbers : All IsPageNumber (keys_of l.number-iterator);
}
