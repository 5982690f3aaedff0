use Rattle.std.proofs.Common.{◌≡◌, ◌++◌, ◌+ℤ◌, pos, drop}
use Rattle.nodelet_mem.specs.Listing.{words_from}
use Rattle.nodelet_mem.proofs.page.Page.list.Given as goal

-- the words found so far, and those of the rest of the page, are the words of the page
abbrev pub invariant-loop-i : goal.invariant-loop-i
invariant-loop-i l = l.found.items ++ words_from (l.first +ℤ pos l.i) (drop l.i l.word-items) ≡ l.initial.found.items ++ words_from l.first l.word-items
