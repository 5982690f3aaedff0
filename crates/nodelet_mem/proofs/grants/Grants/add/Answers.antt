use Rattle.std.proofs.Common.{◌≡◌, ℕ, ℤ, pos, ◌+◌, ◌-◌, ◌+ℤ◌, ◌≤ℤ◌, ◌<ℤ◌, ◌<◌, ap, ◌∙◌, sym, subst, arith, get_or, Fits, SFits, to_z, of_z, w64}
use Rattle.std.specs.Prelude.{◌||◌}
use mir.Syntax.{w128}
use Rattle.std.specs.List.{insert}
use Rattle.std.proofs.lemmas.Int.{to_z-of_z, ints}
use Rattle.nodelet_mem.specs.Grants.{is_within, is_granted_by, IsPlace}
use Rattle.nodelet_mem.specs.declared.grants.Run.{Run}
use Rattle.nodelet_mem.specs.GrantsState.{GrantsState}
use Rattle.nodelet_mem.proofs.RunsJoined.{no_run}
use Rattle.nodelet_mem.proofs.RunsOrdered.{ends_behind}
use Rattle.nodelet_mem.proofs.RunsPut.{touched_ordered, touched_same, put_granted, put_ordered}
use Rattle.nodelet_mem.proofs.grants.Grants.add.Goals as goal

wide_enough : (first : ℤ) (count : ℕ) → SFits w64 first → Fits w64 count
    → to_z w128 (of_z w128 (to_z w128 (of_z w128 first) +ℤ to_z w128 (of_z w128 (pos count)))) ≡ first +ℤ pos count
wide_enough first count f g = omega (arith, ints)

not_before : (first : ℤ) (count : ℕ) → first ≤ℤ (first +ℤ pos count)
not_before first count = omega (arith, ints)

end_is : (first x y : ℤ) (count : ℕ) → SFits w64 first → Fits w64 count → x ≡ to_z w64 (of_z w64 first) → y ≡ pos count
    → to_z w128 (of_z w128 (to_z w128 (of_z w128 x) +ℤ to_z w128 (of_z w128 y))) ≡ first +ℤ pos count
end_is first x y count f g e k =
    ap (λ z. to_z w128 (of_z w128 (to_z w128 (of_z w128 z) +ℤ to_z w128 (of_z w128 y)))) (e ∙ to_z-of_z w64 first f)
    ∙ ap (λ z. to_z w128 (of_z w128 (to_z w128 (of_z w128 first) +ℤ to_z w128 (of_z w128 z)))) k
    ∙ wide_enough first count f g

pub invariant_of-self : goal.invariant_of-self
invariant_of-self c =
    let items = c.self.inside.runs.items in
    let p = c.place_of-place.result in
    let near : (d : Run) → to_z w64 (of_z w64 c.args.first) ≤ℤ (get_or c.deref-2.result.now (p - 1) d).end = (c.is_touched.ensures.yes c.if-is_touched.true).1 in
    let some : 0 < p = (c.is_touched.ensures.yes c.if-is_touched.true).0 in
    let next : (p - 1) + 1 ≡ p = omega arith in
    let is : IsPlace items (to_z w64 (of_z w64 c.args.first)) p = subst (λ l. IsPlace l (to_z w64 (of_z w64 c.args.first)) p) c.deref.ensures.value c.place_of-place.ensures in
    touched_ordered items c.raise.new.runs.items p (p - 1) _ _ next is
    (λ d. subst (λ l. to_z w64 (of_z w64 c.args.first) ≤ℤ (get_or l (p - 1) d).end) c.deref-2.ensures.value (near d)) c.raise.ensures c.self.invariant

pub returns-then-is_touched-clause-ok : goal.returns-then-is_touched-clause-ok
returns-then-is_touched-clause-ok c =
    let items = c.self.inside.runs.items in
    let p = c.place_of-place.result in
    let from = to_z w64 (of_z w64 c.args.first) in
    let near : (d : Run) → to_z w64 (of_z w64 c.args.first) ≤ℤ (get_or c.deref-2.result.now (p - 1) d).end = (c.is_touched.ensures.yes c.if-is_touched.true).1 in
    let some : 0 < p = (c.is_touched.ensures.yes c.if-is_touched.true).0 in
    let next : (p - 1) + 1 ≡ p = omega arith in
    let is : IsPlace items from p = subst (λ l. IsPlace l from p) c.deref.ensures.value c.place_of-place.ensures in
    let ends = end_is c.args.first c.from.result c.from-2.result c.args.count c.ranges.first c.ranges.count c.from.ensures c.from-2.ensures in
    let same : from ≡ c.args.first = to_z-of_z w64 c.args.first c.ranges.first in
    λ a. touched_same items c.raise.new.runs.items p (p - 1) from _ next is
    (λ d. subst (λ l. from ≤ℤ (get_or l (p - 1) d).end) c.deref-2.ensures.value (near d)) c.raise.ensures a no_run
    ∙ ap (λ e. is_granted_by items a || is_within from e a) ends
    ∙ ap (λ f. is_granted_by items a || is_within f (c.args.first +ℤ pos c.args.count) a) same
    ∙ ap (λ (g : GrantsState). is_granted_by g.runs a || is_within c.args.first (c.args.first +ℤ pos c.args.count) a) c.self.view_is

pub invariant_of-self-2 : goal.invariant_of-self-2
invariant_of-self-2 c =
    let items = c.self.inside.runs.items in
    let p = c.place_of-place.result in
    let from = to_z w64 (of_z w64 c.args.first) in
    let is : IsPlace items from p = subst (λ l. IsPlace l from p) c.deref.ensures.value c.place_of-place.ensures in
    let run : Run = record { first = from; end = to_z w128 (of_z w128 (to_z w128 (of_z w128 c.from.result) +ℤ to_z w128 (of_z w128 c.from-2.result))) } in
    let apart : (k : ℕ) (d : Run) → k < p → (get_or c.deref-2.result.now k d).end <ℤ from = c.is_touched.ensures.no c.if-is_touched.false in
    let ends = end_is c.args.first c.from.result c.from-2.result c.args.count c.ranges.first c.ranges.count c.from.ensures c.from-2.ensures in
    let same : from ≡ c.args.first = to_z-of_z w64 c.args.first c.ranges.first in
    put_ordered items c.put.new.runs.items c.raise-2.new.runs.items p run is
    (c.put.ensures.items ∙ ap (λ l. insert l p run) c.in_ok-reserve.ensures.items) c.raise-2.ensures c.self.invariant
    (λ k d less. subst (λ l. (get_or l k d).end <ℤ from) c.deref-2.ensures.value (apart k d less))
    (subst (λ e. from ≤ℤ e) (sym ends) (subst (λ f. f ≤ℤ (c.args.first +ℤ pos c.args.count)) (sym same) (not_before c.args.first c.args.count)))

pub returns-clause-ok : goal.returns-clause-ok
returns-clause-ok c =
    let items = c.self.inside.runs.items in
    let p = c.place_of-place.result in
    let from = to_z w64 (of_z w64 c.args.first) in
    let is : IsPlace items from p = subst (λ l. IsPlace l from p) c.deref.ensures.value c.place_of-place.ensures in
    let ends = end_is c.args.first c.from.result c.from-2.result c.args.count c.ranges.first c.ranges.count c.from.ensures c.from-2.ensures in
    let same : from ≡ c.args.first = to_z-of_z w64 c.args.first c.ranges.first in
    let run : Run = record { first = from; end = to_z w128 (of_z w128 (to_z w128 (of_z w128 c.from.result) +ℤ to_z w128 (of_z w128 c.from-2.result))) } in
    λ a. put_granted items c.put.new.runs.items c.raise-2.new.runs.items p run is
    (c.put.ensures.items ∙ ap (λ l. insert l p run) c.in_ok-reserve.ensures.items) c.raise-2.ensures a no_run
    ∙ ap (λ e. is_granted_by items a || is_within from e a) ends
    ∙ ap (λ f. is_granted_by items a || is_within f (c.args.first +ℤ pos c.args.count) a) same
    ∙ ap (λ (g : GrantsState). is_granted_by g.runs a || is_within c.args.first (c.args.first +ℤ pos c.args.count) a) c.self.view_is

pub raise-requires-2 : goal.raise-requires-2
raise-requires-2 c =
    let items = c.self.inside.runs.items in
    let p = c.place_of-place.result in
    let from = to_z w64 (of_z w64 c.args.first) in
    let is : IsPlace items from p = subst (λ l. IsPlace l from p) c.deref.ensures.value c.place_of-place.ensures in
    let run : Run = record { first = from; end = to_z w128 (of_z w128 (to_z w128 (of_z w128 c.from.result) +ℤ to_z w128 (of_z w128 c.from-2.result))) } in
    ends_behind items c.put.new.runs.items p run (c.put.ensures.items ∙ ap (λ l. insert l p run) c.in_ok-reserve.ensures.items) is.within c.self.invariant
