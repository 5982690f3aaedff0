use Rattle.std.proofs.Common.{◌≡◌, ◌+◌, ◌-◌, ap, ◌∙◌, sym, subst, false, arith, get_or, to_z, of_z, w64}
use Rattle.std.specs.Prelude.{nat_lt}
use Rattle.std.proofs.lemmas.Bool.Decides.{nat_tests}
use Rattle.std.proofs.lemmas.Int.{to_z-of_z}
use Rattle.nodelet_mem.specs.Grants.{is_within, is_granted_by, IsPlace}
use Rattle.nodelet_mem.specs.GrantsState.{GrantsState}
use Rattle.nodelet_mem.specs.declared.grants.Run.{Run}
use Rattle.nodelet_mem.proofs.RunsJoined.{none_found, last_tells}
use Rattle.nodelet_mem.proofs.grants.Grants.contains.Goals as goal

pub returns-then-place-gt0 : goal.returns-then-place-gt0
returns-then-place-gt0 c =
    let items = c.self.inside.runs.items in
    let a = c.args.address in
    let p = c.place_of-place.result in
    let same : to_z w64 (of_z w64 a) ≡ a = to_z-of_z w64 a c.ranges.address in
    let is : IsPlace items a p = subst (λ x. IsPlace items x p) same (subst (λ l. IsPlace l (to_z w64 (of_z w64 a)) p) c.deref.ensures.value c.place_of-place.ensures) in
    let next : (p - 1) + 1 ≡ p = omega arith in
    let d = c.index.result.now in
    c.contains.ensures
    ∙ ap (λ (r : Run). is_within r.first r.end (to_z w64 (of_z w64 a))) c.index.ensures
    ∙ ap (is_within (get_or items (p - 1) d).first (get_or items (p - 1) d).end) same
    ∙ last_tells items a p (p - 1) d next c.self.invariant is
    ∙ ap (λ (g : GrantsState). is_granted_by g.runs a) c.self.view_is

pub returns-else-place-gt0 : goal.returns-else-place-gt0
returns-else-place-gt0 c =
    let items = c.self.inside.runs.items in
    let a = c.args.address in
    let p = c.place_of-place.result in
    let same : to_z w64 (of_z w64 a) ≡ a = to_z-of_z w64 a c.ranges.address in
    let is : IsPlace items a p = subst (λ x. IsPlace items x p) same (subst (λ l. IsPlace l (to_z w64 (of_z w64 a)) p) c.deref.ensures.value c.place_of-place.ensures) in
    let none : nat_lt 0 p ≡ false = grind (arith, nat_tests) in
    none ∙ sym (none_found items a p c.if-place-gt0.false is) ∙ ap (λ (g : GrantsState). is_granted_by g.runs a) c.self.view_is
