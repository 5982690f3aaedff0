use Rattle.std.proofs.Common.{Less, Equal, Greater, ◌≡◌, ◌<◌, length, get_or, sym, ap, ◌∙◌, subst, arith}
use Rattle.word_ops.specs.contracts.name.NameOrd.TheImpl.{ghosts as by}
use Rattle.nodelet_core.specs.code.Standing.{ascends}
use Rattle.nodelet_core.proofs.Found.{same, never_falls, name_at, as_many, not_here}
use Rattle.nodelet_core.proofs.standing.Standing.find.Goals as goal

pub returns-in-Ok : goal.returns-in-Ok
returns-in-Ok c =
    let v = c.args.self.now in
    let x = c.index.result.now in
    let i = c.in-Ok.i in
    let names = c.as_slice.ensures ∙ sym v.same_names in
    let at : get_or v.contexts.items i x ≡ x = sym c.index.ensures in
    let there : i < length v.contexts.items = omega (arith, c.in-Ok.ensures.bound, ap length names, as_many v.contexts.items) in
    let equal = subst (λ l. by.cmp (get_or l i x.name) c.args.name ≡ Equal) names (c.in-Ok.ensures.ok x.name) in
    ((i, there, at), same _ c.args.name equal ∙ name_at v.contexts.items i x ∙ ap (λ y. y.name) at)

pub returns-in-Err : goal.returns-in-Err
returns-in-Err c =
    let v = c.args.self.now in
    let i = c.in-Err.field-0 in
    let names = c.as_slice.ensures ∙ sym v.same_names in
    let parts = c.in-Err.ensures.position (never_falls c.args.name c.as_slice.result.now (ap ascends c.as_slice.ensures ∙ v.ascending)) in
    let size : length c.as_slice.result.now ≡ length v.contexts.items = ap length names ∙ as_many v.contexts.items in
    not_here v.contexts.items c.args.name i
    (λ k d lt ok. subst (λ l. by.cmp (get_or l k d) c.args.name ≡ Less) names (parts.0 k d (omega arith) lt))
    (λ k d le lt. subst (λ l. by.cmp (get_or l k d) c.args.name ≡ Greater) names (parts.1 k d le (omega (arith, size, lt))))
