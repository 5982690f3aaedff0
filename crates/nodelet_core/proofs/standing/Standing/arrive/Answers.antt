use Rattle.std.proofs.Common.{◌≡◌, sym, ap, ◌∙◌, subst, arith, slice_set, false}
use Rattle.std.specs.Prelude.{Ok, Err, is_ok}
use Rattle.std.specs.List.{insert}
use Rattle.std.specs.Result.{is_err}
use Rattle.threadlet_state.specs.declared.context.Context as carried
use Rattle.nodelet_core.specs.code.Standing.{ascends, names_of}
use Rattle.nodelet_core.specs.code.Changed.{IsPlace, IsWith}
use Rattle.nodelet_core.proofs.Coming.{insert_ascends}
use Rattle.nodelet_core.proofs.Changed.{inserted, in_place, names_inserted, names_kept}
use Rattle.nodelet_core.proofs.Arriving.{put_in, where_ok}
use Rattle.nodelet_core.proofs.standing.Standing.arrive.Goals as goal

pub invariant_of-self : goal.invariant_of-self
invariant_of-self c =
    let v = c.args.self.now in
    let x = c.into_inner.result in
    let is : c.deref.result.now ≡ x = cc in
    let place = subst (λ (y : carried.Context). IsPlace y.name (names_of v.contexts.items) (Ok c.in-Ok.i)) is c.in-Ok.ensures in
    record {
      same_names = names_kept x v.contexts.items c.in-Ok.i place.1 ∙ v.same_names;
      ascending = v.ascending;
    }

pub returns-in-Ok-clause-ok : goal.returns-in-Ok-clause-ok
returns-in-Ok-clause-ok c =
    let v = c.args.self.now in
    let x = c.into_inner.result in
    let is : c.deref.result.now ≡ x = cc in
    let place = subst (λ (y : carried.Context). IsPlace y.name (names_of v.contexts.items) (Ok c.in-Ok.i)) is c.in-Ok.ensures in
    subst (λ (y : carried.Context). IsWith y v.contexts.items (slice_set v.contexts.items c.in-Ok.i x)) c.into_inner.ensures
    (in_place x v.contexts.items c.in-Ok.i (ap ascends v.same_names ∙ v.ascending) place.0 place.1)

pub invariant_of-self-in-Err : goal.invariant_of-self-in-Err
invariant_of-self-in-Err c =
    let v = c.args.self.now in
    let i = c.in-Err.i in
    let x = c.into_inner-in-Err.result in
    let is : c.deref.result.now ≡ x = cc in
    let room : is_err c.reserve.result ≡ false = cc in
    let named : is_err c.insert_name.result ≡ false = cc in
    let items = put_in (is_ok c.insert.result) c.insert.new.self.items c.reserve.new.self.items v.contexts.items i x c.insert.ensures.items
    (c.insert.ensures.succeeds (omega (arith, where_ok c.reserve.result room c.reserve.ensures.ok))) c.reserve.ensures.items in
    let name : c.deref-else-is_err.result.now.name ≡ x.name = cc in
    let names : c.insert_name.new.names ≡ insert v.names i x.name = where_ok c.insert_name.result named c.insert_name.ensures.ok ∙ ap (insert v.names i) name in
    let place = subst (λ (y : carried.Context). IsPlace y.name (names_of v.contexts.items) (Err i)) is c.in-Err.ensures in
    let there = subst (λ l. IsPlace x.name l (Err i)) v.same_names place in
    record {
      same_names = names_inserted x v.contexts.items c.insert.new.self.items i v.names v.same_names items ∙ sym names;
      ascending = ap ascends names ∙ insert_ascends x.name v.names i v.ascending there.0 there.1 there.2;
    }

pub returns-else-is_err-2-clause-ok : goal.returns-else-is_err-2-clause-ok
returns-else-is_err-2-clause-ok c =
    let v = c.args.self.now in
    let i = c.in-Err.i in
    let x = c.into_inner-in-Err.result in
    let is : c.deref.result.now ≡ x = cc in
    let room : is_err c.reserve.result ≡ false = cc in
    let items = put_in (is_ok c.insert.result) c.insert.new.self.items c.reserve.new.self.items v.contexts.items i x c.insert.ensures.items
    (c.insert.ensures.succeeds (omega (arith, where_ok c.reserve.result room c.reserve.ensures.ok))) c.reserve.ensures.items in
    let place = subst (λ (y : carried.Context). IsPlace y.name (names_of v.contexts.items) (Err i)) is c.in-Err.ensures in
    subst (λ (y : carried.Context). IsWith y v.contexts.items c.insert.new.self.items) c.into_inner-in-Err.ensures
    (inserted x v.contexts.items c.insert.new.self.items i place items)
