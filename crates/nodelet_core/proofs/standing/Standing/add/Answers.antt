use Rattle.std.proofs.Common.{◌≡◌, sym, ap, ◌∙◌, subst, arith}
use Rattle.std.specs.Prelude.{Err, is_ok}
use Rattle.std.specs.List.{insert}
use Rattle.nodelet_core.specs.code.Standing.{ascends, names_of}
use Rattle.nodelet_core.specs.code.Changed.{IsPlace}
use Rattle.nodelet_core.proofs.Coming.{insert_ascends}
use Rattle.nodelet_core.proofs.Arriving.{put_in}
use Rattle.nodelet_core.proofs.Changed.{inserted, in_place, names_inserted, names_kept}
use Rattle.nodelet_core.proofs.standing.Standing.add.Goals as goal

pub invariant_of-self : goal.invariant_of-self
invariant_of-self c =
    let v = c.args.self.now in
    record {
      same_names = names_kept c.args.x v.contexts.items c.in-Ok.i c.in-Ok.ensures.1 ∙ v.same_names;
      ascending = v.ascending;
    }

pub returns-in-Ok-clause-ok : goal.returns-in-Ok-clause-ok
returns-in-Ok-clause-ok c =
    let v = c.args.self.now in
    in_place c.args.x v.contexts.items c.in-Ok.i (ap ascends v.same_names ∙ v.ascending) c.in-Ok.ensures.0 c.in-Ok.ensures.1

pub invariant_of-self-in-Err : goal.invariant_of-self-in-Err
invariant_of-self-in-Err c =
    let v = c.args.self.now in
    let i = c.in-Err.i in
    let items = put_in (is_ok c.insert.result) c.insert.new.self.items c.reserve.new.self.items v.contexts.items i c.args.x c.insert.ensures.items (c.insert.ensures.succeeds (omega (arith, c.in_ok-reserve-in-Err.ensures.ok))) c.reserve.ensures.items in
    let names : c.insert_name.new.names ≡ insert v.names i c.args.x.name = c.in_ok-insert_name-in-Err.ensures.ok in
    let place : IsPlace c.args.x.name (names_of v.contexts.items) (Err i) = c.in-Err.ensures in
    let there = subst (λ l. IsPlace c.args.x.name l (Err i)) v.same_names place in
    record {
      same_names = names_inserted c.args.x v.contexts.items c.insert.new.self.items i v.names v.same_names items ∙ sym names;
      ascending = ap ascends names ∙ insert_ascends c.args.x.name v.names i v.ascending there.0 there.1 there.2;
    }

pub returns-in_ok-insert_name-in-Err-clause-ok : goal.returns-in_ok-insert_name-in-Err-clause-ok
returns-in_ok-insert_name-in-Err-clause-ok c =
    let v = c.args.self.now in
    let i = c.in-Err.i in
    let items = put_in (is_ok c.insert.result) c.insert.new.self.items c.reserve.new.self.items v.contexts.items i c.args.x c.insert.ensures.items (c.insert.ensures.succeeds (omega (arith, c.in_ok-reserve-in-Err.ensures.ok))) c.reserve.ensures.items in
    inserted c.args.x v.contexts.items c.insert.new.self.items i c.in-Err.ensures items
