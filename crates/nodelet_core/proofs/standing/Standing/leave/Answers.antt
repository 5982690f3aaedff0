use Rattle.std.proofs.Common.{sym, ap, ◌∙◌, arith}
use Rattle.nodelet_core.specs.code.Standing.{ascends}
use Rattle.nodelet_core.proofs.Found.{as_many, none_named, holds_at}
use Rattle.nodelet_core.proofs.Coming.{remove_ascends}
use Rattle.nodelet_core.proofs.Changed.{taken_out, none_out, nowhere, found_named, names_removed}
use Rattle.nodelet_core.proofs.standing.Standing.leave.Goals as goal

pub invariant_of-self : goal.invariant_of-self
invariant_of-self c =
    let v = c.args.self.now in
    record {
      same_names = names_removed v.contexts.items c.remove.new.self.items c.in-Ok.i v.names v.same_names c.remove.ensures.items ∙ sym c.remove_name.ensures;
      ascending = ap ascends c.remove_name.ensures ∙ remove_ascends v.names c.in-Ok.i v.ascending;
    }

pub returns-in-Ok-clause-left : goal.returns-in-Ok-clause-left
returns-in-Ok-clause-left c =
    let v = c.args.self.now in
    taken_out c.args.name v.contexts.items c.remove.new.self.items c.in-Ok.i (ap ascends v.same_names ∙ v.ascending) c.in-Ok.ensures.0 c.in-Ok.ensures.1 c.remove.ensures.items

pub returns-in-Ok-clause-taken : goal.returns-in-Ok-clause-taken
returns-in-Ok-clause-taken c =
    let v = c.args.self.now in (
      λ code. found_named code c.args.name v.contexts.items c.in-Ok.i c.remove.result (ap ascends v.same_names ∙ v.ascending) c.in-Ok.ensures.0 c.in-Ok.ensures.1 (sym c.remove.ensures.value),
      λ p all. holds_at p v.contexts.items all c.in-Ok.i c.remove.result (omega (arith, c.in-Ok.ensures.0, as_many v.contexts.items)) (sym c.remove.ensures.value),
    )

pub returns-in-Err-clause-left : goal.returns-in-Err-clause-left
returns-in-Err-clause-left c = none_out c.args.name c.args.self.now.contexts.items c.in-Err.field-0 c.in-Err.ensures

pub returns-in-Err-clause-taken : goal.returns-in-Err-clause-taken
returns-in-Err-clause-taken c =
    let v = c.args.self.now in
    λ code. none_named code c.args.name v.contexts.items (nowhere c.args.name v.contexts.items c.in-Err.field-0 c.in-Err.ensures)
