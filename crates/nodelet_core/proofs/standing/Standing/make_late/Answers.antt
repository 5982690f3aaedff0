use Rattle.std.proofs.Common.{sym, ap, ◌∙◌, Some}
use Rattle.threadlet_state.specs.declared.context.Context as carried
use Rattle.nodelet_core.specs.code.Standing.{ascends}
use Rattle.nodelet_core.proofs.Changed.{names_kept}
use Rattle.nodelet_core.proofs.Lateness.{is_late, none_late, own_name}
use Rattle.nodelet_core.proofs.standing.Standing.make_late.Goals as goal

pub invariant_of-self : goal.invariant_of-self
invariant_of-self c =
    let v = c.args.self.now in
    let x = c.index_mut-x.result.now in
    let y : carried.Context = record x { late = Some c.later.result } in
    record {
      same_names = names_kept y v.contexts.items c.in-Ok.i (own_name c.args.name v.contexts.items c.in-Ok.i x c.in-Ok.ensures.1 (sym c.index_mut-x.ensures.value)) ∙ v.same_names;
      ascending = v.ascending;
    }

pub returns-in-Ok : goal.returns-in-Ok
returns-in-Ok c =
    let v = c.args.self.now in
    is_late c.args.name c.args.at v.contexts.items c.in-Ok.i c.index_mut-x.result.now c.later.result (ap ascends v.same_names ∙ v.ascending) c.in-Ok.ensures.0 c.in-Ok.ensures.1 (sym c.index_mut-x.ensures.value) c.later.ensures

pub returns-in_default : goal.returns-in_default
returns-in_default c = none_late c.args.name c.args.at c.args.self.now.contexts.items c.in_default.field-0 c.in_default.ensures
