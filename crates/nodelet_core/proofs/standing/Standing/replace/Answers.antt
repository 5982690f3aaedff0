use Rattle.std.proofs.Common.{◌≡◌, ap, sym, ◌∙◌, subst, slice_set}
use Rattle.threadlet_state.specs.declared.context.Context as carried
use Rattle.nodelet_core.specs.code.Standing.{ascends, names_of}
use Rattle.nodelet_core.specs.code.Changed.{IsWith}
use Rattle.nodelet_core.proofs.Changed.{in_place, names_kept}
use Rattle.nodelet_core.proofs.Lateness.{missing}
use Rattle.nodelet_core.proofs.standing.Standing.replace.Goals as goal

pub invariant_of-self : goal.invariant_of-self
invariant_of-self c =
    let v = c.args.self.now in
    let is : c.replace.new.dest ≡ c.args.x = cc in
    record {
      same_names = subst (λ (y : carried.Context). names_of (slice_set v.contexts.items c.in-Ok.i y) ≡ v.names) (sym is) (names_kept c.args.x v.contexts.items c.in-Ok.i c.in-Ok.ensures.1 ∙ v.same_names);
      ascending = v.ascending;
    }

pub returns-in-Ok : goal.returns-in-Ok
returns-in-Ok c =
    let v = c.args.self.now in
    let is : c.replace.new.dest ≡ c.args.x = cc in
    subst (λ (y : carried.Context). IsWith c.args.x v.contexts.items (slice_set v.contexts.items c.in-Ok.i y)) (sym is)
    (in_place c.args.x v.contexts.items c.in-Ok.i (ap ascends v.same_names ∙ v.ascending) c.in-Ok.ensures.0 c.in-Ok.ensures.1)

pub returns-in-Err : goal.returns-in-Err
returns-in-Err c = absurd (missing c.args.x.name (names_of c.args.self.now.contexts.items) c.in-Err.field-0 c.in-Err.ensures c.requires)
