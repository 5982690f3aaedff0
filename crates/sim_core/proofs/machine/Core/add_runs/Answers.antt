use Rattle.std.proofs.Common.{◌≡◌, ◌++◌, List, sym, ap, ◌∙◌, ℕ, refl, map, arith}
use Rattle.std.proofs.lemmas.List.{take_all}
use Rattle.std.specs.Prelude.{filter, [], ◌∷◌, if◌then◌else◌}
use Rattle.threadlet_code.specs.declared.code.Code.{Code}
use Rattle.threadlet_state.specs.declared.context.Context as carried
use Rattle.core_model.specs.Contexts.{Context}
use Rattle.nodelet_core.specs.Carried.{context_in}
use Rattle.nodelet_core.specs.Kept.{carried_at}
use Rattle.merge_law.specs.declared.event.Event.{Event}
use Rattle.merge_law.specs.declared.event.Event.TheVariants as event
use Rattle.core_model.specs.Core.{is_legal}
use Rattle.sim_core.specs.Kept.{setup_in, node_by, core_in}
use Rattle.sim_core.proofs.Listing.{listed_to, listed_on, passed, left_out}
use Rattle.sim_core.proofs.machine.Core.add_runs.Goals as goal
use Rattle.sim_core.proofs.machine.Core.add_runs.Goals.{then-legal+in_ok-add, else-legal}

pub loop-i-preserved : goal.loop-i-preserved
loop-i-preserved c =
    let events = c.loop-i.events in
    let test = is_legal (setup_in c.args.code.now.code c.args.self.now) (core_in c.args.code.now.code c.args.self.now) in
    let it : Event = event.Run c.args.k c.at.result.now in
    let next : c.if-legal.events ≡ events ++ (if test it then it ∷ [] else []) = elim c.if-legal.branch [
      | then-legal+in_ok-add w ↦ passed events c.if-legal.events (test it) it (sym c.legal.ensures ∙ w.if-legal.true) (w.events-is ∙ w.in_ok-add.ensures.ok)
      | else-legal w ↦ left_out events c.if-legal.events (test it) it (sym c.legal.ensures ∙ w.if-legal.false) w.events-is
    ] in
    listed_on c.args.events.now _ _ events c.if-legal.events (test it) it c.loop-i.invariant
    (listed_to test (λ name. event.Run c.args.k name) c.names-names.result.now c.loop-i.i c.at.result.now c.at.ensures) next

named_runs : (code : Code) (k : ℕ) (contexts : List carried.Context) → map (λ name. event.Run k name) (map (λ (x : carried.Context). x.name) contexts) ≡ map (λ (x : Context). event.Run k x.name) (map (context_in code) contexts)
named_runs code k [] = refl
named_runs code k (x ∷ xs) = ap (λ events. event.Run k x.name ∷ events) (named_runs code k xs)

pub returns : goal.returns
returns c =
    let kept = c.args.self.now in
    let code = c.args.code.now.code in
    let u = setup_in code kept in
    let names = c.names-names.result.now in
    c.loop-i.invariant
    ∙ ap (λ all. c.args.events.now ++ filter (is_legal u (core_in code kept)) all)
    (ap (map (λ name. event.Run c.args.k name)) (take_all c.loop-i.i names (omega (arith, c.len-i-end.ensures)) ∙ c.names-names.ensures)
    ∙ named_runs code c.args.k (carried_at c.node.result.now)
    ∙ ap (λ o. map (λ (x : Context). event.Run c.args.k x.name) (node_by u c.args.k o).contexts) (sym c.node.ensures))
