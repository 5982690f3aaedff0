use Rattle.std.proofs.Common.{◌≡◌, ◌+◌, ◌∷◌, [], length, Some, ap, sym, ◌∙◌, subst, length-append}
use Rattle.std.specs.Prelude.{slice_get}
use Rattle.core_model.specs.Start.{start_node}
use Rattle.sim_core.specs.code.Numbered.{IsFirst, setup_with}
use Rattle.sim_core.proofs.AtPlaces.{at_one_more}
use Rattle.sim_core.proofs.starting.first_nodes.Goals as goal

pub loop-k-preserved : goal.loop-k-preserved
loop-k-preserved c =
    let code = c.args.code.now.code in
    let k = c.loop-k.k in
    let nodes = c.loop-k.nodes.items in
    let v = c.in_ok-new.field-0 in
    let is = c.in_ok-new.ensures in
    let pushed = c.in_ok-push.ensures.items in
    let one_more = length-append nodes (v ∷ []) in
    let setup = ap (λ n. setup_with code n v.turns v.rules) is.nodelets
    ∙ ap (λ turns. setup_with code c.args.n turns v.rules) is.turns
    ∙ ap (setup_with code c.args.n c.args.turns) is.rules in
    let last : IsFirst code c.args.n c.args.turns c.args.rules k v = record {
      numbered = record { number = is.number; nodelets = is.nodelets; turns_same = is.turns; rules_same = is.rules };
      node = is.node ∙ ap (λ u. start_node u k) setup;
      fits = is.fits;
      entries = is.entries;
    } in
    record {
      count = ap length pushed ∙ one_more ∙ ap (λ i. i + 1) c.loop-k.invariant.count;
      first = λ i w e. at_one_more (IsFirst code c.args.n c.args.turns c.args.rules) nodes v c.loop-k.invariant.first
          (subst (λ j. IsFirst code c.args.n c.args.turns c.args.rules j v) (sym c.loop-k.invariant.count) last) i w
          (subst (λ ys. slice_get ys i ≡ Some w) pushed e);
    }
