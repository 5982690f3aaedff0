use Rattle.std.proofs.Common.{◌≡◌, List, false, Some, refl, sym, ap, ◌∙◌, subst}
use Rattle.rand_pcg.specs.Lcg.{Lcg}
use Rattle.rand_pcg.specs.Pcg.{pcg32}
use Rattle.word_ops.specs.declared.step.Step.{Step}
use Rattle.core_model.specs.Nodes.{Setup}
use Rattle.sim_core.specs.Kept.{setup_in, core_in}
use Rattle.sim_core.specs.code.Numbered.{setup_with}
use Rattle.serial_sim.specs.Schedule.{picked, has_trapped}
use Rattle.serial_sim.specs.code.Going.{IsChosen, IsGoing}
use Rattle.serial_sim.proofs.GoesFurther.{reached, goes_from_start, goes_further, goes_down}
use Rattle.serial_sim.proofs.LegalOnes.{picked_is_legal}
use Rattle.serial_sim.proofs.playing.play_out.Goals as goal

pub loop-told-init : goal.loop-told-init
loop-told-init c =
    let r = c.in_ok-core.ensures in
    record {
      going = goes_from_start c.args.code.now.code c.args.seed (setup_with c.args.code.now.code c.args.n c.args.turns c.args.rules) c.in_ok-core.core c.in_ok-core.core c.seed_from_u64-generator.result c.new-told.result
          r.core
          (ap (λ n. setup_with c.args.code.now.code n c.in_ok-core.core.turns c.in_ok-core.core.rules) r.nodelets
          ∙ ap (λ turns. setup_with c.args.code.now.code c.args.n turns c.in_ok-core.core.rules) r.turns
          ∙ ap (setup_with c.args.code.now.code c.args.n c.args.turns) r.rules)
          r.entries c.seed_from_u64-generator.ensures c.new-told.ensures;
      fits = r.fits;
      count = r.nodelets;
    }

pub happen-requires-clause-legal : goal.happen-requires-clause-legal
happen-requires-clause-legal c =
    let chosen = subst (IsChosen (setup_in c.args.code.now.code c.loop-told.core) (core_in c.args.code.now.code c.loop-told.core) c.loop-told.generator c.next_event.new.generator) c.in-Some.is c.in_ok-event.ensures in
    picked_is_legal (setup_in c.args.code.now.code c.loop-told.core) (core_in c.args.code.now.code c.loop-told.core) (pcg32 c.loop-told.generator).0 c.in-Some.event chosen.1

pub happen-requires-clause-reached : goal.happen-requires-clause-reached
happen-requires-clause-reached c = reached _ _ _ c.loop-told.core c.loop-told.core _ _ c.loop-told.invariant.going

pub loop-told-smaller : goal.loop-told-smaller
loop-told-smaller c =
    let happened = c.in_ok-happen.ensures.ok in
    goes_down _ _ _ c.loop-told.core c.happen.new.core _ _ c.args.code.now.sound c.requires.some refl c.in-Some.event c.loop-told.invariant.going happened.advanced

pub loop-told-preserved : goal.loop-told-preserved
loop-told-preserved c =
    let happened = c.in_ok-happen.ensures.ok in
    let chosen = subst (IsChosen (setup_in c.args.code.now.code c.loop-told.core) (core_in c.args.code.now.code c.loop-told.core) c.loop-told.generator c.next_event.new.generator) c.in-Some.is c.in_ok-event.ensures in
    let u = setup_with c.args.code.now.code c.args.n c.args.turns c.args.rules in
    let going = c.loop-told.invariant.going in
    let on : has_trapped u (core_in c.args.code.now.code c.loop-told.core) ≡ false =
    ap (λ (v : Setup). has_trapped v (core_in c.args.code.now.code c.loop-told.core)) (sym going.setup) ∙ chosen.0 in
    let pick : picked u (core_in c.args.code.now.code c.loop-told.core) (pcg32 c.loop-told.generator).0 ≡ Some c.in-Some.event =
    ap (λ (v : Setup). picked v (core_in c.args.code.now.code c.loop-told.core) (pcg32 c.loop-told.generator).0) (sym going.setup) ∙ chosen.1 in
    let further = goes_further c.args.code.now.code c.args.seed u c.loop-told.core c.happen.new.core c.loop-told.generator c.loop-told.told c.in-Some.event going happened.advanced on pick in
    let P : Lcg → Type 0 = λ g. IsGoing c.args.code.now.code c.args.seed u c.happen.new.core g c.happen.new.told in
    let Q : List Step → Type 0 = λ told. IsGoing c.args.code.now.code c.args.seed u c.happen.new.core (pcg32 c.loop-told.generator).1 told in
    record {
      going = subst P (sym chosen.2) (subst Q (sym happened.told) further);
      fits = c.in_ok-happen.ensures.fits;
      count = happened.advanced.settings.count ∙ c.loop-told.invariant.count;
    }
