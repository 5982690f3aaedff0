use Rattle.std.proofs.Common.{[], length, sym, ap, ◌∙◌, subst, arith}
use Rattle.threadlet_code.specs.Fitting.{AreSlots}
use Rattle.threadlet_code.proofs.Fitting.{joined_size}
use Rattle.world_model.specs.Activation.{joined, Targets}
use Rattle.threadlet_state.specs.declared.frame.Frame.{Frame}
use Rattle.threadlet_state.specs.Activations.{activation}
use Rattle.threadlet_state.proofs.Bringing.{slots_among, frame_joined}
use Rattle.threadlet_state.proofs.answering.join.Goals as goal

pub bring-requires : goal.bring-requires
bring-requires c =
    let frame = c.args.frame.now in
    subst (AreSlots (length frame.words)) (sym c.as_slice.ensures)
    (slots_among c.args.f.now.slots (length frame.words) frame.targets (omega (arith, c.requires.laid.words)) c.requires.targets)

pub returns-clause-answered : goal.returns-clause-answered
returns-clause-answered c =
    let frame : Frame = c.args.frame.now in
    let results = c.args.results.now in
    let slots = c.args.f.now.slots in
    ap (λ (t : Targets). activation slots (record frame { words = c.bring.new.words; targets = t })) c.clear.ensures
    ∙ ap (λ words. activation slots (record frame { words = words; targets = [] })) (c.bring.ensures ∙ ap (λ (t : Targets). joined frame.words t results) c.as_slice.ensures)
    ∙ frame_joined slots frame results c.requires.targets

pub returns-clause-laid : goal.returns-clause-laid
returns-clause-laid c =
    let frame = c.args.frame.now in
    record {
      words = ap length c.bring.ensures ∙ joined_size frame.words c.as_slice.result.now c.args.results.now ∙ c.requires.laid.words;
      top = c.requires.laid.top;
    }
