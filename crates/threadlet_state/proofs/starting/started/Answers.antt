use Rattle.std.proofs.Common.{◌≡◌, ◌++◌, ◌∷◌, [], length, sym, ap, ◌∙◌, arith}
use Rattle.threadlet_code.specs.declared.code.Code.{Code}
use Rattle.threadlet_state.specs.declared.frame.Frame.{Frame}
use Rattle.threadlet_state.specs.Fit.{frames_fit}
use Rattle.threadlet_state.proofs.Entering.{arguments_are, starting_fits}
use Rattle.threadlet_state.proofs.Here.{params_fit}
use Rattle.threadlet_state.proofs.starting.started.Goals as goal

pub entered-requires : goal.entered-requires
entered-requires c =
    let code : Code = c.code-text.result.now in
    let count = arguments_are c.args.code.now.code code c.code-text.ensures.code c.args.function c.at-f.result.now (length c.args.args.now) c.at-f.ensures c.requires.args in
    omega (arith, count, params_fit code c.code-text.ensures.sound c.args.function c.at-f.result.now c.at-f.ensures)

pub returns-clause-fits : goal.returns-clause-fits
returns-clause-fits c =
    let code : Code = c.code-text.result.now in
    let count = arguments_are c.args.code.now.code code c.code-text.ensures.code c.args.function c.at-f.result.now (length c.args.args.now) c.at-f.ensures c.requires.args in
    let frame : Frame = c.in_ok-entered.field-0 in
    let alone : c.add.new.self ≡ frame ∷ [] = c.in_ok-add.ensures.ok ∙ ap (λ l. l ++ frame ∷ []) c.new-frames.ensures in
    ap (λ (x : Code). frames_fit x c.add.new.self) (sym c.code-text.ensures.code)
    ∙ ap (frames_fit code) alone
    ∙ starting_fits code c.code-text.ensures.sound c.args.function c.at-f.result.now c.args.args.now c.at-f.ensures count frame c.in_ok-entered.ensures.entered c.in_ok-entered.ensures.laid
