use Rattle.std.proofs.Common.{◌≤◌, refl, sym, ap, ◌∙◌, length, arith}
use Rattle.std.specs.Prelude.{◌==◌}
use Rattle.threadlet_code.specs.declared.code.Code.{Code}
use Rattle.ack_fence.specs.Counting.{count_of}
use Rattle.core_model.specs.Runs.{are_recorded}
use Rattle.nodelet_core.specs.Kept.{node_of}
use Rattle.nodelet_core.proofs.Seeing.{none_left, owed_is}
use Rattle.nodelet_core.proofs.nodelet.Nodelet.sight.Goals as goal

pub returns : goal.returns
returns c =
    let x = c.args.context.now in
    let v = c.args.self.now in
    let some : 1 ≤ c.len-depth.result = omega (arith, c.len-depth.ensures, c.requires.some) in
    let owes = λ (code : Code). c.len-owed.ensures ∙ sym (owed_is code x.frames c.len-depth.result c.len-depth.ensures some c.at.result.now c.at.ensures) in
    record {
      here = refl;
      home = refl;
      clear = none_left c.is_clear.result (count_of v.under_way x.name) c.is_clear.ensures;
      served = refl;
      late = refl;
      childless = λ code. ap (λ k. k == 0) (owes code);
      all_ended = λ code e. c.have_ended.ensures code e
          ∙ ap (λ d. are_recorded (node_of code v) x.name d c.len-owed.result) c.len-depth.ensures
          ∙ ap (are_recorded (node_of code v) x.name (length x.frames)) (owes code);
    }
