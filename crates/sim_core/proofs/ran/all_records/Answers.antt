use Rattle.std.proofs.Common.{◌++◌, ◌∷◌, [], ap, ◌∙◌, sym, length}
use Rattle.sim_core.specs.code.Recorded.{parts_in}
use Rattle.sim_core.proofs.Recording.{parts_more, out_more}
use Rattle.sim_core.proofs.ran.all_records.Goals as goal

pub loop-nodelet-preserved : goal.loop-nodelet-preserved
loop-nodelet-preserved c =
    let before = c.loop-nodelet.invariant in
    let nodes = c.loop-nodelet.yielded in
    let v = c.in-Some.nodelet in
    record {
      parts = c.in_ok-add.ensures.ok ∙ ap (λ l. l ++ c.into_records-entries.result.entries ∷ []) before.parts
          ∙ ap (λ e. parts_in nodes ++ e ∷ []) c.into_records-entries.ensures.entries ∙ sym (parts_more nodes v);
      out = out_more nodes v c.len.result _ _ _ (c.len.ensures ∙ ap length before.parts) c.out_with-out.ensures.first c.out_with-out.ensures.later before.out c.into_records-entries.ensures.pieces;
    }
