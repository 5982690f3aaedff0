use Rattle.std.proofs.Common.{◌≡◌, ◌+◌, false, ap, subst}
use Rattle.std.specs.Result.{is_err}
use Rattle.std.specs.Prelude.{max, Option}
use Rattle.word_ops.specs.declared.step.Step.{Step}
use Rattle.word_ops.specs.declared.step.NodeEvent.TheVariants.{Take}
use Rattle.nodelet_core.specs.code.Became.{HasEntered}
use Rattle.nodelet_core.proofs.Arriving.{where_ok}
use Rattle.nodelet_core.proofs.Delivered.{has_taken}
use Rattle.nodelet_core.proofs.nodelet.Nodelet.deliver.Goals as goal

pub returns-in-Ok-clause-ok : goal.returns-in-Ok-clause-ok
returns-in-Ok-clause-ok g c = λ code fits.
    let v = c.args.self.now in
    let p = c.args.packet in
    let w = c.enter.new.self in
    let stamp = c.max-stamp.result + 1 in
    let room : is_err c.enter.result ≡ false = cc in
    let entered = subst (λ (s : Option Step). HasEntered (record { stamp = stamp; event = Take c.args.origin; step = s }) v w) c.step_of.ensures (where_ok c.enter.result room c.enter.ensures.ok) in
    let later : stamp ≡ max v.stamp p.stamp + 1 = ap (λ k. k + 1) c.max-stamp.ensures in
    has_taken code v w c.take.new.self (g.O.Outlet.sent c.args.out.now) (g.O.Outlet.sent c.take.new.out) c.args.origin stamp p
    c.requires.stamp c.requires.sent_at later entered (c.in-Ok.ensures.ok code fits)
