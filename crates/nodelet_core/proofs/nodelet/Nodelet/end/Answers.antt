use Rattle.std.proofs.Common.{◌≡◌, ℕ, suc, [], ◌∷◌, Bool, true, false, Option, Some, None, refl, sym, ap, ◌∙◌, arith, subst, w64, ℤ}
use Rattle.std.specs.Prelude.{if◌then◌else◌, ◌==◌}
use Rattle.std.proofs.lemmas.Int.{to_z-of_z}
use Rattle.std.proofs.lemmas.Bool.{eq-eqb}
use Rattle.std.proofs.lemmas.Bool.Decides.{eqb_tells}
use Rattle.word_ops.specs.declared.ticket.Ticket.{Ticket}
use Rattle.threadlet_code.specs.declared.code.Code.{Code}
use Rattle.nodelet_core.specs.declared.counting.Counted.{Counted}
use Rattle.core_model.specs.Contexts.{Context, Returned}
use Rattle.nodelet_core.specs.Carried.{context_in}
use Rattle.core_model.specs.Nodes.{Node, with_result, ended_for}
use Rattle.core_model.specs.Effects.{Effect, quiet, sending, only_to, ended}
use Rattle.core_model.specs.Runs.{gone}
use Rattle.nodelet_core.specs.Kept.{node_of}
use Rattle.nodelet_core.specs.code.Became.{Did}
use Rattle.nodelet_core.specs.code.Doing.{SentMore, Left, goes_from, with_value}
use Rattle.nodelet_core.proofs.Doing.{gone_left, did_nothing, nothing_counted}
use Rattle.nodelet_core.proofs.Stamps.{nothing_sent, sent_from, sent_at}
use Rattle.nodelet_core.proofs.nodelet.Nodelet.end.Goals as goal

-- Some code: which one decides nothing.
some_code : Code
some_code = record { functions = []; main = 0; formats = []; globals = 0; replicated = 0 }

pub go-requires-clause-stamp : goal.go-requires-clause-stamp
go-requires-clause-stamp g c =
    let same : c.keep_value.new.self.stamp ≡ c.args.self.now.stamp = ap (λ (w : Node). w.stamp) (c.keep_value.ensures.node some_code) in
    omega (arith, same, c.requires.stamp)

pub returns-in_default-clause-ok : goal.returns-in_default-clause-ok
returns-in_default-clause-ok g c = λ code count.
    let v = c.args.self.now in
    let x = c.args.context in
    let value = c.args.value in
    let node : Node = node_of code v in
    let sent = g.O.Outlet.sent c.args.out.now in
    let e : Effect = ended v.number node None value in
    let did : Did (λ w. with_value w value) v c.keep_value.new.self =
    subst (λ k. Did (λ w. with_value w k) v c.keep_value.new.self) (to_z-of_z w64 value c.ranges.value) c.keep_value.ensures in
    subst (λ (t : Option Ticket). Left code (suc v.stamp) v c.go.new.self sent sent (gone (context_in code x) count (ended v.number node t value))) (sym c.in_default.is)
    (gone_left code v c.keep_value.new.self c.go.new.self (λ w. with_value w value) _ nothing_counted x.name sent sent
    (record { did = did; keeps_stamp = refl; counts = c.nothing.ensures; became = c.go.ensures }) (context_in code x) refl count e refl
    (nothing_sent code v.nodelets v.number (suc v.stamp) sent))

pub go-requires-then-ticket-self-clause-stamp : goal.go-requires-then-ticket-self-clause-stamp
go-requires-then-ticket-self-clause-stamp g c =
    let same : c.keep_result.new.self.stamp ≡ c.args.self.now.stamp = ap (λ (w : Node). w.stamp) (c.in_ok-keep_result.ensures.ok.node some_code) in
    omega (arith, same, c.requires.stamp)

pub returns-then-ticket-self-clause-ok : goal.returns-then-ticket-self-clause-ok
returns-then-ticket-self-clause-ok g c = λ code count.
    let v = c.args.self.now in
    let x = c.args.context in
    let value = c.args.value in
    let t : Ticket = c.in-Some.ticket in
    let node : Node = node_of code v in
    let sent = g.O.Outlet.sent c.args.out.now in
    let here : Effect = quiet (ended_for t.home (with_result node t value)) [] in
    let away : Effect = sending (ended_for t.home node) (only_to t.home (Returned t value)) in
    let d : Counted = record nothing_counted { ended_for = Some t.home } in
    let is : here ≡ ended v.number node x.ticket value =
    ap (λ (b : Bool). if b then here else away) (sym (eq-eqb t.home v.number c.if-ticket-self.true))
    ∙ ap (λ (o : Option Ticket). ended v.number node o value) (sym c.in-Some.is) in
    let did : Did (λ w. with_result w t value) v c.keep_result.new.self =
    subst (λ k. Did (λ w. with_result w t k) v c.keep_result.new.self) (to_z-of_z w64 value c.ranges.value) c.in_ok-keep_result.ensures.ok in
    subst (λ e. Left code (suc v.stamp) v c.go-then-ticket-self.new.self sent sent (gone (context_in code x) count e)) is
    (gone_left code v c.keep_result.new.self c.go-then-ticket-self.new.self (λ w. with_result w t value) _ d x.name sent sent
    (record {
      did = did;
      keeps_stamp = refl;
      counts = ap (λ (k : Counted). let z : Counted = record k { ended_for = Some t.home } in z) c.nothing-2.ensures;
      became = c.go-then-ticket-self.ensures;
    }) (context_in code x) refl count here refl
    (nothing_sent code v.nodelets v.number (suc v.stamp) sent))

pub returns-clause-ok : goal.returns-clause-ok
returns-clause-ok g c = λ code count.
    let v = c.args.self.now in
    let x = c.args.context in
    let value = c.args.value in
    let after = c.go-2.new.self in
    let t : Ticket = c.in-Some.ticket in
    let node : Node = node_of code v in
    let before = g.O.Outlet.sent c.args.out.now in
    let later = g.O.Outlet.sent c.send.new.out in
    let here : Effect = quiet (ended_for t.home (with_result node t value)) [] in
    let away : Effect = sending (ended_for t.home node) (only_to t.home (Returned t value)) in
    let d : Counted = record nothing_counted { ended_for = Some t.home } in
    let counts = ap (λ (k : Counted). let z : Counted = record k { ended_for = Some t.home } in z) c.nothing-2.ensures in
    let apart = c.if-ticket-self.false in
    let other : (t.home == v.number) ≡ false = grind (arith, eqb_tells) in
    let is : away ≡ ended v.number node x.ticket value =
    ap (λ (b : Bool). if b then here else away) (sym other) ∙ ap (λ (o : Option Ticket). ended v.number node o value) (sym c.in-Some.is) in
    let stamp : after.stamp ≡ suc v.stamp = ap (λ (w : Node). w.stamp) (c.go-2.ensures.node code ∙ ap (λ k. goes_from v.nodelets v.number k x.name code node) counts) in
    subst (λ e. Left code (suc v.stamp) v after before later (gone (context_in code x) count e)) is
    (gone_left code v v after (λ w. w) _ d x.name before later
    (record { did = did_nothing v; keeps_stamp = refl; counts = counts; became = c.go-2.ensures }) (context_in code x) refl count away refl
    (sent_from code v.nodelets v.number (suc v.stamp) away.sends before (g.O.Outlet.sent c.reserve.new.self) later c.reserve.ensures.sent
    (sent_at code after.nodelets after.number after.stamp v.nodelets v.number (suc v.stamp) away.sends _ _ c.go-2.ensures.settings.nodelets c.go-2.ensures.settings.number stamp
    (subst (λ k. SentMore code after.nodelets after.number after.stamp (only_to t.home (Returned t k)) (g.O.Outlet.sent c.reserve.new.self) later) (to_z-of_z w64 value c.ranges.value) (c.send.ensures.sent code refl)))))
