use Rattle.std.proofs.Common.{◌≡◌, sym, subst, to_z, of_z, w64, ap, ◌∙◌, rules}
use Rattle.std.specs.Result.{OnOk}
use Rattle.std.proofs.lemmas.Result.{on_ok_weaker}
use Rattle.data_layout.specs.Address.{is_valid, owner_of}
use Rattle.nodelet_core.specs.declared.due.Due.{Due}
use Rattle.nodelet_core.specs.declared.due.Due.TheVariants as due
use Rattle.nodelet_core.specs.Left.{Sent}
use Rattle.nodelet_core.specs.code.Doing.{IsDueHere, HadEffect}
use Rattle.nodelet_core.proofs.Posting.{issue_valid}
use Rattle.nodelet_core.proofs.nodelet.Nodelet.post.Goals as goal

pub returns-in-Init-clause-ok : goal.returns-in-Init-clause-ok
returns-in-Init-clause-ok g c =
    let at : to_z w64 (of_z w64 c.in-Init.address) ≡ c.in-Init.address = search rules in
    let held : to_z w64 (of_z w64 c.in-Init.word) ≡ c.in-Init.word = search rules in
    let same : due.Init c.in-Init.pos (to_z w64 (of_z w64 c.in-Init.address)) (to_z w64 (of_z w64 c.in-Init.word)) ≡ c.args.due =
    ap (λ z. due.Init c.in-Init.pos z (to_z w64 (of_z w64 c.in-Init.word))) at ∙ ap (due.Init c.in-Init.pos c.in-Init.address) held ∙ sym c.in-Init.is in
    subst (λ (d : Due). OnOk c.initialize.result (HadEffect c.args.code.now.code c.args.self.now c.initialize.new.self (g.O.Outlet.sent c.args.out.now) (g.O.Outlet.sent c.initialize.new.out) c.args.context d))
    same c.initialize.ensures.ok

pub returns-in-Issue-clause-ok : goal.returns-in-Issue-clause-ok
returns-in-Issue-clause-ok g c =
    let at : to_z w64 (of_z w64 c.in-Issue.address) ≡ c.in-Issue.address = search rules in
    let held : to_z w64 (of_z w64 c.in-Issue.word) ≡ c.in-Issue.word = search rules in
    let same : due.Issue c.in-Issue.pos c.in-Issue.op (to_z w64 (of_z w64 c.in-Issue.address)) (to_z w64 (of_z w64 c.in-Issue.word)) ≡ c.args.due =
    ap (λ z. due.Issue c.in-Issue.pos c.in-Issue.op z (to_z w64 (of_z w64 c.in-Issue.word))) at ∙ ap (due.Issue c.in-Issue.pos c.in-Issue.op c.in-Issue.address) held
    ∙ sym c.in-Issue.is in
    let had : OnOk c.operate_here.result ((sent : Sent) → HadEffect c.args.code.now.code c.args.self.now c.operate_here.new.self sent sent c.args.context c.args.due) =
    subst (λ (d : Due). OnOk c.operate_here.result ((sent : Sent) → HadEffect c.args.code.now.code c.args.self.now c.operate_here.new.self sent sent c.args.context d)) same c.operate_here.ensures.ok in
    on_ok_weaker c.operate_here.result (λ (h : (sent : Sent) → HadEffect c.args.code.now.code c.args.self.now c.operate_here.new.self sent sent c.args.context c.args.due). h (g.O.Outlet.sent c.args.out.now)) had

pub returns-in-Issue-2-clause-ok : goal.returns-in-Issue-2-clause-ok
returns-in-Issue-2-clause-ok g c =
    let at : to_z w64 (of_z w64 c.in-Issue-2.address) ≡ c.in-Issue-2.address = search rules in
    let held : to_z w64 (of_z w64 c.in-Issue-2.word) ≡ c.in-Issue-2.word = search rules in
    let same : due.Issue c.in-Issue-2.pos c.in-Issue-2.op (to_z w64 (of_z w64 c.in-Issue-2.address)) (to_z w64 (of_z w64 c.in-Issue-2.word)) ≡ c.args.due =
    ap (λ z. due.Issue c.in-Issue-2.pos c.in-Issue-2.op z (to_z w64 (of_z w64 c.in-Issue-2.word))) at ∙ ap (due.Issue c.in-Issue-2.pos c.in-Issue-2.op c.in-Issue-2.address) held
    ∙ sym c.in-Issue-2.is in
    subst (λ (d : Due). OnOk c.issue.result (HadEffect c.args.code.now.code c.args.self.now c.issue.new.self (g.O.Outlet.sent c.args.out.now) (g.O.Outlet.sent c.issue.new.out) c.args.context d))
    same c.issue.ensures.ok

-- ---- what the parts ask

pub owner-requires-clause-valid : goal.owner-requires-clause-valid
owner-requires-clause-valid g c =
    let at : to_z w64 (of_z w64 c.in-Issue.address) ≡ c.in-Issue.address = search rules in
    ap (λ z. is_valid z c.args.self.now.nodelets) at
    ∙ issue_valid c.args.code.now.code c.args.self.now c.args.context c.in-Issue.pos c.in-Issue.op c.in-Issue.address c.in-Issue.word
    (subst (IsDueHere c.args.code.now.code c.args.self.now c.args.context) c.in-Issue.is c.requires.due)

pub initialize-requires-clause-due : goal.initialize-requires-clause-due
initialize-requires-clause-due g c =
    let at : to_z w64 (of_z w64 c.in-Init.address) ≡ c.in-Init.address = search rules in
    let held : to_z w64 (of_z w64 c.in-Init.word) ≡ c.in-Init.word = search rules in
    subst (IsDueHere c.args.code.now.code c.args.self.now c.args.context)
    (c.in-Init.is ∙ ap (due.Init c.in-Init.pos c.in-Init.address) (sym held) ∙ ap (λ z. due.Init c.in-Init.pos z (to_z w64 (of_z w64 c.in-Init.word))) (sym at)) c.requires.due

pub operate_here-requires-clause-owned : goal.operate_here-requires-clause-owned
operate_here-requires-clause-owned g c = sym c.owner.ensures.owner ∙ c.if-owner-self.true

pub operate_here-requires-clause-due : goal.operate_here-requires-clause-due
operate_here-requires-clause-due g c =
    let at : to_z w64 (of_z w64 c.in-Issue.address) ≡ c.in-Issue.address = search rules in
    let held : to_z w64 (of_z w64 c.in-Issue.word) ≡ c.in-Issue.word = search rules in
    subst (IsDueHere c.args.code.now.code c.args.self.now c.args.context)
    (c.in-Issue.is ∙ ap (due.Issue c.in-Issue.pos c.in-Issue.op c.in-Issue.address) (sym held)
    ∙ ap (λ z. due.Issue c.in-Issue.pos c.in-Issue.op z (to_z w64 (of_z w64 c.in-Issue.word))) (sym at)) c.requires.due

pub issue-requires-clause-elsewhere : goal.issue-requires-clause-elsewhere
issue-requires-clause-elsewhere g c =
    let both : due.Issue c.in-Issue.pos c.in-Issue.op c.in-Issue.address c.in-Issue.word ≡ due.Issue c.in-Issue-2.pos c.in-Issue-2.op c.in-Issue-2.address c.in-Issue-2.word =
    sym c.in-Issue.is ∙ c.in-Issue-2.is in
    let same : c.in-Issue.address ≡ c.in-Issue-2.address = cc in
    λ e. c.if-owner-self.false (c.owner.ensures.owner ∙ ap (λ a. owner_of (to_z w64 (of_z w64 a)) c.args.self.now.number c.args.self.now.nodelets) same ∙ e)

pub issue-requires-clause-due : goal.issue-requires-clause-due
issue-requires-clause-due g c =
    let at : to_z w64 (of_z w64 c.in-Issue-2.address) ≡ c.in-Issue-2.address = search rules in
    let held : to_z w64 (of_z w64 c.in-Issue-2.word) ≡ c.in-Issue-2.word = search rules in
    subst (IsDueHere c.args.code.now.code c.args.self.now c.args.context)
    (c.in-Issue-2.is ∙ ap (due.Issue c.in-Issue-2.pos c.in-Issue-2.op c.in-Issue-2.address) (sym held)
    ∙ ap (λ z. due.Issue c.in-Issue-2.pos c.in-Issue-2.op z (to_z w64 (of_z w64 c.in-Issue-2.word))) (sym at)) c.requires.due
