use Rattle.std.proofs.Common.{◌≡◌, [], suc, refl, sym, ap, ◌∙◌, subst, to_z, of_z, w64}
use Rattle.std.proofs.lemmas.Int.{to_z-of_z}
use Rattle.data_layout.specs.Address.{owner_of, is_valid}
use Rattle.world_model.specs.World.{Operation}
use Rattle.nodelet_core.specs.declared.due.Due.TheVariants as due
use Rattle.nodelet_core.specs.declared.counting.Counted.{Counted}
use Rattle.nodelet_core.specs.declared.counting.Posts.TheVariants as posts
use Rattle.core_model.specs.Contexts.{Issued}
use Rattle.nodelet_core.specs.Carried.{body_in}
use Rattle.core_model.specs.Nodes.{with_issued}
use Rattle.core_model.specs.Effects.{only_to}
use Rattle.nodelet_core.specs.Kept.{node_of}
use Rattle.nodelet_core.specs.code.Became.{Did}
use Rattle.nodelet_core.specs.code.Doing.{SentMore}
use Rattle.nodelet_core.proofs.Becoming.{settings_then}
use Rattle.nodelet_core.proofs.Resuming.{stands_before}
use Rattle.nodelet_core.proofs.Stamps.{sent_from, sent_behind, did_before_last}
use Rattle.nodelet_core.proofs.Doing.{had_whole, nothing_counted}
use Rattle.nodelet_core.proofs.Posting.{issued_elsewhere, item_fits, issue_valid, linked_other, linked_behind}
use Rattle.nodelet_core.proofs.nodelet.Nodelet.issue.Goals as goal

pub owner-to-requires-clause-valid : goal.owner-to-requires-clause-valid
owner-to-requires-clause-valid g c =
    ap (λ z. is_valid z c.args.self.now.nodelets) (to_z-of_z w64 c.args.address c.ranges.address)
    ∙ issue_valid c.args.code.now.code c.args.self.now c.args.context c.args.pos c.args.op c.args.address c.args.word c.requires.due

pub reserve-requires : goal.reserve-requires
reserve-requires g c =
    let v = c.args.self.now in
    let to : c.owner-to.result ≡ owner_of c.args.address v.number v.nodelets =
    c.owner-to.ensures.owner ∙ ap (λ z. owner_of z v.number v.nodelets) (to_z-of_z w64 c.args.address c.ranges.address) in
    c.requires.reaches c.owner-to.result (linked_other v.nodelets v.number c.owner-to.result v.here c.owner-to.ensures.nodelet (λ e. c.requires.elsewhere (sym to ∙ e)))

pub send-requires-clause-linked : goal.send-requires-clause-linked
send-requires-clause-linked g c =
    let v = c.args.self.now in
    let to : c.owner-to.result ≡ owner_of c.args.address v.number v.nodelets =
    c.owner-to.ensures.owner ∙ ap (λ z. owner_of z v.number v.nodelets) (to_z-of_z w64 c.args.address c.ranges.address) in
    linked_behind v c.go_on.new.self c.owner-to.result (settings_then v c.issue_items.new.self c.go_on.new.self c.in_ok-issue_items.ensures.ok.settings c.go_on.ensures.settings)
    (linked_other v.nodelets v.number c.owner-to.result v.here c.owner-to.ensures.nodelet (λ e. c.requires.elsewhere (sym to ∙ e)))

pub send-requires-clause-reaches : goal.send-requires-clause-reaches
send-requires-clause-reaches g c =
    let v = c.args.self.now in
    let to : c.owner-to.result ≡ owner_of c.args.address v.number v.nodelets =
    c.owner-to.ensures.owner ∙ ap (λ z. owner_of z v.number v.nodelets) (to_z-of_z w64 c.args.address c.ranges.address) in
    c.reserve.ensures.reaches c.owner-to.result
    ∙ c.requires.reaches c.owner-to.result (linked_other v.nodelets v.number c.owner-to.result v.here c.owner-to.ensures.nodelet (λ e. c.requires.elsewhere (sym to ∙ e)))

pub send-requires-clause-room : goal.send-requires-clause-room
send-requires-clause-room g c = c.in_ok-reserve.ensures.room

pub answer-requires : goal.answer-requires
answer-requires g c = record { asked = stands_before c.args.code.now.code c.args.self.now c.args.context (due.Issue c.args.pos c.args.op c.args.address c.args.word) c.requires.due refl }

pub go_on-requires-clause-stamp : goal.go_on-requires-clause-stamp
go_on-requires-clause-stamp g c =
    did_before_last c.args.code.now.code (λ w. with_issued w c.args.context.name 1)
    c.args.self.now c.issue_items.new.self c.in_ok-issue_items.ensures.ok refl c.requires.due.stands.stamp

pub returns-clause-ok : goal.returns-clause-ok
returns-clause-ok g c =
    let code = c.args.code.now.code in
    let v = c.args.self.now in
    let mid = c.issue_items.new.self in
    let after = c.go_on.new.self in
    let y = c.answer.new.context in
    let a = c.args.address in
    let word = c.args.word in
    let op = c.args.op in
    let name = c.args.context.name in
    let owner = owner_of a v.number v.nodelets in
    let item = Operation op a word c.args.pos in
    let to : c.owner-to.result ≡ owner = c.owner-to.ensures.owner ∙ ap (λ z. owner_of z v.number v.nodelets) (to_z-of_z w64 a c.ranges.address) in
    let body : body_in code c.body_of.result ≡ Issued name item =
    c.body_of.ensures.means code
    ∙ ap (λ z. Issued name (Operation op z (to_z w64 (of_z w64 word)) c.args.pos)) (to_z-of_z w64 a c.ranges.address)
    ∙ ap (λ z. Issued name (Operation op a z c.args.pos)) (to_z-of_z w64 word c.ranges.word) in
    let more : SentMore code after.nodelets after.number after.stamp (only_to c.owner-to.result (body_in code c.body_of.result)) (g.O.Outlet.sent c.reserve.new.self) (g.O.Outlet.sent c.send.new.out) =
    c.send.ensures.sent code (item_fits code c.body_of.result name item body) in
    let sent : SentMore code after.nodelets after.number after.stamp (only_to owner (Issued name item)) (g.O.Outlet.sent c.args.out.now) (g.O.Outlet.sent c.send.new.out) =
    sent_from code after.nodelets after.number after.stamp (only_to owner (Issued name item)) (g.O.Outlet.sent c.args.out.now) (g.O.Outlet.sent c.reserve.new.self) (g.O.Outlet.sent c.send.new.out)
    c.reserve.ensures.sent
    (subst (λ b. SentMore code after.nodelets after.number after.stamp (only_to owner b) (g.O.Outlet.sent c.reserve.new.self) (g.O.Outlet.sent c.send.new.out)) body
    (subst (λ k. SentMore code after.nodelets after.number after.stamp (only_to k (body_in code c.body_of.result)) (g.O.Outlet.sent c.reserve.new.self) (g.O.Outlet.sent c.send.new.out)) to more)) in
    let did : Did (λ w. with_issued w name 1) v mid = c.in_ok-issue_items.ensures.ok in
    had_whole code v mid after c.args.context y (λ w. with_issued w name 1)
    (record c.nothing.result { posts = posts.To c.owner-to.result }) (record nothing_counted { posts = posts.To owner })
    [] (only_to owner (Issued name item)) (g.O.Outlet.sent c.args.out.now) (g.O.Outlet.sent c.send.new.out) (due.Issue c.args.pos op a word) refl refl
    (record {
      did = did;
      keeps_stamp = refl;
      counts = ap (λ (k : Counted). let z : Counted = record k { posts = posts.To c.owner-to.result } in z) c.nothing.ensures
          ∙ ap (λ k. let z : Counted = record nothing_counted { posts = posts.To k } in z) to;
      became = c.go_on.ensures;
      same = c.answer.ensures.kept;
      answered = c.in_ok-answer.ensures.ok;
      sent = sent_behind code (λ w. with_issued w name 1) (record c.nothing.result { posts = posts.To c.owner-to.result }) y _ v mid after _ _ _ did refl c.go_on.ensures sent;
    })
    (issued_elsewhere v.nodelets v.number (suc v.stamp) (node_of code v) name c.args.pos op a word owner c.requires.elsewhere)
