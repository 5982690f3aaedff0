use Rattle.std.proofs.Common.{◌≡◌, [], true, suc, refl, ap, ◌∙◌, subst, to_z, of_z, w64}
use Rattle.std.proofs.lemmas.Int.{to_z-of_z}
use Rattle.mem_atomics.specs.NewWord.{applied}
use Rattle.data_layout.specs.Address.{owner_of}
use Rattle.nodelet_mem.specs.Words.{word_of}
use Rattle.nodelet_core.specs.declared.due.Due.TheVariants as due
use Rattle.nodelet_core.specs.declared.counting.Counted.{Counted}
use Rattle.nodelet_core.specs.declared.counting.Posts.TheVariants as posts
use Rattle.core_model.specs.Nodes.{with_word}
use Rattle.core_model.specs.Effects.{nothing}
use Rattle.nodelet_core.specs.Kept.{node_of}
use Rattle.nodelet_core.specs.code.Became.{Did}
use Rattle.nodelet_core.proofs.Resuming.{stands_before}
use Rattle.nodelet_core.proofs.Stamps.{nothing_sent, did_before_last}
use Rattle.nodelet_core.proofs.Doing.{had_whole, nothing_counted}
use Rattle.nodelet_core.proofs.Posting.{issued_here}
use Rattle.nodelet_core.proofs.nodelet.Nodelet.operate_here.Goals as goal

pub answer-requires : goal.answer-requires
answer-requires c = record { asked = stands_before c.args.code.now.code c.args.self.now c.args.context (due.Issue c.args.pos c.args.op c.args.address c.args.word) c.requires.due refl }

pub go_on-requires-clause-stamp : goal.go_on-requires-clause-stamp
go_on-requires-clause-stamp c =
    did_before_last c.args.code.now.code (λ w. with_word w (to_z w64 (of_z w64 c.args.address)) (to_z w64 (of_z w64 c.apply-new.result)))
    c.args.self.now c.store.new.self c.in_ok-store.ensures.ok refl c.requires.due.stands.stamp

pub returns-clause-ok : goal.returns-clause-ok
returns-clause-ok c = λ sent.
    let v = c.args.self.now in
    let mid = c.store.new.self in
    let a = c.args.address in
    let op = c.args.op in
    let new = applied op (word_of v.words a) c.args.word in
    let at : to_z w64 (of_z w64 a) ≡ a = to_z-of_z w64 a c.ranges.address in
    let read : to_z w64 (of_z w64 c.word.result) ≡ word_of v.words a =
    to_z-of_z w64 c.word.result (record { sfits = c.word.type_inv }) ∙ c.word.ensures ∙ ap (word_of v.words) at in
    let written : to_z w64 (of_z w64 c.apply-new.result) ≡ new =
    to_z-of_z w64 c.apply-new.result (record { sfits = c.apply-new.type_inv }) ∙ c.apply-new.ensures
    ∙ ap (λ z. applied op z (to_z w64 (of_z w64 c.args.word))) read ∙ ap (applied op (word_of v.words a)) (to_z-of_z w64 c.args.word c.ranges.word) in
    let stored : Did (λ w. with_word w (to_z w64 (of_z w64 a)) (to_z w64 (of_z w64 c.apply-new.result))) v mid = c.in_ok-store.ensures.ok in
    let did : Did (λ w. with_word w a new) v mid =
    subst (λ z. Did (λ w. with_word w z new) v mid) at (subst (λ z. Did (λ w. with_word w (to_z w64 (of_z w64 a)) z) v mid) written stored) in
    had_whole c.args.code.now.code v mid c.go_on.new.self c.args.context c.answer.new.context (λ w. with_word w a new)
    (record c.nothing.result { applied = true; posts = posts.To mid.number }) (record nothing_counted { applied = true; posts = posts.To v.number })
    [] nothing sent sent (due.Issue c.args.pos op a c.args.word) refl refl
    (record {
      did = did;
      keeps_stamp = refl;
      counts = ap (λ (k : Counted). let z : Counted = record k { applied = true; posts = posts.To mid.number } in z) c.nothing.ensures
          ∙ ap (λ k. let z : Counted = record nothing_counted { applied = true; posts = posts.To k } in z) did.settings.number;
      became = c.go_on.ensures;
      same = c.answer.ensures.kept;
      answered = c.in_ok-answer.ensures.ok;
      sent = nothing_sent _ _ _ _ sent;
    })
    (issued_here v.nodelets v.number (suc v.stamp) (node_of c.args.code.now.code v) c.args.context.name c.args.pos op a c.args.word (owner_of a v.number v.nodelets) c.requires.owned)
