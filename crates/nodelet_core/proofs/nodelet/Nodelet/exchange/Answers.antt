use Rattle.std.proofs.Common.{◌≡◌, [], ◌∷◌, refl, ap, ◌∙◌, subst, to_z, of_z, w64}
use Rattle.std.proofs.lemmas.Int.{to_z-of_z}
use Rattle.mem_atomics.specs.NewWord.{fetched}
use Rattle.nodelet_mem.specs.Words.{word_of}
use Rattle.nodelet_core.specs.declared.due.Due.TheVariants as due
use Rattle.core_model.specs.Nodes.{with_word}
use Rattle.core_model.specs.Effects.{nothing}
use Rattle.nodelet_core.specs.code.Became.{Did}
use Rattle.nodelet_core.proofs.Resuming.{stands_before}
use Rattle.nodelet_core.proofs.Stamps.{nothing_sent, did_before_last}
use Rattle.nodelet_core.proofs.Doing.{had_whole, nothing_counted}
use Rattle.nodelet_core.proofs.nodelet.Nodelet.exchange.Goals as goal

pub answer-requires : goal.answer-requires
answer-requires c = record { asked = stands_before c.args.code.now.code c.args.self.now c.args.context (due.Fetch c.args.pos c.args.by c.args.address) c.requires.due refl }

pub go_on-requires-clause-stamp : goal.go_on-requires-clause-stamp
go_on-requires-clause-stamp c =
    did_before_last c.args.code.now.code (λ w. with_word w (to_z w64 (of_z w64 c.args.address)) (to_z w64 (of_z w64 c.fetch.result)))
    c.args.self.now c.store.new.self c.in_ok-store.ensures.ok refl c.requires.due.stands.stamp

pub returns-clause-ok : goal.returns-clause-ok
returns-clause-ok c = λ sent.
    let v = c.args.self.now in
    let mid = c.store.new.self in
    let a = c.args.address in
    let by = c.args.by in
    let new = fetched by (word_of v.words a) in
    let at : to_z w64 (of_z w64 a) ≡ a = to_z-of_z w64 a c.ranges.address in
    let read : to_z w64 (of_z w64 c.word-old.result) ≡ word_of v.words a =
    to_z-of_z w64 c.word-old.result (record { sfits = c.word-old.type_inv }) ∙ c.word-old.ensures ∙ ap (word_of v.words) at in
    let written : to_z w64 (of_z w64 c.fetch.result) ≡ new =
    to_z-of_z w64 c.fetch.result (record { sfits = c.fetch.type_inv }) ∙ c.fetch.ensures ∙ ap (fetched by) read in
    let stored : Did (λ w. with_word w (to_z w64 (of_z w64 a)) (to_z w64 (of_z w64 c.fetch.result))) v mid = c.in_ok-store.ensures.ok in
    let did : Did (λ w. with_word w a new) v mid =
    subst (λ z. Did (λ w. with_word w z new) v mid) at (subst (λ z. Did (λ w. with_word w (to_z w64 (of_z w64 a)) z) v mid) written stored) in
    had_whole c.args.code.now.code v mid c.go_on.new.self c.args.context c.answer.new.context (λ w. with_word w a new) c.nothing.result nothing_counted
    (to_z w64 (of_z w64 c.word-old.result) ∷ []) nothing sent sent (due.Fetch c.args.pos by a) refl refl
    (record {
      did = did;
      keeps_stamp = refl;
      counts = c.nothing.ensures;
      became = c.go_on.ensures;
      same = c.answer.ensures.kept;
      answered = c.in_ok-answer.ensures.ok;
      sent = nothing_sent _ _ _ _ sent;
    })
    (record { node = refl; answer = ap (λ z. z ∷ []) read; bodies = refl })
