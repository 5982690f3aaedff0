use Rattle.std.proofs.Common.{◌≡◌, ◌≤◌, ◌-◌, ℕ, ℤ, [], true, false, Result, Ok, Err, suc, refl, sym, ap, ◌∙◌, subst, to_z, of_z, w64}
use Rattle.std.specs.Result.{OnOk, OnErr, is_err}
use Rattle.std.proofs.lemmas.Int.{to_z-of_z}
use Rattle.mem_atomics.specs.declared.op.Op.TheVariants.{Store}
use Rattle.world_model.specs.World.{Operation}
use Rattle.ack_fence.specs.Counting.{count_of}
use Rattle.word_ops.specs.declared.name.Name.{Name}
use Rattle.nodelet_core.specs.declared.nodelet.Nodelet.{Nodelet}
use Rattle.nodelet_core.specs.declared.due.Due.TheVariants as due
use Rattle.nodelet_core.specs.declared.counting.Counted.{Counted}
use Rattle.nodelet_core.specs.declared.counting.Posts.TheVariants as posts
use Rattle.core_model.specs.Contexts.{Issued}
use Rattle.core_model.specs.Nodes.{Node, with_word, with_issued}
use Rattle.core_model.specs.Effects.{to_all}
use Rattle.nodelet_core.specs.code.Standing.{is_among}
use Rattle.nodelet_core.specs.Kept.{node_of, IsUnchanged, SameSettings}
use Rattle.nodelet_core.specs.code.Became.{Did}
use Rattle.nodelet_core.specs.code.Doing.{SentMore, with_withdrawn}
use Rattle.nodelet_core.proofs.Becoming.{settings_then, did_then, unchanged_did}
use Rattle.nodelet_core.proofs.Resuming.{stands_before}
use Rattle.nodelet_core.proofs.Stamps.{sent_from, sent_behind, did_before_last}
use Rattle.nodelet_core.proofs.Doing.{had_whole, nothing_counted}
use Rattle.nodelet_core.proofs.Posting.{initializes, withdrawn, enough_issued, linked_before}
use Rattle.nodelet_core.proofs.nodelet.Nodelet.initialize.Goals as goal

pub answer-requires : goal.answer-requires
answer-requires g c = record { asked = stands_before c.args.code.now.code c.args.self.now c.args.context (due.Init c.args.pos c.args.address c.args.word) c.requires.due refl }

-- What a refusal, and a success, comes with.
refused : {T E : Type 0} (r : Result T E) (P : Type 0) → OnErr r P → true ≡ is_err r → P
refused (Ok x) P h e = absurd (let wrong : true ≡ false = e in cc)
refused (Err x) P h e = h

granted : {T E : Type 0} (r : Result T E) (P : Type 0) → OnOk r P → false ≡ is_err r → P
granted (Ok x) P h e = h
granted (Err x) P h e = absurd (let wrong : false ≡ true = e in cc)

pub withdraw_items-requires : goal.withdraw_items-requires
withdraw_items-requires g c =
    let code = c.args.code.now.code in
    let v = c.args.self.now in
    let name = c.args.context.name in
    let did : Did (λ w. with_issued w name (v.nodelets - 1)) v c.issue_items.new.self = c.in_ok-issue_items.ensures.ok in
    let same = refused c.store.result (IsUnchanged c.issue_items.new.self c.store.new.self) c.store.ensures.err c.if-is_err.ensures.value in
    let counts : count_of c.store.new.self.under_way name ≡ (with_issued (node_of code v) name (v.nodelets - 1)).under_way name =
    ap (λ (w : Node). w.under_way name) (same.node code ∙ did.node code) in
    subst (λ k. k - 1 ≤ count_of c.store.new.self.under_way name) (sym (same.settings.nodelets ∙ did.settings.nodelets))
    (subst (λ k. v.nodelets - 1 ≤ k) (sym counts) (enough_issued (node_of code v) name (v.nodelets - 1)))

pub returns-then-is_err-clause-err : goal.returns-then-is_err-clause-err
returns-then-is_err-clause-err g c =
    let v = c.args.self.now in
    let name = c.args.context.name in
    let mid = c.issue_items.new.self in
    let kept = c.store.new.self in
    let did : Did (λ w. with_issued w name (v.nodelets - 1)) v mid = c.in_ok-issue_items.ensures.ok in
    let same = refused c.store.result (IsUnchanged mid kept) c.store.ensures.err c.if-is_err.ensures.value in
    let back : Did (λ w. with_withdrawn w name (kept.nodelets - 1)) kept c.withdraw_items.new.self = c.withdraw_items.ensures.did in
    let there = did_then (λ w. with_issued w name (v.nodelets - 1)) (λ w. w) v mid kept did (unchanged_did mid kept same) in
    let whole = did_then (λ w. with_issued w name (v.nodelets - 1)) (λ w. with_withdrawn w name (kept.nodelets - 1)) v kept c.withdraw_items.new.self there back in
    record {
      settings = whole.settings;
      node = λ code. whole.node code
          ∙ ap (λ k. with_withdrawn (with_issued (node_of code v) name (v.nodelets - 1)) name (k - 1)) (same.settings.nodelets ∙ did.settings.nodelets)
          ∙ withdrawn (node_of code v) name (v.nodelets - 1);
      contexts = whole.contexts;
      entries = whole.entries;
    }

-- Items get under way, and then a word is stored.
issued_and_stored : (v mid kept : Nodelet) (name : Name) (items : ℕ) (a word place held : ℤ) → place ≡ a → held ≡ word →
    Did (λ w. with_issued w name items) v mid → Did (λ w. with_word w place held) mid kept → Did (λ w. with_word (with_issued w name items) a word) v kept
issued_and_stored v mid kept name items a word place held same_place same_word did stored =
    did_then (λ w. with_issued w name items) (λ w. with_word w a word) v mid kept did
    (subst (λ z. Did (λ w. with_word w z word) mid kept) same_place (subst (λ z. Did (λ w. with_word w place z) mid kept) same_word stored))

pub go_on-requires-clause-stamp : goal.go_on-requires-clause-stamp
go_on-requires-clause-stamp g c =
    let v = c.args.self.now in
    let kept = c.store.new.self in
    let name = c.args.context.name in
    let a = c.args.address in
    let word = c.args.word in
    did_before_last c.args.code.now.code (λ w. with_word (with_issued w name (v.nodelets - 1)) a word) v kept
    (issued_and_stored v c.issue_items.new.self kept name (v.nodelets - 1) a word (to_z w64 (of_z w64 a)) (to_z w64 (of_z w64 word))
    (to_z-of_z w64 a c.ranges.address) (to_z-of_z w64 word c.ranges.word) c.in_ok-issue_items.ensures.ok
    (granted c.store.result (Did (λ w. with_word w (to_z w64 (of_z w64 a)) (to_z w64 (of_z w64 word))) c.issue_items.new.self kept) c.store.ensures.ok c.if-is_err.ensures.value))
    refl c.requires.due.stands.stamp

pub go_on-requires-clause-among : goal.go_on-requires-clause-among
go_on-requires-clause-among g c =
    let v = c.args.self.now in
    let kept = c.store.new.self in
    let stored : Did (λ w. with_word w (to_z w64 (of_z w64 c.args.address)) (to_z w64 (of_z w64 c.args.word))) c.issue_items.new.self kept =
    granted c.store.result _ c.store.ensures.ok c.if-is_err.ensures.value in
    let same : SameSettings v kept = settings_then v c.issue_items.new.self kept c.in_ok-issue_items.ensures.ok.settings stored.settings in
    ap (is_among kept.nodelets) c.answer.ensures.kept ∙ ap (λ n. is_among n c.args.context) same.nodelets ∙ c.requires.due.stands.among

pub send_to_others-requires-clause-reaches : goal.send_to_others-requires-clause-reaches
send_to_others-requires-clause-reaches g c = λ k linked.
    let v = c.args.self.now in
    let kept = c.store.new.self in
    let stored : Did (λ w. with_word w (to_z w64 (of_z w64 c.args.address)) (to_z w64 (of_z w64 c.args.word))) c.issue_items.new.self kept =
    granted c.store.result _ c.store.ensures.ok c.if-is_err.ensures.value in
    let same : SameSettings v kept = settings_then v c.issue_items.new.self kept c.in_ok-issue_items.ensures.ok.settings stored.settings in
    c.make_room.ensures.reaches k ∙ c.requires.reaches k (linked_before v c.go_on.new.self k (settings_then v kept c.go_on.new.self same c.go_on.ensures.settings) linked)

pub send_to_others-requires-clause-room : goal.send_to_others-requires-clause-room
send_to_others-requires-clause-room g c = λ k linked.
    let v = c.args.self.now in
    let kept = c.store.new.self in
    let stored : Did (λ w. with_word w (to_z w64 (of_z w64 c.args.address)) (to_z w64 (of_z w64 c.args.word))) c.issue_items.new.self kept =
    granted c.store.result _ c.store.ensures.ok c.if-is_err.ensures.value in
    let same : SameSettings v kept = settings_then v c.issue_items.new.self kept c.in_ok-issue_items.ensures.ok.settings stored.settings in
    c.in_ok-make_room.ensures.room k (linked_before v c.go_on.new.self k (settings_then v kept c.go_on.new.self same c.go_on.ensures.settings) linked)

pub returns-clause-ok : goal.returns-clause-ok
returns-clause-ok g c =
    let code = c.args.code.now.code in
    let v = c.args.self.now in
    let mid = c.issue_items.new.self in
    let kept = c.store.new.self in
    let after = c.go_on.new.self in
    let y = c.answer.new.context in
    let name = c.args.context.name in
    let a = c.args.address in
    let word = c.args.word in
    let item = Operation Store a word c.args.pos in
    let before_sent = g.O.Outlet.sent c.args.out.now in
    let after_sent = g.O.Outlet.sent c.send_to_others.new.out in
    let read = to_z-of_z w64 a c.ranges.address in
    let held = to_z-of_z w64 word c.ranges.word in
    let did : Did (λ w. with_word (with_issued w name (v.nodelets - 1)) a word) v kept =
    issued_and_stored v mid kept name (v.nodelets - 1) a word (to_z w64 (of_z w64 a)) (to_z w64 (of_z w64 word)) read held c.in_ok-issue_items.ensures.ok
    (granted c.store.result (Did (λ w. with_word w (to_z w64 (of_z w64 a)) (to_z w64 (of_z w64 word))) mid kept) c.store.ensures.ok c.if-is_err.ensures.value) in
    let same : SameSettings v after = settings_then v kept after did.settings c.go_on.ensures.settings in
    let others : to_all after.nodelets (Issued name (Operation Store (to_z w64 (of_z w64 a)) (to_z w64 (of_z w64 word)) c.args.pos)) ≡ to_all v.nodelets (Issued name item) =
    ap (λ n. to_all n (Issued name (Operation Store (to_z w64 (of_z w64 a)) (to_z w64 (of_z w64 word)) c.args.pos))) same.nodelets
    ∙ ap (λ z. to_all v.nodelets (Issued name (Operation Store z (to_z w64 (of_z w64 word)) c.args.pos))) read
    ∙ ap (λ z. to_all v.nodelets (Issued name (Operation Store a z c.args.pos))) held in
    let sent : SentMore code after.nodelets after.number after.stamp (to_all v.nodelets (Issued name item)) before_sent after_sent =
    sent_from code after.nodelets after.number after.stamp (to_all v.nodelets (Issued name item)) before_sent (g.O.Outlet.sent c.make_room.new.out) after_sent c.make_room.ensures.sent
    (subst (λ b. SentMore code after.nodelets after.number after.stamp b (g.O.Outlet.sent c.make_room.new.out) after_sent) others (c.send_to_others.ensures.sent code)) in
    had_whole code v kept after c.args.context y (λ w. with_word (with_issued w name (v.nodelets - 1)) a word)
    (record c.nothing.result { applied = true; posts = posts.ToAll }) (record nothing_counted { applied = true; posts = posts.ToAll })
    [] (to_all v.nodelets (Issued name item)) before_sent after_sent (due.Init c.args.pos a word) refl refl
    (record {
      did = did;
      keeps_stamp = refl;
      counts = ap (λ (k : Counted). let z : Counted = record k { applied = true; posts = posts.ToAll } in z) c.nothing.ensures;
      became = c.go_on.ensures;
      same = c.answer.ensures.kept;
      answered = c.in_ok-answer.ensures.ok;
      sent = sent_behind code (λ w. with_word (with_issued w name (v.nodelets - 1)) a word) (record c.nothing.result { applied = true; posts = posts.ToAll }) y _ v kept after
          (to_all v.nodelets (Issued name item)) before_sent after_sent did refl c.go_on.ensures sent;
    })
    (initializes v.nodelets v.number (suc v.stamp) (node_of code v) name c.args.pos a word)
