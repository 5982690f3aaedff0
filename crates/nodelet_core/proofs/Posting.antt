-- What operations leave that are issued.
use Rattle.std.proofs.Common.{◌≡◌, ◌≢◌, ◌<◌, ◌≤◌, ◌+◌, ◌-◌, arith, ℕ, ℤ, List, [], ◌∷◌, Bool, true, false, refl, sym, ap, ◌∙◌, subst}
use Rattle.std.specs.Prelude.{if◌then◌else◌, ◌==◌, not}
use Rattle.std.proofs.lemmas.Bool.{eq-eqb, eqb-true, lt-ltb}
use Rattle.word_ops.specs.declared.name.Name.{Name}
use Rattle.word_ops.specs.declared.place.Pos.{Pos}
use Rattle.word_ops.specs.Naming.{same_name}
use Rattle.word_ops.specs.Report.{below}
use Rattle.mem_atomics.specs.declared.op.Op.{Op}
use Rattle.mem_atomics.specs.declared.op.Op.TheVariants.{Store}
use Rattle.mem_atomics.specs.NewWord.{applied}
use Rattle.world_model.specs.World.{Item, Operation}
use Rattle.data_layout.specs.Address.{is_valid}
use Rattle.merge_law.specs.Machine.{is_linked}
use Rattle.threadlet_code.specs.declared.code.Code.{Code}
use Rattle.threadlet_state.specs.declared.context.Context as carried
use Rattle.threadlet_state.specs.declared.packet.Body as sent
use Rattle.threadlet_state.specs.declared.packet.Body.TheVariants as by
use Rattle.nodelet_core.specs.declared.nodelet.Nodelet.{Nodelet}
use Rattle.nodelet_core.specs.declared.due.Due.TheVariants as due
use Rattle.nodelet_core.specs.declared.counting.Posts.TheVariants as posts
use Rattle.core_model.specs.Contexts.{Issued, Arrival}
use Rattle.nodelet_core.specs.Carried.{context_in, body_in}
use Rattle.core_model.specs.Nodes.{Node, with_word, with_issued, posted_to}
use Rattle.core_model.specs.Effects.{nothing, only_to, to_all, for_each, operated, issued, initialized}
use Rattle.core_model.specs.Machine.{stamped_node}
use Rattle.nodelet_core.specs.Kept.{body_fits, SameSettings}
use Rattle.nodelet_core.specs.code.Doing.{with_withdrawn, IsDueHere}
use Rattle.nodelet_core.proofs.Resuming.{acts_here}
use Rattle.nodelet_core.proofs.Found.{itself}
use Rattle.nodelet_core.proofs.Doing.{Leaves, nothing_counted}

module _ (n here stamp : ℕ) (v : Node) (name : Name) (at : Pos) (op : Op) (a word : ℤ) (owner : ℕ) where
  -- An operation on a word that is owned here.
  pub issued_here : owner ≡ here →
      Leaves n here stamp (record nothing_counted { applied = true; posts = posts.To here }) (with_word v a (applied op (v.cells a) word)) [] nothing (issued here v name at op a word owner)
  issued_here same =
      subst (λ k. Leaves n here stamp (record nothing_counted { applied = true; posts = posts.To here }) (with_word v a (applied op (v.cells a) word)) [] nothing (issued here v name at op a word k))
      (sym same) (let e = eq-eqb here here refl in rw e (record { node = refl; answer = refl; bodies = refl }))

  -- An operation on a word that is owned elsewhere.
  pub issued_elsewhere : owner ≢ here →
      Leaves n here stamp (record nothing_counted { posts = posts.To owner }) (with_issued v name 1) [] (only_to owner (Issued name (Operation op a word at))) (issued here v name at op a word owner)
  issued_elsewhere other = by_owner (owner == here) refl
    where
      by_owner : (t : Bool) → (owner == here) ≡ t →
          Leaves n here stamp (record nothing_counted { posts = posts.To owner }) (with_issued v name 1) [] (only_to owner (Issued name (Operation op a word at))) (issued here v name at op a word owner)
      by_owner true e = absurd (other (eqb-true _ _ e))
      by_owner false e = rw e (record { node = refl; answer = refl; bodies = refl })

-- ---- items to all others

-- Operations are counted whatever the stamp.
pub each_stamped : (ks : List ℕ) (stamp : ℕ) (v : Node) → for_each ks posted_to (stamped_node stamp v) ≡ stamped_node stamp (for_each ks posted_to v)
each_stamped [] stamp v = refl
each_stamped (k ∷ ks) stamp v = each_stamped ks stamp (posted_to k v)

-- An Init stores the word here, counts one operation for each nodelet and sends it to all others.
pub initializes : (n here stamp : ℕ) (v : Node) (name : Name) (at : Pos) (a word : ℤ) →
    Leaves n here stamp (record nothing_counted { applied = true; posts = posts.ToAll }) (with_word (with_issued v name (n - 1)) a word) []
    (to_all n (Issued name (Operation Store a word at))) (initialized n v name at a word)
initializes n here stamp v name at a word = record { node = each_stamped (below n) stamp (with_issued (operated v Store a word) name (n - 1)); answer = refl; bodies = refl }

-- Counts of each strand are the same where each of them is.
same_counts : (f g : Name → ℕ) → ((q : Name) → f q ≡ g q) → f ≡ g
same_counts f g same = λ i q. same q i

-- Items that are issued and withdrawn leave the nodelet as it was.
pub withdrawn : (v : Node) (name : Name) (items : ℕ) → with_withdrawn (with_issued v name items) name items ≡ v
withdrawn v name items = ap (λ u. let w : Node = record v { under_way = u } in w) (same_counts _ v.under_way (λ q. each q (same_name q name)))
  where
    each : (q : Name) (t : Bool) → (if t then (if t then v.under_way q + items else v.under_way q) - items else (if t then v.under_way q + items else v.under_way q)) ≡ v.under_way q
    each q true = omega arith
    each q false = refl

-- So many items more are under way that there are so many.
pub enough_issued : (v : Node) (name : Name) (items : ℕ) → items ≤ (with_issued v name items).under_way name
enough_issued v name items = rw (itself name) (omega arith)

-- ---- what an item is

-- What is sent of an item holds no context, so it fits any code.
pub item_fits : (code : Code) (body : sent.Body) (name : Name) (item : Item) → body_in code body ≡ Issued name item → body_fits code body ≡ true
item_fits code (by.Ctx x) name item e = absurd (let z : Arrival (context_in code x) ≡ Issued name item = e in cc)
item_fits code other name item e = refl

-- ---- links

-- A link of a nodelet with the same settings is a link of the first, and the other way round.
pub linked_before : (a b : Nodelet) (k : ℕ) → SameSettings a b → is_linked b.nodelets b.number k ≡ true → is_linked a.nodelets a.number k ≡ true
linked_before a b k same linked = ap (λ n. is_linked n a.number k) (sym same.nodelets) ∙ ap (λ h. is_linked b.nodelets h k) (sym same.number) ∙ linked

pub linked_behind : (a b : Nodelet) (k : ℕ) → SameSettings a b → is_linked a.nodelets a.number k ≡ true → is_linked b.nodelets b.number k ≡ true
linked_behind a b k same linked = ap (λ n. is_linked n b.number k) same.nodelets ∙ ap (λ h. is_linked a.nodelets h k) same.number ∙ linked

-- A nodelet has a link to each other one.
pub linked_other : (n here k : ℕ) → here < n → k < n → k ≢ here → is_linked n here k ≡ true
linked_other n here k there other apart = go (here == k) refl
  where
    go : (t : Bool) → (here == k) ≡ t → is_linked n here k ≡ true
    go true e = absurd (apart (sym (eqb-true _ _ e)))
    go false e = let p = lt-ltb here n there in let q = lt-ltb k n other in rw e (rw p (rw q refl))

-- ---- addresses

true_from : (b : Bool) → not b ≡ false → b ≡ true
true_from true e = refl
true_from false e = absurd (let wrong : true ≡ false = e in cc)

-- The address of an operation that is due here is valid.
pub issue_valid : (code : Code) (v : Nodelet) (x : carried.Context) (at : Pos) (op : Op) (a word : ℤ) → IsDueHere code v x (due.Issue at op a word) → is_valid a v.nodelets ≡ true
issue_valid code v x at op a word is = true_from (is_valid a v.nodelets) (acts_here code v x (due.Issue at op a word) is refl).good
