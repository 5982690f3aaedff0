-- The stamps of events, and what is sent with them.
use Rattle.std.proofs.Common.{◌≡◌, ◌<◌, ℕ, suc, List, [], ◌∷◌, ◌++◌, Bool, true, false, Option, Some, None, refl, sym, ap, ◌∙◌, subst}
use Rattle.std.specs.Prelude.{map, if◌then◌else◌, ◌==◌}
use Rattle.std.proofs.lemmas.List.{append-nil}
use Rattle.std.proofs.lemmas.List.Elements.{All-nil}
use Rattle.word_ops.specs.Report.{below}
use Rattle.word_ops.specs.declared.name.Name.{Name}
use Rattle.merge_law.specs.Machine.{is_linked, last_stamp}
use Rattle.threadlet_code.specs.declared.code.Code.{Code}
use Rattle.threadlet_state.specs.declared.context.Context as carried
use Rattle.nodelet_core.specs.declared.nodelet.Nodelet.{Nodelet}
use Rattle.nodelet_core.specs.declared.counting.Counted.{Counted}
use Rattle.nodelet_core.specs.declared.counting.Posts.{Posts}
use Rattle.nodelet_core.specs.declared.counting.Posts.TheVariants as posts
use Rattle.core_model.specs.Nodes.{Node, with_turn, moved_from, bore_at, posted_to, ended_for, applied_here, sent_away}
use Rattle.nodelet_core.specs.code.Counted.{counted, at_number, where_so, with_posts, with_number}
use Rattle.core_model.specs.Effects.{Sends, nothing, for_each}
use Rattle.core_model.specs.Machine.{packet_of, stamped_node}
use Rattle.nodelet_core.specs.Kept.{node_of, packet_fits}
use Rattle.nodelet_core.specs.code.Became.{Did, Became}
use Rattle.nodelet_core.specs.Left.{Sent}
use Rattle.nodelet_core.specs.code.Doing.{SentMore, goes_on_at, goes_from}
use Rattle.nodelet_core.proofs.Becoming.{settings_then, moved_stamped}

-- ---- the stamp of a nodelet

-- A change that keeps the stamp.
pub did_stamp : (code : Code) (f : Node → Node) (a b : Nodelet) → Did f a b → (f (node_of code a)).stamp ≡ a.stamp → b.stamp ≡ a.stamp
did_stamp code f a b ab keeps = ap (λ v. v.stamp) (ab.node code) ∙ keeps

-- So another event can come behind it.
pub did_before_last : (code : Code) (f : Node → Node) (a b : Nodelet) → Did f a b → (f (node_of code a)).stamp ≡ a.stamp → a.stamp < last_stamp → b.stamp < last_stamp
did_before_last code f a b ab keeps less = subst (λ s. s < last_stamp) (sym (did_stamp code f a b ab keeps)) less

-- Counting for a number leaves the stamp, and so do the others.
number_stamp : (count : ℕ → Node → Node) → ((k : ℕ) (v : Node) → (count k v).stamp ≡ v.stamp) → (k : Option ℕ) (v : Node) → (at_number k count v).stamp ≡ v.stamp
number_stamp count keeps None v = refl
number_stamp count keeps (Some k) v = keeps k v

so_stamp : (change : Node → Node) → ((v : Node) → (change v).stamp ≡ v.stamp) → (t : Bool) (v : Node) → (where_so t change v).stamp ≡ v.stamp
so_stamp change keeps true v = keeps v
so_stamp change keeps false v = refl

each_stamp : (ks : List ℕ) (v : Node) → (for_each ks posted_to v).stamp ≡ v.stamp
each_stamp [] v = refl
each_stamp (k ∷ ks) v = each_stamp ks (posted_to k v)

posts_stamp : (n : ℕ) (p : Posts) (v : Node) → (with_posts n p v).stamp ≡ v.stamp
posts_stamp n posts.Nowhere v = refl
posts_stamp n (posts.To k) v = refl
posts_stamp n posts.ToAll v = each_stamp (below n) v

-- A move is counted whatever the stamp.
move_stamp : (here k : ℕ) (v : Node) → (moved_from here k v).stamp ≡ v.stamp
move_stamp here k v = by_place (k == here) refl
  where
    by_place : (t : Bool) → (k == here) ≡ t → (moved_from here k v).stamp ≡ v.stamp
    by_place true e = rw e refl
    by_place false e = rw e refl

-- What is counted leaves the stamp.
pub counted_stamp : (n here : ℕ) (c : Counted) (v : Node) → (counted n here c v).stamp ≡ v.stamp
counted_stamp n here c v =
    number_stamp (moved_from here) (move_stamp here) c.moved_from _
    ∙ number_stamp ended_for (λ k w. refl) c.ended_for _
    ∙ posts_stamp n c.posts _
    ∙ number_stamp bore_at (λ k w. refl) c.bore_at _
    ∙ so_stamp with_number (λ w. refl) c.spawned _
    ∙ so_stamp sent_away (λ w. refl) c.sent_away _
    ∙ so_stamp applied_here (λ w. refl) c.applied _
    ∙ so_stamp with_turn (λ w. refl) c.turn v

-- What goes on or is gone leaves the stamp of the event.
pub goes_on_stamp : (code : Code) (n here : ℕ) (c : Counted) (y : carried.Context) (came : List carried.Context) (a b : Nodelet) → Became (goes_on_at n here c y) came a b → b.stamp ≡ suc a.stamp
goes_on_stamp code n here c y came a b became =
    ap (λ v. v.stamp) (became.node code) ∙ counted_stamp n here (record c { moved_from = Some y.place }) (stamped_node (suc a.stamp) (node_of code a))

pub goes_stamp : (code : Code) (n here : ℕ) (c : Counted) (name : Name) (came : List carried.Context) (a b : Nodelet) → Became (goes_from n here c name) came a b → b.stamp ≡ suc a.stamp
goes_stamp code n here c name came a b became = ap (λ v. v.stamp) (became.node code) ∙ counted_stamp n here c (stamped_node (suc a.stamp) (node_of code a))

-- The stamp of a nodelet is the same where a move is counted.
pub moved_stamp : (here : ℕ) (from : Option ℕ) (v : Node) → (at_number from (moved_from here) v).stamp ≡ v.stamp
moved_stamp here from v = number_stamp (moved_from here) (move_stamp here) from v

-- Whether a move is counted or not, it is whatever the stamp.
pub moves_stamped : (here : ℕ) (from : Option ℕ) (stamp : ℕ) (v : Node) → at_number from (moved_from here) (stamped_node stamp v) ≡ stamped_node stamp (at_number from (moved_from here) v)
moves_stamped here None stamp v = refl
moves_stamped here (Some k) stamp v = moved_stamped here k stamp v

-- ---- what is sent

-- Nothing is sent.
pub nothing_sent : (code : Code) (n here stamp : ℕ) (sent : Sent) → SentMore code n here stamp nothing sent sent
nothing_sent code n here stamp sent = record {
  more = λ k. [];
  sent = λ k. sym (append-nil (sent k));
  told = λ k. by_link k (is_linked n here k);
  fit = λ k. All-nil (λ p. packet_fits code p ≡ true);
}
  where
    by_link : (k : ℕ) (t : Bool) → [] ≡ (if t then map (packet_of stamp) (nothing k) else [])
    by_link k true = refl
    by_link k false = refl

-- What was sent before is the same by another name.
pub sent_from : (code : Code) (n here stamp : ℕ) (bodies : Sends) (first before after : Sent) → ((k : ℕ) → before k ≡ first k) →
    SentMore code n here stamp bodies before after → SentMore code n here stamp bodies first after
sent_from code n here stamp bodies first before after same s = record {
  more = s.more;
  sent = λ k. s.sent k ∙ ap (λ l. l ++ s.more k) (same k);
  told = s.told;
  fit = s.fit;
}

-- The nodelet that sent is the same by other names.
pub sent_at : (code : Code) (n here stamp m there later : ℕ) (bodies : Sends) (before after : Sent) → n ≡ m → here ≡ there → stamp ≡ later →
    SentMore code n here stamp bodies before after → SentMore code m there later bodies before after
sent_at code n here stamp m there later bodies before after same_count same_number same_stamp s =
    subst (λ k. SentMore code m there k bodies before after) same_stamp
    (subst (λ k. SentMore code m k stamp bodies before after) same_number
    (subst (λ k. SentMore code k here stamp bodies before after) same_count s))

-- What is sent once a context went on has the settings that were before and the stamp of the event.
pub sent_behind : (code : Code) (base : Node → Node) (c : Counted) (y : carried.Context) (came : List carried.Context) (before mid after : Nodelet) (bodies : Sends) (sent_before sent_after : Sent) →
    Did base before mid → (base (node_of code before)).stamp ≡ before.stamp → Became (goes_on_at mid.nodelets mid.number c y) came mid after →
    SentMore code after.nodelets after.number after.stamp bodies sent_before sent_after →
    SentMore code before.nodelets before.number (suc before.stamp) bodies sent_before sent_after
sent_behind code base c y came before mid after bodies sent_before sent_after did keeps became sent =
    let same = settings_then before mid after did.settings became.settings in
    sent_at code after.nodelets after.number after.stamp before.nodelets before.number (suc before.stamp) bodies sent_before sent_after same.nodelets same.number
    (goes_on_stamp code mid.nodelets mid.number c y came mid after became ∙ ap suc (did_stamp code base before mid did keeps)) sent
