-- A core that takes the first of the merged events, and what is left of the replays of all nodelets.
use Rattle.std.proofs.Common.{◌≡◌, ℕ, ◌≤◌, List, [], ◌∷◌, ◌++◌, map, Some, refl, sym, ap, ◌∙◌, subst, arith, Bool, true, false, append_assoc}
use Rattle.std.specs.Prelude.{if◌then◌else◌, ◌==◌, cond, filter, option_map, option_and_then}
use Rattle.std.proofs.lemmas.Bool.{eqb-true}
use Rattle.std.proofs.lemmas.List.{append-nil}
use Rattle.word_ops.specs.declared.step.Entry.{Entry}
use Rattle.merge_law.specs.Machine.{Machine, Outcome, is_linked}
use Rattle.merge_law.specs.Events.{Placed, event_of}
use Rattle.merge_law.specs.Core.{Core, After, Played, core_after, told_first, advance, after, play}
use Rattle.merge_law.specs.Replay.{Replayed, replay}
use Rattle.merge_law.specs.Merge.{stamp_of_placed, entry_of, is_of, entries_of}
use Rattle.merge_law.proofs.Somes.{some_is, head_is, tail_is, same_number, swapped}
use Rattle.merge_law.proofs.ByKey.{From, Rises}
use Rattle.merge_law.proofs.Stamps.{IsStamped, nodelet_of-event_at, advance_is}
use Rattle.merge_law.proofs.Replays.{stamp_of_entry, First, first_of, made_first, first_sent}
use Rattle.merge_law.proofs.Same.{Fits, Same, Late, same}

pub from_entries_of : (b k : ℕ) (l : List Placed) → From stamp_of_placed b l → From stamp_of_entry b (entries_of k l)
from_entries_of b k [] h = tt
from_entries_of b k (x ∷ xs) h = go (from_entries_of b k xs h.1) (x.nodelet == k)
  where
    go : From stamp_of_entry b (entries_of k xs) → (t : Bool) → From stamp_of_entry b (map entry_of (cond t (x ∷ filter (is_of k) xs) (filter (is_of k) xs)))
    go ih true = (h.0, ih)
    go ih false = ih

module _ {V B P : Type 0} (m : Machine V B P) where
  -- What is still to come of each nodelet's entries replays on what it has still to receive; on each link stands what
  -- is to be received, and then what waits, but for what is still to be sent; and nothing stands where no link is.
  pub record Parts (l : List Placed) (c : Core V P) (received waiting : ℕ → ℕ → List P) (r : ℕ → Replayed V P) : Type 0 where
    pub replays : (k : ℕ) → replay m k (entries_of k l) (c.nodes k) (λ o. received o k) ≡ Some (r k)
    pub made : (k : ℕ) → (r k).made ≡ entries_of k l
    pub none_left : (o k : ℕ) → is_linked m.nodelets o k ≡ true → (r k).left o ≡ []
    pub links : (k : ℕ) → Fits m.nodelets k (λ o. received o k) (λ o. c.links o k) (λ o. (r o).sent k) (λ o. waiting o k)
    pub apart : (o k : ℕ) → is_linked m.nodelets o k ≡ false → c.links o k ≡ []

  -- The entries are those of legal events, which lead where the replays do.
  pub record Legal (l : List Placed) (c : Core V P) (waiting : ℕ → ℕ → List P) (r : ℕ → Replayed V P) : Type 0 where
    pub end : Core V P
    pub plays : play m (map event_of l) c ≡ Some (record { core = end; told = l })
    pub nodes : (k : ℕ) → end.nodes k ≡ (r k).node
    pub links : (o k : ℕ) → is_linked m.nodelets o k ≡ true → end.links o k ≡ waiting o k
    pub apart : (o k : ℕ) → is_linked m.nodelets o k ≡ false → end.links o k ≡ []

  both_empty : (a b : List P) → a ≡ [] → b ≡ [] → a ++ b ≡ []
  both_empty a b p q = ap (λ z. z ++ b) p ∙ q

  module _ (x : Placed) (xs : List Placed) (c : Core V P) (received waiting : ℕ → ℕ → List P) (r : ℕ → Replayed V P) (parts : Parts (x ∷ xs) c received waiting r) (low : From stamp_of_placed x.entry.stamp xs) where
    abbrev i : ℕ
    i = x.nodelet

    mine : entries_of i (x ∷ xs) ≡ x.entry ∷ entries_of i xs
    mine = ap (λ t. map entry_of (cond t (x ∷ filter (is_of i) xs) (filter (is_of i) xs))) (same_number i)

    theirs : (k : ℕ) → (k == i) ≡ false → entries_of k (x ∷ xs) ≡ entries_of k xs
    theirs k e = ap (λ t. map entry_of (cond t (x ∷ filter (is_of k) xs) (filter (is_of k) xs))) (swapped i k e)

    a : First m i x.entry (entries_of i xs) (c.nodes i) (λ o. received o i) (r i)
    a = first_of m i x.entry (entries_of i xs) (c.nodes i) (λ o. received o i) (r i) (ap (λ l. replay m i l (c.nodes i) (λ o. received o i)) (sym mine) ∙ parts.replays i)

    both : a.d.outcome.entry ∷ a.rest.made ≡ x.entry ∷ entries_of i xs
    both = made_first m i x.entry (entries_of i xs) (c.nodes i) (λ o. received o i) (r i) a (parts.made i ∙ mine)

    -- no nodelet will send what is older than the event
    late : Late m i (λ o. (r o).sent i) a.d.outcome.entry.stamp
    late = record { late = λ o p ps l s. subst (λ t. t ≤ m.sent_at p) (sym e_is) (first_sent m x.entry.stamp o (entries_of o (x ∷ xs)) (c.nodes o) (λ b. received b o) (r o) (parts.replays o) (parts.made o) (from_entries_of x.entry.stamp o (x ∷ xs) all) i p ps s) }
      where
        e_is : a.d.outcome.entry.stamp ≡ x.entry.stamp
        e_is = ap stamp_of_entry (head_is _ _ _ _ both)

        all : From stamp_of_placed x.entry.stamp (x ∷ xs)
        all = ((let z : x.entry.stamp ≤ x.entry.stamp = omega arith in z), low)

    s : Same m i (c.nodes i) (event_of x) (λ o. c.links o i) (λ o. (r o).sent i) (λ o. waiting o i) a.d
    s = same m i (c.nodes i) (event_of x) (λ o. received o i) (λ o. c.links o i) (λ o. (r o).sent i) (λ o. waiting o i) a.d (nodelet_of-event_at i x.entry.event) a.goes (parts.links i) late

    sound : IsStamped m i (c.nodes i) a.d.outcome
    sound = subst (λ z. IsStamped m z (c.nodes i) a.d.outcome) (nodelet_of-event_at i x.entry.event) (advance_is m (c.nodes i) (λ o. received o i) (event_of x) a.d a.goes)

    abbrev next : Core V P
    next = (core_after c i s.to).core

    abbrev received' : ℕ → ℕ → List P
    received' o k = if k == i then a.d.left o else received o k

    abbrev r' : ℕ → Replayed V P
    r' k = if k == i then a.rest else r k

    replays' : (k : ℕ) → replay m k (entries_of k xs) (next.nodes k) (λ o. received' o k) ≡ Some (r' k)
    replays' k = go (k == i) refl
      where
        go : (t : Bool) → (k == i) ≡ t → replay m k (entries_of k xs) (if t then s.to.outcome.node else c.nodes k) (λ o. if t then a.d.left o else received o k) ≡ Some (if t then a.rest else r k)
        go true e = subst (λ z. replay m z (entries_of z xs) s.to.outcome.node (λ o. a.d.left o) ≡ Some a.rest) (sym (eqb-true _ _ e)) (ap (λ (y : Outcome V P). replay m i (entries_of i xs) y.node a.d.left) s.outcome ∙ a.replays)
        go false e = ap (λ l. replay m k l (c.nodes k) (λ o. received o k)) (sym (theirs k e)) ∙ parts.replays k

    made' : (k : ℕ) → (r' k).made ≡ entries_of k xs
    made' k = go (k == i) refl
      where
        go : (t : Bool) → (k == i) ≡ t → (if t then a.rest else r k).made ≡ entries_of k xs
        go true e = tail_is _ _ _ _ both ∙ ap (λ z. entries_of z xs) (sym (eqb-true _ _ e))
        go false e = parts.made k ∙ theirs k e

    none_left' : (o k : ℕ) → is_linked m.nodelets o k ≡ true → (r' k).left o ≡ []
    none_left' o k l = go (k == i) refl
      where
        go : (t : Bool) → (k == i) ≡ t → (if t then a.rest else r k).left o ≡ []
        go true e = ap (λ (y : Replayed V P). y.left o) a.whole ∙ parts.none_left o i (subst (λ z. is_linked m.nodelets o z ≡ true) (eqb-true _ _ e) l)
        go false e = parts.none_left o k l

    -- what is sent now stands behind a link, and what is still sent comes after it
    sums : (o k : ℕ) (l : List P) → (l ++ (if o == i then s.to.outcome.sent k else [])) ++ (r' o).sent k ≡ l ++ (r o).sent k
    sums o k l = go (o == i) refl
      where
        go : (t : Bool) → (o == i) ≡ t → (l ++ (if t then s.to.outcome.sent k else [])) ++ (if t then a.rest else r o).sent k ≡ l ++ (r o).sent k
        go true e =
            append_assoc l (s.to.outcome.sent k) (a.rest.sent k)
            ∙ ap (λ (y : Outcome V P). l ++ (y.sent k ++ a.rest.sent k)) s.outcome
            ∙ ap (λ (y : Replayed V P). l ++ y.sent k) a.whole
            ∙ ap (λ z. l ++ (r z).sent k) (sym (eqb-true _ _ e))
        go false e = ap (λ z. z ++ (r o).sent k) (append-nil l)

    links' : (k : ℕ) → Fits m.nodelets k (λ o. received' o k) (λ o. next.links o k) (λ o. (r' o).sent k) (λ o. waiting o k)
    links' k = record { on = λ o l. go o l (k == i) refl }
      where
        go : (o : ℕ) → is_linked m.nodelets o k ≡ true → (t : Bool) → (k == i) ≡ t → ((if t then s.to.left o else c.links o k) ++ (if o == i then s.to.outcome.sent k else [])) ++ (r' o).sent k ≡ (if t then a.d.left o else received o k) ++ waiting o k
        go o l true e = sums o k (s.to.left o) ∙ subst (λ z. is_linked m.nodelets o z ≡ true → s.to.left o ++ (r o).sent z ≡ a.d.left o ++ waiting o z) (sym (eqb-true _ _ e)) (s.left.on o) l
        go o l false e = sums o k (c.links o k) ∙ (parts.links k).on o l

    apart' : (o k : ℕ) → is_linked m.nodelets o k ≡ false → next.links o k ≡ []
    apart' o k l = both_empty _ _ (stays (k == i) refl) (sends (o == i) refl)
      where
        stays : (t : Bool) → (k == i) ≡ t → (if t then s.to.left o else c.links o k) ≡ []
        stays true e =
            let here : is_linked m.nodelets o i ≡ false = subst (λ z. is_linked m.nodelets o z ≡ false) (eqb-true _ _ e) l in
            s.apart o here ∙ parts.apart o i here
        stays false e = parts.apart o k l

        sends : (t : Bool) → (o == i) ≡ t → (if t then s.to.outcome.sent k else []) ≡ []
        sends true e =
            let here : is_linked m.nodelets i k ≡ false = subst (λ z. is_linked m.nodelets z k ≡ false) (eqb-true _ _ e) l in
            ap (λ (y : Outcome V P). y.sent k) s.outcome ∙ sound.apart k here
        sends false e = refl

    parts' : Parts xs next received' waiting r'
    parts' = record { replays = replays'; made = made'; none_left = none_left'; links = links'; apart = apart' }

    node_is : (k : ℕ) → (r' k).node ≡ (r k).node
    node_is k = go (k == i) refl
      where
        go : (t : Bool) → (k == i) ≡ t → (if t then a.rest else r k).node ≡ (r k).node
        go true e = ap (λ (y : Replayed V P). y.node) a.whole ∙ ap (λ z. (r z).node) (sym (eqb-true _ _ e))
        go false e = refl

    placed_is : record { nodelet = i; entry = s.to.outcome.entry } ≡ x
    placed_is = ap (λ (y : Entry). let z : Placed = record { nodelet = i; entry = y } in z) (ap (λ (y : Outcome V P). y.entry) s.outcome ∙ head_is _ _ _ _ both)

    comes_next : after m c (event_of x) ≡ Some (core_after c i s.to)
    comes_next =
        ap (λ z. option_map (core_after c z) (advance m (c.nodes z) (λ o. c.links o z) (event_of x))) (nodelet_of-event_at i x.entry.event)
        ∙ ap (option_map (core_after c i)) s.goes

    then_legal : Legal xs next waiting r' → Legal (x ∷ xs) c waiting r
    then_legal h = record {
      end = h.end;
      plays =
          ap (option_and_then (λ (y : After V P). option_map (told_first y.entry) (play m (map event_of xs) y.core))) comes_next
          ∙ ap (option_map (told_first (core_after c i s.to).entry)) h.plays
          ∙ ap (λ z. let y : Played V P = record { core = h.end; told = z ∷ xs } in Some y) placed_is;
      nodes = λ k. h.nodes k ∙ node_is k;
      links = h.links;
      apart = h.apart;
    }

  -- Entries whose stamps never fall and whose parts replay are those of legal events.
  pub legal : (l : List Placed) (c : Core V P) (received waiting : ℕ → ℕ → List P) (r : ℕ → Replayed V P) → Parts l c received waiting r → Rises stamp_of_placed l → Legal l c waiting r
  legal [] c received waiting r parts rises = record {
    end = c;
    plays = refl;
    nodes = λ k. ap (λ (y : Replayed V P). y.node) (some_is _ _ (parts.replays k));
    links = λ o k l.
        sym (append-nil (c.links o k))
        ∙ ap (λ (y : Replayed V P). c.links o k ++ y.sent k) (some_is _ _ (parts.replays o))
        ∙ (parts.links k).on o l
        ∙ ap (λ z. z ++ waiting o k) (ap (λ (y : Replayed V P). y.left o) (some_is _ _ (parts.replays k)) ∙ parts.none_left o k l);
    apart = parts.apart;
  }
  legal (x ∷ xs) c received waiting r parts rises = then_legal x xs c received waiting r parts rises.0 (legal xs (next x xs c received waiting r parts rises.0) (received' x xs c received waiting r parts rises.0) waiting (r' x xs c received waiting r parts rises.0) (parts' x xs c received waiting r parts rises.0) rises.1)
