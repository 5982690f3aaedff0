-- The first event of a replay and the rest, and the stamps of what it makes and sends.
use Rattle.std.proofs.Common.{◌≡◌, ℕ, ◌<◌, ◌≤◌, List, [], ◌∷◌, ◌++◌, Some, refl, sym, ap, ◌∙◌, subst, arith}
use Rattle.std.specs.Prelude.{option_map}
use Rattle.word_ops.specs.declared.step.Entry.{Entry}
use Rattle.merge_law.specs.Machine.{Machine}
use Rattle.merge_law.specs.Events.{nodelet_of, event_at}
use Rattle.merge_law.specs.Core.{Advance, advance}
use Rattle.merge_law.specs.Replay.{Replayed, outcome_first, replay}
use Rattle.merge_law.proofs.Somes.{some_is, head_is, tail_is, from_map, from_then}
use Rattle.merge_law.proofs.ByKey.{From, Rises, weaker}
use Rattle.merge_law.proofs.Stamps.{IsStamped, advance_is}

abbrev pub stamp_of_entry : Entry → ℕ
stamp_of_entry e = e.stamp

module _ {V B P : Type 0} (m : Machine V B P) where
  pub record First (k : ℕ) (e : Entry) (es : List Entry) (v : V) (received : ℕ → List P) (r : Replayed V P) : Type 0 where
    pub d : Advance V P
    pub goes : advance m v received (event_at k e.event) ≡ Some d
    pub rest : Replayed V P
    pub replays : replay m k es d.outcome.node d.left ≡ Some rest
    pub whole : outcome_first d.outcome rest ≡ r

  pub first_of : (k : ℕ) (e : Entry) (es : List Entry) (v : V) (received : ℕ → List P) (r : Replayed V P) → replay m k (e ∷ es) v received ≡ Some r → First k e es v received r
  first_of k e es v received r h =
      let a = from_then (λ (d : Advance V P). option_map (outcome_first d.outcome) (replay m k es d.outcome.node d.left)) (advance m v received (event_at k e.event)) r h in
      let b = from_map (outcome_first a.value.outcome) (replay m k es a.value.outcome.node a.value.left) r a.next in
      record { d = a.value; goes = a.was; rest = b.value; replays = b.was; whole = b.is }

  -- the entries that a first event and the rest make
  pub made_first : (k : ℕ) (e : Entry) (es : List Entry) (v : V) (received : ℕ → List P) (r : Replayed V P) (a : First k e es v received r) → r.made ≡ e ∷ es → a.d.outcome.entry ∷ a.rest.made ≡ e ∷ es
  made_first k e es v received r a is = ap (λ (y : Replayed V P). y.made) a.whole ∙ is

  stamps_rise : (a b : ℕ) (es : List Entry) → a < b → From stamp_of_entry b es → From stamp_of_entry a es
  stamps_rise a b es h all = weaker stamp_of_entry a b es (omega arith) all

  pub record Rising (v : V) (es : List Entry) : Type 0 where
    pub above : From stamp_of_entry (m.stamp_of v) es
    pub rises : Rises stamp_of_entry es

  -- the stamps of a replay's entries are above the node's, and rise
  pub rising : (k : ℕ) (es : List Entry) (v : V) (received : ℕ → List P) (r : Replayed V P) → replay m k es v received ≡ Some r → r.made ≡ es → Rising v es
  rising k [] v received r h is = record { above = tt; rises = tt }
  rising k (e ∷ es) v received r h is = go (rising k es a.d.outcome.node a.d.left a.rest a.replays (tail_is _ _ _ _ made))
    where
      a : First k e es v received r
      a = first_of k e es v received r h

      made : a.d.outcome.entry ∷ a.rest.made ≡ e ∷ es
      made = made_first k e es v received r a is

      st : IsStamped m (nodelet_of (event_at k e.event)) v a.d.outcome
      st = advance_is m v received (event_at k e.event) a.d a.goes

      e_is : a.d.outcome.entry.stamp ≡ e.stamp
      e_is = ap stamp_of_entry (head_is _ _ _ _ made)

      below : m.stamp_of v < e.stamp
      below = subst (λ s. m.stamp_of v < s) e_is st.rises

      go : Rising a.d.outcome.node es → Rising v (e ∷ es)
      go ih =
          let later : From stamp_of_entry e.stamp es = subst (λ s. From stamp_of_entry s es) (st.stays ∙ e_is) ih.above in
          record { above = ((let h : m.stamp_of v ≤ e.stamp = omega (arith, below) in h), stamps_rise (m.stamp_of v) e.stamp es below later); rises = (later, ih.rises) }

  -- the first packet that a replay sends has the stamp of an entry
  pub first_sent : (b k : ℕ) (es : List Entry) (v : V) (received : ℕ → List P) (r : Replayed V P) → replay m k es v received ≡ Some r → r.made ≡ es → From stamp_of_entry b es → (j : ℕ) (p : P) (ps : List P) → r.sent j ≡ p ∷ ps → b ≤ m.sent_at p
  first_sent b k [] v received r h is all j p ps s = absurd (let z : [] ≡ p ∷ ps = ap (λ (y : Replayed V P). y.sent j) (some_is _ _ h) ∙ s in cc)
  first_sent b k (e ∷ es) v received r h is all j p ps s = go (λ g. first_sent b k es a.d.outcome.node a.d.left a.rest a.replays (tail_is _ _ _ _ made) all.1 j p ps (ap (λ l. l ++ a.rest.sent j) (sym g) ∙ both)) (a.d.outcome.sent j) refl
    where
      a : First k e es v received r
      a = first_of k e es v received r h

      made : a.d.outcome.entry ∷ a.rest.made ≡ e ∷ es
      made = made_first k e es v received r a is

      st : IsStamped m (nodelet_of (event_at k e.event)) v a.d.outcome
      st = advance_is m v received (event_at k e.event) a.d a.goes

      both : a.d.outcome.sent j ++ a.rest.sent j ≡ p ∷ ps
      both = ap (λ (y : Replayed V P). y.sent j) a.whole ∙ s

      go : (a.d.outcome.sent j ≡ [] → b ≤ m.sent_at p) → (l : List P) → a.d.outcome.sent j ≡ l → b ≤ m.sent_at p
      go ih [] g = ih g
      go ih (x ∷ xs) g =
          let x_is : x ≡ p = head_is _ _ _ _ (ap (λ l. l ++ a.rest.sent j) (sym g) ∙ both) in
          let s_is : m.sent_at x ≡ a.d.outcome.entry.stamp = st.sent j x xs g in
          let e_is : a.d.outcome.entry.stamp ≡ e.stamp = ap stamp_of_entry (head_is _ _ _ _ made) in
          subst (λ t. b ≤ t) (sym e_is ∙ sym s_is ∙ ap m.sent_at x_is) all.0
