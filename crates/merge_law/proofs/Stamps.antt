-- The stamps of an event, and where it sends.
use Rattle.std.proofs.Common.{◌≡◌, ℕ, ◌+◌, ◌<◌, List, [], ◌∷◌, map, Some, refl, sym, ap, ◌∙◌, subst, arith, Bool, true, false}
use Rattle.std.specs.Prelude.{if◌then◌else◌, ◌&&◌, nat_lt, max, option_map}
use Rattle.word_ops.specs.declared.name.Name.{Name}
use Rattle.word_ops.specs.declared.step.NodeEvent.{NodeEvent}
use Rattle.word_ops.specs.declared.step.NodeEvent.TheVariants as node
use Rattle.merge_law.specs.declared.event.Event.{Event}
use Rattle.merge_law.specs.declared.event.Event.TheVariants.{Run, Take}
use Rattle.merge_law.specs.Machine.{Raw, Machine, Outcome, last_stamp, is_linked, stamped, run_at, take_at}
use Rattle.merge_law.specs.Events.{nodelet_of, event_at}
use Rattle.merge_law.specs.Core.{Advance, leaving, but_from, take_first, advance}
use Rattle.merge_law.proofs.Somes.{head_is, from_if, from_map}

pub nodelet_of-event_at : (k : ℕ) (e : NodeEvent) → nodelet_of (event_at k e) ≡ k
nodelet_of-event_at k (node.Run name count) = refl
nodelet_of-event_at k (node.Take origin) = refl

module _ {V B P : Type 0} (m : Machine V B P) where
  -- An event at nodelet k: its stamp is above the node's old one and is its new one; what is sent has it, and goes
  -- along links.
  pub record IsStamped (k : ℕ) (v : V) (d : Outcome V P) : Type 0 where
    pub rises : m.stamp_of v < d.entry.stamp
    pub stays : m.stamp_of d.node ≡ d.entry.stamp
    pub sent : (j : ℕ) (p : P) (ps : List P) → d.sent j ≡ p ∷ ps → m.sent_at p ≡ d.entry.stamp
    pub apart : (j : ℕ) → is_linked m.nodelets k j ≡ false → d.sent j ≡ []

  sent_first : (s : ℕ) (t : Bool) (bodies : List B) (p : P) (ps : List P) → (if t then map (m.packet s) bodies else []) ≡ p ∷ ps → m.sent_at p ≡ s
  sent_first s false bodies p ps e = absurd (cc)
  sent_first s true [] p ps e = absurd (cc)
  sent_first s true (b ∷ bs) p ps e = sym (ap m.sent_at (head_is _ _ _ _ e)) ∙ m.sent_at-packet s b

  stamped_is : (k s : ℕ) (v : V) (event : ℕ → NodeEvent) (raw : Raw V B) → m.stamp_of v < s → IsStamped k v (stamped m k s event raw)
  stamped_is k s v event raw h = record {
    rises = h;
    stays = m.stamp_of-with_stamp s raw.node;
    sent = λ j p ps e. sent_first s (is_linked m.nodelets k j) (raw.bodies j) p ps e;
    apart = λ j e. ap (λ t. if t then map (m.packet s) (raw.bodies j) else []) e;
  }

  run_is : (k : ℕ) (v : V) (name : Name) (d : Outcome V P) → run_at m k v name ≡ Some d → IsStamped k v d
  run_is k v name d e =
      let event : ℕ → NodeEvent = λ count. node.Run name count in
      let s : ℕ = m.stamp_of v + 1 in
      let i = from_if (nat_lt (m.stamp_of v) last_stamp) (option_map (stamped m k s event) (m.run_of k v name)) d e in
      let o = from_map (stamped m k s event) (m.run_of k v name) d i.was in
      subst (IsStamped k v) o.is (stamped_is k s v event o.value (omega arith))

  -- the stamp of a take is above the packet's too
  pub record IsTake (k : ℕ) (v : V) (p : P) (d : Outcome V P) : Type 0 where
    pub is_stamped : IsStamped k v d
    pub later : m.sent_at p < d.entry.stamp

  pub take_is : (k : ℕ) (v : V) (origin : ℕ) (p : P) (d : Outcome V P) → take_at m k v origin p ≡ Some d → IsTake k v p d
  take_is k v origin p d e =
      let event : ℕ → NodeEvent = λ count. node.Take origin in
      let s : ℕ = max (m.stamp_of v) (m.sent_at p) + 1 in
      let i = from_if (nat_lt (m.stamp_of v) last_stamp && nat_lt (m.sent_at p) last_stamp) (option_map (stamped m k s event) (m.take_of k v origin (m.body_of p))) d e in
      let o = from_map (stamped m k s event) (m.take_of k v origin (m.body_of p)) d i.was in
      subst (IsTake k v p) o.is (record { is_stamped = stamped_is k s v event o.value (omega arith); later = omega arith })

  run_tells : (k : ℕ) (v : V) (name : Name) (d : Outcome V P) → run_at m k v name ≡ Some d → event_at k d.entry.event ≡ Run k name
  run_tells k v name d e =
      let event : ℕ → NodeEvent = λ count. node.Run name count in
      let s : ℕ = m.stamp_of v + 1 in
      let i = from_if (nat_lt (m.stamp_of v) last_stamp) (option_map (stamped m k s event) (m.run_of k v name)) d e in
      let o = from_map (stamped m k s event) (m.run_of k v name) d i.was in
      subst (λ (y : Outcome V P). event_at k y.entry.event ≡ Run k name) o.is refl

  take_tells : (k : ℕ) (v : V) (origin : ℕ) (p : P) (d : Outcome V P) → take_at m k v origin p ≡ Some d → event_at k d.entry.event ≡ Take origin k
  take_tells k v origin p d e =
      let event : ℕ → NodeEvent = λ count. node.Take origin in
      let s : ℕ = max (m.stamp_of v) (m.sent_at p) + 1 in
      let i = from_if (nat_lt (m.stamp_of v) last_stamp && nat_lt (m.sent_at p) last_stamp) (option_map (stamped m k s event) (m.take_of k v origin (m.body_of p))) d e in
      let o = from_map (stamped m k s event) (m.take_of k v origin (m.body_of p)) d i.was in
      subst (λ (y : Outcome V P). event_at k y.entry.event ≡ Take origin k) o.is refl

  -- the entry of an event tells of it
  pub advance_tells : (v : V) (incoming : ℕ → List P) (event : Event) (d : Advance V P) → advance m v incoming event ≡ Some d → event_at (nodelet_of event) d.outcome.entry.event ≡ event
  advance_tells v incoming (Run k name) d e =
      let i = from_if (nat_lt k m.nodelets) (option_map (leaving incoming) (run_at m k v name)) d e in
      let o = from_map (leaving incoming) (run_at m k v name) d i.was in
      subst (λ (y : Advance V P). event_at k y.outcome.entry.event ≡ Run k name) o.is (run_tells k v name o.value o.was)
  advance_tells v incoming (Take origin k) d e = go (incoming origin) (from_if (is_linked m.nodelets origin k) (take_first m k v origin incoming (incoming origin)) d e).was
    where
      go : (l : List P) → take_first m k v origin incoming l ≡ Some d → event_at k d.outcome.entry.event ≡ Take origin k
      go [] h = absurd (cc)
      go (p ∷ rest) h =
          let o = from_map (leaving (but_from origin rest incoming)) (take_at m k v origin p) d h in
          subst (λ (y : Advance V P). event_at k y.outcome.entry.event ≡ Take origin k) o.is (take_tells k v origin p o.value o.was)

  pub advance_is : (v : V) (incoming : ℕ → List P) (event : Event) (d : Advance V P) → advance m v incoming event ≡ Some d → IsStamped (nodelet_of event) v d.outcome
  advance_is v incoming (Run k name) d e =
      let i = from_if (nat_lt k m.nodelets) (option_map (leaving incoming) (run_at m k v name)) d e in
      let o = from_map (leaving incoming) (run_at m k v name) d i.was in
      subst (λ (y : Advance V P). IsStamped k v y.outcome) o.is (run_is k v name o.value o.was)
  advance_is v incoming (Take origin k) d e = go (incoming origin) (from_if (is_linked m.nodelets origin k) (take_first m k v origin incoming (incoming origin)) d e).was
    where
      go : (l : List P) → take_first m k v origin incoming l ≡ Some d → IsStamped k v d.outcome
      go [] h = absurd (cc)
      go (p ∷ rest) h =
          let o = from_map (leaving (but_from origin rest incoming)) (take_at m k v origin p) d h in
          subst (λ (y : Advance V P). IsStamped k v y.outcome) o.is (take_is k v origin p o.value o.was).is_stamped
