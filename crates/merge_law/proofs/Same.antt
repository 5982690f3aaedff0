-- An event that is possible on what a nodelet received is possible where more is to be taken.
use Rattle.std.proofs.Common.{◌≡◌, ℕ, ◌<◌, ◌≤◌, List, [], ◌∷◌, ◌++◌, Some, None, refl, sym, ap, ◌∙◌, subst, arith, Bool, true, false}
use Rattle.std.specs.Prelude.{if◌then◌else◌, ◌==◌, nat_lt, option_map}
use Rattle.std.proofs.lemmas.Bool.{eqb-true}
use Rattle.word_ops.specs.declared.name.Name.{Name}
use Rattle.merge_law.specs.declared.event.Event.{Event}
use Rattle.merge_law.specs.declared.event.Event.TheVariants.{Run, Take}
use Rattle.merge_law.specs.Machine.{Machine, is_linked, run_at, take_at}
use Rattle.merge_law.specs.Events.{nodelet_of}
use Rattle.merge_law.specs.Core.{Advance, leaving, but_from, take_first, advance}
use Rattle.merge_law.proofs.Somes.{head_is, tail_is, FromIf, FromMap, from_if, from_map}
use Rattle.merge_law.proofs.Stamps.{take_is}

-- g and then A is f and then W, on each link to nodelet k
pub record Fits {P : Type 0} (n k : ℕ) (f g A W : ℕ → List P) : Type 0 where
  pub on : (o : ℕ) → is_linked n o k ≡ true → g o ++ A o ≡ f o ++ W o

module _ {V B P : Type 0} (m : Machine V B P) where
  -- the same event where g is to be taken; what is left then fits too
  pub record Same (k : ℕ) (v : V) (event : Event) (g A W : ℕ → List P) (d : Advance V P) : Type 0 where
    pub to : Advance V P
    pub goes : advance m v g event ≡ Some to
    pub outcome : to.outcome ≡ d.outcome
    pub left : Fits m.nodelets k d.left to.left A W
    pub apart : (o : ℕ) → is_linked m.nodelets o k ≡ false → to.left o ≡ g o

  -- no packet of A is older than an event
  pub record Late (k : ℕ) (A : ℕ → List P) (s : ℕ) : Type 0 where
    pub late : (o : ℕ) (p : P) (ps : List P) → is_linked m.nodelets o k ≡ true → A o ≡ p ∷ ps → s ≤ m.sent_at p

  same_run : (k i : ℕ) (v : V) (name : Name) (f g A W : ℕ → List P) (d : Advance V P) → advance m v f (Run i name) ≡ Some d → Fits m.nodelets k f g A W → Same k v (Run i name) g A W d
  same_run k i v name f g A W d e h =
      let t = from_if (nat_lt i m.nodelets) (option_map (leaving f) (run_at m i v name)) d e in
      let o = from_map (leaving f) (run_at m i v name) d t.was in
      record {
        to = leaving g o.value;
        goes = ap (λ b. if b then option_map (leaving g) (run_at m i v name) else None) t.test ∙ ap (option_map (leaving g)) o.was;
        outcome = ap (λ (y : Advance V P). y.outcome) o.is;
        left = record { on = λ a l. h.on a l ∙ ap (λ (y : Advance V P). y.left a ++ W a) o.is };
        apart = λ a l. refl;
      }

  -- the first packet of f is the first of g
  module _ (k o : ℕ) (v : V) (f g A W : ℕ → List P) (h : Fits m.nodelets k f g A W) (linked : is_linked m.nodelets o k ≡ true) (p : P) (rest : List P) (first : f o ≡ p ∷ rest) where
    nothing_older : (d : Advance V P) → take_first m k v o f (p ∷ rest) ≡ Some d → Late k A d.outcome.entry.stamp → g o ≡ [] → ⊥
    nothing_older d e late none =
        let q = from_map (leaving (but_from o rest f)) (take_at m k v o p) d e in
        let later : m.sent_at p < q.value.entry.stamp = (take_is m k v o p q.value q.was).later in
        let here : m.sent_at p < d.outcome.entry.stamp = subst (λ (y : Advance V P). m.sent_at p < y.outcome.entry.stamp) q.is later in
        let waits : A o ≡ p ∷ (rest ++ W o) = ap (λ l. l ++ A o) (sym none) ∙ h.on o linked ∙ ap (λ l. l ++ W o) first in
        let least : d.outcome.entry.stamp ≤ m.sent_at p = late.late o p (rest ++ W o) linked waits in
        omega arith

    taken : (tail : List P) (d : Advance V P) → take_first m k v o f (p ∷ rest) ≡ Some d → g o ≡ p ∷ tail → Same k v (Take o k) g A W d
    taken tail d e there = record {
      to = leaving (but_from o tail g) q.value;
      goes =
          ap (λ b. if b then take_first m k v o g (g o) else None) linked
          ∙ ap (take_first m k v o g) there
          ∙ ap (option_map (leaving (but_from o tail g))) q.was;
      outcome = ap (λ (y : Advance V P). y.outcome) q.is;
      left = record { on = λ a l. each a l (a == o) refl ∙ ap (λ (y : Advance V P). y.left a ++ W a) q.is };
      apart = λ a l. beside a l (a == o) refl;
    }
      where
        q : FromMap (leaving (but_from o rest f)) (take_at m k v o p) d
        q = from_map (leaving (but_from o rest f)) (take_at m k v o p) d e

        tails : tail ++ A o ≡ rest ++ W o
        tails = tail_is p p _ _ (ap (λ l. l ++ A o) (sym there) ∙ h.on o linked ∙ ap (λ l. l ++ W o) first)

        each : (a : ℕ) → is_linked m.nodelets a k ≡ true → (b : Bool) → (a == o) ≡ b → (if b then tail else g a) ++ A a ≡ (if b then rest else f a) ++ W a
        each a l true t = subst (λ z. tail ++ A z ≡ rest ++ W z) (sym (eqb-true _ _ t)) tails
        each a l false t = h.on a l

        beside : (a : ℕ) → is_linked m.nodelets a k ≡ false → (b : Bool) → (a == o) ≡ b → (if b then tail else g a) ≡ g a
        beside a l true t = absurd (let z : true ≡ false = sym linked ∙ ap (λ y. is_linked m.nodelets y k) (sym (eqb-true _ _ t)) ∙ l in cc)
        beside a l false t = refl

  same_take : (k o : ℕ) (v : V) (f g A W : ℕ → List P) (d : Advance V P) → advance m v f (Take o k) ≡ Some d → Fits m.nodelets k f g A W → Late k A d.outcome.entry.stamp → Same k v (Take o k) g A W d
  same_take k o v f g A W d e h late = go (f o) refl (g o) refl t.was
    where
      t : FromIf (is_linked m.nodelets o k) (take_first m k v o f (f o)) d
      t = from_if (is_linked m.nodelets o k) (take_first m k v o f (f o)) d e

      go : (l : List P) → f o ≡ l → (l' : List P) → g o ≡ l' → take_first m k v o f l ≡ Some d → Same k v (Take o k) g A W d
      go [] first l' there q = absurd (cc)
      go (p ∷ rest) first [] there q = absurd (nothing_older k o v f g A W h t.test p rest first d q late there)
      go (p ∷ rest) first (y ∷ ys) there q =
          let both : (y ∷ ys) ++ A o ≡ (p ∷ rest) ++ W o = ap (λ l. l ++ A o) (sym there) ∙ h.on o t.test ∙ ap (λ l. l ++ W o) first in
          let heads : y ≡ p = head_is _ _ _ _ both in
          taken k o v f g A W h t.test p rest first ys d q (there ∙ ap (λ z. z ∷ ys) heads)

  pub same : (k : ℕ) (v : V) (event : Event) (f g A W : ℕ → List P) (d : Advance V P) → nodelet_of event ≡ k → advance m v f event ≡ Some d → Fits m.nodelets k f g A W → Late k A d.outcome.entry.stamp → Same k v event g A W d
  same k v (Run i name) f g A W d at e h late = same_run k i v name f g A W d e h
  same k v (Take o i) f g A W d at e h late = subst (λ z. Same z v (Take o i) g A W d) at (same_take i o v f g A W d e (subst (λ z. Fits m.nodelets z f g A W) (sym at) h) (subst (λ z. Late z A d.outcome.entry.stamp) (sym at) late))
