-- Actions that leave operations pending: issues and inits.
use Rattle.std.proofs.Common.{◌≡◌, ℕ, zero, suc, ◌+◌, ◌-◌, ◌<◌, ◌≤◌, List, [], ◌∷◌, ◌++◌, length, map, Some, None, refl, sym, ap, ◌∙◌, arith, Bool, true, false, ℤ, ◌&&◌, not, nat_lt, ⊎_elim}
use Rattle.std.specs.Prelude.{if◌then◌else◌, ◌==◌}
use Rattle.std.proofs.lemmas.Bool.{eqb-true, cases_lt}
use Rattle.std.proofs.lemmas.Bool.Decides.{eqb_tells, nat_tests}
use Rattle.std.proofs.lemmas.List.{append-nil}
use Rattle.word_ops.specs.Report.{below}
use Rattle.word_ops.specs.declared.place.Pos.{Pos}
use Rattle.word_ops.specs.declared.name.Name.{Name}
use Rattle.mem_atomics.specs.declared.op.Op.{Op}
use Rattle.mem_atomics.specs.declared.op.Op.TheVariants.{Store}
use Rattle.mem_atomics.specs.NewWord.{applied}
use Rattle.data_layout.specs.Address.{owner_of}
use Rattle.word_ops.specs.Naming.{same_name}
use Rattle.merge_law.specs.Machine.{is_linked}
use Rattle.world_model.specs.Action.{Issue, Init}
use Rattle.world_model.specs.World.{Item, Operation, World, with_strand}
use Rattle.world_model.specs.World as world
use Rattle.world_model.specs.Effect as world_effect
use Rattle.world_model.specs.Effect.{birthplace}
use Rattle.world_model.proofs.Names.{same_name_refl}
use Rattle.threadlet_code.specs.Breaches.{is_sound}
use Rattle.threadlet_code.specs.Machine.{State}
use Rattle.core_model.specs.Contexts.{Context, Issued}
use Rattle.core_model.specs.Nodes.{Setup, Node}
use Rattle.core_model.specs.Nodes as node
use Rattle.core_model.specs.Effects.{quiet, sending, only_to, for_each, operated, effect}
use Rattle.core_model.specs.Core.{Core, setting_of}
use Rattle.core_model.proofs.Invariant.Sums.{total, total-same, total-to}
use Rattle.core_model.proofs.Invariant.Statement.{Invariant}
use Rattle.core_model.proofs.Actions.DueContext.{Before, settled}
use Rattle.core_model.proofs.Actions.WordActions.{issued_to, IsPlain}
use Rattle.core_model.proofs.Events.QuietActions.{same_cells, same_granted, same_cursors, same_pieces, same_turns, word_cells, quiet_plain}

abbrev pub alone : ℕ → Item → ℕ → List Item
alone to item d = if d == to then item ∷ [] else []

-- an item for one linked nodelet
alone-sent : (n k to : ℕ) (item : Item) → is_linked n k to ≡ true → (d : ℕ) → issued_to n k (alone to item) d ≡ alone to item d
alone-sent n k to item linked d = go (d == to) refl
  where
    none : (t : Bool) → (if t then (let l : List Item = [] in l) else []) ≡ []
    none true = refl
    none false = refl

    go : (t : Bool) → (d == to) ≡ t → (if is_linked n k d then (if t then item ∷ [] else []) else []) ≡ (if t then item ∷ [] else [])
    go true e = ap (λ s. if s then item ∷ [] else []) (ap (is_linked n k) (eqb-true _ _ e) ∙ linked)
    go false e = none (is_linked n k d)

-- an item for each nodelet
abbrev pub to_each : ℕ → Item → ℕ → List Item
to_each n item d = if nat_lt d n then item ∷ [] else []

pub to_each-sent : (n k : ℕ) (item : Item) → k < n → (d : ℕ) → issued_to n k (to_each n item) d ≡ (if nat_lt d n && not (d == k) then item ∷ [] else [])
to_each-sent n k item inside d = go (nat_lt k n) (grind (arith, nat_tests)) (nat_lt d n) (k == d) (d == k) (grind (arith, eqb_tells))
  where
    go : (r : Bool) → r ≡ true → (s t t' : Bool) → t ≡ t' → (if r && s && not t then (if s then item ∷ [] else []) else []) ≡ (if s && not t' then item ∷ [] else [])
    go true e true true true f = refl
    go true e true false false f = refl
    go true e false t t' f = refl
    go false e s t t' f = absurd cc
    go true e true true false f = absurd cc
    go true e true false true f = absurd cc

-- how many nodelets there are other than one of them
pub others-many : (n k : ℕ) (item : Item) → k < n → total n (λ d. length (if nat_lt d n && not (d == k) then item ∷ [] else [])) ≡ n - 1
others-many n k item inside = total-same n (λ d. if d == k then 0 else 1) _ (λ d less. here d less (nat_lt d n) (grind (arith, nat_tests)) (d == k)) ∙ but_one n inside
  where
    here : (d : ℕ) → d < n → (s : Bool) → s ≡ true → (t : Bool) → length (if s && not t then item ∷ [] else []) ≡ (if t then 0 else 1)
    here d less true e true = refl
    here d less true e false = refl
    here d less false e t = absurd cc

    all : (m : ℕ) → m ≤ k → total m (λ d. if d == k then 0 else 1) ≡ m
    all zero le = refl
    all (suc m) le = let h = all m (omega arith) in let ne : (m == k) ≡ false = grind (arith, eqb_tells) in
        let one : (let z : ℕ = if m == k then 0 else 1 in z) ≡ 1 = ap (λ t. let z : ℕ = if t then 0 else 1 in z) ne in omega arith

    but_one : (m : ℕ) → k < m → total m (λ d. if d == k then 0 else 1) ≡ m - 1
    but_one zero less = absurd (omega arith)
    but_one (suc m) less = ⊎_elim
        (λ lt. let h = but_one m lt in let ne : (m == k) ≡ false = grind (arith, eqb_tells) in
        let one : (let z : ℕ = if m == k then 0 else 1 in z) ≡ 1 = ap (λ t. let z : ℕ = if t then 0 else 1 in z) ne in omega arith)
        (λ le. let is : (m == k) ≡ true = grind (arith, eqb_tells) in let h = all m (omega arith) in
        let none : (let z : ℕ = if m == k then 0 else 1 in z) ≡ 0 = ap (λ t. let z : ℕ = if t then 0 else 1 in z) is in omega arith)
        (cases_lt k m)

-- what counting leaves of a node
pub counted-part : {A : Type 0} (f : Node → A) → ((k : ℕ) (y : Node) → f (node.posted_to k y) ≡ f y) → (ks : List ℕ) (v : Node) → f (for_each ks node.posted_to v) ≡ f v
counted-part f same [] v = refl
counted-part f same (k ∷ ks) v = counted-part f same ks (node.posted_to k v) ∙ same k v

module _ (u : Setup) (sound : is_sound u.code ≡ true) (c : Core) (w : World) (inv : Invariant u c w) (k : ℕ) (q : Name) (x : Context) (state : State) where
  abbrev v : Node
  v = c.nodes k

  raised-by : (m : ℕ) (r : Name) → same_name r x.name ≡ true → (node.with_issued v x.name m).under_way r ≡ v.under_way r + m
  raised-by m r e = ap (λ t. if t then v.under_way r + m else v.under_way r) e

  raised-other : (m : ℕ) (r : Name) → same_name r x.name ≡ false → (node.with_issued v x.name m).under_way r ≡ v.under_way r
  raised-other m r e = ap (λ t. if t then v.under_way r + m else v.under_way r) e

  pub issue_plain : (at : Pos) (op : Op) (a word : ℤ) (b : Before u c w inv k q x state (Issue at op a word)) → owner_of a k u.nodelets < u.nodelets →
      IsPlain u sound c w inv k q x state (Issue at op a word) b (effect u k v x state (Issue at op a word))
  issue_plain at op a word b under = go (owner_of a k u.nodelets == k) refl
    where
      to : ℕ
      to = owner_of a k u.nodelets

      here : b.s.place ≡ k
      here = settled u sound c w inv k q x state (Issue at op a word) b (λ y. refl)

      done : ℕ → Bool → World
      done p t = if t
          then world_effect.goes_on (world.with_word w (owner_of a p u.nodelets) a (applied op (w.cells (owner_of a p u.nodelets) a) word)) q b.s (owner_of a p u.nodelets) []
          else world_effect.goes_on w q (world.with_pending b.s (owner_of a p u.nodelets) (Operation op a word at)) p []

      effect_is : world_effect.effect (setting_of u) w q b.s None (Issue at op a word) ≡ Some (done k (to == k))
      effect_is = ap (λ p. Some (done p (owner_of a p u.nodelets == p))) here

      go : (t : Bool) → (to == k) ≡ t → IsPlain u sound c w inv k q x state (Issue at op a word) b
          (if t then quiet (node.posted_to to (operated v op a word)) [] else sending (node.posted_to to (node.with_issued v x.name 1)) (only_to to (Issued x.name (Operation op a word at))))
      go true e = quiet_plain u sound c w inv k q x state (Issue at op a word) b v' [] base refl refl refl refl refl refl
          (effect_is ∙ ap (λ t. Some (done k t)) e ∙ ap (λ p. Some (world_effect.goes_on (world.with_word w p a (applied op (w.cells p a) word)) q b.s p [])) (eqb-true _ _ e))
          (record {
            cells = word_cells u c w inv k v' a (applied op (v.cells a) word) (applied op (w.cells k a) word) b.inside refl (ap (λ y. applied op y word) (inv.shares.cells k a b.inside));
            granted = same_granted u c w inv k v' refl base refl;
            cursors = same_cursors u c w inv k v' refl;
            pieces = same_pieces u c w inv k v' refl;
            turns = same_turns u c w inv k v' refl;
          })
          (λ d. refl)
        where
          v' : Node
          v' = node.posted_to to (operated v op a word)

          base : World
          base = world.with_word w k a (applied op (w.cells k a) word)
      go false e = record {
        out = alone to item;
        contexts = refl;
        results = refl;
        next_number = refl;
        main_value = refl;
        counts = raised-other 1;
        raised = raised-by 1 x.name (same_name_refl x.name)
            ∙ ap (λ m. v.under_way x.name + m) (sym (total-same u.nodelets (λ d. length (alone to item d)) _ (λ d less. ap length (alone-sent u.nodelets k to item linked d)) ∙ total-to u.nodelets to item under));
        sends = λ d. sends d (d == to);
        child = refl;
        base = w;
        pending = world.with_at b.s.pending to (b.s.pending to ++ item ∷ []);
        strands = refl;
        adds = λ d. adds d (d == to) refl ∙ ap (λ l. b.s.pending d ++ l) (sym (alone-sent u.nodelets k to item linked d));
        is = effect_is ∙ ap (λ t. Some (done k t)) e;
        shares = record {
          cells = same_cells u c w inv k v' refl;
          granted = same_granted u c w inv k v' refl w refl;
          cursors = same_cursors u c w inv k v' refl;
          pieces = same_pieces u c w inv k v' refl;
          turns = same_turns u c w inv k v' refl;
        };
        children = λ d. refl;
      }
        where
          item : Item
          item = Operation op a word at

          v' : Node
          v' = node.posted_to to (node.with_issued v x.name 1)

          linked : is_linked u.nodelets k to ≡ true
          linked =
              let r : nat_lt k u.nodelets ≡ true = linked_first k u.nodelets b.inside in
              let s : nat_lt to u.nodelets ≡ true = linked_first to u.nodelets under in
              let t : (k == to) ≡ false = grind (arith, eqb_tells) in rw (r, s, t) refl
            where
              linked_first : (j m : ℕ) → j < m → nat_lt j m ≡ true
              linked_first j m less = grind (arith, nat_tests)

          sends : (d : ℕ) (t : Bool) → (if t then Issued x.name item ∷ [] else []) ≡ map (Issued x.name) (if t then item ∷ [] else [])
          sends d true = refl
          sends d false = refl

          adds : (d : ℕ) (t : Bool) → (d == to) ≡ t → (if t then b.s.pending to ++ item ∷ [] else b.s.pending d) ≡ b.s.pending d ++ (if t then item ∷ [] else [])
          adds d true f = ap (λ i. b.s.pending i ++ item ∷ []) (sym (eqb-true _ _ f))
          adds d false f = sym (append-nil (b.s.pending d))

  pub init_plain : (at : Pos) (a word : ℤ) (b : Before u c w inv k q x state (Init at a word)) →
      IsPlain u sound c w inv k q x state (Init at a word) b (effect u k v x state (Init at a word))
  init_plain at a word b = record {
    out = to_each u.nodelets item;
    contexts = part (λ (y : Node). y.contexts) (λ j y. refl);
    results = part (λ (y : Node). y.results) (λ j y. refl);
    next_number = part (λ (y : Node). y.next_number) (λ j y. refl);
    main_value = part (λ (y : Node). y.main_value) (λ j y. refl);
    counts = λ r ne. ap (λ f. f r) (part (λ (y : Node). y.under_way) (λ j y. refl)) ∙ raised-other (u.nodelets - 1) r ne;
    raised = ap (λ f. f x.name) (part (λ (y : Node). y.under_way) (λ j y. refl)) ∙ raised-by (u.nodelets - 1) x.name (same_name_refl x.name)
        ∙ ap (λ m. v.under_way x.name + m) (sym (total-same u.nodelets _ _ (λ d less. ap length (to_each-sent u.nodelets k item b.inside d)) ∙ others-many u.nodelets k item b.inside));
    sends = λ d. sends (nat_lt d u.nodelets);
    child = refl;
    base = base;
    pending = λ d. if nat_lt d u.nodelets && not (d == k) then b.s.pending d ++ item ∷ [] else b.s.pending d;
    strands = refl;
    adds = λ d. adds d (nat_lt d u.nodelets && not (d == k)) ∙ ap (λ l. b.s.pending d ++ l) (sym (to_each-sent u.nodelets k item b.inside d));
    is = ap (λ p. Some (world_effect.goes_on (world.with_word w p a word) q (world.with_pending_but u.nodelets b.s p item) p [])) (settled u sound c w inv k q x state (Init at a word) b (λ y. refl));
    shares = record {
      cells = word_cells u c w inv k v' a word word b.inside (part (λ (y : Node). y.cells) (λ j y. refl)) refl;
      granted = same_granted u c w inv k v' (part (λ (y : Node). y.granted) (λ j y. refl)) base refl;
      cursors = same_cursors u c w inv k v' (part (λ (y : Node). y.cursors) (λ j y. refl));
      pieces = same_pieces u c w inv k v' (part (λ (y : Node). y.pieces) (λ j y. refl));
      turns = same_turns u c w inv k v' (part (λ (y : Node). y.served) (λ j y. refl));
    };
    children = λ d. refl;
  }
    where
      item : Item
      item = Operation Store a word at

      base : World
      base = world.with_word w k a word

      stored : Node
      stored = node.with_issued (operated v Store a word) x.name (u.nodelets - 1)

      v' : Node
      v' = for_each (below u.nodelets) node.posted_to stored

      part : {A : Type 0} (f : Node → A) → ((j : ℕ) (y : Node) → f (node.posted_to j y) ≡ f y) → f v' ≡ f stored
      part f same = counted-part f same (below u.nodelets) stored

      sends : (t : Bool) → (if t then Issued x.name item ∷ [] else []) ≡ map (Issued x.name) (if t then item ∷ [] else [])
      sends true = refl
      sends false = refl

      adds : (d : ℕ) (t : Bool) → (if t then b.s.pending d ++ item ∷ [] else b.s.pending d) ≡ b.s.pending d ++ (if t then item ∷ [] else [])
      adds d true = refl
      adds d false = sym (append-nil (b.s.pending d))
