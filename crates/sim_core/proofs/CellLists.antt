-- The words of nodelets, listed one nodelet after another.
use Rattle.std.proofs.Common.{◌≡◌, ◌≢◌, ℕ, zero, suc, ◌+◌, ◌<◌, ◌≤◌, ◌⊎◌, inl, inr, List, [], ◌∷◌, ◌++◌, map, length, refl, sym, ap, ◌∙◌, subst, arith, Bool, true, false, ℤ, pos, ◌<ℤ◌, take, get_or, Some, None, append_assoc}
use Rattle.std.specs.Prelude.{T, All, AllPairs, Contains, IsTrue, ◌==◌, ◌&&◌, ◌||◌, nat_lt, int_lt, slice_get}
use Rattle.std.proofs.lemmas.Bool.Decides.{eqb_tells}
use Rattle.std.proofs.lemmas.Bool.{lt-ltb}
use Rattle.std.proofs.lemmas.List.Elements.{All-nil, All-append, All-weaker, All-map, All-head, All-tail, Contains-append_left, Contains-append_right}
use Rattle.std.proofs.lemmas.List.Kept.{AllPairs-cons}
use Rattle.std.proofs.lemmas.List.{take_more, map-append}
use Rattle.std.proofs.lemmas.Option.{slice_get_within, slice_get_cases, get_or_from_slice_get}
use Rattle.word_ops.specs.declared.traffic.Cell.{Cell}
use Rattle.threadlet_code.specs.declared.code.Code.{Code}
use Rattle.nodelet_core.specs.declared.nodelet.Nodelet.{Nodelet}
use Rattle.nodelet_mem.specs.Listing.{AreWords}
use Rattle.nodelet_mem.specs.Words.{word_of}
use Rattle.world_model.specs.Cells.{precedes, AreCells}
use Rattle.sim_core.specs.declared.machine.Core.{Core as Kept}
use Rattle.core_model.specs.Nodes.{Node}
use Rattle.sim_core.specs.Kept.{core_in, setup_in, node_by}
use Rattle.sim_core.specs.Shown.{cells_in}
use Rattle.sim_core.specs.code.CellsBelow.{cell_at, AreCellsBelow}
use Rattle.sim_core.proofs.FirstOnes.{equal_passes}
use Rattle.sim_core.proofs.Legal.{node_there}

-- ---- lists in order

module _ {X : Type 0} (R : X → X → Type 0) where
  before_rest : (x : X) (xs : List X) → AllPairs R (x ∷ xs) → All (R x) xs
  before_rest x xs order = λ j d less. order 0 (suc j) d (omega arith) (omega arith)

  rest_in_order : (x : X) (xs : List X) → AllPairs R (x ∷ xs) → AllPairs R xs
  rest_in_order x xs order = λ i j d less under. order (suc i) (suc j) d (omega arith) (omega arith)

  -- One list in order behind another.
  in_order_on : (xs ys : List X) → AllPairs R xs → AllPairs R ys → All (λ x. All (R x) ys) xs → AllPairs R (xs ++ ys)
  in_order_on [] ys first second between = second
  in_order_on (x ∷ xs) ys first second between =
      AllPairs-cons R x (xs ++ ys) (All-append (R x) xs ys (before_rest x xs first) (All-head (λ z. All (R z) ys) x xs between))
      (in_order_on xs ys (rest_in_order x xs first) second (All-tail (λ z. All (R z) ys) x xs between))

module _ {X Y : Type 0} (S : Y → Y → Type 0) (f : X → Y) where
  -- In order as they were.
  in_order_mapped : (R : X → X → Type 0) → ((x y : X) → R x y → S (f x) (f y)) → (xs : List X) → AllPairs R xs → AllPairs S (map f xs)
  in_order_mapped R stays [] order = λ i j d less under. absurd (omega arith)
  in_order_mapped R stays (x ∷ xs) order =
      AllPairs-cons S (f x) (map f xs) (All-map (S (f x)) f xs (All-weaker (R x) (λ y. S (f x) (f y)) (stays x) xs (before_rest R x xs order)))
      (in_order_mapped R stays xs (rest_in_order R x xs order))

-- What is in a list is in the list of what becomes of it.
contains_mapped : {X Y : Type 0} (f : X → Y) (xs : List X) (x : X) → Contains xs x → Contains (map f xs) (f x)
contains_mapped f [] x has = absurd (let h = has.1 in omega arith)
contains_mapped f (y ∷ xs) x has = go has.0 has.1 has.2 (contains_mapped f xs x)
  where
    go : (i : ℕ) → i < length (y ∷ xs) → get_or (y ∷ xs) i x ≡ x → (Contains xs x → Contains (map f xs) (f x)) → Contains (map f (y ∷ xs)) (f x)
    go zero under is rest = (0, omega arith, ap f is)
    go (suc i) under is rest = Contains-append_right (f y ∷ []) (map f xs) (f x) (rest (i, omega arith, is))

-- ---- the words of one nodelet more

by_test : (b : Bool) → T b → b ≡ true
by_test true t = refl
by_test false t = absurd t

lower_first : (c d : Cell) → c.nodelet < d.nodelet → IsTrue (precedes c d)
lower_first c d less = ap (λ b. b || (c.nodelet == d.nodelet && int_lt c.address d.address)) (lt-ltb c.nodelet d.nodelet less)

or_true : (a b : Bool) → b ≡ true → (a || b) ≡ true
or_true true b e = refl
or_true false b e = e

by_address : (k : ℕ) (c d : ℤ × ℤ) → c.0 <ℤ d.0 → IsTrue (precedes (cell_at k c) (cell_at k d))
by_address k c d less =
    or_true (nat_lt k k) (k == k && int_lt c.0 d.0) (ap (λ b. b && int_lt c.0 d.0) (equal_passes k k refl) ∙ by_test (int_lt c.0 d.0) less.lt)

module _ (cells : ℕ → ℤ → ℤ) (k : ℕ) (listed : List Cell) (words : List (ℤ × ℤ)) (up_to : AreCellsBelow k cells listed) (are : AreWords (cells k) words) where
  abbrev more : List Cell
  more = map (cell_at k) words

  here : All (λ (c : Cell). c.nodelet ≡ k) more
  here = All-map (λ (c : Cell). c.nodelet ≡ k) (cell_at k) words (λ i d under. refl)

  ordered : AllPairs (λ c d. IsTrue (precedes c d)) (listed ++ more)
  ordered =
      in_order_on (λ c d. IsTrue (precedes c d)) listed more up_to.in_order
      (in_order_mapped (λ c d. IsTrue (precedes c d)) (cell_at k) (λ (c d : ℤ × ℤ). c.0 <ℤ d.0) (by_address k) words are.in_order)
      (All-weaker (λ (c : Cell). c.nodelet < k) (λ c. All (λ d. IsTrue (precedes c d)) more)
      (λ c less. All-weaker (λ (d : Cell). d.nodelet ≡ k) (λ d. IsTrue (precedes c d)) (λ d at. lower_first c d (omega arith)) more here) listed up_to.before)

  whole_more : (j : ℕ) (a : ℤ) → j < k + 1 → cells j a ≢ pos 0 → Contains (listed ++ more) (record { nodelet = j; address = a; word = cells j a })
  whole_more j a less some = go (eqb_tells j k)
    where
      go : (((j == k) ≡ true) × (j ≡ k)) ⊎ (((j == k) ≡ false) × (j ≢ k)) → Contains (listed ++ more) (record { nodelet = j; address = a; word = cells j a })
      go (inl same) =
          let P : ℕ → Type 0 = λ i. Contains (listed ++ more) (record { nodelet = i; address = a; word = cells i a }) in
          subst P (sym same.1)
          (Contains-append_right listed more (cell_at k (a, cells k a))
          (contains_mapped (cell_at k) words (a, cells k a) (are.whole a (subst (λ i. cells i a ≢ pos 0) same.1 some))))
      go (inr other) = Contains-append_left listed more _ (up_to.whole j a (let ne = other.1 in omega arith) some)

  pub cells_more : AreCellsBelow (k + 1) cells (listed ++ more)
  cells_more = record {
    in_order = ordered;
    not_zero = All-append (λ (c : Cell). (cells c.nodelet c.address ≡ c.word) × (c.word ≢ pos 0)) listed more up_to.not_zero
        (All-map (λ (c : Cell). (cells c.nodelet c.address ≡ c.word) × (c.word ≢ pos 0)) (cell_at k) words are.not_zero);
    before = All-append (λ (c : Cell). c.nodelet < k + 1) listed more
        (All-weaker (λ (c : Cell). c.nodelet < k) (λ c. c.nodelet < k + 1) (λ c less. omega arith) listed up_to.before)
        (All-weaker (λ (c : Cell). c.nodelet ≡ k) (λ c. c.nodelet < k + 1) (λ c at. omega arith) more here);
    whole = whole_more;
  }

-- No nodelet has no words.
pub no_cells : (cells : ℕ → ℤ → ℤ) → AreCellsBelow 0 cells []
no_cells cells = record {
  in_order = λ i j d less under. absurd (omega arith);
  not_zero = All-nil _;
  before = All-nil _;
  whole = λ k a less some. absurd (omega arith);
}

-- ---- the words of a core

module _ (code : Code) (kept : Kept) where
  -- The words of a nodelet that is there are those of its node.
  pub words_there : (k : ℕ) (v : Nodelet) (words : List (ℤ × ℤ)) → slice_get kept.nodes.items k ≡ Some v → AreWords (word_of v.words) words → AreWords (cells_in (core_in code kept) k) words
  words_there k v words there are =
      let P : (ℤ → ℤ) → Type 0 = λ word. AreWords word words in
      subst P (sym (ap (λ (w : Node). w.cells) (node_there code kept k v there))) are

  -- Nodelets that are not there have no words.
  pub all_cells : (listed : List Cell) → AreCellsBelow kept.count (cells_in (core_in code kept)) listed → AreCells (cells_in (core_in code kept)) listed
  all_cells listed up_to = record {
    in_order = up_to.in_order;
    not_zero = up_to.not_zero;
    whole = λ k a some. go k a some (slice_get_cases kept.nodes.items k).1;
  }
    where
      go : (k : ℕ) (a : ℤ) → cells_in (core_in code kept) k a ≢ pos 0
          → ((x : Nodelet) × (k < length kept.nodes.items) × (slice_get kept.nodes.items k ≡ Some x) × (get_or kept.nodes.items k x ≡ x)) ⊎ ((length kept.nodes.items ≤ k) × (slice_get kept.nodes.items k ≡ None))
          → Contains listed (record { nodelet = k; address = a; word = cells_in (core_in code kept) k a })
      go k a some (inl there) = up_to.whole k a (let less = there.1 in let size = kept.nodes_count in omega arith) some
      go k a some (inr past) = absurd (some (ap (λ o. (node_by (setup_in code kept) k o).cells a) past.1))

-- One word more.
pub cells_on : (before done after_it : List Cell) (k : ℕ) (words : List (ℤ × ℤ)) (i : ℕ) (x : ℤ × ℤ) → slice_get words i ≡ Some x
    → done ≡ before ++ map (cell_at k) (take i words) → after_it ≡ done ++ cell_at k x ∷ [] → after_it ≡ before ++ map (cell_at k) (take (i + 1) words)
cells_on before done after_it k words i x at up_to then_is =
    then_is ∙ ap (λ l. l ++ cell_at k x ∷ []) up_to ∙ append_assoc before (map (cell_at k) (take i words)) (cell_at k x ∷ [])
    ∙ ap (λ l. before ++ l)
    (sym (ap (map (cell_at k)) (take_more words i x (slice_get_within words i x at) ∙ ap (λ y. take i words ++ y ∷ []) (get_or_from_slice_get words i x x at)) ∙ map-append (cell_at k) (take i words) (x ∷ [])))
