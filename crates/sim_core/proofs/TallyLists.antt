-- The lists of a tally, as lists by the number of the nodelet.
use Rattle.std.proofs.Common.{◌≡◌, ℕ, zero, suc, ◌+◌, ◌≤◌, List, [], ◌∷◌, ◌++◌, map, length, take, Some, refl, sym, ap, ◌∙◌, arith, add-one}
use Rattle.std.specs.Prelude.{slice_get, slice_index}
use Rattle.std.proofs.lemmas.List.{map-append, take_more}
use Rattle.std.proofs.Math.Seq.{take-length}
use Rattle.std.specs.Prelude.{flat_map}
use Rattle.sim_core.proofs.Listing.{parts_below}
use Rattle.std.proofs.lemmas.Option.{get_or_from_slice_get}
use Rattle.word_ops.specs.Report.{below}
use Rattle.word_ops.specs.declared.traffic.Traffic.{Traffic}
use Rattle.threadlet_code.specs.declared.code.Code.{Code}
use Rattle.nodelet_core.specs.declared.nodelet.Nodelet.{Nodelet}
use Rattle.core_model.specs.Nodes.{Node}
use Rattle.nodelet_core.specs.Kept.{node_of}
use Rattle.sim_core.specs.declared.machine.Core.{Core as Kept}
use Rattle.sim_core.specs.Kept.{core_in}
use Rattle.sim_core.proofs.Legal.{node_there}

-- One number more.
pub map_more : (f : ℕ → ℕ) (k : ℕ) → map f (below (k + 1)) ≡ map f (below k) ++ f k ∷ []
map_more f k = ap (λ n. map f (below n)) (add-one k) ∙ map-append f (below k) (k ∷ [])

-- The first numbers of a list, each by its place.
first_places : (l : List ℕ) (n : ℕ) → n ≤ length l → map (slice_index l) (below n) ≡ take n l
first_places l zero h = refl
first_places l (suc n) h =
    map-append (slice_index l) (below n) (n ∷ []) ∙ ap (λ m. m ++ slice_index l n ∷ []) (first_places l n (omega arith))
    ∙ sym (take_more l n 0 (omega arith)) ∙ ap (λ m. take m l) (add-one n)

-- All of them.
pub all_places : (l : List ℕ) (n : ℕ) → length l ≡ n → map (slice_index l) (below n) ≡ l
all_places l n size = first_places l n (omega arith) ∙ ap (λ i. take i l) (sym size) ∙ take-length l

-- What a nodelet has counted at a place.
pub counted_there : (code : Code) (kept : Kept) (k : ℕ) (v : Nodelet) → slice_get kept.nodes.items k ≡ Some v → (read : Node → ℕ → ℕ) (l : List ℕ) (i x : ℕ)
    → read ((core_in code kept).nodes k) ≡ slice_index l → slice_get l i ≡ Some x → x ≡ read ((core_in code kept).nodes k) i
counted_there code kept k v there read l i x is at = sym (get_or_from_slice_get l i x 0 at) ∙ sym (ap (λ (f : ℕ → ℕ). f i) is)

module _ (code : Code) (kept : Kept) (k : ℕ) (v : Nodelet) (there : slice_get kept.nodes.items k ≡ Some v) where
  abbrev at : ℕ → Node
  at = (core_in code kept).nodes

  -- The rows of the nodelets up to one more.
  pub row_more : (rows : Node → ℕ → ℕ) (l : List ℕ) (n : ℕ) → rows (node_of code v) ≡ slice_index l → length l ≡ n → (before after_it more : List ℕ)
      → before ≡ flat_map (λ i. map (rows (at i)) (below n)) (below k) → after_it ≡ before ++ more → more ≡ l
      → after_it ≡ flat_map (λ i. map (rows (at i)) (below n)) (below (k + 1))
  row_more rows l n reads size before after_it more up_to then_is is =
      then_is ∙ ap (λ m. m ++ more) up_to
      ∙ ap (λ m. flat_map (λ i. map (rows (at i)) (below n)) (below k) ++ m)
      (is ∙ sym (ap (λ (w : Node). map (rows w) (below n)) (node_there code kept k v there) ∙ ap (λ f. map f (below n)) reads ∙ all_places l n size))
      ∙ sym (parts_below (λ i. map (rows (at i)) (below n)) k)

  -- One number of each nodelet up to one more.
  pub number_more : (read : Node → ℕ) → (before after_it : List ℕ) (x : ℕ) → before ≡ map (λ i. read (at i)) (below k) → after_it ≡ before ++ x ∷ [] → x ≡ read (node_of code v)
      → after_it ≡ map (λ i. read (at i)) (below (k + 1))
  number_more read before after_it x up_to then_is is =
      then_is ∙ ap (λ m. m ++ x ∷ []) up_to ∙ ap (λ y. map (λ i. read (at i)) (below k) ++ y ∷ []) (is ∙ sym (ap read (node_there code kept k v there)))
      ∙ sym (map_more (λ i. read (at i)) k)

-- Traffic is told by its parts.
pub same_traffic : (t : Traffic) (n : ℕ) (moves births posts dones turns applied : List ℕ) → t.n ≡ n → t.moves ≡ moves → t.births ≡ births → t.posts ≡ posts → t.dones ≡ dones
    → t.turns ≡ turns → t.applied ≡ applied → t ≡ record { n = n; moves = moves; births = births; posts = posts; dones = dones; turns = turns; applied = applied }
same_traffic t n moves births posts dones turns applied a b c d e f g =
    ap (λ x. record t { n = x }) a ∙ ap (λ x. record t { n = n; moves = x }) b ∙ ap (λ x. record t { n = n; moves = moves; births = x }) c
    ∙ ap (λ x. record t { n = n; moves = moves; births = births; posts = x }) d ∙ ap (λ x. record t { n = n; moves = moves; births = births; posts = posts; dones = x }) e
    ∙ ap (λ x. record t { n = n; moves = moves; births = births; posts = posts; dones = dones; turns = x }) f
    ∙ ap (λ x. record t { n = n; moves = moves; births = births; posts = posts; dones = dones; turns = turns; applied = x }) g
