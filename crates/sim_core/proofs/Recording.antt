-- What nodelets have recorded, one nodelet after another.
use Rattle.std.proofs.Common.{◌≡◌, ◌≤◌, ◌<◌, ◌⊎◌, inl, inr, ℕ, zero, suc, List, [], ◌∷◌, ◌++◌, map, length, take, get_or, Option, Some, None, refl, sym, ap, ◌∙◌, arith, add-one}
use Rattle.std.specs.Prelude.{slice_get}
use Rattle.std.proofs.lemmas.List.{map-append, take_more}
use Rattle.std.proofs.lemmas.Option.{slice_get_cases}
use Rattle.std.proofs.Math.Seq.{take-length}
use Rattle.word_ops.specs.Report.{below}
use Rattle.threadlet_code.specs.declared.code.Code.{Code}
use Rattle.sim_core.specs.declared.machine.Core.{Core as Kept}
use Rattle.sim_core.specs.Kept.{setup_in, core_in, node_by}
use Rattle.nodelet_core.specs.declared.nodelet.Nodelet.{Nodelet}
use Rattle.sim_core.specs.Advanced.{entries_in}
use Rattle.sim_core.specs.code.Recorded.{parts_in, pieces_in}

-- The entries of one nodelet more.
pub parts_more : (nodes : List Nodelet) (v : Nodelet) → parts_in (nodes ++ v ∷ []) ≡ parts_in nodes ++ v.entries ∷ []
parts_more nodes v = map-append (λ (w : Nodelet). w.entries) nodes (v ∷ [])

-- The output is that of the first.
pub out_more : (nodes : List Nodelet) (v : Nodelet) (earlier : ℕ) (out pieces result : List (List ℕ)) → earlier ≡ length (parts_in nodes)
    → (earlier ≡ 0 → result ≡ pieces) → (1 ≤ earlier → result ≡ out) → out ≡ pieces_in (slice_get nodes 0) → pieces ≡ v.services.pieces
    → result ≡ pieces_in (slice_get (nodes ++ v ∷ []) 0)
out_more [] v earlier out pieces result size first later before is = first size ∙ is
out_more (w ∷ nodes) v earlier out pieces result size first later before is = later (omega arith) ∙ before

-- It is that of the first node.
pub out_there : (code : Code) (kept : Kept) → pieces_in (slice_get kept.nodes.items 0) ≡ ((core_in code kept).nodes 0).pieces
out_there code kept = go (slice_get kept.nodes.items 0)
  where
    go : (o : Option Nodelet) → pieces_in o ≡ (node_by (setup_in code kept) 0 o).pieces
    go None = refl
    go (Some v) = refl

-- The entries of the first nodelets, each by its place.
first_parts : (nodes : List Nodelet) (n : ℕ) → n ≤ length nodes → map (λ k. entries_in (slice_get nodes k)) (below n) ≡ parts_in (take n nodes)
first_parts nodes zero few = refl
first_parts nodes (suc n) few = go (slice_get_cases nodes n).1 (first_parts nodes n (omega arith))
  where
    go : ((x : Nodelet) × (n < length nodes) × (slice_get nodes n ≡ Some x) × (get_or nodes n x ≡ x)) ⊎ ((length nodes ≤ n) × (slice_get nodes n ≡ None))
        → map (λ k. entries_in (slice_get nodes k)) (below n) ≡ parts_in (take n nodes) → map (λ k. entries_in (slice_get nodes k)) (below (suc n)) ≡ parts_in (take (suc n) nodes)
    go (inl there) before =
        map-append (λ k. entries_in (slice_get nodes k)) (below n) (n ∷ []) ∙ ap (λ l. l ++ entries_in (slice_get nodes n) ∷ []) before
        ∙ ap (λ o. parts_in (take n nodes) ++ entries_in o ∷ []) there.2 ∙ sym (parts_more (take n nodes) there.0)
        ∙ ap parts_in (sym (take_more nodes n there.0 there.1 ∙ ap (λ y. take n nodes ++ y ∷ []) there.3) ∙ ap (λ i. take i nodes) (add-one n))
    go (inr past) before = absurd (let le = past.0 in omega arith)

-- The entries of all.
pub all_parts : (nodes : List Nodelet) (n : ℕ) → length nodes ≡ n → parts_in nodes ≡ map (λ k. entries_in (slice_get nodes k)) (below n)
all_parts nodes n size = sym (first_parts nodes n (omega arith) ∙ ap parts_in (ap (λ i. take i nodes) (sym size) ∙ take-length nodes))
