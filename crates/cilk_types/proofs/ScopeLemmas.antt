-- Scopes, and the names in them.
use Rattle.std.proofs.Common.{◌≡◌, ◌∙◌, ap, sym, ℕ, suc, ◌<◌, Bool, true, false, List, [], ◌∷◌, ◌++◌, length, map, reverse, take, Some, None, refl, Bor, cond, nat_eq}
use Rattle.std.specs.Option.{option_map, option_or}
use Rattle.std.specs.List.{slice_get}
use Rattle.std.specs.Cmp.Lexicographic.{pointwise}
use Rattle.std.specs.Map.{lookup}
use Rattle.std.specs.Str.{bytes_eq}
use Rattle.std.proofs.Math.Seq.{take-suc}
use Rattle.std.proofs.lemmas.List.{reverse-append}
use Rattle.std.proofs.lemmas.Option.{slice_get_within, get_or_from_slice_get}
use Rattle.cilk_model.specs.Scopes as model
use Rattle.cilk_model.specs.Scopes.{local_named}
use Rattle.cilk_types.specs.declared.scopes.Local.{Local}
use Rattle.cilk_types.specs.Shown.{shown, local_of}

-- the entries of a map of locals, and of maps in the order in which code has them
abbrev Entries : Type 0
Entries = List (Bor (List ℕ) × Local)

-- the test of a key by which code looks a name up
abbrev pub has_bytes : List ℕ → Bor (List ℕ) → Bool
has_bytes name k = pointwise nat_eq name k.now

-- a name is looked up in what is shown
pub lookup_shown : {X Y : Type 0} (f : X → Y) (name : List ℕ) (es : List (Bor (List ℕ) × X)) →
    lookup (bytes_eq name) (shown f es) ≡ option_map f (lookup (has_bytes name) es)
lookup_shown f name [] = refl
lookup_shown {X} {Y} f name (e ∷ es) =
    let here : (b : Bool) → cond b (Some (f e.1)) (lookup (bytes_eq name) (shown f es)) ≡ option_map f (cond b (Some e.1) (lookup (has_bytes name) es)) =
    λ b. elim b as (λ b. cond b (Some (f e.1)) (lookup (bytes_eq name) (shown f es)) ≡ option_map f (cond b (Some e.1) (lookup (has_bytes name) es)))
    [ true ↦ refl | false ↦ lookup_shown f name es ] in
    here (bytes_eq name e.0.now)

-- one item more, from behind
pub reverse_step : {X : Type 0} (xs : List X) (i : ℕ) (x : X) → slice_get xs i ≡ Some x → reverse (take (suc i) xs) ≡ x ∷ reverse (take i xs)
reverse_step xs i x h =
    let within : i < length xs = slice_get_within xs i x h in
    let item : take (suc i) xs ≡ take i xs ++ x ∷ [] =
    take-suc xs i x within ∙ ap (λ y. take i xs ++ y ∷ []) (get_or_from_slice_get xs i x x h) in
    ap reverse item ∙ reverse-append (take i xs) (x ∷ [])

-- the scopes of maps, as far as an index, the innermost first
abbrev scopes_below : {M : Type 0} → (M → Entries) → List M → ℕ → List (List (List ℕ × model.Local))
scopes_below entries maps i = map (λ m. shown local_of (entries m)) (reverse (take i maps))

below_step : {M : Type 0} (entries : M → Entries) (maps : List M) (i : ℕ) (m : M) → slice_get maps i ≡ Some m →
    scopes_below entries maps (suc i) ≡ shown local_of (entries m) ∷ scopes_below entries maps i
below_step entries maps i m h = ap (map (λ m. shown local_of (entries m))) (reverse_step maps i m h)

named_step : {M : Type 0} (entries : M → Entries) (name : List ℕ) (maps : List M) (i : ℕ) (m : M) → slice_get maps i ≡ Some m →
    local_named name (scopes_below entries maps (suc i))
    ≡ option_or (option_map local_of (lookup (has_bytes name) (entries m))) (local_named name (scopes_below entries maps i))
named_step entries name maps i m h =
    ap (local_named name) (below_step entries maps i m h)
    ∙ ap (λ o. option_or o (local_named name (scopes_below entries maps i))) (lookup_shown local_of name (entries m))

-- a name that is in the innermost scope
pub found_here : {M : Type 0} (entries : M → Entries) (name : List ℕ) (maps : List M) (i j : ℕ) (m : M) (l : Local) → j ≡ suc i →
    slice_get maps i ≡ Some m → Some l ≡ lookup (has_bytes name) (entries m) →
    Some (local_of l) ≡ local_named name (map (λ m. shown local_of (entries m)) (reverse (take j maps)))
found_here entries name maps i j m l e h found =
    sym
    (ap (λ j. local_named name (scopes_below entries maps j)) e ∙ named_step entries name maps i m h
    ∙ ap (λ o. option_or (option_map local_of o) (local_named name (scopes_below entries maps i))) (sym found))

-- a name that is not
pub not_here : {M : Type 0} (entries : M → Entries) (name : List ℕ) (maps : List M) (i j : ℕ) (m : M) → j ≡ suc i →
    slice_get maps i ≡ Some m → None ≡ lookup (has_bytes name) (entries m) →
    local_named name (map (λ m. shown local_of (entries m)) (reverse (take i maps)))
    ≡ local_named name (map (λ m. shown local_of (entries m)) (reverse (take j maps)))
not_here entries name maps i j m e h none =
    sym
    (ap (λ j. local_named name (scopes_below entries maps j)) e ∙ named_step entries name maps i m h
    ∙ ap (λ o. option_or (option_map local_of o) (local_named name (scopes_below entries maps i))) (sym none))
