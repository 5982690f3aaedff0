-- Names that are put into scopes.
use Rattle.std.proofs.Common.{◌≡◌, ◌∙◌, ap, sym, ℕ, Bool, true, false, if◌then◌else◌, cond, List, [], ◌∷◌, ◌++◌, map, reverse, Option, Some, None, refl, Bor}
use Rattle.std.specs.Prelude.{is_some}
use Rattle.std.specs.Option.{option_map}
use Rattle.std.specs.Map.{lookup}
use Rattle.std.specs.Str.{bytes_eq}
use Rattle.std.proofs.lemmas.List.{reverse-append}
use Rattle.cilk_model.specs.Scopes.{has_name, with_new, is_twice, with_local}
use Rattle.cilk_types.specs.declared.scopes.Local.{Local}
use Rattle.cilk_types.specs.Shown.{shown, bare, local_of}
use Rattle.cilk_types.proofs.ScopeLemmas.{has_bytes, lookup_shown}

some_mapped : {X Y : Type 0} (f : X → Y) (o : Option X) → is_some (option_map f o) ≡ is_some o
some_mapped f None = refl
some_mapped f (Some x) = refl

shown_append : {X Y : Type 0} (f : X → Y) (es ds : List (Bor (List ℕ) × X)) → shown f (es ++ ds) ≡ shown f es ++ shown f ds
shown_append f [] ds = refl
shown_append f (e ∷ es) ds = ap (λ rest. (e.0.now, f e.1) ∷ rest) (shown_append f es ds)

pub name_found : {X : Type 0} (name : List ℕ) (es : List (Bor (List ℕ) × X)) (o : Option X) → o ≡ lookup (has_bytes name) es →
    is_some o ≡ has_name name (bare es)
name_found name es o e = ap is_some e ∙ sym (ap is_some (lookup_shown (λ x. x) name es) ∙ some_mapped (λ x. x) (lookup (has_bytes name) es))

pub kept : {X : Type 0} (name : List ℕ) (x : X) (scope : List (List ℕ × X)) → true ≡ has_name name scope → scope ≡ with_new name x scope
kept name x scope there = ap (λ (b : Bool). if b then scope else scope ++ (name, x) ∷ []) there

pub put_last : {X : Type 0} (key : Bor (List ℕ)) (x : X) (es new : List (Bor (List ℕ) × X)) → false ≡ has_name key.now (bare es) →
    new ≡ es ++ (key, x) ∷ [] → bare new ≡ with_new key.now x (bare es)
put_last key x es new absent e =
    ap bare e ∙ shown_append (λ x. x) es ((key, x) ∷ [])
    ∙ ap (λ (b : Bool). if b then bare es else bare es ++ (key.now, x) ∷ []) absent

-- the locals of a scope, as definitions see them
mapped : {X Y : Type 0} → (X → Y) → List (List ℕ × X) → List (List ℕ × Y)
mapped f [] = []
mapped f (e ∷ es) = (e.0, f e.1) ∷ mapped f es

mapped_bare : {X Y : Type 0} (f : X → Y) (es : List (Bor (List ℕ) × X)) → shown f es ≡ mapped f (bare es)
unfolding mapped
mapped_bare f [] = refl
mapped_bare f (e ∷ es) = ap (λ rest. (e.0.now, f e.1) ∷ rest) (mapped_bare f es)

mapped_append : {X Y : Type 0} (f : X → Y) (xs ys : List (List ℕ × X)) → mapped f (xs ++ ys) ≡ mapped f xs ++ mapped f ys
unfolding mapped
mapped_append f [] ys = refl
mapped_append f (x ∷ xs) ys = ap (λ rest. (x.0, f x.1) ∷ rest) (mapped_append f xs ys)

mapped_has : {X Y : Type 0} (f : X → Y) (name : List ℕ) (xs : List (List ℕ × X)) → has_name name (mapped f xs) ≡ has_name name xs
unfolding mapped
mapped_has f name [] = refl
mapped_has {X} {Y} f name (x ∷ xs) =
    elim (bytes_eq name x.0) as
    (λ b. is_some (cond b (Some (f x.1)) (lookup (bytes_eq name) (mapped f xs))) ≡ is_some (cond b (Some x.1) (lookup (bytes_eq name) xs)))
    [ true ↦ refl | false ↦ mapped_has f name xs ]

mapped_new : {X Y : Type 0} (f : X → Y) (name : List ℕ) (x : X) (xs : List (List ℕ × X)) → mapped f (with_new name x xs) ≡ with_new name (f x) (mapped f xs)
unfolding mapped
mapped_new {X} {Y} f name x xs =
    (elim (has_name name xs) as
    (λ b. mapped f (if b then xs else xs ++ (name, x) ∷ []) ≡ (if b then mapped f xs else mapped f xs ++ (name, f x) ∷ []))
    [ true ↦ refl | false ↦ mapped_append f xs ((name, x) ∷ []) ])
    ∙ ap (λ (b : Bool). if b then mapped f xs else mapped f xs ++ (name, f x) ∷ []) (sym (mapped_has f name xs))

-- a scope with a new name, as code has it and as definitions see it
pub shown_new : {X Y : Type 0} (f : X → Y) (name : List ℕ) (x : X) (old new : List (Bor (List ℕ) × X)) →
    bare new ≡ with_new name x (bare old) → shown f new ≡ with_new name (f x) (shown f old)
shown_new f name x old new e =
    mapped_bare f new ∙ ap (mapped f) e ∙ mapped_new f name x (bare old) ∙ ap (with_new name (f x)) (sym (mapped_bare f old))

pub shown_has : {X Y : Type 0} (f : X → Y) (name : List ℕ) (es : List (Bor (List ℕ) × X)) → has_name name (bare es) ≡ has_name name (shown f es)
shown_has f name es = sym (ap (has_name name) (mapped_bare f es) ∙ mapped_has f name (bare es))

-- the innermost scope, which code has last
around_of : {M : Type 0} (entries : M → List (Bor (List ℕ) × Local)) (all front : List M) (m : M) → all ≡ front ++ m ∷ [] →
    map (λ m. shown local_of (entries m)) (reverse all) ≡ shown local_of (entries m) ∷ map (λ m. shown local_of (entries m)) (reverse front)
around_of entries all front m e =
    ap (λ ms. map (λ m. shown local_of (entries m)) (reverse ms)) e ∙ ap (map (λ m. shown local_of (entries m))) (reverse-append front (m ∷ []))

pub twice_is : {M : Type 0} (entries : M → List (Bor (List ℕ) × Local)) (name : List ℕ) (all front : List M) (m : M) (b : Bool) →
    all ≡ front ++ m ∷ [] → b ≡ has_name name (bare (entries m)) → b ≡ is_twice name (map (λ m. shown local_of (entries m)) (reverse all))
twice_is entries name all front m b e is =
    is ∙ shown_has local_of name (entries m) ∙ ap (is_twice name) (sym (around_of entries all front m e))

pub local_is : {M : Type 0} (entries : M → List (Bor (List ℕ) × Local)) (name : List ℕ) (l : Local) (all front after : List M) (m new : M) →
    all ≡ front ++ m ∷ [] → after ≡ front ++ new ∷ [] → bare (entries new) ≡ with_new name l (bare (entries m)) →
    map (λ m. shown local_of (entries m)) (reverse after) ≡ with_local name (local_of l) (map (λ m. shown local_of (entries m)) (reverse all))
local_is entries name l all front after m new e d is =
    around_of entries after front new d
    ∙ ap (λ s. s ∷ map (λ m. shown local_of (entries m)) (reverse front)) (shown_new local_of name l (entries m) (entries new) is)
    ∙ ap (with_local name (local_of l)) (sym (around_of entries all front m e))
