-- What comes in, is put in its place or is taken out of a list, and what then holds of it.
use Rattle.std.proofs.Common.{◌≡◌, ℕ, zero, suc, ◌≤◌, ◌<◌, Bool, true, false, List, [], ◌∷◌, length, get_or, refl, ap, sym, ◌∙◌, arith, slice_set}
use Rattle.std.specs.Prelude.{◌&&◌, map, if◌then◌else◌}
use Rattle.std.specs.List.{list_all, insert, remove}
use Rattle.std.proofs.lemmas.Bool.Decides.{eqb_tells, nat_tests}
use Rattle.word_ops.specs.declared.name.Name.{Name}
use Rattle.word_ops.specs.Naming.{same_name}
use Rattle.core_model.specs.Contexts.{Context, precedes, with_context, without_context}
use Rattle.nodelet_core.specs.code.Standing.{ascends}
use Rattle.nodelet_core.proofs.Found.{both, precedes_apart}

-- ---- the order of names

pub behind_apart : (y t : Name) → precedes t y ≡ true → same_name t y ≡ false
behind_apart y t e = grind (arith, eqb_tells, nat_tests)

pub not_back : (y t : Name) → precedes y t ≡ true → precedes t y ≡ false
not_back y t e = grind (arith, eqb_tells, nat_tests)

pub onward : (x y z : Name) → precedes x y ≡ true → precedes y z ≡ true → precedes x z ≡ true
onward x y z e f = grind (arith, eqb_tells, nat_tests)

pub same_as : (t y : Name) → y ≡ t → same_name t y ≡ true
same_as t y e = grind (arith, eqb_tells, nat_tests)

-- ---- what holds of all

pub together : (b c : Bool) → b ≡ true → c ≡ true → (b && c) ≡ true
together b c e f = ap (λ z. z && c) e ∙ f

pub all_pass : {X : Type 0} → (p : X → Bool) (xs : List X) → ((k : ℕ) (d : X) → k < length xs → p (get_or xs k d) ≡ true) → list_all p xs ≡ true
all_pass p [] e = refl
all_pass p (x ∷ xs) e = together (p x) (list_all p xs) (e 0 x (omega arith)) (all_pass p xs (λ k d lt. e (suc k) d (omega arith)))

pub insert_all : {X : Type 0} → (p : X → Bool) (xs : List X) (i : ℕ) (x : X) → p x ≡ true → list_all p xs ≡ true → list_all p (insert xs i x) ≡ true
insert_all p [] zero x e f = together (p x) true e refl
insert_all p [] (suc i) x e f = together (p x) true e refl
insert_all p (y ∷ xs) zero x e f = together (p x) (list_all p (y ∷ xs)) e f
insert_all p (y ∷ xs) (suc i) x e f =
    let split = both (p y) (list_all p xs) f in
    together (p y) (list_all p (insert xs i x)) split.0 (insert_all p xs i x e split.1)

pub remove_all : {X : Type 0} → (p : X → Bool) (xs : List X) (i : ℕ) → list_all p xs ≡ true → list_all p (remove xs i) ≡ true
remove_all p [] zero f = refl
remove_all p [] (suc i) f = refl
remove_all p (y ∷ xs) zero f = (both (p y) (list_all p xs) f).1
remove_all p (y ∷ xs) (suc i) f =
    let split = both (p y) (list_all p xs) f in
    together (p y) (list_all p (remove xs i)) split.0 (remove_all p xs i split.1)

pub set_all : {X : Type 0} → (p : X → Bool) (xs : List X) (i : ℕ) (x : X) → p x ≡ true → list_all p xs ≡ true → list_all p (slice_set xs i x) ≡ true
set_all p [] i x e f = refl
set_all p (y ∷ xs) zero x e f = together (p x) (list_all p xs) e (both (p y) (list_all p xs) f).1
set_all p (y ∷ xs) (suc i) x e f =
    let split = both (p y) (list_all p xs) f in
    together (p y) (list_all p (slice_set xs i x)) split.0 (set_all p xs i x e split.1)

-- ---- under a map

pub map_insert : {X Y : Type 0} → (f : X → Y) (xs : List X) (i : ℕ) (x : X) → map f (insert xs i x) ≡ insert (map f xs) i (f x)
map_insert f [] zero x = refl
map_insert f [] (suc i) x = refl
map_insert f (y ∷ xs) zero x = refl
map_insert f (y ∷ xs) (suc i) x = ap (λ l. f y ∷ l) (map_insert f xs i x)

pub map_remove : {X Y : Type 0} → (f : X → Y) (xs : List X) (i : ℕ) → map f (remove xs i) ≡ remove (map f xs) i
map_remove f [] zero = refl
map_remove f [] (suc i) = refl
map_remove f (y ∷ xs) zero = refl
map_remove f (y ∷ xs) (suc i) = ap (λ l. f y ∷ l) (map_remove f xs i)

-- Where the new item looks the same, a map sees no change.
pub map_set_same : {X Y : Type 0} → (f : X → Y) (xs : List X) (i : ℕ) (x : X) → f (get_or xs i x) ≡ f x → map f (slice_set xs i x) ≡ map f xs
map_set_same f [] i x e = refl
map_set_same f (y ∷ xs) zero x e = ap (λ z. z ∷ map f xs) (sym e)
map_set_same f (y ∷ xs) (suc i) x e = ap (λ l. f y ∷ l) (map_set_same f xs i x e)

-- ---- names that ascend

pub insert_ascends : (t : Name) (names : List Name) (i : ℕ) → ascends names ≡ true → i ≤ length names
    → ((k : ℕ) (d : Name) → k < i → k < length names → precedes (get_or names k d) t ≡ true)
    → ((k : ℕ) (d : Name) → i ≤ k → k < length names → precedes t (get_or names k d) ≡ true)
    → ascends (insert names i t) ≡ true
insert_ascends t [] zero up le before behind = refl
insert_ascends t [] (suc i) up le before behind = absurd (omega arith)
insert_ascends t (y ∷ names) zero up le before behind =
    together (list_all (precedes t) (y ∷ names)) (ascends (y ∷ names)) (all_pass (precedes t) (y ∷ names) (λ k d lt. behind k d (omega arith) lt)) up
insert_ascends t (y ∷ names) (suc i) up le before behind =
    let split = both (list_all (precedes y) names) (ascends names) up in
    together (list_all (precedes y) (insert names i t)) (ascends (insert names i t))
    (insert_all (precedes y) names i t (before 0 y (omega arith) (omega arith)) split.0)
    (insert_ascends t names i split.1 (omega arith)
    (λ k d lt inside. before (suc k) d (omega arith) (omega arith))
    (λ k d le inside. behind (suc k) d (omega arith) (omega arith)))

pub remove_ascends : (names : List Name) (i : ℕ) → ascends names ≡ true → ascends (remove names i) ≡ true
remove_ascends [] zero up = refl
remove_ascends [] (suc i) up = refl
remove_ascends (y ∷ names) zero up = (both (list_all (precedes y) names) (ascends names) up).1
remove_ascends (y ∷ names) (suc i) up =
    let split = both (list_all (precedes y) names) (ascends names) up in
    together (list_all (precedes y) (remove names i)) (ascends (remove names i)) (remove_all (precedes y) names i split.0) (remove_ascends names i split.1)

-- ---- where a context comes, one step on

pub with_here : (x y : Context) (ys : List Context) → same_name x.name y.name ≡ true → with_context x (y ∷ ys) ≡ x ∷ ys
with_here x y ys e = ap (λ b. if b then x ∷ ys else (if precedes x.name y.name then x ∷ y ∷ ys else y ∷ with_context x ys)) e

pub with_first : (x y : Context) (ys : List Context) → precedes x.name y.name ≡ true → with_context x (y ∷ ys) ≡ x ∷ y ∷ ys
with_first x y ys e =
    ap (λ b. if b then x ∷ ys else (if precedes x.name y.name then x ∷ y ∷ ys else y ∷ with_context x ys)) (behind_apart y.name x.name e)
    ∙ ap (λ b. if b then x ∷ y ∷ ys else y ∷ with_context x ys) e

pub with_behind : (x y : Context) (ys : List Context) → precedes y.name x.name ≡ true → with_context x (y ∷ ys) ≡ y ∷ with_context x ys
with_behind x y ys e =
    ap (λ b. if b then x ∷ ys else (if precedes x.name y.name then x ∷ y ∷ ys else y ∷ with_context x ys)) (precedes_apart y.name x.name e)
    ∙ ap (λ b. if b then x ∷ y ∷ ys else y ∷ with_context x ys) (not_back y.name x.name e)

pub without_here : (t : Name) (y : Context) (ys : List Context) → same_name t y.name ≡ true → without_context t (y ∷ ys) ≡ without_context t ys
without_here t y ys e = ap (λ b. if b then without_context t ys else y ∷ without_context t ys) e

pub without_other : (t : Name) (y : Context) (ys : List Context) → same_name t y.name ≡ false → without_context t (y ∷ ys) ≡ y ∷ without_context t ys
without_other t y ys e = ap (λ b. if b then without_context t ys else y ∷ without_context t ys) e
