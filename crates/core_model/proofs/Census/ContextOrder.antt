-- The contexts of a nodelet stand in strictly ascending order of their names.
use Rattle.std.proofs.Common.{◌≡◌, ◌≢◌, List, [], ◌∷◌, map, refl, sym, subst, arith, Bool, true, false}
use Rattle.std.specs.Prelude.{if◌then◌else◌}
use Rattle.std.proofs.lemmas.Bool.Decides.{eqb_tells, nat_tests}
use Rattle.word_ops.specs.declared.name.Name.{Name}
use Rattle.word_ops.specs.Naming.{same_name}
use Rattle.merge_law.proofs.Pairs.{Each, Pairwise, each_then}
use Rattle.world_model.proofs.Names.{same_name_is}
use Rattle.core_model.specs.Contexts.{Context, precedes, with_context, without_context}

-- ---- the order of names

precedes-through : (p q r : Name) → precedes p q ≡ true → precedes q r ≡ true → precedes p r ≡ true
precedes-through p q r e f = grind (arith, nat_tests, eqb_tells)

precedes-either : (p q : Name) → same_name p q ≡ false → precedes p q ≡ false → precedes q p ≡ true
precedes-either p q e f = grind (arith, nat_tests, eqb_tells)

pub precedes-other : (p q : Name) → precedes p q ≡ true → p ≢ q
precedes-other p q e is = let h : precedes q q ≡ true = subst (λ (r : Name). precedes r q ≡ true) is e in grind (arith, nat_tests, eqb_tells)

-- ---- contexts in order

abbrev pub Comes : Context → Context → Type 0
Comes x y = precedes x.name y.name ≡ true

abbrev pub Ascending : List Context → Type 0
Ascending xs = Pairwise Comes xs

each-with : (P : Context → Type 0) (x : Context) (ys : List Context) → P x → Each P ys → Each P (with_context x ys)
each-with P x [] p all = (p, tt)
each-with P x (y ∷ ys) p all = go (each-with P x ys p all.1) (same_name x.name y.name) (precedes x.name y.name)
  where
    go : Each P (with_context x ys) → (b first : Bool) → Each P (if b then x ∷ ys else (if first then x ∷ y ∷ ys else y ∷ with_context x ys))
    go ih true first = (p, all.1)
    go ih false true = (p, all)
    go ih false false = (all.0, ih)

each-without : (P : Context → Type 0) (q : Name) (ys : List Context) → Each P ys → Each P (without_context q ys)
each-without P q [] all = tt
each-without P q (y ∷ ys) all = go (each-without P q ys all.1) (same_name q y.name)
  where
    go : Each P (without_context q ys) → (b : Bool) → Each P (if b then without_context q ys else y ∷ without_context q ys)
    go ih true = ih
    go ih false = (all.0, ih)

pub ascending-with : (x : Context) (ys : List Context) → Ascending ys → Ascending (with_context x ys)
ascending-with x [] a = (tt, tt)
ascending-with x (y ∷ ys) a = go (ascending-with x ys a.1) (same_name x.name y.name) refl (precedes x.name y.name) refl
  where
    go : Ascending (with_context x ys) → (b : Bool) → same_name x.name y.name ≡ b → (first : Bool) → precedes x.name y.name ≡ first →
        Ascending (if b then x ∷ ys else (if first then x ∷ y ∷ ys else y ∷ with_context x ys))
    go ih true e first f = (subst (λ (q : Name). Each (λ z. precedes q z.name ≡ true) ys) (sym (same_name_is x.name y.name e)) a.0, a.1)
    go ih false e true f = ((f, each_then (Comes y) (Comes x) (λ z g. precedes-through x.name y.name z.name f g) ys a.0), a)
    go ih false e false f = (each-with (Comes y) x ys (precedes-either x.name y.name e f) a.0, ih)

pub ascending-without : (q : Name) (ys : List Context) → Ascending ys → Ascending (without_context q ys)
ascending-without q [] a = tt
ascending-without q (y ∷ ys) a = go (ascending-without q ys a.1) (same_name q y.name)
  where
    go : Ascending (without_context q ys) → (b : Bool) → Ascending (if b then without_context q ys else y ∷ without_context q ys)
    go ih true = ih
    go ih false = (each-without (Comes y) q ys a.0, ih)

-- none stands there twice
pub ascending-apart : (xs : List Context) → Ascending xs → Pairwise (λ p q. p ≢ q) (map (λ x. x.name) xs)
ascending-apart [] a = tt
ascending-apart (x ∷ xs) a = (later xs a.0, ascending-apart xs a.1)
  where
    later : (ys : List Context) → Each (Comes x) ys → Each (λ q. x.name ≢ q) (map (λ y. y.name) ys)
    later [] all = tt
    later (y ∷ ys) all = (precedes-other x.name y.name all.0, later ys all.1)
