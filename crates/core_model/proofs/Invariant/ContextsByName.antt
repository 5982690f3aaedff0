-- Contexts by name.
use Rattle.std.proofs.Common.{◌≡◌, List, [], ◌∷◌, Some, None, refl, sym, ap, ◌∙◌, Bool, true, false}
use Rattle.std.specs.Prelude.{if◌then◌else◌}
use Rattle.word_ops.specs.declared.name.Name.{Name}
use Rattle.word_ops.specs.Naming.{same_name}
use Rattle.world_model.proofs.Names.{same_name_refl, same_name_is}
use Rattle.core_model.specs.Contexts.{Context, precedes, with_context, without_context, context_of}

-- a context that was just put in is found
pub context_of-with : (x : Context) (ys : List Context) → context_of x.name (with_context x ys) ≡ Some x
context_of-with x [] = rw (same_name_refl x.name) refl
context_of-with x (y ∷ ys) = go (context_of-with x ys) (same_name x.name y.name) refl (precedes x.name y.name)
  where
    go : context_of x.name (with_context x ys) ≡ Some x → (b : Bool) → same_name x.name y.name ≡ b → (first : Bool) →
        context_of x.name (if b then x ∷ ys else (if first then x ∷ y ∷ ys else y ∷ with_context x ys)) ≡ Some x
    go ih true e first = rw (same_name_refl x.name) refl
    go ih false e true = rw (same_name_refl x.name) refl
    go ih false e false = rw e ih

-- and any other as before
pub context_of-with_other : (r : Name) (x : Context) (ys : List Context) → same_name r x.name ≡ false → context_of r (with_context x ys) ≡ context_of r ys
context_of-with_other r x [] ne = rw ne refl
context_of-with_other r x (y ∷ ys) ne = go (context_of-with_other r x ys ne) (same_name x.name y.name) refl (precedes x.name y.name)
  where
    go : context_of r (with_context x ys) ≡ context_of r ys → (b : Bool) → same_name x.name y.name ≡ b → (first : Bool) →
        context_of r (if b then x ∷ ys else (if first then x ∷ y ∷ ys else y ∷ with_context x ys)) ≡ context_of r (y ∷ ys)
    go ih true e first = let h : same_name r y.name ≡ false = ap (same_name r) (sym (same_name_is _ _ e)) ∙ ne in rw (ne, h) refl
    go ih false e true = rw ne refl
    go ih false e false = rw ih refl

-- a context that was taken out is not found
pub context_of-without : (q : Name) (ys : List Context) → context_of q (without_context q ys) ≡ None
context_of-without q [] = refl
context_of-without q (y ∷ ys) = go (context_of-without q ys) (same_name q y.name) refl
  where
    go : context_of q (without_context q ys) ≡ None → (b : Bool) → same_name q y.name ≡ b → context_of q (if b then without_context q ys else y ∷ without_context q ys) ≡ None
    go ih true e = ih
    go ih false e = rw e ih

pub context_of-without_other : (r q : Name) (ys : List Context) → same_name r q ≡ false → context_of r (without_context q ys) ≡ context_of r ys
context_of-without_other r q [] ne = refl
context_of-without_other r q (y ∷ ys) ne = go (context_of-without_other r q ys ne) (same_name q y.name) refl
  where
    go : context_of r (without_context q ys) ≡ context_of r ys → (b : Bool) → same_name q y.name ≡ b → context_of r (if b then without_context q ys else y ∷ without_context q ys) ≡ context_of r (y ∷ ys)
    go ih true e = let h : same_name r y.name ≡ false = ap (same_name r) (sym (same_name_is _ _ e)) ∙ ne in rw h ih
    go ih false e = rw ih refl

-- the context that is found has the name
pub context_of-name : (q : Name) (ys : List Context) (x : Context) → context_of q ys ≡ Some x → x.name ≡ q
context_of-name q [] x e = absurd cc
context_of-name q (y ∷ ys) x e = go (context_of-name q ys x) (same_name q y.name) refl e
  where
    here : same_name q y.name ≡ true → Some y ≡ Some x → x.name ≡ q
    here is same = let i : y ≡ x = cc in ap (λ (z : Context). z.name) (sym i) ∙ sym (same_name_is _ _ is)

    go : (context_of q ys ≡ Some x → x.name ≡ q) → (b : Bool) → same_name q y.name ≡ b → (if b then Some y else context_of q ys) ≡ Some x → x.name ≡ q
    go ih true is same = here is same
    go ih false is same = ih same
