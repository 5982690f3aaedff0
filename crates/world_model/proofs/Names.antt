-- Strands by name.
use Rattle.std.proofs.Common.{◌≡◌, ℕ, ◌⊎◌, inl, inr, List, [], ◌∷◌, Some, refl, sym, ap, ◌∙◌, arith, Bool, true, false, ⊎_elim}
use Rattle.std.specs.Prelude.{if◌then◌else◌, ◌==◌}
use Rattle.std.proofs.lemmas.Bool.{eqb-true}
use Rattle.std.proofs.lemmas.Bool.Decides.{eqb_tells}
use Rattle.word_ops.specs.declared.name.Name.{Name}
use Rattle.word_ops.specs.Naming.{same_name}
use Rattle.world_model.specs.World.{Strand, lookup, with_entry}
use Rattle.world_model.specs.Laws.{NamesDiffer}

-- a name is the same as itself
pub same_name_refl : (q : Name) → same_name q q ≡ true
same_name_refl q = grind (arith, eqb_tells)

abbrev named : ℕ → ℕ → Name
named nodelet number = record { nodelet = nodelet; number = number }

-- two names are equal, or `same_name` tells them apart
pub name_cases : (q r : Name) → (q ≡ r) ⊎ ((same_name q r ≡ false) × (same_name r q ≡ false))
name_cases q r = go (q.nodelet == r.nodelet) refl (q.number == r.number) refl
  where
    go : (a : Bool) → (q.nodelet == r.nodelet) ≡ a → (b : Bool) → (q.number == r.number) ≡ b → (q ≡ r) ⊎ ((same_name q r ≡ false) × (same_name r q ≡ false))
    go true e true f = inl (ap (λ k. named k q.number) (eqb-true _ _ e) ∙ ap (named r.nodelet) (eqb-true _ _ f))
    go true e false f = inr (grind (arith, eqb_tells), grind (arith, eqb_tells))
    go false e b f = inr (grind (arith, eqb_tells), grind (arith, eqb_tells))

pub same_name_is : (q r : Name) → same_name q r ≡ true → q ≡ r
same_name_is q r e = ⊎_elim (λ h. h) (λ h. absurd (let z : true ≡ false = sym e ∙ h.0 in cc)) (name_cases q r)

-- a strand whose entry was just written is found
pub lookup-same : (q : Name) (s : Strand) (es : List (Name × Strand)) → lookup q (with_entry q s es) ≡ Some s
lookup-same q s [] = rw (same_name_refl q) refl
lookup-same q s (e ∷ es) = go (lookup-same q s es) (same_name q e.0) refl
  where
    go : lookup q (with_entry q s es) ≡ Some s → (b : Bool) → same_name q e.0 ≡ b → lookup q (if b then (q, s) ∷ es else e ∷ with_entry q s es) ≡ Some s
    go ih true f = rw (same_name_refl q) refl
    go ih false f = rw f ih

-- and any other as before
pub lookup-other : (r q : Name) (s : Strand) (es : List (Name × Strand)) → same_name r q ≡ false → lookup r (with_entry q s es) ≡ lookup r es
lookup-other r q s [] ne = rw ne refl
lookup-other r q s (e ∷ es) ne = go (lookup-other r q s es ne) (same_name q e.0) refl
  where
    go : lookup r (with_entry q s es) ≡ lookup r es → (b : Bool) → same_name q e.0 ≡ b → lookup r (if b then (q, s) ∷ es else e ∷ with_entry q s es) ≡ lookup r (e ∷ es)
    go ih true f = let h : same_name r e.0 ≡ false = ap (same_name r) (sym (same_name_is _ _ f)) ∙ ne in rw (ne, h) refl
    go ih false f = rw ih refl

-- writing an entry keeps names apart
pub differ-with_entry : (q : Name) (s : Strand) (es : List (Name × Strand)) → NamesDiffer es → NamesDiffer (with_entry q s es)
differ-with_entry q s [] apart = (refl, tt)
differ-with_entry q s (e ∷ es) apart = go (differ-with_entry q s es apart.1) (same_name q e.0) refl
  where
    go : NamesDiffer (with_entry q s es) → (b : Bool) → same_name q e.0 ≡ b → NamesDiffer (if b then (q, s) ∷ es else e ∷ with_entry q s es)
    go ih true f = (ap (λ m. lookup m es) (same_name_is _ _ f) ∙ apart.0, apart.1)
    go ih false f = (lookup-other e.0 q s es (turned f) ∙ apart.0, ih)
      where
        turned : same_name q e.0 ≡ false → same_name e.0 q ≡ false
        turned g = ⊎_elim (λ is. absurd (let z : true ≡ false = sym (ap (λ m. same_name q m) (sym is) ∙ same_name_refl q) ∙ g in cc)) (λ h. h.1) (name_cases q e.0)
