-- Strands stand in a world in the order of their births: the children of each stand behind it.
use Rattle.std.proofs.Common.{◌≡◌, ℕ, List, [], ◌∷◌, ◌++◌, Some, None, refl, sym, ap, ◌∙◌, subst, Bool, true, false, ⊎_elim, is_some}
use Rattle.std.specs.Prelude.{if◌then◌else◌}
use Rattle.word_ops.specs.declared.name.Name.{Name}
use Rattle.word_ops.specs.Naming.{same_name}
use Rattle.merge_law.proofs.Somes.{some_is}
use Rattle.merge_law.proofs.Pairs.{Each, each_then, each_append}
use Rattle.world_model.specs.World.{Strand, World, lookup, with_entry}
use Rattle.world_model.proofs.Names.{name_cases, lookup-same, lookup-other}

abbrev pub Entries : Type 0
Entries = List (Name × Strand)

abbrev pub Has : Entries → ℕ × Name → Type 0
Has es child = is_some (lookup child.1 es) ≡ true

abbrev pub InBirthOrder : Entries → Type 0
InBirthOrder [] = Unit {0}
InBirthOrder (e ∷ es) = Each (Has es) e.1.children × InBirthOrder es

-- ---- entries that are written

pub still_there : (r q : Name) (s : Strand) (es : Entries) → is_some (lookup r es) ≡ true → is_some (lookup r (with_entry q s es)) ≡ true
still_there r q s es e = ⊎_elim
    (λ is. ap (λ p. is_some (lookup p (with_entry q s es))) is ∙ ap is_some (lookup-same q s es))
    (λ ne. ap is_some (lookup-other r q s es ne.0) ∙ e)
    (name_cases r q)

still_have : (q : Name) (s : Strand) (es : Entries) (children : List (ℕ × Name)) → Each (Has es) children → Each (Has (with_entry q s es)) children
still_have q s es children all = each_then (Has es) (Has (with_entry q s es)) (λ child h. still_there child.1 q s es h) children all

-- it has no children that it had not
abbrev pub Fewer : Strand → Strand → Type 0
Fewer s after = (es : Entries) → Each (Has es) s.children → Each (Has es) after.children

-- a strand is another with no more children
order-same : (q : Name) (s after : Strand) (es : Entries) → lookup q es ≡ Some s → Fewer s after → InBirthOrder es → InBirthOrder (with_entry q after es)
order-same q s after [] found fewer order = absurd cc
order-same q s after (e ∷ es) found fewer order = go (λ h. order-same q s after es h fewer order.1) (same_name q e.0) refl found
  where
    go : (lookup q es ≡ Some s → InBirthOrder (with_entry q after es)) → (t : Bool) → same_name q e.0 ≡ t → (if t then Some e.1 else lookup q es) ≡ Some s →
        InBirthOrder (if t then (q, after) ∷ es else e ∷ with_entry q after es)
    go ih true f g = (fewer es (subst (λ (y : Strand). Each (Has es) y.children) (some_is e.1 s g) order.0), order.1)
    go ih false f g = (still_have q after es e.1.children order.0, ih g)

-- a strand without children is the last
order-last : (q : Name) (baby : Strand) (es : Entries) → lookup q es ≡ None → baby.children ≡ [] → InBirthOrder es → InBirthOrder (with_entry q baby es)
order-last q baby [] none alone order = (subst (λ (l : List (ℕ × Name)). Each (Has []) l) (sym alone) tt, tt)
order-last q baby (e ∷ es) none alone order = go (λ h. order-last q baby es h alone order.1) (same_name q e.0) refl none
  where
    go : (lookup q es ≡ None → InBirthOrder (with_entry q baby es)) → (t : Bool) → same_name q e.0 ≡ t → (if t then Some e.1 else lookup q es) ≡ None →
        InBirthOrder (if t then (q, baby) ∷ es else e ∷ with_entry q baby es)
    go ih true f g = absurd cc
    go ih false f g = (still_have q baby es e.1.children order.0, ih g)

-- and is its parent's child
pub order-born : (q c : Name) (d : ℕ) (s after baby : Strand) (es : Entries) → lookup q es ≡ Some s → lookup c es ≡ None → after.children ≡ s.children ++ (d, c) ∷ [] → baby.children ≡ [] → InBirthOrder es →
    InBirthOrder (with_entry q after (with_entry c baby es))
order-born q c d s after baby [] found none more alone order = absurd cc
order-born q c d s after baby (e ∷ es) found none more alone order = new (λ g h. order-born q c d s after baby es h g more alone order.1) (same_name c e.0) refl none
  where
    later : lookup c es ≡ None → InBirthOrder (with_entry c baby es)
    later none = order-last c baby es none alone order.1

    go : lookup c es ≡ None → (lookup q es ≡ Some s → InBirthOrder (with_entry q after (with_entry c baby es))) → (t : Bool) → same_name q e.0 ≡ t → (if t then Some e.1 else lookup q es) ≡ Some s →
        InBirthOrder (if t then (q, after) ∷ with_entry c baby es else e ∷ with_entry q after (with_entry c baby es))
    go no_c ih true f g = (
      subst (λ (l : List (ℕ × Name)). Each (Has (with_entry c baby es)) l) (sym more)
          (each_append (Has (with_entry c baby es)) s.children ((d, c) ∷ [])
          (still_have c baby es s.children (subst (λ (y : Strand). Each (Has es) y.children) (some_is e.1 s g) order.0))
          (ap is_some (lookup-same c baby es), tt)),
      later no_c,
    )
    go no_c ih false f g = (still_have q after (with_entry c baby es) e.1.children (still_have c baby es e.1.children order.0), ih g)

    new : (lookup c es ≡ None → lookup q es ≡ Some s → InBirthOrder (with_entry q after (with_entry c baby es))) → (t : Bool) → same_name c e.0 ≡ t → (if t then Some e.1 else lookup c es) ≡ None →
        InBirthOrder (with_entry q after (if t then (c, baby) ∷ es else e ∷ with_entry c baby es))
    new ih true f g = absurd cc
    new ih false f g = go g (ih g) (same_name q e.0) refl found

-- ---- what a step writes

-- other entries first, where a child is born, and then the strand
pub record Writes (w : World) (name : Name) (s : Strand) (v : World) : Type 0 where
  pub base : Entries
  pub after : Strand
  pub is : v.strands ≡ with_entry name after base
  pub order : InBirthOrder w.strands → lookup name w.strands ≡ Some s → InBirthOrder (with_entry name after base)
  pub kept : (r : Name) → is_some (lookup r w.strands) ≡ true → is_some (lookup r base) ≡ true

pub same_children : (s after : Strand) → after.children ≡ s.children → Fewer s after
same_children s after e es all = subst (λ (l : List (ℕ × Name)). Each (Has es) l) (sym e) all

pub writes : (w : World) (name : Name) (s : Strand) (v : World) (after : Strand) → v.strands ≡ with_entry name after w.strands → Fewer s after → Writes w name s v
writes w name s v after is fewer = record {
  base = w.strands;
  after = after;
  is = is;
  order = λ order found. order-same name s after w.strands found fewer order;
  kept = λ r h. h;
}
