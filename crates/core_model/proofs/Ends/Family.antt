-- In a run a strand that has not ended, main aside, is another's child, and one that has ended has none.
use Rattle.std.proofs.Common.{◌≡◌, ℕ, ◌⊎◌, inl, inr, List, [], ◌∷◌, ◌++◌, Option, Some, None, refl, sym, ap, ◌∙◌, subst, Bool, true, false, ⊎_elim, ℤ, not, ◌&&◌, is_some, option_and_then, map, filter}
use Rattle.std.specs.Prelude.{if◌then◌else◌, ◌==◌}
use Rattle.std.specs.List.{list_all}
use Rattle.word_ops.specs.declared.name.Name.{Name}
use Rattle.word_ops.specs.Naming.{same_name}
use Rattle.merge_law.proofs.Somes.{some_is}
use Rattle.merge_law.proofs.Pairs.{Each}
use Rattle.world_model.specs.World.{Strand, World, main_name, lookup, strand_of, value_of, value_in, children_at}
use Rattle.world_model.specs.Laws.{NamesDiffer}
use Rattle.world_model.proofs.Names.{name_cases, same_name_refl, same_name_is}
use Rattle.core_model.proofs.NotStuck.BirthOrder.{Entries, Has, InBirthOrder}

-- ---- children

abbrev pub IsAmong : Name → List (ℕ × Name) → Type 0
IsAmong q [] = ⊥
IsAmong q (c ∷ cs) = (c.1 ≡ q) ⊎ IsAmong q cs

pub among-more : (q : Name) (cs more : List (ℕ × Name)) → IsAmong q cs → IsAmong q (cs ++ more)
among-more q [] more h = absurd h
among-more q (c ∷ cs) more (inl e) = inl e
among-more q (c ∷ cs) more (inr h) = inr (among-more q cs more h)

pub among-last : (q : Name) (cs : List (ℕ × Name)) (d : ℕ) → IsAmong q (cs ++ (d, q) ∷ [])
among-last q [] d = inl refl
among-last q (c ∷ cs) d = inr (among-last q cs d)

-- where those of a depth go, they pass a test
pub among-joined : (q : Name) (d : ℕ) (p : Name → Bool) (cs : List (ℕ × Name)) → list_all p (children_at d cs) ≡ true → IsAmong q cs →
    IsAmong q (filter (λ child. not (child.0 == d)) cs) ⊎ (p q ≡ true)
among-joined q d p [] all h = absurd h
among-joined q d p (c ∷ cs) all h = go (λ f g. among-joined q d p cs f g) (c.0 == d) h all
  where
    first : (a b : Bool) → (a && b) ≡ true → (a ≡ true) × (b ≡ true)
    first true b e = (refl, e)
    first false b e = absurd cc

    go : (list_all p (children_at d cs) ≡ true → IsAmong q cs → IsAmong q (filter (λ child. not (child.0 == d)) cs) ⊎ (p q ≡ true)) → (t : Bool) → (c.1 ≡ q) ⊎ IsAmong q cs →
        list_all p (map (λ child. child.1) (if t then c ∷ filter (λ child. child.0 == d) cs else filter (λ child. child.0 == d) cs)) ≡ true →
        IsAmong q (if not t then c ∷ filter (λ child. not (child.0 == d)) cs else filter (λ child. not (child.0 == d)) cs) ⊎ (p q ≡ true)
    go ih true (inl e) f = inr (subst (λ (r : Name). p r ≡ true) e (first (p c.1) (list_all p (children_at d cs)) f).0)
    go ih true (inr h) f = ih (first (p c.1) (list_all p (children_at d cs)) f).1 h
    go ih false (inl e) f = inl (inl e)
    go ih false (inr h) f = ⊎_elim (λ g. inl (inr g)) (λ g. inr g) (ih f h)

among-each : (q : Name) (es : Entries) (cs : List (ℕ × Name)) → Each (Has es) cs → IsAmong q cs → is_some (lookup q es) ≡ true
among-each q es [] all h = absurd h
among-each q es (c ∷ cs) all (inl e) = subst (λ (r : Name). is_some (lookup r es) ≡ true) e all.0
among-each q es (c ∷ cs) all (inr h) = among-each q es cs all.1 h

-- ---- the family

pub record HasParent (w : World) (q : Name) : Type 0 where
  pub parent : Name
  pub strand : Strand
  pub known : strand_of w parent ≡ Some strand
  pub among : IsAmong q strand.children

pub record Family (w : World) : Type 0 where
  pub parents : (q : Name) (s : Strand) → strand_of w q ≡ Some s → value_in s.status ≡ None → (q ≡ main_name) ⊎ HasParent w q
  pub ended : (q : Name) (s : Strand) (value : ℤ) → strand_of w q ≡ Some s → value_in s.status ≡ Some value → s.children ≡ []

-- a strand that a step gave birth to
pub record IsNew (w v : World) (q : Name) : Type 0 where
  pub before : strand_of w q ≡ None
  pub strand : Strand
  pub known : strand_of v q ≡ Some strand
  pub valueless : value_in strand.status ≡ None

-- what a step leaves of the strand that it is about, and of others
pub record Changes (w : World) (name : Name) (s : Strand) (v : World) : Type 0 where
  pub after : Strand
  pub known : strand_of v name ≡ Some after
  pub was : value_in after.status ≡ None → value_in s.status ≡ None
  pub over : (value : ℤ) → value_in after.status ≡ Some value → after.children ≡ []
  pub keeps : (q : Name) → IsAmong q s.children → IsAmong q after.children ⊎ (is_some (value_of w q) ≡ true)
  pub others : (q : Name) → same_name q name ≡ false → (strand_of v q ≡ strand_of w q) ⊎ (IsAmong q after.children × IsNew w v q)

pub none_some : {A B : Type 0} (o : Option A) (x : A) → o ≡ None → o ≡ Some x → B
none_some o x e f = absurd (let z : None ≡ Some x = sym e ∙ f in cc)

module _ (w : World) (name : Name) (s : Strand) (v : World) (found : strand_of w name ≡ Some s) (family : Family w) (c : Changes w name s v) where
  -- a parent still is one, or the child has a value
  lift : (q : Name) → value_of w q ≡ None → HasParent w q → HasParent v q
  lift q none h = ⊎_elim
      (λ is. let same : h.strand ≡ s = some_is h.strand s (sym h.known ∙ ap (strand_of w) is ∙ found) in
      ⊎_elim
      (λ among. record { parent = name; strand = c.after; known = c.known; among = among })
      (λ valued. absurd (let z : false ≡ true = sym (ap is_some none) ∙ valued in cc))
      (c.keeps q (subst (λ (y : Strand). IsAmong q y.children) same h.among)))
      (λ ne. ⊎_elim
      (λ same. record { parent = h.parent; strand = h.strand; known = same ∙ h.known; among = h.among })
      (λ (new : IsAmong h.parent c.after.children × IsNew w v h.parent). none_some (strand_of w h.parent) h.strand new.1.before h.known)
      (c.others h.parent ne.0))
      (name_cases h.parent name)

  pub family_after : Family v
  family_after = record { parents = parents; ended = ended }
    where
      valueless : (q : Name) (t : Strand) → strand_of w q ≡ Some t → value_in t.status ≡ None → value_of w q ≡ None
      valueless q t is none = ap (option_and_then (λ (y : Strand). value_in y.status)) is ∙ none

      lifted : (q : Name) (t : Strand) → strand_of w q ≡ Some t → value_in t.status ≡ None → (q ≡ main_name) ⊎ HasParent v q
      lifted q t is none = ⊎_elim (λ e. inl e) (λ h. inr (lift q (valueless q t is none) h)) (family.parents q t is none)

      parents : (q : Name) (t : Strand) → strand_of v q ≡ Some t → value_in t.status ≡ None → (q ≡ main_name) ⊎ HasParent v q
      parents q t is none = ⊎_elim
          (λ e. let same : t ≡ c.after = some_is t c.after (sym is ∙ ap (strand_of v) e ∙ c.known) in
          lifted q s (ap (strand_of w) e ∙ found) (c.was (subst (λ (y : Strand). value_in y.status ≡ None) same none)))
          (λ ne. ⊎_elim
          (λ same. lifted q t (sym same ∙ is) none)
          (λ (new : IsAmong q c.after.children × IsNew w v q). inr (record { parent = name; strand = c.after; known = c.known; among = new.0 }))
          (c.others q ne.0))
          (name_cases q name)

      ended : (q : Name) (t : Strand) (value : ℤ) → strand_of v q ≡ Some t → value_in t.status ≡ Some value → t.children ≡ []
      ended q t value is e = ⊎_elim
          (λ itself. let same : c.after ≡ t = some_is c.after t (sym c.known ∙ ap (strand_of v) (sym itself) ∙ is) in
          subst (λ (y : Strand). y.children ≡ []) same (c.over value (ap (λ (y : Strand). value_in y.status) same ∙ e)))
          (λ ne. ⊎_elim
          (λ same. family.ended q t value (sym same ∙ is) e)
          (λ (new : IsAmong q c.after.children × IsNew w v q). none_some (value_in t.status) value (ap (λ (y : Strand). value_in y.status) (some_is t new.1.strand (sym is ∙ new.1.known)) ∙ new.1.valueless) e)
          (c.others q ne.0))
          (name_cases q name)

-- ---- once main has ended, all have

abbrev HasValue : Strand → Type 0
HasValue s = is_some (value_in s.status) ≡ true

own_child : (q : Name) (r : Strand) (e : Name × Strand) (es : Entries) → Each (Has es) e.1.children → Some e.1 ≡ Some r → IsAmong q r.children → is_some (lookup q es) ≡ true
own_child q r e es all is among = among-each q es r.children (subst (λ (y : Strand). Each (Has es) y.children) (some_is e.1 r is) all) among

-- a child stands behind its parent
child_behind : (q p : Name) (r : Strand) (e : Name × Strand) (es : Entries) → InBirthOrder (e ∷ es) → lookup p (e ∷ es) ≡ Some r → IsAmong q r.children → is_some (lookup q es) ≡ true
child_behind q p r e [] order found among = go (same_name p e.0) found
  where
    go : (t : Bool) → (if t then Some e.1 else None) ≡ Some r → is_some (lookup q []) ≡ true
    go true g = own_child q r e [] order.0 g among
    go false g = absurd cc
child_behind q p r e (f ∷ fs) order found among = go (λ g. child_behind q p r f fs order.1 g among) (same_name p e.0) found
  where
    still : (t : Bool) → is_some (lookup q fs) ≡ true → is_some (if t then Some f.1 else lookup q fs) ≡ true
    still true h = refl
    still false h = h

    go : (lookup p (f ∷ fs) ≡ Some r → is_some (lookup q fs) ≡ true) → (t : Bool) → (if t then Some e.1 else lookup p (f ∷ fs)) ≡ Some r → is_some (lookup q (f ∷ fs)) ≡ true
    go ih true g = own_child q r e (f ∷ fs) order.0 g among
    go ih false g = still (same_name q f.0) (ih g)

module _ (w : World) (family : Family w) (main : is_some (value_of w main_name) ≡ true) where
  -- the entries before have values, and so have these
  all_over : (es : Entries) → ((q : Name) (s : Strand) → strand_of w q ≡ Some s → lookup q es ≡ None → HasValue s) → ((q : Name) (s : Strand) → lookup q es ≡ Some s → strand_of w q ≡ Some s) →
      NamesDiffer es → InBirthOrder es → (q : Name) (s : Strand) → strand_of w q ≡ Some s → HasValue s
  all_over [] before part apart order q s is = before q s is refl
  all_over ((q, s) ∷ es) before part apart order r t is = all_over es (λ p y f none. earlier p y f none (same_name p q) refl) part_later apart.1 order.1 r t is
    where
      known : strand_of w q ≡ Some s
      known = part q s (ap (λ t. if t then Some s else lookup q es) (same_name_refl q))

      first : (o : Option ℤ) → value_in s.status ≡ o → HasValue s
      first (Some value) e = ap is_some e
      first None e = ⊎_elim
          (λ is. absurd (let z : false ≡ true = sym (ap is_some (ap (value_of w) (sym is) ∙ ap (option_and_then (λ (y : Strand). value_in y.status)) known ∙ e)) ∙ main in cc))
          (λ (h : HasParent w q). by h (lookup h.parent ((q, s) ∷ es)) refl)
          (family.parents q s known e)
        where
          childless : (h : HasParent w q) → (o : Option ℤ) → value_in h.strand.status ≡ o → is_some o ≡ true → HasValue s
          childless h None f g = absurd cc
          childless h (Some value) f g = absurd (subst (λ (l : List (ℕ × Name)). IsAmong q l) (family.ended h.parent h.strand value h.known f) h.among)

          by : (h : HasParent w q) → (o : Option Strand) → lookup h.parent ((q, s) ∷ es) ≡ o → HasValue s
          by h None f = childless h (value_in h.strand.status) refl (before h.parent h.strand h.known f)
          by h (Some r) f =
              let same : r ≡ h.strand = some_is r h.strand (sym (part h.parent r f) ∙ h.known) in
              absurd (let z : false ≡ true = sym (ap is_some apart.0) ∙ child_behind q h.parent r (q, s) es order f (subst (λ (y : Strand). IsAmong q y.children) (sym same) h.among) in cc)

      earlier : (r : Name) (t : Strand) → strand_of w r ≡ Some t → lookup r es ≡ None → (b : Bool) → same_name r q ≡ b → HasValue t
      earlier r t is none true f = subst (λ (y : Strand). HasValue y) (some_is s t (sym known ∙ ap (strand_of w) (sym (same_name_is r q f)) ∙ is)) (first (value_in s.status) refl)
      earlier r t is none false f = before r t is (ap (λ b. if b then Some s else lookup r es) f ∙ none)

      part_later : (r : Name) (t : Strand) → lookup r es ≡ Some t → strand_of w r ≡ Some t
      part_later r t e = part r t (go (same_name r q) refl)
        where
          go : (b : Bool) → same_name r q ≡ b → (if b then Some s else lookup r es) ≡ Some t
          go false f = e
          go true f = none_some (lookup q es) t apart.0 (ap (λ p. lookup p es) (sym (same_name_is r q f)) ∙ e)

  pub none_lives : NamesDiffer w.strands → InBirthOrder w.strands → (q : Name) (s : Strand) → strand_of w q ≡ Some s → HasValue s
  none_lives apart order = all_over w.strands (λ q s is none. none_some (strand_of w q) s none is) (λ q s e. e) apart order
