-- The strand that has a child to join, as the world finds it.
use Rattle.std.proofs.Common.{◌≡◌, ℕ, zero, suc, List, [], ◌∷◌, map, filter, Option, Some, None, refl, sym, ap, ◌∙◌, Bool, true, false, ◌||◌}
use Rattle.std.specs.Prelude.{if◌then◌else◌, ◌==◌, slice_get, find, option_map, option_to_list}
use Rattle.std.specs.List.{list_any}
use Rattle.merge_law.proofs.Somes.{same_number, some_is}
use Rattle.word_ops.specs.declared.name.Name.{Name}
use Rattle.word_ops.specs.declared.ticket.Ticket.{Ticket}
use Rattle.word_ops.specs.Naming.{same_name}
use Rattle.world_model.specs.World.{Strand, World, Live, lookup, strand_of, children_at}
use Rattle.world_model.specs.Laws.{NamesDiffer}
use Rattle.world_model.specs.Traffic.{parent_of}
use Rattle.world_model.proofs.Names.{same_name_refl, same_name_is}
use Rattle.core_model.proofs.Invariant.Statement.{Relative, relative, relative_of, ticket_at, Results, Returns, Kin, relatives_in}
use Rattle.core_model.proofs.Traffic.Notes.{ended_to}

-- ---- a child among children

abbrev pub is_child : Name → ℕ × Name → Bool
is_child q c = same_name c.1 q

abbrev pub has_child : Name → Name × Strand → Bool
has_child q entry = list_any (is_child q) entry.1.children

record Slot (q : Name) (children : List (ℕ × Name)) : Type 0 where
  pub depth : ℕ
  pub order : ℕ
  pub holds : slice_get (children_at depth children) order ≡ Some q

-- a child that is had has a depth and an order
slot_of : (q : Name) (children : List (ℕ × Name)) → list_any (is_child q) children ≡ true → Slot q children
slot_of q [] e = absurd cc
slot_of q (c ∷ cs) e = go (λ f. slot_of q cs f) (same_name c.1 q) refl e
  where
    later : (s : Slot q cs) → (t : Bool) → (c.0 == s.depth) ≡ t → Slot q (c ∷ cs)
    later s true f = record { depth = s.depth; order = suc s.order; holds = ap (λ t. slice_get (map (λ (child : ℕ × Name). child.1) (if t then c ∷ filter (λ child. child.0 == s.depth) cs else filter (λ child. child.0 == s.depth) cs)) (suc s.order)) f ∙ s.holds }
    later s false f = record { depth = s.depth; order = s.order; holds = ap (λ t. slice_get (map (λ (child : ℕ × Name). child.1) (if t then c ∷ filter (λ child. child.0 == s.depth) cs else filter (λ child. child.0 == s.depth) cs)) s.order) f ∙ s.holds }

    go : (list_any (is_child q) cs ≡ true → Slot q cs) → (t : Bool) → same_name c.1 q ≡ t → list_any (is_child q) (c ∷ cs) ≡ true → Slot q (c ∷ cs)
    go ih true f g = record {
      depth = c.0;
      order = 0;
      holds = ap (λ t. slice_get (map (λ (child : ℕ × Name). child.1) (if t then c ∷ filter (λ child. child.0 == c.0) cs else filter (λ child. child.0 == c.0) cs)) 0) (same_number c.0) ∙ ap Some (same_name_is _ _ f);
    }
    go ih false f g = let s = ih (any_later (same_name c.1 q) (list_any (is_child q) cs) f g) in later s (c.0 == s.depth) refl
      where
        any_later : (a b : Bool) → a ≡ false → (a || b) ≡ true → b ≡ true
        any_later true b e f = absurd cc
        any_later false b e f = f

-- and a child with a depth and an order is had
had : (q : Name) (d o : ℕ) (children : List (ℕ × Name)) → slice_get (children_at d children) o ≡ Some q → list_any (is_child q) children ≡ true
had q d o [] e = absurd cc
had q d o (c ∷ cs) e = go o (λ i f. had q d i cs f) (c.0 == d) e
  where
    or_later : (a b : Bool) → b ≡ true → (a || b) ≡ true
    or_later true b e = refl
    or_later false b e = e

    go : (i : ℕ) → ((i : ℕ) → slice_get (children_at d cs) i ≡ Some q → list_any (is_child q) cs ≡ true) → (t : Bool) →
        slice_get (map (λ (child : ℕ × Name). child.1) (if t then c ∷ filter (λ child. child.0 == d) cs else filter (λ child. child.0 == d) cs)) i ≡ Some q → list_any (is_child q) (c ∷ cs) ≡ true
    go i ih false f = or_later (same_name c.1 q) _ (ih i f)
    go zero ih true f = let z : c.1 ≡ q = cc in let y : same_name c.1 q ≡ true = ap (λ (r : Name). same_name r q) z ∙ same_name_refl q in rw y refl
    go (suc i) ih true f = or_later (same_name c.1 q) _ (ih i f)

-- ---- who is found

abbrev FoundIn : Name → List (Name × Strand) → Option (Name × Strand) → Type 0
FoundIn q es (Some entry) = (lookup entry.0 es ≡ Some entry.1) × (has_child q entry ≡ true)
FoundIn q es None = (p : Name) (s : Strand) → lookup p es ≡ Some s → list_any (is_child q) s.children ≡ false

found_in : (q : Name) (es : List (Name × Strand)) → NamesDiffer es → FoundIn q es (find (has_child q) es)
found_in q [] names = λ p s e. absurd cc
found_in q (e ∷ es) names = go (found_in q es names.1) (has_child q e) refl
  where
    go : FoundIn q es (find (has_child q) es) → (t : Bool) → has_child q e ≡ t → FoundIn q (e ∷ es) (if t then Some e else find (has_child q) es)
    go ih true f = (ap (λ t. if t then Some e.1 else lookup e.0 es) (same_name_refl e.0), f)
    go ih false f = later (find (has_child q) es) ih
      where
        behind : (r : Name) (s : Strand) → lookup r es ≡ Some s → (t : Bool) → same_name r e.0 ≡ t → (if t then Some e.1 else lookup r es) ≡ Some s
        behind r s g false h = g
        behind r s g true h = absurd (let z : None ≡ Some s = sym names.0 ∙ ap (λ (m : Name). lookup m es) (sym (same_name_is _ _ h)) ∙ g in cc)

        none : ((p : Name) (s : Strand) → lookup p es ≡ Some s → list_any (is_child q) s.children ≡ false) → (p : Name) (s : Strand) (t : Bool) → (if t then Some e.1 else lookup p es) ≡ Some s → list_any (is_child q) s.children ≡ false
        none ih p s true g = let z : e.1 ≡ s = cc in ap (λ (y : Strand). list_any (is_child q) y.children) (sym z) ∙ f
        none ih p s false g = ih p s g

        later : (o : Option (Name × Strand)) → FoundIn q es o → FoundIn q (e ∷ es) o
        later (Some entry) h = (behind entry.0 entry.1 h.0 (same_name entry.0 e.0) refl, h.1)
        later None h = λ p s g. none h p s (same_name p e.0) g

-- the one strand that has a live one to join is that of its ticket
pub parent_home : (T : Name → Option Ticket) (R : Results) (D : Returns) (w : World) → Kin T R D (relatives_in w) → NamesDiffer w.strands → (q : Name) (s : Strand) → strand_of w q ≡ Some s → s.status ≡ Live → (k : ℕ) →
    map (λ (parent : Strand). (k, parent.home)) (option_to_list (parent_of w q)) ≡ ended_to k (T q)
parent_home T R D w kin names q s known live k = go (find (has_child q) w.strands) (found_in q w.strands names) (T q) refl
  where
    by_ticket : (entry : Name × Strand) → FoundIn q w.strands (Some entry) → (h : Slot q entry.1.children) × (T q ≡ Some (ticket_at entry.0 entry.1.home h.depth h.order))
    by_ticket entry found = let h = slot_of q entry.1.children found.1 in (h, kin.child entry.0 (relative_of entry.1) (ap relative found.0) h.depth h.order q h.holds)

    known_as : (o : Option Strand) (r : Relative) → relative o ≡ Some r → (y : Strand) × (o ≡ Some y) × (relative_of y ≡ r)
    known_as None r e = absurd cc
    known_as (Some y) r e = (y, refl, some_is _ _ e)

    go : (o : Option (Name × Strand)) → FoundIn q w.strands o → (t : Option Ticket) → T q ≡ t →
        map (λ (parent : Strand). (k, parent.home)) (option_to_list (option_map (λ (entry : Name × Strand). entry.1) o)) ≡ ended_to k t
    go (Some entry) found t e = ap (ended_to k) (let h = by_ticket entry found in sym h.1 ∙ e)
    go None none None e = refl
    go None none (Some t) e = absurd (
        let parent = kin.ticket q (relative_of s) t (ap relative known) live e in
        let y = known_as (strand_of w t.parent) parent.0 parent.1 in
        let holds : slice_get (children_at t.depth y.0.children) t.order ≡ Some q = ap (λ (r : Relative). slice_get (children_at t.depth r.children) t.order) y.2 ∙ parent.3 in
        let z : true ≡ false = sym (had q t.depth t.order y.0.children holds) ∙ none t.parent y.0 y.1 in cc)
