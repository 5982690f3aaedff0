-- The contexts once one came, took a place or went.
use Rattle.std.proofs.Common.{◌≡◌, ℕ, zero, suc, ◌≤◌, ◌<◌, Bool, true, false, List, [], ◌∷◌, length, get_or, refl, ap, sym, ◌∙◌, arith, slice_set}
use Rattle.std.specs.Prelude.{map, nat_lt, Some, Err}
use Rattle.std.specs.List.{list_all, insert, remove}
use Rattle.std.proofs.lemmas.Bool.Decides.{nat_tests}
use Rattle.word_ops.specs.declared.name.Name.{Name}
use Rattle.word_ops.specs.Naming.{same_name}
use Rattle.threadlet_code.specs.declared.code.Code.{Code}
use Rattle.threadlet_state.specs.declared.context.Context as carried
use Rattle.core_model.specs.Contexts.{precedes, context_of, with_context, without_context}
use Rattle.nodelet_core.specs.Carried.{context_in}
use Rattle.nodelet_core.specs.code.Standing.{ascends, names_of}
use Rattle.nodelet_core.specs.code.Changed.{IsPlace, IsWith, IsWithout}
use Rattle.nodelet_core.proofs.Found.{both, passes, precedes_apart, name_at, as_many, found_is}
use Rattle.nodelet_core.proofs.Coming.{behind_apart, same_as, map_insert, map_remove, map_set_same, insert_all, remove_all, set_all, with_here, with_first, with_behind, without_here, without_other}

-- One that comes goes where its name belongs.
pub insert_stands : (code : Code) (x : carried.Context) (contexts : List carried.Context) (i : ℕ) → i ≤ length (names_of contexts)
    → ((k : ℕ) (d : Name) → k < i → k < length (names_of contexts) → precedes (get_or (names_of contexts) k d) x.name ≡ true)
    → ((k : ℕ) (d : Name) → i ≤ k → k < length (names_of contexts) → precedes x.name (get_or (names_of contexts) k d) ≡ true)
    → map (context_in code) (insert contexts i x) ≡ with_context (context_in code x) (map (context_in code) contexts)
insert_stands code x [] zero le before behind = refl
insert_stands code x [] (suc i) le before behind = absurd (omega arith)
insert_stands code x (y ∷ contexts) zero le before behind =
    sym (with_first (context_in code x) (context_in code y) (map (context_in code) contexts) (behind 0 y.name (omega arith) (omega arith)))
insert_stands code x (y ∷ contexts) (suc i) le before behind =
    ap (λ l. context_in code y ∷ l)
    (insert_stands code x contexts i (omega arith)
    (λ k d lt inside. before (suc k) d (omega arith) (omega arith))
    (λ k d le inside. behind (suc k) d (omega arith) (omega arith)))
    ∙ sym (with_behind (context_in code x) (context_in code y) (map (context_in code) contexts) (before 0 y.name (omega arith) (omega arith)))

-- The name at a place behind the first comes after it.
later_name : (y : carried.Context) (contexts : List carried.Context) (t : Name) → list_all (precedes y.name) (names_of contexts) ≡ true → (i : ℕ) → i < length (names_of contexts)
    → ((d : Name) → get_or (names_of contexts) i d ≡ t) → precedes y.name t ≡ true
later_name y contexts t all i lt at =
    ap (precedes y.name) (sym (at y.name) ∙ name_at contexts i y)
    ∙ passes (precedes y.name) contexts all i y (omega (arith, as_many contexts))

-- One that takes the place of the one of its name.
pub set_stands : (code : Code) (x : carried.Context) (contexts : List carried.Context) (i : ℕ) → ascends (names_of contexts) ≡ true → i < length (names_of contexts)
    → ((d : Name) → get_or (names_of contexts) i d ≡ x.name)
    → map (context_in code) (slice_set contexts i x) ≡ with_context (context_in code x) (map (context_in code) contexts)
set_stands code x [] i up lt at = absurd (omega arith)
set_stands code x (y ∷ contexts) zero up lt at =
    sym (with_here (context_in code x) (context_in code y) (map (context_in code) contexts) (same_as x.name y.name (at x.name)))
set_stands code x (y ∷ contexts) (suc i) up lt at =
    let split = both (list_all (precedes y.name) (names_of contexts)) (ascends (names_of contexts)) up in
    ap (λ l. context_in code y ∷ l) (set_stands code x contexts i split.1 (omega arith) (λ d. at d))
    ∙ sym (with_behind (context_in code x) (context_in code y) (map (context_in code) contexts) (later_name y contexts x.name split.0 i (omega arith) (λ d. at d)))

-- None goes where none has the name.
pub none_goes : (code : Code) (t : Name) (contexts : List carried.Context)
    → ((k : ℕ) (d : carried.Context) → k < length contexts → same_name t (get_or contexts k d).name ≡ false)
    → map (context_in code) contexts ≡ without_context t (map (context_in code) contexts)
none_goes code t [] e = refl
none_goes code t (y ∷ contexts) e =
    ap (λ l. context_in code y ∷ l) (none_goes code t contexts (λ k d lt. e (suc k) d (omega arith)))
    ∙ sym (without_other t (context_in code y) (map (context_in code) contexts) (e 0 y (omega arith)))

-- The one of the name goes, and the others stay.
pub remove_stands : (code : Code) (t : Name) (contexts : List carried.Context) (i : ℕ) → ascends (names_of contexts) ≡ true → i < length (names_of contexts)
    → ((d : Name) → get_or (names_of contexts) i d ≡ t)
    → map (context_in code) (remove contexts i) ≡ without_context t (map (context_in code) contexts)
remove_stands code t [] i up lt at = absurd (omega arith)
remove_stands code t (y ∷ contexts) zero up lt at =
    let split = both (list_all (precedes y.name) (names_of contexts)) (ascends (names_of contexts)) up in
    none_goes code t contexts (λ k d lt. behind_apart (get_or contexts k d).name t (ap (λ n. precedes n (get_or contexts k d).name) (sym (at t)) ∙ passes (precedes y.name) contexts split.0 k d lt))
    ∙ sym (without_here t (context_in code y) (map (context_in code) contexts) (same_as t y.name (at t)))
remove_stands code t (y ∷ contexts) (suc i) up lt at =
    let split = both (list_all (precedes y.name) (names_of contexts)) (ascends (names_of contexts)) up in
    ap (λ l. context_in code y ∷ l) (remove_stands code t contexts i split.1 (omega arith) (λ d. at d))
    ∙ sym (without_other t (context_in code y) (map (context_in code) contexts) (precedes_apart y.name t (later_name y contexts t split.0 i (omega arith) (λ d. at d))))

-- ---- in the words of the specification

pub inserted : (x : carried.Context) (contexts after : List carried.Context) (i : ℕ) → IsPlace x.name (names_of contexts) (Err i) → after ≡ insert contexts i x → IsWith x contexts after
inserted x contexts after i place e = record {
  stands = λ code. ap (map (context_in code)) e ∙ insert_stands code x contexts i place.0 place.1 place.2;
  keeps = λ p one all. ap (list_all p) e ∙ insert_all p contexts i x one all;
}

pub in_place : (x : carried.Context) (contexts : List carried.Context) (i : ℕ) → ascends (names_of contexts) ≡ true → i < length (names_of contexts)
    → ((d : Name) → get_or (names_of contexts) i d ≡ x.name) → IsWith x contexts (slice_set contexts i x)
in_place x contexts i up lt at = record {
  stands = λ code. set_stands code x contexts i up lt at;
  keeps = λ p one all. set_all p contexts i x one all;
}

pub taken_out : (t : Name) (contexts after : List carried.Context) (i : ℕ) → ascends (names_of contexts) ≡ true → i < length (names_of contexts)
    → ((d : Name) → get_or (names_of contexts) i d ≡ t) → after ≡ remove contexts i → IsWithout t contexts after
taken_out t contexts after i up lt at e = record {
  stands = λ code. ap (map (context_in code)) e ∙ remove_stands code t contexts i up lt at;
  keeps = λ p all. ap (list_all p) e ∙ remove_all p contexts i all;
}

-- Where a name only would go, no context has it.
pub nowhere : (t : Name) (contexts : List carried.Context) (i : ℕ) → IsPlace t (names_of contexts) (Err i)
    → (k : ℕ) (d : carried.Context) → k < length contexts → same_name t (get_or contexts k d).name ≡ false
nowhere t contexts i place k d lt = go (nat_lt k i) refl
  where
    named : get_or (names_of contexts) k d.name ≡ (get_or contexts k d).name
    named = name_at contexts k d

    inside : k < length (names_of contexts)
    inside = omega (arith, as_many contexts)

    go : (b : Bool) → nat_lt k i ≡ b → same_name t (get_or contexts k d).name ≡ false
    go true e = precedes_apart _ t (ap (λ z. precedes z t) (sym named) ∙ place.1 k d.name (grind (arith, nat_tests)) inside)
    go false e = behind_apart _ t (ap (precedes t) (sym named) ∙ place.2 k d.name (grind (arith, nat_tests)) inside)

pub none_out : (t : Name) (contexts : List carried.Context) (i : ℕ) → IsPlace t (names_of contexts) (Err i) → IsWithout t contexts contexts
none_out t contexts i place = record {
  stands = λ code. none_goes code t contexts (nowhere t contexts i place);
  keeps = λ p all. all;
}

-- The one at the place of a name has it.
pub named_at : (t : Name) (contexts : List carried.Context) (i : ℕ) (x : carried.Context) → ((d : Name) → get_or (names_of contexts) i d ≡ t) → (get_or contexts i x).name ≡ t
named_at t contexts i x at = sym (name_at contexts i x) ∙ at x.name

pub found_named : (code : Code) (t : Name) (contexts : List carried.Context) (i : ℕ) (x : carried.Context) → ascends (names_of contexts) ≡ true → i < length (names_of contexts)
    → ((d : Name) → get_or (names_of contexts) i d ≡ t) → get_or contexts i x ≡ x → context_of t (map (context_in code) contexts) ≡ Some (context_in code x)
found_named code t contexts i x up lt at e =
    ap (λ n. context_of n (map (context_in code) contexts)) (sym (named_at t contexts i x at) ∙ ap (λ (z : carried.Context). z.name) e)
    ∙ found_is code contexts up i x (omega (arith, as_many contexts)) e

-- ---- the names beside them

pub names_inserted : (x : carried.Context) (contexts after : List carried.Context) (i : ℕ) (names : List Name) → names_of contexts ≡ names → after ≡ insert contexts i x
    → names_of after ≡ insert names i x.name
names_inserted x contexts after i names e f = ap names_of f ∙ map_insert (λ (z : carried.Context). z.name) contexts i x ∙ ap (λ l. insert l i x.name) e

pub names_removed : (contexts after : List carried.Context) (i : ℕ) (names : List Name) → names_of contexts ≡ names → after ≡ remove contexts i → names_of after ≡ remove names i
names_removed contexts after i names e f = ap names_of f ∙ map_remove (λ (z : carried.Context). z.name) contexts i ∙ ap (λ l. remove l i) e

pub names_kept : (x : carried.Context) (contexts : List carried.Context) (i : ℕ) → ((d : Name) → get_or (names_of contexts) i d ≡ x.name) → names_of (slice_set contexts i x) ≡ names_of contexts
names_kept x contexts i at = map_set_same (λ (z : carried.Context). z.name) contexts i x (named_at x.name contexts i x at)
