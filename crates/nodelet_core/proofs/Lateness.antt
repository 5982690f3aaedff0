-- A context that is late, and a name that no context has.
use Rattle.std.proofs.Common.{◌≡◌, ℕ, ◌<◌, Bool, true, false, List, length, get_or, refl, ap, sym, ◌∙◌, arith, slice_set}
use Rattle.std.specs.Prelude.{map, nat_lt, Some, Err, Contains}
use Rattle.std.proofs.lemmas.Bool.Decides.{eqb_tells, nat_tests}
use Rattle.word_ops.specs.declared.name.Name.{Name}
use Rattle.word_ops.specs.declared.place.Pos.{Pos}
use Rattle.threadlet_state.specs.declared.context.Context as carried
use Rattle.world_model.specs.Step.{late_after}
use Rattle.core_model.specs.Contexts.{precedes, with_context}
use Rattle.nodelet_core.specs.Carried.{context_in}
use Rattle.nodelet_core.specs.code.Standing.{ascends, names_of}
use Rattle.nodelet_core.specs.code.Changed.{IsPlace, IsLater, with_late}
use Rattle.nodelet_core.proofs.Found.{holds_at, none_named, as_many}
use Rattle.nodelet_core.proofs.Changed.{in_place, nowhere, named_at, found_named}

-- ---- a name that no context has

not_before_itself : (t : Name) → precedes t t ≡ false
not_before_itself t = grind (arith, eqb_tells, nat_tests)

pub missing : (t : Name) (names : List Name) (i : ℕ) → IsPlace t names (Err i) → Contains names t → ⊥
missing t names i place there = go (nat_lt there.0 i) refl
  where
    wrong : precedes t t ≡ true → ⊥
    wrong e = let f = not_before_itself t in cc

    go : (b : Bool) → nat_lt there.0 i ≡ b → ⊥
    go true e = wrong (ap (λ z. precedes z t) (sym there.2) ∙ place.1 there.0 t (grind (arith, nat_tests)) there.1)
    go false e = wrong (ap (precedes t) (sym there.2) ∙ place.2 there.0 t (grind (arith, nat_tests)) there.1)

-- ---- a context that is late

-- The name stays.
pub own_name : (t : Name) (contexts : List carried.Context) (i : ℕ) (x : carried.Context) → ((d : Name) → get_or (names_of contexts) i d ≡ t) → get_or contexts i x ≡ x
    → (d : Name) → get_or (names_of contexts) i d ≡ x.name
own_name t contexts i x at e d = at d ∙ sym (named_at t contexts i x at) ∙ ap (λ (z : carried.Context). z.name) e

pub is_late : (t : Name) (place : Pos) (contexts : List carried.Context) (i : ℕ) (x : carried.Context) (new : Pos) → ascends (names_of contexts) ≡ true → i < length (names_of contexts)
    → ((d : Name) → get_or (names_of contexts) i d ≡ t) → get_or contexts i x ≡ x → new ≡ late_after x.late place
    → IsLater t place contexts (slice_set contexts i (record x { late = Some new }))
is_late t place contexts i x new up lt at e f =
    let y : carried.Context = record x { late = Some new } in
    let it = in_place y contexts i up lt (own_name t contexts i x at e) in
    record {
      stands = λ code. it.stands code
          ∙ ap (λ z. with_context (record (context_in code x) { late = Some z }) (map (context_in code) contexts)) f
          ∙ sym (ap (λ o. with_late place o (map (context_in code) contexts)) (found_named code t contexts i x up lt at e));
      keeps = λ p change all. it.keeps p (change x (Some new) (holds_at p contexts all i x (omega (arith, as_many contexts)) e)) all;
    }

pub none_late : (t : Name) (place : Pos) (contexts : List carried.Context) (i : ℕ) → IsPlace t (names_of contexts) (Err i) → IsLater t place contexts contexts
none_late t place contexts i found = record {
  stands = λ code. sym (ap (λ o. with_late place o (map (context_in code) contexts)) (none_named code t contexts (nowhere t contexts i found)));
  keeps = λ p change all. all;
}
