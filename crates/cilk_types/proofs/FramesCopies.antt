-- Numbers that are looked up among sorted ones, and scopes behind a body that is only read.
use Rattle.std.proofs.Common.{◌≡◌, ◌∙◌, ap, sym, ℕ, ◌+◌, ◌==◌, ◌<◌, Bool, true, false, cond, List, [], ◌∷◌, ◌++◌, length, get_or, take, append-nil, Result, Ok, Err, arith, eq-eqb}
use Rattle.std.specs.List.{list_any}
use Rattle.std.specs.List.Sorted.{IsNonDecreasing, IsBinarySearchResult}
use Rattle.std.specs.Ordering.{nat_cmp}
use Rattle.std.specs.Result.{is_ok}
use Rattle.std.proofs.lemmas.Bool.{ne_eqb}
use Rattle.std.proofs.lemmas.List.Elements.{All-from_get_or, filter_more}
use Rattle.std.proofs.lemmas.List.Folds.{list_any_at, list_any_none}
use Rattle.std.proofs.lemmas.List.Sorted.{searched}
use Rattle.cilk_ast.specs.declared.tree.TStmt.{TStmt}
use Rattle.cilk_model.specs.Copies.{copies_of}
use Rattle.cilk_model.specs.Locals.{in_body}
use Rattle.cilk_model.specs.Scopes.{Scopes, closed}
use Rattle.cilk_types.specs.Walking.{left_by}
use Rattle.cilk_types.proofs.KeptScopes.{outer_kept, file_kept}

pub is_found : (numbers : List ℕ) (number : ℕ) (place : Result ℕ ℕ) → IsBinarySearchResult (λ other. nat_cmp other number) numbers place →
    IsNonDecreasing numbers → is_ok place ≡ list_any (λ other. other == number) numbers
is_found numbers number (Ok i) found rises =
    let at = searched numbers number (Ok i) found (λ i j h k. rises i j 0 h k) in
    sym (list_any_at (λ other. other == number) numbers i 0 (at.0) (eq-eqb _ number (at.1)))
is_found numbers number (Err i) found rises =
    let at = searched numbers number (Err i) found (λ i j h k. rises i j 0 h k) in
    sym
    (list_any_none (λ other. other == number) numbers
    (All-from_get_or (λ other. (other == number) ≡ false) numbers 0
    (λ k h. ne_eqb _ number (λ same. grind (arith, at.1 k, at.2 k)))))

-- one number of a frame more, which is among those named or not
frame_next : (frame named : List ℕ) (i : ℕ) (named_so : Bool) → i < length frame → list_any (λ other. other == get_or frame i 0) named ≡ named_so →
    copies_of (take (i + 1) frame) named ≡ copies_of (take i frame) named ++ cond named_so (get_or frame i 0 ∷ []) []
frame_next frame named i named_so h is =
    filter_more (λ number. list_any (λ other. other == number) named) frame i 0 h
    ∙ ap (λ b. copies_of (take i frame) named ++ cond b (get_or frame i 0 ∷ []) []) is

pub kept_next : (frame named copies new : List ℕ) (i : ℕ) → i < length frame → list_any (λ other. other == get_or frame i 0) named ≡ true →
    copies ≡ copies_of (take i frame) named → new ≡ copies ++ get_or frame i 0 ∷ [] → new ≡ copies_of (take (i + 1) frame) named
kept_next frame named copies new i h is before is_new =
    is_new ∙ ap (λ ns. ns ++ get_or frame i 0 ∷ []) before ∙ sym (frame_next frame named i true h is)

pub left_out_next : (frame named copies new : List ℕ) (i : ℕ) → i < length frame → list_any (λ other. other == get_or frame i 0) named ≡ false →
    copies ≡ copies_of (take i frame) named → new ≡ copies → new ≡ copies_of (take (i + 1) frame) named
left_out_next frame named copies new i h is before is_new =
    is_new ∙ before ∙ sym (frame_next frame named i false h is ∙ append-nil (copies_of (take i frame) named))

-- behind a body of which only the scopes are left, and these as they were
pub body_passed : (name : List ℕ) (body : TStmt) (scopes : Scopes) →
    record (closed (left_by body (in_body name scopes))) { count = scopes.count; level = scopes.level } ≡ scopes
unfolding left_by
body_passed name body scopes = λ i. record {
  file = file_kept body (in_body name scopes) i;
  around = outer_kept body (in_body name scopes) i;
  count = scopes.count;
  level = scopes.level;
}
