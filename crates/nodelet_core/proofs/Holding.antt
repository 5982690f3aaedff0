-- What a nodelet keeps of strands, and what it serves them.
use Rattle.std.proofs.Common.{◌≡◌, ℕ, ℤ, pos, List, [], ◌∷◌, refl, ap, sym, ◌∙◌}
use Rattle.std.specs.Prelude.{map, Option, Some, None, unwrap_or}
use Rattle.std.proofs.Math.Path.{fun_ext}
use Rattle.service.specs.Requests.{cursors_then}
use Rattle.core_model.specs.Nodes.{Node}
use Rattle.nodelet_core.specs.code.Doing.{with_cursors}

-- ---- results

unwrapped : (all : List ℤ) → map (λ (o : Option ℤ). unwrap_or o (pos 0)) (map Some all) ≡ all
unwrapped [] = refl
unwrapped (x ∷ all) = ap (λ l. x ∷ l) (unwrapped all)

one_map : (g : Option ℤ → ℤ) (f : ℕ → Option ℤ) (ks : List ℕ) → map g (map f ks) ≡ map (λ k. g (f k)) ks
one_map g f [] = refl
one_map g f (k ∷ ks) = ap (λ l. g (f k) ∷ l) (one_map g f ks)

-- What is there, once it is known that it is.
pub known_of : (ks : List ℕ) (f : ℕ → Option ℤ) (all : List ℤ) → map Some all ≡ map f ks → all ≡ map (λ k. unwrap_or (f k) (pos 0)) ks
known_of ks f all e = sym (unwrapped all) ∙ ap (map (λ (o : Option ℤ). unwrap_or o (pos 0))) e ∙ one_map (λ (o : Option ℤ). unwrap_or o (pos 0)) f ks

-- ---- requests

cursors_are : (n : ℕ) (v : Node) (taken : Option (ℕ × ℤ)) → record v { cursors = cursors_then n v.cursors taken } ≡ with_cursors n v taken
cursors_are n v None = refl
cursors_are n v (Some (view, count)) = refl

pub served_node : (n m : ℕ) (v : Node) (cursors : ℕ → ℕ) (pieces : List (List ℕ)) (taken by : Option (ℕ × ℤ)) → ((view : ℕ) → cursors view ≡ cursors_then m v.cursors by view) →
    m ≡ n → by ≡ taken → pieces ≡ v.pieces → record v { cursors = cursors; pieces = pieces } ≡ with_cursors n v taken
served_node n m v cursors pieces taken by c e f p =
    ap (λ z. record v { cursors = z; pieces = pieces }) (fun_ext c)
    ∙ ap (λ z. record v { cursors = cursors_then z v.cursors by; pieces = pieces }) e
    ∙ ap (λ z. record v { cursors = cursors_then n v.cursors z; pieces = pieces }) f
    ∙ ap (λ z. record v { cursors = cursors_then n v.cursors taken; pieces = z }) p
    ∙ cursors_are n v taken
