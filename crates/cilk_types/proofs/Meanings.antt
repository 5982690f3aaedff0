-- Looking names up in maps from names.
use Rattle.std.proofs.Common.{◌≡◌, ◌∙◌, sym, ℕ, List, Option, Some, None, Bor}
use Rattle.std.specs.Option.{option_map}
use Rattle.std.specs.Map.{lookup}
use Rattle.std.specs.Str.{bytes_eq}
use Rattle.cilk_types.specs.Shown.{bare}
use Rattle.cilk_types.proofs.ScopeLemmas.{has_bytes, lookup_shown}

same : {X : Type 0} (o : Option X) → option_map (λ x. x) o ≡ o
same None = λ i. None
same (Some x) = λ i. Some x

pub looked_up : {X : Type 0} (name : List ℕ) (es : List (Bor (List ℕ) × X)) (o : Option X) → o ≡ lookup (has_bytes name) es →
    o ≡ lookup (bytes_eq name) (bare es)
looked_up name es o e = e ∙ sym (lookup_shown (λ x. x) name es ∙ same (lookup (has_bytes name) es))
