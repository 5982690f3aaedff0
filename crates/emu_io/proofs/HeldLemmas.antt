-- What a sink took in several calls.
use Rattle.std.proofs.Common.{◌∙◌, ap, sym, ℕ, List, [], ◌++◌, append_assoc, append-nil, Option, Some, None}
use Rattle.emu_io.specs.Held.{Grew}

pub Grew-none : (held : Option (List ℕ)) → Grew held held []
Grew-none None = tt
Grew-none (Some bytes) = sym (append-nil bytes)

pub Grew-append : (a b c : Option (List ℕ)) (xs ys : List ℕ) → Grew a b xs → Grew b c ys → Grew a c (xs ++ ys)
Grew-append a b None xs ys first second = tt
Grew-append a None (Some new) xs ys first second = absurd second
Grew-append None (Some mid) (Some new) xs ys first second = absurd first
Grew-append (Some old) (Some mid) (Some new) xs ys first second =
    second ∙ ap (λ bytes. bytes ++ ys) first ∙ append_assoc old xs ys
