-- Frames whose last is the deepest.
use Rattle.std.proofs.Common.{◌≡◌, List, [], ◌∷◌, ◌++◌, length, refl, sym, ap, ◌∙◌, arith, Bool, true, false}
use Rattle.std.specs.Prelude.{reverse, ◌&&◌, nat_lt}
use Rattle.std.specs.List.{list_all}
use Rattle.std.proofs.lemmas.List.{reverse-append, length-reverse}
use Rattle.std.proofs.lemmas.List.Folds.{list_all-append}
use Rattle.threadlet_code.specs.declared.code.Code.{Code}
use Rattle.threadlet_state.specs.declared.frame.Frame.{Frame}
use Rattle.threadlet_state.specs.Fit.{frame_fits, run_fits, frames_fit}

swapped : (a b : Bool) → (a && (b && true)) ≡ (b && a)
swapped true true = refl
swapped true false = refl
swapped false true = refl
swapped false false = refl

all_reversed : {X : Type 0} (p : X → Bool) (xs : List X) → list_all p (reverse xs) ≡ list_all p xs
all_reversed p [] = refl
all_reversed p (x ∷ xs) =
    ap (list_all p) (reverse-append (x ∷ []) xs)
    ∙ list_all-append p (reverse xs) (x ∷ [])
    ∙ ap (λ b. b && (p x && true)) (all_reversed p xs)
    ∙ swapped (list_all p xs) (p x)

-- The deepest runs, and the others wait.
pub last_runs : (code : Code) (frames callers : List Frame) (deepest : Frame) → frames ≡ callers ++ deepest ∷ [] →
    (nat_lt (length callers) 256 && frame_fits code 0 deepest && list_all (frame_fits code 1) callers) ≡ frames_fit code frames
last_runs code frames callers deepest e =
    ap (λ k. nat_lt k 256 && frame_fits code 0 deepest && list_all (frame_fits code 1) callers) (sym (length-reverse callers))
    ∙ ap (λ b. nat_lt (length (reverse callers)) 256 && frame_fits code 0 deepest && b) (sym (all_reversed (frame_fits code 1) callers))
    ∙ ap (run_fits code) (sym (ap reverse e ∙ reverse-append callers (deepest ∷ [])))

pub no_frames : (code : Code) (frames : List Frame) → length frames ≡ 0 → false ≡ frames_fit code frames
no_frames code [] e = refl
no_frames code (frame ∷ frames) e = absurd (omega arith)
