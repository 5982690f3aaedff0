-- The slots of a frame: those of the function, and behind them the words that it keeps.
use Rattle.std.proofs.Common.{◌≡◌, ℕ, zero, suc, ◌<◌, List, [], ◌∷◌, ◌++◌, length, Option, Some, None, refl, sym, ap, ◌∙◌, arith, ℤ, true}
use Rattle.std.specs.Prelude.{slice_set}
use borrow.Author.Tests.{ltb-true}
use Rattle.cilk_ast.specs.Kept.{is_target}
use Rattle.world_model.specs.Activation.{Slots, Targets, word_at, joined}

pub word_front : (s x : List ℤ) (i : ℕ) → i < length s → word_at (s ++ x) i ≡ word_at s i
word_front [] x i lt = absurd (omega arith)
word_front (y ∷ s) x zero lt = refl
word_front (y ∷ s) x (suc i) lt = word_front s x i (omega arith)

pub set_front : (s x : List ℤ) (i : ℕ) (v : ℤ) → i < length s → slice_set (s ++ x) i v ≡ slice_set s i v ++ x
set_front [] x i v lt = absurd (omega arith)
set_front (y ∷ s) x zero v lt = refl
set_front (y ∷ s) x (suc i) v lt = ap (λ l. y ∷ l) (set_front s x i v (omega arith))

pub set_length : (s : List ℤ) (i : ℕ) (v : ℤ) → length (slice_set s i v) ≡ length s
set_length [] i v = refl
set_length (y ∷ s) zero v = refl
set_length (y ∷ s) (suc i) v = ap suc (set_length s i v)

pub word_kept : (s : List ℤ) (v w : ℤ) (n : ℕ) → length s ≡ n → word_at (s ++ v ∷ w ∷ []) n ≡ v
word_kept [] v w n e = ap (word_at (v ∷ w ∷ [])) (sym e)
word_kept (y ∷ s) v w zero e = absurd (omega arith)
word_kept (y ∷ s) v w (suc n) e = word_kept s v w n (omega arith)

pub bound_kept : (s : List ℤ) (v w : ℤ) (n : ℕ) → length s ≡ n → word_at (s ++ v ∷ w ∷ []) (suc n) ≡ w
bound_kept [] v w n e = ap (λ k. word_at (v ∷ w ∷ []) (suc k)) (sym e)
bound_kept (y ∷ s) v w zero e = absurd (omega arith)
bound_kept (y ∷ s) v w (suc n) e = bound_kept s v w n (omega arith)

pub keep_word : (s : List ℤ) (v w u : ℤ) (n : ℕ) → length s ≡ n → slice_set (s ++ v ∷ w ∷ []) n u ≡ s ++ u ∷ w ∷ []
keep_word [] v w u n e = ap (λ k. slice_set (v ∷ w ∷ []) k u) (sym e)
keep_word (y ∷ s) v w u zero e = absurd (omega arith)
keep_word (y ∷ s) v w u (suc n) e = ap (λ l. y ∷ l) (keep_word s v w u n (omega arith))

pub keep_bound : (s : List ℤ) (v w u : ℤ) (n : ℕ) → length s ≡ n → slice_set (s ++ v ∷ w ∷ []) (suc n) u ≡ s ++ v ∷ u ∷ []
keep_bound [] v w u n e = ap (λ k. slice_set (v ∷ w ∷ []) (suc k) u) (sym e)
keep_bound (y ∷ s) v w u zero e = absurd (omega arith)
keep_bound (y ∷ s) v w u (suc n) e = ap (λ l. y ∷ l) (keep_bound s v w u n (omega arith))

-- Targets are slots of the function.
abbrev pub AreTargets : ℕ → Targets → Type 0
AreTargets n [] = Unit {0}
AreTargets n (target ∷ targets) = (is_target n target ≡ true) × AreTargets n targets

pub targets_more : (n : ℕ) (targets : Targets) (target : Option ℕ) → AreTargets n targets → is_target n target ≡ true → AreTargets n (targets ++ target ∷ [])
targets_more n [] target h k = (k, tt)
targets_more n (t ∷ targets) target h k = (h.0, targets_more n targets target h.1 k)

pub joined_length : (n : ℕ) (s : Slots) (targets : Targets) (results : List ℤ) → length s ≡ n → length (joined s targets results) ≡ n
joined_length n s [] results e = e
joined_length n s (t ∷ targets) [] e = e
joined_length n s (None ∷ targets) (r ∷ results) e = joined_length n s targets results e
joined_length n s (Some t ∷ targets) (r ∷ results) e = joined_length n (slice_set s t r) targets results (set_length s t r ∙ e)

pub joined_front : (n : ℕ) (s x : Slots) (targets : Targets) (results : List ℤ) → length s ≡ n → AreTargets n targets → joined (s ++ x) targets results ≡ joined s targets results ++ x
joined_front n s x [] results e h = refl
joined_front n s x (t ∷ targets) [] e h = refl
joined_front n s x (None ∷ targets) (r ∷ results) e h = joined_front n s x targets results e h.1
joined_front n s x (Some t ∷ targets) (r ∷ results) e h =
    let lt : t < length s = let k = ltb-true t n h.0 in omega arith in
    ap (λ l. joined l targets results) (set_front s x t r lt) ∙ joined_front n (slice_set s t r) x targets results (set_length s t r ∙ e) h.1
