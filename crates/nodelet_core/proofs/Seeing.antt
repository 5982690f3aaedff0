-- What a context sees, as the code tests it.
use Rattle.std.proofs.Common.{◌≡◌, ◌↔◌, ℕ, zero, suc, ◌<◌, ◌≤◌, ◌-◌, List, [], ◌∷◌, length, Option, Some, refl, sym, ap, ◌∙◌, arith, Bool, true, false, ℤ, IsSome}
use Rattle.std.specs.Prelude.{if◌then◌else◌, ◌==◌, ◌&&◌, is_some, map, reverse, take, slice_get, nat_lt}
use Rattle.std.specs.Bool.{IsTrue}
use Rattle.std.specs.List.{list_all}
use Rattle.std.proofs.lemmas.Bool.{eq-eqb, eqb-true}
use Rattle.std.proofs.lemmas.Bool.Decides.{eqb_tells, nat_tests}
use Rattle.std.proofs.lemmas.List.{length-map, length-reverse}
use Rattle.std.proofs.lemmas.List.Folds.{list_all-append}
use Rattle.word_ops.specs.Report.{below}
use Rattle.threadlet_code.specs.declared.code.Code.{Code}
use Rattle.threadlet_code.specs.Running.{owed}
use Rattle.threadlet_state.specs.declared.frame.Frame.{Frame}
use Rattle.threadlet_state.specs.Activations.{activation_in, state_of}
use Rattle.threadlet_state.specs.Fit.{frame_fits, run_fits, frames_fit}
use Rattle.threadlet_state.proofs.Here.{last_is}

-- ---- tests

pub none_left : (t : Bool) (n : ℕ) → (IsTrue t ↔ (n ≡ 0)) → t ≡ (n == 0)
none_left true n e = sym (eq-eqb n 0 (e.0 refl))
none_left false n e = go (n == 0) refl
  where
    go : (b : Bool) → (n == 0) ≡ b → false ≡ b
    go false f = refl
    go true f = let z : false ≡ true = e.1 (eqb-true _ _ f) in z

module _ (f : ℕ → Option ℤ) where
  all_there : (n : ℕ) → ((o : ℕ) → o < n → is_some (f o) ≡ true) → list_all (λ o. is_some (f o)) (below n) ≡ true
  all_there zero h = refl
  all_there (suc n) h =
      list_all-append (λ o. is_some (f o)) (below n) (n ∷ [])
      ∙ ap (λ b. b && (is_some (f n) && true)) (all_there n (λ o less. h o (omega (arith, less))))
      ∙ ap (λ b. b && true) (h n (omega arith))

  pub each_there : (n : ℕ) → list_all (λ o. is_some (f o)) (below n) ≡ true → (o : ℕ) → o < n → is_some (f o) ≡ true
  each_there zero e o less = absurd (omega (arith, less))
  each_there (suc n) e o less =
      go (list_all (λ k. is_some (f k)) (below n)) (is_some (f n)) (sym (list_all-append (λ k. is_some (f k)) (below n) (n ∷ [])) ∙ e) refl refl (o == n) refl (λ h k. each_there n h o k)
    where
      go : (a b : Bool) → (a && (b && true)) ≡ true → list_all (λ k. is_some (f k)) (below n) ≡ a → is_some (f n) ≡ b → (t : Bool) → (o == n) ≡ t →
          (list_all (λ k. is_some (f k)) (below n) ≡ true → o < n → is_some (f o) ≡ true) → is_some (f o) ≡ true
      go true true h all last true same ih = ap (λ k. is_some (f k)) (eqb-true _ _ same) ∙ last
      go true true h all last false other ih = ih all (let ne = other in grind (arith, eqb_tells))
      go true false h all last t same ih = absurd (let z : false ≡ true = h in cc)
      go false b h all last t same ih = absurd (let z : false ≡ true = h in cc)

  pub all_told : (t : Bool) (n : ℕ) → (IsTrue t ↔ ((o : ℕ) → o < n → IsSome (f o))) → t ≡ list_all (λ o. is_some (f o)) (below n)
  all_told true n e = sym (all_there n (e.0 refl))
  all_told false n e = go (list_all (λ o. is_some (f o)) (below n)) refl
    where
      go : (b : Bool) → list_all (λ o. is_some (f o)) (below n) ≡ b → false ≡ b
      go false g = refl
      go true g = let z : false ≡ true = e.1 (each_there n g) in z

-- ---- the deepest activation

-- It has to join the children that its frame says.
pub owed_is : (code : Code) (frames : List Frame) (n : ℕ) → n ≡ length frames → 1 ≤ n → (frame : Frame) → slice_get frames (n - 1) ≡ Some frame →
    owed (length frames) (state_of code frames) ≡ length frame.targets
owed_is code frames n counted some frame at_last =
    ap (λ l. owed (length frames) (map (activation_in code) l)) (last_is frames (n - 1) frame (omega (arith, counted, some)) at_last)
    ∙ ap (λ t. if t then length frame.targets else owed (length frames) (map (activation_in code) rest)) (eq-eqb (length frames) (suc (length (map (activation_in code) rest))) depth)
  where
    rest : List Frame
    rest = reverse (take (n - 1) frames)

    depth : length frames ≡ suc (length (map (activation_in code) rest))
    depth = let l = ap length (last_is frames (n - 1) frame (omega (arith, counted, some)) at_last) in
        omega (arith, l, length-reverse frames, length-map rest (activation_in code))

pub state_size : (code : Code) (frames : List Frame) → length (state_of code frames) ≡ length frames
state_size code frames = length-map (reverse frames) (activation_in code) ∙ length-reverse frames

-- ---- frames that fit

pub some_frames : (code : Code) (frames : List Frame) → frames_fit code frames ≡ true → 1 ≤ length frames
some_frames code [] e = absurd (let wrong : false ≡ true = e in cc)
some_frames code (frame ∷ frames) e = omega arith

pub few_frames : (code : Code) (frames : List Frame) → frames_fit code frames ≡ true → length frames ≤ 256
few_frames code frames e = go (reverse frames) (length-reverse frames) e
  where
    both : (a b : Bool) → (a && b) ≡ true → a ≡ true
    both true b f = refl
    both false b f = f

    go : (all : List Frame) → length all ≡ length frames → run_fits code all ≡ true → length frames ≤ 256
    go [] size f = omega (arith, size)
    go (first ∷ callers) size f =
        let deep : nat_lt (length callers) 256 ≡ true = both (nat_lt (length callers) 256) (frame_fits code 0 first) (both (nat_lt (length callers) 256 && frame_fits code 0 first) (list_all (frame_fits code 1) callers) f) in
        grind (arith, nat_tests)
