-- What every strand keeps to, from the relations that every action keeps.
use Rattle.std.proofs.Common.{◌≡◌, ◌≤◌, ℕ, suc, List, [], ◌∷◌, ◌++◌, length, refl, sym, ap, ℤ, true, false, arith, true≢false, le_refl, le_trans, append-nil, ◌||◌, ◌∙◌, ◌<◌}
use Rattle.std.proofs.lemmas.List.{length-append}
use Rattle.cilk_ast.specs.declared.program.Function.{Function}
use Rattle.world_model.specs.Action as act
use Rattle.world_model.specs.Action.{Action, Answers}
use Rattle.world_model.specs.Meaning.{Acts, make}
use Rattle.cilk_model.specs.Acts.{acts, run}
use Rattle.cilk_model.specs.Laws.{is_final, is_over, StrandsBeginWithTurn, MoreAnswersMakeMoreActions, OverIsOver, OneActionWaits, ActionsAreBounded}
use Rattle.cilk_model.proofs.Related.{IsKept}
use Rattle.cilk_model.proofs.RelatedStatements.{run_related}

-- what follows the actions so far: more, and nothing where these are over
abbrev Follows : List Action → List Action → Type 0
Follows xs ys = (rest : List Action) × (ys ≡ xs ++ rest) × (is_over xs ≡ true → rest ≡ [])

-- the second way follows the first where it gets more answers
abbrev Goes : ℕ → Acts → Acts → Type 0
Goes n f g = (answers more : Answers) → length answers ≤ n → Follows (f answers) (g (answers ++ more))

-- an action that is not final, in front, changes nothing of whether a list is over
over_behind : (a : Action) (xs : List Action) → is_final a ≡ false → is_over (a ∷ xs) ≡ is_over xs
over_behind a xs e = ap (λ b. b || is_over xs) e

first_goes : (a : Action) (f g : List ℤ → Acts) → is_final a ≡ false → (answers more : Answers) → length answers ≤ 0 → Follows (make a f answers) (make a g (answers ++ more))
first_goes a f g e [] [] le = ([], refl, λ o. refl)
first_goes a f g e [] (r ∷ more) le = (g r more, refl, λ o. absurd (true≢false (sym o ∙ over_behind a [] e)))
first_goes a f g e (r ∷ answers) more le = absurd (omega arith)

next_goes : (n : ℕ) (a : Action) (f g : List ℤ → Acts) → is_final a ≡ false → ((r : List ℤ) → Goes n (f r) (g r)) →
    (answers more : Answers) → length answers ≤ suc n → Follows (make a f answers) (make a g (answers ++ more))
next_goes n a f g e h [] more le = first_goes a f g e [] more (omega arith)
next_goes n a f g e h (r ∷ answers) more le =
    let later = h r answers more (omega arith) in
    (later.0, ap (λ xs. a ∷ xs) later.1, λ o. later.2 (sym (over_behind a (f r answers) e) ∙ o))

goes_kept : IsKept Goes
goes_kept = record {
  last = first_goes;
  asks = next_goes;
  stops = λ n a e answers more le. ([], refl, λ o. refl);
  lower = λ m n f g le h answers more short. h answers more (le_trans short le);
}

-- until it is over, a way has an action for each answer and one more, and never has more than that
abbrev Waits : ℕ → Acts → Acts → Type 0
Waits n f g = (answers : Answers) → length answers ≤ n → (is_over (f answers) ≡ false → length (f answers) ≡ suc (length answers)) × (length (f answers) ≤ suc (length answers))

first_waits : (a : Action) (f g : List ℤ → Acts) → is_final a ≡ false → Waits 0 (make a f) (make a g)
first_waits a f g e [] le = (λ o. refl, omega arith)
first_waits a f g e (r ∷ answers) le = absurd (omega arith)

next_waits : (n : ℕ) (a : Action) (f g : List ℤ → Acts) → is_final a ≡ false → ((r : List ℤ) → Waits n (f r) (g r)) → Waits (suc n) (make a f) (make a g)
next_waits n a f g e h [] le = (λ o. refl, omega arith)
next_waits n a f g e h (r ∷ answers) le =
    let later = h r answers (omega arith) in
    (λ o. ap suc (later.0 (sym (over_behind a (f r answers) e) ∙ o)), omega (arith, later.1))

waits_kept : IsKept Waits
waits_kept = record {
  last = first_waits;
  asks = next_waits;
  stops = λ n a e answers le. (λ o. absurd (true≢false (sym (ap (λ b. b || false) e) ∙ o)), omega arith);
  lower = λ m n f g le h answers short. h answers (le_trans short le);
}

module _ (functions : List Function) (function : ℕ) (args : List ℤ) where
  -- a strand after its first Turn
  abbrev started : ℕ → List ℤ → Acts
  started n _ = run functions n 1 function args (λ x _. act.End x ∷ [])

  related : (R : ℕ → Acts → Acts → Type 0) → IsKept R → (n a b : ℕ) → n < a → n < b → (r : List ℤ) → R n (started a r) (started b r)
  related R kept n a b la lb r = run_related R kept functions a b n 1 function args _ _ la lb (λ x. kept.stops n (act.End x) refl)

  acts_follow : (answers more : Answers) → Follows (acts functions function args answers) (acts functions function args (answers ++ more))
  acts_follow [] more = first_goes act.Turn (started 0) (started (length more)) refl [] more (omega arith)
  acts_follow (r ∷ answers) more =
      let n = length answers in
      let short : length answers < suc (length (answers ++ more)) = rw length-append (omega arith) in
      next_goes n act.Turn (started (suc n)) (started (suc (length (answers ++ more)))) refl
      (related Goes goes_kept n (suc n) (suc (length (answers ++ more))) (omega arith) short) (r ∷ answers) more (le_refl (suc n))

  acts_wait : (answers : Answers) →
      (is_over (acts functions function args answers) ≡ false → length (acts functions function args answers) ≡ suc (length answers))
      × (length (acts functions function args answers) ≤ suc (length answers))
  acts_wait [] = first_waits act.Turn (started 0) (started 0) refl [] (omega arith)
  acts_wait (r ∷ answers) =
      let n = length answers in
      next_waits n act.Turn (started (suc n)) (started (suc n)) refl
      (related Waits waits_kept n (suc n) (suc n) (omega arith) (omega arith)) (r ∷ answers) (le_refl (suc n))

  begins : (answers : Answers) → (rest : List Action) × (acts functions function args answers ≡ act.Turn ∷ rest)
  begins [] = ([], refl)
  begins (r ∷ answers) = (started (suc (length answers)) r answers, refl)

pub strands_begin_with_turn : StrandsBeginWithTurn
strands_begin_with_turn = begins

pub more_answers_make_more_actions : MoreAnswersMakeMoreActions
more_answers_make_more_actions functions function args answers more =
    let more_actions = acts_follow functions function args answers more in
    (more_actions.0, more_actions.1)

pub over_is_over : OverIsOver
over_is_over functions function args answers more over =
    let more_actions = acts_follow functions function args answers more in
    more_actions.1 ∙ ap (λ rest. acts functions function args answers ++ rest) (more_actions.2 over) ∙ append-nil (acts functions function args answers)

pub one_action_waits : OneActionWaits
one_action_waits functions function args answers = (acts_wait functions function args answers).0

pub actions_are_bounded : ActionsAreBounded
actions_are_bounded functions function args answers = (acts_wait functions function args answers).1
