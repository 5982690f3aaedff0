-- How many turns a function can have changes nothing, as long as these are more than the answers. `same_kept`
-- with `value_related` and its kin says besides that ways to go on that agree up to a number of answers agree
-- behind every expression and statement.
use Rattle.std.proofs.Common.{◌≡◌, ◌≤◌, ◌<◌, ℕ, suc, List, [], ◌∷◌, length, refl, ap, ℤ, false, arith, le_trans, le_refl}
use Rattle.cilk_ast.specs.declared.program.Function.{Function}
use Rattle.world_model.specs.Action.{Action, Answers}
use Rattle.world_model.specs.Meaning.{Acts, make}
use Rattle.cilk_model.specs.Acts.{run}
use Rattle.cilk_model.specs.Laws.{is_final}
use Rattle.cilk_model.proofs.Related.{IsKept}
use Rattle.cilk_model.proofs.RelatedStatements.{run_related}

-- two ways to go on agree up to n answers
abbrev pub Same : ℕ → Acts → Acts → Type 0
Same n f g = (answers : Answers) → length answers ≤ n → f answers ≡ g answers

first_same : (a : Action) (f g : List ℤ → Acts) → is_final a ≡ false → Same 0 (make a f) (make a g)
first_same a f g e [] le = refl
first_same a f g e (r ∷ answers) le = absurd (omega arith)

next_same : (n : ℕ) (a : Action) (f g : List ℤ → Acts) → is_final a ≡ false → ((r : List ℤ) → Same n (f r) (g r)) → Same (suc n) (make a f) (make a g)
next_same n a f g e h [] le = refl
next_same n a f g e h (r ∷ answers) le = ap (λ xs. a ∷ xs) (h r answers (omega arith))

pub same_kept : IsKept Same
same_kept = record {
  last = first_same;
  asks = next_same;
  stops = λ n a e answers le. refl;
  lower = λ m n f g le h answers short. h answers (le_trans short le);
}

pub more_turns_are_the_same : (functions : List Function) (a b depth function : ℕ) (args : List ℤ) (done : ℤ → Acts) (answers : Answers) →
    length answers < a → length answers < b → run functions a depth function args done answers ≡ run functions b depth function args done answers
more_turns_are_the_same functions a b depth function args done answers la lb =
    run_related Same same_kept functions a b (length answers) depth function args done done la lb (λ x more le. refl) answers (le_refl (length answers))
