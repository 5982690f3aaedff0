-- The steps that lines give, one by one.
use Rattle.std.proofs.Common.{◌≡◌, ◌<◌, ◌+◌, ◌-◌, ℕ, suc, List, [], ◌∷◌, ◌++◌, length, Some, None, Err, ap, sym, ◌∙◌, arith}
use Rattle.word_ops.specs.declared.step.Step.{Step}
use Rattle.journal_text.specs.Reading.{step_in}
use Rattle.journal_text.specs.Decoding.{needs, broken, steps_in}
use Rattle.journal_text.specs.declared.fault.JournalKind.TheVariants as kind

-- one step more
one_more : (n line : ℕ) (done : List Step) (count i : ℕ) (rest : List ℕ) → i < count
    → steps_in n line done (count - i) rest ≡ steps_in n line done (suc (count - (i + 1))) rest
one_more n line done count i rest below =
    let next : count - i ≡ suc (count - (i + 1)) = omega arith in
    ap (λ k. steps_in n line done k rest) next

-- where the bytes begin with no step
pub steps_stop : (n line : ℕ) (done : List Step) (count i : ℕ) (rest : List ℕ) → i < count → step_in n rest ≡ None
    → steps_in n line done (count - i) rest ≡ Err (broken (line + length done) kind.BadStep)
steps_stop n line done count i rest below none =
    one_more n line done count i rest below
    ∙ ap (λ o. needs (line + length done) kind.BadStep o (λ x. steps_in n line (done ++ x.0 ∷ []) (count - (i + 1)) x.1)) none

-- where they begin with one
pub steps_go_on : (n line : ℕ) (done more : List Step) (count i : ℕ) (rest behind : List ℕ) (step : Step) → i < count → step_in n rest ≡ Some (step, behind) → more ≡ done ++ step ∷ []
    → steps_in n line more (count - (i + 1)) behind ≡ steps_in n line done (count - i) rest
steps_go_on n line done more count i rest behind step below some is_more =
    ap (λ l. steps_in n line l (count - (i + 1)) behind) is_more
    ∙ ap (λ o. needs (line + length done) kind.BadStep o (λ x. steps_in n line (done ++ x.0 ∷ []) (count - (i + 1)) x.1)) (sym some)
    ∙ sym (one_more n line done count i rest below)
