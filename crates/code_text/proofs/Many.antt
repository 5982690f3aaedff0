-- Items that are read one by one.
use Rattle.std.proofs.Common.{◌≡◌, ◌<◌, ◌+◌, ◌-◌, ℕ, suc, List, Result, Ok, Err, IfErr, ap, sym, subst, ◌∙◌, arith}
use Rattle.std.specs.Result.{IsErrAnd}
use Rattle.code_text.specs.declared.stop.Broken.{Broken}
use Rattle.code_text.specs.declared.stop.Stop.{Stop}
use Rattle.code_text.specs.declared.stop.Stop.TheVariants.{At, OutOfMemory}
use Rattle.code_text.specs.Decoding.{Reading, IfAt, then_on, many_in}

-- one more
one_more : {A S : Type 0} (one : List ℕ → Reading A) (add : S → A → S) (s : S) (n i : ℕ) (rest : List ℕ) → i < n →
    many_in one add s (n - i) rest ≡ many_in one add s (suc (n - (i + 1))) rest
one_more one add s n i rest below =
    let next : n - i ≡ suc (n - (i + 1)) = omega (arith, below) in
    ap (λ k. many_in one add s k rest) next

-- where the bytes begin with none
pub many_stop : {A S : Type 0} (one : List ℕ → Reading A) (add : S → A → S) (s : S) (n i : ℕ) (rest : List ℕ) (stop : Broken) → i < n → one rest ≡ Err stop →
    many_in one add s (n - i) rest ≡ Err stop
many_stop one add s n i rest stop below none =
    one_more one add s n i rest below ∙ ap (λ r. then_on r (λ x rest. many_in one add (add s x) (n - (i + 1)) rest)) none

-- where they begin with one
pub many_go_on : {A S : Type 0} (one : List ℕ → Reading A) (add : S → A → S) (s new : S) (n i : ℕ) (rest behind : List ℕ) (x : A) → i < n → one rest ≡ Ok (x, behind) → new ≡ add s x →
    many_in one add new (n - (i + 1)) behind ≡ many_in one add s (n - i) rest
many_go_on one add s new n i rest behind x below here is_new =
    ap (λ t. many_in one add t (n - (i + 1)) behind) is_new
    ∙ sym (one_more one add s n i rest below ∙ ap (λ r. then_on r (λ x rest. many_in one add (add s x) (n - (i + 1)) rest)) here)

-- what is answered where they begin with none
pub many_err : {A S : Type 0} (one : List ℕ → Reading A) (add : S → A → S) (s : S) (n i : ℕ) (rest : List ℕ) (whole : Reading S) (why : Stop) → i < n →
    many_in one add s (n - i) rest ≡ whole → IfAt why (λ stop. one rest ≡ Err stop) → IfAt why (λ stop. whole ≡ Err stop)
many_err one add s n i rest whole (At stop) below is none = sym is ∙ many_stop one add s n i rest stop below none
many_err one add s n i rest whole OutOfMemory below is none = tt

-- what is answered where a stop is handed on
pub handed_on : {T : Type 0} (P : Stop → Type 0) (r : Result T Stop) (why : Stop) → IsErrAnd r (λ e. e ≡ why) → P why → IfErr r P
handed_on P (Ok x) why is holds = tt
handed_on P (Err stop) why is holds = subst P (sym is) holds
