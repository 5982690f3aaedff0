-- Readers of a row of tokens from the left, with one token of look-ahead, and how they are put together.
use Rattle.std.specs.Prelude.{Bool, cond, List, [], ◌∷◌, Option, Some, None, Result, Ok, Err}
use Rattle.cilk_model.specs.Lexemes.{Lexeme}
use Rattle.cilk_model.specs.Tests.{starts}

-- A value and the tokens behind it, or the tokens from the first one on that does not fit.
abbrev pub Answer : Type 0 → Type 0
Answer X = Result (X × List Lexeme) (List Lexeme)

abbrev pub Parser : Type 0 → Type 0
Parser X = List Lexeme → Answer X

-- Goes on behind an answer, if it has a value.
abbrev pub goes_on : {X Y : Type 0} → (X → Parser Y) → Answer X → Answer Y
goes_on f (Ok a) = f a.0 a.1
goes_on f (Err rest) = Err rest

-- One reader, then the one that its value gives.
infixl 10 ◌>>=◌
abbrev pub ◌>>=◌ : {X Y : Type 0} → Parser X → (X → Parser Y) → Parser Y
◌>>=◌ p f ts = goes_on f (p ts)

-- Reads nothing.
abbrev pub gives : {X : Type 0} → X → Parser X
gives x ts = Ok (x, ts)

-- The value of a reader, changed.
infixl 11 ◌▹◌
abbrev pub ◌▹◌ : {X Y : Type 0} → Parser X → (X → Y) → Parser Y
◌▹◌ p f ts = goes_on (λ x rest. Ok (f x, rest)) (p ts)

-- The first reader where the next token passes the test, else the second.
abbrev pub when : {X : Type 0} → (Lexeme → Bool) → Parser X → Parser X → Parser X
when test p q ts = cond (starts test ts) (p ts) (q ts)

-- What the next token is, for a kind of tokens that says something of each: a mark says where it stands, a name
-- also which.
abbrev pub seen : {K : Type 0} → (Lexeme → Option K) → List Lexeme → Option K
seen kind [] = None
seen kind (t ∷ ts) = kind t

abbrev pub behind : List Lexeme → List Lexeme
behind [] = []
behind (t ∷ ts) = ts

-- Where the next token is of the kind, takes it and goes on with what it says; else the second reader.
abbrev pub chosen : {K X : Type 0} → (K → Parser X) → Parser X → Option K → Parser X
chosen f q (Some k) ts = f k (behind ts)
chosen f q None ts = q ts

abbrev pub choose : {K X : Type 0} → (Lexeme → Option K) → (K → Parser X) → Parser X → Parser X
choose kind f q ts = chosen f q (seen kind ts) ts

-- Takes a token of the kind.
abbrev pub take : {K : Type 0} → (Lexeme → Option K) → Parser K
take kind = choose kind gives (λ ts. Err ts)
