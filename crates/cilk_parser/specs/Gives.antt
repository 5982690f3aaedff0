-- What the code's readers give.
use Rattle.std.specs.Prelude.{◌≡◌, List, ◌++◌, Option, Some, None, Result, Ok, Err}
use Rattle.cilk_model.specs.Lexemes.{Lexeme}
use Rattle.cilk_parser.specs.declared.stop.Stop.{Stop}
use Rattle.cilk_parser.specs.declared.stop.Stop.TheVariants.{Unexpected, OutOfMemory}
use Rattle.cilk_parser.specs.Parsers.{Answer, Parser, behind}

-- What is left of a row of tokens from which one was taken, or none.
abbrev pub left_behind : {K : Type 0} → Option K → List Lexeme → List Lexeme
left_behind (Some k) ts = behind ts
left_behind None ts = ts

abbrev pub OnSome : {K : Type 0} → Option K → Type 0 → Type 0
OnSome (Some k) P = P
OnSome None P = Unit {0}

-- The answer is the value and the tokens left, or those from the first on that does not fit, unless memory ran out.
abbrev pub Gives : {X : Type 0} → Result X Stop → List Lexeme → Answer X → Type 0
Gives (Ok x) left a = a ≡ Ok (x, left)
Gives (Err OutOfMemory) left a = Unit {0}
Gives (Err Unexpected) left a = a ≡ Err left

-- The whole answer is what goes on with the value, or the tokens left from the first on that does not fit.
abbrev pub Leads : {X Y : Type 0} → Result X Stop → List Lexeme → (X → Parser Y) → Answer Y → Type 0
Leads (Ok x) left f whole = whole ≡ f x left
Leads (Err OutOfMemory) left f whole = Unit {0}
Leads (Err Unexpected) left f whole = whole ≡ Err left

-- An answer with items in front of its own.
abbrev pub prefixed : {X : Type 0} → List X → Answer (List X) → Answer (List X)
prefixed xs (Ok a) = Ok (xs ++ a.0, a.1)
prefixed xs (Err rest) = Err rest

-- A list has the items of the answer behind those it had.
abbrev pub Appends : {X U : Type 0} → Result U Stop → List X → List X → List Lexeme → Answer (List X) → Type 0
Appends (Ok u) old new left a = prefixed old a ≡ Ok (new, left)
Appends (Err OutOfMemory) old new left a = Unit {0}
Appends (Err Unexpected) old new left a = a ≡ Err left

-- What is left to read gives the same answer as all of it.
abbrev pub Passes : {X U : Type 0} → Result U Stop → List Lexeme → Answer X → Answer X → Type 0
Passes (Ok u) left all rest = all ≡ rest
Passes (Err OutOfMemory) left all rest = Unit {0}
Passes (Err Unexpected) left all rest = all ≡ Err left
