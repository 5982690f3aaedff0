-- What the examples of codes are made of.
use Rattle.std.specs.Prelude.{ℕ, Bool, List, [], ◌∷◌, map}
use Rattle.word_ops.specs.declared.place.Pos.{Pos}
use Rattle.word_ops.specs.declared.format.Part.{Part}
use Rattle.threadlet_code.specs.declared.instr.Instr.{Instr}
use Rattle.threadlet_code.specs.declared.code.FuncCode.{FuncCode}
use Rattle.threadlet_code.specs.declared.code.Code.{Code}

-- a place in the first line
abbrev pub at : ℕ → Pos
at column = record { line = 1; column = column }

-- a function whose instructions all stand in column 1
abbrev pub function : ℕ → ℕ → ℕ → Bool → List Instr → FuncCode
function params slots height spawns body =
    record { params = params; slots = slots; height = height; spawns = spawns; body = body; places = map (λ instr. at 1) body }

abbrev pub codes_of : List FuncCode → List (List Part) → Code
codes_of functions formats = record { functions = functions; main = 0; formats = formats; globals = 0; replicated = 0 }

-- main alone, which names no format
abbrev pub alone : FuncCode → Code
alone f = codes_of (f ∷ []) []

-- a main without parameters
abbrev pub main : ℕ → ℕ → Bool → List Instr → Code
main slots height spawns body = alone (function 0 slots height spawns body)
