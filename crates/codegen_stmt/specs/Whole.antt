-- The code of a function, and of a program.
use Rattle.std.specs.Prelude.{ℕ, suc, ◌+◌, max, Bool, not, if◌then◌else◌, true, false, List, [], ◌∷◌, ◌++◌, length, map}
use Rattle.word_ops.specs.declared.format.Part.{Part}
use Rattle.cilk_ast.specs.declared.program.Function.{Function}
use Rattle.cilk_ast.specs.declared.program.Program.{Program}
use Rattle.cilk_ast.specs.declared.program.Stmt.{Stmt, Each}
use Rattle.cilk_ast.specs.Parts.{each}
use Rattle.threadlet_code.specs.declared.instr.Instr.TheVariants as by
use Rattle.threadlet_code.specs.declared.code.FuncCode.{FuncCode}
use Rattle.threadlet_code.specs.declared.code.Code.{Code}
use Rattle.codegen_expr.specs.Piece.{Line, placeless, zero_line}
use Rattle.codegen_stmt.specs.Stretch.{Stretch, returning}
use Rattle.codegen_stmt.specs.Compiled.{compiled}

abbrev pub is_no_each : Stmt → Bool
is_no_each (Each at low high function copies) = false
is_no_each _ = true

-- A statement has a `cilk_for`.
unfoldable pub has_each : Stmt → Bool
has_each body = not (each is_no_each body)

-- How many words a function keeps besides its slots: those of a `cilk_for`.
abbrev pub kept_words : Stmt → ℕ
kept_words body = if each is_no_each body then 0 else 2

abbrev pub body_code : Function → Stretch
body_code f = compiled f.spawns f.slots f.body

-- The lines of a function: a Turn, its body, and the return of 0 at its end. No break or continue leaves the body.
abbrev pub function_lines : Function → ℕ → List Line
function_lines f first =
    let out = suc (body_code f).size in
    placeless by.Turn ∷ ((body_code f).lines (record { broken = out; continued = out }) 1 first ++ zero_line ∷ returning f.spawns)

-- A function, with its formats numbered from a number on.
abbrev pub function_code : Function → ℕ → FuncCode
function_code f first = record {
  params = f.params;
  slots = f.slots + kept_words f.body;
  height = max (body_code f).rise 1;
  spawns = f.spawns;
  body = map (λ line. line.instr) (function_lines f first);
  places = map (λ line. line.pos) (function_lines f first);
}

-- Functions whose formats are numbered one behind the other.
abbrev pub functions_code : List Function → ℕ → List FuncCode
functions_code [] first = []
functions_code (f ∷ functions) first = function_code f first ∷ functions_code functions (first + length (body_code f).formats)

abbrev pub formats_code : List Function → List (List Part)
formats_code [] = []
formats_code (f ∷ functions) = (body_code f).formats ++ formats_code functions

-- The code of a program.
abbrev pub code_of : Program → Code
code_of program = record {
  functions = functions_code program.functions 0;
  main = program.main;
  formats = formats_code program.functions;
  globals = program.globals;
  replicated = program.replicated;
}
