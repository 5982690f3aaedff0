-- What code makes of expressions.
use Rattle.std.specs.Prelude.{ℕ, List, map, unwrap_or, [], ◌++◌, Option, Some, None}
use Rattle.std.specs.Option.{option_map}
use Rattle.word_ops.specs.declared.format.Part.{Part}
use Rattle.cilk_ast.specs.declared.program.Expr.{Expr}
use Rattle.cilk_ast.specs.declared.tree.TExpr.{TExpr}
use Rattle.cilk_model.specs.Formats.{format_of, parts_from}
use Rattle.cilk_model.specs.Scopes.{Names}
use Rattle.cilk_model.specs.ExpressionLowering.{expression}
use Rattle.cilk_types.specs.declared.formats.Begun.{Begun}
use Rattle.cilk_types.specs.Reading.{begun_of}

-- an expression in a function with this frame
unfoldable pub lowered : Names → List ℕ → TExpr → Expr
lowered names frame e = expression names frame e

-- expressions in a list
abbrev pub lowered_list : Names → List ℕ → List TExpr → List Expr
lowered_list names frame es = map (lowered names frame) es

-- the format of a text; none is empty
unfoldable pub format_in : List ℕ → List Part
format_in bytes = unwrap_or (format_of bytes) []

-- parts, and those that follow
abbrev pub with_parts : List Part → Option (List Part) → Option (List Part)
with_parts parts rest = option_map (λ more. parts ++ more) rest

-- what parts and what is begun make of the bytes that follow
abbrev pub going_on : List Part → Option Begun → List ℕ → Option (List Part)
going_on parts None bytes = None
going_on parts (Some begun) bytes = with_parts parts (parts_from (begun_of begun) bytes)
