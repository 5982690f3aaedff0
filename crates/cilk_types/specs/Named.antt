-- The locals that expressions and statements name, as code collects them.
use Rattle.std.specs.Prelude.{ℕ, List, [], ◌∷◌, ◌++◌, Option, Some, None}
use Rattle.cilk_ast.specs.declared.tree.TSpawn.{TSpawn}
use Rattle.cilk_ast.specs.declared.tree.TValue.{TValue}
use Rattle.cilk_ast.specs.declared.tree.TValue.TheVariants.{Plain, Spawned}
use Rattle.cilk_ast.specs.declared.tree.TExpr.{TExpr}
use Rattle.cilk_ast.specs.declared.tree.TStmt.{TStmt}
use Rattle.cilk_model.specs.Copies.{named_by, named_by_list, named_in}
use Rattle.cilk_model.specs.Locals.{after}
use Rattle.cilk_model.specs.Scopes.{Names, Scopes}

-- those of an expression, of expressions in a list, and of one that may be missing
unfoldable pub named_of : Names → TExpr → List ℕ
named_of names e = named_by names e

unfoldable pub named_of_list : Names → List TExpr → List ℕ
named_of_list names es = named_by_list names es

abbrev pub named_of_option : Names → Option TExpr → List ℕ
named_of_option names None = []
named_of_option names (Some e) = named_of names e

-- of a spawn, of a value, and of one that may be missing
abbrev pub named_of_spawn : Names → TSpawn → List ℕ
named_of_spawn names spawn = named_of_option names spawn.hint ++ named_of_list names spawn.args

abbrev pub named_of_value : Names → TValue → List ℕ
named_of_value names (Plain e) = named_of names e
named_of_value names (Spawned spawn) = named_of_spawn names spawn

abbrev pub named_of_initial : Names → Option TValue → List ℕ
named_of_initial names None = []
named_of_initial names (Some value) = named_of_value names value

-- of a statement, of a part that may be missing, and of statements one after the other
unfoldable pub named_within : TStmt → Scopes → List ℕ
named_within s scopes = named_in s scopes

abbrev pub named_within_part : Option TStmt → Scopes → List ℕ
named_within_part None scopes = []
named_within_part (Some s) scopes = named_within s scopes

abbrev pub named_in_list : List TStmt → Scopes → List ℕ
named_in_list [] scopes = []
named_in_list (s ∷ rest) scopes = named_in s scopes ++ named_in_list rest (after s scopes)

unfoldable pub named_within_list : List TStmt → Scopes → List ℕ
named_within_list body scopes = named_in_list body scopes
