-- Which statements of a program spawn.
use Rattle.std.specs.Prelude.{Bool, false, ◌||◌, List, [], ◌∷◌}
use Rattle.cilk_ast.specs.Kept.{has_spawn}
use Rattle.cilk_ast.specs.declared.program.Stmt.{Stmt}

unfoldable pub spawns_in : Stmt → Bool
spawns_in s = has_spawn s

abbrev pub some_spawn : List Stmt → Bool
some_spawn [] = false
some_spawn (s ∷ rest) = spawns_in s || some_spawn rest

unfoldable pub spawns_in_list : List Stmt → Bool
spawns_in_list body = some_spawn body
