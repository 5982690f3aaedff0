-- The places of the locals of statements, as code collects them.
use Rattle.std.specs.Prelude.{List, [], ◌∷◌, ◌++◌, Option, Some, None}
use Rattle.word_ops.specs.declared.place.Pos.{Pos}
use Rattle.cilk_ast.specs.declared.tree.TStmt.{TStmt}
use Rattle.cilk_model.specs.Locals.{locals_of}

unfoldable pub places_in : TStmt → List Pos
places_in s = locals_of s

abbrev pub places_in_part : Option TStmt → List Pos
places_in_part None = []
places_in_part (Some s) = places_in s

abbrev pub all_places : List TStmt → List Pos
all_places [] = []
all_places (s ∷ rest) = locals_of s ++ all_places rest

unfoldable pub places_in_list : List TStmt → List Pos
places_in_list body = all_places body
