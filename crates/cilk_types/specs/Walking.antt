-- What code finds in statements.
use Rattle.std.specs.Prelude.{Bool, List, [], ◌∷◌, ◌++◌, Option, Some, None}
use Rattle.cilk_ast.specs.declared.fault.TextFault.{TextFault}
use Rattle.cilk_ast.specs.declared.kind.Kind.{Kind}
use Rattle.cilk_ast.specs.declared.tree.TStmt.{TStmt}
use Rattle.cilk_model.specs.FirstFault.{first_fault}
use Rattle.cilk_model.specs.Scopes.{Scopes}
use Rattle.cilk_model.specs.Locals.{after}
use Rattle.cilk_model.specs.StatementBreaks.{faults_in}

-- the first fault in a statement, and what is known behind it
unfoldable pub fault_in : Kind → TStmt → Scopes → Bool → Option TextFault
fault_in gives s scopes inside = first_fault (faults_in gives s scopes inside)

unfoldable pub left_by : TStmt → Scopes → Scopes
left_by s scopes = after s scopes

-- the same of a part that may be missing
abbrev pub fault_in_part : Kind → Option TStmt → Scopes → Bool → Option TextFault
fault_in_part gives None scopes inside = None
fault_in_part gives (Some s) scopes inside = fault_in gives s scopes inside

abbrev pub left_by_part : Option TStmt → Scopes → Scopes
left_by_part None scopes = scopes
left_by_part (Some s) scopes = left_by s scopes

-- the same of statements in a list
abbrev pub faults_in_list : Kind → List TStmt → Scopes → Bool → List TextFault
faults_in_list gives [] scopes inside = []
faults_in_list gives (s ∷ rest) scopes inside = faults_in gives s scopes inside ++ faults_in_list gives rest (after s scopes) inside

abbrev pub after_list : List TStmt → Scopes → Scopes
after_list [] scopes = scopes
after_list (s ∷ rest) scopes = after_list rest (after s scopes)

unfoldable pub fault_in_list : Kind → List TStmt → Scopes → Bool → Option TextFault
fault_in_list gives body scopes inside = first_fault (faults_in_list gives body scopes inside)

unfoldable pub left_by_list : List TStmt → Scopes → Scopes
left_by_list body scopes = after_list body scopes
