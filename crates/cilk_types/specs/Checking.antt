-- What code finds in items and in a file.
use Rattle.std.specs.Prelude.{ℕ, List, map, Option}
use Rattle.cilk_ast.specs.declared.fault.TextFault.{TextFault}
use Rattle.cilk_ast.specs.declared.kind.Kind.{Kind}
use Rattle.cilk_ast.specs.declared.tree.Param.{Param}
use Rattle.cilk_ast.specs.declared.tree.TStmt.{TStmt}
use Rattle.cilk_ast.specs.declared.tree.Item.{Item}
use Rattle.cilk_model.specs.FirstFault.{earlier, first_fault}
use Rattle.cilk_model.specs.Scopes.{Names}
use Rattle.cilk_model.specs.Locals.{locals_of, after_params}
use Rattle.cilk_model.specs.StatementBreaks.{faults_in_body}
use Rattle.cilk_model.specs.Breaks.{Entry, at_head, param_faults, too_many, max_params, max_locals, item_faults, faults_from}

-- the first fault in a function, its head left out
unfoldable pub function_found : Names → Kind → List Param → TStmt → Option TextFault
function_found file gives params body =
    earlier
    (earlier
    (earlier (first_fault (param_faults params (at_head file))) (first_fault (too_many max_params (map (λ p. p.pos) params))))
    (first_fault (faults_in_body gives body (after_params params (at_head file)))))
    (first_fault (too_many max_locals (locals_of body)))

-- the first fault in an item
unfoldable pub item_found : Names → Item → Option TextFault
item_found file i = first_fault (item_faults file i)

-- the first fault in items behind so many others
unfoldable pub found_from : List Entry → ℕ → List Item → Option TextFault
found_from entries k items = first_fault (faults_from entries k items)
