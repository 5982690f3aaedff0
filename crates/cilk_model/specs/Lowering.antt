-- The program that a tree is.
use Rattle.std.specs.Prelude.{ℕ, suc, ◌+◌, Bool, true, false, if◌then◌else◌, List, [], ◌∷◌, ◌++◌, length, map, flat_map}
use Rattle.word_ops.specs.declared.place.Pos.{Pos}
use Rattle.word_ops.specs.Report.{below}
use Rattle.cilk_ast.specs.declared.program.Stmt as code
use Rattle.cilk_ast.specs.declared.program.Stmt.{Stmt}
use Rattle.cilk_ast.specs.declared.program.Function.{Function}
use Rattle.cilk_ast.specs.declared.tree.Param.{Param}
use Rattle.cilk_ast.specs.declared.tree.Tree.{Tree}
use Rattle.cilk_ast.specs.declared.tree.Item.{Item}
use Rattle.cilk_ast.specs.declared.tree.Item.TheVariants as item
use Rattle.cilk_ast.specs.declared.tree.TStmt.{TStmt, Block'}
use Rattle.cilk_model.specs.Scopes.{Names, Scopes}
use Rattle.cilk_model.specs.Locals.{after_params}
use Rattle.cilk_model.specs.Copies.{Frame}
use Rattle.cilk_model.specs.StatementLowering.{framed, framed_all, bodies_of, statement, statements, function_of, outlines, outlines_all}
use Rattle.cilk_model.specs.Breaks.{Entry, entries_from, known_at, is_main, at_head, functions_of}

-- The parts of a program: its functions, the bodies of `cilk_for` behind those that are written; which of them
-- is main; and how many plain and replicated globals it has.
pub record Parts : Type 0 where
  pub functions : List Function
  pub main : ℕ
  pub globals : ℕ
  pub replicated : ℕ

-- A written function, and the functions that its bodies of `cilk_for` become.
pub record Lowered : Type 0 where
  pub function : Function
  pub bodies : List Function

-- The outermost block of a function, which has no scope of its own.
abbrev pub body_statement : TStmt → Scopes → Frame → ℕ → Stmt
body_statement (Block' n body) scopes frame next = code.Block (statements body scopes frame next)
body_statement s scopes frame next = statement s scopes frame next

abbrev pub body_framed : TStmt → Scopes → Frame
body_framed (Block' n body) scopes = framed_all body scopes
body_framed s scopes = framed s scopes

abbrev pub body_outlines : List ℕ → TStmt → Scopes → Frame → ℕ → List Function
body_outlines name (Block' n body) scopes frame next = outlines_all name body scopes frame next
body_outlines name s scopes frame next = outlines name s scopes frame next

-- A function in a file that knows these names. Its slots are its parameters, then its locals. The number is the
-- index of the function that its next body of `cilk_for` becomes.
abbrev pub lowered : Names → List ℕ → List Param → TStmt → ℕ → Lowered
lowered file name params body next =
    let scopes = after_params params (at_head file) in
    let frame = below (length params) in
    record {
      function = function_of name (length params) (length (frame ++ body_framed body scopes)) (body_statement body scopes frame next);
      bodies = body_outlines name body scopes frame next;
    }

-- The functions of items behind so many others.
abbrev pub lowered_from : List Entry → ℕ → ℕ → List Item → List Lowered
lowered_from entries k next [] = []
lowered_from entries k next (item.Global at name kind replicated ∷ items) = lowered_from entries (suc k) next items
lowered_from entries k next (item.Function at result name_at name params body ∷ items) =
    lowered (known_at entries k) name params body next ∷ lowered_from entries (suc k) (next + bodies_of body) items

-- Which function main is, and how many there are if none is.
abbrev pub main_of : List (Pos × List ℕ) → ℕ
main_of [] = 0
main_of (f ∷ functions) = if is_main f.1 then 0 else suc (main_of functions)

-- How many globals there are, plain or replicated ones.
abbrev pub globals_of : Bool → List Item → ℕ
globals_of wanted [] = 0
globals_of true (item.Global at name kind true ∷ items) = suc (globals_of true items)
globals_of false (item.Global at name kind false ∷ items) = suc (globals_of false items)
globals_of wanted (other ∷ items) = globals_of wanted items

-- The parts of the program that a tree is.
abbrev pub lower : Tree → Parts
lower tree =
    let functions = lowered_from (entries_from 0 0 0 tree.items) 0 (length (functions_of tree.items)) tree.items in
    record {
      functions = map (λ f. f.function) functions ++ flat_map (λ f. f.bodies) functions;
      main = main_of (functions_of tree.items);
      globals = globals_of false tree.items;
      replicated = globals_of true tree.items;
    }
