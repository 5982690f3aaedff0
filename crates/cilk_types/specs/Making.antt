-- What code makes of statements, and how far it has come behind them.
use Rattle.std.specs.Prelude.{◌≡◌, ℕ, suc, ◌+◌, false, List, [], ◌∷◌, ◌++◌, length, map, slice_set, Option, Some, None}
use Rattle.word_ops.specs.declared.place.Pos.{Pos}
use Rattle.cilk_ast.specs.declared.kind.Kind.{Kind}
use Rattle.cilk_ast.specs.declared.program.Expr.{Expr}
use Rattle.cilk_ast.specs.declared.program.Function.{Function}
use Rattle.cilk_ast.specs.declared.program.Stmt as program
use Rattle.cilk_ast.specs.declared.program.Stmt.{Stmt, Nothing}
use Rattle.cilk_ast.specs.declared.tree.TSpawn.{TSpawn}
use Rattle.cilk_ast.specs.declared.tree.TValue.{TValue}
use Rattle.cilk_ast.specs.declared.tree.TExpr.{TExpr}
use Rattle.cilk_ast.specs.declared.tree.TStmt.{TStmt}
use Rattle.cilk_model.specs.Scopes.{Scopes, names_in, declared, opened, closed}
use Rattle.cilk_model.specs.Locals.{in_body, after}
use Rattle.cilk_model.specs.Copies.{named_in, copies_of}
use Rattle.cilk_model.specs.ExpressionLowering.{slot_in, index_of, expression, hint}
use Rattle.cilk_model.specs.StatementLowering as model
use Rattle.cilk_model.specs.StatementLowering.{Side, framed, bodies_of, side, assigned, initial, spawn_to, returned, tested, statement, function_of, outlines}
use Rattle.cilk_model.specs.Lowering.{body_statement, body_framed, body_outlines}
use Rattle.cilk_types.specs.declared.walk.Walk.{Walk}
use Rattle.cilk_types.specs.Shown.{scopes_of}

-- how far code has come in a function of this name: what is known, the locals with slots so far, the index of the
-- function that the next body of `cilk_for` becomes, and the functions that bodies have become
pub record Walked : Type 0 where
  pub name : List ℕ
  pub scopes : Scopes
  pub frame : List ℕ
  pub next : ℕ
  pub bodies : List Function

unfoldable pub walked_of : Walk → Walked
walked_of w = record { name = w.name.now; scopes = scopes_of w.scopes; frame = w.frame; next = w.next; bodies = w.bodies }

-- in a scope of its own, and behind it
unfoldable pub within : Walked → Walked
within w = record w { scopes = opened w.scopes }

unfoldable pub without : Walked → Walked
without w = record w { scopes = closed w.scopes }

-- ---- expressions

unfoldable pub word_at : Walked → TExpr → Expr
word_at w e = expression (names_in w.scopes) w.frame e

unfoldable pub words_at : Walked → List TExpr → List Expr
words_at w es = map (expression (names_in w.scopes) w.frame) es

unfoldable pub called_at : Walked → List ℕ → ℕ
called_at w name = index_of (names_in w.scopes name)

unfoldable pub hint_at : Walked → Option TExpr → Option Expr
hint_at w e = hint (names_in w.scopes) w.frame e

unfoldable pub tested_at : Walked → Option TExpr → Expr
tested_at w test = tested (names_in w.scopes) w.frame test

unfoldable pub returned_at : Walked → Option TExpr → Expr
returned_at w value = returned (names_in w.scopes) w.frame value

-- ---- left sides, values and spawns

unfoldable pub variable_at : Walked → Pos → List ℕ → Side
variable_at w at name = model.variable_side (names_in w.scopes) w.frame at (names_in w.scopes name)

unfoldable pub side_at : Walked → TExpr → Side
side_at w left = side (names_in w.scopes) w.frame left

unfoldable pub spawned_at : Walked → Option ℕ → TSpawn → Stmt
spawned_at w target spawn = spawn_to (names_in w.scopes) w.frame target spawn

unfoldable pub assigned_at : Walked → Side → TValue → Stmt
assigned_at w left value = assigned (names_in w.scopes) w.frame left value

unfoldable pub initial_at : Walked → ℕ → Option TValue → Stmt
initial_at w slot value = initial (names_in w.scopes) w.frame slot value

-- a local with this value, and behind its declaration
unfoldable pub local_at : Walked → Option TValue → Stmt
local_at w value = initial_at w (length w.frame) value

unfoldable pub declared_at : List ℕ → Kind → Walked → Walked
declared_at name kind w = record w { scopes = declared name kind w.scopes; frame = w.frame ++ w.scopes.count ∷ [] }

-- ---- statements

unfoldable pub made : TStmt → Walked → Stmt
made s w = statement s w.scopes w.frame w.next

unfoldable pub past : TStmt → Walked → Walked
past s w = record {
  name = w.name;
  scopes = after s w.scopes;
  frame = w.frame ++ framed s w.scopes;
  next = w.next + bodies_of s;
  bodies = w.bodies ++ outlines w.name s w.scopes w.frame w.next;
}

-- the same of a part that may be missing
abbrev pub part_made_of : Option TStmt → Walked → Stmt
part_made_of None w = Nothing
part_made_of (Some s) w = made s w

abbrev pub part_past_of : Option TStmt → Walked → Walked
part_past_of None w = w
part_past_of (Some s) w = past s w

unfoldable pub made_part : Option TStmt → Walked → Stmt
made_part part w = part_made_of part w

unfoldable pub past_part : Option TStmt → Walked → Walked
past_part part w = part_past_of part w

-- the same of statements in a list
abbrev pub all_made : List TStmt → Walked → List Stmt
all_made [] w = []
all_made (s ∷ rest) w = made s w ∷ all_made rest (past s w)

abbrev pub all_past : List TStmt → Walked → Walked
all_past [] w = w
all_past (s ∷ rest) w = all_past rest (past s w)

unfoldable pub made_list : List TStmt → Walked → List Stmt
made_list body w = all_made body w

unfoldable pub past_list : List TStmt → Walked → Walked
past_list body w = all_past body w

-- the same of the outermost block of a function, whose scope is already open
unfoldable pub whole_made : TStmt → Walked → Stmt
whole_made body w = body_statement body w.scopes w.frame w.next

pub record IsPast (body : TStmt) (w now : Walked) : Type 0 where
  pub name : now.name ≡ w.name
  pub frame : now.frame ≡ w.frame ++ body_framed body w.scopes
  pub next : now.next ≡ w.next + bodies_of body
  pub bodies : now.bodies ≡ w.bodies ++ body_outlines w.name body w.scopes w.frame w.next

-- ---- bodies of `cilk_for`

-- the copies of a body with this variable, and its `cilk_for`
unfoldable pub copies_at : Walked → List ℕ → TStmt → List ℕ
copies_at w variable body = copies_of w.frame (named_in body (in_body variable w.scopes))

unfoldable pub each_at : Walked → Pos → TExpr → TExpr → List ℕ → Stmt
each_at w at low high copies = program.Each at (word_at w low) (word_at w high) w.next (map (slot_in w.frame) copies)

-- a function in the place of one that is not known yet
abbrev pub spare : Function
spare = record { name = []; params = 0; slots = 0; spawns = false; body = Nothing }

-- in a body with this variable and these copies
unfoldable pub entered : List ℕ → List ℕ → Walked → Walked
entered variable copies w = record {
  name = w.name;
  scopes = in_body variable w.scopes;
  frame = w.scopes.count ∷ copies;
  next = suc w.next;
  bodies = w.bodies ++ spare ∷ [];
}

-- what code keeps of the function around a body: its frame, its level, the place of the body's function, and how
-- many parameters that has
unfoldable pub kept_of : ℕ → Walked → List ℕ × ℕ × ℕ × ℕ
kept_of params w = (w.frame, w.scopes.level, length w.bodies, params)

-- the name and the number of slots of a function whose body code has passed, and the function
unfoldable pub signature_of : Walked → List ℕ × ℕ
signature_of w = (w.name, length w.frame)

unfoldable pub function_at : Walked → ℕ → Stmt → Function
function_at w params body = function_of w.name params (length w.frame) body

-- back around a body with this function
unfoldable pub back : List ℕ × ℕ × ℕ × ℕ → Function → Walked → Walked
back (frame, level, place, params) function inner = record {
  name = inner.name;
  scopes = record (closed inner.scopes) { level = level };
  frame = frame;
  next = inner.next;
  bodies = slice_set inner.bodies place function;
}

-- behind a body
unfoldable pub leaving : List ℕ × ℕ × ℕ × ℕ → Stmt → Walked → Walked
leaving around body inner = back around (function_at inner around.3 body) inner

-- behind a body with this variable and these copies
unfoldable pub past_body : List ℕ → List ℕ → TStmt → Walked → Walked
past_body variable copies body w =
    let inner = entered variable copies w in
    leaving (kept_of (suc (length copies)) w) (made body inner) (past body inner)
