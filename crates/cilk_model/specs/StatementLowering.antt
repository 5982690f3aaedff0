-- What statements are in a program, and the functions that the bodies of `cilk_for` become.
use Rattle.std.specs.Prelude.{ℕ, suc, ◌+◌, List, [], ◌∷◌, ◌++◌, length, map, Option, Some, None, pos, negsuc}
use Rattle.word_ops.specs.declared.place.Pos.{Pos}
use Rattle.word_ops.specs.declared.operators.BinaryOp.TheVariants as by
use Rattle.cilk_ast.specs.declared.program.Expr as code_expr
use Rattle.cilk_ast.specs.declared.program.Expr.{Expr, Word, Slot}
use Rattle.cilk_ast.specs.declared.program.Stmt as code
use Rattle.cilk_ast.specs.declared.program.Stmt.{Stmt, Nothing}
use Rattle.cilk_ast.specs.declared.program.Function.{Function}
use Rattle.cilk_ast.specs.Kept.{has_spawn}
use Rattle.cilk_ast.specs.declared.tree.TSpawn.{TSpawn}
use Rattle.cilk_ast.specs.declared.tree.TValue.{TValue}
use Rattle.cilk_ast.specs.declared.tree.TValue.TheVariants.{Plain, Spawned}
use Rattle.cilk_ast.specs.declared.tree.TExpr.{TExpr, Var, Number, Call', Builtin', Print'}
use Rattle.cilk_ast.specs.TreeExpression.{Paren, Deref, Index, Un, Cast, Bin, Both, Either, InitAt}
use Rattle.cilk_ast.specs.declared.tree.TStmt.{TStmt, Empty, Block', Local, Eval, Assign, AddTo, Up, Down, Spawn, Break, Continue, Return, Sync, Held-TStmt-If-2, None', Row_of-TStmt as Stmts, end_of-TStmt as no_stmts, more_of-TStmt as more_stmts}
use Rattle.cilk_ast.specs.TreeStatement.{If, While, For, CilkFor, Present}
use Rattle.cilk_model.specs.Scopes.{Entity, local, Names, Scopes, names_in, opened, global, function}
use Rattle.cilk_model.specs.Locals.{in_body, after, after_part}
use Rattle.cilk_model.specs.Sorts.{begins_at}
use Rattle.cilk_model.specs.Copies.{Frame, named_in, copies_of}
use Rattle.cilk_model.specs.ExpressionLowering.{slot_in, address_of, index_of, expression, hint}

-- ---- frames and bodies

-- The locals that get a slot of their own in a statement, in the order of their slots: those outside of its
-- bodies of `cilk_for`.
abbrev mutual
  pub framed : TStmt → Scopes → Frame
  framed Empty scopes = []
  framed (Block' n body) scopes = framed_all body (opened scopes)
  framed (Local at kind name value) scopes = scopes.count ∷ []
  framed (Eval _) scopes = []
  framed (Assign _ _ _) scopes = []
  framed (AddTo _ _ _) scopes = []
  framed (Up _) scopes = []
  framed (Down _) scopes = []
  framed (Spawn _) scopes = []
  framed (If test yes_ no_) scopes = framed yes_ scopes ++ framed_part no_ (after yes_ scopes)
  framed (While test body) scopes = framed body scopes
  framed (For init test step body) scopes =
      let begun = after_part init (opened scopes) in
      framed_part init (opened scopes) ++ framed_part step begun ++ framed body (after_part step begun)
  framed (CilkFor at name low second high third body) scopes = []
  framed (Break _) scopes = []
  framed (Continue _) scopes = []
  framed (Return _ _) scopes = []
  framed Sync scopes = []

  pub framed_part : Held-TStmt-If-2 → Scopes → Frame
  framed_part None' scopes = []
  framed_part (Present s) scopes = framed s scopes

  pub framed_all : {n : _} → Stmts n → Scopes → Frame
  framed_all no_stmts scopes = []
  framed_all (more_stmts first rest) scopes = framed first scopes ++ framed_all rest (after first scopes)

-- How many bodies of `cilk_for` a statement has.
abbrev mutual
  pub bodies_of : TStmt → ℕ
  bodies_of Empty = 0
  bodies_of (Block' n body) = bodies_of_all body
  bodies_of (Local _ _ _ _) = 0
  bodies_of (Eval _) = 0
  bodies_of (Assign _ _ _) = 0
  bodies_of (AddTo _ _ _) = 0
  bodies_of (Up _) = 0
  bodies_of (Down _) = 0
  bodies_of (Spawn _) = 0
  bodies_of (If test yes_ no_) = bodies_of yes_ + bodies_of_part no_
  bodies_of (While test body) = bodies_of body
  bodies_of (For init test step body) = bodies_of_part init + bodies_of_part step + bodies_of body
  bodies_of (CilkFor at name low second high third body) = suc (bodies_of body)
  bodies_of (Break _) = 0
  bodies_of (Continue _) = 0
  bodies_of (Return _ _) = 0
  bodies_of Sync = 0

  pub bodies_of_part : Held-TStmt-If-2 → ℕ
  bodies_of_part None' = 0
  bodies_of_part (Present s) = bodies_of s

  pub bodies_of_all : {n : _} → Stmts n → ℕ
  bodies_of_all no_stmts = 0
  bodies_of_all (more_stmts first rest) = bodies_of first + bodies_of_all rest

-- ---- left sides

-- What a left side is: a slot, or the word at an address, which is stored to at a place in the text.
pub data Side : Type 0 where
  slot : ℕ → Side
  cell : Pos → Expr → Side

module _ (names : Names) (frame : Frame) where
  abbrev pub variable_side : Pos → Option Entity → Side
  variable_side at None = cell at (Word (address_of None))
  variable_side at (Some (local l)) = slot (slot_in frame l.number)
  variable_side at (Some (global g)) = cell at (Word (address_of (Some (global g))))
  variable_side at (Some (function f)) = cell at (Word (address_of (Some (function f))))

  -- A left side that is no place. No text without a fault has one.
  abbrev pub no_place : TExpr → Side
  no_place e = cell (begins_at e) (expression names frame e)

  abbrev pub side : TExpr → Side
  side (Number at value) = no_place (Number at value)
  side (Var at name) = variable_side at (names name)
  side (Paren at inner) = side inner
  side (Un at op inner) = no_place (Un at op inner)
  side (Deref at inner) = cell at (expression names frame inner)
  side (Cast at kind inner) = no_place (Cast at kind inner)
  side (Index at base index) = cell at (code_expr.Bin at by.Add (expression names frame base) (expression names frame index))
  side (Bin at op left right) = no_place (Bin at op left right)
  side (Both at left right) = no_place (Both at left right)
  side (Either at left right) = no_place (Either at left right)
  side (Call' at name n args) = no_place (Call' at name n args)
  side (Builtin' at which n args) = no_place (Builtin' at which n args)
  side (Print' at text_at format n args) = no_place (Print' at text_at format n args)
  side (InitAt at name_at name value) = no_place (InitAt at name_at name value)

  -- A spawn for a target.
  abbrev pub spawn_to : Option ℕ → TSpawn → Stmt
  spawn_to target spawn =
      code.Spawn spawn.pos target (index_of (names spawn.name)) (hint names frame spawn.hint) (map (expression names frame) spawn.args)

-- The slot of a side, if it is one.
abbrev pub target_of : Side → Option ℕ
target_of (slot number) = Some number
target_of (cell at address) = None

-- A word put into a side.
abbrev pub put : Side → Expr → Stmt
put (slot number) value = code.Set number value
put (cell at address) value = code.Store at address value

-- A word added to a side. The place is that of a sum in a slot.
abbrev pub added : Pos → Side → Expr → Stmt
added at (slot number) value = code.Set number (code_expr.Bin at by.Add (Slot number) value)
added at (cell cell_at address) value = code.AddTo cell_at address value

module _ (names : Names) (frame : Frame) where
  -- `left = value`.
  abbrev pub assigned : Side → TValue → Stmt
  assigned left (Plain e) = put left (expression names frame e)
  assigned left (Spawned spawn) = spawn_to names frame (target_of left) spawn

  -- A declaration with the slot of its local: 0, if there is no value, and before the result of a child comes.
  abbrev pub initial : ℕ → Option TValue → Stmt
  initial number None = code.Set number (Word (pos 0))
  initial number (Some (Plain e)) = code.Set number (expression names frame e)
  initial number (Some (Spawned spawn)) =
      code.Block (code.Set number (Word (pos 0)) ∷ spawn_to names frame (Some number) spawn ∷ [])

  -- What is returned: 0, if there is no value.
  abbrev pub returned : Option TExpr → Expr
  returned None = Word (pos 0)
  returned (Some e) = expression names frame e

  -- The test of a `for`: without one it goes on.
  abbrev pub tested : Option TExpr → Expr
  tested None = Word (pos 1)
  tested (Some e) = expression names frame e

-- ---- statements

-- The frame of a body of `cilk_for` with this variable: the variable, and the copies of the outer locals that the
-- body names.
abbrev pub body_frame : List ℕ → TStmt → Scopes → Frame → Frame
body_frame name body scopes frame = scopes.count ∷ copies_of frame (named_in body (in_body name scopes))

-- A statement at a place with these scopes, in a function with this frame so far. The number is the index of the
-- function that the next body of `cilk_for` becomes.
abbrev mutual
  pub statement : TStmt → Scopes → Frame → ℕ → Stmt
  statement Empty scopes frame next = Nothing
  statement (Block' n body) scopes frame next = code.Block (statements body (opened scopes) frame next)
  statement (Local at kind name value) scopes frame next = initial (names_in scopes) frame (length frame) value
  statement (Eval e) scopes frame next = code.Eval (expression (names_in scopes) frame e)
  statement (Assign at left value) scopes frame next = assigned (names_in scopes) frame (side (names_in scopes) frame left) value
  statement (AddTo at left value) scopes frame next =
      added at (side (names_in scopes) frame left) (expression (names_in scopes) frame value)
  statement (Up left) scopes frame next = added (begins_at left) (side (names_in scopes) frame left) (Word (pos 1))
  statement (Down left) scopes frame next = added (begins_at left) (side (names_in scopes) frame left) (Word (negsuc 0))
  statement (Spawn spawn) scopes frame next = spawn_to (names_in scopes) frame None spawn
  statement (If test yes_ no_) scopes frame next =
      code.If (expression (names_in scopes) frame test) (statement yes_ scopes frame next)
      (statement_part no_ (after yes_ scopes) (frame ++ framed yes_ scopes) (next + bodies_of yes_))
  statement (While test body) scopes frame next =
      code.Loop (expression (names_in scopes) frame test) Nothing (statement body scopes frame next)
  statement (For init test step body) scopes frame next =
      let begun = after_part init (opened scopes) in
      let begun_frame = frame ++ framed_part init (opened scopes) in
      let begun_next = next + bodies_of_part init in
      code.Block (statement_part init (opened scopes) frame next
      ∷ code.Loop (tested (names_in begun) begun_frame test) (statement_part step begun begun_frame begun_next)
      (statement body (after_part step begun) (begun_frame ++ framed_part step begun) (begun_next + bodies_of_part step)) ∷ [])
  statement (CilkFor at name low second high third body) scopes frame next =
      code.Each at (expression (names_in scopes) frame low) (expression (names_in scopes) frame high) next
      (map (slot_in frame) (copies_of frame (named_in body (in_body name scopes))))
  statement (Break at) scopes frame next = code.Break
  statement (Continue at) scopes frame next = code.Continue
  statement (Return at value) scopes frame next = code.Return (returned (names_in scopes) frame value)
  statement Sync scopes frame next = code.Sync

  pub statement_part : Held-TStmt-If-2 → Scopes → Frame → ℕ → Stmt
  statement_part None' scopes frame next = Nothing
  statement_part (Present s) scopes frame next = statement s scopes frame next

  pub statements : {n : _} → Stmts n → Scopes → Frame → ℕ → List Stmt
  statements no_stmts scopes frame next = []
  statements (more_stmts first rest) scopes frame next =
      statement first scopes frame next
      ∷ statements rest (after first scopes) (frame ++ framed first scopes) (next + bodies_of first)

-- A function with so many parameters and slots and this body. It spawns where its body does.
abbrev pub function_of : List ℕ → ℕ → ℕ → Stmt → Function
function_of name params slots body = record { name = name; params = params; slots = slots; spawns = has_spawn body; body = body }

-- The functions that the bodies of `cilk_for` in a statement become, an outer one before those in it. Each has
-- the name of the function that it is written in.
module _ (name : List ℕ) where
  abbrev mutual
    pub outlines : TStmt → Scopes → Frame → ℕ → List Function
    outlines Empty scopes frame next = []
    outlines (Block' n body) scopes frame next = outlines_all body (opened scopes) frame next
    outlines (Local _ _ _ _) scopes frame next = []
    outlines (Eval _) scopes frame next = []
    outlines (Assign _ _ _) scopes frame next = []
    outlines (AddTo _ _ _) scopes frame next = []
    outlines (Up _) scopes frame next = []
    outlines (Down _) scopes frame next = []
    outlines (Spawn _) scopes frame next = []
    outlines (If test yes_ no_) scopes frame next =
        outlines yes_ scopes frame next
        ++ outlines_part no_ (after yes_ scopes) (frame ++ framed yes_ scopes) (next + bodies_of yes_)
    outlines (While test body) scopes frame next = outlines body scopes frame next
    outlines (For init test step body) scopes frame next =
        let begun = after_part init (opened scopes) in
        let begun_frame = frame ++ framed_part init (opened scopes) in
        let begun_next = next + bodies_of_part init in
        outlines_part init (opened scopes) frame next ++ outlines_part step begun begun_frame begun_next
        ++ outlines body (after_part step begun) (begun_frame ++ framed_part step begun) (begun_next + bodies_of_part step)
    outlines (CilkFor at variable low second high third body) scopes frame next =
        let inner = body_frame variable body scopes frame in
        function_of name (length inner) (length (inner ++ framed body (in_body variable scopes))) (statement body (in_body variable scopes) inner (suc next))
        ∷ outlines body (in_body variable scopes) inner (suc next)
    outlines (Break _) scopes frame next = []
    outlines (Continue _) scopes frame next = []
    outlines (Return _ _) scopes frame next = []
    outlines Sync scopes frame next = []

    pub outlines_part : Held-TStmt-If-2 → Scopes → Frame → ℕ → List Function
    outlines_part None' scopes frame next = []
    outlines_part (Present s) scopes frame next = outlines s scopes frame next

    pub outlines_all : {n : _} → Stmts n → Scopes → Frame → ℕ → List Function
    outlines_all no_stmts scopes frame next = []
    outlines_all (more_stmts first rest) scopes frame next =
        outlines first scopes frame next
        ++ outlines_all rest (after first scopes) (frame ++ framed first scopes) (next + bodies_of first)
