-- The code of an expression.
use Rattle.std.specs.Prelude.{List, [], ◌∷◌}
use Rattle.cilk_ast.specs.declared.builtin.Builtin.{Builtin}
use Rattle.cilk_ast.specs.declared.builtin.Builtin.TheVariants as built
use Rattle.cilk_ast.specs.declared.program.Expr.{Expr, Word, Slot, Call', Fence, Where, Print', Alloc', Row_of-Expr as Args, end_of-Expr as no_args, more_of-Expr as more_args}
use Rattle.cilk_ast.specs.Expression.{Un, Bin, Both, Either, Load, Post, Add, Swap, Cas, Init, Move}
use Rattle.threadlet_code.specs.declared.instr.AllocCode.{AllocCode}
use Rattle.threadlet_code.specs.declared.instr.AllocCode.TheVariants as kind
use Rattle.threadlet_code.specs.declared.instr.Instr.TheVariants as by
use Rattle.codegen_expr.specs.Piece.{Piece, line, placeless, zero_line, operation, printing, both, either}

-- What an allocating word asks for. Programs keep that the word is one of these four.
abbrev pub kind_of : Builtin → AllocCode
kind_of built.MwMalloc2dlong = kind.Blocked
kind_of built.MwLocalmalloc = kind.Local
kind_of built.MwMallocrepl = kind.Replicated
kind_of _ = kind.Striped

abbrev mutual
  -- The code of an expression: that of its parts in the order in which they are evaluated, and then its own
  -- instruction, and 0 where that leaves no word.
  pub emitted : Expr → Piece
  emitted (Word word) = operation [] (placeless (by.Push word) ∷ [])
  emitted (Slot slot) = operation [] (placeless (by.Get slot) ∷ [])
  emitted (Un at op inner) = operation (emitted inner ∷ []) (line at (by.Un op) ∷ [])
  emitted (Bin at op left right) = operation (emitted left ∷ emitted right ∷ []) (line at (by.Bin op) ∷ [])
  emitted (Both at left right) = both at (emitted left) (emitted right)
  emitted (Either at left right) = either at (emitted left) (emitted right)
  emitted (Load at address) = operation (emitted address ∷ []) (line at by.Load ∷ [])
  emitted (Call' at function n args) = operation (emitted_all args) (line at (by.Call function) ∷ [])
  emitted (Post at op address word) = operation (emitted address ∷ emitted word ∷ []) (line at (by.Post op) ∷ zero_line ∷ [])
  emitted (Add at address word) = operation (emitted address ∷ emitted word ∷ []) (line at by.FetchAdd ∷ [])
  emitted (Swap at address word) = operation (emitted address ∷ emitted word ∷ []) (line at by.FetchSwap ∷ [])
  emitted (Cas at address expected word) =
      operation (emitted address ∷ emitted expected ∷ emitted word ∷ []) (line at by.FetchCas ∷ [])
  emitted (Init at address word) = operation (emitted address ∷ emitted word ∷ []) (line at by.Init ∷ zero_line ∷ [])
  emitted Fence = operation [] (placeless by.Fence ∷ zero_line ∷ [])
  emitted (Move at address) = operation (emitted address ∷ []) (line at by.Move ∷ zero_line ∷ [])
  emitted Where = operation [] (placeless by.Where ∷ [])
  emitted (Print' format n args) = printing format (emitted_all args)
  emitted (Alloc' at which n args) = operation (emitted_all args) (line at (by.Alloc (kind_of which)) ∷ [])

  -- The code of each argument.
  pub emitted_all : {n : _} → Args n → List Piece
  emitted_all no_args = []
  emitted_all (more_args arg rest) = emitted arg ∷ emitted_all rest

-- The same for arguments in a list.
abbrev pub emitted_each : List Expr → List Piece
emitted_each [] = []
emitted_each (arg ∷ rest) = emitted arg ∷ emitted_each rest
