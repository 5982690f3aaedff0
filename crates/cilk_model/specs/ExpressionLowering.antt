-- What expressions are in a program.
use Rattle.std.specs.Prelude.{ℕ, ◌==◌, List, [], ◌∷◌, Option, Some, None, unwrap_or, ℤ, pos}
use Rattle.std.specs.List.{position_or_len}
use Rattle.word_ops.specs.declared.place.Pos.{Pos}
use Rattle.word_ops.specs.declared.operators.BinaryOp.TheVariants as by
use Rattle.mem_atomics.specs.declared.op.Op.TheVariants as op
use Rattle.cilk_ast.specs.declared.builtin.Builtin.{Builtin}
use Rattle.cilk_ast.specs.declared.builtin.Builtin.TheVariants as built
use Rattle.cilk_ast.specs.declared.program.Expr as code
use Rattle.cilk_ast.specs.declared.program.Expr.{Expr, Word, Slot, Fence, Where}
use Rattle.cilk_ast.specs.declared.tree.TExpr.{TExpr, Number, Var, Call', Builtin', Print', Row_of-TExpr as Args, end_of-TExpr as no_args, more_of-TExpr as more_args}
use Rattle.cilk_ast.specs.TreeExpression.{Paren, Un, Deref, Cast, Index, Bin, Both, Either, InitAt}
use Rattle.cilk_model.specs.Formats.{format_of}
use Rattle.cilk_model.specs.Scopes.{Entity, local, global, function, Names}
use Rattle.cilk_model.specs.Copies.{Frame}

-- The slot of a local, by its number.
abbrev pub slot_in : Frame → ℕ → ℕ
slot_in frame number = position_or_len (λ other. other == number) frame

-- The address of a global.
abbrev pub address_of : Option Entity → ℤ
address_of None = pos 0
address_of (Some (local _)) = pos 0
address_of (Some (global g)) = g.address
address_of (Some (function _)) = pos 0

-- Which function a name calls.
abbrev pub index_of : Option Entity → ℕ
index_of None = 0
index_of (Some (local _)) = 0
index_of (Some (global _)) = 0
index_of (Some (function f)) = f.index

-- What a built-in is on its arguments. Four allocate. With another number of arguments than it takes, which no
-- text without a fault has, any built-in stands as it is.
abbrev pub built_in : Pos → Builtin → List Expr → Expr
built_in at built.RemoteAdd (p ∷ v ∷ []) = code.Post at op.Add p v
built_in at built.RemoteAnd (p ∷ v ∷ []) = code.Post at op.And p v
built_in at built.RemoteOr (p ∷ v ∷ []) = code.Post at op.Or p v
built_in at built.RemoteXor (p ∷ v ∷ []) = code.Post at op.Xor p v
built_in at built.RemoteMin (p ∷ v ∷ []) = code.Post at op.Min p v
built_in at built.RemoteMax (p ∷ v ∷ []) = code.Post at op.Max p v
built_in at built.AtomicAddms (p ∷ v ∷ []) = code.Add at p v
built_in at built.AtomicSwap (p ∷ v ∷ []) = code.Swap at p v
built_in at built.AtomicCas (p ∷ expected ∷ v ∷ []) = code.Cas at p expected v
built_in at built.MwReplicatedInit (p ∷ v ∷ []) = code.Init at p v
built_in at built.Fence [] = Fence
built_in at built.Migrate (p ∷ []) = code.Move at p
built_in at built.NodeId [] = Where
built_in at built.MwMalloc1dlong args = code.Alloc at built.MwMalloc1dlong args
built_in at built.MwMalloc2dlong args = code.Alloc at built.MwMalloc2dlong args
built_in at built.MwLocalmalloc args = code.Alloc at built.MwLocalmalloc args
built_in at built.MwMallocrepl args = code.Alloc at built.MwMallocrepl args
built_in at built.MwReplicatedInit args = code.Alloc at built.MwReplicatedInit args
built_in at built.RemoteAdd args = code.Alloc at built.RemoteAdd args
built_in at built.RemoteAnd args = code.Alloc at built.RemoteAnd args
built_in at built.RemoteOr args = code.Alloc at built.RemoteOr args
built_in at built.RemoteXor args = code.Alloc at built.RemoteXor args
built_in at built.RemoteMin args = code.Alloc at built.RemoteMin args
built_in at built.RemoteMax args = code.Alloc at built.RemoteMax args
built_in at built.AtomicAddms args = code.Alloc at built.AtomicAddms args
built_in at built.AtomicSwap args = code.Alloc at built.AtomicSwap args
built_in at built.AtomicCas args = code.Alloc at built.AtomicCas args
built_in at built.Fence args = code.Alloc at built.Fence args
built_in at built.Migrate args = code.Alloc at built.Migrate args
built_in at built.NodeId args = code.Alloc at built.NodeId args

-- The word of a variable.
abbrev pub variable : Frame → Pos → Option Entity → Expr
variable frame at None = code.Load at (Word (address_of None))
variable frame at (Some (local l)) = Slot (slot_in frame l.number)
variable frame at (Some (global g)) = code.Load at (Word (address_of (Some (global g))))
variable frame at (Some (function f)) = code.Load at (Word (address_of (Some (function f))))

module _ (names : Names) (frame : Frame) where
  -- An expression in a function with this frame.
  abbrev mutual
    pub expression : TExpr → Expr
    expression (Number at value) = Word value
    expression (Var at name) = variable frame at (names name)
    expression (Paren at inner) = expression inner
    expression (Un at op inner) = code.Un at op (expression inner)
    expression (Deref at inner) = code.Load at (expression inner)
    expression (Cast at kind inner) = expression inner
    expression (Index at base index) = code.Load at (code.Bin at by.Add (expression base) (expression index))
    expression (Bin at op left right) = code.Bin at op (expression left) (expression right)
    expression (Both at left right) = code.Both at (expression left) (expression right)
    expression (Either at left right) = code.Either at (expression left) (expression right)
    expression (Call' at name n args) = code.Call at (index_of (names name)) (arguments args)
    expression (Builtin' at which n args) = built_in at which (arguments args)
    expression (Print' at text_at format n args) = code.Print (unwrap_or (format_of format) []) (arguments args)
    expression (InitAt at name_at name value) = code.Init at (Word (address_of (names name))) (expression value)

    pub arguments : {n : _} → Args n → List Expr
    arguments no_args = []
    arguments (more_args arg rest) = expression arg ∷ arguments rest

  -- A hint, if there is one.
  abbrev pub hint : Option TExpr → Option Expr
  hint None = None
  hint (Some e) = Some (expression e)
