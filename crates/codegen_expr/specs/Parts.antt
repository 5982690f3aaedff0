-- An expression's parts, and what it does with their values.
use Rattle.std.specs.Prelude.{ℕ, Bool, true, false, List, [], ◌∷◌}
use Rattle.word_ops.specs.declared.format.Part.{Part}
use Rattle.cilk_ast.specs.declared.program.Expr.{Expr, Word, Slot, Call', Fence, Where, Print', Alloc'}
use Rattle.cilk_ast.specs.Expression.{Un, Bin, Both, Either, Load, Post, Add, Swap, Cas, Init, Move, listed}
use Rattle.threadlet_code.specs.declared.instr.Instr.TheVariants as by
use Rattle.codegen_expr.specs.Piece.{Line, line, placeless, zero_line}
use Rattle.codegen_expr.specs.Emitted.{kind_of}

-- The parts of an expression, in the order in which they are evaluated.
unfoldable pub parts_of : Expr → List Expr
parts_of (Un at op inner) = inner ∷ []
parts_of (Bin at op left right) = left ∷ right ∷ []
parts_of (Both at left right) = left ∷ right ∷ []
parts_of (Either at left right) = left ∷ right ∷ []
parts_of (Load at address) = address ∷ []
parts_of (Call' at function n args) = listed args
parts_of (Post at op address word) = address ∷ word ∷ []
parts_of (Add at address word) = address ∷ word ∷ []
parts_of (Swap at address word) = address ∷ word ∷ []
parts_of (Cas at address expected word) = address ∷ expected ∷ word ∷ []
parts_of (Init at address word) = address ∷ word ∷ []
parts_of (Move at address) = address ∷ []
parts_of (Print' format n args) = listed args
parts_of (Alloc' at which n args) = listed args
parts_of _ = []

-- Its second part may be left out.
unfoldable pub is_choice : Expr → Bool
is_choice (Both at left right) = true
is_choice (Either at left right) = true
is_choice _ = false

-- The formats that it prints itself.
unfoldable pub own_formats : Expr → List (List Part)
own_formats (Print' format n args) = format ∷ []
own_formats _ = []

-- The lines of one that is no choice, behind those of its parts; its own format has a number.
unfoldable pub own_lines : ℕ → Expr → List Line
own_lines number (Word word) = placeless (by.Push word) ∷ []
own_lines number (Slot slot) = placeless (by.Get slot) ∷ []
own_lines number (Un at op inner) = line at (by.Un op) ∷ []
own_lines number (Bin at op left right) = line at (by.Bin op) ∷ []
own_lines number (Load at address) = line at by.Load ∷ []
own_lines number (Call' at function n args) = line at (by.Call function) ∷ []
own_lines number (Post at op address word) = line at (by.Post op) ∷ zero_line ∷ []
own_lines number (Add at address word) = line at by.FetchAdd ∷ []
own_lines number (Swap at address word) = line at by.FetchSwap ∷ []
own_lines number (Cas at address expected word) = line at by.FetchCas ∷ []
own_lines number (Init at address word) = line at by.Init ∷ zero_line ∷ []
own_lines number Fence = placeless by.Fence ∷ zero_line ∷ []
own_lines number (Move at address) = line at by.Move ∷ zero_line ∷ []
own_lines number Where = placeless by.Where ∷ []
own_lines number (Print' format n args) = placeless (by.Print number) ∷ zero_line ∷ []
own_lines number (Alloc' at which n args) = line at (by.Alloc (kind_of which)) ∷ []
own_lines number _ = []

-- How many lines it has besides those of its parts.
unfoldable pub own_size : Expr → ℕ
own_size (Both at left right) = 5
own_size (Either at left right) = 7
own_size (Post at op address word) = 2
own_size (Init at address word) = 2
own_size Fence = 2
own_size (Move at address) = 2
own_size (Print' format n args) = 2
own_size _ = 1
