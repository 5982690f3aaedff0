-- Small trees to compute with.
use Rattle.std.proofs.Common.{ℕ, List, [], ◌∷◌, pos, codes, Some}
use Rattle.word_ops.specs.declared.place.Pos.{Pos}
use Rattle.cilk_ast.specs.declared.fault.FaultKind.{FaultKind}
use Rattle.cilk_ast.specs.declared.fault.TextFault.{TextFault}
use Rattle.cilk_ast.specs.declared.kind.Kind.TheVariants as sort
use Rattle.cilk_ast.specs.declared.tree.Tree.{Tree}
use Rattle.cilk_ast.specs.declared.tree.Item.TheVariants as item
use Rattle.cilk_ast.specs.declared.tree.TExpr.{TExpr, Number, Var}
use Rattle.cilk_ast.specs.declared.tree.TStmt as code
use Rattle.cilk_ast.specs.declared.tree.TStmt.{TStmt}
use Rattle.cilk_ast.specs.declared.tree.TValue.TheVariants.{Plain}

-- a place in the first line
abbrev pub at : ℕ → Pos
at column = record { line = 1; column = column }

-- a literal and a variable at a column
abbrev pub number : ℕ → ℕ → TExpr
number column n = Number (at column) (pos n)

abbrev pub variable : ℕ → List ℕ → TExpr
variable column name = Var (at column) name

-- a local with an initial value
abbrev pub local_of : ℕ → List ℕ → TExpr → TStmt
local_of column name value = code.Local (at column) sort.Long name (Some (Plain value))

-- `cilk_for (long NAME = 0; NAME < n; NAME++)`, with the columns of its three names and of its bounds
abbrev pub cilk_for : ℕ → ℕ → ℕ → List ℕ → TExpr → TExpr → TStmt → TStmt
cilk_for column second third name low high body = code.CilkFor (at column) name low (at second, name) high (at third, name) body

-- `int main() { .. }`, which ends at a column
abbrev pub main_file : ℕ → List TStmt → Tree
main_file column body =
    record { items = item.Function (at 1) sort.Int (at 5) (codes "main") [] (code.Block body) ∷ []; end = at column }

-- a fault in the first line
abbrev pub fault_at : ℕ → FaultKind → TextFault
fault_at column kind = record { pos = at column; kind = kind }
