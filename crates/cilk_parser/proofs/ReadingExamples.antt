-- Some texts, read.
use Rattle.std.proofs.Common.{◌≡◌, ℕ, List, [], ◌∷◌, Ok, Err, Some, refl, codes, pos}
use Rattle.word_ops.specs.declared.place.Pos.{Pos}
use Rattle.cilk_ast.specs.declared.kind.Kind.TheVariants.{Int}
use Rattle.cilk_ast.specs.declared.tree.TExpr as tree
use Rattle.cilk_ast.specs.declared.tree.TStmt as stmt
use Rattle.cilk_ast.specs.declared.tree.Item.TheVariants.{Function}
use Rattle.cilk_model.specs.Lexemes.{Lexeme, name, literal, finish}
use Rattle.cilk_model.specs.Signs.{word, mark}
use Rattle.cilk_model.specs.GrammarForms.{file}
use Rattle.cilk_parser.specs.Reading.{body_of}
use Rattle.cilk_parser.specs.Read.{read, read_within}

-- A place in the first line.
abbrev c : ℕ → Pos
c n = record { line = 1; column = n }

-- `int main() {` and `return 0`
abbrev before_body : List Lexeme → List Lexeme
before_body ts = word "int" (c 1) ∷ name (c 5) (codes "main") ∷ mark "(" (c 9) ∷ mark ")" (c 10) ∷ mark "{" (c 12) ∷ ts

-- `int main() { return 0; }`
returns_zero :
    read file (before_body (word "return" (c 14) ∷ literal (c 21) (pos 0) ∷ mark ";" (c 22) ∷ mark "}" (c 24) ∷ finish (c 25) ∷ []))
    ≡ Ok (record { items = Function (c 1) Int (c 5) (codes "main") [] (stmt.Block (stmt.Return (c 14) (Some (tree.Number (c 21) (pos 0))) ∷ [])) ∷ []; end = c 25 }, [])
unfolding read read_within body_of
returns_zero = refl

-- `int main() { return 0 }`
without_semicolon :
    read file (before_body (word "return" (c 14) ∷ literal (c 21) (pos 0) ∷ mark "}" (c 23) ∷ finish (c 24) ∷ []))
    ≡ Err (mark "}" (c 23) ∷ finish (c 24) ∷ [])
unfolding read read_within body_of
without_semicolon = refl
