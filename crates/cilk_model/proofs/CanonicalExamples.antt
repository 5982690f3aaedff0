-- The canonical texts of some trees.
use Rattle.std.proofs.Common.{◌≡◌, ℕ, List, [], ◌∷◌, ◌++◌, refl, codes, Some, None, true, false}
use Rattle.std.specs.Fmt.{digits}
use Rattle.word_ops.specs.declared.operators.BinaryOp.TheVariants as op
use Rattle.word_ops.specs.declared.operators.UnaryOp.TheVariants as single
use Rattle.cilk_ast.specs.declared.kind.Kind.TheVariants as sort
use Rattle.cilk_ast.specs.declared.builtin.Builtin.TheVariants as built
use Rattle.cilk_ast.specs.declared.tree.Tree.{Tree}
use Rattle.cilk_ast.specs.declared.tree.Item.TheVariants as item
use Rattle.cilk_ast.specs.declared.tree.TExpr as tree
use Rattle.cilk_ast.specs.declared.tree.TExpr.{TExpr}
use Rattle.cilk_ast.specs.declared.tree.TExpr.TheBlock.{shape-the_row-TExpr-0, hidden-the_row-TExpr-0, shape-the_row-TExpr-1, hidden-the_row-TExpr-1}
use Rattle.cilk_ast.specs.declared.tree.TStmt.TheBlock.{shape-the_row-TStmt-0, hidden-the_row-TStmt-0, shape-the_row-TStmt-1, hidden-the_row-TStmt-1}
use denote.Hole.Carrier.{hidden}
use Rattle.cilk_ast.specs.declared.tree.TStmt as code
use Rattle.cilk_ast.specs.declared.tree.TStmt.{TStmt}
use Rattle.cilk_ast.specs.declared.tree.TSpawn.{TSpawn}
use Rattle.cilk_ast.specs.declared.tree.TValue.TheVariants.{Plain, Spawned}
use Rattle.cilk_model.specs.TreeTokens.{nowhere}
use Rattle.cilk_model.specs.Layout.{put}
use Rattle.cilk_model.specs.Canonical.{canonical_text}
use Rattle.cilk_model.proofs.TreeSamples.{at, number, variable, main_file}

-- lines, each with its newline
lines : List (List ℕ) → List ℕ
lines [] = []
lines (l ∷ rest) = l ++ (10 ∷ lines rest)

-- `int main(){return 0;}`
a_small_program : canonical_text (main_file 22 (code.Return (at 12) (Some (number 19 0)) ∷ [])) ≡
    lines (codes "int main () {" ∷ codes "  return 0;" ∷ codes "}" ∷ [])
unfolding put lines digits shape-the_row-TExpr-0 hidden-the_row-TExpr-0 shape-the_row-TStmt-0 hidden-the_row-TStmt-0 hidden
a_small_program = refl

no_items : canonical_text (record { items = []; end = at 1 }) ≡ []
no_items = refl

-- ---- A text with every form

a_spawn : List ℕ → List TExpr → TSpawn
a_spawn f args = record { pos = nowhere; hint = None; name_pos = nowhere; name = f; args = args }

number_of : ℕ → TExpr
number_of n = number 1 n

name_of : List ℕ → TExpr
name_of x = variable 1 x

declarations : List TStmt
declarations =
    code.Empty ∷ code.Local nowhere sort.Long (codes "x") None
    ∷ code.Local nowhere sort.Ptr (codes "y") (Some (Plain (tree.Cast nowhere sort.Ptr (number_of 0))))
    ∷ code.Local nowhere sort.Long (codes "z") (Some (Spawned (a_spawn (codes "g") (number_of 1 ∷ number_of 2 ∷ [])))) ∷ []

spawns : List TStmt
spawns =
    code.Assign nowhere (name_of (codes "x")) (Spawned (a_spawn (codes "g") []))
    ∷ code.Spawn (record { pos = nowhere; hint = Some (name_of (codes "p")); name_pos = nowhere; name = codes "f"; args = name_of (codes "p") ∷ name_of (codes "v") ∷ [] })
    ∷ code.Sync ∷ []

choices : List TStmt
choices =
    code.If (tree.Either nowhere (name_of (codes "x")) (tree.Both nowhere (name_of (codes "v")) (tree.Un nowhere single.Not (name_of (codes "x"))))) (code.Up (name_of (codes "x")))
    (Some (code.Block (code.Down (tree.Index nowhere (name_of (codes "p")) (number_of 0)) ∷ [])))
    ∷ code.If (name_of (codes "v")) (code.Return nowhere None) None ∷ []

loops : List TStmt
loops =
    code.While (tree.Bin nowhere op.Lt (name_of (codes "v")) (number_of 1)) (code.Continue nowhere)
    ∷ code.For None None None (code.Break nowhere)
    ∷ code.For (Some (code.Local nowhere sort.Long (codes "i") (Some (Plain (number_of 0))))) (Some (tree.Bin nowhere op.Ne (name_of (codes "i")) (number_of 4))) (Some (code.Up (name_of (codes "i"))))
    (code.Block (code.AddTo nowhere (name_of (codes "x")) (tree.Bin nowhere op.Mul (tree.Un nowhere single.Neg (name_of (codes "v"))) (tree.Paren nowhere (tree.Un nowhere single.Flip (number_of 2)))) ∷ []))
    ∷ code.CilkFor nowhere (codes "i") (number_of 0) (nowhere, codes "i") (tree.Bin nowhere op.Shl (number_of 2) (number_of 1)) (nowhere, codes "i") code.Empty ∷ []

calls : List TStmt
calls =
    code.Eval (tree.Print nowhere nowhere (codes "%ld") (tree.Deref nowhere (name_of (codes "p")) ∷ []))
    ∷ code.Eval (tree.InitAt nowhere nowhere (codes "r") (number_of 9))
    ∷ code.Eval (tree.Builtin nowhere built.MwReplicatedInit (name_of (codes "p") ∷ number_of 9 ∷ []))
    ∷ code.Eval (tree.Builtin nowhere built.Fence [])
    ∷ code.Assign nowhere (name_of (codes "x")) (Plain (tree.Call nowhere (codes "g") (name_of (codes "x") ∷ number_of 10 ∷ []))) ∷ []

every_form_tree : Tree
every_form_tree = record {
  items = item.Global nowhere (codes "r") sort.Long true ∷ item.Global nowhere (codes "t") sort.Ptr false
      ∷ item.Function nowhere sort.Void nowhere (codes "f") (record { pos = nowhere; kind = sort.Ptr; name = codes "p" } ∷ record { pos = nowhere; kind = sort.Long; name = codes "v" } ∷ [])
      (code.Block (declarations ++ (spawns ++ (choices ++ (loops ++ calls)))))
      ∷ item.Function nowhere sort.Ptr nowhere (codes "h") [] (code.Block (code.Return nowhere (Some (tree.Cast nowhere sort.Long (number_of 0))) ∷ [])) ∷ [];
  end = nowhere;
}

every_form_text : List (List ℕ)
every_form_text =
    codes "replicated long r;" ∷ codes "long * t;" ∷ codes "void f (long * p, long v) {"
    ∷ codes "  ;" ∷ codes "  long x;" ∷ codes "  long * y = (long *) 0;" ∷ codes "  long z = cilk_spawn g (1, 2);"
    ∷ codes "  x = cilk_spawn g ();" ∷ codes "  cilk_spawn_at (p) f (p, v);" ∷ codes "  cilk_sync;"
    ∷ codes "  if (x || v && ! x) x++;" ∷ codes "  else {" ∷ codes "    p [0]--;" ∷ codes "  }"
    ∷ codes "  if (v) return;"
    ∷ codes "  while (v < 1) continue;" ∷ codes "  for (;;) break;"
    ∷ codes "  for (long i = 0; i != 4; i++) {" ∷ codes "    x += - v * (~ 2);" ∷ codes "  }"
    ∷ codes "  cilk_for (long i = 0; i < 2 << 1; i++);"
    ∷ ((codes "  printf (" ++ (34 ∷ (codes "%ld" ++ (34 ∷ codes ", * p);")))) ∷ [])
    ++ (codes "  mw_replicated_init (& r, 9);" ∷ codes "  mw_replicated_init (p, 9);" ∷ codes "  FENCE ();" ∷ codes "  x = g (x, 10);" ∷ codes "}"
    ∷ codes "long * h () {" ∷ codes "  return (long) 0;" ∷ codes "}" ∷ [])

every_form : canonical_text every_form_tree ≡ lines every_form_text
unfolding put lines digits a_spawn number_of name_of declarations spawns choices loops calls every_form_tree every_form_text shape-the_row-TExpr-0 hidden-the_row-TExpr-0 shape-the_row-TExpr-1 hidden-the_row-TExpr-1 shape-the_row-TStmt-0 hidden-the_row-TStmt-0 shape-the_row-TStmt-1 hidden-the_row-TStmt-1 hidden
every_form = refl
