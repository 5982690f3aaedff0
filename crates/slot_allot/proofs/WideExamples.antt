-- Code that needs a higher stack than its program, since it prints through another format.
use Rattle.std.proofs.Common.{◌≡◌, ◌+◌, [], ◌∷◌, refl, pos, false}
use Rattle.std.specs.Fmt.{digits}
use Rattle.word_ops.specs.declared.format.Part.TheVariants.{Byte, Long}
use Rattle.cilk_ast.specs.declared.program.Expr as code
use Rattle.cilk_ast.specs.declared.program.Expr.TheBlock.{shape-the_row-Expr-0, hidden-the_row-Expr-0, shape-the_row-Expr-1, hidden-the_row-Expr-1}
use Rattle.cilk_ast.specs.declared.program.Stmt.{Eval, Return}
use Rattle.cilk_ast.specs.declared.program.Stmt.TheBlock.{shape-the_row-Stmt-0, hidden-the_row-Stmt-0, shape-the_row-Stmt-1, hidden-the_row-Stmt-1}
use Rattle.cilk_ast.specs.declared.program.Function.{Function}
use Rattle.world_model.specs.Action.{Answers}
use Rattle.cilk_model.specs.Acts as source
use Rattle.cilk_model.proofs.Samples as small
use Rattle.threadlet_code.specs.declared.instr.Instr.TheVariants as by
use Rattle.threadlet_code.specs.declared.code.Code.{Code}
use Rattle.threadlet_code.specs.Running as machine
use Rattle.threadlet_code.proofs.Samples as coded
use Rattle.codegen_stmt.specs.Heights.{greatest_height}
use denote.Hole.Carrier.{hidden}

-- int main() { printf("1 2\n"); return 0; }
abbrev printing : Function
printing = small.function 0 0 false (Eval (code.Print (Byte 49 ∷ Byte 32 ∷ Byte 50 ∷ Byte 10 ∷ []) []) ∷ Return (small.word 0) ∷ [])

-- the same through the format %ld %ld\n, whose words are pushed
abbrev wide : Code
wide = coded.codes_of
    (coded.function 0 0 2 false (by.Turn ∷ by.Push (pos 1) ∷ by.Push (pos 2) ∷ by.Print 0 ∷ by.Push (pos 0) ∷ by.Return ∷ []) ∷ [])
    ((Long ∷ Byte 32 ∷ Long ∷ Byte 10 ∷ []) ∷ [])

it_does_what_the_program_does : (answers : Answers) → machine.acts wide 0 [] answers ≡ source.acts (printing ∷ []) 0 [] answers
unfolding digits shape-the_row-Stmt-0 hidden-the_row-Stmt-0 shape-the_row-Stmt-1 hidden-the_row-Stmt-1 shape-the_row-Expr-0 hidden-the_row-Expr-0 shape-the_row-Expr-1 hidden-the_row-Expr-1 hidden
it_does_what_the_program_does [] = refl
it_does_what_the_program_does (turn ∷ []) = refl
it_does_what_the_program_does (turn ∷ print ∷ answers) = refl

the_program_needs_one_word : printing.slots + greatest_height printing ≡ 1
unfolding shape-the_row-Stmt-0 hidden-the_row-Stmt-0 shape-the_row-Stmt-1 hidden-the_row-Stmt-1 shape-the_row-Expr-0 hidden-the_row-Expr-0 shape-the_row-Expr-1 hidden-the_row-Expr-1 hidden
the_program_needs_one_word = refl
