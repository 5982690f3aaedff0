use Rattle.std.proofs.Common.{suc, ◌∷◌, [], map, take}
use Rattle.threadlet_code.specs.declared.instr.Instr.TheVariants as by
use Rattle.codegen_expr.specs.Gains.{Gains}
use Rattle.codegen_expr.specs.Piece.{placeless}
use Rattle.codegen_stmt.proofs.rounds.put_child.Given as goal

abbrev pub invariant-loop-i : goal.invariant-loop-i
invariant-loop-i l = Gains l.fn.draft l.draft (placeless (by.Get l.kept) ∷ map (λ slot. placeless (by.Get slot)) (take l.i l.copies)) [] (suc l.i) (suc l.i)
