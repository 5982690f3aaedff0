-- Whole runs and what is written of them, computed.
use Rattle.std.proofs.Common.{◌≡◌, ℕ, List, [], ◌∷◌, refl, pos, true, false, Option, Some, None, codes, replicate, option_map}
use Rattle.std.specs.Prelude.{option_and_then, IsTrue}
use Rattle.std.specs.Fmt.{digits}
use Rattle.word_ops.specs.declared.name.Name.{Name}
use Rattle.word_ops.specs.declared.step.Step.{Step}
use Rattle.word_ops.specs.declared.step.Step.TheVariants.{Act}
use Rattle.word_ops.specs.declared.step.Entry.{Entry}
use Rattle.word_ops.specs.declared.step.NodeEvent.TheVariants.{Run}
use Rattle.word_ops.specs.declared.rules.Rules.TheVariants.{Checked}
use Rattle.word_ops.specs.declared.traffic.Cell.{Cell}
use Rattle.word_ops.specs.declared.operators.BinaryOp.TheVariants as by
use Rattle.cilk_ast.specs.declared.builtin.Builtin.TheVariants as built
use Rattle.cilk_ast.specs.declared.program.Expr as code
use Rattle.cilk_ast.specs.declared.program.Expr.TheBlock.{shape-the_row-Expr-0, hidden-the_row-Expr-0, shape-the_row-Expr-1, hidden-the_row-Expr-1}
use Rattle.cilk_ast.specs.declared.program.Expr.{Expr, Slot, Fence}
use Rattle.cilk_ast.specs.declared.program.Stmt as code_stmt
use Rattle.cilk_ast.specs.declared.program.Stmt.{Stmt, Eval, Return, Set, Store}
use Rattle.cilk_ast.specs.declared.program.Stmt.TheBlock.{shape-the_row-Stmt-0, hidden-the_row-Stmt-0, shape-the_row-Stmt-1, hidden-the_row-Stmt-1}
use Rattle.cilk_ast.specs.declared.program.Function.{Function}
use Rattle.cilk_ast.specs.declared.program.Program.{Program}
use Rattle.cilk_ast.specs.Kept.{keeps}
use Rattle.cilk_ast.specs.declared.fault.FaultKind.TheVariants as fault
use Rattle.world_model.specs.Run.{run_of, end_of}
use Rattle.cilk_model.specs.Written.{Wanted, setting_of, run_text}
use Rattle.cilk_model.specs.Faults.{fault_line}
use Rattle.cilk_model.proofs.Samples.{at, word, function, word_line, add}
use denote.Hole.Carrier.{hidden}

-- what is written, with nothing where the steps are no run or have no end
abbrev written : Wanted → Program → ℕ → List ℕ → List Step → List (List Entry) → List Cell → Option (List ℕ)
written wanted program nodelets source told parts cells =
    let u = setting_of program nodelets 1000000 Checked in
    option_and_then (λ world. option_map (λ end. run_text wanted u source told parts world cells end) (end_of u told parts)) (run_of u told)

abbrev nothing_else : Wanted
nothing_else = record { memory = false; report = false; journal = false; watch = false }

abbrev main : Name
main = record { nodelet = 0; number = 0 }

-- so many actions of main
abbrev acts : ℕ → List Step
acts n = replicate n (Act main None)

-- int main() { return 0; }
abbrev returning_functions : List Function
returning_functions = function 0 0 false (Return (word 0) ∷ []) ∷ []

returning_kept : IsTrue (keeps returning_functions 0)
unfolding shape-the_row-Stmt-0 hidden-the_row-Stmt-0 shape-the_row-Stmt-1 hidden-the_row-Stmt-1 shape-the_row-Expr-0 hidden-the_row-Expr-0 shape-the_row-Expr-1 hidden-the_row-Expr-1 hidden
returning_kept = refl

abbrev returning : Program
returning = record { functions = returning_functions; main = 0; globals = 0; replicated = 0; kept = returning_kept }

a_run_and_its_journal : written (record nothing_else { journal = true }) returning 8 (codes "int main() { return 0; }") (acts 2) [] []
    ≡ Some (codes "end: done 0\nemu-journal 2\nnodelets 8\nturns 1000000\nsource 24\nint main() { return 0; }\nsteps 2\nact 0.0\nact 0.0\nend\n")
unfolding digits shape-the_row-Stmt-0 hidden-the_row-Stmt-0 shape-the_row-Stmt-1 hidden-the_row-Stmt-1 shape-the_row-Expr-0 hidden-the_row-Expr-0 shape-the_row-Expr-1 hidden-the_row-Expr-1 hidden
a_run_and_its_journal = refl

-- int main() { printf("%ld\n", 2 + 3 * 4); return 0; }
abbrev printing_functions : List Function
printing_functions = function 0 0 false (Eval (code.Print word_line (add (word 2) (code.Bin (at 32) by.Mul (word 3) (word 4)) ∷ [])) ∷ Return (word 0) ∷ []) ∷ []

printing_kept : IsTrue (keeps printing_functions 0)
unfolding shape-the_row-Stmt-0 hidden-the_row-Stmt-0 shape-the_row-Stmt-1 hidden-the_row-Stmt-1 shape-the_row-Expr-0 hidden-the_row-Expr-0 shape-the_row-Expr-1 hidden-the_row-Expr-1 hidden
printing_kept = refl

abbrev printing : Program
printing = record { functions = printing_functions; main = 0; globals = 0; replicated = 0; kept = printing_kept }

abbrev entry : ℕ → Entry
entry stamp = record { stamp = stamp; event = Run main 1; step = Some (Act main None) }

a_run_and_its_live_counters : written (record nothing_else { watch = true }) printing 1 [] (acts 3) ((entry 1 ∷ entry 2 ∷ entry 3 ∷ []) ∷ []) []
    ≡ Some (codes "14\nend: done 0\nwatch 0 entries 3 turns 1 applied 0\n")
unfolding digits shape-the_row-Stmt-0 hidden-the_row-Stmt-0 shape-the_row-Stmt-1 hidden-the_row-Stmt-1 shape-the_row-Expr-0 hidden-the_row-Expr-0 shape-the_row-Expr-1 hidden-the_row-Expr-1 hidden
a_run_and_its_live_counters = refl

-- long *a = mw_malloc1dlong(4); for (long i = 0; i < 4; i++) { a[i] = i * i; } FENCE();
-- long s = 0; for (long i = 0; i < 4; i++) { s += a[i]; } printf("%ld\n", s); return 0;
abbrev summing_functions : List Function
summing_functions = function 0 4 false
    (Set 0 (code.Alloc (at 1) built.MwMalloc1dlong (word 4 ∷ []))
    ∷ Set 1 (word 0)
    ∷ code_stmt.Loop (code.Bin (at 2) by.Lt (Slot 1) (word 4)) (Set 1 (add (Slot 1) (word 1)))
    (Store (at 3) (add (Slot 0) (Slot 1)) (code.Bin (at 4) by.Mul (Slot 1) (Slot 1)))
    ∷ Eval Fence
    ∷ Set 2 (word 0) ∷ Set 3 (word 0)
    ∷ code_stmt.Loop (code.Bin (at 5) by.Lt (Slot 3) (word 4)) (Set 3 (add (Slot 3) (word 1)))
    (Set 2 (add (Slot 2) (code.Load (at 6) (add (Slot 0) (Slot 3)))))
    ∷ Eval (code.Print word_line (Slot 2 ∷ [])) ∷ Return (word 0) ∷ []) ∷ []

summing_kept : IsTrue (keeps summing_functions 0)
unfolding shape-the_row-Stmt-0 hidden-the_row-Stmt-0 shape-the_row-Stmt-1 hidden-the_row-Stmt-1 shape-the_row-Expr-0 hidden-the_row-Expr-0 shape-the_row-Expr-1 hidden-the_row-Expr-1 hidden
summing_kept = refl

abbrev summing : Program
summing = record { functions = summing_functions; main = 0; globals = 0; replicated = 0; kept = summing_kept }

a_run_and_its_report : written (record nothing_else { report = true }) summing 1 [] (acts 23) [] []
    ≡ Some (codes "14\nend: done 0\ntraffic\npost 0 0 4\nnodelet 0 turns 11 applied 4\n")
unfolding digits shape-the_row-Stmt-0 hidden-the_row-Stmt-0 shape-the_row-Stmt-1 hidden-the_row-Stmt-1 shape-the_row-Expr-0 hidden-the_row-Expr-0 shape-the_row-Expr-1 hidden-the_row-Expr-1 hidden
a_run_and_its_report = refl

-- long g; int main() { g = 5; return 0; }
abbrev storing_functions : List Function
storing_functions = function 0 0 false (Store (at 22) (word 35184372088832) (word 5) ∷ Return (word 0) ∷ []) ∷ []

storing_kept : IsTrue (keeps storing_functions 0)
unfolding shape-the_row-Stmt-0 hidden-the_row-Stmt-0 shape-the_row-Stmt-1 hidden-the_row-Stmt-1 shape-the_row-Expr-0 hidden-the_row-Expr-0 shape-the_row-Expr-1 hidden-the_row-Expr-1 hidden
storing_kept = refl

abbrev storing : Program
storing = record { functions = storing_functions; main = 0; globals = 1; replicated = 0; kept = storing_kept }

a_run_and_the_words_that_it_leaves : written (record nothing_else { memory = true }) storing 8 [] (acts 3) [] (record { nodelet = 0; address = pos 35184372088832; word = pos 5 } ∷ [])
    ≡ Some (codes "end: done 0\nwords\n0 35184372088832 5\n")
unfolding digits shape-the_row-Stmt-0 hidden-the_row-Stmt-0 shape-the_row-Stmt-1 hidden-the_row-Stmt-1 shape-the_row-Expr-0 hidden-the_row-Expr-0 shape-the_row-Expr-1 hidden-the_row-Expr-1 hidden
a_run_and_the_words_that_it_leaves = refl

-- int main() { long x = *(long *)0; return x; }
abbrev trapping_functions : List Function
trapping_functions = function 0 1 false (Set 0 (code.Load (at 23) (word 0)) ∷ Return (Slot 0) ∷ []) ∷ []

trapping_kept : IsTrue (keeps trapping_functions 0)
unfolding shape-the_row-Stmt-0 hidden-the_row-Stmt-0 shape-the_row-Stmt-1 hidden-the_row-Stmt-1 shape-the_row-Expr-0 hidden-the_row-Expr-0 shape-the_row-Expr-1 hidden-the_row-Expr-1 hidden
trapping_kept = refl

abbrev trapping : Program
trapping = record { functions = trapping_functions; main = 0; globals = 0; replicated = 0; kept = trapping_kept }

a_run_that_traps_leaves_no_words_and_no_report : written (record nothing_else { memory = true; report = true }) trapping 8 [] (acts 2) [] []
    ≡ Some (codes "end: trap BadAddress 1:23 strand 0.0\n")
unfolding digits shape-the_row-Stmt-0 hidden-the_row-Stmt-0 shape-the_row-Stmt-1 hidden-the_row-Stmt-1 shape-the_row-Expr-0 hidden-the_row-Expr-0 shape-the_row-Expr-1 hidden-the_row-Expr-1 hidden
a_run_that_traps_leaves_no_words_and_no_report = refl

a_fault : fault_line (record { pos = at 23; kind = fault.Unexpected }) ≡ codes "fault: 1:23 Unexpected\n"
unfolding digits
a_fault = refl
