-- How heights change.
use Rattle.std.proofs.Common.{◌≡◌, ℕ, ◌+◌, ◌-◌, ◌≤◌, Some, arith}
use Rattle.std.proofs.lemmas.Option.{same_Some}
use Rattle.threadlet_code.specs.declared.instr.Instr.{Instr}
use Rattle.threadlet_code.specs.declared.instr.Instr.TheVariants as by
use Rattle.threadlet_code.specs.declared.code.Code.{Code}
use Rattle.threadlet_code.specs.Operands.{operands, results}

-- An instruction leaves at most one word more than there were.
pub exchanged_above : (code : Code) (instr : Instr) (n h : ℕ) → operands code instr ≡ Some n → n ≤ h → h - n + results instr ≤ h + 1
exchanged_above code by.Dup n h e le = let k : 1 ≡ n = same_Some 1 n e in omega arith
exchanged_above code (by.Push w) n h e le = omega arith
exchanged_above code (by.Get i) n h e le = omega arith
exchanged_above code (by.Un op) n h e le = omega arith
exchanged_above code (by.Bin op) n h e le = omega arith
exchanged_above code (by.Call g) n h e le = omega arith
exchanged_above code by.Load n h e le = omega arith
exchanged_above code by.FetchAdd n h e le = omega arith
exchanged_above code by.FetchSwap n h e le = omega arith
exchanged_above code by.FetchCas n h e le = omega arith
exchanged_above code by.Where n h e le = omega arith
exchanged_above code (by.Alloc kind) n h e le = omega arith
exchanged_above code other n h e le = omega arith
