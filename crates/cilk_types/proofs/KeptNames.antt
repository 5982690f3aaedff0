-- What holds of the names at a place.
use Rattle.std.proofs.Common.{◌≡◌, ◌∙◌, ap, sym, ℕ, ◌<◌, ◌≤◌, ◌==◌, true, List, [], length, Option, Some, None, arith, eqb-true}
use Rattle.word_ops.specs.declared.place.Pos.{Pos}
use Rattle.cilk_ast.specs.Kept.{takes}
use Rattle.cilk_ast.specs.declared.program.Function.{Function}
use Rattle.cilk_ast.specs.declared.fault.FaultKind.TheVariants as fault
use Rattle.cilk_model.specs.Copies.{Frame}
use Rattle.cilk_model.specs.ExpressionBreaks.{misfits, miscounts, call_faults}
use Rattle.cilk_model.specs.ExpressionLowering.{slot_in, index_of}
use Rattle.cilk_model.specs.Scopes.{Entity, local, global, function, Local, Written, Names}
use Rattle.cilk_model.specs.Sorts.{Judged}
use Rattle.cilk_types.proofs.KeptLists.{no_left, not_broken}
use Rattle.cilk_types.proofs.KeptNumbers.{found_under, is_in}

-- each function that a name stands for is there, with as many parameters
pub record Agrees (functions : List Function) (names : Names) : Type 0 where
  pub function : (name : List ℕ) (f : Written) → names name ≡ Some (function f) → takes functions f.index (length f.params) ≡ true

-- each local of some that a name stands for is in a frame
pub record Sees (named : List ℕ) (frame : Frame) (names : Names) : Type 0 where
  pub local : (name : List ℕ) (l : Local) → names name ≡ Some (local l) → is_in l.number named ≡ true → is_in l.number frame ≡ true

-- a local that is in a frame has a slot under the frame's length
pub slot_under : (frame : Frame) (n slots : ℕ) → is_in n frame ≡ true → length frame ≤ slots → slot_in frame n < slots
slot_under frame n slots h under = let found = found_under (λ other. other == n) frame h in omega arith

-- a called name is a function's, with as many parameters as there are arguments
pub takes_called : (functions : List Function) (names : Names) (agrees : Agrees functions names) (at : Pos) (name : List ℕ) (entity : Option Entity) (parts : List Judged) →
    names name ≡ entity → call_faults at entity parts ≡ [] → takes functions (index_of entity) (length parts) ≡ true
takes_called functions names agrees at name None parts is h = cc
takes_called functions names agrees at name (Some (local l)) parts is h = cc
takes_called functions names agrees at name (Some (global g)) parts is h = cc
takes_called functions names agrees at name (Some (function f)) parts is h =
    let same = eqb-true (length f.params) (length parts) (not_broken _ fault.WrongCount at (no_left (miscounts at f.params parts) (misfits f.params parts) h)) in
    sym (ap (takes functions f.index) same) ∙ agrees.function name f is
