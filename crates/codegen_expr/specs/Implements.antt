-- Code that does what a program says.
use Rattle.std.specs.Prelude.{◌≡◌, ℕ, ℤ, List, length, Some, slice_get}
use Rattle.world_model.specs.Action.{Answers}
use Rattle.cilk_ast.specs.declared.program.Function.{Function}
use Rattle.cilk_ast.specs.declared.program.Program.{Program}
use Rattle.cilk_model.specs.Acts as source
use Rattle.threadlet_code.specs.declared.code.FuncCode.{FuncCode}
use Rattle.threadlet_code.specs.declared.code.Code.{Code}
use Rattle.threadlet_code.specs.Running as machine

-- Code implements a program where it has as many globals, the same main, and function by function as many
-- parameters and the same actions, whatever the answers: places in the text are part of an action.
pub record Implements (code : Code) (program : Program) : Type 0 where
  pub globals : code.globals ≡ program.globals
  pub replicated : code.replicated ≡ program.replicated
  pub main : code.main ≡ program.main
  pub functions : length code.functions ≡ length program.functions
  pub params : (g : ℕ) (f : Function) (h : FuncCode) → slice_get program.functions g ≡ Some f → slice_get code.functions g ≡ Some h → h.params ≡ f.params
  pub acts : (g : ℕ) (f : Function) → slice_get program.functions g ≡ Some f → (args : List ℤ) → length args ≡ f.params → (answers : Answers) →
      machine.acts code g args answers ≡ source.acts program.functions g args answers
