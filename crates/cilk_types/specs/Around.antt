-- What code keeps of a function while a body in it is lowered.
use Rattle.std.specs.Prelude.{ℕ, List}
use Rattle.cilk_types.specs.declared.lower_bodies.Around.{Around}

unfoldable pub around_of : Around → List ℕ × ℕ × ℕ × ℕ
around_of a = (a.frame, a.level, a.place, a.params)
