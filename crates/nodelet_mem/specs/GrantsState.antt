-- What contracts see of grants.
use Rattle.std.specs.Prelude.{ℕ, List}
use Rattle.nodelet_mem.specs.declared.grants.Run.{Run}

-- The runs, and how many more there is room for.
pub record GrantsState : Type 0 where
  pub runs : List Run
  pub spare : ℕ
