use Rattle.std.proofs.Common.{◌≡◌, ℕ, ◌<◌, get_or, length}
use Rattle.data_layout.specs.Cursor.{first_cursor}
use Rattle.data_layout.proofs.cursors.Cursors.new.Given as goal

-- the cursors so far are the first ones
abbrev pub invariant-loop-view : goal.invariant-loop-view
invariant-loop-view l = record {
  views : length l.cursor-items ≡ 96;
  first : (v : ℕ) → v < l.view → get_or l.cursor-items v 0 ≡ first_cursor l.n l.globals l.replicated v;
}
