use Rattle.std.proofs.Common.{◌≡◌, ◌≤◌, ◌++◌, ℕ, true}
use Rattle.merge_law.specs.Machine.{is_linked}
use Rattle.nodelet_core.specs.code.Told.{body_for, told_to}
use Rattle.nodelet_core.proofs.nodelet.Nodelet.send_to_others.Given as goal

abbrev pub invariant-loop-k : goal.invariant-loop-k
invariant-loop-k g l = record {
  room : (j : ℕ) → l.k ≤ j → is_linked l.self.nodelets l.self.number j ≡ true → 1 ≤ g.O.Outlet.spare l.out j;
  sent : (j : ℕ) → g.O.Outlet.sent l.out j
      ≡ g.O.Outlet.sent l.fn.out j ++ told_to l.self.nodelets l.self.number l.k (record { stamp = l.self.stamp; body = body_for l.name l.item }) j;
  reaches : (j : ℕ) → g.O.Outlet.reaches l.out j ≡ g.O.Outlet.reaches l.fn.out j;
  made : (j : ℕ) → g.O.Outlet.made l.out j ≡ g.O.Outlet.made l.fn.out j;
}
