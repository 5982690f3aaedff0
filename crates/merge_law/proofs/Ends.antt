-- The two ends of a link.
use Rattle.std.proofs.Common.{◌≡◌, ℕ, ◌<◌, ◌≤◌, arith, true, false}
use Rattle.std.specs.Prelude.{◌==◌, ◌&&◌, not, nat_lt}
use Rattle.std.proofs.lemmas.Bool.{and_parts}
use Rattle.merge_law.specs.Machine.{is_linked}

pub lt_true : (a b : ℕ) → nat_lt a b ≡ true → a < b
lt_true a b e = search arith

pub lt_false : (a b : ℕ) → nat_lt a b ≡ false → b ≤ a
lt_false a b e = grind arith

pub record Ends (n o k : ℕ) : Type 0 where
  pub sends : o < n
  pub takes : k < n

-- the two nodelets of a link are there
pub ends_of : (n o k : ℕ) → is_linked n o k ≡ true → Ends n o k
ends_of n o k l =
    let both = and_parts (nat_lt o n && nat_lt k n) (not (o == k)) l in
    let each = and_parts (nat_lt o n) (nat_lt k n) both.0 in
    record { sends = lt_true o n each.0; takes = lt_true k n each.1 }
