-- How many words a row of blocks can have.
use Rattle.std.proofs.Common.{ℕ, ◌*◌, ◌^◌, ◌≤◌, arith}
use Rattle.std.proofs.Math.Nat.{mul-le-mul, pow-le-pow_right}

-- 64 nodelets with blocks of 2 ^ 20 words have 2 ^ 26 in a row
pub row_bound : (n view : ℕ) → n ≤ 64 → view ≤ 20 → n * 2 ^ view ≤ 2 ^ 26
row_bound n view few small =
    let block : 2 ^ view ≤ 2 ^ 20 = pow-le-pow_right (omega arith) small in
    mul-le-mul few block
