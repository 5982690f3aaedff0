-- What comparisons of numbers say.
use Rattle.std.proofs.Common.{◌≡◌, ◌≢◌, ℤ, ◌<ℤ◌, true, false, arith}
use Rattle.std.specs.declared.cmp.Ordering.TheVariants.{Less}
use Rattle.std.specs.Ordering.{int_cmp, is_eq}
use Rattle.std.proofs.lemmas.Cmp.{int_ranked}

pub less_is : (k q : ℤ) → int_cmp k q ≡ Less → k <ℤ q
less_is k q e = grind (arith, int_ranked)

pub equal_is : (k q : ℤ) → is_eq (int_cmp k q) ≡ true → k ≡ q
equal_is k q e = grind (arith, int_ranked)

pub unequal_is : (k q : ℤ) → is_eq (int_cmp k q) ≡ false → k ≢ q
unequal_is k q e = grind (arith, int_ranked)

pub equal_shows : (k q : ℤ) → k ≡ q → is_eq (int_cmp k q) ≡ true
equal_shows k q e = grind (arith, int_ranked)

pub unequal_shows : (k q : ℤ) → k ≢ q → is_eq (int_cmp k q) ≡ false
unequal_shows k q ne = grind (arith, int_ranked)
