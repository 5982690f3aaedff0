-- A reader or a writer whose faults are counted.
use Rattle.std.specs.Prelude.{ℕ, refl}
use Rattle.std.specs.Coded.{Coded, code_by, coded×, coded_ℕ}

-- the reader or writer itself, and how many faults it had
pub record Watched (X : Type 0) : Type 0 where
  pub inner : X
  pub faults : ℕ

-- it is stored as the pair of its fields
abbrev pub watched_code : {X : Type 0} → Coded X → Coded (Watched X)
watched_code {X} inner = code_by (X × ℕ) (coded× inner coded_ℕ) (λ w. (w.inner, w.faults)) (λ p. record { inner = p.0; faults = p.1 }) (λ _. refl)
