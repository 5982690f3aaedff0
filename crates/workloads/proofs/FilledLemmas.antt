-- A template that begins with no mark.
use Rattle.std.proofs.Common.{◌≡◌, ◌==◌, ℕ, List, [], ◌∷◌, false, refl}
use Rattle.workloads.specs.Workload.{filled}
use Rattle.workloads.specs.declared.templates.TheConstants.{MARK}

pub filled_first_byte : (text : ℕ → List ℕ) (byte : ℕ) (rest : List ℕ) → (byte == MARK) ≡ false → filled text (byte ∷ rest) ≡ byte ∷ filled text rest
filled_first_byte text byte [] other = refl
filled_first_byte text byte (letter ∷ rest) other = rw other refl
