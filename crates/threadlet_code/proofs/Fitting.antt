-- A state of verified code that fits has all that its next instruction needs, and what follows fits.
use Rattle.std.proofs.Common.{◌≡◌, ℕ, zero, suc, ◌+◌, ◌-◌, ◌≤◌, List, [], ◌∷◌, ◌++◌, length, Option, Some, None, refl, ◌∙◌, arith, true, ℤ, pos, length-append, length-set}
use Rattle.std.specs.Prelude.{slice_get, slice_set, replicate}
use Rattle.std.proofs.lemmas.List.{length-replicate}
use Rattle.threadlet_code.specs.declared.code.FuncCode.{FuncCode}
use Rattle.threadlet_code.specs.declared.code.Code.{Code}
use Rattle.world_model.specs.Activation.{Slots, Targets, first_slots, joined}
use Rattle.threadlet_code.specs.Operands.{results, taken}
use Rattle.threadlet_code.specs.Machine.{entered}
use Rattle.threadlet_code.specs.Breaches.{is_sound}
use Rattle.threadlet_code.specs.Fitting.{AreSlots, FitsFrame}
use Rattle.threadlet_code.proofs.Kept.{keeps_rules}
use Rattle.threadlet_code.proofs.Leads.{heights_lead}

-- ---- operands

pub record Taken (n : ℕ) (stack words : List ℤ) : Type 0 where
  pub got : List ℤ
  pub rest : List ℤ
  pub took : taken n stack words ≡ Some (got, rest)
  pub many : length got ≡ n + length words
  pub left : length rest + n ≡ length stack

pub takes : (n : ℕ) (stack words : List ℤ) → n ≤ length stack → Taken n stack words
takes zero stack words le = record { got = words; rest = stack; took = refl; many = omega arith; left = omega arith }
takes (suc n) [] words le = absurd (omega arith)
takes (suc n) (word ∷ stack) words le =
    let t = takes n stack (word ∷ words) (omega arith) in
    record { got = t.got; rest = t.rest; took = t.took; many = omega (arith, t.many); left = omega (arith, t.left) }

-- ---- slots and targets

pub first_size : (n : ℕ) (args : List ℤ) → length args ≤ n → length (first_slots n args) ≡ n
first_size n args le = omega (arith, length-append args (replicate (n - length args) (pos 0)), length-replicate (n - length args) (pos 0))

pub joined_size : (slots : Slots) (targets : Targets) (results : List ℤ) → length (joined slots targets results) ≡ length slots
joined_size slots [] results = refl
joined_size slots (target ∷ targets) [] = refl
joined_size slots (None ∷ targets) (result ∷ results) = joined_size slots targets results
joined_size slots (Some slot ∷ targets) (result ∷ results) = joined_size (slice_set slots slot result) targets results ∙ length-set slots slot result

pub target_more : (n : ℕ) (targets : Targets) (target : Option ℕ) → AreSlots n targets → AreSlots n (target ∷ []) → AreSlots n (targets ++ target ∷ [])
target_more n [] target a b = b
target_more n (None ∷ targets) target a b = target_more n targets target a b
target_more n (Some slot ∷ targets) target a b = (a.0, target_more n targets target a.1 b)

-- ---- a function at its start

pub entered_fits : (code : Code) → is_sound code ≡ true → (g : ℕ) (f : FuncCode) (args : List ℤ) → slice_get code.functions g ≡ Some f → length args ≡ f.params → FitsFrame code 0 (entered g f args)
entered_fits code sound g f args known count =
    let k = keeps_rules code sound g f known in
    record {
      f = f;
      known = known;
      slots = first_size f.slots args (omega (arith, k.params));
      targets = tt;
      height = (heights_lead code sound g f known).start;
    }
