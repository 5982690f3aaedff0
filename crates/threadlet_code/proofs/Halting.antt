-- Where a strand of verified code halts.
use Rattle.std.proofs.Common.{◌≡◌, ℕ, zero, suc, ◌+◌, ◌-◌, [], ◌∷◌, refl, sym, ◌∙◌, subst, arith}
use Rattle.std.specs.Prelude.{slice_get}
use Rattle.threadlet_code.specs.declared.code.Code.{Code}
use Rattle.threadlet_code.specs.Naming.{body_length}
use Rattle.threadlet_code.specs.Machine.{State, Next, goes, asks, stops, stuck, step}
use Rattle.threadlet_code.specs.Running.{room, settled, due, halts, halt}
use Rattle.threadlet_code.specs.Fitting.{HaltsAtDue, NothingSilentIsDue}
use Rattle.threadlet_code.proofs.Kept.{has_turns}
use Rattle.threadlet_code.proofs.Nearing.{IsSettled, settled_more, due_settled}

-- What stands where a strand halts is what is settled, where it is.
halts_at : (n : ℕ) (code : Code) (done : ℕ) (state : State) (next : Next) → step code state ≡ next → IsSettled (settled n code next) →
    step code (halts n code done state next).state ≡ settled n code next
halts_at zero code done state next e is = e
halts_at (suc n) code done state (goes after) e is = halts_at n code (suc done) after (step code after) refl is
halts_at (suc n) code done state (asks action resume) e is = e
halts_at (suc n) code done state (stops action) e is = e
halts_at (suc n) code done state stuck e is = e

halts_after : (r : ℕ) (code : Code) (state : State) → IsSettled (settled (suc r) code (goes state)) →
    step code (halts (suc r) code 0 state (step code state)).state ≡ settled (suc r) code (goes state)
halts_after r code state is =
    let same : settled (suc r) code (step code state) ≡ settled r code (step code state) = settled_more code r (suc r) (step code state) is (omega arith) in
    halts_at (suc r) code 0 state (step code state) refl (subst IsSettled (sym same) is) ∙ same

pub halts_at_due : HaltsAtDue
halts_at_due code sound state = by_state state (due_settled code (has_turns code sound) state)
  where
    by_state : (state : State) → IsSettled (due code state) → step code (halt code state).state ≡ due code state
    by_state [] is = halts_after 0 code [] is
    by_state (frame ∷ frames) is = halts_after (body_length (slice_get code.functions frame.function) - frame.at + room code frames) code (frame ∷ frames) is

pub nothing_silent_is_due : NothingSilentIsDue
nothing_silent_is_due code sound state after e = subst IsSettled e (due_settled code (has_turns code sound) state)
