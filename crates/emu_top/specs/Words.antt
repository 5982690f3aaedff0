-- What the words of a call ask for, as far as it is built.
use Rattle.std.specs.Prelude.{◌≡◌, ℕ, List, ◌&&◌, not, Bool, true, false, if◌then◌else◌, Option, Some, None, option_and_then}
use Rattle.emu_words.specs.Asking.{asked_of}
use Rattle.emu_words.specs.declared.asked.Asked.{Asked}
use Rattle.emu_words.specs.declared.asked.Mode.{Mode}
use Rattle.emu_words.specs.declared.asked.Mode.TheVariants.{Check, Emit, Run, Gen, Replay, Audit, Exec, Time, Upgrade}

-- The modes that are built so far.
abbrev pub is_built_mode : Mode → Bool
is_built_mode Check = true
is_built_mode Emit = true
is_built_mode Run = true
is_built_mode Gen = true
is_built_mode Replay = false
is_built_mode Audit = false
is_built_mode Exec = false
is_built_mode Time = false
is_built_mode Upgrade = false

-- What is built so far: these modes, without a journal and without live counters.
abbrev pub is_built : Asked → Bool
is_built asked = is_built_mode asked.mode && not asked.journal && not asked.watch

-- What the words ask for, where it is built.
abbrev pub request_in : List (List ℕ) → Option Asked
request_in words = option_and_then (λ asked. if is_built asked then Some asked else None) (asked_of words)

-- The words ask for something that is built, of which this holds.
pub record Asks (words : List (List ℕ)) (P : Asked → Type 0) : Type 0 where
  pub asked : Asked
  pub words_ask : request_in words ≡ Some asked
  pub holds : P asked
