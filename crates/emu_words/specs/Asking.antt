-- What a list of words asks for.
use Rattle.std.specs.Prelude.{ℕ, ◌≤◌, IfSome, Bool, false, List, [], ◌∷◌, Option, Some, None, codes, if◌then◌else◌, option_and_then, option_map}
use Rattle.std.specs.Option.{option_map_or}
use Rattle.std.specs.Str.{bytes_eq}
use Rattle.clap.specs.Words.{Kinds, Row, Text, fault_of, first_of, matches_of}
use Rattle.word_ops.specs.Numbers.{count_in}
use Rattle.emu_words.specs.Line.{emu_app}
use Rattle.emu_words.specs.declared.asked.Asked.{Asked}
use Rattle.emu_words.specs.declared.asked.Mode.{Mode}
use Rattle.emu_words.specs.declared.asked.Mode.TheVariants as mode

-- the mode of a name
abbrev pub mode_named : Text → Option Mode
mode_named text = if bytes_eq text (codes "check") then Some mode.Check
    else if bytes_eq text (codes "emit") then Some mode.Emit
    else if bytes_eq text (codes "run") then Some mode.Run
    else if bytes_eq text (codes "gen") then Some mode.Gen
    else if bytes_eq text (codes "replay") then Some mode.Replay
    else if bytes_eq text (codes "audit") then Some mode.Audit
    else if bytes_eq text (codes "exec") then Some mode.Exec
    else if bytes_eq text (codes "time") then Some mode.Time
    else if bytes_eq text (codes "upgrade") then Some mode.Upgrade
    else None

-- the mode that the matches name
unfoldable pub mode_in : List Row → Option Mode
mode_in rows = option_and_then mode_named (first_of (codes "mode") rows)

-- a value as a number from least to most; `absent` where there is no value
abbrev pub number_of : ℕ → ℕ → ℕ → Option Text → Option ℕ
number_of absent least most None = Some absent
number_of absent least most (Some text) = count_in text least most

-- a value as a number up to most, which may be absent
abbrev pub number_or_none_of : Option ℕ → ℕ → Option Text → Option (Option ℕ)
number_or_none_of absent most None = Some absent
number_or_none_of absent most (Some text) = option_map (λ n. Some n) (count_in text 0 most)

-- the number of an option that always has one; none where it is out of range
unfoldable pub number_in : Text → ℕ → ℕ → ℕ → List Row → Option ℕ
number_in name absent least most rows = number_of absent least most (first_of name rows)

-- the number of an option that may have none; none where it is out of range
unfoldable pub number_if_given : Text → Option ℕ → ℕ → List Row → Option (Option ℕ)
number_if_given name absent most rows = number_or_none_of absent most (first_of name rows)

-- a flag is given
unfoldable pub flag_in : Text → List Row → Bool
flag_in name rows = option_map_or (λ text. bytes_eq text (codes "true")) (first_of name rows) false

-- the workload where none is given
abbrev pub default_workload : Mode → Option ℕ
default_workload mode.Gen = Some 0
default_workload _ = None

-- what the matches ask for; none where the mode is unknown or a number is out of range
unfoldable pub asked_in : List Row → Option Asked
asked_in rows =
    option_and_then (λ mode.
    option_and_then (λ n.
    option_and_then (λ turns.
    option_and_then (λ serial.
    option_map (λ workload. record {
      mode = mode;
      n = n;
      turns = turns;
      serial = serial;
      report = flag_in (codes "report") rows;
      memory = flag_in (codes "memory") rows;
      journal = flag_in (codes "record") rows;
      workload = workload;
      watch = flag_in (codes "watch") rows;
    })
    (number_if_given (codes "workload") (default_workload mode) 1000000 rows))
    (number_if_given (codes "serial") None 18446744073709551615 rows))
    (number_in (codes "turns") 1000000 1 1099511627776 rows))
    (number_in (codes "nodelets") 8 1 64 rows))
    (mode_in rows)

-- what is asked, unless there are faults
abbrev pub unless_refused : Kinds → Option Asked → Option Asked
unless_refused [] asked = asked
unless_refused (kind ∷ kinds) asked = None

-- what the words ask for; none where the command refuses them, the mode is unknown or a number is out of range
unfoldable pub asked_of : List Text → Option Asked
asked_of words = unless_refused (fault_of emu_app words) (asked_in (matches_of emu_app words))

-- the numbers of what is asked are in their ranges
pub record InRange (a : Asked) : Type 0 where
  pub n_low : 1 ≤ a.n
  pub n_high : a.n ≤ 64
  pub turns_low : 1 ≤ a.turns
  pub turns_high : a.turns ≤ 1099511627776
  pub workload : IfSome a.workload (λ number. number ≤ 1000000)
