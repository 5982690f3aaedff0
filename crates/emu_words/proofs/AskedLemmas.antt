-- What the words ask for, where the command takes them and where it refuses them.
use Rattle.std.proofs.Common.{◌≡◌, ◌≢◌, List, [], ◌∷◌, None, refl}
use Rattle.clap.specs.Words.{Kinds, Row, Text, fault_of, matches_of}
use Rattle.emu_words.specs.Line.{emu_app}
use Rattle.emu_words.specs.Asking.{asked_in, asked_of, unless_refused}

pub asked_where_taken : (words : List Text) (rows : List Row) → fault_of emu_app words ≡ [] → rows ≡ matches_of emu_app words → asked_of words ≡ asked_in rows
unfolding asked_of
asked_where_taken words rows taken is = rw (taken, is) refl

pub asked_where_refused : (words : List Text) → fault_of emu_app words ≢ [] → asked_of words ≡ None
unfolding asked_of
asked_where_refused words refused = by_faults (fault_of emu_app words) refused
  where
    by_faults : (kinds : Kinds) → kinds ≢ [] → unless_refused kinds (asked_in (matches_of emu_app words)) ≡ None
    by_faults [] some = absurd (some refl)
    by_faults (kind ∷ kinds) some = refl
