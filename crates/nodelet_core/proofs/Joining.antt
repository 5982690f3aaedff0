-- Whether a context can join those of a nodelet, test by test: it is not here, its name was given, and its three
-- nodelets are there.
use Rattle.std.proofs.Common.{◌≡◌, Bool, true, false, refl}
use Rattle.std.specs.Prelude.{not, ◌&&◌}

pub is_here : (here given place home parent : Bool) → here ≡ true → false ≡ (not here && given && place && home && parent)
is_here true given place home parent e = refl
is_here false given place home parent e = absurd (let wrong : false ≡ true = e in cc)

pub not_given : (here given place home parent : Bool) → here ≡ false → given ≡ false → false ≡ (not here && given && place && home && parent)
not_given false false place home parent e f = refl
not_given false true place home parent e f = absurd (let wrong : true ≡ false = f in cc)
not_given true given place home parent e f = absurd (let wrong : true ≡ false = e in cc)

pub are_there : (here given place home parent answer : Bool) → here ≡ false → given ≡ true → answer ≡ (place && home && parent)
    → answer ≡ (not here && given && place && home && parent)
are_there false true place home parent answer e f g = g
are_there false false place home parent answer e f g = absurd (let wrong : false ≡ true = f in cc)
are_there true given place home parent answer e f g = absurd (let wrong : true ≡ false = e in cc)
