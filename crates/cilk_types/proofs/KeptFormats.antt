-- The format that bytes mean can be printed.
use Rattle.std.proofs.Common.{◌≡◌, ap, ℕ, ◌==◌, Bool, true, false, if◌then◌else◌, ◌&&◌, ◌||◌, List, [], ◌∷◌, Option, Some, None, refl, eqb-true}
use Rattle.std.specs.Prelude.{nat_le, unwrap_or}
use Rattle.std.specs.List.{list_all}
use Rattle.std.proofs.lemmas.Bool.{and_from, and_parts, or_right}
use Rattle.word_ops.specs.Formats.{is_printable}
use Rattle.word_ops.specs.declared.format.Part.{Part}
use Rattle.word_ops.specs.declared.format.Part.TheVariants.{Byte, Long}
use Rattle.cilk_model.specs.Formats.{Begun, nothing, backslash, percent, percent_l, is_plain, escaped, part_before, parts_from, format_of}

-- a part, and the parts of a format, can be printed, where they are there
abbrev part_printable : Option Part → Bool
part_printable None = true
part_printable (Some part) = is_printable part

abbrev all_printable : Option (List Part) → Bool
all_printable None = true
all_printable (Some parts) = list_all is_printable parts

before_printable : (part : Option Part) (rest : Option (List Part)) → part_printable part ≡ true → all_printable rest ≡ true →
    all_printable (part_before part rest) ≡ true
before_printable None rest h k = refl
before_printable (Some part) None h k = refl
before_printable (Some part) (Some parts) h k = and_from (is_printable part) (list_all is_printable parts) h k

either_printable : (b : Bool) (x y : Option (List Part)) → all_printable x ≡ true → all_printable y ≡ true → all_printable (if b then x else y) ≡ true
either_printable true x y h k = h
either_printable false x y h k = k

plain_printable : (byte : ℕ) (b : Bool) → is_plain byte ≡ b → part_printable (if b then Some (Byte byte) else None) ≡ true
plain_printable byte true e = or_right (byte == 10) (nat_le 32 byte && nat_le byte 126) ((and_parts _ _ e).0)
plain_printable byte false e = refl

quoted_printable : (byte : ℕ) (b c : Bool) → (byte == 92) ≡ b → (byte == 34) ≡ c → part_printable (if b || c then Some (Byte byte) else None) ≡ true
quoted_printable byte true c e f = ap (λ n. is_printable (Byte n)) (eqb-true byte 92 e)
quoted_printable byte false true e f = ap (λ n. is_printable (Byte n)) (eqb-true byte 34 f)
quoted_printable byte false false e f = refl

escaped_printable : (byte : ℕ) (b : Bool) → (byte == 110) ≡ b →
    part_printable (if b then Some (Byte 10) else (if byte == 92 || byte == 34 then Some (Byte byte) else None)) ≡ true
escaped_printable byte true e = refl
escaped_printable byte false e = quoted_printable byte (byte == 92) (byte == 34) refl refl

const_printable : (b : Bool) (part : Part) → is_printable part ≡ true → part_printable (if b then Some part else None) ≡ true
const_printable true part h = h
const_printable false part h = refl

parts_printable : (begun : Begun) (bytes : List ℕ) → all_printable (parts_from begun bytes) ≡ true
parts_printable nothing [] = refl
parts_printable backslash [] = refl
parts_printable percent [] = refl
parts_printable percent_l [] = refl
parts_printable nothing (b ∷ bytes) =
    either_printable (b == 92) (parts_from backslash bytes) _ (parts_printable backslash bytes)
    (either_printable (b == 37) (parts_from percent bytes) _ (parts_printable percent bytes)
    (before_printable (if is_plain b then Some (Byte b) else None) (parts_from nothing bytes) (plain_printable b (is_plain b) refl) (parts_printable nothing bytes)))
parts_printable backslash (b ∷ bytes) =
    before_printable (escaped b) (parts_from nothing bytes) (escaped_printable b (b == 110) refl) (parts_printable nothing bytes)
parts_printable percent (b ∷ bytes) =
    either_printable (b == 108) (parts_from percent_l bytes) _ (parts_printable percent_l bytes)
    (before_printable (if b == 37 then Some (Byte 37) else None) (parts_from nothing bytes) (const_printable (b == 37) (Byte 37) refl) (parts_printable nothing bytes))
parts_printable percent_l (b ∷ bytes) =
    before_printable (if b == 100 then Some Long else None) (parts_from nothing bytes) (const_printable (b == 100) Long refl) (parts_printable nothing bytes)

given_printable : (format : Option (List Part)) → all_printable format ≡ true → list_all is_printable (unwrap_or format []) ≡ true
given_printable None h = refl
given_printable (Some parts) h = h

pub format_printable : (bytes : List ℕ) → list_all is_printable (unwrap_or (format_of bytes) []) ≡ true
format_printable bytes = given_printable (format_of bytes) (parts_printable nothing bytes)
