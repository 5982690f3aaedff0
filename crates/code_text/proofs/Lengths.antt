-- No list of a code is longer than its text.
use Rattle.std.proofs.Common.{◌≡◌, ◌≤◌, ◌<◌, ◌^◌, ◌==◌, ℕ, zero, suc, Bool, true, false, List, [], ◌∷◌, ◌++◌, length, get_or, codes, flat_map, Some, Result, Ok, Err, IfOk, if◌then◌else◌, ap, subst, length-append, arith}
use Rattle.std.specs.Prelude.{slice_get}
use Rattle.std.specs.List.{All}
use Rattle.std.proofs.lemmas.List.Folds.{length-flat_map-take}
use Rattle.std.proofs.lemmas.Grind.{common_steps}
use Rattle.threadlet_code.specs.Verdict.{IsShort}
use Rattle.word_ops.specs.Ending.{line}
use Rattle.word_ops.specs.Journal.{count_line}
use Rattle.word_ops.specs.declared.place.Pos.{Pos}
use Rattle.word_ops.specs.declared.format.Part.{Part}
use Rattle.word_ops.specs.declared.format.Part.TheVariants.{Byte, Long}
use Rattle.threadlet_code.specs.declared.instr.Instr.{Instr}
use Rattle.threadlet_code.specs.declared.code.FuncCode.{FuncCode}
use Rattle.threadlet_code.specs.declared.code.Code.{Code}
use Rattle.code_text.specs.declared.fault.CodeRefusal.{CodeRefusal}
use Rattle.code_text.specs.Lines.{part_text, format_text, header_of, header_text, placed_text}
use Rattle.code_text.specs.CodeText.{body_text, format_line, function_text, code_text}
use Rattle.code_text.specs.Codes.{IsPlaced, IsTextOf, IsWithin}
use Rattle.code_text.proofs.WholeFinds.{back_of, spread_is}

-- as many bytes as items, where none has an empty text
at_least : {A : Type 0} (f : A → List ℕ) (xs : List A) → ((x : A) → 1 ≤ length (f x)) → length xs ≤ length (flat_map f xs)
at_least f [] some = omega arith
at_least f (x ∷ xs) some = omega (arith, some x, at_least f xs some, length-append (f x) (flat_map f xs))

line_some : (l : List ℕ) → 1 ≤ length (line l)
line_some l = omega (arith, length-append l (10 ∷ []))

byte_some : (b : ℕ) (ten back quote percent : Bool) →
    1 ≤ length (if ten then codes "\\n" else (if back then codes "\\\\" else (if quote then codes "\\\"" else (if percent then codes "%%" else b ∷ []))))
byte_some b true back quote percent = omega arith
byte_some b false true quote percent = omega arith
byte_some b false false true percent = omega arith
byte_some b false false false true = omega arith
byte_some b false false false false = omega arith

part_some : (p : Part) → 1 ≤ length (part_text p)
part_some (Byte b) = byte_some b (b == 10) (b == 92) (b == 34) (b == 37)
part_some Long = omega arith

-- what stands between other texts is no longer than all of them
inside : (a b c : List ℕ) → length b ≤ length (a ++ (b ++ c))
inside a b c = omega (arith, length-append a (b ++ c), length-append b c)

format_within : (format : List Part) → length format ≤ length (format_line format)
format_within format =
    let parts = flat_map part_text format in
    omega (arith, at_least part_text format part_some, inside (codes "format \"") parts (34 ∷ []), length-append (format_text format) (10 ∷ []))

body_within : (ps : List Pos) (is : List Instr) → length ps ≡ length is → length is ≤ length (body_text ps is)
body_within [] [] same = omega arith
body_within [] (i ∷ is) same = absurd (omega (arith, same))
body_within (p ∷ ps) [] same = absurd (omega (arith, same))
body_within (p ∷ ps) (i ∷ is) same = omega (arith, body_within ps is (omega (arith, same)), line_some (placed_text p i), length-append (line (placed_text p i)) (body_text ps is))

function_within : (f : FuncCode) → IsPlaced f → length f.body ≤ length (function_text f)
function_within f placed = omega (arith, body_within f.places f.body placed, length-append (line (header_text (header_of f))) (body_text f.places f.body))

function_some : (f : FuncCode) → 1 ≤ length (function_text f)
function_some f = omega (arith, line_some (header_text (header_of f)), length-append (line (header_text (header_of f))) (body_text f.places f.body))

-- the text of one item is no longer than that of all
one_within : {A : Type 0} (f : A → List ℕ) (size : A → ℕ) (P : A → Type 0) (xs : List A) (most : ℕ) → ((x : A) → P x → size x ≤ length (f x)) → length (flat_map f xs) ≤ most → All P xs →
    All (λ x. size x ≤ most) xs
one_within f size P xs most fits whole all = λ k d below. omega (arith, length-flat_map-take f xs k d below, fits _ (all k d below), whole)

-- the formats and the functions stand in the text
formats_inside : (code : Code) → length (flat_map format_line code.formats) ≤ length (code_text code)
formats_inside code =
    let rest = back_of code (line (codes "end")) in
    let a = line (codes "emu-code 1") in let b = count_line (codes "globals") code.globals in let c = count_line (codes "replicated") code.replicated in
    let d = count_line (codes "formats") (length code.formats) in let f = flat_map format_line code.formats in
    omega (arith, ap length (spread_is code), length-append a (b ++ (c ++ (d ++ (f ++ rest)))), length-append b (c ++ (d ++ (f ++ rest))), length-append c (d ++ (f ++ rest)), inside d f rest)

functions_inside : (code : Code) → length (flat_map function_text code.functions) ≤ length (code_text code)
functions_inside code =
    let rest = back_of code (line (codes "end")) in
    let a = line (codes "emu-code 1") in let b = count_line (codes "globals") code.globals in let c = count_line (codes "replicated") code.replicated in
    let d = count_line (codes "formats") (length code.formats) in let f = flat_map format_line code.formats in
    let m = count_line (codes "main") code.main in let g = flat_map function_text code.functions in
    omega (
      arith,
      ap length (spread_is code),
      length-append a (b ++ (c ++ (d ++ (f ++ rest)))),
      length-append b (c ++ (d ++ (f ++ rest))),
      length-append c (d ++ (f ++ rest)),
      length-append d (f ++ rest),
      length-append f rest,
      length-append (count_line (codes "functions") (length code.functions)) (m ++ (g ++ line (codes "end"))),
      inside m g (line (codes "end")),
    )

-- no list of a code is longer than its text
code_within : (code : Code) (size : ℕ) → All IsPlaced code.functions → length (code_text code) ≤ size → IsWithin size code
code_within code size placed fits =
    let formats : length (flat_map format_line code.formats) ≤ size = omega (arith, formats_inside code, fits) in
    let functions : length (flat_map function_text code.functions) ≤ size = omega (arith, functions_inside code, fits) in
    record {
      functions = omega (arith, at_least function_text code.functions function_some, functions);
      formats = omega (arith, at_least format_line code.formats (λ format. line_some (format_text format)), formats);
      parts = one_within format_line (λ format. length format) (λ _. Unit {0}) code.formats size (λ format _. format_within format) formats (λ k d below. tt);
      bodies = one_within function_text (λ f. length f.body) IsPlaced code.functions size function_within functions placed;
      places = one_within function_text (λ f. length f.places) IsPlaced code.functions size (λ f is. omega (arith, function_within f is, is)) functions placed;
    }

-- an item that is known
known_at : {A : Type 0} (xs : List A) (g : ℕ) (x : A) → slice_get xs g ≡ Some x → (g < length xs) × (get_or xs g x ≡ x)
known_at [] g x e = absurd (grind (arith, common_steps, e))
known_at (y ∷ ys) zero x e = (omega arith, grind (arith, common_steps, e))
known_at (y ∷ ys) (suc g) x e = let deep = known_at ys g x (grind (arith, common_steps, e)) in (omega (arith, deep.0), deep.1)

-- so the code of a text that is short is short
within_short : (code : Code) (size : ℕ) → IsWithin size code → size < 2 ^ 32 → IsShort code
within_short code size is small = record {
  functions = omega (arith, is.functions, small);
  formats = omega (arith, is.formats, small);
  bodies = λ g f known.
      let at = known_at code.functions g f known in
      let fits : length f.body ≤ size = subst (λ (h : FuncCode). length h.body ≤ size) at.1 (is.bodies g f at.0) in
      omega (arith, fits, small);
}

-- what is answered
pub short_answered : (bytes : List ℕ) (r : Result Code CodeRefusal) → IfOk r (λ code. IsTextOf code bytes) → length bytes < 2 ^ 32 → IfOk r IsShort
short_answered bytes (Ok code) is small = within_short code (length bytes) (code_within code (length bytes) is.placed (omega (arith, ap length is.is_text))) small
short_answered bytes (Err refusal) is small = tt

pub lengths_answered : (bytes : List ℕ) (r : Result Code CodeRefusal) → IfOk r (λ code. IsTextOf code bytes) → IfOk r (λ code. IsWithin (length bytes) code)
lengths_answered bytes (Ok code) is = code_within code (length bytes) is.placed (omega (arith, ap length is.is_text))
lengths_answered bytes (Err refusal) is = tt
