-- What is taken from a line stands there, and what stands there is taken.
use Rattle.std.proofs.Common.{◌≡◌, ℕ, Bool, true, false, List, [], ◌∷◌, ◌++◌, Option, Some, None, Ok, Err, if◌then◌else◌, refl, ap, sym, ◌∙◌, append_assoc, arith}
use Rattle.std.specs.Str.{bytes_eq}
use Rattle.std.proofs.lemmas.Slice.Eq.{bytes_eq-Decides}
use Rattle.word_ops.specs.Ending.{line}
use Rattle.code_text.specs.declared.fault.CodeKind.{CodeKind}
use Rattle.code_text.specs.Words.{cut}
use Rattle.code_text.specs.Reading.{kept, said_in}
use Rattle.code_text.specs.Decoding.{Reading, then_on, found, first_line, on_line}
use Rattle.code_text.proofs.Cuts.{Lacks, cut_finds, cut_sound}

-- what a choice gives, and when
if_some : {A : Type 0} (b : Bool) (x y : A) → (if b then Some x else None) ≡ Some y → (b ≡ true) × (x ≡ y)
if_some true x y e = (refl, grind (arith, e))
if_some false x y e = absurd (grind (arith, e))

-- what is kept has its text on the line
pub kept_sound : {A : Type 0} (text : A → List ℕ) (l : List ℕ) (o : Option A) (x : A) → kept text l o ≡ Some x → l ≡ text x
kept_sound text l None x e = absurd (grind (arith, e))
kept_sound text l (Some y) x e =
    let yes = if_some (bytes_eq (text y) l) y x e in
    sym ((bytes_eq-Decides (text y) l).0 yes.0) ∙ ap text yes.1

-- where the rest went well, so did what came before
pub then_ok : {A B P : Type 0} (r : Reading A) (next : A → List ℕ → Reading B) (y : B × List ℕ) → then_on r next ≡ Ok y →
    ((x : A × List ℕ) → r ≡ Ok x → next x.0 x.1 ≡ Ok y → P) → P
then_ok (Err stop) next y e k = absurd (grind (arith, e))
then_ok (Ok x) next y e k = k x refl e

-- what was found
found_ok : {A : Type 0} (kind : CodeKind) (bytes : List ℕ) (o : Option A) (rest : List ℕ) (x : A × List ℕ) → found kind bytes o rest ≡ Ok x → (o ≡ Some x.0) × (rest ≡ x.1)
found_ok kind bytes None rest x e = absurd (grind (arith, e))
found_ok kind bytes (Some y) rest x e = let same : (y, rest) ≡ x = grind (arith, e) in (ap (λ z. Some z.0) same, ap (λ z. z.1) same)

-- an item that is taken stands on the line
first_line_sound : {A : Type 0} (kind : CodeKind) (item : List ℕ → Option A) (bytes : List ℕ) (o : Option (List ℕ × List ℕ)) (x : A × List ℕ) → cut 10 bytes ≡ o →
    first_line kind item bytes o ≡ Ok x → (l : List ℕ) × ((item l ≡ Some x.0) × (bytes ≡ l ++ (10 ∷ x.1)))
first_line_sound kind item bytes None x is e = absurd (grind (arith, e))
first_line_sound kind item bytes (Some y) x is e =
    let taken = found_ok kind bytes (item y.0) y.1 x e in
    (y.0, (taken.0, cut_sound 10 bytes y is ∙ ap (λ r. y.0 ++ (10 ∷ r)) taken.1))

pub on_line_sound : {A : Type 0} (kind : CodeKind) (item : List ℕ → Option A) (bytes : List ℕ) (x : A × List ℕ) → on_line kind item bytes ≡ Ok x →
    (l : List ℕ) × ((item l ≡ Some x.0) × (bytes ≡ line l ++ x.1))
on_line_sound kind item bytes x e =
    let at = first_line_sound kind item bytes (cut 10 bytes) x refl e in
    (at.0, (at.1.0, at.1.1 ∙ sym (append_assoc at.0 (10 ∷ []) x.1)))

-- an item that stands on the line is taken
pub on_line_finds : {A : Type 0} (kind : CodeKind) (item : List ℕ → Option A) (l : List ℕ) (x : A) (rest : List ℕ) → item l ≡ Some x → Lacks 10 l →
    on_line kind item (line l ++ rest) ≡ Ok (x, rest)
on_line_finds kind item l x rest is lacks =
    ap (on_line kind item) (append_assoc l (10 ∷ []) rest) ∙ ap (first_line kind item (l ++ (10 ∷ rest))) (cut_finds 10 l rest lacks)
    ∙ ap (λ o. found kind (l ++ (10 ∷ rest)) o rest) is

-- words that are said
pub said_sound : (words l : List ℕ) → said_in words l ≡ Some tt → words ≡ l
said_sound words l e = (bytes_eq-Decides words l).0 (if_some (bytes_eq words l) tt tt e).0

pub said_finds : (words : List ℕ) → said_in words words ≡ Some tt
said_finds words = ap (λ b. if b then Some tt else None) ((bytes_eq-Decides words words).1 refl)

-- what is done behind what was read
pub then_on_finds : {A B : Type 0} (r : Reading A) (next : A → List ℕ → Reading B) (x : A) (rest : List ℕ) → r ≡ Ok (x, rest) → then_on r next ≡ next x rest
then_on_finds r next x rest e = ap (λ r. then_on r next) e
