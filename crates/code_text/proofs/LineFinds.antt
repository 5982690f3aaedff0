-- What lines say is read from them.
use Rattle.std.proofs.Common.{◌≡◌, ◌≤◌, ◌<◌, ◌^◌, ◌==◌, ℕ, true, false, List, [], ◌∷◌, ◌++◌, codes, Option, Some, None, if◌then◌else◌, flat_map, refl, ap, sym, ◌∙◌, append_assoc, arith}
use Rattle.std.specs.Prelude.{Bool, not}
use Rattle.std.specs.Option.{option_and_then}
use Rattle.std.specs.Fmt.{decimal}
use Rattle.std.specs.List.{fold, list_all}
use Rattle.std.proofs.lemmas.Grind.{common_steps}
use Rattle.std.proofs.lemmas.List.{append-nil}
use Rattle.std.proofs.lemmas.Slice.Eq.{bytes_eq-Decides}
use Rattle.word_ops.specs.Numbers.{count_in}
use Rattle.word_ops.specs.Formats.{is_printable}
use Rattle.word_ops.specs.declared.format.Part.{Part}
use Rattle.word_ops.specs.declared.format.Part.TheVariants.{Byte, Long}
use Rattle.code_text.specs.declared.due.Due.{Due}
use Rattle.code_text.specs.declared.due.Due.TheVariants.{Any, Escaped, Percent}
use Rattle.code_text.specs.Lines.{part_text, format_text}
use Rattle.code_text.specs.Words.{cut}
use Rattle.code_text.specs.Reading.{kept, counted, counted_in, part_at, with_part, read_on, format_like, printable_in, format_in}
use Rattle.code_text.proofs.Cuts.{Lacks, lacks_both, cut_finds}
use Rattle.code_text.proofs.Numerals.{lacks_decimal, count_finds}

-- what was found is kept where its text is the line
pub kept_finds : {A : Type 0} (text : A → List ℕ) (x : A) (o : Option A) → o ≡ Some x → kept text (text x) o ≡ Some x
kept_finds text x o e = ap (kept text (text x)) e ∙ ap (λ b. if b then Some x else None) ((bytes_eq-Decides (text x) (text x)).1 refl)

-- a number behind a word
pub counted_finds : (word : List ℕ) (n most : ℕ) → Lacks 32 word → n ≤ most → most < 2 ^ 64 → counted_in word most (counted word n) ≡ Some n
counted_finds word n most lacks within small =
    kept_finds (counted word) n (option_and_then (λ (x : List ℕ × List ℕ). count_in x.1 0 most) (cut 32 (counted word n)))
    (ap (λ t. option_and_then (λ (x : List ℕ × List ℕ). count_in x.1 0 most) (cut 32 t)) (append_assoc word (32 ∷ []) (decimal n))
    ∙ ap (option_and_then (λ (x : List ℕ × List ℕ). count_in x.1 0 most)) (cut_finds 32 word (decimal n) lacks) ∙ count_finds n 0 most (omega arith, within) small)

pub lacks_counted : (word : List ℕ) (n most : ℕ) → Lacks 10 word → n ≤ most → most < 2 ^ 64 → Lacks 10 (counted word n)
lacks_counted word n most lacks within small = lacks_both 10 (word ++ 32 ∷ []) (decimal n) (lacks_both 10 word (32 ∷ []) lacks (refl, tt)) (lacks_decimal 10 n refl (omega (arith, within, small)))

-- a byte of a literal, by how it is spelled
byte_read : (b : ℕ) (done : List Part) (rest : List ℕ) (ten back quote percent : Bool) → (b == 10) ≡ ten → (b == 92) ≡ back → (b == 34) ≡ quote → (b == 37) ≡ percent →
    fold read_on (done, Any) ((if ten then codes "\\n" else (if back then codes "\\\\" else (if quote then codes "\\\"" else (if percent then codes "%%" else b ∷ [])))) ++ rest)
    ≡ fold read_on (done ++ Byte b ∷ [], Any) rest
byte_read b done rest true back quote percent t k q p = let same : 10 ≡ b = grind (arith, t) in ap (λ c. fold read_on (done ++ Byte c ∷ [], Any) rest) same
byte_read b done rest false true quote percent t k q p = let same : 92 ≡ b = grind (arith, k) in ap (λ c. fold read_on (done ++ Byte c ∷ [], Any) rest) same
byte_read b done rest false false true percent t k q p = let same : 34 ≡ b = grind (arith, q) in ap (λ c. fold read_on (done ++ Byte c ∷ [], Any) rest) same
byte_read b done rest false false false true t k q p = let same : 37 ≡ b = grind (arith, p) in ap (λ c. fold read_on (done ++ Byte c ∷ [], Any) rest) same
byte_read b done rest false false false false t k q p =
    let plain : part_at Any b ≡ (Some (Byte b), Any) =
    ap (λ c. if c then (None, Escaped) else (if b == 37 then (None, Percent) else (if b == 34 then (None, Any) else (Some (Byte b), Any)))) k
    ∙ ap (λ c. if c then (None, Percent) else (if b == 34 then (None, Any) else (Some (Byte b), Any))) p
    ∙ ap (λ c. if c then (None, Any) else (Some (Byte b), Any)) q in
    ap (λ (x : Option Part × Due). fold read_on (with_part done x.0, x.1) rest) plain

part_read : (p : Part) (done : List Part) (rest : List ℕ) → fold read_on (done, Any) (part_text p ++ rest) ≡ fold read_on (done ++ p ∷ [], Any) rest
part_read (Byte b) done rest = byte_read b done rest (b == 10) (b == 92) (b == 34) (b == 37) refl refl refl refl
part_read Long done rest = refl

parts_read : (format done : List Part) (rest : List ℕ) → fold read_on (done, Any) (flat_map part_text format ++ rest) ≡ fold read_on (done ++ format, Any) rest
parts_read [] done rest = ap (λ d. fold read_on (d, Any) rest) (sym (append-nil done))
parts_read (p ∷ format) done rest =
    ap (fold read_on (done, Any)) (append_assoc (part_text p) (flat_map part_text format) rest)
    ∙ part_read p done (flat_map part_text format ++ rest) ∙ parts_read format (done ++ p ∷ []) rest
    ∙ ap (λ d. fold read_on (d, Any) rest) (append_assoc done (p ∷ []) format)

-- a format is found
pub format_finds : (format : List Part) → list_all is_printable format ≡ true → format_in (format_text format) ≡ Some format
format_finds format printable =
    let like : format_like (flat_map part_text format ++ 34 ∷ []) ≡ format = ap (λ (x : List Part × Due). x.0) (parts_read format [] (34 ∷ [])) in
    ap (printable_in (format_text format)) like
    ∙ ap (λ b. if b then kept format_text (format_text format) (Some format) else None) printable
    ∙ kept_finds format_text format (Some format) refl

-- its text has no newline
byte_lacks : (b : ℕ) (ten back quote percent : Bool) → (b == 10) ≡ ten →
    Lacks 10 (if ten then codes "\\n" else (if back then codes "\\\\" else (if quote then codes "\\\"" else (if percent then codes "%%" else b ∷ []))))
byte_lacks b true back quote percent t = (refl, (refl, tt))
byte_lacks b false true quote percent t = (refl, (refl, tt))
byte_lacks b false false true percent t = (refl, (refl, tt))
byte_lacks b false false false true t = (refl, (refl, tt))
byte_lacks b false false false false t = (t, tt)

part_lacks : (p : Part) → Lacks 10 (part_text p)
part_lacks (Byte b) = byte_lacks b (b == 10) (b == 92) (b == 34) (b == 37) refl
part_lacks Long = (refl, (refl, (refl, tt)))

parts_lack : (format : List Part) → Lacks 10 (flat_map part_text format)
parts_lack [] = tt
parts_lack (p ∷ format) = lacks_both 10 (part_text p) (flat_map part_text format) (part_lacks p) (parts_lack format)

-- words that are known lack what they lack
pub lacks_known : (b : ℕ) (xs : List ℕ) → list_all (λ x. not (x == b)) xs ≡ true → Lacks b xs
lacks_known b [] e = tt
lacks_known b (x ∷ xs) e = (grind (arith, common_steps, e), lacks_known b xs (grind (arith, common_steps, e)))

pub lacks_format : (format : List Part) → Lacks 10 (format_text format)
lacks_format format = lacks_both 10 (codes "format \"") (flat_map part_text format ++ 34 ∷ []) (lacks_known 10 (codes "format \"") refl) (lacks_both 10 (flat_map part_text format) (34 ∷ []) (parts_lack format) (refl, tt))
