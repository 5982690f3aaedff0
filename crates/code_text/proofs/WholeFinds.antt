-- The code of a text is read from it.
use Rattle.std.proofs.Common.{◌≡◌, ◌<◌, ◌^◌, ◌-◌, ℕ, suc, List, [], ◌∷◌, ◌++◌, length, codes, flat_map, Ok, refl, ap, sym, ◌∙◌, append_assoc, arith}
use Rattle.std.specs.Prelude.{IsTrue}
use Rattle.std.specs.List.{All, list_all}
use Rattle.std.proofs.lemmas.List.{append-nil}
use Rattle.word_ops.specs.Ending.{line}
use Rattle.word_ops.specs.Journal.{count_line}
use Rattle.word_ops.specs.Formats.{is_printable}
use Rattle.word_ops.specs.declared.place.Pos.{Pos}
use Rattle.word_ops.specs.declared.format.Part.{Part}
use Rattle.threadlet_code.specs.declared.instr.Instr.{Instr}
use Rattle.threadlet_code.specs.declared.code.FuncCode.{FuncCode}
use Rattle.threadlet_code.specs.declared.code.Code.{Code}
use Rattle.code_text.specs.declared.fault.CodeKind.TheVariants as kind
use Rattle.code_text.specs.declared.header.Header.{Header}
use Rattle.code_text.specs.Lines.{format_text, header_of, header_text, placed_text}
use Rattle.code_text.specs.CodeText.{body_text, format_line, function_text, code_text}
use Rattle.code_text.specs.Reading.{counted, counted_in, format_in, header_in, placed_in}
use Rattle.code_text.specs.Decoding.{Reading, on_line, many_in, pushed, one_format, one_placed, with_line, made_of, one_function, small_in, large_in, front_in, back_in, all_in, code_in, told}
use Rattle.code_text.specs.Codes.{IsInstr, IsPos, IsFunction, IsCode}
use Rattle.code_text.proofs.Cuts.{Lacks}
use Rattle.code_text.proofs.LineFinds.{counted_finds, lacks_counted, format_finds, lacks_format, lacks_known}
use Rattle.code_text.proofs.HeaderFinds.{IsHeader, header_finds, lacks_header}
use Rattle.code_text.proofs.PlacedFinds.{placed_finds, lacks_placed}
use Rattle.code_text.proofs.Taken.{on_line_finds, then_on_finds}

-- lines of numbers
small_finds : (word : List ℕ) (n : ℕ) (rest : List ℕ) → Lacks 32 word → Lacks 10 word → n < 2 ^ 32 → small_in word (count_line word n ++ rest) ≡ Ok (n, rest)
small_finds word n rest blank newline small =
    on_line_finds kind.BadCount (counted_in word (2 ^ 32 - 1)) (counted word n) n rest (counted_finds word n (2 ^ 32 - 1) blank (omega (arith, small)) (omega arith))
    (lacks_counted word n (2 ^ 32 - 1) newline (omega (arith, small)) (omega arith))

large_finds : (word : List ℕ) (n : ℕ) (rest : List ℕ) → Lacks 32 word → Lacks 10 word → n < 2 ^ 64 → large_in word (count_line word n ++ rest) ≡ Ok (n, rest)
large_finds word n rest blank newline small =
    on_line_finds kind.BadCount (counted_in word (2 ^ 64 - 1)) (counted word n) n rest (counted_finds word n (2 ^ 64 - 1) blank (omega (arith, small)) (omega arith))
    (lacks_counted word n (2 ^ 64 - 1) newline (omega (arith, small)) (omega arith))

-- items one after the other
many_finds : {A : Type 0} (one : List ℕ → Reading A) (text : A → List ℕ) (P : A → Type 0) → ((x : A) (rest : List ℕ) → P x → one (text x ++ rest) ≡ Ok (x, rest)) →
    (done xs : List A) (rest : List ℕ) → All P xs → many_in one pushed done (length xs) (flat_map text xs ++ rest) ≡ Ok (done ++ xs, rest)
many_finds one text P finds done [] rest all = ap (λ l. Ok (l, rest)) (sym (append-nil done))
many_finds one text P finds done (x ∷ xs) rest all =
    ap (many_in one pushed done (suc (length xs))) (append_assoc (text x) (flat_map text xs) rest)
    ∙ then_on_finds (one (text x ++ (flat_map text xs ++ rest))) (λ x rest. many_in one pushed (done ++ x ∷ []) (length xs) rest) x (flat_map text xs ++ rest) (finds x (flat_map text xs ++ rest) (all 0 x (omega arith)))
    ∙ many_finds one text P finds (done ++ x ∷ []) xs rest (λ k d below. all (suc k) d (omega (arith, below)))
    ∙ ap (λ l. Ok (l, rest)) (append_assoc done (x ∷ []) xs)

-- a format
one_format_finds : (format : List Part) (rest : List ℕ) → IsTrue (list_all is_printable format) → one_format (format_line format ++ rest) ≡ Ok (format, rest)
one_format_finds format rest printable = on_line_finds kind.BadText format_in (format_text format) format rest (format_finds format printable) (lacks_format format)

-- the instructions of a function
body_finds : (h : Header) (ps more : List Pos) (is rest_is : List Instr) (rest : List ℕ) → length more ≡ length rest_is → All IsPos more → All IsInstr rest_is →
    many_in one_placed with_line (made_of h ps is) (length rest_is) (body_text more rest_is ++ rest) ≡ Ok (made_of h (ps ++ more) (is ++ rest_is), rest)
body_finds h ps [] is [] rest same all_p all_i = ap (λ l. Ok (made_of h l is, rest)) (sym (append-nil ps)) ∙ ap (λ l. Ok (made_of h (ps ++ []) l, rest)) (sym (append-nil is))
body_finds h ps [] is (i ∷ more_is) rest same all_p all_i = absurd (omega (arith, same))
body_finds h ps (p ∷ more) is [] rest same all_p all_i = absurd (omega (arith, same))
body_finds h ps (p ∷ more) is (i ∷ more_is) rest same all_p all_i =
    let here : one_placed (line (placed_text p i) ++ (body_text more more_is ++ rest)) ≡ Ok ((p, i), body_text more more_is ++ rest) =
    on_line_finds kind.BadInstr placed_in (placed_text p i) (p, i) (body_text more more_is ++ rest) (placed_finds p i (all_p 0 p (omega arith)) (all_i 0 i (omega arith))) (lacks_placed p i (all_p 0 p (omega arith)) (all_i 0 i (omega arith))) in
    ap (many_in one_placed with_line (made_of h ps is) (suc (length more_is))) (append_assoc (line (placed_text p i)) (body_text more more_is) rest)
    ∙ then_on_finds (one_placed (line (placed_text p i) ++ (body_text more more_is ++ rest))) (λ x rest. many_in one_placed with_line (with_line (made_of h ps is) x) (length more_is) rest) (p, i) (body_text more more_is ++ rest) here
    ∙ body_finds h (ps ++ p ∷ []) more (is ++ i ∷ []) more_is rest (omega (arith, same)) (λ k d below. all_p (suc k) d (omega (arith, below))) (λ k d below. all_i (suc k) d (omega (arith, below)))
    ∙ ap (λ l. Ok (made_of h l (is ++ i ∷ [] ++ more_is), rest)) (append_assoc ps (p ∷ []) more) ∙ ap (λ l. Ok (made_of h (ps ++ (p ∷ more)) l, rest)) (append_assoc is (i ∷ []) more_is)

-- a function
function_finds : (f : FuncCode) (rest : List ℕ) → IsFunction f → one_function (function_text f ++ rest) ≡ Ok (f, rest)
function_finds f rest is =
    let h = header_of f in
    let is_header : IsHeader h = record { params = is.params; slots = is.slots; height = is.height; size = is.size } in
    ap one_function (append_assoc (line (header_text h)) (body_text f.places f.body) rest)
    ∙ then_on_finds (on_line kind.BadHeader header_in (line (header_text h) ++ (body_text f.places f.body ++ rest))) (λ h rest. many_in one_placed with_line (made_of h [] []) h.length rest) h (body_text f.places f.body ++ rest)
    (on_line_finds kind.BadHeader header_in (header_text h) h (body_text f.places f.body ++ rest) (header_finds h is_header) (lacks_header h is_header))
    ∙ body_finds h [] f.places [] f.body rest is.placed is.places is.body

-- nine pieces joined from either end
unjoin : (a b c d e f g h i : List ℕ) → a ++ b ++ c ++ d ++ e ++ f ++ g ++ h ++ i ≡ a ++ (b ++ (c ++ (d ++ (e ++ (f ++ (g ++ (h ++ i)))))))
unjoin a b c d e f g h i =
    append_assoc (a ++ b ++ c ++ d ++ e ++ f ++ g) h i ∙ append_assoc (a ++ b ++ c ++ d ++ e ++ f) g (h ++ i) ∙ append_assoc (a ++ b ++ c ++ d ++ e) f (g ++ (h ++ i))
    ∙ append_assoc (a ++ b ++ c ++ d) e (f ++ (g ++ (h ++ i))) ∙ append_assoc (a ++ b ++ c) d (e ++ (f ++ (g ++ (h ++ i)))) ∙ append_assoc (a ++ b) c (d ++ (e ++ (f ++ (g ++ (h ++ i)))))
    ∙ append_assoc a b (c ++ (d ++ (e ++ (f ++ (g ++ (h ++ i))))))

-- the text from the functions on
abbrev pub back_of : Code → List ℕ → List ℕ
back_of code rest = count_line (codes "functions") (length code.functions) ++ (count_line (codes "main") code.main ++ (flat_map function_text code.functions ++ rest))

-- the text before them
abbrev pub front_of : Code → List ℕ → List ℕ
front_of code rest =
    line (codes "emu-code 1") ++ (count_line (codes "globals") code.globals ++ (count_line (codes "replicated") code.replicated
    ++ (count_line (codes "formats") (length code.formats) ++ (flat_map format_line code.formats ++ rest))))

pub spread_is : (code : Code) → code_text code ≡ front_of code (back_of code (line (codes "end")))
spread_is code =
    unjoin (line (codes "emu-code 1")) (count_line (codes "globals") code.globals) (count_line (codes "replicated") code.replicated) (count_line (codes "formats") (length code.formats)) (flat_map format_line code.formats)
    (count_line (codes "functions") (length code.functions)) (count_line (codes "main") code.main) (flat_map function_text code.functions) (line (codes "end"))

front_finds : (code : Code) (rest : List ℕ) → IsCode code → front_in (front_of code rest) ≡ Ok ((code.globals, (code.replicated, code.formats)), rest)
front_finds code rest is =
    let t4 = flat_map format_line code.formats ++ rest in
    let t3 = count_line (codes "formats") (length code.formats) ++ t4 in
    let t2 = count_line (codes "replicated") code.replicated ++ t3 in
    let t1 = count_line (codes "globals") code.globals ++ t2 in
    then_on_finds (small_in (codes "globals") t1) _ code.globals t2 (small_finds (codes "globals") code.globals t2 (lacks_known 32 (codes "globals") refl) (lacks_known 10 (codes "globals") refl) is.globals)
    ∙ (then_on_finds (small_in (codes "replicated") t2) _ code.replicated t3 (small_finds (codes "replicated") code.replicated t3 (lacks_known 32 (codes "replicated") refl) (lacks_known 10 (codes "replicated") refl) is.replicated)
    ∙ (then_on_finds (large_in (codes "formats") t3) _ (length code.formats) t4 (large_finds (codes "formats") (length code.formats) t4 (lacks_known 32 (codes "formats") refl) (lacks_known 10 (codes "formats") refl) is.formats)
    ∙ then_on_finds (many_in one_format pushed [] (length code.formats) t4) _ code.formats rest (many_finds one_format format_line (λ format. IsTrue (list_all is_printable format)) one_format_finds [] code.formats rest is.printable)))

back_finds : (code : Code) (rest : List ℕ) → IsCode code → back_in (back_of code rest) ≡ Ok ((code.main, code.functions), rest)
back_finds code rest is =
    let t2 = flat_map function_text code.functions ++ rest in
    let t1 = count_line (codes "main") code.main ++ t2 in
    then_on_finds (large_in (codes "functions") (count_line (codes "functions") (length code.functions) ++ t1)) _ (length code.functions) t1 (large_finds (codes "functions") (length code.functions) t1 (lacks_known 32 (codes "functions") refl) (lacks_known 10 (codes "functions") refl) is.size)
    ∙ then_on_finds (small_in (codes "main") t1) _ code.main t2 (small_finds (codes "main") code.main t2 (lacks_known 32 (codes "main") refl) (lacks_known 10 (codes "main") refl) is.main)
    ∙ then_on_finds (many_in one_function pushed [] (length code.functions) t2) _ code.functions rest (many_finds one_function function_text IsFunction function_finds [] code.functions rest is.functions)

all_finds : (code : Code) → IsCode code → all_in (front_of code (back_of code (line (codes "end")))) ≡ Ok (code, [])
all_finds code is =
    let t2 = line (codes "end") in let t1 = back_of code t2 in
    then_on_finds (front_in (front_of code t1)) _ (code.globals, (code.replicated, code.formats)) t1 (front_finds code t1 is)
    ∙ then_on_finds (back_in t1) _ (code.main, code.functions) t2 (back_finds code t2 is)

-- the bytes of a code are read as that code
pub code_finds : (code : Code) → IsCode code → code_in (code_text code) ≡ Ok code
code_finds code is = ap code_in (spread_is code) ∙ ap (told (front_of code (back_of code (line (codes "end"))))) (all_finds code is)
