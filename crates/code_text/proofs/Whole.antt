-- Code is read from its text, and from no other bytes.
use Rattle.std.proofs.Common.{◌≡◌, ℕ, List, [], ◌∷◌, ◌++◌, length, codes, flat_map, Result, Ok, Err, IfOk, IfErr, refl, ap, sym, subst, ◌∙◌, arith}
use Rattle.std.specs.Prelude.{IsTrue, ⊤}
use Rattle.std.specs.List.{All, list_all}
use Rattle.word_ops.specs.Ending.{line}
use Rattle.word_ops.specs.Journal.{count_line}
use Rattle.word_ops.specs.Formats.{is_printable}
use Rattle.word_ops.specs.declared.format.Part.{Part}
use Rattle.threadlet_code.specs.declared.code.FuncCode.{FuncCode}
use Rattle.threadlet_code.specs.declared.code.Code.{Code}
use Rattle.code_text.specs.declared.fault.CodeFault.{CodeFault}
use Rattle.code_text.specs.declared.fault.CodeKind.TheVariants as kind
use Rattle.code_text.specs.declared.fault.CodeRefusal.{CodeRefusal}
use Rattle.code_text.specs.declared.fault.CodeRefusal.TheVariants.{Fault, OutOfMemory}
use Rattle.code_text.specs.CodeText.{ArePrintable, format_line, function_text, code_text}
use Rattle.code_text.specs.Reading.{said_in}
use Rattle.code_text.specs.Decoding.{Reading, then_on, on_line, many_in, pushed, one_format, one_function, over_in, small_in, large_in, front_in, back_in, all_in, told, code_in}
use Rattle.code_text.specs.Codes.{IsPlaced, IsCode, IsTextOf, IsNoText, IfFault}
use Rattle.code_text.proofs.Taken.{then_ok, on_line_sound}
use Rattle.code_text.proofs.WholeFinds.{front_of, back_of, spread_is, code_finds}
use Rattle.code_text.proofs.WholeSound.{count_sound, words_sound, format_sound, many_sound, function_sound}

-- the first lines that are read stand there
abbrev Front : Type 0
Front = ℕ × (ℕ × List (List Part))

abbrev HasFront : List ℕ → Front × List ℕ → Type 0
HasFront bytes x =
    (bytes ≡ line (codes "emu-code 1") ++ (count_line (codes "globals") x.0.0 ++ (count_line (codes "replicated") x.0.1.0
    ++ (count_line (codes "formats") (length x.0.1.1) ++ (flat_map format_line x.0.1.1 ++ x.1))))) × All (λ format. IsTrue (list_all is_printable format)) x.0.1.1

front_sound : (bytes : List ℕ) (x : Front × List ℕ) → front_in bytes ≡ Ok x → HasFront bytes x
front_sound bytes x e =
    then_ok (on_line kind.BadHead (said_in (codes "emu-code 1")) bytes) (λ head rest. then_on (small_in (codes "globals") rest) (λ globals rest. then_on (small_in (codes "replicated") rest) (λ replicated rest. then_on (large_in (codes "formats") rest) (λ size rest. then_on (many_in one_format pushed [] size rest) (λ formats rest. Ok ((globals, (replicated, formats)), rest)))))) x e (λ a head e1.
    then_ok (small_in (codes "globals") a.1) (λ globals rest. then_on (small_in (codes "replicated") rest) (λ replicated rest. then_on (large_in (codes "formats") rest) (λ size rest. then_on (many_in one_format pushed [] size rest) (λ formats rest. Ok ((globals, (replicated, formats)), rest))))) x e1 (λ g globals e2.
    then_ok (small_in (codes "replicated") g.1) (λ replicated rest. then_on (large_in (codes "formats") rest) (λ size rest. then_on (many_in one_format pushed [] size rest) (λ formats rest. Ok ((g.0, (replicated, formats)), rest)))) x e2 (λ r replicated e3.
    then_ok (large_in (codes "formats") r.1) (λ size rest. then_on (many_in one_format pushed [] size rest) (λ formats rest. Ok ((g.0, (r.0, formats)), rest))) x e3 (λ n size e4.
    then_ok (many_in one_format pushed [] n.0 n.1) (λ formats rest. Ok ((g.0, (r.0, formats)), rest)) x e4 (λ fs formats e5.
    let same : ((g.0, (r.0, fs.0)), fs.1) ≡ x = grind (arith, e5) in
    let s1 = words_sound (codes "emu-code 1") bytes a (on_line_sound kind.BadHead (said_in (codes "emu-code 1")) bytes a head) in
    let s2 = count_sound (codes "globals") _ a.1 g globals in
    let s3 = count_sound (codes "replicated") _ g.1 r replicated in
    let s4 = count_sound (codes "formats") _ r.1 n size in
    let s5 = many_sound one_format format_line (λ format. IsTrue (list_all is_printable format)) format_sound [] n.0 n.1 fs formats in
    let whole : fs.0 ≡ s5.0 = s5.1.0 in
    let count : n.0 ≡ length fs.0 = sym s5.1.1.1.1 ∙ ap length (sym whole) in
    let tail : n.1 ≡ flat_map format_line fs.0 ++ fs.1 = s5.1.1.0 ∙ ap (λ l. flat_map format_line l ++ fs.1) (sym whole) in
    let all : All (λ format. IsTrue (list_all is_printable format)) fs.0 = subst (All (λ format. IsTrue (list_all is_printable format))) (sym whole) s5.1.1.1.0 in
    subst (HasFront bytes) same (
      s1 ∙ ap (λ t. line (codes "emu-code 1") ++ t) (s2 ∙ ap (λ t. count_line (codes "globals") g.0 ++ t) (s3 ∙ ap (λ t. count_line (codes "replicated") r.0 ++ t)
          (s4 ∙ ap (λ k. count_line (codes "formats") k ++ n.1) count ∙ ap (λ t. count_line (codes "formats") (length fs.0) ++ t) tail))),
      all,
    ))))))

-- so do the functions
abbrev HasBack : List ℕ → (ℕ × List FuncCode) × List ℕ → Type 0
HasBack bytes x =
    (bytes ≡ count_line (codes "functions") (length x.0.1) ++ (count_line (codes "main") x.0.0 ++ (flat_map function_text x.0.1 ++ x.1))) × All IsPlaced x.0.1

back_sound : (bytes : List ℕ) (x : (ℕ × List FuncCode) × List ℕ) → back_in bytes ≡ Ok x → HasBack bytes x
back_sound bytes x e =
    then_ok (large_in (codes "functions") bytes) (λ size rest. then_on (small_in (codes "main") rest) (λ main rest. then_on (many_in one_function pushed [] size rest) (λ functions rest. Ok ((main, functions), rest)))) x e (λ n size e1.
    then_ok (small_in (codes "main") n.1) (λ main rest. then_on (many_in one_function pushed [] n.0 rest) (λ functions rest. Ok ((main, functions), rest))) x e1 (λ m main e2.
    then_ok (many_in one_function pushed [] n.0 m.1) (λ functions rest. Ok ((m.0, functions), rest)) x e2 (λ fs functions e3.
    let same : ((m.0, fs.0), fs.1) ≡ x = grind (arith, e3) in
    let s1 = count_sound (codes "functions") _ bytes n size in
    let s2 = count_sound (codes "main") _ n.1 m main in
    let s3 = many_sound one_function function_text IsPlaced function_sound [] n.0 m.1 fs functions in
    let whole : fs.0 ≡ s3.0 = s3.1.0 in
    let count : n.0 ≡ length fs.0 = sym s3.1.1.1.1 ∙ ap length (sym whole) in
    let tail : m.1 ≡ flat_map function_text fs.0 ++ fs.1 = s3.1.1.0 ∙ ap (λ l. flat_map function_text l ++ fs.1) (sym whole) in
    subst (HasBack bytes) same (
      s1 ∙ ap (λ k. count_line (codes "functions") k ++ n.1) count
          ∙ ap (λ t. count_line (codes "functions") (length fs.0) ++ t) (s2 ∙ ap (λ t. count_line (codes "main") m.0 ++ t) tail),
      subst (All IsPlaced) (sym whole) s3.1.1.1.0,
    ))))

-- nothing stands behind the end
over_sound : (rest : List ℕ) (x : ⊤ × List ℕ) → over_in rest ≡ Ok x → rest ≡ []
over_sound [] x e = refl
over_sound (b ∷ bs) x e = absurd (grind (arith, e))

-- the code that is read has those bytes
abbrev HasCode : List ℕ → Code → Type 0
HasCode bytes code = (bytes ≡ code_text code) × (ArePrintable code × All IsPlaced code.functions)

all_sound : (bytes : List ℕ) (x : Code × List ℕ) → all_in bytes ≡ Ok x → HasCode bytes x.0
all_sound bytes x e =
    then_ok (front_in bytes) (λ front rest. then_on (back_in rest) (λ back rest. then_on (on_line kind.BadEnd (said_in (codes "end")) rest) (λ end rest. then_on (over_in rest) (λ over rest. Ok (record { functions = back.1; main = back.0; formats = front.1.1; globals = front.0; replicated = front.1.0 }, rest))))) x e (λ f front e1.
    then_ok (back_in f.1) (λ back rest. then_on (on_line kind.BadEnd (said_in (codes "end")) rest) (λ end rest. then_on (over_in rest) (λ over rest. Ok (record { functions = back.1; main = back.0; formats = f.0.1.1; globals = f.0.0; replicated = f.0.1.0 }, rest)))) x e1 (λ b back e2.
    then_ok (on_line kind.BadEnd (said_in (codes "end")) b.1) (λ end rest. then_on (over_in rest) (λ over rest. Ok (record { functions = b.0.1; main = b.0.0; formats = f.0.1.1; globals = f.0.0; replicated = f.0.1.0 }, rest))) x e2 (λ z end e3.
    then_ok (over_in z.1) (λ over rest. Ok (record { functions = b.0.1; main = b.0.0; formats = f.0.1.1; globals = f.0.0; replicated = f.0.1.0 }, rest)) x e3 (λ o over e4.
    let code : Code = record { functions = b.0.1; main = b.0.0; formats = f.0.1.1; globals = f.0.0; replicated = f.0.1.0 } in
    let same : (code, o.1) ≡ x = grind (arith, e4) in
    let s1 = front_sound bytes f front in
    let s2 = back_sound f.1 b back in
    let s3 : b.1 ≡ line (codes "end") = words_sound (codes "end") b.1 z (on_line_sound kind.BadEnd (said_in (codes "end")) b.1 z end) ∙ ap (λ r. line (codes "end") ++ r) (over_sound z.1 o over) in
    let whole : bytes ≡ front_of code (back_of code (line (codes "end"))) = s1.0 ∙ ap (front_of code) (s2.0 ∙ ap (back_of code) s3) in
    subst (λ (y : Code × List ℕ). HasCode bytes y.0) same (whole ∙ sym (spread_is code), (s1.1, s2.1))))))

-- what is told of a reading
told_ok : (bytes : List ℕ) (r : Reading Code) (code : Code) → ((x : Code × List ℕ) → r ≡ Ok x → HasCode bytes x.0) → told bytes r ≡ Ok code → HasCode bytes code
told_ok bytes (Err stop) code sound e = absurd (grind (arith, e))
told_ok bytes (Ok x) code sound e = let same : x.0 ≡ code = grind (arith, e) in subst (HasCode bytes) same (sound x refl)

code_sound : (bytes : List ℕ) (code : Code) → code_in bytes ≡ Ok code → HasCode bytes code
code_sound bytes code e = told_ok bytes (all_in bytes) code (λ x is. all_sound bytes x is) e

-- the bytes are the text of this code alone
alone : (bytes : List ℕ) (code other : Code) → code_in bytes ≡ Ok code → IsCode other → bytes ≡ code_text other → other ≡ code
alone bytes code other e is text =
    let both : Ok other ≡ Ok code = sym (code_finds other is) ∙ ap code_in (sym text) ∙ e in
    grind (arith, both)

-- what is answered where the bytes are a code's
pub code_answered : (bytes : List ℕ) (r : Result Code CodeRefusal) → IfOk r (λ code. code_in bytes ≡ Ok code) → IfOk r (λ code. IsTextOf code bytes)
code_answered bytes (Ok code) e =
    let sound = code_sound bytes code e in
    record { is_text = sound.0; printable = sound.1.0; placed = sound.1.1; alone = λ other is text. alone bytes code other e is text }
code_answered bytes (Err refusal) e = tt

-- bytes with a broken line are no code's
no_code : (bytes : List ℕ) (fault : CodeFault) → code_in bytes ≡ Err fault → IsNoText bytes
no_code bytes fault e code is text =
    let both : Ok code ≡ Err fault = sym (code_finds code is) ∙ ap code_in (sym text) ∙ e in
    absurd (grind (arith, both))

-- what is answered where they are none
pub fault_answered : (bytes : List ℕ) (r : Result Code CodeRefusal) → IfErr r (λ f. IfFault f (λ fault. code_in bytes ≡ Err fault)) → IfErr r (λ f. IfFault f (λ _. IsNoText bytes))
fault_answered bytes (Ok code) e = tt
fault_answered bytes (Err (Fault fault)) e = no_code bytes fault e
fault_answered bytes (Err OutOfMemory) e = tt
