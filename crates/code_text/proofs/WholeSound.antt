-- What is read of a text stands there.
use Rattle.std.proofs.Common.{◌≡◌, ℕ, zero, suc, Bool, true, false, List, [], ◌∷◌, ◌++◌, length, flat_map, Option, Some, None, Ok, if◌then◌else◌, refl, ap, sym, subst, ◌∙◌, append_assoc, arith}
use Rattle.std.specs.Prelude.{IsTrue, ⊤}
use Rattle.std.specs.List.{All, list_all}
use Rattle.std.specs.Option.{option_and_then}
use Rattle.std.specs.Str.{bytes_eq}
use Rattle.std.proofs.lemmas.List.{append-nil}
use Rattle.std.proofs.lemmas.List.Elements.{All-cons}
use Rattle.word_ops.specs.Ending.{line}
use Rattle.word_ops.specs.Journal.{count_line}
use Rattle.word_ops.specs.Formats.{is_printable}
use Rattle.word_ops.specs.Numbers.{count_in}
use Rattle.word_ops.specs.declared.place.Pos.{Pos}
use Rattle.word_ops.specs.declared.format.Part.{Part}
use Rattle.threadlet_code.specs.declared.instr.Instr.{Instr}
use Rattle.threadlet_code.specs.declared.code.FuncCode.{FuncCode}
use Rattle.code_text.specs.declared.fault.CodeKind.TheVariants as kind
use Rattle.code_text.specs.declared.header.Header.{Header}
use Rattle.code_text.specs.Lines.{format_text, header_of, header_text, placed_text}
use Rattle.code_text.specs.CodeText.{body_text, format_line, function_text}
use Rattle.code_text.specs.Words.{cut}
use Rattle.code_text.specs.Reading.{said_in, kept, counted, counted_in, format_like, printable_in, format_in, header_like, header_in, placed_like, placed_in}
use Rattle.code_text.specs.Decoding.{Reading, on_line, many_in, pushed, one_format, one_placed, with_line, made_of, one_function}
use Rattle.code_text.specs.Codes.{IsPlaced}
use Rattle.code_text.proofs.Taken.{kept_sound, then_ok, on_line_sound, said_sound}

-- a line of a number that is read stands there
pub count_sound : (word : List ℕ) (most : ℕ) (bytes : List ℕ) (x : ℕ × List ℕ) → on_line kind.BadCount (counted_in word most) bytes ≡ Ok x → bytes ≡ count_line word x.0 ++ x.1
count_sound word most bytes x e =
    let at = on_line_sound kind.BadCount (counted_in word most) bytes x e in
    at.1.1 ∙ ap (λ l. line l ++ x.1) (kept_sound (counted word) at.0 (option_and_then (λ (y : List ℕ × List ℕ). count_in y.1 0 most) (cut 32 at.0)) x.0 at.1.0)

-- a line of words that is read stands there
pub words_sound : (words bytes : List ℕ) (x : ⊤ × List ℕ) (at : (l : List ℕ) × ((said_in words l ≡ Some x.0) × (bytes ≡ line l ++ x.1))) → bytes ≡ line words ++ x.1
words_sound words bytes x at = at.1.1 ∙ ap (λ l. line l ++ x.1) (sym (said_sound words at.0 at.1.0))

-- a format that is read is printable and stands there
printable_sound : (l : List ℕ) (format x : List Part) (b : Bool) → list_all is_printable format ≡ b → (if b then kept format_text l (Some format) else None) ≡ Some x →
    (l ≡ format_text x) × (list_all is_printable x ≡ true)
printable_sound l format x true is e =
    let text = kept_sound format_text l (Some format) x e in
    (text, subst (λ f. list_all is_printable f ≡ true) (kept_same (bytes_eq (format_text format) l) e) is)
  where
    kept_same : (b : Bool) → (if b then Some format else None) ≡ Some x → format ≡ x
    kept_same true e = grind (arith, e)
    kept_same false e = absurd (grind (arith, e))
printable_sound l format x false is e = absurd (grind (arith, e))

format_at : (l : List ℕ) (o : Option (List ℕ × List ℕ)) (x : List Part) → option_and_then (λ (y : List ℕ × List ℕ). printable_in l (format_like y.1)) o ≡ Some x →
    (l ≡ format_text x) × (list_all is_printable x ≡ true)
format_at l None x e = absurd (grind (arith, e))
format_at l (Some y) x e = printable_sound l (format_like y.1) x (list_all is_printable (format_like y.1)) refl e

pub format_sound : (bytes : List ℕ) (x : List Part × List ℕ) → one_format bytes ≡ Ok x → (bytes ≡ format_line x.0 ++ x.1) × IsTrue (list_all is_printable x.0)
format_sound bytes x e =
    let at = on_line_sound kind.BadText format_in bytes x e in
    let f = format_at at.0 (cut 34 at.0) x.0 at.1.0 in
    (at.1.1 ∙ ap (λ l. line l ++ x.1) f.0, f.1)

-- items that are read stand there one after the other
abbrev pub HasItems : {A : Type 0} → (A → List ℕ) → (A → Type 0) → List A → ℕ → List ℕ → List A × List ℕ → Type 0
HasItems text P done n bytes y = (more : List _) × ((y.0 ≡ done ++ more) × ((bytes ≡ flat_map text more ++ y.1) × (All P more × (length more ≡ n))))

pub many_sound : {A : Type 0} (one : List ℕ → Reading A) (text : A → List ℕ) (P : A → Type 0) → ((bytes : List ℕ) (x : A × List ℕ) → one bytes ≡ Ok x → (bytes ≡ text x.0 ++ x.1) × P x.0) →
    (done : List A) (n : ℕ) (bytes : List ℕ) (y : List A × List ℕ) → many_in one pushed done n bytes ≡ Ok y → HasItems text P done n bytes y
many_sound one text P sound done zero bytes y e =
    let same : (done, bytes) ≡ y = grind (arith, e) in
    subst (HasItems text P done zero bytes) same ([], (sym (append-nil done), (refl, ((λ k d below. absurd (omega (arith, below))), refl))))
many_sound one text P sound done (suc n) bytes y e =
    then_ok (one bytes) (λ x rest. many_in one pushed (done ++ x ∷ []) n rest) y e (λ x found rest.
    let here = sound bytes x found in
    let there = many_sound one text P sound (done ++ x.0 ∷ []) n x.1 y rest in (
      x.0 ∷ there.0,
      (
        there.1.0 ∙ append_assoc done (x.0 ∷ []) there.0,
        (
          here.0 ∙ ap (λ t. text x.0 ++ t) there.1.1.0 ∙ sym (append_assoc (text x.0) (flat_map text there.0) y.1),
          (All-cons P x.0 there.0 here.1 there.1.1.1.0, ap suc there.1.1.1.1),
        ),
      ),
    ))

-- instructions that are read stand there
abbrev HasBody : Header → List Pos → List Instr → ℕ → List ℕ → FuncCode × List ℕ → Type 0
HasBody h ps is n bytes y =
    (qs : List Pos) × (js : List Instr) × ((y.0 ≡ made_of h (ps ++ qs) (is ++ js)) × ((bytes ≡ body_text qs js ++ y.1) × ((length qs ≡ n) × (length js ≡ n))))

body_sound : (h : Header) (ps : List Pos) (is : List Instr) (n : ℕ) (bytes : List ℕ) (y : FuncCode × List ℕ) → many_in one_placed with_line (made_of h ps is) n bytes ≡ Ok y → HasBody h ps is n bytes y
body_sound h ps is zero bytes y e =
    let same : (made_of h ps is, bytes) ≡ y = grind (arith, e) in
    subst (HasBody h ps is zero bytes) same ([], [], (ap (λ l. made_of h l is) (sym (append-nil ps)) ∙ ap (λ l. made_of h (ps ++ []) l) (sym (append-nil is)), (refl, (refl, refl))))
body_sound h ps is (suc n) bytes y e =
    then_ok (one_placed bytes) (λ x rest. many_in one_placed with_line (with_line (made_of h ps is) x) n rest) y e (λ x found rest.
    let at = on_line_sound kind.BadInstr placed_in bytes x found in
    let l = kept_sound (λ (z : Pos × Instr). placed_text z.0 z.1) at.0 (placed_like at.0) x.0 at.1.0 in
    let p = x.0.0 in let i = x.0.1 in
    let there = body_sound h (ps ++ p ∷ []) (is ++ i ∷ []) n x.1 y rest in (
      p ∷ there.0,
      i ∷ there.1,
      (
        there.2.0 ∙ ap (λ t. made_of h t (is ++ i ∷ [] ++ there.1)) (append_assoc ps (p ∷ []) there.0) ∙ ap (λ t. made_of h (ps ++ (p ∷ there.0)) t) (append_assoc is (i ∷ []) there.1),
        (
          at.1.1 ∙ ap (λ t. line t ++ x.1) l ∙ ap (λ t. line (placed_text p i) ++ t) there.2.1.0 ∙ sym (append_assoc (line (placed_text p i)) (body_text there.0 there.1) y.1),
          (ap suc there.2.1.1.0, ap suc there.2.1.1.1),
        ),
      ),
    ))

-- a function that is read stands there
abbrev pub HasFunction : List ℕ → FuncCode × List ℕ → Type 0
HasFunction bytes x = (bytes ≡ function_text x.0 ++ x.1) × IsPlaced x.0

pub function_sound : (bytes : List ℕ) (x : FuncCode × List ℕ) → one_function bytes ≡ Ok x → HasFunction bytes x
function_sound bytes x e =
    then_ok (on_line kind.BadHeader header_in bytes) (λ h rest. many_in one_placed with_line (made_of h [] []) h.length rest) x e (λ h found rest.
    let at = on_line_sound kind.BadHeader header_in bytes h found in
    let l = kept_sound header_text at.0 (header_like at.0) h.0 at.1.0 in
    let b = body_sound h.0 [] [] h.0.length h.1 x rest in
    let f = made_of h.0 b.0 b.1 in
    let head : h.0 ≡ header_of f = ap (λ n. record { params = h.0.params; slots = h.0.slots; height = h.0.height; spawns = h.0.spawns; length = n }) (sym b.2.1.1.1) in
    let stands : bytes ≡ function_text f ++ x.1 =
    at.1.1 ∙ ap (λ t. line t ++ h.1) l ∙ ap (λ t. line (header_text h.0) ++ t) b.2.1.0 ∙ ap (λ k. line (header_text k) ++ (body_text b.0 b.1 ++ x.1)) head
    ∙ sym (append_assoc (line (header_text (header_of f))) (body_text b.0 b.1) x.1) in
    subst (λ g. (bytes ≡ function_text g ++ x.1) × IsPlaced g) (sym b.2.0) (stands, b.2.1.1.0 ∙ sym b.2.1.1.1))
