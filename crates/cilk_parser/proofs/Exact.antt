-- What reading a file says of its tokens: they spell what is read, and where reading stops no file goes on.
use Rattle.std.proofs.Common.{◌≡◌, ◌+◌, [], ◌∷◌, ◌++◌, Ok, Err, refl, sym, ◌∙◌, ap, subst, append_assoc, append-nil, arith}
use Rattle.std.proofs.lemmas.List.{append_cancel_right}
use Rattle.cilk_ast.specs.declared.tree.Tree.{Tree}
use Rattle.cilk_model.specs.Lexemes.{Lexeme, finish}
use Rattle.cilk_model.specs.Syntax.{Begins, EndsOnce}
use Rattle.cilk_model.specs.Grammar.{Row, Spells}
use Rattle.cilk_model.specs.GrammarForms.{Form, Val, file}
use Rattle.cilk_parser.specs.Parsers.{Answer}
use Rattle.cilk_parser.specs.Read.{cost, read, read_within}
use Rattle.cilk_parser.proofs.Local.{Local, first}
use Rattle.cilk_parser.proofs.LocalRead.{local_read_within}
use Rattle.cilk_parser.proofs.Fuel.{read_enough}
use Rattle.cilk_parser.proofs.Complete.{complete}
use Rattle.cilk_parser.proofs.Finishes.{file_ends, same_end}

-- ---- Reading any form is local

kept_read : (n : Form) (front rest s : Row) (x : Val n) → read n (front ++ rest) ≡ Ok (x, rest) → first s ≡ first rest → read n (front ++ s) ≡ Ok (x, s)
kept_read n front rest s x e h =
    let depth = cost n (front ++ rest) + cost n (front ++ s) in
    let d = (local_read_within depth n).reads (front ++ rest) x rest (read_enough depth n (front ++ rest) (omega arith) ∙ e) in
    let same : d.front ≡ front = append_cancel_right d.front front rest (sym d.whole) in
    sym (read_enough depth n (front ++ s) (omega arith)) ∙ ap (λ z. read_within depth n (z ++ s)) (sym same) ∙ d.kept s h

kept_stuck : (n : Form) (front rest s : Row) → read n (front ++ rest) ≡ Err rest → first s ≡ first rest → read n (front ++ s) ≡ Err s
kept_stuck n front rest s e h =
    let depth = cost n (front ++ rest) + cost n (front ++ s) in
    let d = (local_read_within depth n).stops (front ++ rest) rest (read_enough depth n (front ++ rest) (omega arith) ∙ e) in
    let same : d.front ≡ front = append_cancel_right d.front front rest (sym d.whole) in
    sym (read_enough depth n (front ++ s) (omega arith)) ∙ ap (λ z. read_within depth n (z ++ s)) (sym same) ∙ d.kept s h

pub local_read : (n : Form) → Local (read n) (Spells n)
local_read n =
    let l = local_read_within 0 n in
    record {
      reads = λ ts x rest e.
          let d = (local_read_within (cost n ts) n).reads ts x rest (read_enough (cost n ts) n ts (omega arith) ∙ e) in
          record { front = d.front; whole = d.whole; spelled = d.spelled; kept = λ s h. kept_read n d.front rest s x (ap (read n) (sym d.whole) ∙ e) h };
      stops = λ ts rest e.
          let d = (local_read_within (cost n ts) n).stops ts rest (read_enough (cost n ts) n ts (omega arith) ∙ e) in
          record { front = d.front; whole = d.whole; value = d.value; after = d.after; begun = d.begun; kept = λ s h. kept_stuck n d.front rest s (ap (read n) (sym d.whole) ∙ e) h };
      some_value = l.some_value;
      some_front = l.some_front;
      some = l.some;
    }

-- ---- Files

-- A file is read as it is spelled.
pub file_is_read : {tree : Tree} {ts : Row} → Spells file tree ts → read file ts ≡ Ok (tree, [])
file_is_read {ts = ts} h = ap (read file) (sym (append-nil ts)) ∙ (complete h [] refl).it

-- What is read as a file is spelled by a front of the tokens.
pub read_is_file : (ts rest : Row) (tree : Tree) → read file ts ≡ Ok (tree, rest) → (front : Row) × (ts ≡ front ++ rest) × Spells file tree front
read_is_file ts rest tree e = let d = (local_read file).reads ts tree rest e in (d.front, d.whole, d.spelled)

-- Where reading stops, the tokens before begin a file, and with the next one they do not.
pub stop_begins : (ts rest : Row) → read file ts ≡ Err rest → (front : Row) × (ts ≡ front ++ rest) × Begins front
stop_begins ts rest e = let d = (local_read file).stops ts rest e in (d.front, d.whole, record { after = d.after; tree = d.value; spells = d.begun })

pub stop_ends : (front rest : Row) (t : Lexeme) → read file (front ++ (t ∷ rest)) ≡ Err (t ∷ rest) → Begins (front ++ t ∷ []) → ⊥
stop_ends front rest t e b =
    let no = kept_stuck file front (t ∷ rest) (t ∷ b.after) e refl in
    let clash : ◌≡◌ {A = Answer Tree} (Err (t ∷ b.after)) (Ok (b.tree, [])) = sym no ∙ ap (read file) (sym (append_assoc front (t ∷ []) b.after)) ∙ file_is_read b.spells in
    cc

-- ---- Texts that end once

-- Nothing is left behind a file.
pub whole_is_read : {ts : Row} → EndsOnce ts → (rest : Row) (tree : Tree) → read file ts ≡ Ok (tree, rest) → (rest ≡ []) × Spells file tree ts
whole_is_read {ts} ends rest tree e =
    let d = read_is_file ts rest tree e in
    let f = file_ends d.2 in
    let same : ends.before ++ (finish ends.end ∷ []) ≡ f.before ++ (finish f.end ∷ rest) =
    sym ends.split ∙ d.1 ∙ ap (λ z. z ++ rest) f.split ∙ append_assoc f.before (finish f.end ∷ []) rest in
    let none = sym (same_end ends.unfinished f.unfinished ends.end f.end [] rest same) in
    (none, subst (λ z. Spells file tree z) (sym (d.1 ∙ ap (λ z. d.0 ++ z) none ∙ append-nil d.0)) d.2)

-- Reading does not stop behind all of it.
pub not_at_end : {ts : Row} → EndsOnce ts → read file ts ≡ Err [] → ⊥
not_at_end {ts} ends e =
    let d = stop_begins ts [] e in
    let front_is : d.0 ≡ ts = sym (d.1 ∙ append-nil d.0) in
    let whole : Spells file d.2.tree (ts ++ d.2.after) = subst (λ z. Spells file d.2.tree (z ++ d.2.after)) front_is d.2.spells in
    let f = file_ends whole in
    let same : ends.before ++ (finish ends.end ∷ d.2.after) ≡ f.before ++ (finish f.end ∷ []) =
    sym (append_assoc ends.before (finish ends.end ∷ []) d.2.after) ∙ ap (λ z. z ++ d.2.after) (sym ends.split) ∙ f.split in
    let none : d.2.after ≡ [] = same_end ends.unfinished f.unfinished ends.end f.end d.2.after [] same in
    let is_file : Spells file d.2.tree ts = subst (λ z. Spells file d.2.tree z) (ap (λ z. ts ++ z) none ∙ append-nil ts) whole in
    let clash : ◌≡◌ {A = Answer Tree} (Err []) (Ok (d.2.tree, [])) = sym e ∙ file_is_read is_file in
    cc

-- No file ends before the end of the text.
pub no_file_before : {ts : Row} → EndsOnce ts → (front rest behind : Row) (t : Lexeme) (tree : Tree) → ts ≡ front ++ (t ∷ behind) → read file front ≡ Ok (tree, rest) → ⊥
no_file_before {ts} ends front rest behind t tree w e =
    let d = read_is_file front rest tree e in
    let f = file_ends d.2 in
    let same : ends.before ++ (finish ends.end ∷ []) ≡ f.before ++ (finish f.end ∷ (rest ++ (t ∷ behind))) =
    sym ends.split ∙ w ∙ ap (λ z. z ++ (t ∷ behind)) (d.1 ∙ ap (λ z. z ++ rest) f.split ∙ append_assoc f.before (finish f.end ∷ []) rest)
    ∙ append_assoc f.before (finish f.end ∷ rest) (t ∷ behind) in
    let none : [] ≡ rest ++ (t ∷ behind) = same_end ends.unfinished f.unfinished ends.end f.end [] (rest ++ (t ∷ behind)) same in
    nothing_is_something rest none where
      nothing_is_something : (rest : Row) → ◌≡◌ {A = Row} [] (rest ++ (t ∷ behind)) → ⊥
      nothing_is_something [] g = cc
      nothing_is_something (u ∷ rest) g = cc
