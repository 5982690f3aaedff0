-- What each kind of tokens says of a token.
use Rattle.std.proofs.Common.{◌≡◌, ℕ, Bool, true, false, cond, List, [], Some, None, ℤ, refl, ◌∙◌, ap, codes}
use Rattle.std.proofs.lemmas.Slice.Eq.{bytes_eq-Decides}
use Prim.Native.String.{String}
use Rattle.word_ops.specs.declared.place.Pos.{Pos}
use Rattle.cilk_model.specs.Lexemes as lexeme
use Rattle.cilk_model.specs.Lexemes.{Lexeme, name, literal, text, finish, pos_of}
use Rattle.cilk_model.specs.Signs.{word, mark}
use Rattle.cilk_model.specs.Tests.{is_mark, is_word}
use Rattle.cilk_parser.specs.Kinds.{a_mark, a_word, a_name, a_literal, a_text, a_finish}
use Rattle.cilk_parser.proofs.Taking.{Tells, Takes}

-- Any token of the kind fits.
abbrev pub Any : {K : Type 0} → K → Type 0
Any k = Unit {0}

abbrev here : Pos
here = record { line = 1; column = 1 }

pub is_mark-true : (s : String) (t : Lexeme) → is_mark s t ≡ true → t ≡ mark s (pos_of t)
is_mark-true s (lexeme.mark at bytes) e = ap (λ z. lexeme.mark at z) ((bytes_eq-Decides bytes (codes s)).0 e)
is_mark-true s (lexeme.word at bytes) e = absurd cc
is_mark-true s (name at bytes) e = absurd cc
is_mark-true s (literal at v) e = absurd cc
is_mark-true s (text at bytes) e = absurd cc
is_mark-true s (finish at) e = absurd cc

pub is_word-true : (s : String) (t : Lexeme) → is_word s t ≡ true → t ≡ word s (pos_of t)
is_word-true s (lexeme.word at bytes) e = ap (λ z. lexeme.word at z) ((bytes_eq-Decides bytes (codes s)).0 e)
is_word-true s (lexeme.mark at bytes) e = absurd cc
is_word-true s (name at bytes) e = absurd cc
is_word-true s (literal at v) e = absurd cc
is_word-true s (text at bytes) e = absurd cc
is_word-true s (finish at) e = absurd cc

pub is_mark-same : (s : String) (at : Pos) → is_mark s (mark s at) ≡ true
is_mark-same s at = (bytes_eq-Decides (codes s) (codes s)).1 refl

pub is_word-same : (s : String) (at : Pos) → is_word s (word s at) ≡ true
is_word-same s at = (bytes_eq-Decides (codes s) (codes s)).1 refl

-- A condition that gave something held, and gave what it gives.
given : {A : Type 0} (b : Bool) (x k : A) → cond b (Some x) None ≡ Some k → (b ≡ true) × (x ≡ k)
given true x k e = (refl, cc)
given false x k e = absurd cc

marked : (s : String) (t : Lexeme) (k : Pos) → a_mark s t ≡ Some k → t ≡ mark s k
marked s t k e = let d = given (is_mark s t) (pos_of t) k e in is_mark-true s t d.0 ∙ ap (mark s) d.1

worded : (s : String) (t : Lexeme) (k : Pos) → a_word s t ≡ Some k → t ≡ word s k
worded s t k e = let d = given (is_word s t) (pos_of t) k e in is_word-true s t d.0 ∙ ap (word s) d.1

pub tells_mark : (s : String) → Tells (a_mark s) (mark s) Any
tells_mark s = record {
  says = λ t k e. (marked s t k e, tt);
  shown = λ k fit. ap (λ b. cond b (Some k) None) (is_mark-same s k);
}

pub tells_word : (s : String) → Tells (a_word s) (word s) Any
tells_word s = record {
  says = λ t k e. (worded s t k e, tt);
  shown = λ k fit. ap (λ b. cond b (Some k) None) (is_word-same s k);
}

abbrev pub named : Pos × List ℕ → Lexeme
named k = name (k.0) (k.1)

abbrev pub valued : Pos × ℤ → Lexeme
valued k = literal (k.0) (k.1)

abbrev pub quoted : Pos × List ℕ → Lexeme
quoted k = text (k.0) (k.1)

is_named : (t : Lexeme) (k : Pos × List ℕ) → a_name t ≡ Some k → t ≡ named k
is_named (name at x) k e = let d : (at, x) ≡ k = cc in ap named d
is_named (lexeme.word at x) k e = absurd cc
is_named (lexeme.mark at x) k e = absurd cc
is_named (literal at v) k e = absurd cc
is_named (text at x) k e = absurd cc
is_named (finish at) k e = absurd cc

is_valued : (t : Lexeme) (k : Pos × ℤ) → a_literal t ≡ Some k → t ≡ valued k
is_valued (literal at x) k e = let d : (at, x) ≡ k = cc in ap valued d
is_valued (lexeme.word at x) k e = absurd cc
is_valued (lexeme.mark at x) k e = absurd cc
is_valued (name at v) k e = absurd cc
is_valued (text at x) k e = absurd cc
is_valued (finish at) k e = absurd cc

is_quoted : (t : Lexeme) (k : Pos × List ℕ) → a_text t ≡ Some k → t ≡ quoted k
is_quoted (text at x) k e = let d : (at, x) ≡ k = cc in ap quoted d
is_quoted (lexeme.word at x) k e = absurd cc
is_quoted (lexeme.mark at x) k e = absurd cc
is_quoted (name at v) k e = absurd cc
is_quoted (literal at x) k e = absurd cc
is_quoted (finish at) k e = absurd cc

is_end : (t : Lexeme) (k : Pos) → a_finish t ≡ Some k → t ≡ finish k
is_end (finish at) k e = let d : at ≡ k = cc in ap finish d
is_end (lexeme.word at x) k e = absurd cc
is_end (lexeme.mark at x) k e = absurd cc
is_end (name at v) k e = absurd cc
is_end (literal at x) k e = absurd cc
is_end (text at x) k e = absurd cc

pub tells_name : Tells a_name named Any
tells_name = record { says = λ t k e. (is_named t k e, tt); shown = λ k fit. refl }

pub tells_literal : Tells a_literal valued Any
tells_literal = record { says = λ t k e. (is_valued t k e, tt); shown = λ k fit. refl }

pub tells_text : Tells a_text quoted Any
tells_text = record { says = λ t k e. (is_quoted t k e, tt); shown = λ k fit. refl }

pub tells_finish : Tells a_finish finish Any
tells_finish = record { says = λ t k e. (is_end t k e, tt); shown = λ k fit. refl }

-- ---- To be taken

pub take_mark : (s : String) → Takes (a_mark s) (mark s) Any
take_mark s = record { tells = tells_mark s; sample = here; fits = tt }

pub take_word : (s : String) → Takes (a_word s) (word s) Any
take_word s = record { tells = tells_word s; sample = here; fits = tt }

pub take_name : Takes a_name named Any
take_name = record { tells = tells_name; sample = (here, []); fits = tt }

pub take_text : Takes a_text quoted Any
take_text = record { tells = tells_text; sample = (here, []); fits = tt }

pub take_finish : Takes a_finish finish Any
take_finish = record { tells = tells_finish; sample = here; fits = tt }
