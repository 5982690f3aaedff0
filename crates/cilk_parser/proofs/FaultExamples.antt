-- Some texts that spell no tree, and their faults.
use Rattle.std.proofs.Common.{◌≡◌, ℕ, zero, suc, List, [], ◌∷◌, Err, refl, codes, pos}
use Rattle.word_ops.specs.declared.place.Pos.{Pos}
use Rattle.cilk_ast.specs.declared.fault.FaultKind.TheVariants.{TooDeep, Unexpected}
use Rattle.cilk_model.specs.Lexemes.{Lexeme, name, text, literal, finish}
use Rattle.cilk_model.specs.Signs.{word, mark}
use Rattle.cilk_model.specs.Levels.{shallow_part}
use Rattle.cilk_model.specs.Syntax.{SyntaxFault}
use Rattle.cilk_model.specs.GrammarForms.{file}
use Rattle.cilk_parser.specs.Reading.{body_of}
use Rattle.cilk_parser.specs.Read.{read, read_within}
use Rattle.cilk_parser.proofs.Parsed.{unexpected_at, too_deep_at}

abbrev c : ℕ → Pos
c n = record { line = 1; column = n }

abbrev before_body : List Lexeme → List Lexeme
before_body ts = word "int" (c 1) ∷ name (c 5) (codes "main") ∷ mark "(" (c 9) ∷ mark ")" (c 10) ∷ mark "{" (c 12) ∷ ts

-- ---- `int main() { return 0 }`: the `;` is missing

abbrev without_semicolon : List Lexeme
without_semicolon = before_body (word "return" (c 14) ∷ literal (c 21) (pos 0) ∷ mark "}" (c 23) ∷ finish (c 24) ∷ [])

stops_at_brace : read file (shallow_part without_semicolon) ≡ Err (mark "}" (c 23) ∷ finish (c 24) ∷ [])
unfolding read read_within body_of
stops_at_brace = refl

brace_is_unexpected : SyntaxFault without_semicolon (record { pos = c 23; kind = Unexpected })
brace_is_unexpected = unexpected_at without_semicolon (finish (c 24) ∷ []) (mark "}" (c 23)) stops_at_brace

-- ---- `int`: no name follows

stops_behind_int : read file (shallow_part (word "int" (c 1) ∷ finish (c 4) ∷ [])) ≡ Err (finish (c 4) ∷ [])
unfolding read read_within body_of
stops_behind_int = refl

the_end_is_unexpected : SyntaxFault (word "int" (c 1) ∷ finish (c 4) ∷ []) (record { pos = c 4; kind = Unexpected })
the_end_is_unexpected = unexpected_at (word "int" (c 1) ∷ finish (c 4) ∷ []) [] (finish (c 4)) stops_behind_int

-- ---- `int main() { printf("%ld\n", 2 + 3 * 4); return 0;`: the block does not end

abbrev without_brace : List Lexeme
without_brace =
    before_body (word "printf" (c 14) ∷ mark "(" (c 20) ∷ text (c 21) (codes "%ld\\n") ∷ mark "," (c 28) ∷ literal (c 30) (pos 2) ∷ mark "+" (c 32) ∷ literal (c 34) (pos 3)
    ∷ mark "*" (c 36) ∷ literal (c 38) (pos 4) ∷ mark ")" (c 39) ∷ mark ";" (c 40) ∷ word "return" (c 42) ∷ literal (c 49) (pos 0) ∷ mark ";" (c 50) ∷ finish (c 52) ∷ [])

stops_in_block : read file (shallow_part without_brace) ≡ Err (finish (c 52) ∷ [])
unfolding read read_within body_of
stops_in_block = refl

no_end_is_unexpected : SyntaxFault without_brace (record { pos = c 52; kind = Unexpected })
no_end_is_unexpected = unexpected_at without_brace [] (finish (c 52)) stops_in_block

-- ---- `int main() { return ((..`: brackets up to the limit

abbrev brackets : ℕ → ℕ → List Lexeme → List Lexeme
brackets zero column ts = ts
brackets (suc n) column ts = mark "(" (c column) ∷ brackets n (suc column) ts

abbrev too_many : List Lexeme
too_many = before_body (word "return" (c 14) ∷ brackets 64 21 (finish (c 85) ∷ []))

stops_at_limit : read file (shallow_part too_many) ≡ Err []
unfolding read read_within body_of
stops_at_limit = refl

the_last_is_too_deep : SyntaxFault too_many (record { pos = c 84; kind = TooDeep })
the_last_is_too_deep = too_deep_at too_many (finish (c 85) ∷ []) (mark "(" (c 84)) stops_at_limit refl

abbrev one_fewer : List Lexeme
one_fewer = before_body (word "return" (c 14) ∷ brackets 63 21 (finish (c 84) ∷ []))

stops_behind_brackets : read file (shallow_part one_fewer) ≡ Err (finish (c 84) ∷ [])
unfolding read read_within body_of
stops_behind_brackets = refl

the_end_is_unexpected_in_brackets : SyntaxFault one_fewer (record { pos = c 84; kind = Unexpected })
the_end_is_unexpected_in_brackets = unexpected_at one_fewer [] (finish (c 84)) stops_behind_brackets
