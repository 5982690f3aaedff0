-- Tokens and first lexical faults of short texts, computed.
use Rattle.std.proofs.Common.{◌≡◌, ℕ, [], ◌∷◌, refl, pos, Some, None, codes}
use Rattle.word_ops.specs.declared.place.Pos.{Pos}
use Rattle.cilk_ast.specs.declared.token.Token.{Token}
use Rattle.cilk_ast.specs.declared.token.TokenKind.{TokenKind}
use Rattle.cilk_ast.specs.declared.token.TokenKind.TheVariants.{Name, Word, Literal, Text, Mark, Finish}
use Rattle.cilk_ast.specs.declared.fault.FaultKind.{FaultKind}
use Rattle.cilk_ast.specs.declared.fault.FaultKind.TheVariants.{BadByte, BadLiteral, OpenComment, OpenText}
use Rattle.cilk_ast.specs.declared.fault.TextFault.{TextFault}
use Rattle.cilk_model.specs.Literals.{literal_value}
use Rattle.cilk_model.specs.Lexemes.{name, literal, text, mark, finish, lexemes_of}
use Rattle.cilk_model.specs.Tokens.{Tokens, LexicalFault}
use Rattle.cilk_model.proofs.OneCut.{lexed_tokens, lexed_fault}

abbrev at : ℕ → ℕ → Pos
at line column = record { line = line; column = column }

abbrev fault : ℕ → ℕ → FaultKind → TextFault
fault line column kind = record { pos = at line column; kind = kind }

abbrev span : TokenKind → ℕ → ℕ → Pos → Token
span kind start stop place = record { kind = kind; start = start; stop = stop; pos = place }

-- names and reserved words are whole runs, and marks the longest that fit
words_and_marks : Tokens (codes "iffy>>=if\n +++x") (span Name 0 4 (at 1 1) ∷ span Mark 4 6 (at 1 5) ∷ span Mark 6 7 (at 1 7)
    ∷ span Word 7 9 (at 1 8) ∷ span Mark 11 13 (at 2 2) ∷ span Mark 13 14 (at 2 4) ∷ span Name 14 15 (at 2 5) ∷ span Finish 15 15 (at 2 6) ∷ [])
words_and_marks = lexed_tokens _ _ refl

what_they_say : lexemes_of (codes "x=0x1fL;") (span Name 0 1 (at 1 1) ∷ span Mark 1 2 (at 1 2) ∷ span Literal 2 7 (at 1 3) ∷ span Mark 7 8 (at 1 8) ∷ span Finish 8 8 (at 1 9) ∷ [])
    ≡ name (at 1 1) (codes "x") ∷ mark (at 1 2) (codes "=") ∷ literal (at 1 3) (pos 31) ∷ mark (at 1 8) (codes ";") ∷ finish (at 1 9) ∷ []
what_they_say = refl

what_a_text_says : lexemes_of (codes "\"a\\\"b\"") (span Text 0 6 (at 1 1) ∷ []) ≡ text (at 1 1) (codes "a\\\"b") ∷ []
what_a_text_says = refl

-- a semicolon is missing behind the 0 of `int main() { return 0 }`: the token at 1:23 is `}`
the_token_at_23 : Tokens (codes "int main() { return 0 }") (span Word 0 3 (at 1 1) ∷ span Name 4 8 (at 1 5) ∷ span Mark 8 9 (at 1 9) ∷ span Mark 9 10 (at 1 10)
    ∷ span Mark 11 12 (at 1 12) ∷ span Word 13 19 (at 1 14) ∷ span Literal 20 21 (at 1 21) ∷ span Mark 22 23 (at 1 23) ∷ span Finish 23 23 (at 1 24) ∷ [])
the_token_at_23 = lexed_tokens _ _ refl

-- skipped words are whole runs
skipped_words_are_runs : Tokens (codes "const constx static") (span Name 6 12 (at 1 7) ∷ span Finish 19 19 (at 1 20) ∷ [])
skipped_words_are_runs = lexed_tokens _ _ refl

-- a skipped line, with anything in it
skipped_lines : Tokens (codes " \t# include \"x /* \n x") (span Name 20 21 (at 2 2) ∷ span Finish 21 21 (at 2 3) ∷ [])
skipped_lines = lexed_tokens _ _ refl

skipped_to_the_end : Tokens (codes "#pragma") (span Finish 7 7 (at 1 8) ∷ [])
skipped_to_the_end = lexed_tokens _ _ refl

skipped_without_blanks : Tokens (codes "#include<x>") (span Finish 11 11 (at 1 12) ∷ [])
skipped_without_blanks = lexed_tokens _ _ refl

no_skipped_line : LexicalFault (codes "#includex") (fault 1 1 BadByte)
no_skipped_line = lexed_fault _ _ refl

-- a line that begins in a comment is not skipped, nor is one with a token or a comment before the `#`
a_line_that_begins_in_a_comment : LexicalFault (codes "/*\n*/ #pragma") (fault 2 4 BadByte)
a_line_that_begins_in_a_comment = lexed_fault _ _ refl

a_directive_behind_a_token : LexicalFault (codes "x #pragma") (fault 1 3 BadByte)
a_directive_behind_a_token = lexed_fault _ _ refl

a_directive_behind_a_carriage_return : LexicalFault (codes "\r#pragma") (fault 1 2 BadByte)
a_directive_behind_a_carriage_return = lexed_fault _ _ refl

-- comments
comments : Tokens (codes "/**/ // \" /*\nx/***/") (span Name 13 14 (at 2 1) ∷ span Finish 19 19 (at 2 7) ∷ [])
comments = lexed_tokens _ _ refl

an_open_comment : LexicalFault (codes "int main() { /* }") (fault 1 14 OpenComment)
an_open_comment = lexed_fault _ _ refl

a_comment_of_three_bytes : LexicalFault (codes "/*/") (fault 1 1 OpenComment)
a_comment_of_three_bytes = lexed_fault _ _ refl

-- text literals: the earliest byte that can't stand there
an_open_text : LexicalFault (codes "int main() { printf(\"%ld") (fault 1 21 OpenText)
an_open_text = lexed_fault _ _ refl

a_backslash_takes_the_quote : LexicalFault (codes "\"\\\"") (fault 1 1 OpenText)
a_backslash_takes_the_quote = lexed_fault _ _ refl

a_backslash_takes_one_byte : Tokens (codes "\"\\\\\"x") (span Text 0 4 (at 1 1) ∷ span Name 4 5 (at 1 5) ∷ span Finish 5 5 (at 1 6) ∷ [])
a_backslash_takes_one_byte = lexed_tokens _ _ refl

a_newline_in_a_text : LexicalFault (codes " \"a\\\n\"") (fault 1 2 OpenText)
a_newline_in_a_text = lexed_fault _ _ refl

a_bad_byte_in_a_text : LexicalFault (codes "\"ab\t\n") (fault 1 4 BadByte)
a_bad_byte_in_a_text = lexed_fault _ _ refl

a_bad_byte_behind_a_backslash : LexicalFault (codes "\"\\\t\"") (fault 1 3 BadByte)
a_bad_byte_behind_a_backslash = lexed_fault _ _ refl

the_byte_127_in_a_text : LexicalFault (34 ∷ 127 ∷ 34 ∷ []) (fault 1 2 BadByte)
the_byte_127_in_a_text = lexed_fault _ _ refl

-- literals
a_literal_with_a_zero_before_it : LexicalFault (codes "int main() { return 09; }") (fault 1 21 BadLiteral)
a_literal_with_a_zero_before_it = lexed_fault _ _ refl

decimal_values : literal_value (codes "0") ≡ Some 0
decimal_values = refl

the_greatest_value : literal_value (codes "9223372036854775807L") ≡ Some 9223372036854775807
the_greatest_value = refl

above_the_greatest_value : literal_value (codes "9223372036854775808") ≡ None
above_the_greatest_value = refl

hexadecimal_values : literal_value (codes "0X00fFl") ≡ Some 255
hexadecimal_values = refl

the_greatest_hexadecimal_value : literal_value (codes "0x7fffffffffffffff") ≡ Some 9223372036854775807
the_greatest_hexadecimal_value = refl

above_the_greatest_hexadecimal_value : literal_value (codes "0x8000000000000000") ≡ None
above_the_greatest_hexadecimal_value = refl

no_digits_behind_0x : literal_value (codes "0x") ≡ None
no_digits_behind_0x = refl

no_digits_between_0x_and_L : literal_value (codes "0xL") ≡ None
no_digits_between_0x_and_L = refl

two_zeros : literal_value (codes "00") ≡ None
two_zeros = refl

two_suffixes : literal_value (codes "1LL") ≡ None
two_suffixes = refl

other_letters : literal_value (codes "1a") ≡ None
other_letters = refl

-- bytes that begin nothing
an_at_sign : LexicalFault (codes "a\n @") (fault 2 2 BadByte)
an_at_sign = lexed_fault _ _ refl

the_empty_text : Tokens [] (span Finish 0 0 (at 1 1) ∷ [])
the_empty_text = lexed_tokens _ _ refl
