-- Levels of the tokens of some texts.
use Rattle.std.proofs.Common.{◌≡◌, ℕ, zero, suc, List, [], ◌∷◌, ◌++◌, Option, Some, None, refl, codes, pos}
use Prim.Native.String.{String}
use Rattle.word_ops.specs.declared.place.Pos.{Pos}
use Rattle.cilk_model.specs.Lexemes as lexeme
use Rattle.cilk_model.specs.Lexemes.{Lexeme, pos_of, finish}
use Rattle.cilk_model.specs.Signs as at
use Rattle.cilk_model.specs.Levels.{levels, deep_part}

-- ---- Tokens, all at one place

abbrev here : Pos
here = record { line = 1; column = 1 }

abbrev mark : String → Lexeme
mark spelling = at.mark spelling here

abbrev word : String → Lexeme
word spelling = at.word spelling here

abbrev name : String → Lexeme
name spelling = lexeme.name here (codes spelling)

-- `a + b * ( * c ) + d`: operators add one each, a closing bracket goes back.
operators :
    levels (name "a" ∷ mark "+" ∷ name "b" ∷ mark "*" ∷ mark "(" ∷ mark "*" ∷ name "c" ∷ mark ")" ∷ mark "+" ∷ name "d" ∷ [])
    ≡ 0 ∷ 1 ∷ 1 ∷ 2 ∷ 3 ∷ 4 ∷ 4 ∷ 2 ∷ 3 ∷ 3 ∷ []
operators = refl

-- `{ long * x = ( long * ) y , * z ; }`: the `*` of declarators and casts add nothing, a cast's `)` adds one.
casts_and_declarators :
    levels (mark "{" ∷ word "long" ∷ mark "*" ∷ name "x" ∷ mark "=" ∷ mark "(" ∷ word "long" ∷ mark "*" ∷ mark ")" ∷ name "y"
    ∷ mark "," ∷ mark "*" ∷ name "z" ∷ mark ";" ∷ mark "}" ∷ [])
    ≡ 1 ∷ 1 ∷ 1 ∷ 1 ∷ 1 ∷ 2 ∷ 2 ∷ 2 ∷ 2 ∷ 2 ∷ 1 ∷ 1 ∷ 1 ∷ 1 ∷ 0 ∷ []
casts_and_declarators = refl

-- `{ f ( a , * b ) ;`: in an argument list the `*` behind a `,` is an operator.
arguments :
    levels (mark "{" ∷ name "f" ∷ mark "(" ∷ name "a" ∷ mark "," ∷ mark "*" ∷ name "b" ∷ mark ")" ∷ mark ";" ∷ [])
    ≡ 1 ∷ 1 ∷ 2 ∷ 2 ∷ 2 ∷ 3 ∷ 3 ∷ 1 ∷ 1 ∷ []
arguments = refl

-- `{ cilk_for ( long i = a < b ; i < c << d ; i ++`: the `<` of the test adds nothing, the others do.
heads :
    levels (mark "{" ∷ word "cilk_for" ∷ mark "(" ∷ word "long" ∷ name "i" ∷ mark "=" ∷ name "a" ∷ mark "<" ∷ name "b" ∷ mark ";"
    ∷ name "i" ∷ mark "<" ∷ name "c" ∷ mark "<<" ∷ name "d" ∷ mark ";" ∷ name "i" ∷ mark "++" ∷ [])
    ≡ 1 ∷ 2 ∷ 3 ∷ 3 ∷ 3 ∷ 3 ∷ 3 ∷ 4 ∷ 4 ∷ 2 ∷ 2 ∷ 2 ∷ 2 ∷ 3 ∷ 3 ∷ 2 ∷ 2 ∷ 2 ∷ []
heads = refl

-- `{ for ( i = a ; i < c ;`: the `<` of another loop is an operator.
other_heads :
    levels (mark "{" ∷ word "for" ∷ mark "(" ∷ name "i" ∷ mark "=" ∷ name "a" ∷ mark ";" ∷ name "i" ∷ mark "<" ∷ name "c" ∷ mark ";" ∷ [])
    ≡ 1 ∷ 2 ∷ 3 ∷ 3 ∷ 3 ∷ 3 ∷ 2 ∷ 2 ∷ 3 ∷ 3 ∷ 2 ∷ []
other_heads = refl

-- `{ if ( a ) b ; else if ( a ) { c ; } else d ; e`: a chain grows by one for each `if`, until it ends.
chains :
    levels (mark "{" ∷ word "if" ∷ mark "(" ∷ name "a" ∷ mark ")" ∷ name "b" ∷ mark ";" ∷ word "else" ∷ word "if" ∷ mark "(" ∷ name "a" ∷ mark ")"
    ∷ mark "{" ∷ name "c" ∷ mark ";" ∷ mark "}" ∷ word "else" ∷ name "d" ∷ mark ";" ∷ name "e" ∷ [])
    ≡ 1 ∷ 2 ∷ 3 ∷ 3 ∷ 2 ∷ 2 ∷ 2 ∷ 2 ∷ 3 ∷ 4 ∷ 4 ∷ 3 ∷ 4 ∷ 4 ∷ 2 ∷ 3 ∷ 3 ∷ 3 ∷ 1 ∷ 1 ∷ []
chains = refl

-- `{ mw_replicated_init ( & g , a & b`: the `&` before the name of a global adds nothing.
replicated_names :
    levels (mark "{" ∷ word "mw_replicated_init" ∷ mark "(" ∷ mark "&" ∷ name "g" ∷ mark "," ∷ name "a" ∷ mark "&" ∷ name "b" ∷ [])
    ≡ 1 ∷ 1 ∷ 2 ∷ 2 ∷ 2 ∷ 2 ∷ 2 ∷ 3 ∷ 3 ∷ []
replicated_names = refl

-- ---- The limit

abbrev c : ℕ → Pos
c n = record { line = 1; column = n }

-- So many `(`, the first at a column; and so many `)`.
abbrev brackets : ℕ → ℕ → List Lexeme
brackets zero column = []
brackets (suc n) column = at.mark "(" (c column) ∷ brackets n (suc column)

abbrev closing : ℕ → List Lexeme
closing zero = []
closing (suc n) = mark ")" ∷ closing n

-- `int main() { return ((..0..)); }`
abbrev returns_in : ℕ → List Lexeme
returns_in n =
    word "int" ∷ name "main" ∷ mark "(" ∷ mark ")" ∷ mark "{" ∷ word "return"
    ∷ (brackets n 21 ++ (lexeme.literal here (pos 0) ∷ (closing n ++ (mark ";" ∷ mark "}" ∷ finish here ∷ []))))

abbrev place_of : List Lexeme → Option Pos
place_of [] = None
place_of (t ∷ ts) = Some (pos_of t)

-- Of 64 brackets behind a `{` the last one is too deep; 63 are not.
sixty_four : place_of (deep_part (returns_in 64)) ≡ Some (c 84)
sixty_four = refl

sixty_three : deep_part (returns_in 63) ≡ []
sixty_three = refl
