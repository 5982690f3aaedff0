-- What a token is, and what a row of tokens starts with.
use Rattle.std.specs.Prelude.{Bool, true, false, List, [], ◌∷◌, Option, codes, bytes_eq, find}
use Prim.Native.String.{String}
use Rattle.word_ops.specs.declared.operators.BinaryOp.TheVariants as op
use Rattle.cilk_ast.specs.declared.builtin.Builtin.{Builtin}
use Rattle.cilk_ast.specs.declared.builtin.Builtin.TheVariants as built
use Rattle.cilk_model.specs.Lexemes.{Lexeme, name, word, literal, text, mark, finish}
use Rattle.cilk_model.specs.Signs.{Prefix, minus, opposite, complement, contents, prefix_spelling, Infix, either, both, binary, infix_spelling, builtin_spelling}

abbrev pub is_mark : String → Lexeme → Bool
is_mark spelling (mark at bytes) = bytes_eq bytes (codes spelling)
is_mark spelling _ = false

abbrev pub is_word : String → Lexeme → Bool
is_word spelling (word at bytes) = bytes_eq bytes (codes spelling)
is_word spelling _ = false

abbrev pub is_name : Lexeme → Bool
is_name (name at bytes) = true
is_name _ = false

abbrev pub is_literal : Lexeme → Bool
is_literal (literal at value) = true
is_literal _ = false

abbrev pub is_text : Lexeme → Bool
is_text (text at bytes) = true
is_text _ = false

abbrev pub is_finish : Lexeme → Bool
is_finish (finish at) = true
is_finish _ = false

-- The row has a first token, and that passes the test.
abbrev pub starts : (Lexeme → Bool) → List Lexeme → Bool
starts test [] = false
starts test (t ∷ ts) = test t

-- The operator before an operand, and the one between two, that a token is.
abbrev pub prefix_of : Lexeme → Option Prefix
prefix_of t = find (λ o. is_mark (prefix_spelling o) t) (minus ∷ opposite ∷ complement ∷ contents ∷ [])

abbrev pub infix_of : Lexeme → Option Infix
infix_of t = find (λ o. is_mark (infix_spelling o) t)
    (either ∷ both ∷ binary op.Or ∷ binary op.Xor ∷ binary op.And ∷ binary op.Eq ∷ binary op.Ne
    ∷ binary op.Lt ∷ binary op.Le ∷ binary op.Gt ∷ binary op.Ge ∷ binary op.Shl ∷ binary op.Shr
    ∷ binary op.Add ∷ binary op.Sub ∷ binary op.Mul ∷ binary op.Div ∷ binary op.Rem ∷ [])

-- The built-in that a token is.
abbrev pub builtin_of : Lexeme → Option Builtin
builtin_of t = find (λ b. is_word (builtin_spelling b) t)
    (built.MwMalloc1dlong ∷ built.MwMalloc2dlong ∷ built.MwLocalmalloc ∷ built.MwMallocrepl ∷ built.MwReplicatedInit
    ∷ built.RemoteAdd ∷ built.RemoteAnd ∷ built.RemoteOr ∷ built.RemoteXor ∷ built.RemoteMin ∷ built.RemoteMax
    ∷ built.AtomicAddms ∷ built.AtomicSwap ∷ built.AtomicCas ∷ built.Fence ∷ built.Migrate ∷ built.NodeId ∷ [])
