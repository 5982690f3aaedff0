-- Kinds of tokens, each with what it says of a token of the kind.
use Rattle.std.specs.Prelude.{ℕ, Bool, cond, ◌==◌, ◌||◌, List, Option, Some, None, ℤ, option_and_then}
use Prim.Native.String.{String}
use Rattle.word_ops.specs.declared.place.Pos.{Pos}
use Rattle.cilk_ast.specs.declared.builtin.Builtin.{Builtin}
use Rattle.cilk_model.specs.Lexemes.{Lexeme, name, literal, text, finish, pos_of}
use Rattle.cilk_model.specs.Signs.{Prefix, Infix, looseness, is_replicated_init}
use Rattle.cilk_model.specs.Tests.{is_mark, is_word, prefix_of, infix_of, builtin_of}

abbrev pub a_mark : String → Lexeme → Option Pos
a_mark spelling t = cond (is_mark spelling t) (Some (pos_of t)) None

abbrev pub a_word : String → Lexeme → Option Pos
a_word spelling t = cond (is_word spelling t) (Some (pos_of t)) None

abbrev pub a_name : Lexeme → Option (Pos × List ℕ)
a_name (name at x) = Some (at, x)
a_name _ = None

abbrev pub a_literal : Lexeme → Option (Pos × ℤ)
a_literal (literal at v) = Some (at, v)
a_literal _ = None

abbrev pub a_text : Lexeme → Option (Pos × List ℕ)
a_text (text at bytes) = Some (at, bytes)
a_text _ = None

abbrev pub a_finish : Lexeme → Option Pos
a_finish (finish at) = Some at
a_finish _ = None

abbrev pub a_prefix : Lexeme → Option (Pos × Prefix)
a_prefix t = option_and_then (λ o. Some (pos_of t, o)) (prefix_of t)

-- An operator of this looseness.
abbrev pub an_infix : ℕ → Lexeme → Option (Pos × Infix)
an_infix n t = option_and_then (λ o. cond (looseness o == n) (Some (pos_of t, o)) None) (infix_of t)

-- A built-in other than the one that may have a name for its address.
abbrev pub a_builtin : Lexeme → Option (Pos × Builtin)
a_builtin t = option_and_then (λ b. cond (is_replicated_init b) None (Some (pos_of t, b))) (builtin_of t)

-- A word that starts a spawn.
abbrev pub is_spawn : Lexeme → Bool
is_spawn t = is_word "cilk_spawn" t || is_word "cilk_spawn_at" t
