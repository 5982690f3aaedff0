-- Runs of letters, digits and `_`: which are reserved words, which are skipped, and which are literals.
use Rattle.std.specs.Prelude.{ℕ, List, [], ◌∷◌, ◌++◌, length, Bool, if◌then◌else◌, Option, Some, None, codes}
use Rattle.std.specs.List.{list_any}
use Rattle.std.specs.Str.{bytes_eq}
use Rattle.cilk_ast.specs.declared.token.TokenKind.TheVariants as kind
use Rattle.cilk_ast.specs.declared.fault.FaultKind.TheVariants as fault
use Rattle.cilk_model.specs.declared.lexing.Piece.{Piece}
use Rattle.cilk_model.specs.declared.lexing.Piece.TheVariants.{Skipped, Found, Bad}
use Rattle.cilk_model.specs.Literals.{literal_value}

-- A run is one of these.
abbrev pub is_one_of : List (List ℕ) → List ℕ → Bool
is_one_of words run = list_any (bytes_eq run) words

-- The words of declarations and statements.
abbrev pub statement_words : List (List ℕ)
statement_words =
    codes "long" ∷ codes "int" ∷ codes "void" ∷ codes "replicated"
    ∷ codes "if" ∷ codes "else" ∷ codes "while" ∷ codes "for" ∷ codes "break" ∷ codes "continue" ∷ codes "return"
    ∷ codes "cilk_spawn" ∷ codes "cilk_spawn_at" ∷ codes "cilk_sync" ∷ codes "cilk_for" ∷ []

-- The words that are called.
abbrev pub called_words : List (List ℕ)
called_words =
    codes "printf"
    ∷ codes "mw_malloc1dlong" ∷ codes "mw_malloc2dlong" ∷ codes "mw_localmalloc" ∷ codes "mw_mallocrepl" ∷ codes "mw_replicated_init"
    ∷ codes "REMOTE_ADD" ∷ codes "REMOTE_AND" ∷ codes "REMOTE_OR" ∷ codes "REMOTE_XOR" ∷ codes "REMOTE_MIN" ∷ codes "REMOTE_MAX"
    ∷ codes "ATOMIC_ADDMS" ∷ codes "ATOMIC_SWAP" ∷ codes "ATOMIC_CAS"
    ∷ codes "FENCE" ∷ codes "MIGRATE" ∷ codes "NODE_ID" ∷ []

-- Reserved words are no names.
abbrev pub reserved_words : List (List ℕ)
reserved_words = statement_words ++ called_words

-- Words that are skipped as blanks are.
abbrev pub skipped_words : List (List ℕ)
skipped_words = codes "volatile" ∷ codes "const" ∷ codes "static" ∷ codes "inline" ∷ []

-- What a run that begins with a letter or `_` is.
abbrev pub word_piece : List ℕ → Piece
word_piece run =
    if is_one_of skipped_words run then Skipped (length run)
    else (if is_one_of reserved_words run then Found kind.Word (length run) else Found kind.Name (length run))

-- What a run of so many bytes that begins with a digit is, by its value.
abbrev pub valued_piece : ℕ → Option ℕ → Piece
valued_piece n (Some value) = Found kind.Literal n
valued_piece n None = Bad fault.BadLiteral 0

-- What a run that begins with a digit is.
abbrev pub literal_piece : List ℕ → Piece
literal_piece run = valued_piece (length run) (literal_value run)
