-- Tokens that say what others say, wherever they stand.
use Rattle.std.proofs.Common.{◌≡◌, [], ◌∷◌, ◌++◌, subst, sym}
use Rattle.word_ops.specs.declared.place.Pos.{Pos}
use Rattle.cilk_model.specs.Lexemes.{Lexeme, name, word, literal, text, mark, finish}
use Rattle.cilk_model.specs.Grammar.{Row}

-- a token, put at a place
abbrev pub placed : Pos → Lexeme → Lexeme
placed at (name _ x) = name at x
placed at (word _ x) = word at x
placed at (literal _ v) = literal at v
placed at (text _ x) = text at x
placed at (mark _ x) = mark at x
placed at (finish _) = finish at

-- a row says what another says
pub data Says : Row → Row → Type 0 where
  nothing_said : Says [] []
  more_said : {t : Lexeme} {c b : Row} → (at : Pos) → Says c b → Says (t ∷ c) (placed at t ∷ b)

-- something holds of each row that says this
pub record Reads (c : Row) (P : Row → Type 0) : Type 0 where
  pub reads : (b : Row) → Says c b → P b

nothing_read : (P : Row → Type 0) → P [] → (b : Row) → Says [] b → P b
nothing_read P p b nothing_said = p

pub nothing : {P : Row → Type 0} → P [] → Reads [] P
nothing {P} p = record { reads = nothing_read P p }

token_read : (t : Lexeme) (c : Row) (P : Row → Type 0) → ((at : Pos) → Reads c (λ b. P (placed at t ∷ b))) → (b : Row) → Says (t ∷ c) b → P b
token_read t c P f b (more_said {b = rest} at s) = (f at).reads rest s

pub token : {t : Lexeme} {c : Row} {P : Row → Type 0} → ((at : Pos) → Reads c (λ b. P (placed at t ∷ b))) → Reads (t ∷ c) P
token {t} {c} {P} f = record { reads = token_read t c P f }

data Split (c d : Row) : Row → Type 0 where
  parts : {f g : Row} → Says c f → Says d g → Split c d (f ++ g)

one_more : {t : Lexeme} {c d b : Row} (at : Pos) → Split c d b → Split (t ∷ c) d (placed at t ∷ b)
one_more at (parts sf sg) = parts (more_said at sf) sg

split : (c d b : Row) → Says (c ++ d) b → Split c d b
split [] d b s = parts nothing_said s
split (t ∷ c) d b (more_said {b = rest} at s) = one_more at (split c d rest s)

of_split : (c d : Row) (Q P : Row → Type 0) → Reads c Q → ((f : Row) → Q f → Reads d (λ g. P (f ++ g))) → (b : Row) → Split c d b → P b
of_split c d Q P r k b (parts {f} {g} sf sg) = (k f (r.reads f sf)).reads g sg

pub append : {c d : Row} {Q P : Row → Type 0} → Reads c Q → ((f : Row) → Q f → Reads d (λ g. P (f ++ g))) → Reads (c ++ d) P
append {c} {d} {Q} {P} r k = record { reads = λ b s. of_split c d Q P r k b (split c d b s) }

pub reads_is : {c d : Row} {P : Row → Type 0} → c ≡ d → Reads d P → Reads c P
reads_is {P} e r = subst (λ c. Reads c P) (sym e) r

pub mapped : {c : Row} {Q P : Row → Type 0} → ((b : Row) → Q b → P b) → Reads c Q → Reads c P
mapped f r = record { reads = λ b s. f b (r.reads b s) }

-- a row spells something of which something holds
pub record Found {V : Type 0} (spells : V → Row → Type 0) (good : V → Type 0) (b : Row) : Type 0 where
  pub tree : V
  pub spelled : spells tree b
  pub same : good tree
