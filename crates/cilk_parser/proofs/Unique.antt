-- Tokens have at most one tree or fault, and those of a whole text have one.
use Rattle.std.proofs.Common.{◌≡◌, ◌+◌, ◌<◌, ◌≤◌, Bool, true, false, ltb-true, ltb-false, [], ◌∷◌, ◌++◌, length, Ok, Err, ◌⊎◌, inl, inr, refl, sym, ◌∙◌, ap, subst, append_assoc, append-nil, length-append, arith}
use Rattle.std.specs.Prelude.{nat_lt}
use Rattle.cilk_ast.specs.declared.tree.Tree.{Tree}
use Rattle.cilk_ast.specs.declared.fault.TextFault.{TextFault}
use Rattle.cilk_ast.specs.declared.fault.FaultKind.TheVariants.{TooDeep, Unexpected}
use Rattle.cilk_model.specs.Lexemes.{Lexeme, pos_of}
use Rattle.cilk_model.specs.Levels.{deep_part, shallow_part}
use Rattle.cilk_model.specs.Syntax.{Spelled, Begins, EndsOnce, IsUnexpected, IsTooDeep, SyntaxFault, too_deep, unexpected}
use Rattle.cilk_model.specs.Grammar.{Row, Spells}
use Rattle.cilk_model.specs.GrammarForms.{file}
use Rattle.cilk_parser.specs.Parsers.{Answer}
use Rattle.cilk_parser.specs.Read.{read}
use Rattle.cilk_parser.specs.Laws.{OneTree, OneFault, NotBoth, OneOfBoth}
use Rattle.cilk_parser.proofs.Local.{ok_parts}
use Rattle.cilk_parser.proofs.Exact.{file_is_read}
use Rattle.cilk_parser.proofs.Parsed.{spelled_by, unexpected_at, too_deep_at, never_at_end}

pub one_tree : OneTree
one_tree ts x y h g = (ok_parts x y [] [] (sym (file_is_read h.spells) ∙ file_is_read g.spells)).0

-- ---- Fronts of a row

-- Of two fronts of a row the shorter one begins the longer one.
front_of : (a b c d : Row) → a ++ b ≡ c ++ d → length a ≤ length c → (m : Row) × c ≡ a ++ m
front_of [] b c d e h = (c, refl)
front_of (t ∷ a) b [] d e h = absurd (omega arith)
front_of (t ∷ a) b (u ∷ c) d e h =
    let same : t ≡ u = cc in
    let rest : a ++ b ≡ c ++ d = cc in
    let m = front_of a b c d rest (omega arith) in
    (m.0, ap (λ z. z ∷ c) (sym same) ∙ ap (λ z. t ∷ z) m.1)

-- A front of what begins a file begins it.
front_begins : (a m : Row) → Begins (a ++ m) → Begins a
front_begins a m b = record { after = m ++ b.after; tree = b.tree; spells = subst (λ z. Spells file b.tree z) (append_assoc a m b.after) b.spells }

-- So an unexpected token does not stand in what begins a file.
not_within : {ts rest : Row} (u : IsUnexpected ts rest) (front behind : Row) → ts ≡ front ++ behind → Begins front → length u.front < length front → ⊥
not_within u front behind w b h =
    let whole : (u.front ++ u.token ∷ []) ++ u.behind ≡ front ++ behind =
    append_assoc u.front (u.token ∷ []) u.behind ∙ ap (λ z. u.front ++ z) (sym u.is_rest) ∙ sym u.split ∙ w in
    let m = front_of (u.front ++ u.token ∷ []) u.behind front behind whole (omega (arith, length-append u.front (u.token ∷ []))) in
    u.ended (front_begins (u.front ++ u.token ∷ []) m.0 (subst Begins m.1 b))

-- ---- Faults

pub not_both : NotBoth
not_both ts x f h (too_deep d) = let clash = sym h.shallow ∙ d.deep in absurd cc
not_both ts x f h (unexpected {t = t} {behind = behind} u e) =
    let whole : Begins ts = record { after = []; tree = x; spells = subst (λ z. Spells file x z) (sym (append-nil ts)) h.spells } in
    let long : length ts ≡ length u.front + length (t ∷ behind) = ap length u.split ∙ length-append u.front (t ∷ behind) in
    not_within u ts [] (sym (append-nil ts)) whole (omega arith)

same_rest : (a b c d : Row) → a ++ b ≡ c ++ d → length a ≡ length c → b ≡ d
same_rest [] b [] d e h = e
same_rest [] b (u ∷ c) d e h = absurd (omega arith)
same_rest (t ∷ a) b [] d e h = absurd (omega arith)
same_rest (t ∷ a) b (u ∷ c) d e h = let rest : a ++ b ≡ c ++ d = cc in same_rest a b c d rest (omega arith)

-- What is unexpected first is one token.
one_unexpected : {ts r s : Row} (t u : Lexeme) → IsUnexpected ts (t ∷ r) → IsUnexpected ts (u ∷ s) → t ≡ u
one_unexpected {ts} {r} {s} t u g h = by_length (nat_lt (length g.front) (length h.front)) refl (nat_lt (length h.front) (length g.front)) refl where
  by_length : (b : Bool) → nat_lt (length g.front) (length h.front) ≡ b → (c : Bool) → nat_lt (length h.front) (length g.front) ≡ c → t ≡ u
  by_length true e c d = absurd (not_within g h.front (u ∷ s) h.split h.begun (ltb-true (length g.front) (length h.front) e))
  by_length false e true d = absurd (not_within h g.front (t ∷ r) g.split g.begun (ltb-true (length h.front) (length g.front) d))
  by_length false e false d =
      let long = ltb-false (length g.front) (length h.front) e in
      let short = ltb-false (length h.front) (length g.front) d in
      let rest : t ∷ r ≡ u ∷ s = same_rest g.front (t ∷ r) h.front (u ∷ s) (sym g.split ∙ h.split) (omega arith) in
      cc

deep_or_unexpected : {ts r s : Row} (t u : Lexeme) → IsTooDeep ts (t ∷ r) → IsUnexpected ts (u ∷ s) → length (deep_part ts) ≤ length s → ⊥
deep_or_unexpected {ts} {r} {s} t u d g h =
    let long : length ts ≡ length g.front + length (u ∷ s) = ap length g.split ∙ length-append g.front (u ∷ s) in
    let deep : length ts ≡ length d.front + length (t ∷ r) = ap length d.split ∙ length-append d.front (t ∷ r) in
    let rest : length (deep_part ts) ≡ length (t ∷ r) = ap length d.deep in
    not_within g d.front (t ∷ r) d.split d.begun (omega arith)

pub one_fault : OneFault
one_fault ts f g (too_deep {t = t} {behind = r} d) (too_deep {t = u} {behind = s} e) =
    let rest : t ∷ r ≡ u ∷ s = sym d.deep ∙ e.deep in let same : t ≡ u = cc in ap (λ z. record { pos = pos_of z; kind = TooDeep }) same
one_fault ts f g (too_deep {t = t} d) (unexpected {t = u} h k) = absurd (deep_or_unexpected t u d h k)
one_fault ts f g (unexpected {t = u} h k) (too_deep {t = t} d) = absurd (deep_or_unexpected t u d h k)
one_fault ts f g (unexpected {t = t} h k) (unexpected {t = u} m n) = ap (λ z. record { pos = pos_of z; kind = Unexpected }) (one_unexpected t u h m)

-- ---- One of both

by_answer : {ts : Row} → EndsOnce ts → (a : Answer Tree) → read file (shallow_part ts) ≡ a → (d : Row) → deep_part ts ≡ d →
    ((x : Tree) × Spelled ts x) ⊎ ((f : TextFault) × SyntaxFault ts f)
by_answer ends (Ok x) e d g = inl (x.0, spelled_by ends x.1 x.0 e)
by_answer {ts} ends (Err (t ∷ rest)) e d g = inr (record { pos = pos_of t; kind = Unexpected }, unexpected_at ts rest t e)
by_answer {ts} ends (Err []) e (t ∷ behind) g = inr (record { pos = pos_of t; kind = TooDeep }, too_deep_at ts behind t e g)
by_answer ends (Err []) e [] g = absurd (never_at_end ends e g)

pub one_of_both : OneOfBoth
one_of_both ts ends = by_answer ends (read file (shallow_part ts)) refl (deep_part ts) refl
