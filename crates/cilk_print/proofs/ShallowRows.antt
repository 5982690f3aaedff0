-- Rows of tokens none of which is too deep, by what is seen before and behind them.
use Rattle.std.proofs.Common.{◌≡◌, ◌≤◌, Bool, true, false, if◌then◌else◌, [], ◌∷◌, ◌++◌, map, ap, refl, sym, subst, ◌∙◌}
use Rattle.std.specs.Prelude.{nat_lt}
use Rattle.std.proofs.lemmas.Bool.{ltb-false, le-ltb}
use Rattle.word_ops.specs.declared.place.Pos.{Pos}
use Rattle.cilk_model.specs.Lexemes as lexeme
use Rattle.cilk_model.specs.Lexemes.{Lexeme}
use Rattle.cilk_model.specs.Tests.{is_word, starts}
use Rattle.cilk_model.specs.Grammar.{Row}
use Rattle.cilk_model.specs.Levels.{Nesting, level_limit, after, deep_from}
use Rattle.cilk_model.specs.TreeTokens.{nowhere}
use Rattle.cilk_print.proofs.Saying.{placed, Says, nothing_said, more_said}
use Rattle.cilk_print.proofs.Sights.{Sight, sight, step, sight_after}

-- an `else` comes behind a place, by the row that follows, and by whether one follows that
abbrev pub else_behind : Row → Bool → Bool
else_behind [] e = e
else_behind (t ∷ r) e = is_word "else" t

-- the row leads from one sight to another, and none of its tokens is too deep
abbrev pub Shallow : Sight → Row → Bool → Sight → Type 0
Shallow z [] e y = z ≡ y
Shallow z (t ∷ r) e y = let next = step z t (else_behind r e) in (next.level ≤ level_limit) × Shallow next r e y

pub else_append : (a b : Row) (e : Bool) → else_behind (a ++ b) e ≡ else_behind a (else_behind b e)
else_append [] b e = refl
else_append (t ∷ a) b e = refl

-- ---- Rows one behind the other

pub record Parts (z : Sight) (a b : Row) (e : Bool) (y : Sight) : Type 0 where
  pub middle : Sight
  pub first : Shallow z a (else_behind b e) middle
  pub last : Shallow middle b e y

pub parted : (z y : Sight) (a b : Row) (e : Bool) → Shallow z (a ++ b) e y → Parts z a b e y
parted z y [] b e s = record { middle = z; first = refl; last = s }
parted z y (t ∷ []) b e s = record { middle = step z t (else_behind b e); first = (s.0, refl); last = s.1 }
parted z y (t ∷ u ∷ a) b e s =
    let p = parted (step z t (is_word "else" u)) y (u ∷ a) b e s.1 in
    record { middle = p.middle; first = (s.0, p.first); last = p.last }

pub linked : (z m y : Sight) (a b : Row) (e : Bool) → Shallow z a (else_behind b e) m → Shallow m b e y → Shallow z (a ++ b) e y
linked z m y [] b e p q = subst (λ k. Shallow k b e y) (sym p) q
linked z m y (t ∷ []) b e p q = (p.0, subst (λ k. Shallow k b e y) (sym p.1) q)
linked z m y (t ∷ u ∷ a) b e p q = (p.0, linked (step z t (is_word "else" u)) m y (u ∷ a) b e p.1 q)

-- the last level is not too deep, where the first is not
pub low : (z y : Sight) (r : Row) (e : Bool) → z.level ≤ level_limit → Shallow z r e y → y.level ≤ level_limit
low z y [] e l s = subst (λ k. k.level ≤ level_limit) s l
low z y (t ∷ r) e l s = low (step z t (else_behind r e)) y r e s.0 s.1

-- ---- Places aside

abbrev pub blank : Row → Row
blank a = map (placed nowhere) a

step_blank : (z : Sight) (t : Lexeme) (e : Bool) → step z (placed nowhere t) e ≡ step z t e
step_blank z (lexeme.name at x) e = refl
step_blank z (lexeme.word at x) e = refl
step_blank z (lexeme.literal at v) e = refl
step_blank z (lexeme.text at x) e = refl
step_blank z (lexeme.mark at x) e = refl
step_blank z (lexeme.finish at) e = refl

else_blank : (t : Lexeme) → is_word "else" (placed nowhere t) ≡ is_word "else" t
else_blank (lexeme.name at x) = refl
else_blank (lexeme.word at x) = refl
else_blank (lexeme.literal at v) = refl
else_blank (lexeme.text at x) = refl
else_blank (lexeme.mark at x) = refl
else_blank (lexeme.finish at) = refl

else_starts : (ts : Row) → else_behind (blank ts) false ≡ starts (is_word "else") ts
else_starts [] = refl
else_starts (t ∷ ts) = else_blank t

-- what is seen behind a token
seen_next : (here : Nesting) (t : Lexeme) (ts : Row) →
    sight (after here t (starts (is_word "else") ts)) ≡ step (sight here) (placed nowhere t) (else_behind (blank ts) false)
seen_next here t ts =
    sight_after here t (starts (is_word "else") ts) ∙ sym (step_blank (sight here) t _) ∙ ap (step (sight here) (placed nowhere t)) (sym (else_starts ts))

-- ---- A row without a token that is too deep runs through, and one that runs through has none

pub record Through (z : Sight) (r : Row) : Type 0 where
  pub end : Sight
  pub runs : Shallow z r false end

through_from : (here : Nesting) (t : Lexeme) (ts : Row) (n : Sight) → n ≡ step (sight here) (placed nowhere t) (else_behind (blank ts) false) →
    n.level ≤ level_limit → Through n (blank ts) → Through (sight here) (blank (t ∷ ts))
through_from here t ts n is l p =
    let q = subst (λ k. (k.level ≤ level_limit) × Through k (blank ts)) is (l, p) in
    record { end = q.1.end; runs = (q.0, q.1.runs) }

shallow_first : (deep : Bool) (t : Lexeme) (ts rest : Row) (z : Sight) → nat_lt level_limit z.level ≡ deep → (if deep then t ∷ ts else rest) ≡ [] →
    (rest ≡ [] → Through z (blank ts)) → (z.level ≤ level_limit) × Through z (blank ts)
shallow_first true t ts rest z e none f = absurd cc
shallow_first false t ts rest z e none f = (ltb-false level_limit z.level e, f none)

pub shallow_runs : (ts : Row) (here : Nesting) → deep_from here ts ≡ [] → Through (sight here) (blank ts)
shallow_runs [] here none = record { end = sight here; runs = refl }
shallow_runs (t ∷ ts) here none =
    let next : Nesting = after here t (starts (is_word "else") ts) in
    let p = shallow_first (nat_lt level_limit next.level) t ts (deep_from next ts) (sight next) refl none (shallow_runs ts next) in
    through_from here t ts (sight next) (seen_next here t ts) p.0 p.1

pub runs_shallow : (ts : Row) (here : Nesting) (y : Sight) → Shallow (sight here) (blank ts) false y → deep_from here ts ≡ []
runs_shallow [] here y s = refl
runs_shallow (t ∷ ts) here y s =
    let e = starts (is_word "else") ts in
    let q = subst (λ k. (k.level ≤ level_limit) × Shallow k (blank ts) false y) (sym (seen_next here t ts)) s in
    ap (λ deep. if deep then t ∷ ts else deep_from (after here t e) ts) (le-ltb level_limit (after here t e).level q.0) ∙ runs_shallow ts (after here t e) y q.1

-- ---- Rows that say the same

else_blank_behind : (c : Row) (e : Bool) → else_behind (blank c) e ≡ else_behind c e
else_blank_behind [] e = refl
else_blank_behind (t ∷ c) e = else_blank t

blank_runs : (c : Row) (z y : Sight) (e : Bool) → Shallow z c e y → Shallow z (blank c) e y
blank_runs [] z y e s = s
blank_runs (t ∷ c) z y e s =
    let is = sym (ap (step z (placed nowhere t)) (else_blank_behind c e) ∙ step_blank z t (else_behind c e)) in
    let q = subst (λ k. (k.level ≤ level_limit) × Shallow k c e y) is s in
    (q.0, blank_runs c _ y e q.1)

blank_placed : (at : Pos) (t : Lexeme) → placed nowhere (placed at t) ≡ placed nowhere t
blank_placed at (lexeme.name _ x) = refl
blank_placed at (lexeme.word _ x) = refl
blank_placed at (lexeme.literal _ v) = refl
blank_placed at (lexeme.text _ x) = refl
blank_placed at (lexeme.mark _ x) = refl
blank_placed at (lexeme.finish _) = refl

says_blank : {c b : Row} → Says c b → blank b ≡ blank c
says_blank nothing_said = refl
says_blank (more_said {t} {c} {b} at s) = ap (λ u. u ∷ blank b) (blank_placed at t) ∙ ap (λ a. placed nowhere t ∷ a) (says_blank s)

pub said_runs : (z y : Sight) (c b : Row) (e : Bool) → Says c b → Shallow z c e y → Shallow z (blank b) e y
said_runs z y c b e says s = subst (λ a. Shallow z a e y) (sym (says_blank says)) (blank_runs c z y e s)
