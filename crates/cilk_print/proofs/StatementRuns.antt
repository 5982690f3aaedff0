-- Statements, canonical and as written, lead on alike.
use Rattle.std.proofs.Common.{◌≡◌, ℕ, suc, Bool, false, List, [], ◌∷◌, ◌++◌, ap, refl, sym, subst, ◌∙◌, append_assoc, Option}
use Rattle.cilk_ast.specs.declared.tree.TExpr.{TExpr}
use Rattle.cilk_model.specs.Lexemes.{Lexeme}
use Rattle.cilk_model.specs.Grammar.{Row}
use Rattle.cilk_model.specs.Levels.{Bracket, other, head, start_level}
use Rattle.cilk_model.specs.TreeTokens.{word, mark, name, expression, perhaps}
use Rattle.cilk_print.proofs.Sights.{Sight, step}
use Rattle.cilk_print.proofs.ShallowRows.{else_behind}
use Rattle.cilk_print.proofs.RowEnds.{Balanced, expression_balanced, perhaps_balanced}
use Rattle.cilk_print.proofs.Leads.{Leads, stop, token, over, follows, weaker, leads_is, calm, within, then_calm, closing, semicolon, Steps, Ending, by_semicolon, by_bracket, raised_then}

-- among statements
pub record Keeps (c r : Row) : Type 0 where
  pub keeps : (l o : ℕ) (bs : List Bracket) (e : Bool) → Leads (calm l (within o bs)) c r e (λ y. y ≡ calm y.level (within o bs))

-- a block, anywhere
pub record Blocks (c r : Row) : Type 0 where
  pub keeps : (l : ℕ) (bs : List Bracket) (e : Bool) → Leads (calm l bs) c r e (λ y. (y ≡ calm y.level bs) × (e ≡ false → y.level ≡ start_level bs))

pub nested_keeps : {c r : Row} → Blocks c r → Keeps c r
nested_keeps b = record { keeps = λ l o bs e. weaker (λ y h. h.0) (b.keeps l (within o bs) e) }

pub keeps_is : {c d r q : Row} → c ≡ d → r ≡ q → Keeps d q → Keeps c r
keeps_is a b k = record { keeps = λ l o bs e. leads_is a b (k.keeps l o bs e) }

pub blocks_is : {c d r q : Row} → c ≡ d → r ≡ q → Blocks d q → Blocks c r
blocks_is a b k = record { keeps = λ l bs e. leads_is a b (k.keeps l bs e) }

-- ---- Simple statements: a step may stand before its place in the second row

pub data Simply (c : Row) : Row → Type 0 where
  plainly : Balanced c → Simply c c
  raised : (x : TExpr) (t : Lexeme) → Steps t → c ≡ expression x ++ t ∷ [] → Simply c (t ∷ expression x)

pub simply_then : {l : ℕ} {bs : List Bracket} {c r d q : Row} {u : Lexeme} {e : Bool} {P : Sight → Type 0} → Simply c r → Ending u →
    ((m : Sight) → m.brackets ≡ bs → Leads m (u ∷ d) (u ∷ q) e P) → Leads (calm l bs) (c ++ (u ∷ d)) (r ++ (u ∷ q)) e P
simply_then {c} (plainly b) ending f = over c b f
simply_then {d} {u} (raised x t steps is) ending f =
    leads_is (ap (λ k. k ++ (u ∷ d)) is ∙ append_assoc (expression x) (t ∷ []) (u ∷ d)) refl (raised_then x steps ending f)

pub simple_keeps : {c r : Row} → Simply c r → Keeps (c ++ mark ";" ∷ []) (r ++ mark ";" ∷ [])
simple_keeps s = record { keeps = λ l o bs e. simply_then s by_semicolon (λ m h. semicolon h (λ n. stop refl)) }

-- the same in both rows
pub alike_keeps : (c : Row) → Balanced c → Keeps (c ++ mark ";" ∷ []) (c ++ mark ";" ∷ [])
alike_keeps c b = simple_keeps (plainly b)

pub empty_keeps : Keeps (mark ";" ∷ []) (mark ";" ∷ [])
empty_keeps = record { keeps = λ l o bs e. semicolon refl (λ n. stop refl) }

-- ---- Rows of statements

pub none_keep : Keeps [] []
none_keep = record { keeps = λ l o bs e. stop refl }

pub next_keeps : {c r d q : Row} → Keeps c r → Keeps d q → Keeps (c ++ d) (r ++ q)
next_keeps {d} {q} s t = record { keeps = λ l o bs e. then_calm (within o bs) (s.keeps l o bs (else_behind q e)) (λ n. t.keeps n o bs e) }

block_end : (m : Sight) (o : ℕ) (bs : List Bracket) (e : Bool) → m ≡ calm m.level (within o bs) → Leads m (mark "}" ∷ []) (mark "}" ∷ []) e (λ y. (y ≡ calm y.level bs) × (e ≡ false → y.level ≡ start_level bs))
block_end m o bs e h =
    subst (λ k. Leads k (mark "}" ∷ []) (mark "}" ∷ []) e (λ y. (y ≡ calm y.level bs) × (e ≡ false → y.level ≡ start_level bs))) (sym h)
    (token (stop (refl, λ no_else. ap (λ k. (step (calm m.level (within o bs)) (mark "}") k).level) no_else)))

pub block_keeps : {c r : Row} → Keeps c r → Blocks (mark "{" ∷ (c ++ mark "}" ∷ [])) (mark "{" ∷ (r ++ mark "}" ∷ []))
block_keeps k = record { keeps = λ l bs e. token (follows refl (k.keeps (suc l) l bs false) (λ m h. block_end m l bs e h)) }

-- ---- Statements with a part in brackets

pub if_keeps : {c r : Row} (x : TExpr) → Keeps c r →
    Keeps (word "if" ∷ mark "(" ∷ (expression x ++ (mark ")" ∷ c))) (word "if" ∷ mark "(" ∷ (expression x ++ (mark ")" ∷ r)))
if_keeps x k = record { keeps = λ l o bs e. token (token (over (expression x) (expression_balanced x) (λ m h. closing h (λ n. k.keeps n o bs e)))) }

pub while_keeps : {c r : Row} (x : TExpr) → Keeps c r →
    Keeps (word "while" ∷ mark "(" ∷ (expression x ++ (mark ")" ∷ c))) (word "while" ∷ mark "(" ∷ (expression x ++ (mark ")" ∷ r)))
while_keeps x k = record { keeps = λ l o bs e. token (token (over (expression x) (expression_balanced x) (λ m h. closing h (λ n. k.keeps n o bs e)))) }

-- behind an `else`
else_keeps : {c r : Row} → Keeps c r → Keeps (word "else" ∷ c) (word "else" ∷ r)
else_keeps k = record { keeps = λ l o bs e. token (k.keeps l o bs e) }

pub if_else_keeps : {c r d q : Row} (x : TExpr) → Keeps c r → Keeps d q →
    Keeps (word "if" ∷ mark "(" ∷ (expression x ++ (mark ")" ∷ (c ++ (word "else" ∷ d))))) (word "if" ∷ mark "(" ∷ (expression x ++ (mark ")" ∷ (r ++ (word "else" ∷ q)))))
if_else_keeps x s t = if_keeps x (next_keeps s (else_keeps t))

pub for_keeps : {i j n k c r : Row} (t : Option TExpr) → Simply i j → Simply n k → Keeps c r →
    Keeps (word "for" ∷ mark "(" ∷ (i ++ (mark ";" ∷ (perhaps t ++ (mark ";" ∷ (n ++ (mark ")" ∷ c)))))))
    (word "for" ∷ mark "(" ∷ (j ++ (mark ";" ∷ (perhaps t ++ (mark ";" ∷ (k ++ (mark ")" ∷ r)))))))
for_keeps t i n b = record {
  keeps = λ l o bs e.
      token (token (simply_then {l = suc (suc l)} {bs = record { outside = suc l; inside = other } ∷ within o bs} i by_semicolon (λ m h. semicolon h (λ a.
      over (perhaps t) (perhaps_balanced t) (λ p g. semicolon g (λ d. simply_then n by_bracket (λ q f. closing f (λ z. b.keeps z o bs e))))))));
}

-- the step of a `cilk_for`, behind its name or before it
pub data Counts (i : List ℕ) : Row → Type 0 where
  name_first : Counts i (name i ∷ mark "++" ∷ [])
  name_last : Counts i (mark "++" ∷ name i ∷ [])

counts_then : {l : ℕ} {bs : List Bracket} {i : List ℕ} {u c r : Row} {e : Bool} {P : Sight → Type 0} → Counts i u → Leads (calm l bs) c r e P → else_behind c e ≡ false →
    Leads (calm l bs) (name i ∷ mark "++" ∷ c) (u ++ r) e P
counts_then name_first f h = token (token f)
counts_then {c} name_last f h = record { same_else = refl; leads = λ y s. let d = f.leads y s.1.1 in ((s.0, (s.1.0, d.0)), d.1) }

pub cilk_for_keeps : {u c r : Row} (i j k : List ℕ) (low_ high : TExpr) → Counts k u → Keeps c r →
    Keeps (word "cilk_for" ∷ mark "(" ∷ word "long" ∷ name i ∷ mark "="
    ∷ (expression low_ ++ (mark ";" ∷ name j ∷ mark "<" ∷ (expression high ++ (mark ";" ∷ name k ∷ mark "++" ∷ mark ")" ∷ c)))))
    (word "cilk_for" ∷ mark "(" ∷ word "long" ∷ name i ∷ mark "="
    ∷ (expression low_ ++ (mark ";" ∷ name j ∷ mark "<" ∷ (expression high ++ (mark ";" ∷ (u ++ (mark ")" ∷ r)))))))
cilk_for_keeps i j k low_ high up b = record {
  keeps = λ l o bs e.
      token (token (token (token (token (over (expression low_) (expression_balanced low_) (λ m h. semicolon h (λ a.
      token (token (over (expression high) (expression_balanced high) (λ p g. semicolon g (λ d.
      counts_then {l = d} {bs = record { outside = suc l; inside = head 2 } ∷ within o bs} up (closing refl (λ z. b.keeps z o bs e)) refl)))))))))));
}
