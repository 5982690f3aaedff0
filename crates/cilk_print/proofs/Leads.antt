-- Two rows that lead on from one sight: where none of the tokens of the second is too deep, none of the first is, and
-- both come to the same sight. Here the first is canonical, and the second is as it was written.
use Rattle.std.proofs.Common.{◌≡◌, ℕ, suc, ◌≤◌, Bool, false, ◌||◌, if◌then◌else◌, List, [], ◌∷◌, ◌++◌, ap, refl, sym, subst, ◌∙◌}
use Rattle.cilk_ast.specs.declared.tree.TExpr.{TExpr}
use Rattle.cilk_model.specs.Lexemes.{Lexeme}
use Rattle.cilk_model.specs.Tests.{is_word}
use Rattle.cilk_model.specs.Grammar.{Row}
use Rattle.cilk_model.specs.Levels.{Bracket, statements, in_head, around, restored, counted, level_limit}
use Rattle.cilk_model.specs.TreeTokens.{mark, expression}
use Rattle.cilk_print.proofs.Sights.{Sight, step}
use Rattle.cilk_print.proofs.ShallowRows.{Shallow, else_behind, else_append, parted, linked, low}
use Rattle.cilk_print.proofs.RowEnds.{Balanced, expression_ends, expression_no_else}

pub record Leads (z : Sight) (c r : Row) (e : Bool) (P : Sight → Type 0) : Type 0 where
  pub same_else : else_behind c e ≡ else_behind r e
  pub leads : (y : Sight) → Shallow z r e y → Shallow z c e y × P y

-- ---- Tokens that both rows have

pub stop : {z : Sight} {e : Bool} {P : Sight → Type 0} → P z → Leads z [] [] e P
stop {z} {e} {P} p = record { same_else = refl; leads = λ y s. (s, subst P s p) }

pub token : {z : Sight} {t : Lexeme} {c r : Row} {e : Bool} {P : Sight → Type 0} → Leads (step z t (else_behind r e)) c r e P → Leads z (t ∷ c) (t ∷ r) e P
token {z} {t} {c} {r} {e} {P} l = record {
  same_else = refl;
  leads = λ y s.
      let d = l.leads y s.1 in
      (subst (λ k. ((step z t k).level ≤ level_limit) × Shallow (step z t k) c e y) (sym l.same_else) (s.0, d.0), d.1);
}

-- ---- A row that both have

over_else : (z : Sight) (x c r : Row) (e : Bool) (P Q : Sight → Type 0) → ((m : Sight) (k : Bool) → Shallow z x k m → Q m) → ((m : Sight) → Q m → Leads m c r e P) →
    else_behind (x ++ c) e ≡ else_behind (x ++ r) e
over_else z [] c r e P Q h f = (f z (h z e refl)).same_else
over_else z (t ∷ x) c r e P Q h f = refl

over_if : {z : Sight} {c r : Row} {e : Bool} {P : Sight → Type 0} (x : Row) (Q : Sight → Type 0) → ((m : Sight) (k : Bool) → Shallow z x k m → Q m) → ((m : Sight) → Q m → Leads m c r e P) →
    Leads z (x ++ c) (x ++ r) e P
over_if {z} {c} {r} {e} {P} x Q h f = record {
  same_else = over_else z x c r e P Q h f;
  leads = λ y s.
      let d = parted z y x r e s in
      let l = f d.middle (h d.middle (else_behind r e) d.first) in
      let q = l.leads y d.last in
      (linked z d.middle y x c e (subst (λ k. Shallow z x k d.middle) (sym l.same_else) d.first) q.0, q.1);
}

pub over : {z : Sight} {c r : Row} {e : Bool} {P : Sight → Type 0} (x : Row) → Balanced x → ((m : Sight) → m.brackets ≡ z.brackets → Leads m c r e P) → Leads z (x ++ c) (x ++ r) e P
over {z} x b f = over_if x (λ m. m.brackets ≡ z.brackets) (λ m k s. b z m k s) f

-- ---- One pair of rows behind another

pub follows : {z : Sight} {d q c r : Row} {e : Bool} {P Q : Sight → Type 0} → else_behind c e ≡ else_behind r e → Leads z d q (else_behind r e) Q →
    ((m : Sight) → Q m → Leads m c r e P) → Leads z (d ++ c) (q ++ r) e P
follows {z} {d} {q} {c} {r} {e} {P} {Q} same l f = record {
  same_else = else_append d c e ∙ ap (else_behind d) same ∙ l.same_else ∙ sym (else_append q r e);
  leads = λ y s.
      let p = parted z y q r e s in
      let g = l.leads p.middle p.first in
      let h = (f p.middle g.1).leads y p.last in
      (linked z p.middle y d c e (subst (λ k. Shallow z d k p.middle) (sym same) g.0) h.0, h.1);
}

pub weaker : {z : Sight} {c r : Row} {e : Bool} {P Q : Sight → Type 0} → ((y : Sight) → Q y → P y) → Leads z c r e Q → Leads z c r e P
weaker f l = record { same_else = l.same_else; leads = λ y s. let d = l.leads y s in (d.0, f y d.1) }

pub leads_is : {z : Sight} {c d r q : Row} {e : Bool} {P : Sight → Type 0} → c ≡ d → r ≡ q → Leads z d q e P → Leads z c r e P
leads_is {z} {c} {d} {r} {q} {e} {P} a b l = subst (λ k. Leads z k r e P) (sym a) (subst (λ k. Leads z d k e P) (sym b) l)

-- ---- Where nothing is told by the tokens before

abbrev pub calm : ℕ → List Bracket → Sight
calm l bs = record { level = l; brackets = bs; long = false; comma = false; loop = false; init = false; second = false; named = false; naming = false; starred = false }

-- among statements
abbrev pub within : ℕ → List Bracket → List Bracket
within o bs = record { outside = o; inside = statements } ∷ bs

pub then_calm : {z : Sight} {d q c r : Row} {e : Bool} {P : Sight → Type 0} (bs : List Bracket) → Leads z d q (else_behind r e) (λ y. y ≡ calm y.level bs) →
    ((l : ℕ) → Leads (calm l bs) c r e P) → Leads z (d ++ c) (q ++ r) e P
then_calm {z} {d} {q} {c} {r} {e} {P} bs l f = follows (f 0).same_else l (λ m h. subst (λ k. Leads k c r e P) (sym h) (f m.level))

closed : (m : Sight) (b : Bracket) (bs : List Bracket) (e : Bool) → m.brackets ≡ b ∷ bs → step m (mark ")") e ≡ calm (step m (mark ")") e).level bs
closed m b bs e h = λ i. calm (step m (mark ")") e).level (around (h i))

pub closing : {m : Sight} {c r : Row} {e : Bool} {P : Sight → Type 0} {b : Bracket} {bs : List Bracket} → m.brackets ≡ b ∷ bs → ((l : ℕ) → Leads (calm l bs) c r e P) →
    Leads m (mark ")" ∷ c) (mark ")" ∷ r) e P
closing {m} {c} {r} {e} {P} {b} {bs} h f = token (subst (λ k. Leads k c r e P) (sym (closed m b bs (else_behind r e) h)) (f _))

-- behind a `;`
abbrev pub parted_by : ℕ → List Bracket → Sight
parted_by l bs = record (calm l bs) { second = in_head 1 bs }

pub semicolon : {m : Sight} {c r : Row} {e : Bool} {P : Sight → Type 0} {bs : List Bracket} → m.brackets ≡ bs → ((l : ℕ) → Leads (parted_by l (counted bs)) c r e P) →
    Leads m (mark ";" ∷ c) (mark ";" ∷ r) e P
semicolon {m} {c} {r} {e} {P} {bs} h f =
    let now : step m (mark ";") (else_behind r e) ≡ parted_by (step m (mark ";") (else_behind r e)).level (counted bs) =
    λ i. parted_by (step m (mark ";") (else_behind r e)).level (counted (h i)) in
    token (subst (λ k. Leads k c r e P) (sym now) (f _))

-- ---- `++` and `--`, which stand before a place in one row and behind it in the other

pub record Steps (t : Lexeme) : Type 0 where
  pub calms : (z : Sight) (e : Bool) → step z t e ≡ calm z.level z.brackets
  pub no_else : is_word "else" t ≡ false

pub ups : Steps (mark "++")
ups = record { calms = λ z e. refl; no_else = refl }

pub downs : Steps (mark "--")
downs = record { calms = λ z e. refl; no_else = refl }

-- a token that does as much behind a step as behind its place
pub record Ending (t : Lexeme) : Type 0 where
  pub same : (m : Sight) (e : Bool) → (m.long || m.starred) ≡ false → step m t e ≡ step (calm m.level m.brackets) t e
  pub no_else : is_word "else" t ≡ false

pub by_semicolon : Ending (mark ";")
by_semicolon = record { same = λ m e h. refl; no_else = refl }

by_cast : (m : Sight) (e : Bool) → (m.long || m.starred) ≡ false → step m (mark ")") e ≡ step (calm m.level m.brackets) (mark ")") e
by_cast m e h = λ i. calm (if h i then suc (restored m.brackets) else restored m.brackets) (around m.brackets)

pub by_bracket : Ending (mark ")")
by_bracket = record { same = by_cast; no_else = refl }

raised_else : (x : TExpr) (t : Lexeme) (c r : Row) (e : Bool) → is_word "else" t ≡ false → else_behind (expression x ++ c) e ≡ else_behind (t ∷ r) e
raised_else x t c r e h = else_append (expression x) c e ∙ expression_no_else x (else_behind c e) ∙ sym h

-- the sight behind a place, a step and a token is that behind the place and the token
pub raised_then : {l : ℕ} {bs : List Bracket} {t u : Lexeme} {c r : Row} {e : Bool} {P : Sight → Type 0} (x : TExpr) → Steps t → Ending u →
    ((m : Sight) → m.brackets ≡ bs → Leads m (u ∷ c) (u ∷ r) e P) → Leads (calm l bs) (expression x ++ (t ∷ u ∷ c)) (t ∷ (expression x ++ (u ∷ r))) e P
raised_then {l} {bs} {t} {u} {c} {r} {e} {P} x steps ending f = record {
  same_else = raised_else x t (t ∷ u ∷ c) (expression x ++ (u ∷ r)) e steps.no_else;
  leads = λ y s.
      let z : Sight = calm l bs in
      let a = subst (λ k. (k.level ≤ level_limit) × Shallow k (expression x ++ (u ∷ r)) e y) (steps.calms z (else_behind (expression x ++ (u ∷ r)) e)) s in
      let p = parted z y (expression x) (u ∷ r) e a.1 in
      let m = p.middle in
      let ended = expression_ends x z m (else_behind (u ∷ r) e) p.first in
      let q = (f m ended.brackets).leads y p.last in
      let n : Sight = step m t (is_word "else" u) in
      let calmed = steps.calms m (is_word "else" u) in
      let near = subst (λ k. k.level ≤ level_limit) (sym calmed) (low z m (expression x) (is_word "else" u) a.0 p.first) in
      let before = subst (λ k. Shallow z (expression x) k m) (ending.no_else ∙ sym steps.no_else) p.first in
      let last_ = subst (λ k. (k.level ≤ level_limit) × Shallow k c e y)
      (ending.same m (else_behind c e) ended.no_cast ∙ ap (λ k. step k u (else_behind c e)) (sym calmed)) q.0 in
      (linked z m y (expression x) (t ∷ u ∷ c) e before (near, last_), q.1);
}
