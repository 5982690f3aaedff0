-- Declarations and items lead on alike: the canonical text declares each local and each global by itself, and has no
-- prototypes.
use Rattle.std.proofs.Common.{◌≡◌, ℕ, Bool, false, List, [], ◌∷◌, ◌++◌, flat_map, ap, refl, sym, subst, ◌∙◌, append_assoc, Option}
use Rattle.std.proofs.lemmas.Grind.{flat_map-append}
use Rattle.cilk_ast.specs.declared.kind.Kind.{Kind}
use Rattle.cilk_ast.specs.declared.kind.Kind.TheVariants as kind
use Rattle.cilk_ast.specs.declared.tree.TStmt.{TStmt}
use Rattle.cilk_ast.specs.declared.tree.TValue.{TValue}
use Rattle.cilk_model.specs.Grammar.{Row}
use Rattle.cilk_model.specs.Levels.{Bracket, start_level}
use Rattle.cilk_model.specs.TreeTokens.{word, mark, name, star, initial, statement}
use Rattle.cilk_print.proofs.Sights.{Sight}
use Rattle.cilk_print.proofs.ShallowRows.{else_behind, else_append}
use Rattle.cilk_print.proofs.RowEnds.{Balanced, both_rows, token_then, star_balanced, initial_balanced}
use Rattle.cilk_print.proofs.Leads.{Leads, stop, token, over, follows, leads_is, calm, within, then_calm, semicolon}
use Rattle.cilk_print.proofs.StatementRuns.{Keeps}

-- ---- Locals. A declarator, without its `long` or `,`

abbrev pub declarator : Kind → List ℕ → Option TValue → Row
declarator k x v = star k ++ (name x ∷ initial v)

declarator_balanced : (k : Kind) (x : List ℕ) (v : Option TValue) → Balanced (declarator k x v)
declarator_balanced k x v = both_rows (star k) (name x ∷ initial v) (star_balanced k) (token_then (name x) (initial v) (λ z e. refl) (initial_balanced v))

-- what stands behind a declarator, up to its `;`, and the locals behind that one
pub record MoreLocals (ss : List TStmt) (r : Row) : Type 0 where
  pub keeps : (m : Sight) (o : ℕ) (bs : List Bracket) (e : Bool) → m.brackets ≡ within o bs →
      Leads m (mark ";" ∷ flat_map statement ss) r e (λ y. y ≡ calm y.level (within o bs))

pub no_locals : MoreLocals [] (mark ";" ∷ [])
no_locals = record { keeps = λ m o bs e h. semicolon h (λ n. stop refl) }

-- a `,`, and in its place a `;` and a `long`
comma_of : (m : Sight) (o : ℕ) (bs : List Bracket) (k : Kind) (x : List ℕ) (c r : Row) (e : Bool) (P : Sight → Type 0) →
    Leads (calm (start_level (within o bs)) (within o bs)) (name x ∷ c) (name x ∷ r) e P →
    Leads (record m { brackets = within o bs }) (mark ";" ∷ word "long" ∷ (star k ++ (name x ∷ c))) (mark "," ∷ (star k ++ (name x ∷ r))) e P
comma_of m o bs kind.Ptr x c r e P l = record { same_else = refl; leads = λ y s. let d = l.leads y s.1.1 in ((s.0, (s.0, (s.0, d.0))), d.1) }
comma_of m o bs kind.Long x c r e P l = record { same_else = refl; leads = λ y s. let d = l.leads y s.1 in ((s.0, (s.0, d.0)), d.1) }
comma_of m o bs kind.Void x c r e P l = record { same_else = refl; leads = λ y s. let d = l.leads y s.1 in ((s.0, (s.0, d.0)), d.1) }
comma_of m o bs kind.Int x c r e P l = record { same_else = refl; leads = λ y s. let d = l.leads y s.1 in ((s.0, (s.0, d.0)), d.1) }

comma_then : (m : Sight) (o : ℕ) (bs : List Bracket) (k : Kind) (x : List ℕ) (c r : Row) (e : Bool) (P : Sight → Type 0) → m.brackets ≡ within o bs →
    Leads (calm (start_level (within o bs)) (within o bs)) c r e P →
    Leads m (mark ";" ∷ word "long" ∷ (star k ++ (name x ∷ c))) (mark "," ∷ (star k ++ (name x ∷ r))) e P
comma_then m o bs k x c r e P h l =
    let is : m ≡ record m { brackets = within o bs } = λ i. record m { brackets = h i } in
    subst (λ n. Leads n (mark ";" ∷ word "long" ∷ (star k ++ (name x ∷ c))) (mark "," ∷ (star k ++ (name x ∷ r))) e P) (sym is) (comma_of m o bs k x c r e P (token l))

next_rows : (k : Kind) (x : List ℕ) (v : Option TValue) (s : TStmt) (d : Row) → statement s ≡ word "long" ∷ (declarator k x v ++ mark ";" ∷ []) →
    mark ";" ∷ (statement s ++ d) ≡ mark ";" ∷ word "long" ∷ (star k ++ (name x ∷ (initial v ++ (mark ";" ∷ d))))
next_rows k x v s d is =
    ap (λ a. mark ";" ∷ (a ++ d)) is
    ∙ ap (λ a. mark ";" ∷ word "long" ∷ a) (append_assoc (declarator k x v) (mark ";" ∷ []) d ∙ append_assoc (star k) (name x ∷ initial v) (mark ";" ∷ d))

pub next_local : {ss : List TStmt} {r : Row} (k : Kind) (x : List ℕ) (v : Option TValue) (s : TStmt) → statement s ≡ word "long" ∷ (declarator k x v ++ mark ";" ∷ []) →
    MoreLocals ss r → MoreLocals (s ∷ ss) (mark "," ∷ (declarator k x v ++ r))
next_local {ss} {r} k x v s is more_ = record {
  keeps = λ m o bs e h.
      leads_is (next_rows k x v s (flat_map statement ss) is) (ap (λ a. mark "," ∷ a) (append_assoc (star k) (name x ∷ initial v) r))
      (comma_then m o bs k x _ _ e _ h (over (initial v) (initial_balanced v) (λ n g. more_.keeps n o bs e g)));
}

local_rows : (k : Kind) (x : List ℕ) (v : Option TValue) (s : TStmt) (ss rest : List TStmt) → statement s ≡ word "long" ∷ (declarator k x v ++ mark ";" ∷ []) →
    flat_map statement (s ∷ (ss ++ rest)) ≡ word "long" ∷ (declarator k x v ++ ((mark ";" ∷ flat_map statement ss) ++ flat_map statement rest))
local_rows k x v s ss rest is =
    ap (λ a. a ++ flat_map statement (ss ++ rest)) is
    ∙ ap (λ a. word "long" ∷ a) (append_assoc (declarator k x v) (mark ";" ∷ []) (flat_map statement (ss ++ rest)))
    ∙ ap (λ a. word "long" ∷ (declarator k x v ++ (mark ";" ∷ a))) (flat_map-append statement ss rest)

pub locals_keep : (ss rest : List TStmt) {r q : Row} (k : Kind) (x : List ℕ) (v : Option TValue) (s : TStmt) → statement s ≡ word "long" ∷ (declarator k x v ++ mark ";" ∷ []) →
    MoreLocals ss r → Keeps (flat_map statement rest) q → Keeps (flat_map statement (s ∷ (ss ++ rest))) (word "long" ∷ (declarator k x v ++ (r ++ q)))
locals_keep ss rest {r} {q} k x v s is more_ b = record {
  keeps = λ l o bs e.
      leads_is (local_rows k x v s ss rest is) refl
      (token (over (declarator k x v) (declarator_balanced k x v) (λ m h. then_calm (within o bs) (more_.keeps m o bs (else_behind q e) h) (λ n. b.keeps n o bs e))));
}

-- ---- Globals and functions: each item starts where nothing is open, and ends there

abbrev pub Outside : Sight → Type 0
Outside y = y ≡ calm 0 []

pub record Kept (c r : Row) : Type 0 where
  pub leads : Leads (calm 0 []) c r false Outside
  pub no_else : else_behind r false ≡ false

pub none_kept : Kept [] []
none_kept = record { leads = stop refl; no_else = refl }

pub next_kept : {c r d q : Row} → Kept c r → Kept d q → Kept (c ++ d) (r ++ q)
next_kept {c} {r} {d} {q} s t = record {
  leads = follows (t.leads.same_else) (subst (λ k. Leads (calm 0 []) c r k Outside) (sym t.no_else) s.leads) (λ m h. subst (λ k. Leads k d q false Outside) (sym h) t.leads);
  no_else = else_append r q false ∙ ap (else_behind r) t.no_else ∙ s.no_else;
}

pub kept_is : {c d r q : Row} → c ≡ d → r ≡ q → Kept d q → Kept c r
kept_is {c} {d} {r} {q} a b k = record { leads = leads_is a b k.leads; no_else = ap (λ x. else_behind x false) b ∙ k.no_else }

-- what is dropped
pub dropped : {r : Row} → Kept r r → Kept [] r
dropped {r} k = record {
  leads = record { same_else = sym k.no_else; leads = λ y s. let h = (k.leads.leads y s).1 in (sym h, h) };
  no_else = k.no_else;
}
