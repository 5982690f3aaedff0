-- What is to be shown of each form of the grammar: how the tokens as written stand to the canonical ones. Those of an
-- expression are the same, places aside.
use Rattle.std.proofs.Common.{◌≡◌, ℕ, List, [], ◌∷◌, ◌++◌, map, flat_map, refl, ap, sym, subst, ◌∙◌, Option}
use Rattle.std.proofs.lemmas.List.{map-append}
use Rattle.word_ops.specs.declared.place.Pos.{Pos}
use Rattle.cilk_ast.specs.declared.kind.Kind.{Kind}
use Rattle.cilk_ast.specs.declared.tree.TExpr.{TExpr}
use Rattle.cilk_ast.specs.declared.tree.TStmt.{TStmt}
use Rattle.cilk_ast.specs.declared.tree.TValue.{TValue}
use Rattle.cilk_ast.specs.TreeStatement.{part_of}
use Rattle.cilk_model.specs.Lexemes as lexeme
use Rattle.cilk_model.specs.Signs as sign
use Rattle.cilk_model.specs.GrammarForms as form
use Rattle.cilk_model.specs.GrammarForms.{Form, Val}
use Rattle.cilk_model.specs.Grammar.{Row}
use Rattle.cilk_model.specs.TreeTokens.{nowhere, word, mark, name, behind_commas, between_commas, star, expression, perhaps, origin, spawn, value, initial, simple, head, statement, parameter, result, item}
use Rattle.cilk_print.proofs.Saying.{placed}
use Rattle.cilk_print.proofs.ShallowRows.{blank, Through}
use Rattle.cilk_print.proofs.RowEnds.{Balanced}
use Rattle.cilk_print.proofs.Leads.{calm}
use Rattle.cilk_print.proofs.StatementRuns.{Keeps, Blocks, Simply, Counts}
use Rattle.cilk_print.proofs.DeclarationRuns.{declarator, MoreLocals, Kept}
use Rattle.cilk_print.proofs.ItemRuns.{Listed, MoreGlobals}

-- a row behind another, of which the first is known
pub joint : {x : Row} (a b : Row) → blank a ≡ x → blank (a ++ b) ≡ x ++ blank b
joint a b is = map-append (placed nowhere) a b ∙ ap (λ q. q ++ blank b) is

-- a declarator of a local
pub record Declared (s : TStmt) (r : Row) : Type 0 where
  pub kind : Kind
  pub called : List ℕ
  pub starts : Option TValue
  pub row : r ≡ declarator kind called starts
  pub tokens : statement s ≡ word "long" ∷ (declarator kind called starts ++ mark ";" ∷ [])

-- a simple statement
pub record Simple (s : TStmt) (r : Row) : Type 0 where
  pub ends : statement s ≡ simple s ++ mark ";" ∷ []
  pub simply : Simply (simple s) r

-- what stands behind the expression of a simple statement
pub record Changed (x : TExpr) (s : TStmt) (r : Row) : Type 0 where
  pub ends : statement s ≡ simple s ++ mark ";" ∷ []
  pub tokens : simple s ≡ expression x ++ r
  pub balanced : Balanced r

pub simply_is : {c r q : Row} → r ≡ q → Simply c q → Simply c r
simply_is {c} is s = subst (Simply c) (sym is) s

-- ---- Rows of tokens, of which some parts are known

pub for_rows : (a b c d : Row) {t : Row} (end_init end_test close : Pos) → blank b ≡ t →
    blank (a ++ (sign.mark ";" end_init ∷ (b ++ (sign.mark ";" end_test ∷ (c ++ (sign.mark ")" close ∷ d))))))
    ≡ blank a ++ (mark ";" ∷ (t ++ (mark ";" ∷ (blank c ++ (mark ")" ∷ blank d)))))
for_rows a b c d {t} end_init end_test close is =
    joint a (sign.mark ";" end_init ∷ (b ++ (sign.mark ";" end_test ∷ (c ++ (sign.mark ")" close ∷ d))))) refl
    ∙ ap (λ q. blank a ++ (mark ";" ∷ q)) (joint b (sign.mark ";" end_test ∷ (c ++ (sign.mark ")" close ∷ d))) is
    ∙ ap (λ q. t ++ (mark ";" ∷ q)) (joint c (sign.mark ")" close ∷ d) refl))

pub cilk_for_rows : (a b c d : Row) {l h : Row} (j : List ℕ) (end_low at_second less end_high close : Pos) → blank a ≡ l → blank b ≡ h →
    blank (a ++ (sign.mark ";" end_low ∷ lexeme.name at_second j ∷ sign.mark "<" less ∷ (b ++ (sign.mark ";" end_high ∷ (c ++ (sign.mark ")" close ∷ d))))))
    ≡ l ++ (mark ";" ∷ name j ∷ mark "<" ∷ (h ++ (mark ";" ∷ (blank c ++ (mark ")" ∷ blank d)))))
cilk_for_rows a b c d {l} {h} j end_low at_second less end_high close low_ high =
    joint a (sign.mark ";" end_low ∷ lexeme.name at_second j ∷ sign.mark "<" less ∷ (b ++ (sign.mark ";" end_high ∷ (c ++ (sign.mark ")" close ∷ d))))) low_
    ∙ ap (λ q. l ++ (mark ";" ∷ name j ∷ mark "<" ∷ q)) (joint b (sign.mark ";" end_high ∷ (c ++ (sign.mark ")" close ∷ d))) high
    ∙ ap (λ q. h ++ (mark ";" ∷ q)) (joint c (sign.mark ")" close ∷ d) refl))

abbrev pub Levelled : (n : Form) → Val n → Row → Type 0
Levelled form.star k r = r ≡ star k
Levelled (form.expression n) x r = r ≡ expression x
Levelled (form.further n x) z r = expression z ≡ expression x ++ r
Levelled form.postfix x r = r ≡ expression x
Levelled (form.indexes x) z r = expression z ≡ expression x ++ r
Levelled form.primary x r = r ≡ expression x
Levelled form.args xs r = r ≡ between_commas (map expression xs)
Levelled form.more_args xs r = r ≡ behind_commas (map expression xs)
Levelled form.perhaps e r = r ≡ perhaps e
Levelled form.origin from r = r ≡ origin from.1
Levelled form.spawn s r = r ≡ spawn s
Levelled (form.value may) v r = r ≡ value v
Levelled form.initial v r = r ≡ initial v
Levelled form.local s r = Declared s r
Levelled form.more_locals ss r = MoreLocals ss r
Levelled (form.simple may) s r = Simple s r
Levelled (form.change may x) s r = Changed x s r
Levelled form.init i r = Simply (head (part_of i)) r
Levelled form.step i r = Simply (head (part_of i)) r
Levelled form.up n r = Counts n.1 r
Levelled form.statement s r = Keeps (statement s) r
Levelled form.block s r = Blocks (statement s) r
Levelled form.body ss r = Keeps (flat_map statement ss) r
Levelled form.params ps r = Listed ps r
Levelled form.param p r = r ≡ parameter p
Levelled form.more_params ps r = r ≡ behind_commas (map parameter ps)
Levelled (form.function at k at_name f) fs r = Kept (flat_map item fs) (result k ++ (name f ∷ r))
Levelled (form.more_globals many) gs r = MoreGlobals gs r
Levelled form.item fs r = Kept (flat_map item fs) r
Levelled form.items fs r = Kept (flat_map item fs) r
Levelled form.file tree r = Through (calm 0 []) r → Through (calm 0 []) (flat_map item tree.items ++ lexeme.finish nowhere ∷ [])
