-- Items lead on alike.
use Rattle.std.proofs.Common.{◌≡◌, ℕ, Bool, true, false, List, [], ◌∷◌, ◌++◌, map, flat_map, ap, refl, ◌∙◌, append_assoc, append-nil}
use Rattle.word_ops.specs.declared.place.Pos.{Pos}
use Rattle.cilk_ast.specs.declared.kind.Kind.{Kind}
use Rattle.cilk_ast.specs.declared.kind.Kind.TheVariants as kind
use Rattle.cilk_ast.specs.declared.tree.TStmt.{TStmt}
use Rattle.cilk_ast.specs.declared.tree.Param.{Param}
use Rattle.cilk_ast.specs.declared.tree.Item.{Item}
use Rattle.cilk_ast.specs.declared.tree.Item.TheVariants.{Global, Function}
use Rattle.cilk_model.specs.Lexemes as lexeme
use Rattle.cilk_model.specs.Signs as sign
use Rattle.cilk_model.specs.GrammarForms as form
use Rattle.cilk_model.specs.Grammar as by
use Rattle.cilk_model.specs.Grammar.{Row, Spells}
use Rattle.cilk_model.specs.Levels.{other}
use Rattle.cilk_model.specs.TreeTokens.{nowhere, word, mark, name, between_commas, behind_commas, star, declared, statement, parameter, result, replicated_word, item}
use Rattle.cilk_print.proofs.Sights.{Sight}
use Rattle.cilk_print.proofs.ShallowRows.{blank, else_behind, Through}
use Rattle.cilk_print.proofs.RowEnds.{Balanced, no_row, both_rows, token_then, star_balanced}
use Rattle.cilk_print.proofs.Leads.{Leads, stop, token, over, follows, weaker, leads_is, calm, closing}
use Rattle.cilk_print.proofs.StatementRuns.{Blocks}
use Rattle.cilk_print.proofs.DeclarationRuns.{Outside, Kept, dropped, kept_is}

-- ---- Parameters: `void` stands for none

pub data Listed (ps : List Param) : Row → Type 0 where
  listed : Listed ps (between_commas (map parameter ps))
  none_listed : ps ≡ [] → Listed ps (word "void" ∷ [])

parameter_balanced : (p : Param) → Balanced (parameter p)
parameter_balanced p =
    token_then (word "long") (star p.kind ++ name p.name ∷ []) (λ z e. refl)
    (both_rows (star p.kind) (name p.name ∷ []) (star_balanced p.kind) (token_then (name p.name) [] (λ z e. refl) no_row))

parameters_behind : (ps : List Param) → Balanced (behind_commas (map parameter ps))
parameters_behind [] = no_row
parameters_behind (p ∷ ps) =
    token_then (mark ",") (parameter p ++ behind_commas (map parameter ps)) (λ z e. refl)
    (both_rows (parameter p) (behind_commas (map parameter ps)) (parameter_balanced p) (parameters_behind ps))

parameters_balanced : (ps : List Param) → Balanced (between_commas (map parameter ps))
parameters_balanced [] = no_row
parameters_balanced (p ∷ ps) = both_rows (parameter p) (behind_commas (map parameter ps)) (parameter_balanced p) (parameters_behind ps)

listed_balanced : {ps : List Param} {r : Row} → Listed ps r → Balanced r
listed_balanced {ps} listed = parameters_balanced ps
listed_balanced (none_listed is) = token_then (word "void") [] (λ z e. refl) no_row

abbrev head_of : Sight
head_of = calm 1 (record { outside = 0; inside = other } ∷ [])

listed_then : {ps : List Param} {r c d : Row} {P : Sight → Type 0} → Listed ps r → ((m : Sight) → m.brackets ≡ head_of.brackets → Leads m (mark ")" ∷ c) (mark ")" ∷ d) false P) →
    Leads head_of (between_commas (map parameter ps) ++ (mark ")" ∷ c)) (r ++ (mark ")" ∷ d)) false P
listed_then {ps} listed f = over (between_commas (map parameter ps)) (parameters_balanced ps) f
listed_then {c} (none_listed is) f =
    leads_is (ap (λ qs. between_commas (map parameter qs) ++ (mark ")" ∷ c)) is) refl
    (record { same_else = refl; leads = λ y s. (f head_of refl).leads y s.1 })

-- ---- Functions

result_then : (k : Kind) (f : List ℕ) {c r : Row} {P : Sight → Type 0} → Leads (calm 0 []) c r false P → Leads (calm 0 []) (result k ++ (name f ∷ c)) (result k ++ (name f ∷ r)) false P
result_then kind.Long f l = token (token l)
result_then kind.Ptr f l = token (token (token l))
result_then kind.Void f l = token (token l)
result_then kind.Int f l = token (token l)

result_no_else : (k : Kind) (r : Row) → else_behind (result k ++ r) false ≡ false
result_no_else kind.Long r = refl
result_no_else kind.Ptr r = refl
result_no_else kind.Void r = refl
result_no_else kind.Int r = refl

body_end : (y : Sight) → (y ≡ calm y.level []) × (false ≡ false → y.level ≡ 0) → Outside y
body_end y h = h.0 ∙ ap (λ n. calm n []) (h.1 refl)

function_rows : (at name_at : Pos) (k : Kind) (f : List ℕ) (ps : List Param) (s : TStmt) →
    flat_map item (Function at k name_at f ps s ∷ []) ≡ result k ++ (name f ∷ mark "(" ∷ (between_commas (map parameter ps) ++ (mark ")" ∷ statement s)))
function_rows at name_at k f ps s =
    append-nil (item (Function at k name_at f ps s))
    ∙ ap (λ a. result k ++ (name f ∷ mark "(" ∷ a)) (append_assoc (between_commas (map parameter ps)) (mark ")" ∷ []) (statement s))

pub written_kept : {ps : List Param} {r q : Row} (at name_at : Pos) (k : Kind) (f : List ℕ) (s : TStmt) → Listed ps r → Blocks (statement s) q →
    Kept (flat_map item (Function at k name_at f ps s ∷ [])) (result k ++ (name f ∷ mark "(" ∷ (r ++ (mark ")" ∷ q))))
written_kept {ps} {r} {q} at name_at k f s l b = kept_is (function_rows at name_at k f ps s) refl (record {
  leads = result_then k f (token (listed_then l (λ m h. closing h (λ n. weaker body_end (b.keeps n [] false)))));
  no_else = result_no_else k _;
})

pub prototype_kept : {ps : List Param} {r : Row} (k : Kind) (f : List ℕ) → Listed ps r → Kept [] (result k ++ (name f ∷ mark "(" ∷ (r ++ (mark ")" ∷ mark ";" ∷ []))))
prototype_kept {ps} {r} k f l = dropped (record {
  leads = result_then k f (token (over r (listed_balanced l) (λ m h. closing h (λ n. token (stop refl)))));
  no_else = result_no_else k _;
})

-- ---- Globals

pub record MoreGlobals (gs : List Item) (r : Row) : Type 0 where
  pub leads : Leads (calm 0 []) (mark ";" ∷ flat_map item gs) r false Outside

pub no_globals : MoreGlobals [] (mark ";" ∷ [])
no_globals = record { leads = token (stop refl) }

-- a `,`, and in its place a `;` and the words before a global
comma_of : (many : Bool) (k : Kind) (g : List ℕ) {c r : Row} {P : Sight → Type 0} → Leads (calm 0 []) (name g ∷ c) (name g ∷ r) false P →
    Leads (calm 0 []) (mark ";" ∷ (replicated_word many ++ (word "long" ∷ (star k ++ (name g ∷ c))))) (mark "," ∷ (star k ++ (name g ∷ r))) false P
comma_of false kind.Ptr g l = record { same_else = refl; leads = λ y s. let d = l.leads y s.1.1 in ((s.0, (s.0, (s.0, d.0))), d.1) }
comma_of false kind.Long g l = record { same_else = refl; leads = λ y s. let d = l.leads y s.1 in ((s.0, (s.0, d.0)), d.1) }
comma_of false kind.Void g l = record { same_else = refl; leads = λ y s. let d = l.leads y s.1 in ((s.0, (s.0, d.0)), d.1) }
comma_of false kind.Int g l = record { same_else = refl; leads = λ y s. let d = l.leads y s.1 in ((s.0, (s.0, d.0)), d.1) }
comma_of true kind.Ptr g l = record { same_else = refl; leads = λ y s. let d = l.leads y s.1.1 in ((s.0, (s.0, (s.0, (s.0, d.0)))), d.1) }
comma_of true kind.Long g l = record { same_else = refl; leads = λ y s. let d = l.leads y s.1 in ((s.0, (s.0, (s.0, d.0))), d.1) }
comma_of true kind.Void g l = record { same_else = refl; leads = λ y s. let d = l.leads y s.1 in ((s.0, (s.0, (s.0, d.0))), d.1) }
comma_of true kind.Int g l = record { same_else = refl; leads = λ y s. let d = l.leads y s.1 in ((s.0, (s.0, (s.0, d.0))), d.1) }

comma_then : (many : Bool) (k : Kind) (g : List ℕ) {c r : Row} {P : Sight → Type 0} → Leads (calm 0 []) c r false P →
    Leads (calm 0 []) (mark ";" ∷ (replicated_word many ++ (word "long" ∷ (star k ++ (name g ∷ c))))) (mark "," ∷ (star k ++ (name g ∷ r))) false P
comma_then many k g l = comma_of many k g (token l)

long_then : (k : Kind) (g : List ℕ) {c r : Row} {P : Sight → Type 0} → Leads (calm 0 []) c r false P →
    Leads (calm 0 []) (word "long" ∷ (star k ++ (name g ∷ c))) (word "long" ∷ (star k ++ (name g ∷ r))) false P
long_then kind.Ptr g l = token (token (token l))
long_then kind.Long g l = token (token l)
long_then kind.Void g l = token (token l)
long_then kind.Int g l = token (token l)

global_rows : (at : Pos) (g : List ℕ) (k : Kind) (many : Bool) (gs : List Item) →
    flat_map item (Global at g k many ∷ gs) ≡ replicated_word many ++ (word "long" ∷ (star k ++ (name g ∷ mark ";" ∷ flat_map item gs)))
global_rows at g k many gs =
    append_assoc (replicated_word many) (declared k g ++ mark ";" ∷ []) (flat_map item gs)
    ∙ ap (λ a. replicated_word many ++ (word "long" ∷ a))
    (append_assoc (star k ++ name g ∷ []) (mark ";" ∷ []) (flat_map item gs) ∙ append_assoc (star k) (name g ∷ []) (mark ";" ∷ flat_map item gs))

pub next_global : {gs : List Item} {r : Row} (at : Pos) (g : List ℕ) (k : Kind) (many : Bool) → MoreGlobals gs r → MoreGlobals (Global at g k many ∷ gs) (mark "," ∷ (star k ++ (name g ∷ r)))
next_global {gs} at g k many more_ = record { leads = leads_is (ap (λ a. mark ";" ∷ a) (global_rows at g k many gs)) refl (comma_then many k g more_.leads) }

pub plain_kept : {gs : List Item} {r : Row} (at : Pos) (g : List ℕ) (k : Kind) → MoreGlobals gs r → Kept (flat_map item (Global at g k false ∷ gs)) (word "long" ∷ (star k ++ (name g ∷ r)))
plain_kept {gs} at g k more_ = kept_is (global_rows at g k false gs) refl (record { leads = long_then k g more_.leads; no_else = refl })

pub replicated_kept : {gs : List Item} {r : Row} (at : Pos) (g : List ℕ) (k : Kind) → MoreGlobals gs r →
    Kept (flat_map item (Global at g k true ∷ gs)) (word "replicated" ∷ word "long" ∷ (star k ++ (name g ∷ r)))
replicated_kept {gs} at g k more_ = kept_is (global_rows at g k true gs) refl (record { leads = token (long_then k g more_.leads); no_else = refl })

-- ---- The result of a function as written, and the file

pub long_function_kept : {k : Kind} (f : List ℕ) (fs : List Item) (at at_name : Pos) (a b : Row) → Spells form.star k a → Kept (flat_map item fs) (result k ++ (name f ∷ blank b)) →
    Kept (flat_map item fs) (blank (sign.word "long" at ∷ (a ++ (lexeme.name at_name f ∷ b))))
long_function_kept f fs at at_name a b by.no_star k = k
long_function_kept f fs at at_name a b by.a_star k = k

pub file_through : {c r : Row} → Kept c r → Through (calm 0 []) (r ++ lexeme.finish nowhere ∷ []) → Through (calm 0 []) (c ++ lexeme.finish nowhere ∷ [])
file_through {c} {r} k through =
    let l : Leads (calm 0 []) (c ++ lexeme.finish nowhere ∷ []) (r ++ lexeme.finish nowhere ∷ []) false (λ y. Unit {0}) =
    follows refl k.leads (λ m h. token (stop tt)) in
    record { end = through.end; runs = (l.leads through.end through.runs).0 }
