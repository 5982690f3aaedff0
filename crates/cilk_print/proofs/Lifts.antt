-- What is to be shown of each form of the grammar: the tokens that its tree has in the canonical text spell the same
-- tree, wherever they stand.
use Rattle.std.proofs.Common.{◌≡◌, ℕ, List, [], ◌∷◌, ◌++◌, map, flat_map}
use Rattle.word_ops.specs.declared.place.Pos.{Pos}
use Rattle.cilk_ast.specs.declared.kind.Kind.{Kind}
use Rattle.cilk_ast.specs.declared.tree.TExpr.{TExpr}
use Rattle.cilk_ast.specs.declared.tree.TStmt.{TStmt}
use Rattle.cilk_ast.specs.declared.tree.Param.{Param}
use Rattle.cilk_ast.specs.declared.tree.Item.{Item}
use Rattle.cilk_ast.specs.declared.tree.Item.TheVariants.{Function}
use Rattle.cilk_ast.specs.TreeStatement.{part_of}
use Rattle.cilk_model.specs.Lexemes.{finish}
use Rattle.cilk_model.specs.GrammarForms as form
use Rattle.cilk_model.specs.GrammarForms.{Form, Val}
use Rattle.cilk_model.specs.Grammar.{Row, Spells}
use Rattle.cilk_model.specs.SameTree.{Same, SameTree, one_expression, expressions, perhaps_expression, one_spawn, one_value, perhaps_value, one_statement, statements, perhaps_statement, parameters, items}
use Rattle.cilk_model.specs.TreeTokens.{nowhere, word, mark, in_brackets, behind_commas, between_commas, star, expression, perhaps, origin, spawn, value, initial, simple, head, statement, parameter, item, tokens_of}
use Rattle.cilk_print.proofs.Saying.{Reads, Found}

-- an expression that goes on behind another
pub record Goes (spells : TExpr → TExpr → Row → Type 0) (x z : TExpr) : Type 0 where
  pub behind : Row
  pub tokens : expression z ≡ expression x ++ behind
  pub reads : (y : TExpr) → Same one_expression x y → Reads behind (Found (spells y) (Same one_expression z))

-- a statement that goes on behind an expression, and ends with a `;`
pub record Changes (spells : TExpr → TStmt → Row → Type 0) (x : TExpr) (s : TStmt) : Type 0 where
  pub behind : Row
  pub tokens : simple s ≡ expression x ++ behind
  pub ends : statement s ≡ simple s ++ mark ";" ∷ []
  pub reads : (y : TExpr) → Same one_expression x y → Reads behind (Found (spells y) (Same one_statement s))

pub record Simply (spells : TStmt → Row → Type 0) (s : TStmt) : Type 0 where
  pub ends : statement s ≡ simple s ++ mark ";" ∷ []
  pub reads : Reads (simple s) (Found spells (Same one_statement s))

-- a declarator of a local
pub record Declares (s : TStmt) : Type 0 where
  pub behind : Row
  pub tokens : statement s ≡ word "long" ∷ (behind ++ mark ";" ∷ [])
  pub reads : Reads behind (Found (Spells form.local) (Same one_statement s))

pub data AllDeclare : List TStmt → Type 0 where
  none : AllDeclare []
  more : {s : TStmt} {ss : List TStmt} → Declares s → AllDeclare ss → AllDeclare (s ∷ ss)

-- a function, unless it is only a prototype
pub data Keeps (k : Kind) (f : List ℕ) : List Item → Type 0 where
  dropped : Keeps k f []
  kept : {at at_name : Pos} {ps : List Param} {s : TStmt} →
      Reads (in_brackets (between_commas (map parameter ps)) ++ statement s)
      (λ b. (there name_there : Pos) → Found (Spells (form.function there k name_there f)) (Same items (Function at k at_name f ps s ∷ [])) b) →
      Keeps k f (Function at k at_name f ps s ∷ [])

abbrev pub Lifts : (n : Form) → Val n → Type 0
Lifts form.star k = Reads (star k) (Spells form.star k)
Lifts (form.expression n) x = Reads (expression x) (Found (Spells (form.expression n)) (Same one_expression x))
Lifts (form.further n x) z = Goes (λ y. Spells (form.further n y)) x z
Lifts form.postfix x = Reads (expression x) (Found (Spells form.postfix) (Same one_expression x))
Lifts (form.indexes x) z = Goes (λ y. Spells (form.indexes y)) x z
Lifts form.primary x = Reads (expression x) (Found (Spells form.primary) (Same one_expression x))
Lifts form.args xs = Reads (between_commas (map expression xs)) (Found (Spells form.args) (Same expressions xs))
Lifts form.more_args xs = Reads (behind_commas (map expression xs)) (Found (Spells form.more_args) (Same expressions xs))
Lifts form.perhaps e = Reads (perhaps e) (Found (Spells form.perhaps) (Same perhaps_expression e))
Lifts form.origin from = Reads (origin from.1) (Found (Spells form.origin) (λ o. Same perhaps_expression from.1 o.1))
Lifts form.spawn s = Reads (spawn s) (Found (Spells form.spawn) (Same one_spawn s))
Lifts (form.value may) v = Reads (value v) (Found (Spells (form.value may)) (Same one_value v))
Lifts form.initial v = Reads (initial v) (Found (Spells form.initial) (Same perhaps_value v))
Lifts form.local s = Declares s
Lifts form.more_locals ss = AllDeclare ss
Lifts (form.simple may) s = Simply (Spells (form.simple may)) s
Lifts (form.change may x) s = Changes (λ y. Spells (form.change may y)) x s
Lifts form.init i = Reads (head (part_of i)) (Found (Spells form.init) (Same perhaps_statement i))
Lifts form.step n = Reads (head (part_of n)) (Found (Spells form.step) (Same perhaps_statement n))
Lifts form.up n = Unit {0}
Lifts form.statement s = Reads (statement s) (Found (Spells form.statement) (Same one_statement s))
Lifts form.block s = Reads (statement s) (Found (Spells form.block) (Same one_statement s))
Lifts form.body ss = Reads (flat_map statement ss) (Found (Spells form.body) (Same statements ss))
Lifts form.params ps = Reads (between_commas (map parameter ps)) (Found (Spells form.params) (Same parameters ps))
Lifts form.param p = Reads (parameter p) (Found (Spells form.param) (λ q. Same parameters (p ∷ []) (q ∷ [])))
Lifts form.more_params ps = Reads (behind_commas (map parameter ps)) (Found (Spells form.more_params) (Same parameters ps))
Lifts (form.function at k at_name f) fs = Keeps k f fs
Lifts (form.more_globals r) gs = Reads (flat_map item gs) (Found (Spells form.items) (Same items gs))
Lifts form.item fs = Reads (flat_map item fs) (Found (Spells form.items) (Same items fs))
Lifts form.items fs = Reads (flat_map item fs) (Found (Spells form.items) (Same items fs))
Lifts form.file tree = Reads (tokens_of tree ++ finish nowhere ∷ []) (Found (Spells form.file) (SameTree tree))
