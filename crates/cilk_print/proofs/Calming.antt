-- The canonical tokens of every tree stay apart.
use Rattle.std.proofs.Common.{◌≡◌, sym, subst, ℕ, Bool, true, false, List, [], ◌∷◌, ◌++◌, map, flat_map, refl, append_assoc, Option, Some, None}
use Rattle.word_ops.specs.declared.operators.BinaryOp.TheVariants as op
use Rattle.cilk_ast.specs.declared.kind.Kind.{Kind}
use Rattle.cilk_ast.specs.declared.kind.Kind.TheVariants as kind
use Rattle.cilk_ast.specs.declared.builtin.Builtin.{Builtin}
use Rattle.cilk_ast.specs.declared.builtin.Builtin.TheVariants as built
use Rattle.cilk_ast.specs.declared.tree.TExpr.{TExpr, Number, Var, Call', Builtin', Print', Row_of-TExpr as Args, end_of-TExpr as no_args, more_of-TExpr as more_args}
use Rattle.cilk_ast.specs.TreeExpression.{Paren, Un, Deref, Cast, Index, Bin, Both, Either, InitAt}
use Rattle.cilk_ast.specs.declared.tree.TStmt.{TStmt, Empty, Block', Local, Eval, Assign, AddTo, Up, Down, Spawn, Break, Continue, Return, Sync, None', Held-TStmt-If-2, Row_of-TStmt as Stmts, end_of-TStmt as no_stmts, more_of-TStmt as more_stmts}
use Rattle.cilk_ast.specs.TreeStatement.{If, While, For, CilkFor, Present}
use Rattle.cilk_ast.specs.declared.tree.TSpawn.{TSpawn}
use Rattle.cilk_ast.specs.declared.tree.TValue.{TValue}
use Rattle.cilk_ast.specs.declared.tree.TValue.TheVariants.{Plain, Spawned}
use Rattle.cilk_ast.specs.declared.tree.Param.{Param}
use Rattle.cilk_ast.specs.declared.tree.Item.{Item}
use Rattle.cilk_ast.specs.declared.tree.Item.TheVariants.{Global, Function}
use Rattle.cilk_model.specs.Signs.{Prefix, minus, opposite, complement, contents, prefix_spelling, Infix, both, either, binary, infix_spelling, builtin_spelling}
use Rattle.cilk_model.specs.Grammar.{Row}
use Rattle.cilk_model.specs.Lexemes as lexeme
use Rattle.cilk_model.specs.TreeTokens.{nowhere, word, mark, name, prefix, star, expression, arguments, perhaps, origin, spawn, value, initial, declared, simple, head, for_head, cilk_for_head, statement, statements, parameter, result, replicated_word, item, in_brackets, between_commas, behind_commas}
use Rattle.cilk_print.proofs.Clear.{may_follow, Calm, calm, more_calm}

prefix_follows : (sign : Bool) (o : Prefix) → may_follow sign (mark (prefix_spelling o)) ≡ true
prefix_follows sign minus = refl
prefix_follows sign opposite = refl
prefix_follows sign complement = refl
prefix_follows sign contents = refl

infix_follows : (o : Infix) → may_follow false (mark (infix_spelling o)) ≡ true
infix_follows either = refl
infix_follows both = refl
infix_follows (binary op.Or) = refl
infix_follows (binary op.Xor) = refl
infix_follows (binary op.And) = refl
infix_follows (binary op.Eq) = refl
infix_follows (binary op.Ne) = refl
infix_follows (binary op.Lt) = refl
infix_follows (binary op.Le) = refl
infix_follows (binary op.Gt) = refl
infix_follows (binary op.Ge) = refl
infix_follows (binary op.Shl) = refl
infix_follows (binary op.Shr) = refl
infix_follows (binary op.Add) = refl
infix_follows (binary op.Sub) = refl
infix_follows (binary op.Mul) = refl
infix_follows (binary op.Div) = refl
infix_follows (binary op.Rem) = refl

builtin_follows : (sign : Bool) (which : Builtin) → may_follow sign (word (builtin_spelling which)) ≡ true
builtin_follows sign built.MwMalloc1dlong = refl
builtin_follows sign built.MwMalloc2dlong = refl
builtin_follows sign built.MwLocalmalloc = refl
builtin_follows sign built.MwMallocrepl = refl
builtin_follows sign built.MwReplicatedInit = refl
builtin_follows sign built.RemoteAdd = refl
builtin_follows sign built.RemoteAnd = refl
builtin_follows sign built.RemoteOr = refl
builtin_follows sign built.RemoteXor = refl
builtin_follows sign built.RemoteMin = refl
builtin_follows sign built.RemoteMax = refl
builtin_follows sign built.AtomicAddms = refl
builtin_follows sign built.AtomicSwap = refl
builtin_follows sign built.AtomicCas = refl
builtin_follows sign built.Fence = refl
builtin_follows sign built.Migrate = refl
builtin_follows sign built.NodeId = refl

-- what holds of a row and more behind it
by_parts : (sign : Bool) (a b c : Row) → Calm sign (a ++ (b ++ c)) → Calm sign ((a ++ b) ++ c)
by_parts sign a b c k = subst (Calm sign) (sym (append_assoc a b c)) k

bracket_parts : (sign : Bool) (a c : Row) → Calm false (a ++ (mark ")" ∷ c)) → Calm sign (in_brackets a ++ c)
bracket_parts sign a c k = more_calm refl (by_parts false a (mark ")" ∷ []) c k)

calm_star : (k : Kind) (c : Row) → Calm false c → Calm false (star k ++ c)
calm_star kind.Long c k = k
calm_star kind.Ptr c k = more_calm refl k
calm_star kind.Void c k = k
calm_star kind.Int c k = k

-- ---- Expressions

mutual
  pub calm_expression : (e : TExpr) (sign : Bool) (c : Row) → Calm false c → Calm sign (expression e ++ c)
  calm_expression (Number at v) sign c k = more_calm refl k
  calm_expression (Var at x) sign c k = more_calm refl k
  calm_expression (Paren at e) sign c k = bracket_parts sign (expression e) c (calm_expression e false (mark ")" ∷ c) (more_calm refl k))
  calm_expression (Un at o e) sign c k = more_calm (prefix_follows sign (prefix o)) (calm_expression e _ c k)
  calm_expression (Deref at e) sign c k = more_calm refl (calm_expression e false c k)
  calm_expression (Cast at t e) sign c k =
      by_parts sign (in_brackets (word "long" ∷ star t)) (expression e) c
      (bracket_parts sign (word "long" ∷ star t) (expression e ++ c) (more_calm refl (calm_star t (mark ")" ∷ (expression e ++ c)) (more_calm refl (calm_expression e false c k)))))
  calm_expression (Index at b i) sign c k =
      by_parts sign (expression b) (mark "[" ∷ (expression i ++ mark "]" ∷ [])) c
      (calm_expression b sign _ (more_calm refl (by_parts false (expression i) (mark "]" ∷ []) c (calm_expression i false (mark "]" ∷ c) (more_calm refl k)))))
  calm_expression (Bin at o l r) sign c k =
      by_parts sign (expression l) (mark (infix_spelling (binary o)) ∷ expression r) c
      (calm_expression l sign _ (more_calm (infix_follows (binary o)) (calm_expression r _ c k)))
  calm_expression (Both at l r) sign c k =
      by_parts sign (expression l) (mark "&&" ∷ expression r) c (calm_expression l sign _ (more_calm refl (calm_expression r false c k)))
  calm_expression (Either at l r) sign c k =
      by_parts sign (expression l) (mark "||" ∷ expression r) c (calm_expression l sign _ (more_calm refl (calm_expression r false c k)))
  calm_expression (Call' at f n args) sign c k =
      more_calm refl (bracket_parts false (between_commas (arguments args)) c (calm_between args (mark ")" ∷ c) (more_calm refl k)))
  calm_expression (Builtin' at which n args) sign c k =
      more_calm (builtin_follows sign which) (bracket_parts false (between_commas (arguments args)) c (calm_between args (mark ")" ∷ c) (more_calm refl k)))
  calm_expression (Print' at text_at format n args) sign c k =
      more_calm refl (bracket_parts false (lexeme.text nowhere format ∷ behind_commas (arguments args)) c (more_calm refl (calm_behind args (mark ")" ∷ c) (more_calm refl k))))
  calm_expression (InitAt at name_at x v) sign c k =
      more_calm refl (bracket_parts false (mark "&" ∷ name x ∷ mark "," ∷ expression v) c (more_calm refl (more_calm refl (more_calm refl (calm_expression v false (mark ")" ∷ c) (more_calm refl k))))))

  calm_between : {n : _} (args : Args n) (c : Row) → Calm false c → Calm false (between_commas (arguments args) ++ c)
  calm_between no_args c k = k
  calm_between (more_args e rest) c k =
      by_parts false (expression e) (behind_commas (arguments rest)) c (calm_expression e false _ (calm_behind rest c k))

  calm_behind : {n : _} (args : Args n) (c : Row) → Calm false c → Calm false (behind_commas (arguments args) ++ c)
  calm_behind no_args c k = k
  calm_behind (more_args e rest) c k =
      more_calm refl (by_parts false (expression e) (behind_commas (arguments rest)) c (calm_expression e false _ (calm_behind rest c k)))

calm_commas : (es : List TExpr) (c : Row) → Calm false c → Calm false (behind_commas (map expression es) ++ c)
calm_commas [] c k = k
calm_commas (e ∷ es) c k = more_calm refl (by_parts false (expression e) (behind_commas (map expression es)) c (calm_expression e false _ (calm_commas es c k)))

calm_args : (es : List TExpr) (c : Row) → Calm false c → Calm false (between_commas (map expression es) ++ c)
calm_args [] c k = k
calm_args (e ∷ es) c k = by_parts false (expression e) (behind_commas (map expression es)) c (calm_expression e false _ (calm_commas es c k))

calm_perhaps : (e : Option TExpr) (c : Row) → Calm false c → Calm false (perhaps e ++ c)
calm_perhaps None c k = k
calm_perhaps (Some e) c k = calm_expression e false c k

-- ---- Statements

calm_origin : (hint : Option TExpr) (c : Row) → Calm false c → Calm false (origin hint ++ c)
calm_origin None c k = more_calm refl k
calm_origin (Some hint) c k = more_calm refl (bracket_parts false (expression hint) c (calm_expression hint false _ (more_calm refl k)))

calm_spawn : (s : TSpawn) (c : Row) → Calm false c → Calm false (spawn s ++ c)
calm_spawn s c k =
    by_parts false (origin s.hint) (name s.name ∷ in_brackets (between_commas (map expression s.args))) c
    (calm_origin s.hint _ (more_calm refl (bracket_parts false (between_commas (map expression s.args)) c (calm_args s.args _ (more_calm refl k)))))

calm_value : (v : TValue) (c : Row) → Calm false c → Calm false (value v ++ c)
calm_value (Plain e) c k = calm_expression e false c k
calm_value (Spawned s) c k = calm_spawn s c k

calm_initial : (v : Option TValue) (c : Row) → Calm false c → Calm false (initial v ++ c)
calm_initial None c k = k
calm_initial (Some v) c k = more_calm refl (calm_value v c k)

calm_declared : (t : Kind) (x : List ℕ) (c : Row) → Calm false c → Calm false (declared t x ++ c)
calm_declared t x c k = more_calm refl (by_parts false (star t) (name x ∷ []) c (calm_star t _ (more_calm refl k)))

calm_simple : (s : TStmt) (c : Row) → Calm false c → Calm false (simple s ++ c)
calm_simple (Local at t x v) c k = by_parts false (declared t x) (initial v) c (calm_declared t x _ (calm_initial v c k))
calm_simple (Eval e) c k = calm_expression e false c k
calm_simple (Assign at left v) c k = by_parts false (expression left) (mark "=" ∷ value v) c (calm_expression left false _ (more_calm refl (calm_value v c k)))
calm_simple (AddTo at left e) c k = by_parts false (expression left) (mark "+=" ∷ expression e) c (calm_expression left false _ (more_calm refl (calm_expression e false c k)))
calm_simple (Up left) c k = by_parts false (expression left) (mark "++" ∷ []) c (calm_expression left false _ (more_calm refl k))
calm_simple (Down left) c k = by_parts false (expression left) (mark "--" ∷ []) c (calm_expression left false _ (more_calm refl k))
calm_simple (Spawn s) c k = calm_spawn s c k
calm_simple (Break at) c k = more_calm refl k
calm_simple (Continue at) c k = more_calm refl k
calm_simple (Return at e) c k = more_calm refl (calm_perhaps e c k)
calm_simple Sync c k = more_calm refl k
calm_simple Empty c k = k
calm_simple (Block' n body) c k = k
calm_simple (If test yes_ no_) c k = k
calm_simple (While test body) c k = k
calm_simple (For init test step body) c k = k
calm_simple (CilkFor at i low second high third body) c k = k

calm_head : (part : Held-TStmt-If-2) (c : Row) → Calm false c → Calm false (head part ++ c)
calm_head None' c k = k
calm_head (Present s) c k = calm_simple s c k

calm_for_head : (init : Held-TStmt-If-2) (test : Option TExpr) (step : Held-TStmt-If-2) (c : Row) → Calm false c → Calm false (for_head init test step ++ c)
calm_for_head init test step c k =
    by_parts false (head init) (mark ";" ∷ (perhaps test ++ (mark ";" ∷ head step))) c (calm_head init _ (more_calm refl
    (by_parts false (perhaps test) (mark ";" ∷ head step) c (calm_perhaps test _ (more_calm refl (calm_head step c k))))))

calm_cilk_for_head : (i : List ℕ) (low : TExpr) (j : List ℕ) (high : TExpr) (n : List ℕ) (c : Row) → Calm false c → Calm false (cilk_for_head i low j high n ++ c)
calm_cilk_for_head i low j high n c k =
    more_calm refl (more_calm refl (more_calm refl (by_parts false (expression low) (mark ";" ∷ name j ∷ mark "<" ∷ (expression high ++ (mark ";" ∷ name n ∷ mark "++" ∷ []))) c (calm_expression low false _ (more_calm refl (more_calm refl (more_calm refl
    (by_parts false (expression high) (mark ";" ∷ name n ∷ mark "++" ∷ []) c (calm_expression high false _ (more_calm refl (more_calm refl (more_calm refl k))))))))))))

ended : (s : TStmt) (c : Row) → Calm false c → Calm false ((simple s ++ mark ";" ∷ []) ++ c)
ended s c k = by_parts false (simple s) (mark ";" ∷ []) c (calm_simple s _ (more_calm refl k))

mutual
  pub calm_statement : (s : TStmt) (c : Row) → Calm false c → Calm false (statement s ++ c)
  calm_statement (Block' n body) c k = more_calm refl (by_parts false (statements body) (mark "}" ∷ []) c (calm_statements body _ (more_calm refl k)))
  calm_statement (If test yes_ None') c k =
      more_calm refl (by_parts false (in_brackets (expression test)) (statement yes_) c (bracket_parts false (expression test) _ (calm_expression test false _ (more_calm refl (calm_statement yes_ c k)))))
  calm_statement (If test yes_ (Present no_)) c k =
      more_calm refl (by_parts false (in_brackets (expression test)) (statement yes_ ++ (word "else" ∷ statement no_)) c
      (bracket_parts false (expression test) _ (calm_expression test false _ (more_calm refl
      (by_parts false (statement yes_) (word "else" ∷ statement no_) c (calm_statement yes_ _ (more_calm refl (calm_statement no_ c k))))))))
  calm_statement (While test body) c k =
      more_calm refl (by_parts false (in_brackets (expression test)) (statement body) c (bracket_parts false (expression test) _ (calm_expression test false _ (more_calm refl (calm_statement body c k)))))
  calm_statement (For init test step body) c k =
      more_calm refl (by_parts false (in_brackets (for_head init test step)) (statement body) c
      (bracket_parts false (for_head init test step) _ (calm_for_head init test step _ (more_calm refl (calm_statement body c k)))))
  calm_statement (CilkFor at i low second high third body) c k =
      more_calm refl (by_parts false (in_brackets (cilk_for_head i low second.1 high third.1)) (statement body) c
      (bracket_parts false (cilk_for_head i low second.1 high third.1) _ (calm_cilk_for_head i low second.1 high third.1 _ (more_calm refl (calm_statement body c k)))))
  calm_statement (Local at t x v) c k = ended (Local at t x v) c k
  calm_statement (Eval e) c k = ended (Eval e) c k
  calm_statement (Assign at left v) c k = ended (Assign at left v) c k
  calm_statement (AddTo at left e) c k = ended (AddTo at left e) c k
  calm_statement (Up left) c k = ended (Up left) c k
  calm_statement (Down left) c k = ended (Down left) c k
  calm_statement (Spawn s) c k = ended (Spawn s) c k
  calm_statement (Break at) c k = ended (Break at) c k
  calm_statement (Continue at) c k = ended (Continue at) c k
  calm_statement (Return at e) c k = ended (Return at e) c k
  calm_statement Sync c k = ended Sync c k
  calm_statement Empty c k = ended Empty c k

  calm_statements : {n : _} (body : Stmts n) (c : Row) → Calm false c → Calm false (statements body ++ c)
  calm_statements no_stmts c k = k
  calm_statements (more_stmts s rest) c k = by_parts false (statement s) (statements rest) c (calm_statement s _ (calm_statements rest c k))

-- ---- Items

calm_parameters : (ps : List Param) (c : Row) → Calm false c → Calm false (behind_commas (map parameter ps) ++ c)
calm_parameters [] c k = k
calm_parameters (p ∷ ps) c k =
    more_calm refl (by_parts false (parameter p) (behind_commas (map parameter ps)) c (calm_declared p.kind p.name _ (calm_parameters ps c k)))

calm_params : (ps : List Param) (c : Row) → Calm false c → Calm false (between_commas (map parameter ps) ++ c)
calm_params [] c k = k
calm_params (p ∷ ps) c k = by_parts false (parameter p) (behind_commas (map parameter ps)) c (calm_declared p.kind p.name _ (calm_parameters ps c k))

calm_result : (t : Kind) (c : Row) → Calm false c → Calm false (result t ++ c)
calm_result kind.Long c k = more_calm refl k
calm_result kind.Ptr c k = more_calm refl (more_calm refl k)
calm_result kind.Void c k = more_calm refl k
calm_result kind.Int c k = more_calm refl k

calm_replicated : (r : Bool) (c : Row) → Calm false c → Calm false (replicated_word r ++ c)
calm_replicated true c k = more_calm refl k
calm_replicated false c k = k

calm_item : (i : Item) (c : Row) → Calm false c → Calm false (item i ++ c)
calm_item (Global at x t r) c k =
    by_parts false (replicated_word r) (declared t x ++ mark ";" ∷ []) c (calm_replicated r _
    (by_parts false (declared t x) (mark ";" ∷ []) c (calm_declared t x _ (more_calm refl k))))
calm_item (Function at t name_at f ps body) c k =
    by_parts false (result t) (name f ∷ (in_brackets (between_commas (map parameter ps)) ++ statement body)) c (calm_result t _ (more_calm refl
    (by_parts false (in_brackets (between_commas (map parameter ps))) (statement body) c
    (bracket_parts false (between_commas (map parameter ps)) _ (calm_params ps _ (more_calm refl (calm_statement body c k)))))))

pub calm_items : (items : List Item) → Calm false (flat_map item items)
calm_items [] = calm
calm_items (i ∷ items) = calm_item i _ (calm_items items)
