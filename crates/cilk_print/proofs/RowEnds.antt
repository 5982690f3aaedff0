-- Rows that close the brackets that they open, and what is seen behind an expression.
use Rattle.std.proofs.Common.{◌≡◌, Bool, false, ◌||◌, List, [], ◌∷◌, ◌++◌, map, ap, refl, sym, subst, ◌∙◌, Option, Some, None}
use Rattle.word_ops.specs.declared.operators.BinaryOp.TheVariants as op
use Rattle.word_ops.specs.declared.operators.UnaryOp.TheVariants as single
use Rattle.cilk_ast.specs.declared.builtin.Builtin.{Builtin}
use Rattle.cilk_ast.specs.declared.builtin.Builtin.TheVariants as built
use Rattle.cilk_ast.specs.declared.kind.Kind.{Kind}
use Rattle.cilk_ast.specs.declared.kind.Kind.TheVariants as kind
use Rattle.cilk_ast.specs.declared.tree.TExpr.{TExpr, Number, Var, Call', Builtin', Print', Row_of-TExpr as Args, end_of-TExpr as no_args, more_of-TExpr as more_args}
use Rattle.cilk_ast.specs.TreeExpression.{Paren, Un, Deref, Cast, Index, Bin, Both, Either, InitAt}
use Rattle.cilk_ast.specs.declared.tree.TSpawn.{TSpawn}
use Rattle.cilk_ast.specs.declared.tree.TValue.{TValue}
use Rattle.cilk_ast.specs.declared.tree.TValue.TheVariants.{Plain, Spawned}
use Rattle.cilk_model.specs.Lexemes as lexeme
use Rattle.cilk_model.specs.Lexemes.{Lexeme}
use Rattle.cilk_model.specs.Signs.{Infix, either, both, binary, infix_spelling, builtin_spelling}
use Rattle.cilk_model.specs.Tests.{is_word}
use Rattle.cilk_model.specs.Grammar.{Row}
use Rattle.cilk_model.specs.Levels.{around}
use Rattle.cilk_model.specs.TreeTokens.{nowhere, word, mark, name, in_brackets, behind_commas, between_commas, star, expression, arguments, perhaps, origin, spawn, value, initial}
use Rattle.cilk_print.proofs.Sights.{Sight, step}
use Rattle.cilk_print.proofs.ShallowRows.{Shallow, parted, else_behind, else_append}

-- ---- The brackets behind a row are those before it

abbrev pub Balanced : Row → Type 0
Balanced r = (z y : Sight) (e : Bool) → Shallow z r e y → y.brackets ≡ z.brackets

pub no_row : Balanced []
no_row z y e s = ap (λ k. k.brackets) (sym s)

pub both_rows : (a b : Row) → Balanced a → Balanced b → Balanced (a ++ b)
both_rows a b p q z y e s = let d = parted z y a b e s in q d.middle y e d.last ∙ p z d.middle (else_behind b e) d.first

-- a token that keeps the brackets
abbrev pub Keeping : Lexeme → Type 0
Keeping t = (z : Sight) (e : Bool) → (step z t e).brackets ≡ z.brackets

pub token_then : (t : Lexeme) (r : Row) → Keeping t → Balanced r → Balanced (t ∷ r)
token_then t r k p z y e s = p (step z t (else_behind r e)) y e s.1 ∙ k z (else_behind r e)

-- a row in brackets
pub bracketed : (r : Row) → Balanced r → Balanced (in_brackets r)
bracketed r p z y e s =
    let d = parted (step z (mark "(") (else_behind (r ++ mark ")" ∷ []) e)) y r (mark ")" ∷ []) e s.1 in
    ap (λ k. k.brackets) (sym d.last.1) ∙ ap around (p _ d.middle _ d.first)

-- ---- What is seen behind an expression: the brackets before it, and no end of a `long` or a `long *`

pub record Ended (z y : Sight) : Type 0 where
  pub brackets : y.brackets ≡ z.brackets
  pub no_cast : (y.long || y.starred) ≡ false

abbrev pub Ends : Row → Type 0
Ends r = (z y : Sight) (e : Bool) → Shallow z r e y → Ended z y

pub balanced : (r : Row) → Ends r → Balanced r
balanced r p z y e s = (p z y e s).brackets

after_row : (a b : Row) → Balanced a → Ends b → Ends (a ++ b)
after_row a b p q z y e s =
    let d = parted z y a b e s in
    let h = q d.middle y e d.last in
    record { brackets = h.brackets ∙ p z d.middle (else_behind b e) d.first; no_cast = h.no_cast }

after_token : (t : Lexeme) (r : Row) → Keeping t → Ends r → Ends (t ∷ r)
after_token t r k p z y e s =
    let h = p (step z t (else_behind r e)) y e s.1 in
    record { brackets = h.brackets ∙ k z (else_behind r e); no_cast = h.no_cast }

-- one token is the whole row
alone : (t : Lexeme) → ((z : Sight) (e : Bool) → Ended z (step z t e)) → Ends (t ∷ [])
alone t f z y e s = subst (Ended z) s.1 (f z e)

-- brackets are the end of the row
in_round : (r : Row) → Balanced r → Ends (in_brackets r)
in_round r p z y e s =
    let d = parted (step z (mark "(") (else_behind (r ++ mark ")" ∷ []) e)) y r (mark ")" ∷ []) e s.1 in
    record { brackets = bracketed r p z y e s; no_cast = ap (λ k. k.long || k.starred) (sym d.last.1) }

in_square : (r : Row) → Balanced r → Ends (mark "[" ∷ (r ++ mark "]" ∷ []))
in_square r p z y e s =
    let d = parted (step z (mark "[") (else_behind (r ++ mark "]" ∷ []) e)) y r (mark "]" ∷ []) e s.1 in
    record { brackets = ap (λ k. k.brackets) (sym d.last.1) ∙ ap around (p _ d.middle _ d.first); no_cast = ap (λ k. k.long || k.starred) (sym d.last.1) }

infix_keeps : (o : Infix) → Keeping (mark (infix_spelling o))
infix_keeps either z e = refl
infix_keeps both z e = refl
infix_keeps (binary op.Or) z e = refl
infix_keeps (binary op.Xor) z e = refl
infix_keeps (binary op.And) z e = refl
infix_keeps (binary op.Eq) z e = refl
infix_keeps (binary op.Ne) z e = refl
infix_keeps (binary op.Lt) z e = refl
infix_keeps (binary op.Le) z e = refl
infix_keeps (binary op.Gt) z e = refl
infix_keeps (binary op.Ge) z e = refl
infix_keeps (binary op.Shl) z e = refl
infix_keeps (binary op.Shr) z e = refl
infix_keeps (binary op.Add) z e = refl
infix_keeps (binary op.Sub) z e = refl
infix_keeps (binary op.Mul) z e = refl
infix_keeps (binary op.Div) z e = refl
infix_keeps (binary op.Rem) z e = refl

between : (o : Infix) (a b : Row) → Balanced a → Ends b → Ends (a ++ (mark (infix_spelling o) ∷ b))
between o a b p q = after_row a (mark (infix_spelling o) ∷ b) p (after_token (mark (infix_spelling o)) b (infix_keeps o) q)

pub star_balanced : (k : Kind) → Balanced (star k)
star_balanced kind.Long = no_row
star_balanced kind.Ptr = token_then (mark "*") [] (λ z e. refl) no_row
star_balanced kind.Void = no_row
star_balanced kind.Int = no_row

-- ---- Expressions

mutual
  pub expression_ends : (x : TExpr) → Ends (expression x)
  expression_ends (Number at v) = alone (lexeme.literal nowhere v) (λ z e. record { brackets = refl; no_cast = refl })
  expression_ends (Var at x) = alone (name x) (λ z e. record { brackets = refl; no_cast = refl })
  expression_ends (Paren at x) = in_round (expression x) (balanced (expression x) (expression_ends x))
  expression_ends (Un at single.Neg x) = after_token (mark "-") (expression x) (λ z e. refl) (expression_ends x)
  expression_ends (Un at single.Not x) = after_token (mark "!") (expression x) (λ z e. refl) (expression_ends x)
  expression_ends (Un at single.Flip x) = after_token (mark "~") (expression x) (λ z e. refl) (expression_ends x)
  expression_ends (Deref at x) = after_token (mark "*") (expression x) (λ z e. refl) (expression_ends x)
  expression_ends (Cast at k x) =
      after_row (in_brackets (word "long" ∷ star k)) (expression x) (bracketed (word "long" ∷ star k) (token_then (word "long") (star k) (λ z e. refl) (star_balanced k))) (expression_ends x)
  expression_ends (Index at x i) =
      after_row (expression x) (mark "[" ∷ (expression i ++ mark "]" ∷ [])) (balanced (expression x) (expression_ends x)) (in_square (expression i) (balanced (expression i) (expression_ends i)))
  expression_ends (Bin at o x y) = between (binary o) (expression x) (expression y) (balanced (expression x) (expression_ends x)) (expression_ends y)
  expression_ends (Both at x y) = between both (expression x) (expression y) (balanced (expression x) (expression_ends x)) (expression_ends y)
  expression_ends (Either at x y) = between either (expression x) (expression y) (balanced (expression x) (expression_ends x)) (expression_ends y)
  expression_ends (Call' at f n args) =
      after_token (name f) (in_brackets (between_commas (arguments args))) (λ z e. refl) (in_round (between_commas (arguments args)) (between_balanced args))
  expression_ends (Builtin' at which n args) =
      after_token (word (builtin_spelling which)) (in_brackets (between_commas (arguments args))) (λ z e. refl) (in_round (between_commas (arguments args)) (between_balanced args))
  expression_ends (Print' at text_at format n args) =
      let inner = lexeme.text nowhere format ∷ behind_commas (arguments args) in
      after_token (word "printf") (in_brackets inner) (λ z e. refl) (in_round inner (token_then (lexeme.text nowhere format) (behind_commas (arguments args)) (λ z e. refl) (behind_balanced args)))
  expression_ends (InitAt at name_at x v) =
      let inner = mark "&" ∷ name x ∷ mark "," ∷ expression v in
      after_token (word "mw_replicated_init") (in_brackets inner) (λ z e. refl)
      (in_round inner (token_then (mark "&") (name x ∷ mark "," ∷ expression v) (λ z e. refl) (token_then (name x) (mark "," ∷ expression v) (λ z e. refl) (token_then (mark ",") (expression v) (λ z e. refl) (balanced (expression v) (expression_ends v))))))

  between_balanced : {n : _} (args : Args n) → Balanced (between_commas (arguments args))
  between_balanced no_args = no_row
  between_balanced (more_args x args) = both_rows (expression x) (behind_commas (arguments args)) (balanced (expression x) (expression_ends x)) (behind_balanced args)

  behind_balanced : {n : _} (args : Args n) → Balanced (behind_commas (arguments args))
  behind_balanced no_args = no_row
  behind_balanced (more_args x args) =
      token_then (mark ",") (expression x ++ behind_commas (arguments args)) (λ z e. refl)
      (both_rows (expression x) (behind_commas (arguments args)) (balanced (expression x) (expression_ends x)) (behind_balanced args))

pub expression_balanced : (x : TExpr) → Balanced (expression x)
expression_balanced x = balanced (expression x) (expression_ends x)

-- ---- No expression begins with an `else`

builtin_no_else : (which : Builtin) → is_word "else" (word (builtin_spelling which)) ≡ false
builtin_no_else built.MwMalloc1dlong = refl
builtin_no_else built.MwMalloc2dlong = refl
builtin_no_else built.MwLocalmalloc = refl
builtin_no_else built.MwMallocrepl = refl
builtin_no_else built.MwReplicatedInit = refl
builtin_no_else built.RemoteAdd = refl
builtin_no_else built.RemoteAnd = refl
builtin_no_else built.RemoteOr = refl
builtin_no_else built.RemoteXor = refl
builtin_no_else built.RemoteMin = refl
builtin_no_else built.RemoteMax = refl
builtin_no_else built.AtomicAddms = refl
builtin_no_else built.AtomicSwap = refl
builtin_no_else built.AtomicCas = refl
builtin_no_else built.Fence = refl
builtin_no_else built.Migrate = refl
builtin_no_else built.NodeId = refl

pub expression_no_else : (x : TExpr) (e : Bool) → else_behind (expression x) e ≡ false
expression_no_else (Number at v) e = refl
expression_no_else (Var at x) e = refl
expression_no_else (Paren at x) e = refl
expression_no_else (Un at single.Neg x) e = refl
expression_no_else (Un at single.Not x) e = refl
expression_no_else (Un at single.Flip x) e = refl
expression_no_else (Deref at x) e = refl
expression_no_else (Cast at k x) e = refl
expression_no_else (Index at x i) e = else_append (expression x) _ e ∙ expression_no_else x _
expression_no_else (Bin at o x y) e = else_append (expression x) _ e ∙ expression_no_else x _
expression_no_else (Both at x y) e = else_append (expression x) _ e ∙ expression_no_else x _
expression_no_else (Either at x y) e = else_append (expression x) _ e ∙ expression_no_else x _
expression_no_else (Call' at f n args) e = refl
expression_no_else (Builtin' at which n args) e = builtin_no_else which
expression_no_else (Print' at text_at format n args) e = refl
expression_no_else (InitAt at name_at x v) e = refl

-- ---- What stands behind a `=`

list_behind : (xs : List TExpr) → Balanced (behind_commas (map expression xs))
list_behind [] = no_row
list_behind (x ∷ xs) =
    token_then (mark ",") (expression x ++ behind_commas (map expression xs)) (λ z e. refl)
    (both_rows (expression x) (behind_commas (map expression xs)) (expression_balanced x) (list_behind xs))

list_between : (xs : List TExpr) → Balanced (between_commas (map expression xs))
list_between [] = no_row
list_between (x ∷ xs) = both_rows (expression x) (behind_commas (map expression xs)) (expression_balanced x) (list_behind xs)

pub perhaps_balanced : (e : Option TExpr) → Balanced (perhaps e)
perhaps_balanced None = no_row
perhaps_balanced (Some x) = expression_balanced x

origin_balanced : (hint : Option TExpr) → Balanced (origin hint)
origin_balanced None = token_then (word "cilk_spawn") [] (λ z e. refl) no_row
origin_balanced (Some x) = token_then (word "cilk_spawn_at") (in_brackets (expression x)) (λ z e. refl) (bracketed (expression x) (expression_balanced x))

pub spawn_balanced : (s : TSpawn) → Balanced (spawn s)
spawn_balanced s =
    let args = between_commas (map expression s.args) in
    both_rows (origin s.hint) (name s.name ∷ in_brackets args) (origin_balanced s.hint) (token_then (name s.name) (in_brackets args) (λ z e. refl) (bracketed args (list_between s.args)))

pub value_balanced : (v : TValue) → Balanced (value v)
value_balanced (Plain x) = expression_balanced x
value_balanced (Spawned s) = spawn_balanced s

pub initial_balanced : (v : Option TValue) → Balanced (initial v)
initial_balanced None = no_row
initial_balanced (Some v) = token_then (mark "=") (value v) (λ z e. refl) (value_balanced v)
