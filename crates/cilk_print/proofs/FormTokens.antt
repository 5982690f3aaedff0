-- The canonical tokens of the forms of trees as the grammar names them.
use Rattle.std.proofs.Common.{◌≡◌, ◌∙◌, ap, subst, ℕ, zero, suc, List, [], ◌∷◌, ◌++◌, map, flat_map, refl, append_assoc, append-nil, Option}
use Rattle.word_ops.specs.declared.place.Pos.{Pos}
use Rattle.cilk_ast.specs.declared.builtin.Builtin.{Builtin}
use Rattle.cilk_ast.specs.declared.tree.TExpr as tree
use Rattle.cilk_ast.specs.declared.tree.TExpr.{TExpr}
use Rattle.cilk_ast.specs.declared.tree.TExpr.TheBlock.{shape-the_row-TExpr-0, hidden-the_row-TExpr-0, shape-the_row-TExpr-1, hidden-the_row-TExpr-1}
use Rattle.cilk_ast.specs.declared.tree.TStmt as stmt
use Rattle.cilk_ast.specs.declared.tree.TStmt.{TStmt}
use Rattle.cilk_ast.specs.declared.tree.TStmt.TheBlock.{shape-the_row-TStmt-0, hidden-the_row-TStmt-0, shape-the_row-TStmt-1, hidden-the_row-TStmt-1}
use Rattle.cilk_ast.specs.TreeStatement.{part_of}
use Rattle.cilk_ast.proofs.TreeStatementForms.{for_form}
use Rattle.cilk_model.specs.Lexemes as lexeme
use Rattle.cilk_model.specs.Signs.{Prefix, minus, opposite, complement, contents, prefix_spelling, prefixed, Infix, either, both, binary, infix_spelling, joined, builtin_spelling}
use Rattle.cilk_model.specs.OpenEnds.{ends_open}
use Rattle.cilk_model.specs.GrammarForms as form
use Rattle.cilk_model.specs.Grammar.{Row, Spells, first, no_further}
use Rattle.cilk_model.specs.SameTree as same
use Rattle.cilk_model.specs.SameTree.{Same, one_expression, expressions, one_statement, perhaps_statement}
use Rattle.cilk_model.specs.TreeTokens.{nowhere, word, mark, name, in_brackets, behind_commas, between_commas, expression, arguments, perhaps, head, statement, statements}
use denote.Hole.Carrier.{hidden}

pub prefixed_tokens : (o : Prefix) (at : Pos) (x : TExpr) → expression (prefixed o at x) ≡ mark (prefix_spelling o) ∷ expression x
unfolding shape-the_row-TExpr-0 hidden-the_row-TExpr-0 hidden
prefixed_tokens minus at x = refl
prefixed_tokens opposite at x = refl
prefixed_tokens complement at x = refl
prefixed_tokens contents at x = refl

pub same_prefixed : (o : Prefix) (at there : Pos) (x y : TExpr) → Same one_expression x y → Same one_expression (prefixed o at x) (prefixed o there y)
same_prefixed minus at there x y s = same.single s
same_prefixed opposite at there x y s = same.single s
same_prefixed complement at there x y s = same.single s
same_prefixed contents at there x y s = same.deref s

pub joined_tokens : (o : Infix) (at : Pos) (x y : TExpr) → expression (joined o at x y) ≡ expression x ++ (mark (infix_spelling o) ∷ expression y)
unfolding shape-the_row-TExpr-0 hidden-the_row-TExpr-0 hidden
joined_tokens either at x y = refl
joined_tokens both at x y = refl
joined_tokens (binary o) at x y = refl

pub same_joined : (o : Infix) (at there : Pos) (x y l r : TExpr) → Same one_expression x l → Same one_expression y r →
    Same one_expression (joined o at x y) (joined o there l r)
same_joined either at there x y l r s t = same.either s t
same_joined both at there x y l r s t = same.both s t
same_joined (binary o) at there x y l r s t = same.binary s t

-- an operand is an expression of any looseness
pub raised : (n : ℕ) (x : TExpr) (a : Row) → Spells form.unary x a → Spells (form.expression n) x a
raised zero x a s = s
raised (suc n) x a s = subst (Spells (form.expression (suc n)) x) (append-nil a) (first (raised n x a s) no_further)

-- ---- Rows of parts

pub argument_rows : (args : List TExpr) → arguments (hidden-the_row-TExpr-1 args) ≡ map expression args
unfolding shape-the_row-TExpr-1 hidden-the_row-TExpr-1 hidden
argument_rows [] = refl
argument_rows (e ∷ args) = λ i. expression e ∷ argument_rows args i

pub call_tokens : (at : Pos) (f : List ℕ) (xs : List TExpr) → expression (tree.Call at f xs) ≡ name f ∷ in_brackets (between_commas (map expression xs))
call_tokens at f xs = ap (λ rows. name f ∷ in_brackets (between_commas rows)) (argument_rows xs)

pub builtin_tokens : (at : Pos) (which : Builtin) (xs : List TExpr) →
    expression (tree.Builtin at which xs) ≡ word (builtin_spelling which) ∷ in_brackets (between_commas (map expression xs))
builtin_tokens at which xs = ap (λ rows. word (builtin_spelling which) ∷ in_brackets (between_commas rows)) (argument_rows xs)

pub print_tokens : (at text_at : Pos) (format : List ℕ) (xs : List TExpr) →
    expression (tree.Print at text_at format xs) ≡ word "printf" ∷ in_brackets (lexeme.text nowhere format ∷ behind_commas (map expression xs))
print_tokens at text_at format xs =
    ap (λ rows. word "printf" ∷ in_brackets (lexeme.text nowhere format ∷ behind_commas rows)) (argument_rows xs)

pub statement_rows : (body : List TStmt) → statements (hidden-the_row-TStmt-0 body) ≡ flat_map statement body
unfolding shape-the_row-TStmt-0 hidden-the_row-TStmt-0 hidden
statement_rows [] = refl
statement_rows (s ∷ body) = ap (λ a. statement s ++ a) (statement_rows body)

pub block_tokens : (body : List TStmt) → statement (stmt.Block body) ≡ mark "{" ∷ (flat_map statement body ++ mark "}" ∷ [])
block_tokens body = ap (λ rows. mark "{" ∷ (rows ++ mark "}" ∷ [])) (statement_rows body)

pub address_tokens : (p v : TExpr) → between_commas (map expression (p ∷ v ∷ [])) ++ mark ")" ∷ []
    ≡ expression p ++ (mark "," ∷ (expression v ++ mark ")" ∷ []))
address_tokens p v = simp (append_assoc, append-nil)

-- ---- Brackets, and what stands behind them

pub behind_bracket : (a b : Row) → (a ++ mark ")" ∷ []) ++ b ≡ a ++ (mark ")" ∷ b)
behind_bracket a b = append_assoc a (mark ")" ∷ []) b

pub for_tokens : (i : Option TStmt) (t : Option TExpr) (n : Option TStmt) (s : TStmt) →
    statement (stmt.For i t n s)
    ≡ word "for" ∷ mark "(" ∷ (head (part_of i) ++ (mark ";" ∷ (perhaps t ++ (mark ";" ∷ (head (part_of n) ++ (mark ")" ∷ statement s))))))
for_tokens i t n s = ap statement (for_form i t n s) ∙ ap (λ a. word "for" ∷ mark "(" ∷ a) (simp append_assoc)

pub cilk_for_tokens : (at at_second : Pos) (i j : List ℕ) (l h : TExpr) (third : Pos × List ℕ) (s : TStmt) →
    statement (stmt.CilkFor at i l (at_second, j) h third s)
    ≡ word "cilk_for" ∷ mark "(" ∷ word "long" ∷ name i ∷ mark "="
    ∷ (expression l ++ (mark ";" ∷ name j ∷ mark "<" ∷ (expression h ++ (mark ";" ∷ name third.1 ∷ mark "++" ∷ mark ")" ∷ statement s))))
unfolding shape-the_row-TStmt-1 hidden-the_row-TStmt-1 hidden
cilk_for_tokens at at_second i j l h third s = ap (λ a. word "cilk_for" ∷ mark "(" ∷ word "long" ∷ name i ∷ mark "=" ∷ a) (simp append_assoc)

-- ---- An `if` that an `else` would go on

pub ends_open_same : (s t : TStmt) → Same one_statement s t → ends_open s ≡ ends_open t
unfolding shape-the_row-TStmt-1 hidden-the_row-TStmt-1 hidden
ends_open_same s t same.empty = refl
ends_open_same s t (same.block _) = refl
ends_open_same s t (same.local _) = refl
ends_open_same s t (same.eval _) = refl
ends_open_same s t (same.assign _ _) = refl
ends_open_same s t (same.add_to _ _) = refl
ends_open_same s t (same.up _) = refl
ends_open_same s t (same.down _) = refl
ends_open_same s t (same.lone_spawn _) = refl
ends_open_same s t (same.choice _ _ same.no_statement) = refl
ends_open_same s t (same.choice _ _ (same.a_statement {s = p} {t = q} r)) = ends_open_same p q r
ends_open_same s t (same.while_loop {s = p} {t = q} _ r) = ends_open_same p q r
ends_open_same s t (same.for_loop {s = p} {t = q} _ _ _ r) = ends_open_same p q r
ends_open_same s t (same.cilk_for_loop {s = p} {t = q} _ _ r) = ends_open_same p q r
ends_open_same s t same.broken = refl
ends_open_same s t same.continued = refl
ends_open_same s t (same.returned _) = refl
ends_open_same s t same.synced = refl
