-- The readers of expressions agree, if their parts do.
use Rattle.std.proofs.Common.{ℕ, zero, suc, ◌+◌, ◌*◌, ◌≤◌, List, [], ◌∷◌, length, Some, None, arith}
use Rattle.word_ops.specs.declared.place.Pos.{Pos}
use Rattle.cilk_ast.specs.declared.builtin.Builtin.TheVariants.{MwReplicatedInit}
use Rattle.cilk_ast.specs.declared.tree.TExpr as tree
use Rattle.cilk_ast.specs.declared.tree.TExpr.{TExpr}
use Rattle.cilk_model.specs.Signs.{prefixed, joined}
use Rattle.cilk_parser.specs.Parsers.{gives}
use Rattle.cilk_model.specs.Tests.{is_mark}
use Rattle.cilk_model.specs.Grammar.{Row}
use Rattle.cilk_model.specs.GrammarForms.{star, expression, further, postfix, indexes, primary, args, more_args, perhaps, origin, unary, expr}
use Rattle.cilk_parser.specs.Kinds.{a_mark, a_word, a_name, a_literal, a_text, a_prefix, an_infix, a_builtin}
use Rattle.cilk_parser.specs.Reading.{Readers, body_of, closed, read_bracketed, read_named, read_init}
use Rattle.cilk_parser.specs.Read.{cost}
use Rattle.cilk_parser.proofs.Same.{Agree, Same, same_itself, both, choosing, taking, part, parsing, mapping}

module _ {P Q : Readers} {f : ℕ} (a : Agree P Q f) where
  pub same_star : (ts : Row) → Same (body_of P star) (body_of Q star) ts
  unfolding body_of
  same_star ts = same_itself (body_of P star) ts

  same_bracketed : (at : Pos) (ts : Row) → 17 * length ts + 17 ≤ f → Same (read_bracketed P at) (read_bracketed Q at) ts
  same_bracketed at ts h =
      choosing (a_word "long") _ _ _ _ ts
      (λ _ r e. parsing a star _ _ r (omega arith) (λ k s d. taking (a_mark ")") _ _ s (λ _ u g. mapping a unary (λ x. tree.Cast at k x) u (omega arith))))
      (parsing a expr _ _ ts (omega arith) (λ x r d. taking (a_mark ")") _ _ r (λ _ s e. part a (indexes (tree.Paren at x)) s (omega arith))))

  pub same_unary : (ts : Row) → cost (expression zero) ts ≤ suc f → Same (body_of P (expression zero)) (body_of Q (expression zero)) ts
  unfolding body_of
  same_unary ts h =
      choosing a_prefix _ _ _ _ ts (λ o r e. mapping a unary (λ x. prefixed (o.1) (o.0) x) r (omega arith))
      (choosing (a_mark "(") (read_bracketed P) (read_bracketed Q) _ _ ts (λ at r e. same_bracketed at r (omega arith)) (part a postfix ts (omega arith)))

  pub same_expression : (n : ℕ) (ts : Row) → cost (expression (suc n)) ts ≤ suc f → Same (body_of P (expression (suc n))) (body_of Q (expression (suc n))) ts
  unfolding body_of
  same_expression n ts h = parsing a (expression n) _ _ ts (omega arith) (λ x r d. part a (further n x) r (omega arith))

  pub same_further : (n : ℕ) (x : TExpr) (ts : Row) → cost (further n x) ts ≤ suc f → Same (body_of P (further n x)) (body_of Q (further n x)) ts
  unfolding body_of
  same_further n x ts h =
      choosing (an_infix n) _ _ _ _ ts (λ o r e. parsing a (expression n) _ _ r (omega arith) (λ y s d. part a (further n (joined (o.1) (o.0) x y)) s (omega arith)))
      (same_itself (gives x) ts)

  pub same_postfix : (ts : Row) → cost postfix ts ≤ suc f → Same (body_of P postfix) (body_of Q postfix) ts
  unfolding body_of
  same_postfix ts h = parsing a primary _ _ ts (omega arith) (λ x r d. part a (indexes x) r (omega arith))

  pub same_indexes : (x : TExpr) (ts : Row) → cost (indexes x) ts ≤ suc f → Same (body_of P (indexes x)) (body_of Q (indexes x)) ts
  unfolding body_of
  same_indexes x ts h =
      choosing (a_mark "[") _ _ _ _ ts
      (λ at r e. parsing a expr _ _ r (omega arith) (λ i s d. taking (a_mark "]") _ _ s (λ _ u g. part a (indexes (tree.Index at x i)) u (omega arith))))
      (same_itself (gives x) ts)

  same_named : (k : Pos × List ℕ) (ts : Row) → 17 * length ts + 17 ≤ f → Same (read_named P k) (read_named Q k) ts
  same_named k ts h =
      choosing (a_mark "(") _ _ _ _ ts (λ _ r e. parsing a args _ _ r (omega arith) (λ xs s d. same_itself (closed ")" (tree.Call (k.0) (k.1) xs)) s))
      (same_itself (gives (tree.Var (k.0) (k.1))) ts)

  same_init : (at : Pos) (ts : Row) → 17 * length ts + 17 ≤ f → Same (read_init P at) (read_init Q at) ts
  same_init at ts h =
      choosing (a_mark "&") _ _ _ _ ts
      (λ _ r e. taking a_name _ _ r (λ g s d. taking (a_mark ",") _ _ s (λ _ u k. parsing a expr _ _ u (omega arith)
      (λ v w m. same_itself (closed ")" (tree.InitAt at (g.0) (g.1) v)) w))))
      (parsing a expr _ _ ts (omega arith) (λ x r d. taking (a_mark ",") _ _ r (λ _ s e. parsing a expr _ _ s (omega arith)
      (λ v u g. same_itself (closed ")" (tree.Builtin at MwReplicatedInit (x ∷ v ∷ []))) u))))

  pub same_primary : (ts : Row) → cost primary ts ≤ suc f → Same (body_of P primary) (body_of Q primary) ts
  unfolding body_of
  same_primary ts h =
      choosing a_literal _ _ _ _ ts (λ k r e. same_itself (gives (tree.Number (k.0) (k.1))) r)
      (choosing a_name (read_named P) (read_named Q) _ _ ts (λ k r e. same_named k r (omega arith))
      (choosing a_builtin _ _ _ _ ts
      (λ b r e. taking (a_mark "(") _ _ r (λ _ s d. parsing a args _ _ s (omega arith) (λ xs u g. same_itself (closed ")" (tree.Builtin (b.0) (b.1) xs)) u)))
      (choosing (a_word "printf") _ _ _ _ ts
      (λ at r e. taking (a_mark "(") _ _ r (λ _ s d. taking a_text _ _ s (λ t u g. parsing a more_args _ _ u (omega arith)
      (λ xs v k. same_itself (closed ")" (tree.Print at (t.0) (t.1) xs)) v))))
      (choosing (a_word "mw_replicated_init") _ _ _ _ ts (λ at r e. taking (a_mark "(") (λ _. read_init P at) (λ _. read_init Q at) r (λ _ s d. same_init at s (omega arith)))
      (taking (a_mark "(") _ _ ts (λ at r e. parsing a expr _ _ r (omega arith) (λ x s d. same_itself (closed ")" (tree.Paren at x)) s)))))))

  pub same_args : (ts : Row) → cost args ts ≤ suc f → Same (body_of P args) (body_of Q args) ts
  unfolding body_of
  same_args ts h =
      both (is_mark ")") _ _ _ _ ts (same_itself (gives []) ts) (parsing a expr _ _ ts (omega arith) (λ x r d. mapping a more_args (λ xs. x ∷ xs) r (omega arith)))

  pub same_more_args : (ts : Row) → cost more_args ts ≤ suc f → Same (body_of P more_args) (body_of Q more_args) ts
  unfolding body_of
  same_more_args ts h =
      choosing (a_mark ",") _ _ _ _ ts (λ _ r e. parsing a expr _ _ r (omega arith) (λ x s d. mapping a more_args (λ xs. x ∷ xs) s (omega arith))) (same_itself (gives []) ts)

  pub same_perhaps : (ts : Row) → cost perhaps ts ≤ suc f → Same (body_of P perhaps) (body_of Q perhaps) ts
  unfolding body_of
  same_perhaps ts h = both (is_mark ";") _ _ _ _ ts (same_itself (gives None) ts) (mapping a expr (λ x. Some x) ts (omega arith))

  pub same_origin : (ts : Row) → cost origin ts ≤ suc f → Same (body_of P origin) (body_of Q origin) ts
  unfolding body_of
  same_origin ts h =
      choosing (a_word "cilk_spawn") _ _ _ _ ts (λ at r e. same_itself (gives (at, None)) r)
      (taking (a_word "cilk_spawn_at") _ _ ts (λ at r e. taking (a_mark "(") _ _ r (λ _ s d. parsing a expr _ _ s (omega arith)
      (λ x u g. same_itself (closed ")" (at, Some x)) u))))
