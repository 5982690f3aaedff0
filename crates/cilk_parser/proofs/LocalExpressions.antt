-- The readers of expressions, one by one: each reads what the grammar spells, if its parts do.
use Rattle.std.proofs.Common.{ℕ, suc, zero, List, [], ◌∷◌, ◌++◌, None, subst, append_assoc}
use Rattle.word_ops.specs.declared.place.Pos.{Pos}
use Rattle.cilk_ast.specs.declared.tree.TExpr as tree
use Rattle.cilk_ast.specs.declared.tree.TExpr.{TExpr}
use Rattle.cilk_model.specs.Signs.{mark, word}
use Rattle.cilk_model.specs.Lexemes.{name}
use Rattle.cilk_model.specs.Tests.{is_mark}
use Rattle.cilk_model.specs.GrammarForms.{Form, star, expression, further, postfix, indexes, primary, args, more_args, perhaps, origin, unary, expr}
use Rattle.cilk_model.specs.Grammar.{Row, Spells, no_star, a_star, first, no_further, joins, applied, cast, operand, indexed, no_index, index, number, variable, paren, call, builtin, print, init_named, init_address, no_args, some_args, last_arg, next_arg, left_out, there, here, placed}
use Rattle.cilk_parser.specs.Reading.{Readers, read_bracketed, read_named, read_init, body_of}
use Rattle.cilk_parser.proofs.Local.{Local, local_weaker, local_gives, local_map, local_bind, local_when}
use Rattle.cilk_parser.proofs.Taking.{local_choose, local_then, local_last}
use Rattle.cilk_parser.proofs.Tokens.{tells_mark, tells_word, tells_name, tells_literal, take_mark, take_word, take_name, take_text}
use Rattle.cilk_parser.proofs.Operators.{tells_prefix, tells_infix, tells_builtin}

module _ (p : Readers) (l : (n : Form) → Local (p n) (Spells n)) where
  pub local_star : Local (body_of p star) (Spells star)
  unfolding body_of
  local_star = local_choose (tells_mark "*") (λ at _. local_gives _ a_star) (local_gives _ no_star)

  -- ---- Operators

  in_brackets : (at close : Pos) {x y : TExpr} {a b : Row} → Spells expr x a → Spells (indexes (tree.Paren at x)) y b → Spells unary y (mark "(" at ∷ (a ++ (mark ")" close ∷ b)))
  in_brackets at close {y = y} {a = a} {b = b} h g = subst (λ z. Spells unary y (mark "(" at ∷ z)) (append_assoc a (mark ")" close ∷ []) b) (operand (indexed (paren close h) g))

  local_bracketed : (at : Pos) → Local (read_bracketed p at) (λ x a. Spells unary x (mark "(" at ∷ a))
  local_bracketed at =
      local_choose (tells_word "long")
      (λ _ _. local_bind (l star) (λ k a h. local_then (take_mark ")") (λ close _. local_map _ (l unary) (λ x b g. cast close h g))))
      (local_bind (l expr) (λ x a h. local_then (take_mark ")") (λ close _. local_weaker (l (indexes (tree.Paren at x))) (λ y b g. in_brackets at close h g))))

  pub local_unary : Local (body_of p (expression zero)) (Spells (expression zero))
  unfolding body_of
  local_unary =
      local_choose tells_prefix (λ o _. local_map _ (l unary) (λ x a h. applied (o.1) h))
      (local_choose (tells_mark "(") (λ at _. local_bracketed at) (local_weaker (l postfix) (λ x a h. operand h)))

  pub local_expression : (n : ℕ) → Local (body_of p (expression (suc n))) (Spells (expression (suc n)))
  unfolding body_of
  local_expression n = local_bind (l (expression n)) (λ x a h. local_weaker (l (further n x)) (λ z b g. first h g))

  pub local_further : (n : ℕ) (x : TExpr) → Local (body_of p (further n x)) (Spells (further n x))
  unfolding body_of
  local_further n x =
      local_choose (tells_infix n) (λ o fit. local_bind (l (expression n)) (λ y a h. local_weaker (l (further n _)) (λ z b g. joins (o.1) fit h g))) (local_gives x no_further)

  -- ---- Operands

  pub local_postfix : Local (body_of p postfix) (Spells postfix)
  unfolding body_of
  local_postfix = local_bind (l primary) (λ x a h. local_weaker (l (indexes x)) (λ y b g. indexed h g))

  pub local_indexes : (x : TExpr) → Local (body_of p (indexes x)) (Spells (indexes x))
  unfolding body_of
  local_indexes x =
      local_choose (tells_mark "[") (λ at _. local_bind (l expr) (λ i a h. local_then (take_mark "]") (λ close _. local_weaker (l (indexes _)) (λ y b g. index close h g))))
      (local_gives x no_index)

  local_named : (f : Pos × List ℕ) → Local (read_named p f) (λ x a. Spells primary x (name (f.0) (f.1) ∷ a))
  local_named f =
      local_choose (tells_mark "(") (λ _ _. local_bind (l args) (λ xs a h. local_last _ (take_mark ")") (λ close _. call close h))) (local_gives _ variable)

  local_init : (at bracket : Pos) → Local (read_init p at) (λ x a. Spells primary x (word "mw_replicated_init" at ∷ mark "(" bracket ∷ a))
  local_init at bracket =
      local_choose (tells_mark "&")
      (λ _ _. local_then take_name (λ g _. local_then (take_mark ",") (λ _ _. local_bind (l expr) (λ v a h. local_last _ (take_mark ")") (λ close _. init_named close h)))))
      (local_bind (l expr) (λ x a h. local_then (take_mark ",") (λ comma _. local_bind (l expr) (λ v b g. local_last _ (take_mark ")") (λ close _. init_address comma close h g)))))

  pub local_primary : Local (body_of p primary) (Spells primary)
  unfolding body_of
  local_primary =
      local_choose tells_literal (λ k _. local_gives _ number)
      (local_choose tells_name (λ f _. local_named f)
      (local_choose tells_builtin (λ b fit. local_then (take_mark "(") (λ _ _. local_bind (l args) (λ xs a h. local_last _ (take_mark ")") (λ close _. builtin (b.1) fit close h))))
      (local_choose (tells_word "printf")
      (λ _ _. local_then (take_mark "(") (λ _ _. local_then take_text (λ t _. local_bind (l more_args) (λ xs a h. local_last _ (take_mark ")") (λ close _. print close h)))))
      (local_choose (tells_word "mw_replicated_init") (λ at _. local_then (take_mark "(") (λ bracket _. local_init at bracket))
      (local_then (take_mark "(") (λ at _. local_bind (l expr) (λ x a h. local_last _ (take_mark ")") (λ close _. paren close h))))))))

  -- ---- Lists

  pub local_args : Local (body_of p args) (Spells args)
  unfolding body_of
  local_args = local_when (is_mark ")") (local_gives [] no_args) (local_bind (l expr) (λ x a h. local_map _ (l more_args) (λ xs b g. some_args h g)))

  pub local_more_args : Local (body_of p more_args) (Spells more_args)
  unfolding body_of
  local_more_args =
      local_choose (tells_mark ",") (λ _ _. local_bind (l expr) (λ x a h. local_map _ (l more_args) (λ xs b g. next_arg h g))) (local_gives [] last_arg)

  pub local_perhaps : Local (body_of p perhaps) (Spells perhaps)
  unfolding body_of
  local_perhaps = local_when (is_mark ";") (local_gives None left_out) (local_map _ (l expr) (λ x a h. there h))

  pub local_origin : Local (body_of p origin) (Spells origin)
  unfolding body_of
  local_origin =
      local_choose (tells_word "cilk_spawn") (λ at _. local_gives _ here)
      (local_then (take_word "cilk_spawn_at") (λ at _. local_then (take_mark "(") (λ _ _. local_bind (l expr) (λ x a h. local_last _ (take_mark ")") (λ close _. placed close h)))))
