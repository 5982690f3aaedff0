-- The readers of functions, globals and files, one by one: each reads what the grammar spells, if its parts do.
use Rattle.std.proofs.Common.{Bool, true, false, List, []}
use Rattle.word_ops.specs.declared.place.Pos.{Pos}
use Rattle.cilk_ast.specs.declared.kind.Kind.{Kind}
use Rattle.cilk_model.specs.Tests.{is_mark, is_finish}
use Rattle.cilk_model.specs.GrammarForms.{Form, star, block, params, param, more_params, function, more_globals, item, items, file}
use Rattle.cilk_model.specs.Grammar.{Spells, no_params, void_params, some_params, parameter, last_param, next_param, written, prototype, void_function, int_function, long_function, plain_globals, replicated_globals, last_global, next_global, no_items, next_item, whole}
use Rattle.cilk_parser.specs.Reading.{Readers, body_of}
use Rattle.cilk_parser.proofs.Local.{Local, local_weaker, local_gives, local_map, local_bind, local_when}
use Rattle.cilk_parser.proofs.Taking.{local_choose, local_then, local_last}
use Rattle.cilk_parser.proofs.Tokens.{tells_mark, tells_word, take_mark, take_word, take_name, take_finish}

module _ (p : Readers) (l : (n : Form) → Local (p n) (Spells n)) where
  pub local_params : Local (body_of p params) (Spells params)
  unfolding body_of
  local_params =
      local_when (is_mark ")") (local_gives [] no_params)
      (local_choose (tells_word "void") (λ _ _. local_gives [] void_params)
      (local_bind (l param) (λ x a h. local_map _ (l more_params) (λ xs b g. some_params h g))))

  pub local_param : Local (body_of p param) (Spells param)
  unfolding body_of
  local_param = local_then (take_word "long") (λ _ _. local_bind (l star) (λ k a h. local_last _ take_name (λ x _. parameter (x.0) h)))

  pub local_more_params : Local (body_of p more_params) (Spells more_params)
  unfolding body_of
  local_more_params =
      local_choose (tells_mark ",") (λ _ _. local_bind (l param) (λ x a h. local_map _ (l more_params) (λ xs b g. next_param h g))) (local_gives [] last_param)

  pub local_function : (at : Pos) (k : Kind) (at_name : Pos) (f : List _) → Local (body_of p (function at k at_name f)) (Spells (function at k at_name f))
  unfolding body_of
  local_function at k at_name f =
      local_then (take_mark "(") (λ _ _. local_bind (l params) (λ ps a h. local_then (take_mark ")") (λ close _.
      local_choose (tells_mark ";") (λ end _. local_gives [] (prototype close end h)) (local_map _ (l block) (λ s b g. written close h g)))))

  pub local_more_globals : (r : Bool) → Local (body_of p (more_globals r)) (Spells (more_globals r))
  unfolding body_of
  local_more_globals r =
      local_choose (tells_mark ",")
      (λ _ _. local_bind (l star) (λ k a h. local_then take_name (λ g _. local_map _ (l (more_globals r)) (λ gs b q. next_global (g.0) h q))))
      (local_last _ (take_mark ";") (λ _ _. last_global))

  pub local_item : Local (body_of p item) (Spells item)
  unfolding body_of
  local_item =
      local_choose (tells_word "replicated")
      (λ _ _. local_then (take_word "long") (λ _ _. local_bind (l star) (λ k a h. local_then take_name (λ g _.
      local_map _ (l (more_globals true)) (λ gs b q. replicated_globals (g.0) h q)))))
      (local_choose (tells_word "void") (λ _ _. local_then take_name (λ f _. local_weaker (l (function _ _ (f.0) (f.1))) (λ fs a h. void_function h)))
      (local_choose (tells_word "int") (λ _ _. local_then take_name (λ f _. local_weaker (l (function _ _ (f.0) (f.1))) (λ fs a h. int_function h)))
      (local_then (take_word "long") (λ at _. local_bind (l star) (λ k a h. local_then take_name (λ f _.
      local_when (is_mark "(") (local_weaker (l (function at k (f.0) (f.1))) (λ fs b g. long_function (f.0) h g))
      (local_map _ (l (more_globals false)) (λ gs b g. plain_globals (f.0) h g))))))))

  pub local_items : Local (body_of p items) (Spells items)
  unfolding body_of
  local_items = local_when is_finish (local_gives [] no_items) (local_bind (l item) (λ fs a h. local_map _ (l items) (λ gs b g. next_item h g)))

  pub local_file : Local (body_of p file) (Spells file)
  unfolding body_of
  local_file = local_bind (l items) (λ fs a h. local_last _ take_finish (λ end _. whole end h))
