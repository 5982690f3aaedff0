-- The readers of functions, globals and files agree, if their parts do.
use Rattle.std.proofs.Common.{ℕ, suc, ◌≤◌, Bool, true, false, List, [], ◌∷◌, ◌++◌, arith}
use Rattle.word_ops.specs.declared.place.Pos.{Pos}
use Rattle.cilk_ast.specs.declared.kind.Kind.{Kind}
use Rattle.cilk_ast.specs.declared.kind.Kind.TheVariants.{Void, Int}
use Rattle.cilk_ast.specs.declared.tree.Param.{Param}
use Rattle.cilk_ast.specs.declared.tree.Item.{Item}
use Rattle.cilk_ast.specs.declared.tree.Item.TheVariants.{Global, Function}
use Rattle.cilk_ast.specs.declared.tree.Tree.{Tree}
use Rattle.cilk_model.specs.Tests.{is_mark, is_finish}
use Rattle.cilk_model.specs.Grammar.{Row}
use Rattle.cilk_model.specs.GrammarForms.{star, block, params, param, more_params, function, more_globals, item, items, file}
use Rattle.cilk_parser.specs.Parsers.{gives, take, ◌▹◌}
use Rattle.cilk_parser.specs.Kinds.{a_mark, a_word, a_name, a_finish}
use Rattle.cilk_parser.specs.Reading.{Readers, body_of, closed}
use Rattle.cilk_parser.specs.Read.{cost}
use Rattle.cilk_parser.proofs.Same.{Agree, Same, same_itself, both, choosing, taking, part, parsing, mapping, parsing_item}

module _ {P Q : Readers} {f : ℕ} (a : Agree P Q f) where
  pub same_params : (ts : Row) → cost params ts ≤ suc f → Same (body_of P params) (body_of Q params) ts
  unfolding body_of
  same_params ts h =
      both (is_mark ")") _ _ _ _ ts (same_itself (gives []) ts)
      (choosing (a_word "void") _ _ _ _ ts (λ _ r e. same_itself (gives []) r)
      (parsing a param _ _ ts (omega arith) (λ x r d. mapping a more_params (λ xs. x ∷ xs) r (omega arith))))

  pub same_param : (ts : Row) → cost param ts ≤ suc f → Same (body_of P param) (body_of Q param) ts
  unfolding body_of
  same_param ts h =
      taking (a_word "long") _ _ ts (λ _ r e. parsing a star _ _ r (omega arith) (λ k s d. same_itself (take a_name ▹ param_of k) s)) where
        param_of : Kind → Pos × List ℕ → Param
        param_of k x = record { pos = x.0; kind = k; name = x.1 }

  pub same_more_params : (ts : Row) → cost more_params ts ≤ suc f → Same (body_of P more_params) (body_of Q more_params) ts
  unfolding body_of
  same_more_params ts h =
      choosing (a_mark ",") _ _ _ _ ts (λ _ r e. parsing a param _ _ r (omega arith) (λ x s d. mapping a more_params (λ xs. x ∷ xs) s (omega arith))) (same_itself (gives []) ts)

  pub same_function : (at : Pos) (k : Kind) (at_name : Pos) (g : List ℕ) (ts : Row) → cost (function at k at_name g) ts ≤ suc f →
      Same (body_of P (function at k at_name g)) (body_of Q (function at k at_name g)) ts
  unfolding body_of
  same_function at k at_name g ts h =
      taking (a_mark "(") _ _ ts (λ _ r e. parsing a params _ _ r (omega arith) (λ ps s d. taking (a_mark ")") _ _ s (λ _ u m.
      choosing (a_mark ";") _ _ _ _ u (λ _ v q. same_itself (gives []) v) (mapping a block (λ s. Function at k at_name g ps s ∷ []) u (omega arith)))))

  pub same_more_globals : (r : Bool) (ts : Row) → cost (more_globals r) ts ≤ suc f → Same (body_of P (more_globals r)) (body_of Q (more_globals r)) ts
  unfolding body_of
  same_more_globals r ts h =
      choosing (a_mark ",") _ _ _ _ ts
      (λ _ s e. parsing a star _ _ s (omega arith) (λ k u d. taking a_name _ _ u (λ g v m. mapping a (more_globals r) (λ gs. Global (g.0) (g.1) k r ∷ gs) v (omega arith))))
      (same_itself (closed ";" []) ts)

  pub same_item : (ts : Row) → cost item ts ≤ suc f → Same (body_of P item) (body_of Q item) ts
  unfolding body_of
  same_item ts h =
      choosing (a_word "replicated") _ _ _ _ ts
      (λ _ r e. taking (a_word "long") _ _ r (λ _ s d. parsing a star _ _ s (omega arith) (λ k u m. taking a_name _ _ u (λ g v q.
      mapping a (more_globals true) (λ gs. Global (g.0) (g.1) k true ∷ gs) v (omega arith)))))
      (choosing (a_word "void") _ _ _ _ ts (λ at r e. taking a_name _ _ r (λ x s d. part a (function at Void (x.0) (x.1)) s (omega arith)))
      (choosing (a_word "int") _ _ _ _ ts (λ at r e. taking a_name _ _ r (λ x s d. part a (function at Int (x.0) (x.1)) s (omega arith)))
      (taking (a_word "long") _ _ ts (λ at r e. parsing a star _ _ r (omega arith) (λ k s d. taking a_name _ _ s (λ x u m.
      both (is_mark "(") _ _ _ _ u (part a (function at k (x.0) (x.1)) u (omega arith))
      (mapping a (more_globals false) (λ gs. Global (x.0) (x.1) k false ∷ gs) u (omega arith))))))))

  pub same_items : (ts : Row) → cost items ts ≤ suc f → Same (body_of P items) (body_of Q items) ts
  unfolding body_of
  same_items ts h =
      both is_finish _ _ _ _ ts (same_itself (gives []) ts) (parsing_item a _ _ ts (omega arith) (λ fs r d. mapping a items (λ gs. fs ++ gs) r (omega arith)))

  pub same_file : (ts : Row) → cost file ts ≤ suc f → Same (body_of P file) (body_of Q file) ts
  unfolding body_of
  same_file ts h = parsing a items _ _ ts (omega arith) (λ fs r d. same_itself (take a_finish ▹ tree_of fs) r) where
    tree_of : List Item → Pos → Tree
    tree_of fs at = record { items = fs; end = at }
