-- A chain of indexes, taken off from outside.
use Rattle.std.proofs.Common.{◌≡◌, ◌∙◌, ap, sym, ◌<◌, true, List, [], ◌∷◌, ◌++◌, refl, append_assoc, append-nil, arith}
use Rattle.word_ops.specs.declared.place.Pos.{Pos}
use Rattle.cilk_ast.specs.declared.tree.TExpr as code
use Rattle.cilk_ast.specs.declared.tree.TExpr.TheBlock.{shape-the_row-TExpr-0, hidden-the_row-TExpr-0}
use Rattle.cilk_ast.specs.declared.tree.TExpr.TheViews.{sized-Index}
use Rattle.cilk_ast.specs.declared.tree.TExpr.{TExpr, size-TExpr}
use Rattle.cilk_model.specs.declared.layout.Page.{Page}
use Rattle.cilk_model.specs.TreeTokens.{mark, expression}
use Rattle.cilk_model.specs.Layout.{put, put_all}
use Rattle.cilk_print.specs.Printing.{printed, printed_indexes, indexes_of, in_square, is_indexed}
use Rattle.cilk_print.proofs.Pages.{put_all_append}
use denote.Hole.Carrier.{hidden}

pub index_is_index : (at : Pos) (base index : TExpr) → is_indexed (code.Index at base index) ≡ true
unfolding shape-the_row-TExpr-0 hidden-the_row-TExpr-0 hidden
index_is_index at base index = refl

pub base_depth : (at : Pos) (base index : TExpr) → size-TExpr base < size-TExpr (code.Index at base index)
base_depth at base index = omega (arith, sized-Index at base index)

pub index_depth : (at : Pos) (base index : TExpr) → size-TExpr index < size-TExpr (code.Index at base index)
index_depth at base index = omega (arith, sized-Index at base index)

-- the last index of several stands first
pub indexes_of-push : (indexes : List TExpr) (index : TExpr) → indexes_of (indexes ++ index ∷ []) ≡ in_square index ++ indexes_of indexes
indexes_of-push [] index = sym (append-nil (in_square index))
indexes_of-push (i ∷ indexes) index =
    ap (λ a. a ++ in_square i) (indexes_of-push indexes index) ∙ append_assoc (in_square index) (indexes_of indexes) (in_square i)

-- one index is taken off
pub chain_step : (at : Pos) (base index e rest : TExpr) (indexes : List TExpr) → rest ≡ code.Index at base index →
    expression rest ++ indexes_of indexes ≡ expression e → expression base ++ indexes_of (indexes ++ index ∷ []) ≡ expression e
unfolding shape-the_row-TExpr-0 hidden-the_row-TExpr-0 hidden
chain_step at base index e rest indexes is before =
    ap (λ a. expression base ++ a) (indexes_of-push indexes index)
    ∙ sym (append_assoc (expression base) (in_square index) (indexes_of indexes))
    ∙ sym (ap (λ r. expression r ++ indexes_of indexes) is)
    ∙ before

pub no_indexes : (page : Page) → printed_indexes page [] ≡ page
unfolding printed_indexes
no_indexes page = refl

pub chain_base : (page : Page) (base e : TExpr) (indexes : List TExpr) → expression base ++ indexes_of indexes ≡ expression e →
    printed_indexes (printed page base) indexes ≡ printed page e
unfolding printed printed_indexes
chain_base page base e indexes is = sym (put_all_append page (expression base) (indexes_of indexes)) ∙ ap (put_all page) is

-- one index is printed
pub chain_index : (page : Page) (indexes : List TExpr) (index : TExpr) →
    printed_indexes page (indexes ++ index ∷ []) ≡ printed_indexes (put (printed (put page (mark "[")) index) (mark "]")) indexes
unfolding printed printed_indexes
chain_index page indexes index =
    ap (put_all page) (indexes_of-push indexes index)
    ∙ put_all_append page (in_square index) (indexes_of indexes)
    ∙ ap (λ p. put_all p (indexes_of indexes)) (put_all_append (put page (mark "[")) (expression index) (mark "]" ∷ []))
