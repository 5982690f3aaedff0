-- Left sides, by their forms.
use Rattle.std.proofs.Common.{◌≡◌, true, refl}
use Rattle.word_ops.specs.declared.place.Pos.{Pos}
use Rattle.cilk_ast.specs.declared.tree.TExpr as code
use Rattle.cilk_ast.specs.declared.tree.TExpr.TheBlock.{shape-the_row-TExpr-0, hidden-the_row-TExpr-0}
use Rattle.cilk_ast.specs.declared.tree.TExpr.{TExpr}
use Rattle.cilk_model.specs.Scopes.{Names, Scopes}
use Rattle.cilk_model.specs.StatementBreaks.{is_place, is_outer, is_target}
use denote.Hole.Carrier.{hidden}

pub place_paren : (at : Pos) (inner : TExpr) → is_place (code.Paren at inner) ≡ is_place inner
unfolding shape-the_row-TExpr-0 hidden-the_row-TExpr-0 hidden
place_paren at inner = refl

pub place_deref : (at : Pos) (inner : TExpr) → is_place (code.Deref at inner) ≡ true
unfolding shape-the_row-TExpr-0 hidden-the_row-TExpr-0 hidden
place_deref at inner = refl

pub place_index : (at : Pos) (base index : TExpr) → is_place (code.Index at base index) ≡ true
unfolding shape-the_row-TExpr-0 hidden-the_row-TExpr-0 hidden
place_index at base index = refl

pub outer_paren : (scopes : Scopes) (at : Pos) (inner : TExpr) → is_outer scopes (code.Paren at inner) ≡ is_outer scopes inner
unfolding shape-the_row-TExpr-0 hidden-the_row-TExpr-0 hidden
outer_paren scopes at inner = refl

pub target_paren : (names : Names) (at : Pos) (inner : TExpr) → is_target names (code.Paren at inner) ≡ is_target names inner
unfolding shape-the_row-TExpr-0 hidden-the_row-TExpr-0 hidden
target_paren names at inner = refl

pub ruleset side_forms = (place_paren, place_deref, place_index, outer_paren, target_paren)
