-- The locals that each form of expression names, from those that its parts name.
use Rattle.std.proofs.Common.{◌≡◌, ◌∙◌, ap, sym, ℕ, suc, ℤ, List, [], ◌∷◌, ◌++◌, drop, append_assoc, append-nil, refl, Some}
use Rattle.std.specs.List.{slice_get}
use Rattle.word_ops.specs.declared.place.Pos.{Pos}
use Rattle.word_ops.specs.declared.operators.BinaryOp.{BinaryOp}
use Rattle.word_ops.specs.declared.operators.UnaryOp.{UnaryOp}
use Rattle.cilk_ast.specs.declared.builtin.Builtin.{Builtin}
use Rattle.cilk_ast.specs.declared.kind.Kind.{Kind}
use Rattle.cilk_ast.specs.declared.tree.TExpr as code
use Rattle.cilk_ast.specs.declared.tree.TExpr.TheBlock.{shape-the_row-TExpr-0, hidden-the_row-TExpr-0, shape-the_row-TExpr-1, hidden-the_row-TExpr-1}
use Rattle.cilk_ast.specs.declared.tree.TExpr.{TExpr, Number, Var}
use Rattle.cilk_model.specs.Copies.{number_of, named_by, named_by_args}
use Rattle.cilk_model.specs.Scopes.{Names}
use Rattle.cilk_types.specs.Named.{named_of, named_of_list}
use Rattle.cilk_types.proofs.ArgumentLemmas.{drop_item}
use denote.Hole.Carrier.{hidden}

row_named : (names : Names) (args : List TExpr) → named_by_args names (hidden-the_row-TExpr-1 args) ≡ named_of_list names args
unfolding named_of_list shape-the_row-TExpr-1 hidden-the_row-TExpr-1 hidden
row_named names [] = refl
row_named names (arg ∷ args) = ap (λ ns. named_by names arg ++ ns) (row_named names args)

pub number_named : (names : Names) (at : Pos) (value : ℤ) → named_of names (Number at value) ≡ []
unfolding named_of
number_named names at value = refl

pub var_named : (names : Names) (at : Pos) (name : List ℕ) → named_of names (Var at name) ≡ number_of (names name)
unfolding named_of
var_named names at name = refl

pub paren_named : (names : Names) (at : Pos) (inner : TExpr) → named_of names (code.Paren at inner) ≡ named_of names inner
unfolding named_of shape-the_row-TExpr-0 hidden-the_row-TExpr-0 hidden
paren_named names at inner = refl

pub un_named : (names : Names) (at : Pos) (op : UnaryOp) (inner : TExpr) → named_of names (code.Un at op inner) ≡ named_of names inner
unfolding named_of shape-the_row-TExpr-0 hidden-the_row-TExpr-0 hidden
un_named names at op inner = refl

pub deref_named : (names : Names) (at : Pos) (inner : TExpr) → named_of names (code.Deref at inner) ≡ named_of names inner
unfolding named_of shape-the_row-TExpr-0 hidden-the_row-TExpr-0 hidden
deref_named names at inner = refl

pub cast_named : (names : Names) (at : Pos) (kind : Kind) (inner : TExpr) → named_of names (code.Cast at kind inner) ≡ named_of names inner
unfolding named_of shape-the_row-TExpr-0 hidden-the_row-TExpr-0 hidden
cast_named names at kind inner = refl

pub index_named : (names : Names) (at : Pos) (base index : TExpr) →
    named_of names (code.Index at base index) ≡ named_of names base ++ named_of names index
unfolding named_of shape-the_row-TExpr-0 hidden-the_row-TExpr-0 hidden
index_named names at base index = refl

pub bin_named : (names : Names) (at : Pos) (op : BinaryOp) (left right : TExpr) →
    named_of names (code.Bin at op left right) ≡ named_of names left ++ named_of names right
unfolding named_of shape-the_row-TExpr-0 hidden-the_row-TExpr-0 hidden
bin_named names at op left right = refl

pub both_named : (names : Names) (at : Pos) (left right : TExpr) → named_of names (code.Both at left right) ≡ named_of names left ++ named_of names right
unfolding named_of shape-the_row-TExpr-0 hidden-the_row-TExpr-0 hidden
both_named names at left right = refl

pub either_named : (names : Names) (at : Pos) (left right : TExpr) →
    named_of names (code.Either at left right) ≡ named_of names left ++ named_of names right
unfolding named_of shape-the_row-TExpr-0 hidden-the_row-TExpr-0 hidden
either_named names at left right = refl

pub init_named : (names : Names) (at name_at : Pos) (name : List ℕ) (value : TExpr) →
    named_of names (code.InitAt at name_at name value) ≡ named_of names value
unfolding named_of shape-the_row-TExpr-0 hidden-the_row-TExpr-0 hidden
init_named names at name_at name value = refl

pub call_named : (names : Names) (at : Pos) (name : List ℕ) (args : List TExpr) → named_of names (code.Call at name args) ≡ named_of_list names args
unfolding named_of
call_named names at name args = row_named names args

pub builtin_named : (names : Names) (at : Pos) (which : Builtin) (args : List TExpr) →
    named_of names (code.Builtin at which args) ≡ named_of_list names args
unfolding named_of
builtin_named names at which args = row_named names args

pub print_named : (names : Names) (at text_at : Pos) (format : List ℕ) (args : List TExpr) →
    named_of names (code.Print at text_at format args) ≡ named_of_list names args
unfolding named_of
print_named names at text_at format args = row_named names args

pub ruleset named_forms =
    (number_named, var_named, paren_named, un_named, deref_named, cast_named, index_named, bin_named, both_named, either_named, init_named, call_named, builtin_named, print_named, append-nil, append_assoc)

-- expressions one after the other
pub named_next : (names : Names) (es : List TExpr) (i j : ℕ) (e : TExpr) (old new all : List ℕ) → j ≡ suc i → slice_get es i ≡ Some e →
    new ≡ old ++ named_of names e → old ++ named_of_list names (drop i es) ≡ all → new ++ named_of_list names (drop j es) ≡ all
unfolding named_of named_of_list
named_next names es i j e old new all next item is_new h =
    ap (λ n. new ++ named_of_list names (drop n es)) next ∙ ap (λ ns. ns ++ named_of_list names (drop (suc i) es)) is_new
    ∙ append_assoc old (named_of names e) (named_of_list names (drop (suc i) es))
    ∙ ap (λ rest. old ++ named_of_list names rest) (sym (drop_item es i e item)) ∙ h

pub named_over : (names : Names) (rest : List TExpr) (old all : List ℕ) → rest ≡ [] → old ++ named_of_list names rest ≡ all → old ≡ all
unfolding named_of_list
named_over names rest old all none h = sym (ap (λ r. old ++ named_of_list names r) none ∙ append-nil old) ∙ h
