-- A page with an item: the same with its parts, one after the other.
use Rattle.std.proofs.Common.{◌≡◌, ◌∙◌, ap, sym, ℕ, ◌+◌, ◌<◌, ◌≤◌, Bool, List, [], ◌∷◌, ◌++◌, map, flat_map, length, get_or, drop, refl}
use Rattle.std.proofs.lemmas.List.{at_drop_more, at_drop_all, nil_from_length}
use Rattle.word_ops.specs.declared.place.Pos.{Pos}
use Rattle.cilk_ast.specs.declared.kind.Kind.{Kind}
use Rattle.cilk_ast.specs.declared.tree.TStmt.{TStmt}
use Rattle.cilk_ast.specs.declared.tree.Param.{Param}
use Rattle.cilk_ast.specs.declared.tree.Item.{Item}
use Rattle.cilk_ast.specs.declared.tree.Item.TheVariants.{Global, Function}
use Rattle.cilk_model.specs.declared.layout.Page.{Page}
use Rattle.cilk_model.specs.TreeTokens.{mark, name, declared, in_brackets, behind_commas, between_commas, parameter, result, replicated_word, item, statement}
use Rattle.cilk_model.specs.Layout.{put, put_all}
use Rattle.cilk_print.specs.Printing.{printed_declared, printed_statement, printed_result, printed_param, params_behind, params_between, printed_replicated, printed_item, printed_items}
use Rattle.cilk_print.proofs.Pages.{put_all_append}

pub param_step : (page : Page) (p : Param) → printed_param page p ≡ printed_declared page p.kind p.name
unfolding printed_param printed_declared
param_step page p = refl

-- one more parameter of those that are left, and none
pub params_next : (page : Page) (params : List Param) (i : ℕ) (p : Param) → i < length params → p ≡ get_or params i p →
    params_behind page (drop i params) ≡ params_behind (printed_param (put page (mark ",")) p) (drop (i + 1) params)
unfolding params_behind printed_param
params_next page params i p lt is =
    at_drop_more (params_behind page) params i p lt
    ∙ ap (λ x. params_behind page (x ∷ drop (i + 1) params)) (sym is)
    ∙ put_all_append (put page (mark ",")) (parameter p) (behind_commas (map parameter (drop (i + 1) params)))

pub params_last : (page : Page) (params : List Param) (i : ℕ) → length params ≤ i → params_behind page (drop i params) ≡ page
unfolding params_behind
params_last page params i le = at_drop_all (params_behind page) params i le

pub params_first : (page : Page) (params : List Param) (p : Param) → 0 < length params → p ≡ get_or params 0 p →
    params_between page params ≡ params_behind (printed_param page p) (drop 1 params)
unfolding params_behind params_between printed_param
params_first page params p lt is =
    at_drop_more (params_between page) params 0 p lt
    ∙ ap (λ x. params_between page (x ∷ drop 1 params)) (sym is)
    ∙ put_all_append page (parameter p) (behind_commas (map parameter (drop 1 params)))

pub params_nothing : (page : Page) (params : List Param) → length params ≡ 0 → params_between page params ≡ page
unfolding params_between
params_nothing page params e = ap (params_between page) (nil_from_length params e)

pub global_step : (page : Page) (at : Pos) (x : List ℕ) (k : Kind) (replicated : Bool) →
    printed_item page (Global at x k replicated) ≡ put (printed_declared (printed_replicated page replicated) k x) (mark ";")
unfolding printed_item printed_declared printed_replicated
global_step page at x k replicated =
    put_all_append page (replicated_word replicated) (declared k x ++ mark ";" ∷ [])
    ∙ put_all_append (put_all page (replicated_word replicated)) (declared k x) (mark ";" ∷ [])

pub function_step : (page : Page) (at : Pos) (k : Kind) (name_at : Pos) (f : List ℕ) (params : List Param) (body : TStmt) →
    printed_item page (Function at k name_at f params body)
    ≡ printed_statement (put (params_between (put (put (printed_result page k) (name f)) (mark "(")) params) (mark ")")) body
unfolding printed_item printed_statement printed_result params_between
function_step page at k name_at f params body =
    let rows = between_commas (map parameter params) in
    let opened = put (put (put_all page (result k)) (name f)) (mark "(") in
    put_all_append page (result k) (name f ∷ (in_brackets rows ++ statement body))
    ∙ put_all_append opened (rows ++ mark ")" ∷ []) (statement body)
    ∙ ap (λ p. put_all p (statement body)) (put_all_append opened rows (mark ")" ∷ []))

-- ---- The items of a tree

pub items_next : (page : Page) (items : List Item) (i : ℕ) (it : Item) → i < length items → it ≡ get_or items i it →
    printed_items page (drop i items) ≡ printed_items (printed_item page it) (drop (i + 1) items)
unfolding printed_items printed_item
items_next page items i it lt is =
    at_drop_more (printed_items page) items i it lt
    ∙ ap (λ x. printed_items page (x ∷ drop (i + 1) items)) (sym is)
    ∙ put_all_append page (item it) (flat_map item (drop (i + 1) items))

pub items_last : (page : Page) (items : List Item) (i : ℕ) → length items ≤ i → printed_items page (drop i items) ≡ page
unfolding printed_items
items_last page items i le = at_drop_all (printed_items page) items i le
