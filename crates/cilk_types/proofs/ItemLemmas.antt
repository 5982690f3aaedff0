-- Items, one after the other.
use Rattle.std.proofs.Common.{◌≡◌, ◌∙◌, ap, sym, subst, ℕ, Bool, true, false, List, [], ◌∷◌, ◌++◌, map, Option, refl}
use Rattle.std.specs.Option.{option_map}
use Rattle.word_ops.specs.declared.place.Pos.{Pos}
use Rattle.cilk_ast.specs.declared.kind.Kind.{Kind}
use Rattle.cilk_ast.specs.declared.tree.Param.{Param}
use Rattle.cilk_ast.specs.declared.tree.TStmt.{TStmt}
use Rattle.cilk_ast.specs.declared.tree.Item.{Item}
use Rattle.cilk_ast.specs.declared.tree.Item.TheVariants as item
use Rattle.cilk_model.specs.Scopes.{with_new}
use Rattle.cilk_model.specs.Breaks.{Entry, item_name}
use Rattle.cilk_types.specs.declared.scopes.GlobalWord.{GlobalWord}
use Rattle.cilk_types.specs.declared.scopes.Written.{Written}
use Rattle.cilk_types.specs.declared.counts.Counts.{Counts}
use Rattle.cilk_types.specs.Shown.{global_of}
use Rattle.cilk_types.specs.Files.{entry_of, word_in, IsBefore, Keeps}
use Rattle.cilk_types.proofs.FileLemmas.{before_next, keeps_global, keeps_function}

entry_is : (counts : Counts) (i : Item) → (item_name i, (entry_of counts i).1) ≡ entry_of counts i
entry_is counts (item.Global at name kind true) = refl
entry_is counts (item.Global at name kind false) = refl
entry_is counts (item.Function at result name_at name params body) = refl

pub before_item : (counts : Counts) (i : Item) (kept new : List (List ℕ × Option GlobalWord)) (entries : List Entry) (name : List ℕ) (word : Option GlobalWord) →
    new ≡ with_new name word kept → name ≡ item_name i → option_map global_of word ≡ word_in (entry_of counts i).1 → IsBefore kept entries →
    IsBefore new (entries ++ entry_of counts i ∷ [])
before_item counts i kept new entries name word is_new is_name is_word before =
    subst (λ e. IsBefore new (entries ++ e ∷ [])) (entry_is counts i)
    (subst (λ ks. IsBefore ks (entries ++ (item_name i, (entry_of counts i).1) ∷ []))
    (sym (is_new ∙ ap (λ n. with_new n word kept) is_name))
    (before_next kept entries (item_name i) word (entry_of counts i).1 is_word before))

global_kept : (counts : Counts) (at : Pos) (name : List ℕ) (kind : Kind) (replicated : Bool) (kept : List (List ℕ × Written)) (rest all : List Entry) →
    Keeps kept (entry_of counts (item.Global at name kind replicated) ∷ rest) all → Keeps kept rest all
global_kept counts at name kind true kept rest all k = keeps_global kept name _ rest all k
global_kept counts at name kind false kept rest all k = keeps_global kept name _ rest all k

pub item_global : (counts : Counts) (i : Item) (at : Pos) (name : List ℕ) (kind : Kind) (replicated : Bool) (kept : List (List ℕ × Written)) (rest all : List Entry) →
    i ≡ item.Global at name kind replicated → Keeps kept (entry_of counts i ∷ rest) all → Keeps kept rest all
item_global counts i at name kind replicated kept rest all is k =
    global_kept counts at name kind replicated kept rest all (subst (λ j. Keeps kept (entry_of counts j ∷ rest) all) is k)

pub item_function :
    (counts : Counts) (i : Item) (at : Pos) (result : Kind) (name_at : Pos) (name got : List ℕ) (params : List Param) (body : TStmt) (kinds : List Kind)
    (kept new : List (List ℕ × Written)) (rest all : List Entry) → i ≡ item.Function at result name_at name params body → got ≡ name →
    kinds ≡ map (λ p. p.kind) params → new ≡ with_new got (record { result = result; params = kinds; index = counts.functions }) kept →
    Keeps kept (entry_of counts i ∷ rest) all → Keeps new rest all
item_function counts i at result name_at name got params body kinds kept new rest all is same are is_new k =
    let w : List Kind → Written = λ ks. record { result = result; params = ks; index = counts.functions } in
    let now : new ≡ with_new name (w (map (λ p. p.kind) params)) kept = is_new ∙ ap (λ n. with_new n (w kinds) kept) same ∙ ap (λ ks. with_new name (w ks) kept) are in
    subst (λ ks. Keeps ks rest all) (sym now)
    (keeps_function kept name (w (map (λ p. p.kind) params)) rest all (subst (λ j. Keeps kept (entry_of counts j ∷ rest) all) is k))
