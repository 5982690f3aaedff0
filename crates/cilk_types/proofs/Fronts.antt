-- What code knows in front of an item of a file.
use Rattle.std.proofs.Common.{◌≡◌, ◌∙◌, ap, sym, subst, ℕ, suc, List, [], ◌∷◌, ◌++◌, take, drop, Some}
use Rattle.std.specs.List.{slice_get}
use Rattle.cilk_ast.specs.declared.tree.Item.{Item}
use Rattle.cilk_model.specs.Breaks.{Entry, entries_from, known_at}
use Rattle.cilk_types.specs.declared.counts.Counts.{Counts}
use Rattle.cilk_types.specs.declared.scopes.FileNames.{FileNames}
use Rattle.cilk_types.specs.Shown.{bare, file_of}
use Rattle.cilk_types.specs.Files.{entry_of, counted_with, entries_behind, IsBefore, AreFunctions}
use Rattle.cilk_types.proofs.ArgumentLemmas.{drop_item}
use Rattle.cilk_types.proofs.FileLemmas.{file_is, entries_next}
use Rattle.cilk_types.proofs.ItemForms.{take_item, drop_rest}

-- the file's functions, what stands before the item, and how many functions and globals that are
pub record InFront (file : FileNames) (counts : Counts) (k : ℕ) (items : List Item) : Type 0 where
  pub functions : AreFunctions (bare file.functions.entries) (entries_from 0 0 0 items)
  pub before : IsBefore (bare file.before.entries) (take k (entries_from 0 0 0 items))
  pub rest : drop k (entries_from 0 0 0 items) ≡ entries_behind counts (drop k items)

pub front_next :
    (items : List Item) (k j : ℕ) (i : Item) (file passed : FileNames) (counts more : Counts) → j ≡ suc k → slice_get items k ≡ Some i →
    more ≡ counted_with counts i → passed.functions ≡ file.functions →
    ((entries : List Entry) → IsBefore (bare file.before.entries) entries → IsBefore (bare passed.before.entries) (entries ++ entry_of counts i ∷ [])) →
    InFront file counts k items → InFront passed more j items
front_next items k j i file passed counts more next item is_more same pass front =
    let all = entries_from 0 0 0 items in
    let entries : drop k all ≡ entry_of counts i ∷ entries_behind (counted_with counts i) (drop (suc k) items) =
    front.rest ∙ ap (entries_behind counts) (drop_item items k i item) ∙ entries_next counts i (drop (suc k) items) in
    record {
      functions = subst (λ f. AreFunctions (bare f.entries) all) (sym same) front.functions;
      before = subst (IsBefore (bare passed.before.entries)) (sym (ap (λ n. take n all) next ∙ take_item all k _ _ entries)) (pass _ front.before);
      rest =
          ap (λ n. drop n all) next ∙ drop_rest all k _ _ entries ∙ ap (λ c. entries_behind c (drop (suc k) items)) (sym is_more)
          ∙ ap (λ n. entries_behind more (drop n items)) (sym next);
    }

-- what is known there
pub front_known : (file : FileNames) (counts : Counts) (k : ℕ) (items : List Item) → InFront file counts k items →
    file_of file ≡ known_at (entries_from 0 0 0 items) k
front_known file counts k items front = file_is file (entries_from 0 0 0 items) k front.functions front.before
