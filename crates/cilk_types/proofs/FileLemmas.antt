-- What a file knows at an item, from what code keeps.
use Rattle.std.proofs.Common.{◌≡◌, ◌∙◌, ap, sym, ℕ, zero, suc, Bool, true, false, if◌then◌else◌, cond, List, [], ◌∷◌, ◌++◌, filter, take, drop, Option, Some, None, refl}
use Rattle.std.specs.Prelude.{is_some}
use Rattle.std.specs.Option.{option_map, option_or}
use Rattle.std.specs.Map.{lookup}
use Rattle.std.specs.Str.{bytes_eq}
use Rattle.std.proofs.lemmas.Slice.Eq.{bytes_eq-Decides}
use Rattle.cilk_ast.specs.declared.tree.Item.{Item}
use Rattle.cilk_ast.specs.declared.tree.Item.TheVariants as item
use Rattle.cilk_model.specs.Scopes as model
use Rattle.cilk_model.specs.Scopes.{Entity, local, global, function, has_name, with_new}
use Rattle.cilk_model.specs.Breaks.{Entry, is_function, known_at}
use Rattle.cilk_types.specs.declared.scopes.GlobalWord.{GlobalWord}
use Rattle.cilk_types.specs.declared.scopes.Written.{Written}
use Rattle.cilk_types.specs.declared.scopes.FileNames.{FileNames}
use Rattle.cilk_types.specs.declared.counts.Counts.{Counts}
use Rattle.cilk_types.specs.Shown.{global_of, written_of, global_known, bare, file_of}
use Rattle.cilk_types.specs.Files.{entry_of, counted_with, entries_behind, word_in, IsBefore, AreFunctions, Keeps}

-- ---- looking up in lists

or_none : {X : Type 0} (o : Option X) → option_or o None ≡ o
or_none None = refl
or_none (Some x) = refl

or_assoc : {X : Type 0} (a b c : Option X) → option_or (option_or a b) c ≡ option_or a (option_or b c)
or_assoc None b c = refl
or_assoc (Some x) b c = refl

map_or : {X Y : Type 0} (f : X → Y) (a b : Option X) → option_map f (option_or a b) ≡ option_or (option_map f a) (option_map f b)
map_or f None b = refl
map_or f (Some x) b = refl

lookup_append : {X : Type 0} (test : List ℕ → Bool) (xs ys : List (List ℕ × X)) → lookup test (xs ++ ys) ≡ option_or (lookup test xs) (lookup test ys)
lookup_append test [] ys = refl
lookup_append {X} test (x ∷ xs) ys =
    elim (test x.0) as (λ b. cond b (Some x.1) (lookup test (xs ++ ys)) ≡ option_or (cond b (Some x.1) (lookup test xs)) (lookup test ys))
    [ true ↦ refl | false ↦ lookup_append test xs ys ]

same_bytes : (name other : List ℕ) → bytes_eq name other ≡ true → name ≡ other
same_bytes name other h = (bytes_eq-Decides name other).0 h

-- a name that is there is found, whatever else is put behind
found_first : {X : Type 0} (o p : Option X) → is_some o ≡ true → o ≡ option_or o p
found_first None p h = absurd (cc h)
found_first (Some x) p h = refl

lookup_new : {X : Type 0} (name other : List ℕ) (x : X) (xs : List (List ℕ × X)) →
    lookup (bytes_eq name) (with_new other x xs) ≡ option_or (lookup (bytes_eq name) xs) (lookup (bytes_eq name) ((other, x) ∷ []))
lookup_new {X} name other x xs = by (has_name other xs) refl (bytes_eq name other) refl
  where
    by : (b : Bool) → has_name other xs ≡ b → (d : Bool) → bytes_eq name other ≡ d →
        lookup (bytes_eq name) (with_new other x xs) ≡ option_or (lookup (bytes_eq name) xs) (lookup (bytes_eq name) ((other, x) ∷ []))
    by false h d e =
        ap (λ (b : Bool). lookup (bytes_eq name) (if b then xs else xs ++ (other, x) ∷ [])) h ∙ lookup_append (bytes_eq name) xs ((other, x) ∷ [])
    by true h true e =
        ap (λ (b : Bool). lookup (bytes_eq name) (if b then xs else xs ++ (other, x) ∷ [])) h
        ∙ found_first (lookup (bytes_eq name) xs) (lookup (bytes_eq name) ((other, x) ∷ []))
        (ap (λ n. has_name n xs) (same_bytes name other e) ∙ h)
    by true h false e =
        ap (λ (b : Bool). lookup (bytes_eq name) (if b then xs else xs ++ (other, x) ∷ [])) h
        ∙ sym (ap (λ (b : Bool). option_or (lookup (bytes_eq name) xs) (cond b (Some x) None)) e ∙ or_none (lookup (bytes_eq name) xs))

-- ---- what is declared before

pub before_none : IsBefore [] []
before_none = record { marks = λ name. refl }

pub before_next : (kept : List (List ℕ × Option GlobalWord)) (entries : List Entry) (name : List ℕ) (word : Option GlobalWord) (entity : Entity) →
    option_map global_of word ≡ word_in entity → IsBefore kept entries → IsBefore (with_new name word kept) (entries ++ (name, entity) ∷ [])
before_next kept entries other word entity e before = record {
  marks = λ name.
      ap (option_map (option_map global_of)) (lookup_new name other word kept)
      ∙ map_or (option_map global_of) (lookup (bytes_eq name) kept) (lookup (bytes_eq name) ((other, word) ∷ []))
      ∙ ap (λ o. option_or o (option_map (option_map global_of) (lookup (bytes_eq name) ((other, word) ∷ [])))) (before.marks name)
      ∙ ap (option_or (option_map word_in (lookup (bytes_eq name) entries))) (single name)
      ∙ sym
      (ap (option_map word_in) (lookup_append (bytes_eq name) entries ((other, entity) ∷ []))
      ∙ map_or word_in (lookup (bytes_eq name) entries) (lookup (bytes_eq name) ((other, entity) ∷ [])));
}
  where
    single : (name : List ℕ) →
        option_map (option_map global_of) (lookup (bytes_eq name) ((other, word) ∷ [])) ≡ option_map word_in (lookup (bytes_eq name) ((other, entity) ∷ []))
    single name =
        elim (bytes_eq name other) as
        (λ b. option_map (option_map global_of) (cond b (Some word) None) ≡ option_map word_in (cond b (Some entity) None))
        [ true ↦ ap (λ w. Some w) e | false ↦ refl ]

-- a name is declared before exactly where code has it
pub before_has : (kept : List (List ℕ × Option GlobalWord)) (entries : List Entry) (name : List ℕ) → IsBefore kept entries →
    has_name name kept ≡ is_some (lookup (bytes_eq name) entries)
before_has kept entries name before =
    sym (some_map (option_map global_of) (lookup (bytes_eq name) kept)) ∙ ap is_some (before.marks name) ∙ some_map word_in (lookup (bytes_eq name) entries)
  where
    some_map : {X Y : Type 0} (f : X → Y) (o : Option X) → is_some (option_map f o) ≡ is_some o
    some_map f None = refl
    some_map f (Some x) = refl

-- ---- functions

-- the global that is found first
as_global : Option Entity → Option Entity
as_global (Some (global g)) = Some (global g)
as_global _ = None

-- a name is a global that is declared before and first, or else a function of the file
known_is : (entries : List Entry) (k : ℕ) (name : List ℕ) →
    known_at entries k name ≡ option_or (as_global (lookup (bytes_eq name) (take k entries))) (lookup (bytes_eq name) (filter is_function entries))
unfolding as_global
known_is [] zero name = refl
known_is [] (suc k) name = refl
known_is (e ∷ entries) zero name = refl
known_is ((other, global g) ∷ entries) (suc k) name =
    elim (bytes_eq name other) as
    (λ b. cond b (Some (global g)) (lookup (bytes_eq name) (take k entries ++ filter is_function (drop k entries)))
    ≡ option_or (as_global (cond b (Some (global g)) (lookup (bytes_eq name) (take k entries)))) (lookup (bytes_eq name) (filter is_function entries)))
    [ true ↦ refl | false ↦ known_is entries k name ]
known_is ((other, function f) ∷ entries) (suc k) name =
    elim (bytes_eq name other) as
    (λ b. cond b (Some (function f)) (lookup (bytes_eq name) (take k entries ++ filter is_function (drop k entries)))
    ≡ option_or (as_global (cond b (Some (function f)) (lookup (bytes_eq name) (take k entries))))
    (cond b (Some (function f)) (lookup (bytes_eq name) (filter is_function entries))))
    [ true ↦ refl | false ↦ known_is entries k name ]
known_is ((other, local l) ∷ entries) (suc k) name =
    elim (bytes_eq name other) as
    (λ b. cond b (Some (local l)) (lookup (bytes_eq name) (take k entries ++ filter is_function (drop k entries)))
    ≡ option_or (as_global (cond b (Some (local l)) (lookup (bytes_eq name) (take k entries))))
    (cond b (Some (local l)) (lookup (bytes_eq name) (filter is_function entries))))
    [ true ↦ refl | false ↦ known_is entries k name ]

-- what code finds of globals
global_is : (o : Option (Option GlobalWord)) (p : Option Entity) → option_map (option_map global_of) o ≡ option_map word_in p → global_known o ≡ as_global p
unfolding as_global
global_is None None e = refl
global_is None (Some p) e = absurd (cc e)
global_is (Some o) None e = absurd (cc e)
global_is (Some None) (Some (global g)) e = absurd (cc e)
global_is (Some None) (Some (function f)) e = refl
global_is (Some None) (Some (local l)) e = refl
global_is (Some (Some w)) (Some (global g)) e = ap (λ x. Some (global x)) (cc e)
global_is (Some (Some w)) (Some (function f)) e = absurd (cc e)
global_is (Some (Some w)) (Some (local l)) e = absurd (cc e)

pub file_is : (s : FileNames) (entries : List Entry) (k : ℕ) → AreFunctions (bare s.functions.entries) entries → IsBefore (bare s.before.entries) (take k entries) →
    file_of s ≡ known_at entries k
unfolding as_global
file_is s entries k functions before = λ i name. (
    (λ j. option_or (global_is (lookup (bytes_eq name) (bare s.before.entries)) (lookup (bytes_eq name) (take k entries)) (before.marks name) j) (functions.finds name j))
    ∙ sym (known_is entries k name)) i

-- ---- entries, one after the other

pub entries_next : (counts : Counts) (i : Item) (items : List Item) → entries_behind counts (i ∷ items) ≡ entry_of counts i ∷ entries_behind (counted_with counts i) items
entries_next counts (item.Global at name kind true) items = refl
entries_next counts (item.Global at name kind false) items = refl
entries_next counts (item.Function at result name_at name params body) items = refl

pub keeps_none : (all : List Entry) → Keeps [] all all
keeps_none all = record { both = λ name. refl }

pub keeps_all : (kept : List (List ℕ × Written)) (all : List Entry) → Keeps kept [] all → AreFunctions kept all
keeps_all kept all k = record { finds = λ name. sym (or_none _) ∙ k.both name }

pub keeps_global : (kept : List (List ℕ × Written)) (name : List ℕ) (g : model.Global) (rest all : List Entry) →
    Keeps kept ((name, global g) ∷ rest) all → Keeps kept rest all
keeps_global kept name g rest all k = record { both = k.both }

pub keeps_function : (kept : List (List ℕ × Written)) (other : List ℕ) (w : Written) (rest all : List Entry) →
    Keeps kept ((other, function (written_of w)) ∷ rest) all → Keeps (with_new other w kept) rest all
keeps_function kept other w rest all k = record {
  both = λ name.
      ap (λ o. option_or (option_map (λ w. function (written_of w)) o) (lookup (bytes_eq name) (filter is_function rest))) (lookup_new name other w kept)
      ∙ ap (λ o. option_or o (lookup (bytes_eq name) (filter is_function rest)))
      (map_or (λ w. function (written_of w)) (lookup (bytes_eq name) kept) (lookup (bytes_eq name) ((other, w) ∷ [])))
      ∙ or_assoc (option_map (λ w. function (written_of w)) (lookup (bytes_eq name) kept)) (option_map (λ w. function (written_of w)) (lookup (bytes_eq name) ((other, w) ∷ [])))
      (lookup (bytes_eq name) (filter is_function rest))
      ∙ ap (option_or (option_map (λ w. function (written_of w)) (lookup (bytes_eq name) kept))) (single name)
      ∙ k.both name;
}
  where
    single : (name : List ℕ) →
        option_or (option_map (λ w. function (written_of w)) (lookup (bytes_eq name) ((other, w) ∷ []))) (lookup (bytes_eq name) (filter is_function rest))
        ≡ lookup (bytes_eq name) (filter is_function ((other, function (written_of w)) ∷ rest))
    single name =
        elim (bytes_eq name other) as
        (λ b. option_or (option_map (λ w. function (written_of w)) (cond b (Some w) None)) (lookup (bytes_eq name) (filter is_function rest))
        ≡ cond b (Some (function (written_of w))) (lookup (bytes_eq name) (filter is_function rest)))
        [ true ↦ refl | false ↦ refl ]
