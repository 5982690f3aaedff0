-- The locals that are known at a place are in the frame.
use Rattle.std.proofs.Common.{◌≡◌, ◌∙◌, ap, sym, ℕ, Bool, true, false, cond, not, ◌||◌, List, [], ◌∷◌, ◌++◌, length, Option, Some, None, refl}
use Rattle.std.specs.List.{list_all}
use Rattle.std.specs.Map.{lookup}
use Rattle.std.specs.Option.{option_or}
use Rattle.std.specs.Str.{bytes_eq}
use Rattle.std.proofs.lemmas.Bool.{and_parts}
use Rattle.cilk_ast.specs.Kept.{takes}
use Rattle.cilk_ast.specs.declared.program.Function.{Function}
use Rattle.cilk_model.specs.Copies.{Frame}
use Rattle.cilk_model.specs.Scopes.{local, function, Written, Names, Scope, Scopes, local_named, hides, names_in}
use Rattle.cilk_model.specs.Scopes as model
use Rattle.cilk_types.proofs.KeptLists.{all_imply}
use Rattle.cilk_types.proofs.KeptNumbers.{in_left, is_in}
use Rattle.cilk_types.proofs.KeptNames.{Agrees, Sees}

-- a local of those named is in the frame
abbrev pub is_known : List ℕ → Frame → model.Local → Bool
is_known named frame l = not (is_in l.number named) || is_in l.number frame

-- so is each local that is in a scope
abbrev pub all_known : List ℕ → Frame → List Scope → Bool
all_known named frame scopes = list_all (λ scope. list_all (λ entry. is_known named frame entry.1) scope) scopes

pub known_from : (b c : Bool) → (b ≡ true → c ≡ true) → (not b || c) ≡ true
known_from true c h = h refl
known_from false c h = refl

known_here : (b c : Bool) → (not b || c) ≡ true → b ≡ true → c ≡ true
known_here true c h e = h
known_here false c h e = cc

-- what is known of more locals, or of a smaller frame, is known
pub known_more : (named named' : List ℕ) (frame frame' : Frame) (scopes : List Scope) →
    ((n : ℕ) → (is_in n named ≡ true → is_in n frame ≡ true) → is_in n named' ≡ true → is_in n frame' ≡ true) →
    all_known named frame scopes ≡ true → all_known named' frame' scopes ≡ true
known_more named named' frame frame' scopes h m =
    all_imply (λ scope. list_all (λ entry. is_known named frame entry.1) scope) (λ scope. list_all (λ entry. is_known named' frame' entry.1) scope)
    (λ scope k.
    all_imply (λ (entry : List ℕ × model.Local). is_known named frame entry.1) (λ entry. is_known named' frame' entry.1)
    (λ entry e. known_from (is_in entry.1.number named') (is_in entry.1.number frame')
    (h entry.1.number (known_here (is_in entry.1.number named) (is_in entry.1.number frame) e)))
    scope k)
    scopes m

pub known_longer : (named : List ℕ) (frame more : Frame) (scopes : List Scope) →
    all_known named frame scopes ≡ true → all_known named (frame ++ more) scopes ≡ true
known_longer named frame more scopes m = known_more named named frame (frame ++ more) scopes (λ n h e. in_left n frame more (h e)) m

-- ---- names

-- what is found passes a test that everything passes
abbrev pub passes : {A : Type 0} → (A → Bool) → Option A → Bool
passes p None = true
passes p (Some x) = p x

found_step : {A : Type 0} (p : A → Bool) (b : Bool) (x : A) (rest : Option A) → p x ≡ true → passes p rest ≡ true → passes p (cond b (Some x) rest) ≡ true
found_step p true x rest h k = h
found_step p false x rest h k = k

pub found_passes : {A : Type 0} (p : A → Bool) (test : List ℕ → Bool) (es : List (List ℕ × A)) → list_all (λ e. p e.1) es ≡ true → passes p (lookup test es) ≡ true
found_passes p test [] m = refl
found_passes p test (e ∷ es) m =
    let parts = and_parts (p e.1) (list_all (λ e. p e.1) es) m in
    found_step p (test e.0) e.1 (lookup test es) (parts.0) (found_passes p test es (parts.1))

either_passes : {A : Type 0} (p : A → Bool) (x y : Option A) → passes p x ≡ true → passes p y ≡ true → passes p (option_or x y) ≡ true
either_passes p None y h k = k
either_passes p (Some x) y h k = h

named_passes : (p : model.Local → Bool) (name : List ℕ) (scopes : List Scope) →
    list_all (λ scope. list_all (λ entry. p entry.1) scope) scopes ≡ true → passes p (local_named name scopes) ≡ true
named_passes p name [] m = refl
named_passes p name (scope ∷ scopes) m =
    let parts = and_parts (list_all (λ entry. p entry.1) scope) (list_all (λ scope. list_all (λ entry. p entry.1) scope) scopes) m in
    either_passes p (lookup (bytes_eq name) scope) (local_named name scopes) (found_passes p (bytes_eq name) scope (parts.0)) (named_passes p name scopes (parts.1))

-- ---- what holds at a place

-- no name of a file is a local's, and its functions are there
pub record Files (functions : List Function) (file : Names) : Type 0 where
  pub agrees : Agrees functions file
  pub no_local : (name : List ℕ) (l : model.Local) → file name ≡ Some (local l) → ⊥

-- what is known at a place: the functions of the file, and the locals that are in the frame
pub record Holds (functions : List Function) (named : List ℕ) (frame : Frame) (scopes : Scopes) : Type 0 where
  pub files : Files functions scopes.file
  pub known : all_known named frame scopes.around ≡ true

seen_of : (functions : List Function) (named : List ℕ) (frame : Frame) (file : Names) (files : Files functions file) (name : List ℕ) (l : model.Local)
    (o : Option model.Local) → passes (is_known named frame) o ≡ true →
    hides o (file name) ≡ Some (local l) → is_in l.number named ≡ true → is_in l.number frame ≡ true
seen_of functions named frame file files name l None p is e = absurd (files.no_local name l is)
seen_of functions named frame file files name l (Some k) p is e =
    let same : k ≡ l = cc in
    known_here (is_in l.number named) (is_in l.number frame) (sym (ap (is_known named frame) same) ∙ p) e

pub sees_names : (functions : List Function) (named : List ℕ) (frame : Frame) (scopes : Scopes) → Holds functions named frame scopes → Sees named frame (names_in scopes)
sees_names functions named frame scopes holds = record {
  local = λ name l is e.
      seen_of functions named frame scopes.file holds.files name l (local_named name scopes.around)
      (named_passes (is_known named frame) name scopes.around holds.known) is e;
}

function_of : (functions : List Function) (file : Names) (agrees : Agrees functions file) (name : List ℕ) (f : Written) (o : Option model.Local) →
    hides o (file name) ≡ Some (function f) → takes functions f.index (length f.params) ≡ true
function_of functions file agrees name f None is = agrees.function name f is
function_of functions file agrees name f (Some l) is = cc

pub agrees_names : (functions : List Function) (named : List ℕ) (frame : Frame) (scopes : Scopes) → Holds functions named frame scopes → Agrees functions (names_in scopes)
agrees_names functions named frame scopes holds = record {
  function = λ name f is. function_of functions scopes.file holds.files.agrees name f (local_named name scopes.around) is;
}
