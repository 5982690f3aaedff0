-- Where there is room, a context is put in.
use Rattle.std.proofs.Common.{◌≡◌, ℕ, zero, suc, ◌<◌, Bool, true, false, List, [], ◌∷◌, length, get_or, refl, ap, ◌∙◌, sym, subst, arith}
use Rattle.std.specs.Prelude.{if◌then◌else◌, map, Contains, Result, Ok, Err, OnOk}
use Rattle.std.specs.Result.{is_err}
use Rattle.std.specs.List.{insert}
use Rattle.word_ops.specs.declared.name.Name.{Name}
use Rattle.word_ops.specs.Naming.{same_name}
use Rattle.world_model.proofs.Names.{same_name_is}
use Rattle.threadlet_code.specs.declared.code.Code.{Code}
use Rattle.threadlet_state.specs.declared.context.Context as carried
use Rattle.core_model.specs.Contexts.{Context, precedes, with_context}
use Rattle.nodelet_core.specs.Carried.{context_in}
use Rattle.nodelet_core.specs.code.Standing.{names_of}
use Rattle.nodelet_core.specs.code.Changed.{IsWith}

-- Where there is room, the item is put in.
pub put_in : {X : Type 0} → (ok : Bool) (new reserved old : List X) (i : ℕ) (x : X) → new ≡ (if ok then insert reserved i x else reserved) → ok ≡ true → reserved ≡ old → new ≡ insert old i x
put_in ok new reserved old i x e f g = e ∙ ap (λ b. if b then insert reserved i x else reserved) f ∙ ap (λ l. insert l i x) g

-- What holds of a value holds where there is no error.
pub where_ok : {T E P : Type 0} (r : Result T E) → is_err r ≡ false → OnOk r P → P
where_ok (Ok t) e p = p
where_ok (Err y) e p = absurd (let wrong : true ≡ false = e in cc)

-- ---- names that stand

abbrev names_in : List Context → List Name
names_in xs = map (λ (x : Context). x.name) xs

first_has : (m n : Name) (names : List Name) → m ≡ n → Contains (m ∷ names) n
first_has m n names e = (0, omega arith, e)

rest_has : (m n : Name) (names : List Name) → Contains names n → Contains (m ∷ names) n
rest_has m n names has = (suc has.0, omega (arith, has.1), has.2)

-- The first of two names is there, and so are those behind.
first_kept : (same before : Bool) (x y : Context) (ys more : List Context) (n : Name) → (same ≡ true → x.name ≡ y.name) → y.name ≡ n
    → Contains (names_in (if same then x ∷ ys else (if before then x ∷ y ∷ ys else y ∷ more))) n
first_kept true before x y ys more n is e = first_has x.name n (names_in ys) (is refl ∙ e)
first_kept false true x y ys more n is e = rest_has x.name n (y.name ∷ names_in ys) (first_has y.name n (names_in ys) e)
first_kept false false x y ys more n is e = first_has y.name n (names_in more) e

rest_kept : (same before : Bool) (x y : Context) (ys more : List Context) (n : Name) → Contains (names_in ys) n → Contains (names_in more) n
    → Contains (names_in (if same then x ∷ ys else (if before then x ∷ y ∷ ys else y ∷ more))) n
rest_kept true before x y ys more n a b = rest_has x.name n (names_in ys) a
rest_kept false true x y ys more n a b = rest_has x.name n (y.name ∷ names_in ys) (rest_has y.name n (names_in ys) a)
rest_kept false false x y ys more n a b = rest_has y.name n (names_in more) b

-- Each name that stood here stands here when a context came.
name_kept : (x : Context) (xs : List Context) (n : Name) (k : ℕ) → k < length (names_in xs) → get_or (names_in xs) k n ≡ n → Contains (names_in (with_context x xs)) n
name_kept x [] n k lt e = absurd (omega arith)
name_kept x (y ∷ ys) n zero lt e = first_kept (same_name x.name y.name) (precedes x.name y.name) x y ys (with_context x ys) n (λ s. same_name_is x.name y.name s) e
name_kept x (y ∷ ys) n (suc k) lt e =
    rest_kept (same_name x.name y.name) (precedes x.name y.name) x y ys (with_context x ys) n (k, omega arith, e) (name_kept x ys n k (omega arith) e)

names_are : (code : Code) (contexts : List carried.Context) → names_in (map (context_in code) contexts) ≡ names_of contexts
names_are code [] = refl
names_are code (x ∷ contexts) = ap (λ l. x.name ∷ l) (names_are code contexts)

-- A code, which decides no name.
abbrev pub some_code : Code
some_code = record { functions = []; main = 0; formats = []; globals = 0; replicated = 0 }

pub names_with : (x : carried.Context) (before after : List carried.Context) → IsWith x before after → (name : Name) → Contains (names_of before) name → Contains (names_of after) name
names_with x before after is name has =
    let there = subst (λ l. Contains l name) (sym (names_are some_code before)) has in
    subst (λ l. Contains l name) (ap names_in (sym (is.stands some_code)) ∙ names_are some_code after)
    (name_kept (context_in some_code x) (map (context_in some_code) before) name there.0 there.1 there.2)
