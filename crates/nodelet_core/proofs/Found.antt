-- A binary search among names that ascend.
use Rattle.std.proofs.Common.{Ordering, Less, Equal, Greater, ◌≡◌, ℕ, zero, suc, ◌≤◌, ◌<◌, Bool, true, false, List, [], ◌∷◌, length, get_or, refl, ap, sym, ◌∙◌, arith}
use Rattle.std.specs.Prelude.{◌&&◌, nat_lt, map, Option, Some, None, is_some, if◌then◌else◌}
use Rattle.std.specs.List.{list_all}
use Rattle.std.proofs.lemmas.Bool.Decides.{eqb_tells, nat_tests}
use Rattle.std.specs.Ordering.{ordering_index, ordering_then, nat_cmp}
use Rattle.word_ops.specs.declared.name.Name.{Name}
use Rattle.word_ops.specs.contracts.name.NameOrd.TheImpl.{ghosts as by}
use Rattle.word_ops.specs.Naming.{same_name}
use Rattle.threadlet_code.specs.declared.code.Code.{Code}
use Rattle.core_model.specs.Contexts.{Context, precedes, context_of}
use Rattle.nodelet_core.specs.Carried.{context_in}
use Rattle.threadlet_state.specs.declared.context.Context as carried
use Rattle.core_model.specs.Takes.{has_home}
use Rattle.nodelet_core.specs.code.Standing.{ascends, names_of, is_among}

-- Names are in order of nodelet, then number.
cmp_is : (y t : Name) → by.cmp y t ≡ ordering_then (nat_cmp y.nodelet t.nodelet) (nat_cmp y.number t.number)
cmp_is y t = refl

-- One that the search calls equal is the same.
pub same : (y t : Name) → by.cmp y t ≡ Equal → t ≡ y
same y t e =
    let nodelet : t.nodelet ≡ y.nodelet = grind arith in
    let number : t.number ≡ y.number = grind arith in
    ap (λ k. let it : Name = record { nodelet = k; number = t.number } in it) nodelet
    ∙ ap (λ k. let it : Name = record { nodelet = y.nodelet; number = k } in it) number

pub apart_before : (y t : Name) → by.cmp y t ≡ Less → same_name t y ≡ false
apart_before y t e = grind arith

pub apart_behind : (y t : Name) → by.cmp y t ≡ Greater → same_name t y ≡ false
apart_behind y t e = grind arith

at_most : (o : Ordering) → ordering_index o ≤ 2
at_most Less = omega arith
at_most Equal = omega arith
at_most Greater = omega arith

lower : (y t : Name) → nat_lt y.nodelet t.nodelet ≡ true → by.cmp y t ≡ Less
lower y t e = grind arith

higher : (y t : Name) → nat_lt t.nodelet y.nodelet ≡ true → by.cmp y t ≡ Greater
higher y t e = grind arith

level : (y t : Name) → y.nodelet ≡ t.nodelet → by.cmp y t ≡ nat_cmp y.number t.number
level y t e = grind arith

numbers_rise : (i j k : ℕ) → i < j → ordering_index (nat_cmp i k) ≤ ordering_index (nat_cmp j k)
numbers_rise i j k lt = grind arith

-- The order to a name does not fall from one name to a later one.
rises : (y z t : Name) → precedes y z ≡ true → ordering_index (by.cmp y t) ≤ ordering_index (by.cmp z t)
rises y z t e = go (nat_lt y.nodelet t.nodelet) (nat_lt t.nodelet z.nodelet) refl refl
  where
    go : (b c : Bool) → nat_lt y.nodelet t.nodelet ≡ b → nat_lt t.nodelet z.nodelet ≡ c → ordering_index (by.cmp y t) ≤ ordering_index (by.cmp z t)
    go true c p q = omega (arith, ap ordering_index (lower y t p))
    go false true p q = omega (arith, at_most (by.cmp y t), ap ordering_index (higher z t q))
    go false false p q =
        let first : y.nodelet ≡ t.nodelet = grind arith in
        let second : z.nodelet ≡ t.nodelet = grind arith in
        let less : y.number < z.number = grind arith in
        omega (arith, numbers_rise y.number z.number t.number less, ap ordering_index (level y t first), ap ordering_index (level z t second))

pub both : (b c : Bool) → (b && c) ≡ true → (b ≡ true) × (c ≡ true)
both true true e = (refl, refl)
both true false e = absurd (let wrong : false ≡ true = e in cc)
both false c e = absurd (let wrong : false ≡ true = e in cc)

-- Among names that ascend the order to a name does not fall.
first_rises : (y t : Name) (names : List Name) → list_all (precedes y) names ≡ true → (j : ℕ) (d : Name) → j < length names
    → ordering_index (by.cmp y t) ≤ ordering_index (by.cmp (get_or names j d) t)
first_rises y t [] e j d lt = absurd (omega arith)
first_rises y t (z ∷ names) e zero d lt = rises y z t (both (precedes y z) _ e).0
first_rises y t (z ∷ names) e (suc j) d lt = first_rises y t names (both (precedes y z) _ e).1 j d (omega arith)

pub never_falls : (t : Name) (names : List Name) → ascends names ≡ true → (i j : ℕ) (d : Name) → i ≤ j → j < length names
    → ordering_index (by.cmp (get_or names i d) t) ≤ ordering_index (by.cmp (get_or names j d) t)
never_falls t [] e i j d le lt = absurd (omega arith)
never_falls t (y ∷ names) e zero zero d le lt = omega arith
never_falls t (y ∷ names) e zero (suc j) d le lt = first_rises y t names (both (list_all (precedes y) names) _ e).0 j d (omega arith)
never_falls t (y ∷ names) e (suc i) zero d le lt = absurd (omega arith)
never_falls t (y ∷ names) e (suc i) (suc j) d le lt = never_falls t names (both (list_all (precedes y) names) _ e).1 i j d (omega arith) (omega arith)

-- ---- the contexts of names

pub name_at : (contexts : List carried.Context) (i : ℕ) (d : carried.Context) → get_or (names_of contexts) i d.name ≡ (get_or contexts i d).name
name_at [] i d = refl
name_at (x ∷ contexts) zero d = refl
name_at (x ∷ contexts) (suc i) d = name_at contexts i d

pub as_many : (contexts : List carried.Context) → length (names_of contexts) ≡ length contexts
as_many [] = refl
as_many (x ∷ contexts) = ap suc (as_many contexts)

-- What lies before the place of a name is less, and what lies from there on is greater: no context has it.
pub not_here : (contexts : List carried.Context) (t : Name) (i : ℕ)
    → ((k : ℕ) (d : Name) → k < i → k < length contexts → by.cmp (get_or (names_of contexts) k d) t ≡ Less)
    → ((k : ℕ) (d : Name) → i ≤ k → k < length contexts → by.cmp (get_or (names_of contexts) k d) t ≡ Greater)
    → (k : ℕ) (d : carried.Context) → k < length contexts → same_name t (get_or contexts k d).name ≡ false
not_here contexts t i before behind k d lt = go (nat_lt k i) refl
  where
    named : (get_or (names_of contexts) k d.name) ≡ (get_or contexts k d).name
    named = name_at contexts k d

    go : (b : Bool) → nat_lt k i ≡ b → same_name t (get_or contexts k d).name ≡ false
    go true e = apart_before _ t (ap (λ z. by.cmp z t) (sym named) ∙ before k d.name (grind arith) lt)
    go false e = apart_behind _ t (ap (λ z. by.cmp z t) (sym named) ∙ behind k d.name (grind arith) lt)

-- ---- the context of a name

-- Where no context has the name, there is none.
pub none_named : (code : Code) (t : Name) (contexts : List carried.Context) → ((k : ℕ) (d : carried.Context) → k < length contexts → same_name t (get_or contexts k d).name ≡ false)
    → context_of t (map (context_in code) contexts) ≡ None
none_named code t [] e = refl
none_named code t (x ∷ contexts) e =
    ap (λ b. if b then Some (context_in code x) else context_of t (map (context_in code) contexts)) (e 0 x (omega arith))
    ∙ none_named code t contexts (λ k d lt. e (suc k) d (omega arith))

pub itself : (t : Name) → same_name t t ≡ true
itself t = grind arith

either : (b : Bool) (y : Context) (rest : Option Context) → is_some rest ≡ true → is_some (if b then Some y else rest) ≡ true
either true y rest e = refl
either false y rest e = e

-- Where one has it, there is some.
pub some_named : (code : Code) (contexts : List carried.Context) (i : ℕ) (x : carried.Context) → i < length contexts → get_or contexts i x ≡ x
    → is_some (context_of x.name (map (context_in code) contexts)) ≡ true
some_named code [] i x lt e = absurd (omega arith)
some_named code (y ∷ contexts) zero x lt e =
    ap (λ (z : carried.Context). is_some (if same_name x.name z.name then Some (context_in code y) else context_of x.name (map (context_in code) contexts))) e
    ∙ ap (λ b. is_some (if b then Some (context_in code y) else context_of x.name (map (context_in code) contexts))) (itself x.name)
some_named code (y ∷ contexts) (suc i) x lt e =
    either (same_name x.name y.name) (context_in code y) (context_of x.name (map (context_in code) contexts)) (some_named code contexts i x (omega arith) e)

pub precedes_apart : (y t : Name) → precedes y t ≡ true → same_name t y ≡ false
precedes_apart y t e = grind (arith, eqb_tells, nat_tests)

pub passes : (p : Name → Bool) (contexts : List carried.Context) → list_all p (names_of contexts) ≡ true → (i : ℕ) (d : carried.Context) → i < length contexts → p (get_or contexts i d).name ≡ true
passes p [] all i d lt = absurd (omega (arith, lt))
passes p (x ∷ contexts) all zero d lt = (both (p x.name) (list_all p (names_of contexts)) all).0
passes p (x ∷ contexts) all (suc i) d lt = passes p contexts (both (p x.name) (list_all p (names_of contexts)) all).1 i d (omega (arith, lt))

-- Where names ascend, it is the one.
pub found_is : (code : Code) (contexts : List carried.Context) → ascends (names_of contexts) ≡ true → (i : ℕ) (x : carried.Context) → i < length contexts → get_or contexts i x ≡ x
    → context_of x.name (map (context_in code) contexts) ≡ Some (context_in code x)
found_is code [] up i x lt e = absurd (omega arith)
found_is code (y ∷ contexts) up zero x lt e =
    ap (λ b. if b then Some (context_in code y) else context_of x.name (map (context_in code) contexts)) (ap (λ (z : carried.Context). same_name x.name z.name) e ∙ itself x.name)
    ∙ ap (λ (z : carried.Context). Some (context_in code z)) e
found_is code (y ∷ contexts) up (suc i) x lt e =
    let split = both (list_all (precedes y.name) (names_of contexts)) (ascends (names_of contexts)) up in
    let first : precedes y.name (get_or contexts i x).name ≡ true = passes (precedes y.name) contexts split.0 i x (omega arith) in
    ap (λ b. if b then Some (context_in code y) else context_of x.name (map (context_in code) contexts)) (precedes_apart y.name x.name (ap (precedes y.name) (ap (λ (z : carried.Context). z.name) (sym e)) ∙ first))
    ∙ found_is code contexts split.1 i x (omega arith) e

-- ---- what holds of all contexts

pub holds_at : (p : carried.Context → Bool) (contexts : List carried.Context) → list_all p contexts ≡ true → (i : ℕ) (x : carried.Context) → i < length contexts → get_or contexts i x ≡ x → p x ≡ true
holds_at p [] all i x lt e = absurd (omega (arith, lt))
holds_at p (y ∷ contexts) all zero x lt e = ap p (sym e) ∙ (both (p y) (list_all p contexts) all).0
holds_at p (y ∷ contexts) all (suc i) x lt e = holds_at p contexts (both (p y) (list_all p contexts) all).1 i x (omega (arith, lt)) e

pub home_among : (n : ℕ) (x : carried.Context) → is_among n x ≡ true → x.home < n
home_among n x e =
    let h = (both (nat_lt x.place n) (nat_lt x.home n) (both (nat_lt x.place n && nat_lt x.home n) (has_home n x.ticket) e).0).1 in
    grind (arith, nat_tests)
