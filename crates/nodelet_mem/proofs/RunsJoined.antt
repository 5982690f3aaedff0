-- Runs in order: where an address would stand, and what a grant leaves.
use Rattle.std.proofs.Common.{◌≡◌, ℕ, zero, suc, ◌+◌, ◌<◌, ◌≤◌, ◌⊎◌, inl, inr, ℤ, pos, ◌≤ℤ◌, ◌<ℤ◌, Bool, true, false, List, ◌∷◌, length, get_or, take, drop, refl, sym, ap, ◌∙◌, subst, arith}
use Rattle.std.specs.Prelude.{◌||◌}
use Rattle.std.specs.Int.{int_max}
use Rattle.std.specs.List.{insert}
use Rattle.std.proofs.lemmas.Int.{ints}
use Rattle.std.proofs.lemmas.Bool.{true≢false}
use Rattle.std.proofs.lemmas.List.{get_or_default, take-append-drop}
use Rattle.std.proofs.lemmas.List.Folds.{Any-from_list_any, list_any_at, list_any_none, list_any-append}
use Rattle.nodelet_mem.specs.Grants.{is_within, is_granted_by, AreOrdered, IsPlace, AreRaised}
use Rattle.nodelet_mem.specs.declared.grants.Run.{Run}

pub below_or_not : (a b : ℕ) → (a < b) ⊎ (b ≤ a)
below_or_not zero zero = inr (omega arith)
below_or_not zero (suc b) = inl (omega arith)
below_or_not (suc a) zero = inr (omega arith)
below_or_not (suc a) (suc b) = elim (below_or_not a b) [ inl h ↦ inl (omega arith) | inr h ↦ inr (omega arith) ]

abbrev pub no_run : Run
no_run = record { first = pos 0; end = pos 0 }

pub bool_same : (x y : Bool) → (x ≡ true → y ≡ true) → (y ≡ true → x ≡ true) → x ≡ y
bool_same true true f g = refl
bool_same true false f g = sym (f refl)
bool_same false true f g = g refl
bool_same false false f g = refl

or_left : (x y : Bool) → x ≡ true → (x || y) ≡ true
or_left true y e = refl
or_left false y e = absurd (true≢false (sym e))

or_right : (x y : Bool) → y ≡ true → (x || y) ≡ true
or_right true y e = refl
or_right false y e = e

or_cases : (x y : Bool) → (x || y) ≡ true → (x ≡ true) ⊎ (y ≡ true)
or_cases true y e = inl refl
or_cases false y e = inr e

or_between : (x y t : Bool) → (x || (t || y)) ≡ ((x || y) || t)
or_between true y t = refl
or_between false true true = refl
or_between false true false = refl
or_between false false true = refl
or_between false false false = refl

or_again : (x t : Bool) → ((x || t) || t) ≡ (x || t)
or_again true t = refl
or_again false true = refl
or_again false false = refl

pub within_parts : (first end a : ℤ) → is_within first end a ≡ true → (first ≤ℤ a) × (a <ℤ end)
within_parts first end a e = (grind (arith, ints), grind (arith, ints))

pub within_of : (first end a : ℤ) → first ≤ℤ a → a <ℤ end → is_within first end a ≡ true
within_of first end a h k = grind (arith, ints)

outside : (first end a : ℤ) → a <ℤ first → is_within first end a ≡ false
outside first end a h = grind (arith, ints)

pub longer_first : (x y : ℤ) → x ≤ℤ int_max x y
longer_first x y = grind (arith, ints)

pub longer_second : (x y : ℤ) → y ≤ℤ int_max x y
longer_second x y = grind (arith, ints)

pub no_longer : (x y : ℤ) → y ≤ℤ x → x ≡ int_max x y
no_longer x y h = grind (arith, ints)

pub under_longer : (w x y : ℤ) → (w ≤ℤ x) ⊎ (w ≤ℤ y) → w ≤ℤ int_max x y
under_longer w x y (inl h) = let k = longer_first x y in omega (arith, ints)
under_longer w x y (inr h) = let k = longer_second x y in omega (arith, ints)

pub longer_under : (x y z : ℤ) → x ≤ℤ z → y ≤ℤ z → int_max x y ≤ℤ z
longer_under x y z h k = grind (arith, ints)

-- an address of a longer run is one of the run, or one of the grant
cut : (run : Run) (first end a : ℤ) → (first ≤ℤ run.first) ⊎ (first ≤ℤ run.end) → is_within run.first (int_max run.end end) a ≡ true
    → (is_within run.first run.end a || is_within first end a) ≡ true
cut run first end a (inl h) e = grind (arith, ints)
cut run first end a (inr h) e = grind (arith, ints)

grown : (run : Run) (end a : ℤ) → is_within run.first run.end a ≡ true → is_within run.first (int_max run.end end) a ≡ true
grown run end a e = grind (arith, ints)

abbrev test : ℤ → Run → Bool
test a run = is_within run.first run.end a

pub none_found : (runs : List Run) (a : ℤ) (p : ℕ) → p ≤ 0 → IsPlace runs a p → is_granted_by runs a ≡ false
none_found runs a p z is = list_any_none (test a) runs (λ k d below. outside _ _ a (is.behind k d (omega arith) below))

-- the run before the place tells
pub last_tells : (runs : List Run) (a : ℤ) (p q : ℕ) (d : Run) → q + 1 ≡ p → AreOrdered runs → IsPlace runs a p
    → is_within (get_or runs q d).first (get_or runs q d).end a ≡ is_granted_by runs a
last_tells runs a p q d e ordered is = bool_same _ _ back on
  where
    inside : q < length runs
    inside = let h = is.within in omega arith

    back : is_within (get_or runs q d).first (get_or runs q d).end a ≡ true → is_granted_by runs a ≡ true
    back h = list_any_at (test a) runs q d inside h

    reach : (k : ℕ) → k < length runs → (get_or runs k d).first ≤ℤ a → a <ℤ (get_or runs k d).end → (k < q) ⊎ (q ≤ k) → a <ℤ (get_or runs q d).end
    reach k below from under (inl less) = let h = ordered.ends k q d less inside in omega (arith, ints)
    reach k below from under (inr more) = elim (below_or_not k p) [
      | inl h ↦ (let same : k ≡ q = omega arith in subst (λ n. a <ℤ (get_or runs n d).end) same under)
      | inr h ↦ (let behind = is.behind k d h below in absurd (omega (arith, ints)))
    ]

    on : is_granted_by runs a ≡ true → is_within (get_or runs q d).first (get_or runs q d).end a ≡ true
    on h =
        let some = Any-from_list_any (test a) runs h in
        let is_it : get_or runs some.0 d ≡ some.1 = get_or_default runs some.0 d some.1 some.2 ∙ some.3 in
        let parts = within_parts _ _ a (subst (λ (r : Run). is_within r.first r.end a ≡ true) (sym is_it) some.4) in
        within_of _ _ a (is.before q d (omega arith)) (reach some.0 some.2 parts.0 parts.1 (below_or_not some.0 q))

-- what raised runs have
pub raised_same : (ys zs : List Run) (q : ℕ) (first end a : ℤ) (d : Run) → AreRaised ys q end zs
    → ((k : ℕ) (d : Run) → q ≤ k → k < length ys → (first ≤ℤ (get_or ys k d).first) ⊎ (first ≤ℤ (get_or ys k d).end))
    → (is_granted_by zs a || is_within first end a) ≡ (is_granted_by ys a || is_within first end a)
raised_same ys zs q first end a d is near = bool_same _ _
    (λ e. elim (or_cases _ _ e) [ inl h ↦ back h | inr h ↦ or_right (is_granted_by ys a) _ h ])
    (λ e. elim (or_cases _ _ e) [ inl h ↦ or_left _ _ (on h) | inr h ↦ or_right (is_granted_by zs a) _ h ])
  where
    back_at : (k : ℕ) (x : Run) → k < length zs → get_or zs k x ≡ x → test a x ≡ true → (k < q) ⊎ (q ≤ k) → (is_granted_by ys a || is_within first end a) ≡ true
    back_at k x below e t (inl less) =
        or_left _ _ (list_any_at (test a) ys k x (let s = is.sizes in omega arith) (subst (λ r. test a r ≡ true) (sym (sym (is.low k x less) ∙ e)) t))
    back_at k x below e t (inr more) =
        let inside : k < length ys = (let s = is.sizes in omega arith) in
        elim (or_cases _ _ (cut (get_or ys k x) first end a (near k x more inside) (subst (λ r. test a r ≡ true) (sym (sym (is.high k x more inside) ∙ e)) t))) [
          | inl h ↦ or_left _ _ (list_any_at (test a) ys k x inside h)
          | inr h ↦ or_right (is_granted_by ys a) _ h
        ]

    back : is_granted_by zs a ≡ true → (is_granted_by ys a || is_within first end a) ≡ true
    back h = let some = Any-from_list_any (test a) zs h in back_at some.0 some.1 some.2 some.3 some.4 (below_or_not some.0 q)

    on_at : (k : ℕ) (x : Run) → k < length ys → get_or ys k x ≡ x → test a x ≡ true → (k < q) ⊎ (q ≤ k) → is_granted_by zs a ≡ true
    on_at k x below e t (inl less) =
        list_any_at (test a) zs k x (let s = is.sizes in omega arith) (subst (λ r. test a r ≡ true) (sym (is.low k x less ∙ e)) t)
    on_at k x below e t (inr more) =
        list_any_at (test a) zs k x (let s = is.sizes in omega arith)
        (subst (λ r. test a r ≡ true) (sym (is.high k x more below)) (grown (get_or ys k x) end a (subst (λ r. test a r ≡ true) (sym e) t)))

    on : is_granted_by ys a ≡ true → is_granted_by zs a ≡ true
    on h = let some = Any-from_list_any (test a) ys h in on_at some.0 some.1 some.2 some.3 some.4 (below_or_not some.0 q)

-- a grant that one run has is there already
pub covered : (zs : List Run) (k : ℕ) (first end a : ℤ) (d : Run) → k < length zs → (get_or zs k d).first ≤ℤ first → end ≤ℤ (get_or zs k d).end
    → (is_granted_by zs a || is_within first end a) ≡ is_granted_by zs a
covered zs k first end a d below from to = bool_same _ _
    (λ e. elim (or_cases _ _ e) [ inl h ↦ h | inr h ↦ list_any_at (test a) zs k d below (inside (within_parts first end a h)) ])
    (λ e. or_left _ _ e)
  where
    inside : (first ≤ℤ a) × (a <ℤ end) → test a (get_or zs k d) ≡ true
    inside h = within_of _ _ a (let l = h.0 in omega (arith, ints)) (let l = h.1 in omega (arith, ints))

pub inserted_same : (xs : List Run) (p : ℕ) (run : Run) (a : ℤ) → is_granted_by (insert xs p run) a ≡ (is_granted_by xs a || is_within run.first run.end a)
inserted_same xs p run a =
    list_any-append (test a) (take p xs) (run ∷ drop p xs)
    ∙ or_between (is_granted_by (take p xs) a) (is_granted_by (drop p xs) a) (test a run)
    ∙ ap (λ t. t || test a run) (sym (list_any-append (test a) (take p xs) (drop p xs)) ∙ ap (λ l. is_granted_by l a) (take-append-drop p xs))

-- the same where the grant is put in as a run of its own
pub put_same : (xs ys zs : List Run) (p : ℕ) (run : Run) (a : ℤ) (d : Run) → ys ≡ insert xs p run → p < length ys → get_or ys p d ≡ run → AreRaised ys (p + 1) run.end zs
    → ((k : ℕ) (d : Run) → p + 1 ≤ k → k < length ys → run.first ≤ℤ (get_or ys k d).first)
    → is_granted_by zs a ≡ (is_granted_by xs a || is_within run.first run.end a)
put_same xs ys zs p run a d e below at is near =
    let here : get_or zs p d ≡ run = is.low p d (omega arith) ∙ at in
    sym (covered zs p run.first run.end a d (let s = is.sizes in omega arith) (subst (λ (r : Run). r.first ≤ℤ run.first) (sym here) (omega (arith, ints))) (subst (λ (r : Run). run.end ≤ℤ r.end) (sym here) (omega (arith, ints))))
    ∙ raised_same ys zs (p + 1) run.first run.end a d is (λ k d more inside. inl (near k d more inside))
    ∙ ap (λ t. t || is_within run.first run.end a) (ap (λ l. is_granted_by l a) e ∙ inserted_same xs p run a)
    ∙ or_again (is_granted_by xs a) (is_within run.first run.end a)
