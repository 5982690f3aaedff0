-- What holds of each item of a list, and of each item and every later one.
use Rattle.std.proofs.Common.{◌≡◌, ℕ, zero, suc, ◌<◌, List, [], ◌∷◌, ◌++◌, length, map, refl, sym, ap, ◌∙◌, arith, Bool, true, false}
use Rattle.std.specs.Prelude.{cond, filter, ◌&&◌, AllPairs, slice_index_or}

abbrev pub Each : {X : Type 0} → (X → Type 0) → List X → Type 0
Each P [] = Unit {0}
Each P (x ∷ xs) = P x × Each P xs

abbrev pub Pairwise : {X : Type 0} → (X → X → Type 0) → List X → Type 0
Pairwise R [] = Unit {0}
Pairwise R (x ∷ xs) = Each (R x) xs × Pairwise R xs

module _ {X : Type 0} where
  pub each_with : (P Q R : X → Type 0) → ((x : X) → P x → Q x → R x) → (l : List X) → Each P l → Each Q l → Each R l
  each_with P Q R f [] p q = tt
  each_with P Q R f (x ∷ xs) p q = (f x p.0 q.0, each_with P Q R f xs p.1 q.1)

  pub each_then : (P Q : X → Type 0) → ((x : X) → P x → Q x) → (l : List X) → Each P l → Each Q l
  each_then P Q f [] p = tt
  each_then P Q f (x ∷ xs) p = (f x p.0, each_then P Q f xs p.1)

  pub each_append : (P : X → Type 0) (l l' : List X) → Each P l → Each P l' → Each P (l ++ l')
  each_append P [] l' p q = q
  each_append P (x ∷ xs) l' p q = (p.0, each_append P xs l' p.1 q)

  pub each_filter : (P : X → Type 0) (q : X → Bool) (l : List X) → Each P l → Each P (filter q l)
  each_filter P q [] p = tt
  each_filter P q (x ∷ xs) p = go (each_filter P q xs p.1) (q x)
    where
      go : Each P (filter q xs) → (t : Bool) → Each P (cond t (x ∷ filter q xs) (filter q xs))
      go ih true = (p.0, ih)
      go ih false = ih

  pub pairwise_filter : (R : X → X → Type 0) (q : X → Bool) (l : List X) → Pairwise R l → Pairwise R (filter q l)
  pairwise_filter R q [] p = tt
  pairwise_filter R q (x ∷ xs) p = go (pairwise_filter R q xs p.1) (q x)
    where
      go : Pairwise R (filter q xs) → (t : Bool) → Pairwise R (cond t (x ∷ filter q xs) (filter q xs))
      go ih true = (each_filter (R x) q xs p.0, ih)
      go ih false = ih

  pub pairwise_all : (R : X → X → Type 0) → ((x y : X) → R x y) → (l : List X) → Pairwise R l
  pairwise_all R f [] = tt
  pairwise_all R f (x ∷ xs) = (all (R x) (f x) xs, pairwise_all R f xs)
    where
      all : (P : X → Type 0) → ((y : X) → P y) → (l : List X) → Each P l
      all P g [] = tt
      all P g (y ∷ ys) = (g y, all P g ys)

  pub each_at : (P : X → Type 0) (l : List X) → Each P l → (i : ℕ) (d : X) → i < length l → P (slice_index_or l i d)
  each_at P [] p i d h = absurd (omega arith)
  each_at P (x ∷ xs) p zero d h = p.0
  each_at P (x ∷ xs) p (suc i) d h = each_at P xs p.1 i d (omega arith)

  pub all_pairs : (R : X → X → Type 0) (l : List X) → Pairwise R l → AllPairs R l
  all_pairs R [] p i j d before under = absurd (omega arith)
  all_pairs R (x ∷ xs) p zero zero d before under = absurd (omega arith)
  all_pairs R (x ∷ xs) p zero (suc j) d before under = each_at (R x) xs p.0 j d (omega arith)
  all_pairs R (x ∷ xs) p (suc i) zero d before under = absurd (omega arith)
  all_pairs R (x ∷ xs) p (suc i) (suc j) d before under = all_pairs R xs p.1 i j d (omega arith) (omega arith)

  -- two filters in one
  pub filter-and : (p q : X → Bool) (l : List X) → filter (λ x. p x && q x) l ≡ filter p (filter q l)
  filter-and p q [] = refl
  filter-and p q (x ∷ xs) = go (p x) refl (q x) refl (filter-and p q xs)
    where
      go : (s : Bool) → p x ≡ s → (t : Bool) → q x ≡ t → filter (λ y. p y && q y) xs ≡ filter p (filter q xs) → cond (s && t) (x ∷ filter (λ y. p y && q y) xs) (filter (λ y. p y && q y) xs) ≡ filter p (cond t (x ∷ filter q xs) (filter q xs))
      go true e true f ih = ap (λ l. x ∷ l) ih ∙ sym (ap (λ s. cond s (x ∷ filter p (filter q xs)) (filter p (filter q xs))) e)
      go true e false f ih = ih
      go false e true f ih = ih ∙ sym (ap (λ s. cond s (x ∷ filter p (filter q xs)) (filter p (filter q xs))) e)
      go false e false f ih = ih

  -- the order of two filters is free
  pub filter-filter : (p q : X → Bool) (l : List X) → filter p (filter q l) ≡ filter q (filter p l)
  filter-filter p q [] = refl
  filter-filter p q (x ∷ xs) = go (p x) refl (q x) refl (filter-filter p q xs)
    where
      go : (s : Bool) → p x ≡ s → (t : Bool) → q x ≡ t → filter p (filter q xs) ≡ filter q (filter p xs) → filter p (cond t (x ∷ filter q xs) (filter q xs)) ≡ filter q (cond s (x ∷ filter p xs) (filter p xs))
      go true e true f ih = ap (λ s. cond s (x ∷ filter p (filter q xs)) (filter p (filter q xs))) e ∙ ap (λ l. x ∷ l) ih ∙ sym (ap (λ t. cond t (x ∷ filter q (filter p xs)) (filter q (filter p xs))) f)
      go true e false f ih = ih ∙ sym (ap (λ t. cond t (x ∷ filter q (filter p xs)) (filter q (filter p xs))) f)
      go false e true f ih = ap (λ s. cond s (x ∷ filter p (filter q xs)) (filter p (filter q xs))) e ∙ ih
      go false e false f ih = ih

pub filter-map : {X Y : Type 0} (q : Y → Bool) (f : X → Y) (l : List X) → filter q (map f l) ≡ map f (filter (λ x. q (f x)) l)
filter-map q f [] = refl
filter-map q f (x ∷ xs) = go (q (f x)) (filter-map q f xs)
  where
    go : (t : Bool) → filter q (map f xs) ≡ map f (filter (λ y. q (f y)) xs) → cond t (f x ∷ filter q (map f xs)) (filter q (map f xs)) ≡ map f (cond t (x ∷ filter (λ y. q (f y)) xs) (filter (λ y. q (f y)) xs))
    go true ih = ap (λ l. f x ∷ l) ih
    go false ih = ih
