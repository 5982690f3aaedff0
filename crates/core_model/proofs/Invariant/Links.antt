-- What links hold of one kind, and how events change it.
use Rattle.std.proofs.Common.{◌≡◌, ℕ, List, [], ◌∷◌, ◌++◌, map, Option, Some, None, refl, sym, ap, ◌∙◌, Bool, true, false, filter_map}
use Rattle.std.specs.Prelude.{if◌then◌else◌, ◌==◌}
use Rattle.std.proofs.lemmas.Bool.{eqb-true}
use Rattle.std.proofs.lemmas.List.{append-nil}
use Rattle.std.proofs.lemmas.List.Elements.{filter_map-append}
use Rattle.merge_law.specs.Machine.{is_linked}
use Rattle.world_model.specs.World.{with_at}
use Rattle.core_model.specs.Contexts.{Body}
use Rattle.core_model.specs.Machine.{Packet, packet_of}

-- ---- functions of a number

pub with_at-same : {A : Type 0} (f : ℕ → A) (k j : ℕ) → with_at f k (f k) j ≡ f j
with_at-same f k j = go (j == k) refl
  where
    go : (b : Bool) → (j == k) ≡ b → (if b then f k else f j) ≡ f j
    go true e = ap f (sym (eqb-true _ _ e))
    go false e = refl

-- a part of what stands at numbers
pub part-with_at : {A B : Type 0} (p : A → B) (f : ℕ → A) (k : ℕ) (x : A) (j : ℕ) → p (if j == k then x else f j) ≡ with_at (λ i. p (f i)) k (p x) j
part-with_at p f k x j = go (j == k)
  where
    go : (b : Bool) → p (if b then x else f j) ≡ (if b then p x else p (f j))
    go true = refl
    go false = refl

-- a part that the change leaves
pub part-kept : {A B : Type 0} (p : A → B) (f : ℕ → A) (k : ℕ) (x : A) → p x ≡ p (f k) → (j : ℕ) → p (if j == k then x else f j) ≡ p (f j)
part-kept p f k x e j = part-with_at p f k x j ∙ ap (λ y. with_at (λ i. p (f i)) k y j) e ∙ with_at-same (λ i. p (f i)) k j

-- ---- what packets hold

-- one more item, if there is one
abbrev pub with_first : {A : Type 0} → Option A → List A → List A
with_first None xs = xs
with_first (Some x) xs = x ∷ xs

abbrev pub parts : {A : Type 0} → (Body → Option A) → List Packet → List A
parts f ps = filter_map (λ p. f p.body) ps

pub parts-packets : {A : Type 0} (f : Body → Option A) (stamp : ℕ) (bodies : List Body) → parts f (map (packet_of stamp) bodies) ≡ filter_map f bodies
parts-packets f stamp [] = refl
parts-packets f stamp (b ∷ bs) = ap (with_first (f b)) (parts-packets f stamp bs)

-- what is sent along a link
abbrev pub sent : {A : Type 0} → (Body → Option A) → ℕ → ℕ → (ℕ → List Body) → ℕ → List A
sent f n k bodies b = if is_linked n k b then filter_map f (bodies b) else []

pub parts-sent : {A : Type 0} (f : Body → Option A) (n k stamp : ℕ) (bodies : ℕ → List Body) (b : ℕ) →
    parts f (if is_linked n k b then map (packet_of stamp) (bodies b) else []) ≡ sent f n k bodies b
parts-sent f n k stamp bodies b = go (is_linked n k b)
  where
    go : (t : Bool) → parts f (if t then map (packet_of stamp) (bodies b) else []) ≡ (if t then filter_map f (bodies b) else [])
    go true = parts-packets f stamp (bodies b)
    go false = refl

pub sent-none : {A : Type 0} (f : Body → Option A) (n k : ℕ) (bodies : ℕ → List Body) (b : ℕ) → filter_map f (bodies b) ≡ [] → sent f n k bodies b ≡ []
sent-none f n k bodies b none = go (is_linked n k b)
  where
    go : (t : Bool) → (if t then filter_map f (bodies b) else []) ≡ []
    go true = none
    go false = refl

-- ---- how links change

-- more stands last on the links from nodelet k
abbrev pub plus : {A : Type 0} → (ℕ → ℕ → List A) → ℕ → (ℕ → List A) → ℕ → ℕ → List A
plus f k more a b = f a b ++ (if a == k then more b else [])

-- only these are left on the link from o to k
abbrev pub cut : {A : Type 0} → (ℕ → ℕ → List A) → ℕ → ℕ → List A → ℕ → ℕ → List A
cut f o k left a b = if b == k then (if a == o then left else f a k) else f a b

pub plus-none : {A : Type 0} (f : ℕ → ℕ → List A) (k : ℕ) (more : ℕ → List A) → ((b : ℕ) → more b ≡ []) → (a b : ℕ) → plus f k more a b ≡ f a b
plus-none f k more none a b = go (a == k)
  where
    go : (t : Bool) → f a b ++ (if t then more b else []) ≡ f a b
    go true = ap (λ l. f a b ++ l) (none b) ∙ append-nil (f a b)
    go false = append-nil (f a b)

pub cut-same : {A : Type 0} (f : ℕ → ℕ → List A) (o k : ℕ) (left : List A) → f o k ≡ left → (a b : ℕ) → cut f o k left a b ≡ f a b
cut-same f o k left e a b = go (b == k) refl (a == o) refl
  where
    go : (t : Bool) → (b == k) ≡ t → (s : Bool) → (a == o) ≡ s → (if t then (if s then left else f a k) else f a b) ≡ f a b
    go true g true h = sym e ∙ ap (λ c. f c k) (sym (eqb-true _ _ h)) ∙ ap (f a) (sym (eqb-true _ _ g))
    go true g false h = ap (f a) (sym (eqb-true _ _ g))
    go false g s h = refl

-- what links hold after a run at nodelet k
pub parts-run : {A : Type 0} (f : Body → Option A) (links : ℕ → ℕ → List Packet) (k : ℕ) (out : ℕ → List Packet) (a b : ℕ) →
    parts f ((if b == k then links a k else links a b) ++ (if a == k then out b else [])) ≡ plus (λ c d. parts f (links c d)) k (λ d. parts f (out d)) a b
parts-run f links k out a b = go (b == k) refl (a == k)
  where
    go : (t : Bool) → (b == k) ≡ t → (s : Bool) → parts f ((if t then links a k else links a b) ++ (if s then out b else [])) ≡ parts f (links a b) ++ (if s then parts f (out b) else [])
    go true g true = filter_map-append (λ p. f p.body) (links a k) (out b) ∙ ap (λ d. parts f (links a d) ++ parts f (out b)) (sym (eqb-true _ _ g))
    go true g false = filter_map-append (λ p. f p.body) (links a k) [] ∙ ap (λ d. parts f (links a d) ++ []) (sym (eqb-true _ _ g))
    go false g true = filter_map-append (λ p. f p.body) (links a b) (out b)
    go false g false = filter_map-append (λ p. f p.body) (links a b) []

-- and after the first packet from o is taken there
pub parts-take : {A : Type 0} (f : Body → Option A) (links : ℕ → ℕ → List Packet) (o k : ℕ) (rest : List Packet) (out : ℕ → List Packet) (a b : ℕ) →
    parts f ((if b == k then (if a == o then rest else links a k) else links a b) ++ (if a == k then out b else []))
    ≡ plus (cut (λ c d. parts f (links c d)) o k (parts f rest)) k (λ d. parts f (out d)) a b
parts-take f links o k rest out a b = go (b == k) (a == o) (a == k)
  where
    two : (l : List Packet) (s : Bool) → parts f (l ++ (if s then out b else [])) ≡ parts f l ++ (if s then parts f (out b) else [])
    two l true = filter_map-append (λ p. f p.body) l (out b)
    two l false = filter_map-append (λ p. f p.body) l []

    go : (t r s : Bool) → parts f ((if t then (if r then rest else links a k) else links a b) ++ (if s then out b else []))
        ≡ (if t then (if r then parts f rest else parts f (links a k)) else parts f (links a b)) ++ (if s then parts f (out b) else [])
    go true true s = two rest s
    go true false s = two (links a k) s
    go false r s = two (links a b) s
