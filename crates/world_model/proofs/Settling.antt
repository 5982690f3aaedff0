-- Names are given once, and grants that stand first can be applied until none does.
use Rattle.std.proofs.Common.{◌≡◌, ◌≢◌, ℕ, zero, suc, ◌+◌, ◌<◌, ◌≤◌, List, [], ◌∷◌, ◌++◌, length, Option, Some, None, refl, sym, ap, ◌∙◌, subst, arith, Bool, true, false, ⊎_elim}
use Rattle.std.specs.Prelude.{⊤, if◌then◌else◌, ◌==◌, IfSome, option_and_then, flat_map, map, filter, sum_by, unwrap_or}
use Rattle.std.specs.Option.{option_map_or}
use Rattle.std.specs.List.{best_of}
use Rattle.std.proofs.lemmas.Bool.{eqb-true}
use Rattle.std.proofs.lemmas.Bool.Decides.{eqb_tells}
use Rattle.std.proofs.lemmas.List.Sums.{sum_by-append}
use Rattle.word_ops.specs.declared.name.Name.{Name}
use Rattle.word_ops.specs.declared.step.Step.{Step}
use Rattle.word_ops.specs.declared.step.Step.TheVariants.{Act, Apply}
use Rattle.word_ops.specs.Naming.{same_name}
use Rattle.word_ops.specs.Report.{below}
use Rattle.world_model.specs.World.{Setting, Extent, Item, Operation, Grant, Strand, World, lookup, with_at, with_entry, with_strand, with_grant}
use Rattle.world_model.specs.Step.{step, applied_at}
use Rattle.world_model.specs.Run.{run_from, run_of, start}
use Rattle.world_model.specs.Upgrade.{grant_stands_first, first_grants_of, goes_before, least_of, next_grant, Settled, behind, pending_in, settle}
use Rattle.world_model.specs.Laws.{NamesDiffer}
use Rattle.world_model.proofs.Names.{same_name_refl, name_cases, differ-with_entry}
use Rattle.world_model.proofs.Steps.{Acted, acted_by, applied_by}

-- ---- names

pub step_names : (u : Setting) (w v : World) (t : Step) → NamesDiffer w.strands → step u w t ≡ Some v → NamesDiffer v.strands
step_names u w v (Act name child) apart e = of_act (acted_by u w name child v e)
  where
    of_act : Acted u w name child v → NamesDiffer v.strands
    of_act a = ⊎_elim
        (λ r. subst (λ x. NamesDiffer x.strands) (sym r.is) (differ-with_entry name _ w.strands apart))
        (λ d. subst (λ x. NamesDiffer x.strands) (sym d.shape.is) (differ-with_entry name d.shape.after d.shape.base.strands (d.shape.names apart)))
        a.outcome
step_names u w v (Apply name k) apart e =
    let a = applied_by u w name k v e in
    subst (λ x. NamesDiffer x.strands) (sym a.is) (differ-with_entry name a.after a.base.strands (subst (λ es. NamesDiffer es) (sym a.strands) apart))

pub run_names : (u : Setting) (told : List Step) (w v : World) → NamesDiffer w.strands → run_from u w told ≡ Some v → NamesDiffer v.strands
run_names u [] w v apart e = subst (λ x. NamesDiffer x.strands) (let z : w ≡ v = cc in z) apart
run_names u (t ∷ told) w v apart e = go (λ x f g. run_names u told x v f g) (step u w t) refl e
  where
    go : ((x : World) → NamesDiffer x.strands → run_from u x told ≡ Some v → NamesDiffer v.strands) →
        (o : Option World) → step u w t ≡ o → option_and_then (λ x. run_from u x told) o ≡ Some v → NamesDiffer v.strands
    go ih None is f = absurd cc
    go ih (Some x) is f = ih x (step_names u w x t apart is) f

pub names_differ : (u : Setting) (told : List Step) (w : World) → run_of u told ≡ Some w → NamesDiffer w.strands
names_differ u told w run = run_names u told (start u) w (refl, tt) run

-- ---- each element of a list

abbrev EachOf : {X : Type 0} → (X → Type 0) → List X → Type 0
EachOf P [] = ⊤
EachOf P (x ∷ xs) = P x × EachOf P xs

each-append : {X : Type 0} (P : X → Type 0) (xs ys : List X) → EachOf P xs → EachOf P ys → EachOf P (xs ++ ys)
each-append P [] ys a b = b
each-append P (x ∷ xs) ys a b = (a.0, each-append P xs ys a.1 b)

each-weaker : {X : Type 0} (P Q : X → Type 0) (xs : List X) → ((x : X) → P x → Q x) → EachOf P xs → EachOf Q xs
each-weaker P Q [] f a = tt
each-weaker P Q (x ∷ xs) f a = (f x a.0, each-weaker P Q xs f a.1)

below_each : (n : ℕ) → EachOf (λ k. k < n) (below n)
below_each zero = tt
below_each (suc n) = each-append (λ k. k < suc n) (below n) (n ∷ []) (each-weaker (λ k. k < n) (λ k. k < suc n) (below n) (λ k e. omega (arith, e)) (below_each n)) (omega arith, tt)

-- ---- the grant that is applied next

-- a grant stands first at a nodelet
pub record First (n : ℕ) (es : List (Name × Strand)) (g : Name × ℕ) : Type 0 where
  pub strand : Strand
  pub extent : Extent
  pub items : List Item
  pub found : lookup g.0 es ≡ Some strand
  pub first : strand.pending g.1 ≡ Grant extent ∷ items
  pub within : g.1 < n

firsts_at : (n : ℕ) (es : List (Name × Strand)) (q : Name) (s : Strand) → lookup q es ≡ Some s → (ks : List ℕ) → EachOf (λ k. k < n) ks →
    EachOf (First n es) (map (λ k. (q, k)) (filter (λ k. grant_stands_first (s.pending k)) ks))
firsts_at n es q s is [] all = tt
firsts_at n es q s is (k ∷ ks) all = go (firsts_at n es q s is ks all.1) (s.pending k) refl
  where
    go : EachOf (First n es) (map (λ k. (q, k)) (filter (λ k. grant_stands_first (s.pending k)) ks)) → (items : List Item) → s.pending k ≡ items →
        EachOf (First n es) (map (λ k. (q, k)) (if grant_stands_first items then k ∷ filter (λ k. grant_stands_first (s.pending k)) ks else filter (λ k. grant_stands_first (s.pending k)) ks))
    go ih [] e = ih
    go ih (Operation op a v at ∷ items) e = ih
    go ih (Grant extent ∷ items) e = (record { strand = s; extent = extent; items = items; found = is; first = e; within = all.0 }, ih)

entries_found : (es : List (Name × Strand)) → NamesDiffer es → EachOf (λ e. lookup e.0 es ≡ Some e.1) es
entries_found [] apart = tt
entries_found (e ∷ es) apart =
    (rw (same_name_refl e.0) refl, each-weaker (λ x. lookup x.0 es ≡ Some x.1) (λ x. lookup x.0 (e ∷ es) ≡ Some x.1) es still (entries_found es apart.1))
  where
    still : (x : Name × Strand) → lookup x.0 es ≡ Some x.1 → lookup x.0 (e ∷ es) ≡ Some x.1
    still x found = ⊎_elim
        (λ is. absurd (let z : Some x.1 ≡ None = sym found ∙ ap (λ m. lookup m es) is ∙ apart.0 in cc))
        (λ ne. rw ne.0 found)
        (name_cases x.0 e.0)

firsts_in : (n : ℕ) (es xs : List (Name × Strand)) → EachOf (λ e. lookup e.0 es ≡ Some e.1) xs → EachOf (First n es) (flat_map (first_grants_of n) xs)
firsts_in n es [] all = tt
firsts_in n es (x ∷ xs) all = each-append (First n es) (first_grants_of n x) (flat_map (first_grants_of n) xs) (firsts_at n es x.0 x.1 all.0 (below n) (below_each n)) (firsts_in n es xs all.1)

best_is_one : (P : Name × ℕ → Type 0) (xs : List (Name × ℕ)) (a : Name × ℕ) → P a → EachOf P xs → P (best_of goes_before a xs)
best_is_one P [] a p all = p
best_is_one P (x ∷ xs) a p all = best_is_one P xs (if goes_before x a then x else a) (elim (goes_before x a) as (λ t. P (if t then x else a)) [ true ↦ all.0 | false ↦ p ]) all.1

next_is_first : (n : ℕ) (w : World) → NamesDiffer w.strands → IfSome (next_grant n w) (First n w.strands)
next_is_first n w apart = go (flat_map (first_grants_of n) w.strands) (firsts_in n w.strands w.strands (entries_found w.strands apart))
  where
    go : (gs : List (Name × ℕ)) → EachOf (First n w.strands) gs → IfSome (least_of gs) (First n w.strands)
    go [] all = tt
    go (g ∷ gs) all = best_is_one (First n w.strands) gs g all.0 all.1

-- ---- how much is pending

weight : ℕ → (ℕ → List Item) → ℕ
weight n f = sum_by (λ k. length (f k)) (below n)

weight-suc : (n : ℕ) (f : ℕ → List Item) → weight (suc n) f ≡ weight n f + length (f n)
unfolding weight
weight-suc n f = let e : weight (suc n) f ≡ weight n f + sum_by (λ k. length (f k)) (n ∷ []) = sum_by-append (λ k. length (f k)) (below n) (n ∷ []) in omega (arith, e)

weight-same : (n k : ℕ) (f : ℕ → List Item) (items : List Item) → n ≤ k → weight n (with_at f k items) ≡ weight n f
unfolding weight
weight-same zero k f items le = refl
weight-same (suc n) k f items le =
    let ih : weight n (with_at f k items) ≡ weight n f = weight-same n k f items (omega arith) in
    let other : (n == k) ≡ false = grind (arith, eqb_tells) in
    let here : with_at f k items n ≡ f n = rw other refl in
    weight-suc n (with_at f k items) ∙ ap (λ a. a + length (with_at f k items n)) ih ∙ ap (λ l. weight n f + length l) here ∙ sym (weight-suc n f)

weight-less : (n k : ℕ) (f : ℕ → List Item) (item : Item) (items : List Item) → k < n → f k ≡ item ∷ items → suc (weight n (with_at f k items)) ≡ weight n f
weight-less zero k f item items less list = absurd (omega arith)
weight-less (suc n) k f item items less list = go (λ below_n. weight-less n k f item items below_n list) (n == k) refl
  where
    go : (k < n → suc (weight n (with_at f k items)) ≡ weight n f) → (t : Bool) → (n == k) ≡ t → suc (weight (suc n) (with_at f k items)) ≡ weight (suc n) f
    go ih true e =
        let is : n ≡ k = eqb-true _ _ e in
        let front : weight n (with_at f k items) ≡ weight n f = weight-same n k f items (omega arith) in
        let here : with_at f k items n ≡ items = rw e refl in
        let there : f n ≡ item ∷ items = ap f is ∙ list in
        let a : weight (suc n) (with_at f k items) ≡ weight n (with_at f k items) + length items = weight-suc n (with_at f k items) ∙ ap (λ l. weight n (with_at f k items) + length l) here in
        let b : weight (suc n) f ≡ weight n f + suc (length items) = weight-suc n f ∙ ap (λ l. weight n f + length l) there in
        omega (arith, a, b, front)
    go ih false e =
        let ne : n ≢ k = grind (arith, eqb_tells) in
        let front : suc (weight n (with_at f k items)) ≡ weight n f = ih (omega arith) in
        let here : with_at f k items n ≡ f n = rw e refl in
        let a : weight (suc n) (with_at f k items) ≡ weight n (with_at f k items) + length (f n) = weight-suc n (with_at f k items) ∙ ap (λ l. weight n (with_at f k items) + length l) here in
        let b : weight (suc n) f ≡ weight n f + length (f n) = weight-suc n f in
        omega (arith, a, b, front)

total : ℕ → List (Name × Strand) → ℕ
total n es = sum_by (λ e. sum_by (λ k. length (e.1.pending k)) (below n)) es

total-cons : (n : ℕ) (e : Name × Strand) (es : List (Name × Strand)) → total n (e ∷ es) ≡ weight n e.1.pending + total n es
unfolding total weight
total-cons n e es = let z : total n (e ∷ es) ≡ total n (e ∷ []) + total n es = sum_by-append (λ x. sum_by (λ k. length (x.1.pending k)) (below n)) (e ∷ []) es in omega (arith, z)

total-less : (n : ℕ) (q : Name) (s t : Strand) (es : List (Name × Strand)) → lookup q es ≡ Some s → suc (weight n t.pending) ≡ weight n s.pending →
    suc (total n (with_entry q t es)) ≡ total n es
total-less n q s t [] is less = absurd cc
total-less n q s t (e ∷ es) is less = go (λ f. total-less n q s t es f less) (same_name q e.0) refl is
  where
    go : (lookup q es ≡ Some s → suc (total n (with_entry q t es)) ≡ total n es) → (b : Bool) → same_name q e.0 ≡ b → (if b then Some e.1 else lookup q es) ≡ Some s →
        suc (total n (if b then (q, t) ∷ es else e ∷ with_entry q t es)) ≡ total n (e ∷ es)
    go ih true f g =
        let same : e.1 ≡ s = cc in
        let w : weight n e.1.pending ≡ weight n s.pending = ap (λ (x : Strand). weight n x.pending) same in
        let a : total n ((q, t) ∷ es) ≡ weight n t.pending + total n es = total-cons n (q, t) es in
        let b : total n (e ∷ es) ≡ weight n e.1.pending + total n es = total-cons n e es in
        omega (arith, a, b, w, less)
    go ih false f g =
        let a : total n (e ∷ with_entry q t es) ≡ weight n e.1.pending + total n (with_entry q t es) = total-cons n e (with_entry q t es) in
        let b : total n (e ∷ es) ≡ weight n e.1.pending + total n es = total-cons n e es in
        let c : suc (total n (with_entry q t es)) ≡ total n es = ih g in
        omega (arith, a, b, c)

-- ---- the applications

-- what is left once the grant is applied
pub record Less (u : Setting) (w : World) (g : Name × ℕ) : Type 0 where
  pub world : World
  pub is : step u w (Apply g.0 g.1) ≡ Some world
  pub less : suc (pending_in u.nodelets world) ≡ pending_in u.nodelets w
  pub names : NamesDiffer world.strands

apply_first : (u : Setting) (w : World) (g : Name × ℕ) → NamesDiffer w.strands → First u.nodelets w.strands g → Less u w g
unfolding total weight
apply_first u w g apart f = record { world = after; is = done; less = fewer; names = step_names u w after (Apply g.0 g.1) apart done }
  where
    left : Strand
    left = record f.strand { pending = with_at f.strand.pending g.1 f.items }

    after : World
    after = with_strand (with_grant w g.1 f.extent) g.0 left

    done : step u w (Apply g.0 g.1) ≡ Some after
    done = ap (λ o. option_and_then (λ s. applied_at u w g.0 s g.1 (s.pending g.1)) o) f.found ∙ ap (λ items. applied_at u w g.0 f.strand g.1 items) f.first

    fewer : suc (pending_in u.nodelets after) ≡ pending_in u.nodelets w
    fewer = total-less u.nodelets g.0 f.strand left w.strands f.found (weight-less u.nodelets g.1 f.strand.pending (Grant f.extent) f.items f.within f.first)

abbrev SettledIs : Setting → World → Settled → Type 0
SettledIs u w settled = (run_from u w settled.steps ≡ Some settled.world) × (next_grant u.nodelets settled.world ≡ None)

pub settles : (u : Setting) (most : ℕ) (w : World) → NamesDiffer w.strands → pending_in u.nodelets w ≤ most → SettledIs u w (settle u most w)
settles u zero w apart le = go (next_grant u.nodelets w) refl (next_is_first u.nodelets w apart)
  where
    go : (o : Option (Name × ℕ)) → next_grant u.nodelets w ≡ o → IfSome o (First u.nodelets w.strands) → SettledIs u w (record { steps = []; world = w })
    go None e f = (refl, e)
    go (Some g) e f = absurd (let l = (apply_first u w g apart f).less in omega (arith, l, le))
settles u (suc most) w apart le = go (λ v names few. settles u most v names few) (next_grant u.nodelets w) refl (next_is_first u.nodelets w apart)
  where
    go : ((v : World) → NamesDiffer v.strands → pending_in u.nodelets v ≤ most → SettledIs u v (settle u most v)) →
        (o : Option (Name × ℕ)) → next_grant u.nodelets w ≡ o → IfSome o (First u.nodelets w.strands) →
        SettledIs u w (option_map_or (λ grant. behind (Apply grant.0 grant.1) (settle u most (unwrap_or (step u w (Apply grant.0 grant.1)) w))) o (record { steps = []; world = w }))
    go ih None e f = (refl, e)
    go ih (Some g) e f =
        let l : Less u w g = apply_first u w g apart f in
        let few : pending_in u.nodelets l.world ≤ most = (let z = l.less in omega (arith, z, le)) in
        subst (λ o. (option_and_then (λ x. run_from u x (settle u most (unwrap_or o w)).steps) o ≡ Some (settle u most (unwrap_or o w)).world)
        × (next_grant u.nodelets (settle u most (unwrap_or o w)).world ≡ None))
        (sym l.is) (ih l.world l.names few)

pub grants_settle : (u : Setting) (told : List Step) (w : World) → run_of u told ≡ Some w → SettledIs u w (settle u (pending_in u.nodelets w) w)
grants_settle u told w run = settles u (pending_in u.nodelets w) w (names_differ u told w run) (omega arith)
