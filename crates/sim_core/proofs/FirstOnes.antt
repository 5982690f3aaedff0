-- The first of what the nodelets up to some number have.
use Rattle.std.proofs.Common.{◌≡◌, ◌≢◌, ℕ, zero, suc, ◌+◌, ◌<◌, ◌⊎◌, inl, inr, List, [], ◌∷◌, ◌++◌, Option, Some, None, refl, sym, ap, ◌∙◌, arith, Bool, true, false, filter_map, is_some, add-one}
use Rattle.std.specs.Prelude.{cond, slice_get, find, ◌==◌}
use Rattle.std.specs.List.{cons_option}
use Rattle.std.specs.Option.{option_or}
use Rattle.std.proofs.lemmas.Bool.Decides.{eqb_tells}
use Rattle.std.proofs.lemmas.List.{append-nil}
use Rattle.std.proofs.lemmas.List.Elements.{filter_map-append}
use Rattle.std.proofs.lemmas.List.Folds.{find-append}
use Rattle.std.proofs.lemmas.List.Sums.{fold-append}
use Rattle.std.specs.Prelude.{map, ◌||◌, ◌&&◌, not, nat_lt}
use Rattle.std.specs.List.{list_any}
use Rattle.word_ops.specs.Report.{below}
use Rattle.threadlet_code.specs.declared.code.Code.{Code}
use Rattle.threadlet_code.specs.Machine.{step}
use Rattle.threadlet_state.specs.declared.context.Context as carried
use Rattle.threadlet_state.specs.Activations.{state_of}
use Rattle.world_model.specs.Run.{is_turn}
use Rattle.nodelet_core.specs.declared.nodelet.Nodelet.{Nodelet}
use Rattle.core_model.specs.Nodes.{Setup}
use Rattle.nodelet_core.specs.Carried.{context_in}
use Rattle.core_model.specs.Runs.{action_in}
use Rattle.nodelet_core.specs.Kept.{node_of, carried_at, is_at_turn}
use Rattle.sim_core.specs.declared.machine.Core.{Core as Kept}
use Rattle.sim_core.specs.Kept.{setup_in}
use Rattle.core_model.specs.CoreEnd.{stands_at_turn, lacks_turn_at}
use Rattle.sim_core.proofs.Legal.{numbered_there}
use Rattle.core_model.specs.declared.trapped.Trapped.{Trapped}
use Rattle.core_model.specs.CoreEnd.{is_earlier, earliest}
use Rattle.sim_core.specs.code.Earlier.{earlier_of}

pub none_where_not : {A : Type 0} (o : Option A) → is_some o ≡ false → o ≡ None
none_where_not None e = refl
none_where_not (Some x) e = absurd (let z : true ≡ false = e in cc)

-- Numbers that are equal pass the test, and others do not.
pub equal_passes : (a b : ℕ) → a ≡ b → (a == b) ≡ true
equal_passes a b e = go (eqb_tells a b)
  where
    go : (((a == b) ≡ true) × (a ≡ b)) ⊎ (((a == b) ≡ false) × (a ≢ b)) → (a == b) ≡ true
    go (inl t) = t.0
    go (inr f) = absurd (f.1 e)

pub others_fail : (a b : ℕ) → (a ≡ b → ⊥) → (a == b) ≡ false
others_fail a b ne = go (eqb_tells a b)
  where
    go : (((a == b) ≡ true) × (a ≡ b)) ⊎ (((a == b) ≡ false) × (a ≢ b)) → (a == b) ≡ false
    go (inl t) = absurd (ne t.1)
    go (inr f) = f.0

module _ {A : Type 0} (f : ℕ → Option A) where
  one_more : (k : ℕ) → filter_map f (below (suc k)) ≡ filter_map f (below k) ++ cons_option (f k) []
  one_more k = filter_map-append f (below k) (k ∷ [])

  -- One that has none adds nothing.
  pub none_more : (k : ℕ) → filter_map f (below k) ≡ [] → f k ≡ None → filter_map f (below (k + 1)) ≡ []
  none_more k before none =
      ap (λ n. filter_map f (below n)) (add-one k) ∙ one_more k ∙ ap (λ l. l ++ cons_option (f k) []) before ∙ ap (λ o. cons_option o []) none

  heads : (xs ys : List A) (x : A) → slice_get xs 0 ≡ Some x → slice_get (xs ++ ys) 0 ≡ Some x
  heads [] ys x e = absurd cc
  heads (y ∷ xs) ys x e = e

  -- The first is that of the least nodelet that has one.
  pub first_there : (n k : ℕ) (x : A) → k < n → filter_map f (below k) ≡ [] → f k ≡ Some x → slice_get (filter_map f (below n)) 0 ≡ Some x
  first_there zero k x less before here = absurd (omega arith)
  first_there (suc n) k x less before here = ap (λ l. slice_get l 0) (one_more n) ∙ go (λ h. first_there n k x h before here) (eqb_tells k n)
    where
      go : (k < n → slice_get (filter_map f (below n)) 0 ≡ Some x) → (((k == n) ≡ true) × (k ≡ n)) ⊎ (((k == n) ≡ false) × (k ≢ n))
          → slice_get (filter_map f (below n) ++ cons_option (f n) []) 0 ≡ Some x
      go earlier (inl same) =
          ap (λ i. slice_get (filter_map f (below i) ++ cons_option (f i) []) 0) (sym same.1)
          ∙ ap (λ l. slice_get (l ++ cons_option (f k) []) 0) before ∙ ap (λ o. slice_get (cons_option o []) 0) here
      go earlier (inr other) = heads (filter_map f (below n)) (cons_option (f n) []) x (earlier (let ne = other.1 in omega arith))

  pub first_some : (n k : ℕ) → k < n → filter_map f (below k) ≡ [] → is_some (f k) ≡ true → slice_get (filter_map f (below n)) 0 ≡ f k
  first_some n k less before some = go (f k) refl
    where
      go : (o : Option A) → f k ≡ o → slice_get (filter_map f (below n)) 0 ≡ f k
      go None e = absurd (let z : false ≡ true = sym (ap is_some e) ∙ some in cc)
      go (Some x) e = first_there n k x less before e ∙ sym e

module _ (p : ℕ → Bool) where
  -- One that fails the test changes nothing.
  pub none_found_more : (k : ℕ) → find p (below k) ≡ None → p k ≡ false → find p (below (k + 1)) ≡ None
  none_found_more k before fails =
      ap (λ n. find p (below n)) (add-one k) ∙ find-append p (below k) (k ∷ []) ∙ ap (λ o. option_or o (find p (k ∷ []))) before ∙ ap (λ t. cond t (Some k) None) fails

  -- The least that passes is found.
  pub found : (n k : ℕ) → k < n → find p (below k) ≡ None → p k ≡ true → find p (below n) ≡ Some k
  found zero k less before passes = absurd (omega arith)
  found (suc n) k less before passes = find-append p (below n) (n ∷ []) ∙ go (λ h. found n k h before passes) (eqb_tells k n)
    where
      go : (k < n → find p (below n) ≡ Some k) → (((k == n) ≡ true) × (k ≡ n)) ⊎ (((k == n) ≡ false) × (k ≢ n)) → option_or (find p (below n)) (find p (n ∷ [])) ≡ Some k
      go earlier (inl same) =
          ap (λ i. option_or (find p (below i)) (find p (i ∷ []))) (sym same.1)
          ∙ ap (λ o. option_or o (find p (k ∷ []))) before ∙ ap (λ t. cond t (Some k) None) passes
      go earlier (inr other) = ap (λ o. option_or o (find p (n ∷ []))) (earlier (let ne = other.1 in omega arith))

-- The earliest of traps and one more.
earliest_one_more : (ts : List Trapped) (t : Trapped) → earliest (ts ++ t ∷ []) ≡ earlier_of (earliest ts) (Some t)
earliest_one_more [] t = refl
earliest_one_more (first ∷ ts) t = ap (λ (x : Trapped). Some x) (fold-append (λ (b x : Trapped). cond (is_earlier x b) x b) first ts (t ∷ []))

none_earlier : (o : Option Trapped) → earlier_of o None ≡ o
none_earlier None = refl
none_earlier (Some t) = refl

-- The earliest up to one more nodelet.
pub earliest_more : (f : ℕ → Option Trapped) (k : ℕ) → earliest (filter_map f (below (k + 1))) ≡ earlier_of (earliest (filter_map f (below k))) (f k)
earliest_more f k =
    ap (λ n. earliest (filter_map f (below n))) (add-one k) ∙ ap earliest (filter_map-append f (below k) (k ∷ [])) ∙ go (f k)
  where
    go : (o : Option Trapped) → earliest (filter_map f (below k) ++ cons_option o []) ≡ earlier_of (earliest (filter_map f (below k))) o
    go None = ap earliest (append-nil (filter_map f (below k))) ∙ sym (none_earlier (earliest (filter_map f (below k))))
    go (Some t) = earliest_one_more (filter_map f (below k)) t

-- A nodelet lacks a turn where the code finds it so.
lacking_contexts : (code : Code) (xs : List carried.Context) → (u : Setup) → u.code ≡ code → list_any (stands_at_turn u) (map (context_in code) xs) ≡ list_any (is_at_turn code) xs
lacking_contexts code [] u same = refl
lacking_contexts code (x ∷ xs) u same =
    ap (λ b. stands_at_turn u (context_in code x) || b) (lacking_contexts code xs u same)
    ∙ ap (λ c. is_turn (action_in (step c (state_of code x.frames))) || list_any (is_at_turn code) xs) same

pub lacks_there : (code : Code) (kept : Kept) (k : ℕ) (v : Nodelet) → slice_get kept.nodes.items k ≡ Some v →
    lacks_turn_at (setup_in code kept) (node_of code v) ≡ (list_any (is_at_turn code) (carried_at v) && not (nat_lt v.counts.turns v.turns))
lacks_there code kept k v there =
    ap (λ b. b && not (nat_lt v.counts.turns kept.turns)) (lacking_contexts code (carried_at v) (setup_in code kept) refl)
    ∙ ap (λ n. list_any (is_at_turn code) (carried_at v) && not (nat_lt v.counts.turns n)) (sym (numbered_there code kept k v there).turns_same)
