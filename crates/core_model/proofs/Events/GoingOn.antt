-- Events go on where others have led, and the list of legal events has every one of them.
use Rattle.std.proofs.Common.{◌≡◌, ℕ, zero, suc, ◌<◌, List, [], ◌∷◌, ◌++◌, Option, Some, None, refl, sym, ap, ◌∙◌, subst, arith, Bool, true, false, map, filter, is_some, option_map, option_and_then, Contains, nat_lt, not, ◌&&◌}
use Rattle.std.specs.Prelude.{if◌then◌else◌, ◌==◌, cond}
use Rattle.std.proofs.lemmas.Bool.{eqb-true}
use Rattle.std.proofs.lemmas.Bool.Decides.{nat_tests, eqb_tells}
use Rattle.std.proofs.lemmas.List.Elements.{Contains-append_left, Contains-append_right}
use Rattle.word_ops.specs.Report.{below}
use Rattle.word_ops.specs.declared.name.Name.{Name}
use Rattle.word_ops.specs.Naming.{same_name}
use Rattle.merge_law.specs.declared.event.Event.{Event}
use Rattle.merge_law.specs.declared.event.Event.TheVariants.{Run, Take}
use Rattle.merge_law.specs.Core.{After, Played, after, told_first, play}
use Rattle.merge_law.proofs.Somes.{from_map, from_then, some_is}
use Rattle.world_model.proofs.Names.{same_name_is}
use Rattle.threadlet_code.specs.Running.{halt}
use Rattle.core_model.specs.Contexts.{Context, context_of}
use Rattle.core_model.specs.Nodes.{Setup, Node}
use Rattle.core_model.specs.Runs.{taken_up}
use Rattle.core_model.specs.Machine.{Packet, machine_of}
use Rattle.core_model.specs.Core.{Core, is_legal, runs_at, takes_at, legal_events}
use Rattle.core_model.specs.GoingOn.{EventsGoOn, EventGoesOn, LegalIsListed, NoneListedIsStill}
use Rattle.core_model.proofs.Census.LiveStrands.{contains-first, contains-later, contains-below}
use Rattle.core_model.proofs.Events.LegalEvent.{HasRun, HasTaken, happened}

-- ---- events that follow events

-- what was told before, and then this
abbrev with_told : Played Node Packet → Played Node Packet → Played Node Packet
with_told played rest = record { core = rest.core; told = played.told ++ rest.told }

play_on : (u : Setup) (events more : List Event) (c : Core) (played rest : Played Node Packet) → play (machine_of u) events c ≡ Some played →
    play (machine_of u) more played.core ≡ Some rest → play (machine_of u) (events ++ more) c ≡ Some (with_told played rest)
play_on u [] more c played rest e f =
    subst (λ (y : Played Node Packet). play (machine_of u) more y.core ≡ Some rest → play (machine_of u) more c ≡ Some (with_told y rest)) (some_is _ _ e) (λ g. g) f
play_on u (event ∷ events) more c played rest e f =
    let first = from_then (λ (a : After Node Packet). option_map (told_first a.entry) (play (machine_of u) events a.core)) (after (machine_of u) c event) played e in
    let later = from_map (told_first first.value.entry) (play (machine_of u) events first.value.core) played first.next in
    ap (option_and_then (λ (a : After Node Packet). option_map (told_first a.entry) (play (machine_of u) (events ++ more) a.core))) first.was
    ∙ ap (option_map (told_first first.value.entry)) (play_on u events more first.value.core later.value rest later.was
    (subst (λ (y : Played Node Packet). play (machine_of u) more y.core ≡ Some rest) (sym later.is) f))
    ∙ ap (λ (y : Played Node Packet). Some (with_told y rest)) later.is

pub events_go_on : EventsGoOn
events_go_on u c events more played rest e f = play_on u events more c played rest e f

pub event_goes_on : EventGoesOn
event_goes_on u c events played event left e f =
    play_on u events (event ∷ []) c played (record { core = left.core; told = left.entry ∷ [] }) e
    (ap (option_and_then (λ (a : After Node Packet). option_map (told_first a.entry) (play (machine_of u) [] a.core))) f)

-- ---- what lists contain

contains-filter : {A : Type 0} (p : A → Bool) (xs : List A) (x : A) → p x ≡ true → Contains xs x → Contains (filter p xs) x
contains-filter p [] x holds c = absurd (let z = c.1 in omega arith)
contains-filter {A} p (y ∷ ys) x holds (zero, less, e) = go (p y) refl
  where
    go : (t : Bool) → p y ≡ t → Contains (cond t (y ∷ filter p ys) (filter p ys)) x
    go true f = contains-first x y (filter p ys) e
    go false f = absurd (let z : true ≡ false = sym holds ∙ sym (ap p e) ∙ f in cc)
contains-filter {A} p (y ∷ ys) x holds (suc k, less, e) = go (p y) (contains-filter p ys x holds (k, omega arith, e))
  where
    go : (t : Bool) → Contains (filter p ys) x → Contains (cond t (y ∷ filter p ys) (filter p ys)) x
    go true ih = contains-later x y (filter p ys) ih
    go false ih = ih

-- a context's run is among those of all
runs-contain : (k : ℕ) (q : Name) (xs : List Context) (x : Context) → context_of q xs ≡ Some x → Contains (map (λ x. Run k x.name) xs) (Run k q)
runs-contain k q [] x e = absurd cc
runs-contain k q (y ∷ ys) x e = go (λ h. runs-contain k q ys x h) (same_name q y.name) refl e
  where
    go : (context_of q ys ≡ Some x → Contains (map (λ x. Run k x.name) ys) (Run k q)) → (t : Bool) → same_name q y.name ≡ t → (if t then Some y else context_of q ys) ≡ Some x →
        Contains (map (λ x. Run k x.name) (y ∷ ys)) (Run k q)
    go ih true f g = contains-first (Run k q) (Run k y.name) _ (ap (λ (r : Name). Run k r) (sym (same_name_is q y.name f)))
    go ih false f g = contains-later (Run k q) (Run k y.name) _ (ih g)

-- and a take from a nodelet is among those from n
takes-contain : (n from k : ℕ) → from < n → Contains (map (λ origin. Take origin k) (below n)) (Take from k)
takes-contain n from k less = mapped (below n) (among n from less)
  where
    among : (n from : ℕ) → from < n → Contains (below n) from
    among zero from less = absurd (omega arith)
    among (suc n) from less = go (λ h. among n from h) (from == n) refl
      where
        go : (from < n → Contains (below n) from) → (t : Bool) → (from == n) ≡ t → Contains (below n ++ n ∷ []) from
        go ih true e = Contains-append_right (below n) (n ∷ []) from (contains-first from n [] (sym (eqb-true _ _ e)))
        go ih false e = Contains-append_left (below n) (n ∷ []) from (ih (grind (arith, eqb_tells)))

    mapped : (xs : List ℕ) → Contains xs from → Contains (map (λ origin. Take origin k) xs) (Take from k)
    mapped [] c = absurd (let z = c.1 in omega arith)
    mapped (y ∷ ys) (zero, less, e) = contains-first (Take from k) (Take y k) _ (ap (λ o. Take o k) e)
    mapped (y ∷ ys) (suc j, less, e) = contains-later (Take from k) (Take y k) _ (mapped ys (j, omega arith, e))

-- ---- every legal event is listed

is_there : {A : Type 0} (o : Option A) → is_some o ≡ true → (a : A) × (o ≡ Some a)
is_there None e = absurd cc
is_there (Some a) e = (a, refl)

module _ (u : Setup) (c : Core) where
  listed_at : (k : ℕ) (event : Event) → k < u.nodelets → Contains (runs_at u c k ++ takes_at u c k) event → Contains (legal_events u c) event
  listed_at k event less h = contains-below (λ j. runs_at u c j ++ takes_at u c j) u.nodelets k event less h

  listed : (event : Event) → is_legal u c event ≡ true → Contains (legal_events u c) event
  listed (Run k q) legal =
      let a = is_there (after (machine_of u) c (Run k q)) legal in
      let h : HasRun u c k q a.0 = happened u c (Run k q) a.0 a.1 in
      let x = from_then (λ (x : Context). taken_up u k (c.nodes k) x (halt u.code x.state)) (context_of q (c.nodes k).contexts) h.raw h.made in
      listed_at k (Run k q) h.inside
      (Contains-append_left (runs_at u c k) (takes_at u c k) (Run k q) (contains-filter (is_legal u c) _ (Run k q) legal (runs-contain k q (c.nodes k).contexts x.value x.was)))
  listed (Take from k) legal =
      let a = is_there (after (machine_of u) c (Take from k)) legal in
      let h : HasTaken u c from k a.0 = happened u c (Take from k) a.0 a.1 in
      let ends = both (nat_lt from u.nodelets) refl (nat_lt k u.nodelets) refl (from == k) h.linked in
      listed_at k (Take from k) ends.1
      (Contains-append_right (runs_at u c k) (takes_at u c k) (Take from k) (contains-filter (is_legal u c) _ (Take from k) legal (takes-contain u.nodelets from k ends.0)))
    where
      both : (r : Bool) → nat_lt from u.nodelets ≡ r → (s : Bool) → nat_lt k u.nodelets ≡ s → (t : Bool) → (r && s && not t) ≡ true → (from < u.nodelets) × (k < u.nodelets)
      both true g true h t i = (grind (arith, nat_tests), grind (arith, nat_tests))
      both true g false h t i = absurd cc
      both false g s h t i = absurd cc

pub legal_is_listed : LegalIsListed
legal_is_listed u c event legal = listed u c event legal

pub none_listed_is_still : NoneListedIsStill
none_listed_is_still u c none event = go (after (machine_of u) c event) refl
  where
    go : (o : Option (After Node Packet)) → after (machine_of u) c event ≡ o → after (machine_of u) c event ≡ None
    go None e = e
    go (Some a) e = absurd (let h : Contains [] event = subst (λ (l : List Event). Contains l event) none (listed u c event (ap is_some e)) in let z = h.1 in omega arith)
