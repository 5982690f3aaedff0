-- What is ready at a nodelet is ready in the world.
use Rattle.std.proofs.Common.{◌≡◌, ℕ, ◌⊎◌, inl, inr, refl, sym, ap, ◌∙◌, arith, Bool, true, false, not, ◌&&◌, ◌||◌, ⊎_elim, nat_lt, is_some, ℤ, ◌-◌, ◌/◌, ◌%◌, ◌^◌, nat_le}
use Rattle.std.specs.Prelude.{if◌then◌else◌, ◌==◌}
use Rattle.std.proofs.lemmas.Bool.{eq-eqb}
use Rattle.std.proofs.lemmas.Bool.Decides.{eqb_tells}
use Rattle.data_layout.specs.Address.{view_of, offset_of, owner_of}
use Rattle.world_model.specs.Action.{Action, Turn, Load, Issue, Fetch, Init, Fence, Move, Where, Print, Alloc, Spawn, Sync, End, Trap, Request, Striped, Blocked, Local, Replicated}
use Rattle.world_model.specs.Allocation.{server_of}
use Rattle.world_model.specs.Sight.{Sight, place_after, can_act, can_sync, is_leaving, stays}

-- what a nodelet sees, and what the world sees of the same strand in the same place
pub record Sees (c w : Sight) : Type 0 where
  pub here : c.here ≡ w.here
  pub home : c.home ≡ w.home
  pub served : c.served ≡ w.served
  pub clear : c.clear ≡ true → w.clear ≡ true
  pub childless : (d : ℕ) → c.childless d ≡ w.childless d
  pub ended : c.here ≡ c.home → (d : ℕ) → c.all_ended d ≡ true → w.all_ended d ≡ true
  pub late : c.clear ≡ true → c.late ≡ w.late

or_either : (a b : Bool) → (a || b) ≡ true → (a ≡ true) ⊎ (b ≡ true)
or_either true b e = inl refl
or_either false b e = inr e

pub or_left : (a b : Bool) → a ≡ true → (a || b) ≡ true
or_left a b e = rw e refl

pub or_right : (a b : Bool) → b ≡ true → (a || b) ≡ true
or_right true b e = refl
or_right false b e = e

pub both_true : (a b : Bool) → (a && b) ≡ true → (a ≡ true) × (b ≡ true)
both_true true b e = (refl, e)
both_true false b e = absurd cc

pub and_true_from : (a b : Bool) → a ≡ true → b ≡ true → (a && b) ≡ true
and_true_from a b e f = rw (e, f) refl

pub not_both : {A : Type 0} (b : Bool) → b ≡ true → b ≡ false → A
not_both b e f = absurd (let z : true ≡ false = sym e ∙ f in cc)

pub place_after-same : (n : ℕ) (c w : Sight) → Sees c w → (a : Action) → place_after n c a ≡ place_after n w a
place_after-same n c w s (Load at a) = ap (λ h. owner_of a h n) s.here
place_after-same n c w s (Fetch at f a) = ap (λ h. owner_of a h n) s.here
place_after-same n c w s (Move at a) = ap (λ h. owner_of a h n) s.here
place_after-same n c w s (Print bytes) = refl
place_after-same n c w s (Alloc request) = ap (λ h. server_of n h request) s.here
place_after-same n c w s (Sync d) = ap (λ b. if b then c.here else c.home) (s.childless d) ∙ ap (λ h. if w.childless d then h else c.home) s.here ∙ ap (λ h. if w.childless d then w.here else h) s.home
place_after-same n c w s Turn = s.here
place_after-same n c w s (Issue at op a v) = s.here
place_after-same n c w s (Init at a v) = s.here
place_after-same n c w s Fence = s.here
place_after-same n c w s Where = s.here
place_after-same n c w s (Spawn d f args hint) = s.here
place_after-same n c w s (End v) = s.here
place_after-same n c w s (Trap at kind) = s.here

-- an action that stays needs no more in the world than at the nodelet
stays_in : (n : ℕ) (c w : Sight) → Sees c w → (a : Action) → place_after n c a ≡ c.here → stays n w a ≡ true
stays_in n c w s a e = eq-eqb _ _ (sym (place_after-same n c w s a) ∙ e ∙ s.here)

sync_same : (c w : Sight) → Sees c w → (d : ℕ) (b : Bool) → c.childless d ≡ b → (if b then c.here else c.home) ≡ c.here →
    (b || (c.all_ended d && (c.here == c.home || c.clear)) || (c.clear && is_some c.late && not (c.here == c.home))) ≡ true → can_sync w d ≡ true
sync_same c w s d true e g r = or_left _ _ (or_left _ _ (sym (s.childless d) ∙ e))
sync_same c w s d false e g r =
    let at_home : (c.here == c.home) ≡ true = eq-eqb _ _ (sym g) in
    let world_home : (w.here == w.home) ≡ true = eq-eqb _ _ (sym s.here ∙ sym g ∙ s.home) in
    ⊎_elim
    (λ l. let ends : w.all_ended d ≡ true = s.ended (sym g) d (both_true _ _ l).0 in
    or_left _ _ (or_right (w.childless d) _ (and_true_from _ _ ends (or_left _ _ world_home))))
    (λ l. let away : not (c.here == c.home) ≡ true = (both_true _ _ l).1 in absurd (let f : false ≡ true = ap not (sym at_home) ∙ away in cc))
    (or_either (c.all_ended d && (c.here == c.home || c.clear)) (c.clear && is_some c.late && not (c.here == c.home)) r)

pub can_act-same : (n turns : ℕ) (c w : Sight) → Sees c w → (a : Action) → place_after n c a ≡ c.here → can_act n turns c a ≡ true → can_act n turns w a ≡ true
can_act-same n turns c w s Turn g r = ap (λ k. nat_lt k turns) (sym s.served) ∙ r
can_act-same n turns c w s Fence g r = s.clear r
can_act-same n turns c w s (Spawn d f args hint) g r = s.clear r
can_act-same n turns c w s (End v) g r = s.clear r
can_act-same n turns c w s (Sync d) g r = sync_same c w s d (c.childless d) refl g r
can_act-same n turns c w s (Issue at op a v) g r = refl
can_act-same n turns c w s (Init at a v) g r = refl
can_act-same n turns c w s Where g r = refl
can_act-same n turns c w s (Trap at kind) g r = refl
can_act-same n turns c w s (Load at a) g r = or_left _ _ (stays_in n c w s (Load at a) g)
can_act-same n turns c w s (Fetch at f a) g r = or_left _ _ (stays_in n c w s (Fetch at f a) g)
can_act-same n turns c w s (Move at a) g r = or_left _ _ (stays_in n c w s (Move at a) g)
can_act-same n turns c w s (Print bytes) g r = or_left _ _ (stays_in n c w s (Print bytes) g)
can_act-same n turns c w s (Alloc request) g r = or_left _ _ (stays_in n c w s (Alloc request) g)

-- an action that leaves does so in both
pub is_leaving-same : (n : ℕ) (c w : Sight) → Sees c w → (a : Action) → is_leaving n c a ≡ is_leaving n w a
is_leaving-same n c w s a = by a
  where
    moves : (b : Action) → not (stays n c b) ≡ not (stays n w b)
    moves b = ap (λ k. not (k == c.here)) (place_after-same n c w s b) ∙ ap (λ k. not (place_after n w b == k)) s.here

    by : (b : Action) → is_leaving n c b ≡ is_leaving n w b
    by Fence = refl
    by (Spawn d f args hint) = refl
    by (End v) = refl
    by Turn = moves Turn
    by (Load at b) = moves (Load at b)
    by (Issue at op b v) = moves (Issue at op b v)
    by (Fetch at f b) = moves (Fetch at f b)
    by (Init at b v) = moves (Init at b v)
    by (Move at b) = moves (Move at b)
    by Where = moves Where
    by (Print bytes) = moves (Print bytes)
    by (Alloc request) = moves (Alloc request)
    by (Sync d) = moves (Sync d)
    by (Trap at kind) = moves (Trap at kind)

-- ---- actions that move

pub never_same : {A : Type 0} (h : ℕ) → (h == h) ≡ false → A
never_same h f = not_both (h == h) (eq-eqb h h refl) f

-- with nothing under way a late strand's action that moves is ready
pub moves_ready : (n turns : ℕ) (c : Sight) (a : Action) → c.clear ≡ true → is_some c.late ≡ true → (place_after n c a == c.here) ≡ false → can_act n turns c a ≡ true
moves_ready n turns c Turn clear late ne = never_same c.here ne
moves_ready n turns c Fence clear late ne = clear
moves_ready n turns c (Spawn d f args hint) clear late ne = clear
moves_ready n turns c (End v) clear late ne = clear
moves_ready n turns c (Issue at op a v) clear late ne = refl
moves_ready n turns c (Init at a v) clear late ne = refl
moves_ready n turns c Where clear late ne = refl
moves_ready n turns c (Trap at kind) clear late ne = refl
moves_ready n turns c (Sync d) clear late ne = go (c.childless d) ne
  where
    away : (t : Bool) → (c.home == c.here) ≡ t → t ≡ false → not (c.here == c.home) ≡ true
    away t e f = let g : (c.here == c.home) ≡ false = grind (arith, eqb_tells) in rw g refl

    go : (b : Bool) → ((if b then c.here else c.home) == c.here) ≡ false → (b || (c.all_ended d && (c.here == c.home || c.clear)) || (c.clear && is_some c.late && not (c.here == c.home))) ≡ true
    go true f = refl
    go false f = or_right (c.all_ended d && (c.here == c.home || c.clear)) _ (and_true_from (c.clear && is_some c.late) _ (and_true_from _ _ clear late) (away (c.home == c.here) refl f))
moves_ready n turns c (Load at a) clear late ne = or_right (stays n c (Load at a)) _ clear
moves_ready n turns c (Fetch at f a) clear late ne = or_right (stays n c (Fetch at f a)) _ clear
moves_ready n turns c (Move at a) clear late ne = or_right (stays n c (Move at a)) _ clear
moves_ready n turns c (Print bytes) clear late ne = or_right (stays n c (Print bytes)) _ clear
moves_ready n turns c (Alloc request) clear late ne = or_right (stays n c (Alloc request)) _ clear

-- the owner of a word is the same for all strands, or for each its place
pub owner_of-fixed : (a : ℤ) (p r n : ℕ) → (owner_of a p n == p) ≡ false → owner_of a r n ≡ owner_of a p n
owner_of-fixed a p r n ne = go (nat_le (view_of a) 20) (view_of a == 31) ne
  where
    go : (x y : Bool) → ((if x then offset_of a / 2 ^ view_of a % n else (if y then p else view_of a - 32)) == p) ≡ false →
        (if x then offset_of a / 2 ^ view_of a % n else (if y then r else view_of a - 32)) ≡ (if x then offset_of a / 2 ^ view_of a % n else (if y then p else view_of a - 32))
    go true y f = refl
    go false true f = never_same p f
    go false false f = refl

server_of-fixed : (request : Request) (p r n : ℕ) → (server_of n p request == p) ≡ false → server_of n r request ≡ server_of n p request
server_of-fixed (Local at words a) p r n ne = owner_of-fixed a p r n ne
server_of-fixed (Striped words) p r n ne = refl
server_of-fixed (Blocked blocks words) p r n ne = refl
server_of-fixed (Replicated words) p r n ne = refl

-- an action that must be done elsewhere must be done there wherever it is looked at from
pub goes_fixed : (n : ℕ) (c y : Sight) (a : Action) → (place_after n c a == c.here) ≡ false → y.home ≡ c.home → ((d : ℕ) → a ≡ Sync d → y.childless d ≡ false) → place_after n y a ≡ place_after n c a
goes_fixed n c y (Load at a) ne e h = owner_of-fixed a c.here y.here n ne
goes_fixed n c y (Fetch at f a) ne e h = owner_of-fixed a c.here y.here n ne
goes_fixed n c y (Move at a) ne e h = owner_of-fixed a c.here y.here n ne
goes_fixed n c y (Print bytes) ne e h = refl
goes_fixed n c y (Alloc request) ne e h = server_of-fixed request c.here y.here n ne
goes_fixed n c y (Sync d) ne e h = ap (λ b. if b then y.here else y.home) (h d refl) ∙ e ∙ go (c.childless d) ne
  where
    go : (b : Bool) → ((if b then c.here else c.home) == c.here) ≡ false → c.home ≡ (if b then c.here else c.home)
    go true f = never_same c.here f
    go false f = refl
goes_fixed n c y Turn ne e h = never_same c.here ne
goes_fixed n c y (Issue at op a v) ne e h = never_same c.here ne
goes_fixed n c y (Init at a v) ne e h = never_same c.here ne
goes_fixed n c y Fence ne e h = never_same c.here ne
goes_fixed n c y Where ne e h = never_same c.here ne
goes_fixed n c y (Spawn d f args hint) ne e h = never_same c.here ne
goes_fixed n c y (End v) ne e h = never_same c.here ne
goes_fixed n c y (Trap at kind) ne e h = never_same c.here ne
