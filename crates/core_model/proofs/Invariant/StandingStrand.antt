-- A strand whose context stands at a nodelet.
use Rattle.std.proofs.Common.{◌≡◌, ℕ, ◌+◌, ◌<◌, ◌⊎◌, List, [], ◌∷◌, length, Option, Some, None, refl, sym, ap, ◌∙◌, subst, arith, Bool, true, false, ⊎_elim}
use Rattle.std.specs.Prelude.{if◌then◌else◌, ◌==◌}
use Rattle.std.proofs.lemmas.Bool.{cases_lt, eqb-true}
use Rattle.word_ops.specs.declared.name.Name.{Name}
use Rattle.word_ops.specs.declared.ticket.Ticket.{Ticket}
use Rattle.world_model.specs.World.{Item, Status, Live, Ended, Trapped, Strand}
use Rattle.core_model.specs.Contexts.{Context}
use Rattle.core_model.specs.Nodes.{Setup}
use Rattle.core_model.proofs.Invariant.Sums.{total-none, total-zero}
use Rattle.core_model.proofs.Invariant.Views.{View}
use Rattle.core_model.proofs.Invariant.StrandStates.{IsStateOf}
use Rattle.core_model.proofs.Invariant.Statement.{Spot, At, OnLink, stands_by, travels_by, latest, Parcels, IsAway, IsBound, Lives, ByStatus, Known}

pub record Stands (u : Setup) (T : Name → Option Ticket) (v : View) (q : Name) (s : Strand) (k : ℕ) (x : Context) : Type 0 where
  pub live : s.status ≡ Live
  pub parcels : Parcels u.nodelets v s.place s.pending
  pub stands : (j : ℕ) → v.stands j ≡ (if j == k then Some x else None)
  pub travels : (a b : ℕ) → v.travels a b ≡ []
  pub name : x.name ≡ q
  pub home : x.home ≡ s.home
  pub place : x.place ≡ s.place
  pub ticket : x.ticket ≡ T q
  pub state : IsStateOf u.code s x.state
  pub late : s.late ≡ latest u.nodelets v s x
  pub bound : (s.place ≡ k) ⊎ IsAway u v s x k

-- the strand that the world has of it
pub record Present (u : Setup) (T : Name → Option Ticket) (v : View) (q : Name) (o : Option Strand) (k : ℕ) (x : Context) : Type 0 where
  pub s : Strand
  pub known : o ≡ Some s
  pub here : Stands u T v q s k x

none_some : {A B : Type 0} (x : A) → None ≡ Some x → B
none_some x h = absurd cc

same_context : (a b : Context) → Some a ≡ Some b → a ≡ b
same_context a b h = cc

module _ (u : Setup) (T : Name → Option Ticket) where
  at_spot : (v : View) (q : Name) (s : Strand) (k : ℕ) (x : Context) → Parcels u.nodelets v s.place s.pending → s.status ≡ Live → v.stands k ≡ Some x →
      (l : Lives u T v q s) → (p : Spot) → l.spot ≡ p → Present u T v q (Some s) k x
  at_spot v q s k x parcels live is l (OnLink o d) e = none_some x (sym (l.stands k ∙ ap (λ p. stands_by p l.x k) e) ∙ is)
  at_spot v q s k x parcels live is l (At j) e = go (k == j) refl
    where
      stands : (h : ℕ) → v.stands h ≡ stands_by (At j) l.x h
      stands h = l.stands h ∙ ap (λ p. stands_by p l.x h) e

      go : (b : Bool) → (k == j) ≡ b → Present u T v q (Some s) k x
      go false f = none_some x (sym (stands k ∙ ap (λ b. if b then Some l.x else None) f) ∙ is)
      go true f =
          let kj : j ≡ k = sym (eqb-true k j f) in
          let xx : l.x ≡ x = same_context l.x x (sym (stands k ∙ ap (λ b. if b then Some l.x else None) f) ∙ is) in
          record {
            s = s;
            known = refl;
            here = record {
              live = live;
              parcels = parcels;
              stands = λ h. stands h ∙ ap (λ m. stands_by (At m) l.x h) kj ∙ ap (λ y. stands_by (At k) y h) xx;
              travels = λ a b. l.travels a b ∙ ap (λ p. travels_by p l.x a b) e;
              name = subst (λ (y : Context). y.name ≡ q) xx l.name;
              home = subst (λ (y : Context). y.home ≡ s.home) xx l.home;
              place = subst (λ (y : Context). y.place ≡ s.place) xx l.place;
              ticket = subst (λ (y : Context). y.ticket ≡ T q) xx l.ticket;
              state = subst (λ (y : Context). IsStateOf u.code s y.state) xx l.state;
              late = subst (λ (y : Context). s.late ≡ latest u.nodelets v s y) xx l.late;
              bound = subst (λ (y : Context). (s.place ≡ k) ⊎ IsAway u v s y k) xx
                  (subst (λ (m : ℕ). (s.place ≡ m) ⊎ IsAway u v s l.x m) kj (subst (λ (p : Spot). IsBound u v s l.x p) e l.bound));
            };
          }

  -- a context that stands at a nodelet is that of a live strand
  pub present : (v : View) (q : Name) (o : Option Strand) (k : ℕ) (x : Context) → Known u T v q o → v.stands k ≡ Some x → Present u T v q o k x
  present v q None k x known is = none_some x (sym (known.gone.stands k) ∙ is)
  present v q (Some s) k x known is = by s.status refl known.1
    where
      by : (t : Status) → s.status ≡ t → ByStatus u T v q s t → Present u T v q (Some s) k x
      by Live live l = at_spot v q s k x known.0 live is l l.spot refl
      by (Ended value) e g = none_some x (sym (g.stands k) ∙ is)
      by (Trapped kind pos) e g = none_some x (sym (g.stands k) ∙ is)

  -- and back
  pub stands-known : (v : View) (q : Name) (s : Strand) (k : ℕ) (x : Context) → Stands u T v q s k x → Known u T v q (Some s)
  stands-known v q s k x h = (
    h.parcels,
    subst (λ (t : Status). ByStatus u T v q s t) (sym h.live) (record {
      x = x;
      spot = At k;
      stands = h.stands;
      travels = h.travels;
      name = h.name;
      home = h.home;
      place = h.place;
      ticket = h.ticket;
      state = h.state;
      late = h.late;
      bound = h.bound;
    }),
  )

-- ---- nothing under way

pub no_length : {A : Type 0} (l : List A) → length l ≡ 0 → l ≡ []
no_length [] h = refl
no_length (y ∷ l) h = absurd (omega arith)

pub record Quiet (v : View) (pending : ℕ → List Item) : Type 0 where
  pub pending_none : (b : ℕ) → pending b ≡ []
  pub acks : (a b : ℕ) → v.acks a b ≡ []
  pub under_way : (a : ℕ) → v.under_way a ≡ 0

-- where nothing is counted nothing is pending or on its way
pub quiet : (n : ℕ) (v : View) (p : ℕ) (pending : ℕ → List Item) → Parcels n v p pending → v.under_way p ≡ 0 → Quiet v pending
quiet n v p pending h z = record {
  pending_none = λ b. ⊎_elim (λ lt. no_length (pending b) (let t = none b lt in omega arith)) (λ le. (h.beyond b le).0) (cases_lt b n);
  acks = λ a b. go a b (b == p) refl;
  under_way = λ a. count a (a == p) refl;
}
  where
    none : (b : ℕ) → b < n → length (pending b) + length (v.acks b p) ≡ 0
    none b lt = total-none n (λ c. length (pending c) + length (v.acks c p)) (sym h.counted ∙ z) b lt

    here : (a : ℕ) → v.acks a p ≡ []
    here a = ⊎_elim (λ lt. no_length (v.acks a p) (let t = none a lt in omega arith)) (λ le. (h.beyond a le).1) (cases_lt a n)

    go : (a b : ℕ) (t : Bool) → (b == p) ≡ t → v.acks a b ≡ []
    go a b false f = h.acks a b f
    go a b true f = ap (v.acks a) (eqb-true b p f) ∙ here a

    count : (a : ℕ) (t : Bool) → (a == p) ≡ t → v.under_way a ≡ 0
    count a false f = h.uncounted a f
    count a true f = ap v.under_way (eqb-true a p f) ∙ z

-- a strand with nothing under way may be anywhere
pub moved : (n : ℕ) (v : View) (p : ℕ) (pending : ℕ → List Item) → Parcels n v p pending → v.under_way p ≡ 0 → (k : ℕ) → Parcels n v k pending
moved n v p pending h z k = record {
  items = λ a b. none a b (a == p) ∙ sym (nothing (a == k) b);
  acks = λ a b f. still.acks a b;
  counted = still.under_way k ∙ sym (total-zero n _ (λ b. let g = ap length (still.pending_none b) in let g' = ap length (still.acks b k) in omega arith));
  uncounted = λ a f. still.under_way a;
  beyond = λ b le. (still.pending_none b, still.acks b k);
}
  where
    still : Quiet v pending
    still = quiet n v p pending h z

    nothing : (t : Bool) (b : ℕ) → (if t then pending b else []) ≡ []
    nothing true b = still.pending_none b
    nothing false b = refl

    none : (a b : ℕ) (t : Bool) → v.items a b ≡ []
    none a b t = h.items a b ∙ nothing (a == p) b
