-- What a core and a world keep to each other.
use Rattle.std.proofs.Common.{◌≡◌, ℕ, ◌+◌, ◌≤◌, ◌⊎◌, List, [], ◌∷◌, length, Option, Some, None, false, ℤ}
use Rattle.std.specs.Prelude.{if◌then◌else◌, ◌==◌, ◌&&◌, slice_get}
use Rattle.word_ops.specs.declared.place.Pos.{Pos}
use Rattle.word_ops.specs.declared.name.Name.{Name}
use Rattle.word_ops.specs.declared.ticket.Ticket.{Ticket}
use Rattle.world_model.specs.Action.{Action, Sync}
use Rattle.world_model.specs.Sight.{Sight, is_bad, place_after}
use Rattle.world_model.specs.World.{main_name, is_empty, Item, Status, Live, Ended, Trapped, Strand, World, strand_of, children_at, value_in}
use Rattle.world_model.proofs.Bounds.{AllWithin}
use Rattle.threadlet_code.specs.Running.{due}
use Rattle.core_model.specs.Contexts.{Context}
use Rattle.core_model.specs.Nodes.{Setup}
use Rattle.core_model.specs.Runs.{action_in}
use Rattle.core_model.specs.Core.{Core}
use Rattle.core_model.specs.Agreement.{SharesAll}
use Rattle.core_model.specs.Laws.{KeepsMainValue}
use Rattle.core_model.proofs.Invariant.Sums.{total}
use Rattle.core_model.proofs.Invariant.LatePositions.{all_lates}
use Rattle.core_model.proofs.Invariant.Links.{parts}
use Rattle.core_model.proofs.Invariant.Views.{View, view, result_of}
use Rattle.core_model.proofs.Invariant.StrandStates.{IsStateOf}

-- ---- one strand

-- where a context is: at a nodelet, or on a link
pub data Spot : Type 0 where
  At : ℕ → Spot
  OnLink : ℕ → ℕ → Spot

abbrev pub stands_by : Spot → Context → ℕ → Option Context
stands_by (At k) x j = if j == k then Some x else None
stands_by (OnLink o k) x j = None

abbrev pub travels_by : Spot → Context → ℕ → ℕ → List Context
travels_by (At k) x a b = []
travels_by (OnLink o k) x a b = if a == o && b == k then x ∷ [] else []

-- what is pending of a strand is on the links from its place, and what is acknowledged on those to it; its place
-- counts both as under way, and no other nodelet counts any
pub record Parcels (n : ℕ) (v : View) (place : ℕ) (pending : ℕ → List Item) : Type 0 where
  pub items : (a b : ℕ) → v.items a b ≡ (if a == place then pending b else [])
  pub acks : (a b : ℕ) → (b == place) ≡ false → v.acks a b ≡ []
  pub counted : v.under_way place ≡ total n (λ b. length (pending b) + length (v.acks b place))
  pub uncounted : (a : ℕ) → (a == place) ≡ false → v.under_way a ≡ 0
  pub beyond : (b : ℕ) → n ≤ b → (pending b ≡ []) × (v.acks b place ≡ [])

-- a context is at k, or on its way there, for an action that must be done at k
pub record IsAway (u : Setup) (v : View) (s : Strand) (x : Context) (k : ℕ) : Type 0 where
  pub clear : v.under_way s.place ≡ 0
  pub late : s.late ≡ None
  pub action : Action
  pub next : action_in (due u.code x.state) ≡ Some action
  pub good : is_bad u.nodelets action ≡ false
  pub joins : (d : ℕ) → action ≡ Sync d → is_empty (children_at d s.children) ≡ false
  pub goes : (y : Sight) → y.home ≡ s.home → (y.here ≡ s.place) ⊎ (y.here ≡ k) → ((d : ℕ) → action ≡ Sync d → y.childless d ≡ false) → place_after u.nodelets y action ≡ k

abbrev pub IsBound : Setup → View → Strand → Context → Spot → Type 0
IsBound u v s x (At k) = (s.place ≡ k) ⊎ IsAway u v s x k
IsBound u v s x (OnLink o k) = (v.under_way s.place ≡ 0) × (x.late ≡ None) × ((s.place ≡ k) ⊎ IsAway u v s x k)

-- a strand's late position is the least of its context's and of those that come to its place
abbrev pub latest : ℕ → View → Strand → Context → Option Pos
latest n v s x = all_lates n (λ b. v.acks b s.place) x.late

-- the one context of a live strand
pub record Lives (u : Setup) (T : Name → Option Ticket) (v : View) (q : Name) (s : Strand) : Type 0 where
  pub x : Context
  pub spot : Spot
  pub stands : (j : ℕ) → v.stands j ≡ stands_by spot x j
  pub travels : (a b : ℕ) → v.travels a b ≡ travels_by spot x a b
  pub name : x.name ≡ q
  pub home : x.home ≡ s.home
  pub place : x.place ≡ s.place
  pub ticket : x.ticket ≡ T q
  pub state : IsStateOf u.code s x.state
  pub late : s.late ≡ latest u.nodelets v s x
  pub bound : IsBound u v s x spot

-- no context
pub record IsGone (v : View) : Type 0 where
  pub stands : (j : ℕ) → v.stands j ≡ None
  pub travels : (a b : ℕ) → v.travels a b ≡ []

abbrev pub ByStatus : Setup → (Name → Option Ticket) → View → Name → Strand → Status → Type 0
ByStatus u T v q s Live = Lives u T v q s
ByStatus u T v q s (Ended value) = IsGone v
ByStatus u T v q s (Trapped kind at) = IsGone v

-- nothing at all
pub record IsNothing (v : View) : Type 0 where
  pub gone : IsGone v
  pub items : (a b : ℕ) → v.items a b ≡ []
  pub acks : (a b : ℕ) → v.acks a b ≡ []
  pub under_way : (a : ℕ) → v.under_way a ≡ 0

-- what a core holds of a name, where the world has this strand of the name, or none
abbrev pub Known : Setup → (Name → Option Ticket) → View → Name → Option Strand → Type 0
Known u T v q None = IsNothing v
Known u T v q (Some s) = Parcels u.nodelets v s.place s.pending × ByStatus u T v q s s.status

-- ---- parents and children

pub record Relative : Type 0 where
  pub home : ℕ
  pub children : List (ℕ × Name)
  pub status : Status

abbrev pub relative_of : Strand → Relative
relative_of s = record { home = s.home; children = s.children; status = s.status }

abbrev pub relative : Option Strand → Option Relative
relative None = None
relative (Some s) = Some (relative_of s)

abbrev pub result_by : Option Relative → Option ℤ
result_by None = None
result_by (Some r) = value_in r.status

abbrev pub promise : (Name → Option Relative) → Option Name → Option ℤ
promise F None = None
promise F (Some child) = result_by (F child)

-- the value is kept, or in one packet on its way, or there is none yet
abbrev pub IsGiven : Option ℤ → (ℕ → List ℤ) → Option ℤ → Type 0
IsGiven kept sent None = (kept ≡ None) × ((a : ℕ) → sent a ≡ [])
IsGiven kept sent (Some value) =
    ((kept ≡ Some value) × ((a : ℕ) → sent a ≡ []))
    ⊎ ((kept ≡ None) × ((o : ℕ) × (sent o ≡ value ∷ []) × ((a : ℕ) → (a == o) ≡ false → sent a ≡ [])))

abbrev pub ticket_at : Name → ℕ → ℕ → ℕ → Ticket
ticket_at parent home depth order = record { parent = parent; home = home; depth = depth; order = order }

abbrev pub Results : Type 0
Results = ℕ → Name → ℕ → ℕ → Option ℤ

abbrev pub Returns : Type 0
Returns = ℕ → ℕ → Name → ℕ → ℕ → List ℤ

-- R k p d o is what nodelet k keeps for order o at depth d of p, and D a b p d o what the link from a to b holds
pub record Kin (T : Name → Option Ticket) (R : Results) (D : Returns) (F : Name → Option Relative) : Type 0 where
  pub given : (p : Name) (r : Relative) → F p ≡ Some r → (d o : ℕ) → IsGiven (R r.home p d o) (λ a. D a r.home p d o) (promise F (slice_get (children_at d r.children) o))
  pub elsewhere : (p : Name) (r : Relative) → F p ≡ Some r → (k : ℕ) → (k == r.home) ≡ false → (d o : ℕ) → (R k p d o ≡ None) × ((a : ℕ) → D a k p d o ≡ [])
  pub stranger : (p : Name) → F p ≡ None → (k d o : ℕ) → (R k p d o ≡ None) × ((a : ℕ) → D a k p d o ≡ [])
  pub child : (p : Name) (r : Relative) → F p ≡ Some r → (d o : ℕ) (c : Name) → slice_get (children_at d r.children) o ≡ Some c → T c ≡ Some (ticket_at p r.home d o)
  pub exists : (p : Name) (r : Relative) → F p ≡ Some r → (d o : ℕ) (c : Name) → slice_get (children_at d r.children) o ≡ Some c → (t : Relative) × (F c ≡ Some t)
  pub ticket : (c : Name) (t : Relative) (k : Ticket) → F c ≡ Some t → t.status ≡ Live → T c ≡ Some k →
      (r : Relative) × (F k.parent ≡ Some r) × (k.home ≡ r.home) × (slice_get (children_at k.depth r.children) k.order ≡ Some c)

abbrev pub results_in : Core → Results
results_in c k = (c.nodes k).results

abbrev pub returns_in : Core → Returns
returns_in c a b p d o = parts (result_of p d o) (c.links a b)

abbrev pub relatives_in : World → Name → Option Relative
relatives_in w q = relative (strand_of w q)

-- ---- all

-- a number that its nodelet has not given is no strand's
pub record IsFresh (c : Core) (w : World) : Type 0 where
  pub free : (q : Name) → (c.nodes q.nodelet).next_number ≤ q.number → strand_of w q ≡ None
  -- main's is given
  pub begun : 1 ≤ (c.nodes 0).next_number

-- only strands of main's name have no ticket
abbrev pub Orphans : (Name → Option Ticket) → World → Type 0
Orphans T w = (q : Name) (s : Strand) → strand_of w q ≡ Some s → T q ≡ None → q ≡ main_name

pub record Invariant (u : Setup) (c : Core) (w : World) : Type 0 where
  pub shares : SharesAll u c w
  pub within : AllWithin u.nodelets w
  pub tickets : Name → Option Ticket
  pub each : (q : Name) → Known u tickets (view c q) q (strand_of w q)
  pub kin : Kin tickets (results_in c) (returns_in c) (relatives_in w)
  pub fresh : IsFresh c w
  pub orphans : Orphans tickets w
  pub main_ticket : tickets main_name ≡ None
  pub main_value : KeepsMainValue u c w
