-- In a run, what a strand has pending at a nodelet are grants and operations on words that the nodelet owns.
use Rattle.std.proofs.Common.{◌≡◌, ℕ, List, [], ◌∷◌, ◌++◌, Option, Some, None, refl, sym, ap, ◌∙◌, Bool, true, false, ◌&&◌, not, ℤ, nat_lt}
use Rattle.std.specs.Prelude.{if◌then◌else◌, ◌==◌, ◌-◌, ◌/◌, ◌%◌, ◌^◌, nat_le}
use Rattle.std.specs.List.{list_all}
use Rattle.std.proofs.lemmas.Bool.{eqb-true, eq-eqb, not-false, not-true}
use Rattle.std.proofs.lemmas.List.Folds.{list_all-append}
use Rattle.word_ops.specs.declared.name.Name.{Name}
use Rattle.word_ops.specs.declared.place.Pos.{Pos}
use Rattle.mem_atomics.specs.declared.op.Op.{Op}
use Rattle.mem_atomics.specs.declared.op.Op.TheVariants.{Store}
use Rattle.data_layout.specs.Address.{view_of, offset_of, is_valid, owner_of}
use Rattle.world_model.specs.Action.{Action, Turn, Load, Issue, Fetch, Init, Fence, Move, Where, Print, Alloc, Spawn, Sync, End, Trap, Request, Striped, Blocked, Local, Replicated}
use Rattle.world_model.specs.Allocation.{server_of, taken_from}
use Rattle.world_model.specs.Sight.{is_bad}
use Rattle.world_model.specs.World.{Setting, Item, Operation, Grant, Extent, Strand, World}
use Rattle.world_model.specs.Laws.{left_by, announced, granted_by}
use Rattle.world_model.proofs.Bounds.{good_action}
use Rattle.world_model.proofs.Steps.{Applied}
use Rattle.core_model.proofs.Actions.Sights.{both_true, owner_of-fixed}
use Rattle.core_model.proofs.Packets.EachStrand.{IsKept}

abbrev pub is_owned : ℕ → ℕ → Item → Bool
is_owned n k (Operation op a word at) = is_valid a n && owner_of a k n == k
is_owned n k (Grant extent) = true

-- all that a strand has pending
abbrev pub Owned : ℕ → Name → Strand → Type 0
Owned n q s = (k : ℕ) → list_all (is_owned n k) (s.pending k) ≡ true

-- ---- owners

-- each nodelet owns a replicated word
owner_everywhere : (a : ℤ) (k n : ℕ) → view_of a ≡ 31 → owner_of a k n ≡ k
owner_everywhere a k n e = ap (λ view. if nat_le view 20 then offset_of a / 2 ^ view % n else (if view == 31 then k else view - 32)) e

-- ---- what an action leaves pending

-- an operation that is sent where it is owned
owned_one : (n k : ℕ) (op : Op) (a word : ℤ) (at : Pos) (t : Bool) → (t ≡ true → (is_valid a n ≡ true) × (owner_of a k n ≡ k)) →
    list_all (is_owned n k) (if t then Operation op a word at ∷ [] else []) ≡ true
owned_one n k op a word at false h = refl
owned_one n k op a word at true h =
    let own : (owner_of a k n == k) ≡ true = eq-eqb (owner_of a k n) k (h refl).1 in
    let valid : is_valid a n ≡ true = (h refl).0 in rw (valid, own) refl

owned_grants : (n k : ℕ) (request : Request) (o : Option Extent) (t : Bool) → list_all (is_owned n k) (if t then announced request o else []) ≡ true
owned_grants n k request o false = refl
owned_grants n k request None true = refl
owned_grants n k (Striped c) (Some extent) true = refl
owned_grants n k (Blocked b c) (Some extent) true = refl
owned_grants n k (Local at c a) (Some extent) true = refl
owned_grants n k (Replicated c) (Some extent) true = refl

left_owned : (u : Setting) (w : World) (s : Strand) (action : Action) → is_bad u.nodelets action ≡ false → (k : ℕ) → list_all (is_owned u.nodelets k) (left_by u w s action k) ≡ true
left_owned u w s (Issue at op a v) good k =
    owned_one u.nodelets k op a v at (k == owner && not (owner == s.place))
    (λ e. (
      not-false (is_valid a u.nodelets) good,
      let parts = both_true (k == owner) (not (owner == s.place)) e in
          let is : k ≡ owner = eqb-true k owner parts.0 in
          owner_of-fixed a s.place k u.nodelets (not-true (owner == s.place) parts.1) ∙ sym is,
    ))
  where
    owner : ℕ
    owner = owner_of a s.place u.nodelets
left_owned u w s (Init at a v) good k =
    owned_one u.nodelets k Store a v at (nat_lt k u.nodelets && not (k == s.place))
    (λ e. (replicated.0, owner_everywhere a k u.nodelets (eqb-true _ _ replicated.1)))
  where
    replicated : (is_valid a u.nodelets ≡ true) × ((view_of a == 31) ≡ true)
    replicated = both_true (is_valid a u.nodelets) (view_of a == 31) (not-false (is_valid a u.nodelets && view_of a == 31) good)
left_owned u w s (Alloc request) good k =
    owned_grants u.nodelets k request (granted_by u w (taken_from u.nodelets s.place request)) (nat_lt k u.nodelets && not (k == server_of u.nodelets s.place request))
left_owned u w s Turn good k = refl
left_owned u w s (Load at a) good k = refl
left_owned u w s (Fetch at f a) good k = refl
left_owned u w s Fence good k = refl
left_owned u w s (Move at a) good k = refl
left_owned u w s Where good k = refl
left_owned u w s (Print bytes) good k = refl
left_owned u w s (Spawn d f args hint) good k = refl
left_owned u w s (Sync d) good k = refl
left_owned u w s (End v) good k = refl
left_owned u w s (Trap at kind) good k = refl

-- ---- steps

owned_more : (n k : ℕ) (items more : List Item) → list_all (is_owned n k) items ≡ true → list_all (is_owned n k) more ≡ true → list_all (is_owned n k) (items ++ more) ≡ true
owned_more n k items more e f = list_all-append (is_owned n k) items more ∙ rw (e, f) refl

owned_applied : (u : Setting) (w v : World) (q : Name) (k : ℕ) → (a : Applied u w q k v) → Owned u.nodelets q a.strand → Owned u.nodelets q a.after
owned_applied u w v q k a owned j = ap (λ (f : ℕ → List Item). list_all (is_owned u.nodelets j) (f j)) a.pending ∙ go (j == k) refl
  where
    rest : list_all (is_owned u.nodelets k) a.items ≡ true
    rest = (both_true (is_owned u.nodelets k a.item) (list_all (is_owned u.nodelets k) a.items) (sym (ap (list_all (is_owned u.nodelets k)) a.first) ∙ owned k)).1

    go : (t : Bool) → (j == k) ≡ t → list_all (is_owned u.nodelets j) (if t then a.items else a.strand.pending j) ≡ true
    go true e = ap (λ i. list_all (is_owned u.nodelets i) a.items) (eqb-true _ _ e) ∙ rest
    go false e = owned j

-- each step keeps it
pub owned_kept : (u : Setting) → IsKept u (Owned u.nodelets)
owned_kept u = record {
  main = λ k. refl;
  born = λ w name s known owned depth function args hint is_due good child free k. refl;
  traps = λ w name s known owned action is_due r why. owned;
  acts = λ w v name s known owned child action is_due d k.
      ap (list_all (is_owned u.nodelets k)) (d.shape.pending k)
      ∙ owned_more u.nodelets k (s.pending k) (left_by u w s action k) (owned k) (left_owned u w s action (good_action u w s action d.good) k);
  applies = λ w v name k a owned is. owned_applied u w v name k a owned;
}
