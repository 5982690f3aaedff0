-- How a nodelet changes that takes words for a request.
use Rattle.std.proofs.Common.{◌≡◌, ◌≢◌, ◌≤◌, ◌-◌, ℕ, zero, suc, ℤ, pos, negsuc, [], Bool, true, false, Option, Some, None, refl, sym, ap, ◌∙◌, subst}
use Rattle.std.specs.Prelude.{if◌then◌else◌}
use Rattle.word_ops.specs.declared.name.Name.{Name}
use Rattle.word_ops.specs.Operators.{same_word}
use Rattle.world_model.specs.Action as act
use Rattle.world_model.specs.Allocation.{taken_from}
use Rattle.world_model.specs.World.{Extent}
use Rattle.threadlet_code.specs.declared.code.Code.{Code}
use Rattle.ack_fence.specs.Counting.{count_of}
use Rattle.nodelet_core.specs.declared.nodelet.Nodelet.{Nodelet}
use Rattle.nodelet_core.specs.declared.due.Request.{Request}
use Rattle.core_model.specs.Nodes.{Node, with_issued}
use Rattle.core_model.specs.Effects.{with_fresh}
use Rattle.nodelet_core.specs.Kept.{node_of, SameSettings, IsUnchanged}
use Rattle.nodelet_core.specs.code.Became.{Did}
use Rattle.nodelet_core.specs.code.Doing.{IsServedHere, address_for, with_cursors, with_withdrawn, grant_for, with_taken, kept_for}
use Rattle.nodelet_core.proofs.Granting.{suc_not_zero}
use Rattle.nodelet_core.proofs.Becoming.{did_then, unchanged_did}
use Rattle.nodelet_core.proofs.Posting.{enough_issued}

-- ---- stamps

fresh_stamp : (v : Node) (g : Option Extent) → (with_fresh v g).stamp ≡ v.stamp
fresh_stamp v None = refl
fresh_stamp v (Some extent) = refl

cursors_stamp : (n : ℕ) (v : Node) (taken : Option (ℕ × ℤ)) → (with_cursors n v taken).stamp ≡ v.stamp
cursors_stamp n v None = refl
cursors_stamp n v (Some (view, count)) = refl

pub taken_stamp : (n count : ℕ) (address : ℤ) (taken : Option (ℕ × ℤ)) (v : Node) → (with_taken n count address taken v).stamp ≡ v.stamp
taken_stamp n count address taken v = fresh_stamp (with_cursors n v taken) (grant_for count address) ∙ cursors_stamp n v taken

kept_stamp : (name : Name) (items : ℕ) (address : ℤ) (v : Node) → (kept_for name items address v).stamp ≡ v.stamp
kept_stamp name items address v = by (same_word address (pos 0))
  where
    by : (t : Bool) → (if t then with_withdrawn v name items else v).stamp ≡ v.stamp
    by true = refl
    by false = refl

pub all_stamp : (n count items : ℕ) (name : Name) (address : ℤ) (taken : Option (ℕ × ℤ)) (v : Node) →
    (kept_for name items address (with_taken n count address taken (with_issued v name items))).stamp ≡ v.stamp
all_stamp n count items name address taken v =
    kept_stamp name items address (with_taken n count address taken (with_issued v name items)) ∙ taken_stamp n count address taken (with_issued v name items)

-- ---- nodelets

-- What a request takes goes by the settings.
pub same_taken : (a b : Nodelet) (r : act.Request) → SameSettings a b → taken_from b.nodelets b.number r ≡ taken_from a.nodelets a.number r
same_taken a b r same = ap (λ n. taken_from n b.number r) same.nodelets ∙ ap (λ k. taken_from a.nodelets k r) same.number

-- An unchanged nodelet took words.
pub took_then : (a b c : Nodelet) (r : act.Request) (count : ℕ) (address : ℤ) → IsUnchanged a b →
    Did (λ v. with_taken b.nodelets count address (taken_from b.nodelets b.number r) v) b c →
    Did (λ v. with_taken a.nodelets count address (taken_from a.nodelets a.number r) v) a c
took_then a b c r count address same took =
    did_then (λ v. v) (λ v. with_taken a.nodelets count address (taken_from a.nodelets a.number r) v) a b c (unchanged_did a b same)
    (subst (λ t. Did (λ v. with_taken a.nodelets count address t v) b c) (same_taken a b r same.settings)
    (subst (λ n. Did (λ v. with_taken n count address (taken_from b.nodelets b.number r) v) b c) same.settings.nodelets took))

-- ---- items under way

any_code : Code
any_code = record { functions = []; main = 0; formats = []; globals = 0; replicated = 0 }

-- A change that leaves what is under way.
pub did_counts : (f : Node → Node) (a b : Nodelet) (name : Name) → Did f a b → ((v : Node) → (f v).under_way ≡ v.under_way) → count_of b.under_way name ≡ count_of a.under_way name
did_counts f a b name did keeps = ap (λ (v : Node). v.under_way name) (did.node any_code) ∙ ap (λ (u : Name → ℕ). u name) (keeps (node_of any_code a))

fresh_counts : (v : Node) (g : Option Extent) → (with_fresh v g).under_way ≡ v.under_way
fresh_counts v None = refl
fresh_counts v (Some extent) = refl

cursors_counts : (n : ℕ) (v : Node) (taken : Option (ℕ × ℤ)) → (with_cursors n v taken).under_way ≡ v.under_way
cursors_counts n v None = refl
cursors_counts n v (Some (view, count)) = refl

pub taken_counts : (n count : ℕ) (address : ℤ) (taken : Option (ℕ × ℤ)) (v : Node) → (with_taken n count address taken v).under_way ≡ v.under_way
taken_counts n count address taken v = fresh_counts (with_cursors n v taken) (grant_for count address) ∙ cursors_counts n v taken

pub served_then : (a b : Nodelet) (asked : Request) → SameSettings a b → IsServedHere a.nodelets a.number asked → IsServedHere b.nodelets b.number asked
served_then a b asked same served =
    subst (λ n. IsServedHere n b.number asked) (sym same.nodelets) (subst (λ k. IsServedHere a.nodelets k asked) (sym same.number) served)

-- An unchanged nodelet answers the same address.
pub same_address : (code : Code) (a b : Nodelet) (r : act.Request) → IsUnchanged a b →
    address_for (node_of code b) (taken_from b.nodelets b.number r) ≡ address_for (node_of code a) (taken_from a.nodelets a.number r)
same_address code a b r same =
    ap (address_for (node_of code b)) (same_taken a b r same.settings) ∙ ap (λ v. address_for v (taken_from a.nodelets a.number r)) (same.node code)

address_issued : (v : Node) (name : Name) (items : ℕ) (taken : Option (ℕ × ℤ)) → address_for (with_issued v name items) taken ≡ address_for v taken
address_issued v name items None = refl
address_issued v name items (Some (view, count)) = refl

-- So does one at which items are under way.
pub issued_address : (code : Code) (a b : Nodelet) (name : Name) (items : ℕ) (r : act.Request) → Did (λ v. with_issued v name items) a b →
    address_for (node_of code b) (taken_from b.nodelets b.number r) ≡ address_for (node_of code a) (taken_from a.nodelets a.number r)
issued_address code a b name items r did =
    let taken = taken_from a.nodelets a.number r in
    ap (address_for (node_of code b)) (same_taken a b r did.settings) ∙ ap (λ v. address_for v taken) (did.node code)
    ∙ address_issued (node_of code a) name items taken

-- It took words.
pub all_took : (a b c : Nodelet) (name : Name) (r : act.Request) (count : ℕ) (address : ℤ) → Did (λ v. with_issued v name (a.nodelets - 1)) a b →
    Did (λ v. kept_for name (b.nodelets - 1) address (with_taken b.nodelets count address (taken_from b.nodelets b.number r) v)) b c →
    Did (λ v. kept_for name (a.nodelets - 1) address (with_taken a.nodelets count address (taken_from a.nodelets a.number r) (with_issued v name (a.nodelets - 1)))) a c
all_took a b c name r count address did took =
    did_then (λ v. with_issued v name (a.nodelets - 1)) (λ v. kept_for name (a.nodelets - 1) address (with_taken a.nodelets count address (taken_from a.nodelets a.number r) v)) a b c did
    (subst (λ t. Did (λ v. kept_for name (a.nodelets - 1) address (with_taken a.nodelets count address t v)) b c) (same_taken a b r did.settings)
    (subst (λ n. Did (λ v. kept_for name (n - 1) address (with_taken n count address (taken_from b.nodelets b.number r) v)) b c) did.settings.nodelets took))

-- Items that were issued are under way.
pub issued_counts : (a b : Nodelet) (name : Name) → Did (λ v. with_issued v name (a.nodelets - 1)) a b → b.nodelets - 1 ≤ count_of b.under_way name
issued_counts a b name did =
    let counts : count_of b.under_way name ≡ (with_issued (node_of any_code a) name (a.nodelets - 1)).under_way name = ap (λ (v : Node). v.under_way name) (did.node any_code) in
    subst (λ k. k - 1 ≤ count_of b.under_way name) (sym did.settings.nodelets)
    (subst (λ k. a.nodelets - 1 ≤ k) (sym counts) (enough_issued (node_of any_code a) name (a.nodelets - 1)))

-- ---- an address that is 0, and another

pub not_zero : (a : ℤ) → a ≢ pos 0 → same_word a (pos 0) ≡ false
not_zero (pos zero) other = absurd (other refl)
not_zero (pos (suc k)) other = suc_not_zero k
not_zero (negsuc k) other = refl
