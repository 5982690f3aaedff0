-- What an allocation leaves.
use Rattle.std.proofs.Common.{◌≡◌, ◌≢◌, ◌≤◌, ◌+◌, ◌-◌, arith, ℕ, zero, suc, ℤ, pos, negsuc, List, [], ◌∷◌, Bool, true, false, Option, Some, None, refl, sym, ap, ◌∙◌, subst}
use Rattle.std.specs.Prelude.{if◌then◌else◌, ◌==◌, ◌&&◌, ◌||◌, ◌^◌, nat_le}
use Rattle.std.proofs.lemmas.Bool.{eqb-true, le-leb, leb-true, and_parts, or_right}
use Rattle.word_ops.specs.declared.name.Name.{Name}
use Rattle.word_ops.specs.declared.place.Pos.{Pos}
use Rattle.word_ops.specs.declared.rules.Rules.{Rules}
use Rattle.word_ops.specs.declared.rules.Rules.TheVariants.{Loose, Checked}
use Rattle.word_ops.specs.Operators.{same_word}
use Rattle.data_layout.specs.Cursor.{fits_view}
use Rattle.data_layout.specs.Address.{address_at}
use Rattle.service.specs.Requests.{words_granted}
use Rattle.world_model.specs.Action as act
use Rattle.world_model.specs.Effect.{grant_of}
use Rattle.world_model.specs.World.{Grant, Extent}
use Rattle.threadlet_code.specs.declared.code.Code.{Code}
use Rattle.threadlet_code.specs.Machine.{asks, step}
use Rattle.threadlet_state.specs.declared.context.Context as carried
use Rattle.threadlet_state.specs.Activations.{state_of}
use Rattle.threadlet_state.specs.Answered.{is_spawn}
use Rattle.nodelet_core.specs.declared.nodelet.Nodelet.{Nodelet}
use Rattle.nodelet_core.specs.declared.due.Due.TheVariants as due
use Rattle.nodelet_core.specs.declared.due.Request.{Request}
use Rattle.nodelet_core.specs.declared.due.Request.TheVariants as request
use Rattle.core_model.specs.Contexts.{Issued}
use Rattle.core_model.specs.Nodes.{Setup, Node, with_issued}
use Rattle.core_model.specs.Effects.{Effect, quiet, sending, nothing, to_all, with_fresh, announced, allocated}
use Rattle.core_model.specs.Machine.{stamped_node}
use Rattle.nodelet_core.specs.code.Dues.{asked_request}
use Rattle.nodelet_core.specs.code.Doing.{IsDueHere, IsServedHere, address_for, with_cursors, with_withdrawn, fresh_of, grant_for, with_taken, kept_for, grant_sends, is_local}
use Rattle.nodelet_core.proofs.Resuming.{acts_here, is_answered, comes_asked, action_told}
use Rattle.nodelet_core.proofs.Posting.{withdrawn}
use Rattle.nodelet_core.proofs.Doing.{Leaves, nothing_counted}

-- ---- what is due

-- Words that are due here are served here.
pub served_here : (code : Code) (v : Nodelet) (x : carried.Context) (asked : Request) → IsDueHere code v x (due.Alloc asked) → IsServedHere v.nodelets v.number asked
served_here code v x (request.Local at words address) is = (acts_here code v x (due.Alloc (request.Local at words address)) is refl).stays
served_here code v x other is = tt

-- An allocation is no Spawn.
pub never_spawns : (code : Code) (v : Nodelet) (x : carried.Context) (asked : Request) → IsDueHere code v x (due.Alloc asked) →
    is_spawn (step code (state_of code x.frames)) ≡ true → false ≡ true
never_spawns code v x asked is spawns =
    let comes = comes_asked code (state_of code x.frames) is.action is.comes (ap is_answered is.decides) in
    let same = action_told is.action (due.Alloc asked) is.decides refl in
    sym (ap is_spawn comes.1 ∙ ap (λ a. is_spawn (asks a comes.0)) same) ∙ spawns

-- ---- the words that are granted

or_parts : (a b : Bool) → (a || b) ≡ false → (a ≡ false) × (b ≡ false)
or_parts true b e = absurd (let wrong : true ≡ false = e in cc)
or_parts false b e = (refl, e)

or_false : (b : Bool) → (b || false) ≡ true → b ≡ true
or_false true e = refl
or_false false e = e

-- A number that follows another is not 0.
pub suc_not_zero : (k : ℕ) → (suc k == 0) ≡ false
suc_not_zero k = by_test (suc k == 0) refl
  where
    by_test : (t : Bool) → (suc k == 0) ≡ t → t ≡ false
    by_test false e = refl
    by_test true e = absurd (let wrong : suc k ≡ 0 = eqb-true (suc k) 0 e in omega (arith, wrong))

-- What fits a view behind a cursor fits it behind none, and is some.
fits_first : (cursor count most : ℕ) → (nat_le 1 count && nat_le (cursor + count) most) ≡ true →
    ((nat_le 1 count && nat_le (0 + count) most) ≡ true) × ((count == 0) ≡ false)
fits_first cursor zero most e = absurd (let wrong : false ≡ true = e in cc)
fits_first cursor (suc k) most e =
    let fits = leb-true (cursor + suc k) most (and_parts (nat_le 1 (suc k)) (nat_le (cursor + suc k) most) e).1 in (
      ap (λ b. nat_le 1 (suc k) && b) (le-leb (0 + suc k) most (omega (arith, fits))) ∙ ap (λ b. b && true) (le-leb 1 (suc k) (omega arith)),
      suc_not_zero k,
    )

by_fit : (a : ℤ) (count : ℕ) (t s : Bool) → (t ≡ true → (s ≡ true) × ((count == 0) ≡ false)) →
    grant_of Checked (if t then a else pos 0) (pos count) ≡ grant_for (if s then count else 0) (if t then a else pos 0)
by_fit a count false s h = ap (λ b. if b then None else Some (let e : Extent = record { first = pos 0; count = if s then count else 0 } in e)) (sym (or_right ((if s then count else 0) == 0) true refl))
by_fit a count true s h =
    let p = h refl in
    ap (λ z. if z || same_word a (pos 0) then None else Some (let e : Extent = record { first = a; count = count } in e)) (sym p.1)
    ∙ ap (λ b. grant_for (if b then count else 0) a) (sym p.0)

-- Under the loose rules none are, and else those that every cursor of room would give.
pub grants_none : (v : Node) (taken : Option (ℕ × ℤ)) → fresh_of Loose v taken ≡ grant_for 0 (address_for v taken)
grants_none v None = refl
grants_none v (Some (view, count)) = refl

pub grants_some : (v : Node) (taken : Option (ℕ × ℤ)) → fresh_of Checked v taken ≡ grant_for (words_granted taken) (address_for v taken)
grants_some v None = refl
grants_some v (Some (view, negsuc k)) = refl
grants_some v (Some (view, pos count)) =
    by_fit (address_at view (v.cursors view)) count (fits_view (v.cursors view) (pos count)) (fits_view 0 (pos count)) (fits_first (v.cursors view) count (2 ^ 32))

-- ---- what an allocation does

allocates : (m : Setup) (v : Node) (name : Name) (r : act.Request) (taken : Option (ℕ × ℤ)) →
    allocated m v name r taken ≡ announced m.nodelets (with_fresh (with_cursors m.nodelets v taken) (fresh_of m.rules v taken)) name r (fresh_of m.rules v taken) (address_for v taken)
allocates m v name r None = refl
allocates m v name r (Some (view, count)) = refl

-- The words that are granted go by their count and their address.
pub takes : (m : Setup) (v : Node) (name : Name) (r : act.Request) (taken : Option (ℕ × ℤ)) (count : ℕ) (address : ℤ) →
    fresh_of m.rules v taken ≡ grant_for count (address_for v taken) → address ≡ address_for v taken →
    announced m.nodelets (with_taken m.nodelets count address taken v) name r (grant_for count address) address ≡ allocated m v name r taken
takes m v name r taken count address granted answered =
    ap (λ z. announced m.nodelets (with_taken m.nodelets count z taken v) name r (grant_for count z) z) answered
    ∙ ap (λ g. announced m.nodelets (with_fresh (with_cursors m.nodelets v taken) g) name r g (address_for v taken)) (sym granted)
    ∙ sym (allocates m v name r taken)

module _ (n here stamp : ℕ) (v : Node) (name : Name) (count : ℕ) (address : ℤ) (taken : Option (ℕ × ℤ)) where
  -- A grant that stays here.
  none_sent : (r : act.Request) → (count == 0) ≡ true → announced n (with_taken n count address taken v) name r (grant_for count address) address ≡ quiet (with_taken n count address taken v) (address ∷ [])
  none_sent r e =
      let grants : grant_for count address ≡ None = ap (λ z. if z || same_word address (pos 0) then None else Some (let x : Extent = record { first = address; count = count } in x)) e in
      subst (λ g. announced n (with_taken n count address taken v) name r g address ≡ quiet (with_taken n count address taken v) (address ∷ [])) (sym grants) refl

  local_stays : (at : Pos) (words to : ℤ) (w : Node) (g : Option Extent) → announced n w name (act.Local at words to) g address ≡ quiet w (address ∷ [])
  local_stays at words to w None = refl
  local_stays at words to w (Some extent) = refl

  stays_here : (asked : Request) → (count == 0 || is_local asked) ≡ true →
      announced n (with_taken n count address taken v) name (asked_request asked) (grant_for count address) address ≡ quiet (with_taken n count address taken v) (address ∷ [])
  stays_here (request.Local at words to) e = local_stays at words to (with_taken n count address taken v) (grant_for count address)
  stays_here (request.Striped words) e = none_sent (act.Striped words) (or_false (count == 0) e)
  stays_here (request.Blocked blocks words) e = none_sent (act.Blocked blocks words) (or_false (count == 0) e)
  stays_here (request.Replicated words) e = none_sent (act.Replicated words) (or_false (count == 0) e)

  pub grants_here : (asked : Request) → (count == 0 || is_local asked) ≡ true →
      Leaves n here stamp nothing_counted (with_taken n count address taken v) (address ∷ []) nothing
      (announced n (with_taken n count address taken v) name (asked_request asked) (grant_for count address) address)
  grants_here asked e =
      subst (Leaves n here stamp nothing_counted (with_taken n count address taken v) (address ∷ []) nothing) (sym (stays_here asked e)) (record { node = refl; answer = refl; bodies = refl })

  -- A grant that is sent to all others.
  all_sent : (asked : Request) → is_local asked ≡ false → (w : Node) (extent : Extent) →
      announced n w name (asked_request asked) (Some extent) address ≡ record (sending (with_issued w name (n - 1)) (to_all n (Issued name (Grant extent)))) { answer = address ∷ [] }
  all_sent (request.Local at words to) e w extent = absurd (let wrong : true ≡ false = e in cc)
  all_sent (request.Striped words) e w extent = refl
  all_sent (request.Blocked blocks words) e w extent = refl
  all_sent (request.Replicated words) e w extent = refl

  -- Items under way and words taken, in either order.
  either_way : (taken : Option (ℕ × ℤ)) (g : Option Extent) →
      with_fresh (with_cursors n (with_issued v name (n - 1)) taken) g ≡ with_issued (with_fresh (with_cursors n v taken) g) name (n - 1)
  either_way None None = refl
  either_way None (Some e) = refl
  either_way (Some (view, words)) None = refl
  either_way (Some (view, words)) (Some e) = refl

  abbrev granted_if : Bool → Option Extent
  granted_if t = if t then None else Some (let e : Extent = record { first = address; count = count } in e)

  abbrev both : Option Extent → Bool → Node
  both g t =
      let w = with_fresh (with_cursors n (with_issued v name (n - 1)) taken) g in
      if t then with_withdrawn w name (n - 1) else w

  by_address : (asked : Request) → is_local asked ≡ false → (t : Bool) →
      Leaves n here stamp nothing_counted (both (granted_if t) t) (address ∷ [])
      (if t then nothing else to_all n (Issued name (Grant (record { first = address; count = count }))))
      (announced n (with_fresh (with_cursors n v taken) (granted_if t)) name (asked_request asked) (granted_if t) address)
  by_address asked apart true = record {
    node = ap (stamped_node stamp) (ap (λ w. with_withdrawn w name (n - 1)) (either_way taken None) ∙ withdrawn (with_cursors n v taken) name (n - 1));
    answer = refl;
    bodies = refl;
  }
  by_address asked apart false =
      let w = with_fresh (with_cursors n v taken) (granted_if false) in
      subst (Leaves n here stamp nothing_counted (both (granted_if false) false) (address ∷ []) (to_all n (Issued name (Grant (record { first = address; count = count })))))
      (sym (all_sent asked apart w (record { first = address; count = count })))
      (record { node = ap (stamped_node stamp) (either_way taken (granted_if false)); answer = refl; bodies = refl })

  pub grants_all : (asked : Request) → (count == 0 || is_local asked) ≡ false →
      Leaves n here stamp nothing_counted (kept_for name (n - 1) address (with_taken n count address taken (with_issued v name (n - 1)))) (address ∷ []) (grant_sends n name address count)
      (announced n (with_taken n count address taken v) name (asked_request asked) (grant_for count address) address)
  grants_all asked e =
      let parts = or_parts (count == 0) (is_local asked) e in
      let t = same_word address (pos 0) in
      let same : granted_if t ≡ grant_for count address = ap (λ z. granted_if (z || t)) (sym parts.0) in
      subst (λ g. Leaves n here stamp nothing_counted (both g t) (address ∷ []) (grant_sends n name address count) (announced n (with_fresh (with_cursors n v taken) g) name (asked_request asked) g address))
      same (by_address asked parts.1 t)
