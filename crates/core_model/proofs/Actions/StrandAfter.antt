-- What a core holds of a strand that goes on, waits, is sent away or is gone.
use Rattle.std.proofs.Common.{◌≡◌, ℕ, ◌+◌, ◌≤◌, ◌⊎◌, inl, inr, List, [], ◌∷◌, ◌++◌, length, Option, Some, None, refl, sym, ap, ◌∙◌, subst, arith, Bool, true, false, ⊎_elim, length-append}
use Rattle.std.specs.Prelude.{if◌then◌else◌, ◌==◌, ◌&&◌}
use Rattle.std.proofs.lemmas.Bool.{eq-eqb}
use Rattle.std.proofs.lemmas.List.{append-nil}
use Rattle.word_ops.specs.declared.place.Pos.{Pos}
use Rattle.word_ops.specs.declared.name.Name.{Name}
use Rattle.word_ops.specs.declared.ticket.Ticket.{Ticket}
use Rattle.world_model.specs.World.{Item, Status, Live, Ended, Trapped, Strand, with_at}
use Rattle.threadlet_code.specs.Machine.{State}
use Rattle.threadlet_code.specs.Running.{due}
use Rattle.core_model.specs.Contexts.{Context}
use Rattle.core_model.specs.Nodes.{Setup}
use Rattle.core_model.specs.Runs.{action_in}
use Rattle.core_model.proofs.Invariant.Links.{plus, plus-none, with_at-same}
use Rattle.core_model.proofs.Invariant.Sums.{total, total-same, total-sum}
use Rattle.core_model.proofs.Invariant.LatePositions.{all_lates, all_lates-same, all_lates-none}
use Rattle.core_model.proofs.Invariant.Views.{View, same_view, sending}
use Rattle.core_model.proofs.Invariant.StrandStates.{IsStateOf}
use Rattle.core_model.proofs.Invariant.Statement.{OnLink, Parcels, IsAway, IsGone, ByStatus, Known}
use Rattle.core_model.proofs.Invariant.StandingStrand.{Stands, stands-known, quiet, moved}

abbrev pub none_of : {A : Type 0} → ℕ → List A
none_of b = []

-- what is sent is no more than before
pub same-sending : (v : View) (k : ℕ) (x x' : Option Context) (n n' : ℕ) (a a' : ℕ → List Context) (i i' : ℕ → List Item) (l l' : ℕ → List (Option Pos)) →
    x ≡ x' → n ≡ n' → ((b : ℕ) → a b ≡ a' b) → ((b : ℕ) → i b ≡ i' b) → ((b : ℕ) → l b ≡ l' b) → sending v k x n a i l ≡ sending v k x' n' a' i' l'
same-sending v k x x' n n' a a' i i' l l' e1 e2 e3 e4 e5 =
    same_view _ _
    (λ j. ap (λ y. with_at v.stands k y j) e1)
    (λ c d. ap (λ y. v.travels c d ++ (if c == k then y else [])) (e3 d))
    (λ c d. ap (λ y. v.items c d ++ (if c == k then y else [])) (e4 d))
    (λ c d. ap (λ y. v.acks c d ++ (if c == k then y else [])) (e5 d))
    (λ j. ap (λ y. with_at v.under_way k y j) e2)

stands_there : (v : View) (k : ℕ) (x x' : Option Context) → ((j : ℕ) → v.stands j ≡ (if j == k then x else None)) → (j : ℕ) → with_at v.stands k x' j ≡ (if j == k then x' else None)
stands_there v k x x' h j = go (j == k) refl
  where
    go : (b : Bool) → (j == k) ≡ b → (if b then x' else v.stands j) ≡ (if b then x' else None)
    go true f = refl
    go false f = h j ∙ ap (λ b. if b then x else None) f

module _ (u : Setup) (T : Name → Option Ticket) where
  -- a strand that went on at nodelet k, and has more pending
  pub record Continues (s s' : Strand) (k : ℕ) (x : Context) (more : ℕ → List Item) : Type 0 where
    pub status : s'.status ≡ s.status
    pub home : s'.home ≡ s.home
    pub place : s'.place ≡ k
    pub pending : (b : ℕ) → s'.pending b ≡ s.pending b ++ more b
    pub late : s'.late ≡ s.late
    pub state : IsStateOf u.code s' x.state

  -- parcels once more is pending
  parcels-more : (v : View) (k : ℕ) (pending pending' more : ℕ → List Item) (x : Option Context) → Parcels u.nodelets v k pending → ((b : ℕ) → u.nodelets ≤ b → more b ≡ []) →
      ((b : ℕ) → pending' b ≡ pending b ++ more b) → Parcels u.nodelets (sending v k x (v.under_way k + total u.nodelets (λ b. length (more b))) none_of more none_of) k pending'
  parcels-more v k pending pending' more x p beyond now = record {
    items = λ a b. items a b (a == k) refl;
    acks = λ a b f. no_acks a b ∙ p.acks a b f;
    counted = counted;
    uncounted = λ a f. ap (λ t. if t then v.under_way k + total u.nodelets (λ b. length (more b)) else v.under_way a) f ∙ p.uncounted a f;
    beyond = λ b le. (now b ∙ ap (λ l. l ++ more b) (p.beyond b le).0 ∙ beyond b le, no_acks b k ∙ (p.beyond b le).1);
  }
    where
      no_acks : (a b : ℕ) → plus v.acks k none_of a b ≡ v.acks a b
      no_acks = plus-none v.acks k none_of (λ b. refl)

      items : (a b : ℕ) (t : Bool) → (a == k) ≡ t → v.items a b ++ (if t then more b else []) ≡ (if t then pending' b else [])
      items a b true f = ap (λ l. l ++ more b) (p.items a b ∙ ap (λ t. if t then pending b else []) f) ∙ sym (now b)
      items a b false f = append-nil (v.items a b) ∙ p.items a b ∙ ap (λ t. if t then pending b else []) f

      each : (b : ℕ) → length (pending' b) + length (plus v.acks k none_of b k) ≡ length (pending b) + length (v.acks b k) + length (more b)
      each b = let g : length (pending' b) ≡ length (pending b ++ more b) = ap length (now b) in let h = length-append (pending b) (more b) in
          let j : length (plus v.acks k none_of b k) ≡ length (v.acks b k) = ap length (no_acks b k) in omega arith

      counted : with_at v.under_way k (v.under_way k + total u.nodelets (λ b. length (more b))) k ≡ total u.nodelets (λ b. length (pending' b) + length (plus v.acks k none_of b k))
      counted =
          ap (λ t. if t then v.under_way k + total u.nodelets (λ b. length (more b)) else v.under_way k) (eq-eqb k k refl)
          ∙ ap (λ o. o + total u.nodelets (λ b. length (more b))) p.counted
          ∙ total-sum u.nodelets (λ b. length (pending b) + length (v.acks b k)) (λ b. length (more b))
          ∙ sym (total-same u.nodelets _ _ (λ b lt. each b))

  -- parcels of a strand that is at its place, or has nothing under way
  pub parcels-here : (v : View) (s : Strand) (k : ℕ) → Parcels u.nodelets v s.place s.pending → (s.place ≡ k) ⊎ (v.under_way s.place ≡ 0) → Parcels u.nodelets v k s.pending
  parcels-here v s k p (inl f) = subst (λ a. Parcels u.nodelets v a s.pending) f p
  parcels-here v s k p (inr z) = moved u.nodelets v s.place s.pending p z k

  pub goes_on : (v : View) (q : Name) (s : Strand) (k : ℕ) (x : Context) → Stands u T v q s k x → (s.place ≡ k) ⊎ (v.under_way s.place ≡ 0) →
      (more : ℕ → List Item) → ((b : ℕ) → u.nodelets ≤ b → more b ≡ []) → (s' : Strand) (x' : Context) → x'.name ≡ x.name → x'.home ≡ x.home → x'.place ≡ k → x'.ticket ≡ x.ticket → x'.late ≡ x.late →
      Continues s s' k x' more → Known u T (sending v k (Some x') (v.under_way k + total u.nodelets (λ b. length (more b))) none_of more none_of) q (Some s')
  goes_on v q s k x h how more beyond s' x' e1 e2 e3 e4 e5 c =
      stands-known u T _ q s' k x' (record {
        live = c.status ∙ h.live;
        parcels = subst (λ a. Parcels u.nodelets v' a s'.pending) (sym c.place) (parcels-more v k s.pending s'.pending more (Some x') (parcels-here v s k h.parcels how) beyond c.pending);
        stands = stands_there v k (Some x) (Some x') h.stands;
        travels = λ a b. plus-none v.travels k none_of (λ d. refl) a b ∙ h.travels a b;
        name = e1 ∙ h.name;
        home = e2 ∙ h.home ∙ sym c.home;
        place = e3 ∙ sym c.place;
        ticket = e4 ∙ h.ticket;
        state = c.state;
        late = c.late ∙ h.late ∙ lates how ∙ ap (λ o. all_lates u.nodelets (λ b. v'.acks b s'.place) o) (sym e5);
        bound = inl c.place;
      })
    where
      v' : View
      v' = sending v k (Some x') (v.under_way k + total u.nodelets (λ b. length (more b))) none_of more none_of

      same : all_lates u.nodelets (λ b. v.acks b s'.place) x.late ≡ all_lates u.nodelets (λ b. v'.acks b s'.place) x.late
      same = all_lates-same u.nodelets _ _ x.late (λ b lt. sym (plus-none v.acks k none_of (λ d. refl) b s'.place))

      lates : (s.place ≡ k) ⊎ (v.under_way s.place ≡ 0) → all_lates u.nodelets (λ b. v.acks b s.place) x.late ≡ all_lates u.nodelets (λ b. v'.acks b s'.place) x.late
      lates (inl f) = ap (λ p. all_lates u.nodelets (λ b. v.acks b p) x.late) (f ∙ sym c.place) ∙ same
      lates (inr z) = let still = quiet u.nodelets v s.place s.pending h.parcels z in
          all_lates-none u.nodelets _ x.late (λ b. still.acks b s.place) ∙ sym (all_lates-none u.nodelets _ x.late (λ b. still.acks b s'.place)) ∙ same

  -- ---- only what stands at k differs

  abbrev pub stood : View → ℕ → Option Context → View
  stood v k x = record { stands = with_at v.stands k x; travels = v.travels; items = v.items; acks = v.acks; under_way = v.under_way }

  pub sending-stood : (v : View) (k : ℕ) (x : Option Context) (n : ℕ) (a : ℕ → List Context) (i : ℕ → List Item) (l : ℕ → List (Option Pos)) →
      n ≡ v.under_way k → ((b : ℕ) → a b ≡ []) → ((b : ℕ) → i b ≡ []) → ((b : ℕ) → l b ≡ []) → sending v k x n a i l ≡ stood v k x
  sending-stood v k x n a i l e1 e2 e3 e4 =
      same_view _ _ (λ j. refl) (plus-none v.travels k a e2) (plus-none v.items k i e3) (plus-none v.acks k l e4)
      (λ j. ap (λ y. with_at v.under_way k y j) e1 ∙ with_at-same v.under_way k j)

  -- it waits in another state that comes to the same
  pub waits_on : (v : View) (q : Name) (s : Strand) (k : ℕ) (x : Context) → Stands u T v q s k x → (state : State) → IsStateOf u.code s state → due u.code state ≡ due u.code x.state →
      Known u T (stood v k (Some (record x { state = state }))) q (Some s)
  waits_on v q s k x h state is same =
      stands-known u T _ q s k (record x { state = state }) (record {
        live = h.live;
        parcels = record { items = h.parcels.items; acks = h.parcels.acks; counted = h.parcels.counted; uncounted = h.parcels.uncounted; beyond = h.parcels.beyond };
        stands = stands_there v k (Some x) (Some (record x { state = state })) h.stands;
        travels = h.travels;
        name = h.name;
        home = h.home;
        place = h.place;
        ticket = h.ticket;
        state = is;
        late = h.late;
        bound = ⊎_elim (λ f. inl f)
            (λ (away : IsAway u v s x k). inr (record { clear = away.clear; late = away.late; action = away.action; next = ap action_in same ∙ away.next; good = away.good; joins = away.joins; goes = away.goes }))
            h.bound;
      })

  -- it is gone from k
  abbrev pub IsOver : Status → Type 0
  IsOver Live = ⊥
  IsOver (Ended value) = Unit {0}
  IsOver (Trapped kind at) = Unit {0}

  gone_by : (v : View) (q : Name) (s : Strand) (t : Status) → IsOver t → IsGone v → ByStatus u T v q s t
  gone_by v q s Live over g = absurd over
  gone_by v q s (Ended value) over g = g
  gone_by v q s (Trapped kind at) over g = g

  pub goes_off : (v : View) (q : Name) (s : Strand) (k : ℕ) (x : Context) → Stands u T v q s k x → (s' : Strand) → IsOver s'.status → s'.pending ≡ s.pending →
      (s'.place ≡ s.place) ⊎ ((s'.place ≡ k) × ((s.place ≡ k) ⊎ (v.under_way s.place ≡ 0))) → Known u T (stood v k None) q (Some s')
  goes_off v q s k x h s' over e how = (
    record { items = p.items; acks = p.acks; counted = p.counted; uncounted = p.uncounted; beyond = p.beyond },
    gone_by _ q s' s'.status over (record { stands = λ j. nowhere j (j == k) refl; travels = h.travels }),
  )
    where
      nowhere : (j : ℕ) (b : Bool) → (j == k) ≡ b → (if b then None else v.stands j) ≡ None
      nowhere j true f = refl
      nowhere j false f = h.stands j ∙ ap (λ b. if b then Some x else None) f

      place : (s'.place ≡ s.place) ⊎ ((s'.place ≡ k) × ((s.place ≡ k) ⊎ (v.under_way s.place ≡ 0))) → Parcels u.nodelets v s'.place s.pending
      place (inl f) = subst (λ a. Parcels u.nodelets v a s.pending) (sym f) h.parcels
      place (inr g) = subst (λ a. Parcels u.nodelets v a s.pending) (sym g.0) (parcels-here v s k h.parcels g.1)

      p : Parcels u.nodelets v s'.place s'.pending
      p = subst (λ (f : ℕ → List Item). Parcels u.nodelets v s'.place f) (sym e) (place how)

  -- ---- it is on the link from k to `to`

  abbrev pub departed : View → ℕ → ℕ → Context → View
  departed v k to x = record { stands = with_at v.stands k None; travels = plus v.travels k (λ b. if b == to then x ∷ [] else []); items = v.items; acks = v.acks; under_way = v.under_way }

  pub departs : (v : View) (q : Name) (s : Strand) (k to : ℕ) (x : Context) → Stands u T v q s k x → (state : State) → IsStateOf u.code s state → x.late ≡ None → v.under_way s.place ≡ 0 →
      IsAway u v s (record x { state = state }) to → Known u T (departed v k to (record x { state = state })) q (Some s)
  departs v q s k to x h state is prompt clear away = (
    record { items = h.parcels.items; acks = h.parcels.acks; counted = h.parcels.counted; uncounted = h.parcels.uncounted; beyond = h.parcels.beyond },
    subst (λ (t : Status). ByStatus u T (departed v k to x') q s t) (sym h.live) (record {
      x = x';
      spot = OnLink k to;
      stands = λ j. nowhere j (j == k) refl;
      travels = λ a b. goes a b (a == k);
      name = h.name;
      home = h.home;
      place = h.place;
      ticket = h.ticket;
      state = is;
      late = h.late;
      bound = (clear, prompt, inr (record { clear = away.clear; late = away.late; action = away.action; next = away.next; good = away.good; joins = away.joins; goes = away.goes }));
    }),
  )
    where
      x' : Context
      x' = record x { state = state }

      nowhere : (j : ℕ) (b : Bool) → (j == k) ≡ b → (if b then None else v.stands j) ≡ None
      nowhere j true f = refl
      nowhere j false f = h.stands j ∙ ap (λ b. if b then Some x else None) f

      goes : (a b : ℕ) (t : Bool) → v.travels a b ++ (if t then (if b == to then x' ∷ [] else []) else []) ≡ (if t && b == to then x' ∷ [] else [])
      goes a b true = ap (λ l. l ++ (if b == to then x' ∷ [] else [])) (h.travels a b)
      goes a b false = ap (λ l. l ++ []) (h.travels a b)
