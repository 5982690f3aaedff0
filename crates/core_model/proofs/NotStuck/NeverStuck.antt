-- A core in which no event is legal has come to an end.
use Rattle.std.proofs.Common.{◌≡◌, ◌≢◌, ℕ, zero, suc, ◌<◌, ◌≤◌, ◌⊎◌, inl, inr, List, [], ◌∷◌, Option, Some, None, refl, sym, ap, ◌∙◌, subst, arith, Bool, true, false, not, ◌&&◌, ◌||◌, ⊎_elim, map, is_some, option_and_then, nat_lt}
use Rattle.std.specs.Prelude.{if◌then◌else◌, ◌==◌, slice_get}
use Rattle.std.specs.List.{list_any}
use Rattle.std.proofs.lemmas.Bool.{eqb-true, eq-eqb}
use Rattle.std.proofs.lemmas.Bool.Decides.{eqb_tells}
use Rattle.word_ops.specs.declared.name.Name.{Name}
use Rattle.word_ops.specs.declared.step.Step.TheVariants.{Act, Apply}
use Rattle.word_ops.specs.declared.ending.End.{End}
use Rattle.word_ops.specs.Naming.{same_name}
use Rattle.merge_law.specs.declared.event.Event.{Event}
use Rattle.merge_law.specs.Machine.{last_stamp}
use Rattle.merge_law.specs.Core.{Played}
use Rattle.merge_law.specs.Merge.{steps_of}
use Rattle.merge_law.proofs.Somes.{some_is}
use Rattle.merge_law.proofs.Pairs.{Each, each_filter}
use Rattle.world_model.specs.Action.{Action, Turn, Sync}
use Rattle.world_model.specs.Sight.{is_ready}
use Rattle.world_model.specs.World.{Setting, Status, Live, Ended, Trapped, Strand, World, main_name, lookup, strand_of, value_of, value_in, children_at}
use Rattle.world_model.specs.Effect.{sight_of}
use Rattle.world_model.specs.Step.{last_of, due_in, due, refusal_of, done_by, acted, applied_at}
use Rattle.world_model.specs.Run.{start, is_turn, Rest}
use Rattle.world_model.specs.Laws.{NamesDiffer}
use Rattle.world_model.proofs.Names.{same_name_refl, same_name_is}
use Rattle.world_model.proofs.Settling.{names_differ}
use Rattle.threadlet_code.specs.Breaches.{is_sound}
use Rattle.core_model.specs.Nodes.{Setup, Node}
use Rattle.core_model.specs.Machine.{Packet}
use Rattle.core_model.specs.Core.{Core, start_core, setting_of}
use Rattle.core_model.specs.Laws.{IsPlayed, IsStill, MainHasEnded, TurnsAreSpent, HasEnded}
use Rattle.core_model.proofs.Invariant.Statement.{Invariant}
use Rattle.core_model.proofs.Events.Play.{KeptBy, play_kept}
use Rattle.core_model.proofs.Invariant.Start.{starts}
use Rattle.core_model.proofs.Packets.NoLink.{links_apart}
use Rattle.core_model.proofs.NotStuck.StampBounds.{always_in_time}
use Rattle.core_model.proofs.NotStuck.BirthOrder.{Entries, Has, InBirthOrder}
use Rattle.core_model.proofs.NotStuck.Lineage.{Lineage, lineage}
use Rattle.core_model.proofs.NotStuck.Untrapped.{IsWell, AllWell, traps, none_trapped}
use Rattle.core_model.proofs.NotStuck.StillCore.{Rests, nothing_pending}
use Rattle.core_model.proofs.NotStuck.LackedTurns.{LacksTurn, LacksChild, lacking}

-- a strand that has a value
abbrev IsOver : Status → Type 0
IsOver Live = ⊥
IsOver (Ended value) = Unit {0}
IsOver (Trapped kind at) = Unit {0}

-- ---- children among entries

child_among : (es : Entries) (l : List (ℕ × Name)) (i : ℕ) (child : Name) → Each (Has es) l → slice_get (map (λ c. c.1) l) i ≡ Some child → is_some (lookup child es) ≡ true
child_among es [] i child all at = absurd cc
child_among es (c ∷ l) zero child all at = let same : c.1 ≡ child = cc in ap (λ (q : Name). is_some (lookup q es)) (sym same) ∙ all.0
child_among es (c ∷ l) (suc i) child all at = child_among es l i child all.1 at

a_child : (es : Entries) (d : ℕ) (children : List (ℕ × Name)) (i : ℕ) (child : Name) → Each (Has es) children → slice_get (children_at d children) i ≡ Some child → is_some (lookup child es) ≡ true
a_child es d children i child all at = child_among es _ i child (each_filter (Has es) (λ c. c.0 == d) children all) at

module _ (u : Setup) (sound : is_sound u.code ≡ true) (some : 1 ≤ u.nodelets) (c : Core) (rests : Rests u c) (w : World) (inv : Invariant u c w) where
  abbrev on : Setting
  on = setting_of u

  -- ---- no step is possible

  not_due : (s : Strand) (child : Option Name) (q : Name) (t : Status) → s.status ≡ t → IsOver t → acted on w q s child (due on s) ≡ None
  not_due s child q Live e over = absurd over
  not_due s child q (Ended value) e over = ap (λ t. acted on w q s child (due_in t (last_of (on.meaning.acts s.function s.args s.answers)))) e
  not_due s child q (Trapped kind at) e over = ap (λ t. acted on w q s child (due_in t (last_of (on.meaning.acts s.function s.args s.answers)))) e

  not_ready : (s : Strand) (child : Option Name) (q : Name) (action : Action) → due on s ≡ Some action → is_ready on.nodelets on.turns (sight_of on w s) action ≡ false → acted on w q s child (due on s) ≡ None
  not_ready s child q action e f =
      ap (acted on w q s child) e ∙ ap (λ (t : Bool). if t then done_by on w q s child action (refusal_of on w s action) else None) f

  act_rests : (s : Strand) (child : Option Name) (q : Name) → strand_of w q ≡ Some s → acted on w q s child (due on s) ≡ None
  act_rests s child q known = by s.status refl
    where
      by : (t : Status) → s.status ≡ t → acted on w q s child (due on s) ≡ None
      by (Ended value) e = not_due s child q (Ended value) e tt
      by (Trapped kind at) e = not_due s child q (Trapped kind at) e tt
      by Live e = ⊎_elim
          (λ (h : LacksTurn u w s). not_ready s child q Turn h.0 h.1)
          (λ (h : LacksChild u w s). not_ready s child q (Sync h.depth) h.is h.not_ready)
          (lacking u sound some c rests w inv q s known e)

  rest : Rest on w
  rest (Act q child) = go (strand_of w q) refl
    where
      go : (o : Option Strand) → strand_of w q ≡ o → option_and_then (λ s. acted on w q s child (due on s)) o ≡ None
      go None e = refl
      go (Some s) e = act_rests s child q e
  rest (Apply q k) = go (strand_of w q) refl
    where
      go : (o : Option Strand) → strand_of w q ≡ o → option_and_then (λ s. applied_at on w q s k (s.pending k)) o ≡ None
      go None e = refl
      go (Some s) e = ap (applied_at on w q s k) ((nothing_pending u c rests some w inv q s e).pending_none k)

  -- ---- the youngest live strand lacks a turn

  abbrev AllOver : Entries → Type 0
  AllOver es = (q : Name) (s : Strand) → lookup q es ≡ Some s → IsOver s.status

  record Waiting (es : Entries) : Type 0 where
    place : ℕ
    within : place < u.nodelets
    among : list_any (λ e. e.1.place == place && is_turn (due on e.1)) es ≡ true
    spent : nat_lt (w.turns place) u.turns ≡ false

  lookup-first : (q : Name) (s : Strand) (es : Entries) → lookup q ((q, s) ∷ es) ≡ Some s
  lookup-first q s es = ap (λ t. if t then Some s else lookup q es) (same_name_refl q)

  youngest : (es : Entries) → AllWell w → ((q : Name) (s : Strand) → lookup q es ≡ Some s → strand_of w q ≡ Some s) → NamesDiffer es → InBirthOrder es → AllOver es ⊎ Waiting es
  youngest [] well part apart order = inl (λ q s e. absurd cc)
  youngest ((q, s) ∷ es) well part apart order = ⊎_elim first later (youngest es well part_later apart.1 order.1)
    where
      part_later : (r : Name) (t : Strand) → lookup r es ≡ Some t → strand_of w r ≡ Some t
      part_later r t e = part r t (go (same_name r q) refl)
        where
          go : (b : Bool) → same_name r q ≡ b → (if b then Some s else lookup r es) ≡ Some t
          go false f = e
          go true f = absurd (let z : None ≡ Some t = sym apart.0 ∙ ap (λ p. lookup p es) (sym (same_name_is r q f)) ∙ e in cc)

      known : strand_of w q ≡ Some s
      known = part q s (lookup-first q s es)

      later : Waiting es → AllOver ((q, s) ∷ es) ⊎ Waiting ((q, s) ∷ es)
      later h = inr (record { place = h.place; within = h.within; among = either (s.place == h.place && is_turn (due on s)) _ h.among; spent = h.spent })
        where
          either : (a b : Bool) → b ≡ true → (a || b) ≡ true
          either true b e = refl
          either false b e = e

      first : AllOver es → AllOver ((q, s) ∷ es) ⊎ Waiting ((q, s) ∷ es)
      first over = by s.status refl
        where
          all : IsOver s.status → AllOver ((q, s) ∷ es)
          all mine r t e = go (same_name r q) e
            where
              go : (b : Bool) → (if b then Some s else lookup r es) ≡ Some t → IsOver t.status
              go true f = subst (λ (y : Strand). IsOver y.status) (some_is s t f) mine
              go false f = over r t f

          -- a child stands behind, and so has ended
          no_child : LacksChild u w s → AllOver ((q, s) ∷ es) ⊎ Waiting ((q, s) ∷ es)
          no_child h = has (lookup h.child es) refl (a_child es h.depth s.children h.order h.child order.0 h.known)
            where
              valued : (t : Strand) → strand_of w h.child ≡ Some t → (status : Status) → t.status ≡ status → IsOver status → IsWell status → is_some (value_of w h.child) ≡ true
              valued t e Live f o g = absurd o
              valued t e (Trapped kind at) f o g = absurd g
              valued t e (Ended value) f o g = ap is_some (ap (option_and_then (λ (y : Strand). value_in y.status)) e ∙ ap value_in f)

              has : (o : Option Strand) → lookup h.child es ≡ o → is_some o ≡ true → AllOver ((q, s) ∷ es) ⊎ Waiting ((q, s) ∷ es)
              has None e f = absurd cc
              has (Some t) e f =
                  let there = part_later h.child t e in
                  absurd (let z : true ≡ false = sym (valued t there t.status refl (over h.child t e) (well h.child t there)) ∙ ap is_some h.unended in cc)

          by : (t : Status) → s.status ≡ t → AllOver ((q, s) ∷ es) ⊎ Waiting ((q, s) ∷ es)
          by (Ended value) e = inl (all (subst (λ (t : Status). IsOver t) (sym e) tt))
          by (Trapped kind at) e = inl (all (subst (λ (t : Status). IsOver t) (sym e) tt))
          by Live e = ⊎_elim
              (λ (h : LacksTurn u w s). inr (record {
                place = s.place;
                within = (inv.within q s known).place;
                among = ap (λ t. (t && is_turn (due on s)) || list_any (λ y. y.1.place == s.place && is_turn (due on y.1)) es) (eq-eqb s.place s.place refl)
                    ∙ ap (λ o. is_turn o || list_any (λ y. y.1.place == s.place && is_turn (due on y.1)) es) h.0;
                spent = h.1;
              }))
              (λ (h : LacksChild u w s). no_child h)
              (lacking u sound some c rests w inv q s known e)

  ended : AllWell w → NamesDiffer w.strands → Lineage w → MainHasEnded w ⊎ TurnsAreSpent on w
  ended well apart l = ⊎_elim (λ over. inl (main over (strand_of w main_name) refl l.main)) (λ h. inr (turns h)) (youngest w.strands well (λ q s e. e) apart l.order)
    where
      main : AllOver w.strands → (o : Option Strand) → strand_of w main_name ≡ o → is_some o ≡ true → MainHasEnded w
      main over None e f = absurd cc
      main over (Some s) e f = by s.status refl (over main_name s e) (well main_name s e)
        where
          by : (t : Status) → s.status ≡ t → IsOver t → IsWell t → is_some (value_of w main_name) ≡ true
          by Live g o h = absurd o
          by (Trapped kind at) g o h = absurd h
          by (Ended value) g o h = ap is_some (ap (option_and_then (λ (y : Strand). value_in y.status)) e ∙ ap value_in g)

      turns : Waiting w.strands → TurnsAreSpent on w
      turns h = (h.place, h.within, ap (λ t. t && not (nat_lt (w.turns h.place) u.turns)) h.among ∙ ap not h.spent)

-- ---- all ends

-- one of the first n nodelets has the last stamp, or none has
last_or_none : (c : Core) (n : ℕ) → ((k : ℕ) × (k < n) × ((c.nodes k).stamp ≡ last_stamp)) ⊎ ((k : ℕ) → k < n → (c.nodes k).stamp ≢ last_stamp)
last_or_none c zero = inr (λ k less. absurd (omega arith))
last_or_none c (suc n) = ⊎_elim (λ h. inl (h.0, (let z = h.1 in omega arith), h.2)) (λ h. go h ((c.nodes n).stamp == last_stamp) refl) (last_or_none c n)
  where
    go : ((k : ℕ) → k < n → (c.nodes k).stamp ≢ last_stamp) → (t : Bool) → ((c.nodes n).stamp == last_stamp) ≡ t →
        ((k : ℕ) × (k < suc n) × ((c.nodes k).stamp ≡ last_stamp)) ⊎ ((k : ℕ) → k < suc n → (c.nodes k).stamp ≢ last_stamp)
    go none true e = inl (n, omega arith, eqb-true _ _ e)
    go none false e = inr (λ k less is. at k less is (k == n) refl)
      where
        at : (k : ℕ) → k < suc n → (c.nodes k).stamp ≡ last_stamp → (t : Bool) → (k == n) ≡ t → ⊥
        at k less is true f = absurd (let z : true ≡ false = sym (eq-eqb (c.nodes n).stamp last_stamp (ap (λ j. (c.nodes j).stamp) (sym (eqb-true _ _ f)) ∙ is)) ∙ e in cc)
        at k less is false f = none k (grind (arith, eqb_tells)) is

pub never_stuck : (u : Setup) → is_sound u.code ≡ true → 1 ≤ u.nodelets → (events : List Event) (played : Played Node Packet) → IsPlayed u events played →
    IsStill u played.core → HasEnded u (setting_of u) played
never_stuck u sound some events played legal still = trapped (traps (setting_of u) (start (setting_of u)) (steps_of played.told)) refl
  where
    kept : KeptBy u sound some (start (setting_of u)) played
    kept = play_kept u sound some events (start_core u) (start (setting_of u)) played (starts u sound some) legal

    trapped : (l : List End) → traps (setting_of u) (start (setting_of u)) (steps_of played.told) ≡ l → HasEnded u (setting_of u) played
    trapped (t ∷ l) e = inl (ap (λ (m : List End). is_some (slice_get m 0)) e)
    trapped [] e = inr (⊎_elim (λ h. inl h) (λ left. inr (
      kept.world,
      kept.leads,
      rest u sound some played.core (rests left) kept.world kept.holds,
      ended u sound some played.core (rests left) kept.world kept.holds (none_trapped (setting_of u) (steps_of played.told) kept.world kept.leads e)
          (names_differ (setting_of u) (steps_of played.told) kept.world kept.leads) (lineage (setting_of u) (steps_of played.told) kept.world kept.leads),
    )) (last_or_none played.core u.nodelets))
      where
        rests : ((k : ℕ) → k < u.nodelets → (played.core.nodes k).stamp ≢ last_stamp) → Rests u played.core
        rests left = record { apart = links_apart u events played legal; timed = always_in_time u events played legal; still = still; stamps_left = left }
