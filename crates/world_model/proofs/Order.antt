-- A strand that fences, spawns, ends or changes its place is clear.
use Rattle.std.proofs.Common.{◌≡◌, ◌≢◌, ℕ, ◌≤◌, ◌⊎◌, inl, inr, List, ◌++◌, Option, Some, None, refl, sym, ap, ◌∙◌, subst, Bool, true, false, ⊎_elim, ℤ}
use Rattle.std.specs.Prelude.{if◌then◌else◌, ◌==◌, ◌&&◌, ◌||◌, not, is_some, IfSome, IsSome}
use Rattle.std.specs.Option.{option_or, option_map}
use Rattle.std.proofs.lemmas.Bool.{eqb-true}
use Rattle.std.proofs.lemmas.List.{append-nil}
use Rattle.word_ops.specs.declared.name.Name.{Name}
use Rattle.word_ops.specs.declared.place.Pos.{Pos}
use Rattle.word_ops.specs.declared.step.Step.{Step}
use Rattle.word_ops.specs.declared.step.Step.TheVariants.{Act}
use Rattle.word_ops.specs.declared.ending.TrapKind.TheVariants.{BadAddress, OutOfBounds}
use Rattle.data_layout.specs.Address.{owner_of}
use Rattle.world_model.specs.Action.{Action, Turn, Load, Issue, Fetch, Init, Fence, Move, Where, Print, Alloc, Spawn, Sync, End, Trap, pos_of}
use Rattle.world_model.specs.Sight.{Sight, is_bad, can_act, is_ready, is_leaving, place_after}
use Rattle.world_model.specs.World.{Setting, Strand, World, strand_of, is_clear, is_granted}
use Rattle.world_model.specs.Effect.{sight_of, effect}
use Rattle.world_model.specs.Step.{due, step, Refusal, refusal_of, refused_as_late, refused_as_outside, used_at_once}
use Rattle.world_model.specs.Run.{run_of, start, transitions}
use Rattle.world_model.specs.Laws.{issued_by_run, applied_by_run, WaitsForAll}
use Rattle.world_model.proofs.Steps.{Done, Acted, acted_by, strand_after}
use Rattle.world_model.proofs.Bounds.{good_action, clear_means_nothing_pending}
use Rattle.world_model.proofs.Pending.{pending_is_issued}

either : (a b : Bool) → (a || b) ≡ true → (a ≡ true) ⊎ (b ≡ true)
either true b e = inl refl
either false b e = inr e

second : (a b : Bool) → a ≡ false → (a || b) ≡ true → b ≡ true
second true b f e = absurd cc
second false b f e = e

-- a Sync with children away from home waits until its strand is clear
sync_case : (childless ended home clear late : Bool) → (childless || (ended && (home || clear)) || (clear && late && not home)) ≡ true →
    (childless ≡ true) ⊎ ((home ≡ true) ⊎ (clear ≡ true))
sync_case true ended home clear late e = inl refl
sync_case false ended true clear late e = inr (inl refl)
sync_case false ended false true late e = inr (inr refl)
sync_case false true false false late e = absurd cc
sync_case false false false false late e = absurd cc

-- a good action leaves the strand in its place, or the strand is clear
stays_or_clear : (n turns : ℕ) (s : Sight) (action : Action) → can_act n turns s action ≡ true → (place_after n s action ≡ s.here) ⊎ (s.clear ≡ true)
stays_or_clear n turns s (Sync d) e = ⊎_elim
    (λ childless. inl (ap (λ t. if t then s.here else s.home) childless))
    (λ more. ⊎_elim (λ home. inl (elim (s.childless d) as (λ t. (if t then s.here else s.home) ≡ s.here) [ true ↦ refl | false ↦ sym (eqb-true _ _ home) ])) (λ clear. inr clear) more)
    (sync_case (s.childless d) (s.all_ended d) (s.here == s.home) s.clear (is_some s.late) e)
stays_or_clear n turns s Turn e = inl refl
stays_or_clear n turns s (Load at a) e = ⊎_elim (λ f. inl (eqb-true _ _ f)) (λ f. inr f) (either (owner_of a s.here n == s.here) s.clear e)
stays_or_clear n turns s (Issue at op a v) e = inl refl
stays_or_clear n turns s (Fetch at f a) e = ⊎_elim (λ f. inl (eqb-true _ _ f)) (λ f. inr f) (either (owner_of a s.here n == s.here) s.clear e)
stays_or_clear n turns s (Init at a v) e = inl refl
stays_or_clear n turns s Fence e = inl refl
stays_or_clear n turns s (Move at a) e = ⊎_elim (λ f. inl (eqb-true _ _ f)) (λ f. inr f) (either (owner_of a s.here n == s.here) s.clear e)
stays_or_clear n turns s Where e = inl refl
stays_or_clear n turns s (Print bytes) e = ⊎_elim (λ f. inl (eqb-true _ _ f)) (λ f. inr f) (either (0 == s.here) s.clear e)
stays_or_clear n turns s (Alloc request) e = ⊎_elim (λ f. inl (eqb-true _ _ f)) (λ f. inr f) (either (place_after n s (Alloc request) == s.here) s.clear e)
stays_or_clear n turns s (Spawn d f args hint) e = inl refl
stays_or_clear n turns s (End v) e = inl refl
stays_or_clear n turns s (Trap at kind) e = inl refl

-- so does one that traps in place of its effect
used_here_or_clear : (n turns : ℕ) (s : Sight) (action : Action) → can_act n turns s action ≡ true →
    IfSome (used_at_once n s.here action) (λ x. (x.0 ≡ s.here) ⊎ (s.clear ≡ true))
used_here_or_clear n turns s (Load at a) e = stays_or_clear n turns s (Load at a) e
used_here_or_clear n turns s (Fetch at f a) e = stays_or_clear n turns s (Fetch at f a) e
used_here_or_clear n turns s (Issue at op a v) e =
    elim (owner_of a s.here n == s.here) as (λ t. IfSome {T = ℕ × ℤ} (if t then Some (s.here, a) else None) (λ x. (x.0 ≡ s.here) ⊎ (s.clear ≡ true))) [ true ↦ inl refl | false ↦ tt ]
used_here_or_clear n turns s (Init at a v) e = inl refl
used_here_or_clear n turns s Turn e = tt
used_here_or_clear n turns s Fence e = tt
used_here_or_clear n turns s (Move at a) e = tt
used_here_or_clear n turns s Where e = tt
used_here_or_clear n turns s (Print bytes) e = tt
used_here_or_clear n turns s (Alloc request) e = tt
used_here_or_clear n turns s (Spawn d f args hint) e = tt
used_here_or_clear n turns s (Sync d) e = tt
used_here_or_clear n turns s (End v) e = tt
used_here_or_clear n turns s (Trap at kind) e = tt

abbrev TrapsHere : Setting → Strand → Refusal → Type 0
TrapsHere u s r = (r.place ≡ s.place) ⊎ (is_clear u.nodelets s ≡ true)

refused_here_or_clear : (u : Setting) (w : World) (s : Strand) (action : Action) → is_ready u.nodelets u.turns (sight_of u w s) action ≡ true → IfSome (refusal_of u w s action) (TrapsHere u s)
refused_here_or_clear u w s action ready = go (is_bad u.nodelets action) refl
  where
    outside : (o : Option (ℕ × ℤ)) → IfSome o (λ x. (x.0 ≡ s.place) ⊎ (is_clear u.nodelets s ≡ true)) → IfSome (refused_as_outside u w action o) (TrapsHere u s)
    outside None here = tt
    outside (Some (k, a)) here =
        elim (is_granted u.rules w k a) as (λ t. IfSome {T = Refusal} (if t then None else Some (record { place = k; kind = OutOfBounds; pos = pos_of action })) (TrapsHere u s)) [ true ↦ tt | false ↦ here ]

    late : (t : Bool) (l : Option Pos) (o : Option Refusal) → IfSome o (TrapsHere u s) →
        IfSome {T = Refusal} (option_or (if t then option_map (λ at. record { place = s.place; kind = OutOfBounds; pos = at }) l else None) o) (TrapsHere u s)
    late true (Some at) o here = inl refl
    late true None o here = here
    late false l o here = here

    go : (t : Bool) → is_bad u.nodelets action ≡ t →
        IfSome {T = Refusal} (option_or (if t then Some (record { place = s.place; kind = BadAddress; pos = pos_of action }) else None)
        (option_or (refused_as_late u w s action) (refused_as_outside u w action (used_at_once u.nodelets s.place action)))) (TrapsHere u s)
    go true is = inl refl
    go false is = late (is_leaving u.nodelets (sight_of u w s) action) s.late _ (outside _ (used_here_or_clear u.nodelets u.turns (sight_of u w s) action (second _ _ is ready)))

-- only a Spawn has its effect with a child
spawn_alone : (u : Setting) (w v : World) (name c : Name) (s : Strand) (action : Action) → effect u w name s (Some c) action ≡ Some v →
    can_act u.nodelets u.turns (sight_of u w s) action ≡ true → is_clear u.nodelets s ≡ true
spawn_alone u w v name c s (Spawn d f args hint) e can = can
spawn_alone u w v name c s action e can = absurd cc

found_is : {x y : Strand} → Some x ≡ Some y → x ≡ y
found_is e = cc

action_is : {x y : Action} → Some x ≡ Some y → x ≡ y
action_is e = cc

pub clear_before : (u : Setting) (w v : World) (q : Name) (child : Option Name) (s t : Strand) → Acted u w q child v → strand_of w q ≡ Some s → strand_of v q ≡ Some t →
    WaitsForAll u s child t → is_clear u.nodelets s ≡ true
clear_before u w v q child s t a is after comes = subst (λ x. is_clear u.nodelets x ≡ true) same
    (⊎_elim fence (λ more. ⊎_elim birth (λ rest. ⊎_elim last move rest) more) comes)
  where
    same : a.strand ≡ s
    same = found_is (sym a.found ∙ is)

    due_now : (action : Action) → due u s ≡ Some action → a.action ≡ action
    due_now action e = action_is (sym a.due_is ∙ ap (due u) same ∙ e)

    fence : due u s ≡ Some Fence → is_clear u.nodelets a.strand ≡ true
    fence e = subst (λ action. is_ready u.nodelets u.turns (sight_of u w a.strand) action ≡ true) (due_now Fence e) a.ready

    last : (value : ℤ) × (due u s ≡ Some (End value)) → is_clear u.nodelets a.strand ≡ true
    last e = subst (λ action. is_ready u.nodelets u.turns (sight_of u w a.strand) action ≡ true) (due_now (End e.0) e.1) a.ready

    can : Done u w q a.strand child a.action v → can_act u.nodelets u.turns (sight_of u w a.strand) a.action ≡ true
    can d = second _ _ (good_action u w a.strand a.action d.good) a.ready

    with_child : (o : Option Name) → child ≡ o → IsSome o → Done u w q a.strand child a.action v → is_clear u.nodelets a.strand ≡ true
    with_child None e some d = absurd cc
    with_child (Some c) e some d = spawn_alone u w v q c a.strand a.action (ap (λ o. effect u w q a.strand o a.action) (sym e) ∙ d.has) (can d)

    birth : IsSome child → is_clear u.nodelets a.strand ≡ true
    birth some = ⊎_elim
        (λ r. absurd (let z : false ≡ true = ap (λ o. is_some o) (sym r.childless) ∙ some in cc))
        (λ d. with_child child refl some d)
        a.outcome

    move : t.place ≢ s.place → is_clear u.nodelets a.strand ≡ true
    move away = ⊎_elim
        (λ r. ⊎_elim
        (λ here. absurd (away (ap (λ x. x.place) (found_is (sym after ∙ strand_after v w q _ r.is)) ∙ here ∙ ap (λ x. x.place) same)))
        (λ clear. clear)
        (subst (λ o. IfSome o (TrapsHere u a.strand)) r.why (refused_here_or_clear u w a.strand a.action a.ready)))
        (λ d. ⊎_elim
        (λ here. absurd (away (ap (λ x. x.place) (found_is (sym after ∙ strand_after v d.shape.base q d.shape.after d.shape.is)) ∙ d.shape.place ∙ here ∙ ap (λ x. x.place) same)))
        (λ clear. clear)
        (stays_or_clear u.nodelets u.turns (sight_of u w a.strand) a.action (can d)))
        a.outcome

pub issued_is_applied_before : (u : Setting) (told : List Step) (w v : World) (q : Name) (child : Option Name) (s t : Strand) (k : ℕ) → 1 ≤ u.nodelets →
    run_of u told ≡ Some w → step u w (Act q child) ≡ Some v → strand_of w q ≡ Some s → strand_of v q ≡ Some t → WaitsForAll u s child t →
    issued_by_run u q k (transitions u (start u) told) ≡ applied_by_run q k (transitions u (start u) told)
issued_is_applied_before u told w v q child s t k some run e is after comes =
    let clear : is_clear u.nodelets s ≡ true = clear_before u w v q child s t (acted_by u w q child v e) is after comes in
    pending_is_issued u told w q s k run is
    ∙ ap (λ items. applied_by_run q k (transitions u (start u) told) ++ items) (clear_means_nothing_pending u told w q s some run is clear k)
    ∙ append-nil (applied_by_run q k (transitions u (start u) told))
