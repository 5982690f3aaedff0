-- Each step of the world keeps the family together, where a strand that is due its end has no children.
use Rattle.std.proofs.Common.{◌≡◌, ℕ, ◌⊎◌, inl, inr, List, [], ◌∷◌, Option, Some, None, refl, sym, ap, ◌∙◌, subst, Bool, true, false, ⊎_elim, ℤ, pos, not, ◌&&◌, ◌||◌, is_some, option_map, option_and_then, map, unwrap_or}
use Rattle.std.specs.Prelude.{if◌then◌else◌, ◌==◌}
use Rattle.std.specs.List.{list_all}
use Rattle.std.specs.Option.{option_or}
use Rattle.word_ops.specs.declared.name.Name.{Name}
use Rattle.word_ops.specs.declared.place.Pos.{Pos}
use Rattle.word_ops.specs.declared.step.Step.{Step}
use Rattle.word_ops.specs.declared.step.Step.TheVariants.{Act, Apply}
use Rattle.word_ops.specs.declared.ending.TrapKind.TheVariants.{OutOfBounds}
use Rattle.mem_atomics.specs.declared.op.Op.{Op}
use Rattle.mem_atomics.specs.declared.op.Op.TheVariants.{Store}
use Rattle.mem_atomics.specs.NewWord.{applied, fetched}
use Rattle.data_layout.specs.Address.{owner_of}
use Rattle.data_layout.specs.Cursor.{allocated_at, cursors_after}
use Rattle.merge_law.proofs.Somes.{some_is, swapped}
use Rattle.world_model.specs.Action.{Action, Turn, Load, Issue, Fetch, Init, Fence, Move, Where, Print, Alloc, Spawn, Sync, End, Trap, Request, Hint}
use Rattle.world_model.specs.Allocation.{server_of, taken_from}
use Rattle.world_model.specs.Sight.{is_ready, is_leaving, place_after}
use Rattle.world_model.specs.World.{Setting, Operation, Ended, Strand, World, is_empty, is_clear, lookup, strand_of, value_of, value_in, children_at, with_entry, with_strand, with_word, with_turn, with_piece, with_pending, with_pending_but, with_trap, with_answer}
use Rattle.world_model.specs.Effect.{sight_of, effect, newborn, birthplace, goes_on, issued, spawned, served_with, grant_of, with_fresh, announces, with_child, without_children}
use Rattle.world_model.specs.Step.{last_of, due, Refusal, refusal_of, applied_at, step}
use Rattle.world_model.proofs.Names.{name_cases, lookup-same, lookup-other}
use Rattle.world_model.proofs.Steps.{Acted, acted_by}
use Rattle.core_model.proofs.NotStuck.Lineage.{fresh_strands, announces_children, announces_status, Keeps, item_keeps}
use Rattle.core_model.proofs.Ends.TurnsLacked.{live_by}
use Rattle.core_model.proofs.Ends.Family.{IsAmong, among-more, among-last, among-joined, Family, Changes, none_some, family_after}

-- a strand is written into a world with these strands
changed : (w : World) (name : Name) (s : Strand) (base : World) (after : Strand) → base.strands ≡ w.strands → value_in s.status ≡ None →
    ((value : ℤ) → value_in after.status ≡ Some value → after.children ≡ []) → ((q : Name) → IsAmong q s.children → IsAmong q after.children ⊎ (is_some (value_of w q) ≡ true)) →
    Changes w name s (with_strand base name after)
changed w name s base after strands live over keeps = record {
  after = after;
  known = lookup-same name after base.strands;
  was = λ e. live;
  over = over;
  keeps = keeps;
  others = λ q ne. inl (lookup-other q name after base.strands ne ∙ ap (lookup q) strands);
}

-- it keeps its children, and has no value
plain : (w : World) (name : Name) (s : Strand) (base : World) (after : Strand) → base.strands ≡ w.strands → value_in s.status ≡ None → after.children ≡ s.children → value_in after.status ≡ None →
    Changes w name s (with_strand base name after)
plain w name s base after strands live same valueless = changed w name s base after strands live
    (λ value e. none_some (value_in after.status) value valueless e)
    (λ q h. inl (subst (λ (l : List (ℕ × Name)). IsAmong q l) (sym same) h))

as_world : (w : World) (name : Name) (s : Strand) (x v : World) → Some x ≡ Some v → Changes w name s x → Changes w name s v
as_world w name s x v e h = subst (λ (y : World). Changes w name s y) (some_is x v e) h

-- ---- a Sync that has its effect joins children that all have ended

all_of_none : {A : Type 0} (p : A → Bool) (l : List A) → is_empty l ≡ true → list_all p l ≡ true
all_of_none p [] e = refl
all_of_none p (x ∷ l) e = absurd cc

abbrev AllEnded : World → Strand → ℕ → Type 0
AllEnded w s d = list_all (λ child. is_some (value_of w child)) (children_at d s.children) ≡ true

late_refused : {A : Type 0} (f : Pos → Refusal) (leaving : Bool) (late : Option Pos) → option_or (if leaving then option_map f late else None) None ≡ None → leaving ≡ true → is_some late ≡ true → A
late_refused f true (Some at) e g h = absurd cc
late_refused f true None e g h = absurd cc
late_refused f false late e g h = absurd cc

sync_joins : (u : Setting) (w : World) (s : Strand) (d : ℕ) → is_ready u.nodelets u.turns (sight_of u w s) (Sync d) ≡ true → refusal_of u w s (Sync d) ≡ None → AllEnded w s d
sync_joins u w s d ready good = by (is_empty (children_at d s.children)) refl (list_all (λ child. is_some (value_of w child)) (children_at d s.children)) refl (s.place == s.home) refl (is_clear u.nodelets s) (is_some s.late) refl ready
  where
    by : (childless : Bool) → is_empty (children_at d s.children) ≡ childless → (ended : Bool) → list_all (λ child. is_some (value_of w child)) (children_at d s.children) ≡ ended →
        (home : Bool) → (s.place == s.home) ≡ home → (clear late : Bool) → is_some s.late ≡ late → (childless || (ended && (home || clear)) || (clear && late && not home)) ≡ true → AllEnded w s d
    by true e ended f home g clear late h i = all_of_none (λ child. is_some (value_of w child)) (children_at d s.children) e
    by false e true f home g clear late h i = f
    by false e false f home g false late h i = absurd cc
    by false e false f home g true false h i = absurd cc
    by false e false f true g true true h i = absurd cc
    by false e false f false g true true h i = late_refused (λ at. record { place = s.place; kind = OutOfBounds; pos = at }) (is_leaving u.nodelets (sight_of u w s) (Sync d)) s.late good
        (ap (λ t. not ((if t then s.place else s.home) == s.place)) e ∙ ap not (swapped s.home s.place g)) h

-- ---- what actions leave

issue_changes : (u : Setting) (w : World) (name : Name) (s : Strand) (at : Pos) (op : Op) (a word : ℤ) → value_in s.status ≡ None → Changes w name s (issued u w name s at op a word)
issue_changes u w name s at op a word live = go (owner_of a s.place u.nodelets == s.place)
  where
    go : (t : Bool) → Changes w name s
        (if t then goes_on (with_word w (owner_of a s.place u.nodelets) a (applied op (w.cells (owner_of a s.place u.nodelets) a) word)) name s (owner_of a s.place u.nodelets) []
        else goes_on w name (with_pending s (owner_of a s.place u.nodelets) (Operation op a word at)) s.place [])
    go true = plain w name s (with_word w (owner_of a s.place u.nodelets) a (applied op (w.cells (owner_of a s.place u.nodelets) a) word)) (with_answer s (owner_of a s.place u.nodelets) []) refl live refl live
    go false = plain w name s w (with_answer (with_pending s (owner_of a s.place u.nodelets) (Operation op a word at)) s.place []) refl live refl live

alloc_changes : (u : Setting) (w : World) (name : Name) (s : Strand) (request : Request) (taken : Option (ℕ × ℤ)) → value_in s.status ≡ None → Changes w name s (served_with u w name s request taken)
alloc_changes u w name s request None live = plain w name s w (with_answer s (server_of u.nodelets s.place request) (pos 0 ∷ [])) refl live refl live
alloc_changes u w name s request (Some (view, count)) live =
    let k = server_of u.nodelets s.place request in
    let address = allocated_at w.cursors view count in
    let fresh = grant_of u.rules address count in
    let moved : World = record w { cursors = cursors_after u.nodelets w.cursors view count } in
    plain w name s (with_fresh moved k fresh) (with_answer (announces u.nodelets s k request fresh) k (address ∷ [])) (fresh_strands moved k fresh) live
    (announces_children u.nodelets s k request fresh) (ap value_in (announces_status u.nodelets s k request fresh) ∙ live)

spawn_changes : (u : Setting) (w : World) (name : Name) (s : Strand) (child : Name) (d function : ℕ) (args : List ℤ) (hint : Option Hint) (v : World) → value_in s.status ≡ None →
    spawned u w name s child d function args hint ≡ Some v → Changes w name s v
spawn_changes u w name s child d function args hint v live e = go (strand_of w child) refl e
  where
    baby : Strand
    baby = newborn function args (birthplace u.nodelets s.place hint)

    after : Strand
    after = with_answer (with_child s d child) s.place []

    go : (o : Option Strand) → strand_of w child ≡ o → (if is_some o then None else Some (goes_on (with_strand w child baby) name (with_child s d child) s.place [])) ≡ Some v → Changes w name s v
    go (Some x) f g = absurd cc
    go None f g = as_world w name s _ v g (record {
      after = after;
      known = lookup-same name after (with_entry child baby w.strands);
      was = λ h. live;
      over = λ value h. none_some (value_in s.status) value live h;
      keeps = λ q h. inl (among-more q s.children ((d, child) ∷ []) h);
      others = λ q ne. ⊎_elim
          (λ is. inr (
            subst (λ (r : Name). IsAmong r after.children) (sym is) (among-last child s.children d),
            record {
              before = ap (strand_of w) is ∙ f;
              strand = baby;
              known = lookup-other q name after (with_entry child baby w.strands) ne ∙ ap (λ r. lookup r (with_entry child baby w.strands)) is ∙ lookup-same child baby w.strands;
              valueless = refl;
            },
          ))
          (λ apart. inl (lookup-other q name after (with_entry child baby w.strands) ne ∙ lookup-other q child baby w.strands apart.0))
          (name_cases q child);
    })

effect_changes : (u : Setting) (w : World) (name : Name) (s : Strand) (child : Option Name) (action : Action) (v : World) → value_in s.status ≡ None →
    ((value : ℤ) → action ≡ End value → s.children ≡ []) → ((d : ℕ) → action ≡ Sync d → AllEnded w s d) → effect u w name s child action ≡ Some v → Changes w name s v
effect_changes u w name s (Some child) (Spawn d function args hint) v live over joins e = spawn_changes u w name s child d function args hint v live e
effect_changes u w name s None (Spawn d function args hint) v live over joins e = absurd cc
effect_changes u w name s (Some child) action v live over joins e = absurd cc
effect_changes u w name s None Turn v live over joins e = as_world w name s _ v e (plain w name s (with_turn w s.place) (with_answer s s.place []) refl live refl live)
effect_changes u w name s None (Load at a) v live over joins e =
    as_world w name s _ v e (plain w name s w (with_answer s (owner_of a s.place u.nodelets) (w.cells (owner_of a s.place u.nodelets) a ∷ [])) refl live refl live)
effect_changes u w name s None (Issue at op a word) v live over joins e = as_world w name s _ v e (issue_changes u w name s at op a word live)
effect_changes u w name s None (Fetch at f a) v live over joins e =
    let k = owner_of a s.place u.nodelets in
    as_world w name s _ v e (plain w name s (with_word w k a (fetched f (w.cells k a))) (with_answer s k (w.cells k a ∷ [])) refl live refl live)
effect_changes u w name s None (Init at a word) v live over joins e =
    as_world w name s _ v e (plain w name s (with_word w s.place a word) (with_answer (with_pending_but u.nodelets s s.place (Operation Store a word at)) s.place []) refl live refl live)
effect_changes u w name s None Fence v live over joins e = as_world w name s _ v e (plain w name s w (with_answer s s.place []) refl live refl live)
effect_changes u w name s None (Move at a) v live over joins e = as_world w name s _ v e (plain w name s w (with_answer s (owner_of a s.place u.nodelets) []) refl live refl live)
effect_changes u w name s None Where v live over joins e = as_world w name s _ v e (plain w name s w (with_answer s s.place (pos s.place ∷ [])) refl live refl live)
effect_changes u w name s None (Print bytes) v live over joins e = as_world w name s _ v e (plain w name s (with_piece w bytes) (with_answer s 0 []) refl live refl live)
effect_changes u w name s None (Alloc request) v live over joins e = as_world w name s _ v e (alloc_changes u w name s request (taken_from u.nodelets s.place request) live)
effect_changes u w name s None (Sync d) v live over joins e =
    let after = with_answer (without_children s d) (place_after u.nodelets (sight_of u w s) (Sync d)) (map (λ child. unwrap_or (value_of w child) (pos 0)) (children_at d s.children)) in
    as_world w name s _ v e (changed w name s w after refl live (λ value h. none_some (value_in s.status) value live h)
    (λ q h. among-joined q d (λ child. is_some (value_of w child)) s.children (joins d refl) h))
effect_changes u w name s None (End value) v live over joins e =
    as_world w name s _ v e (changed w name s w (record s { status = Ended value }) refl live (λ x h. over value refl) (λ q h. inl h))
effect_changes u w name s None (Trap at kind) v live over joins e = as_world w name s _ v e (plain w name s w (with_trap s s.place kind at) refl live refl refl)

-- ---- steps

-- a strand that is due its end has no children
abbrev pub OwesNothing : Setting → World → Type 0
OwesNothing u w = (q : Name) (s : Strand) (value : ℤ) → strand_of w q ≡ Some s → due u s ≡ Some (End value) → s.children ≡ []

item_changes : (w : World) (name : Name) (s : Strand) (v : World) → strand_of w name ≡ Some s → Family w → Keeps w name s v → Changes w name s v
item_changes w name s v found family h = record {
  after = h.after;
  known = ap (lookup name) h.is ∙ lookup-same name h.after w.strands;
  was = λ e. ap value_in (sym h.status) ∙ e;
  over = λ value e. h.children ∙ family.ended name s value found (ap value_in (sym h.status) ∙ e);
  keeps = λ q among. inl (subst (λ (l : List (ℕ × Name)). IsAmong q l) (sym h.children) among);
  others = λ q ne. inl (ap (lookup q) h.is ∙ lookup-other q name h.after w.strands ne);
}

pub step_family : (u : Setting) (w v : World) (t : Step) → step u w t ≡ Some v → OwesNothing u w → Family w → Family v
step_family u w v (Act name child) e owes family = of_act (acted_by u w name child v e)
  where
    of_act : Acted u w name child v → Family v
    of_act a = family_after w name a.strand v a.found family (⊎_elim
        (λ r. subst (λ (y : World). Changes w name a.strand y) (sym r.is) (plain w name a.strand w (with_trap a.strand r.refusal.place r.refusal.kind r.refusal.pos) refl live refl refl))
        (λ d. effect_changes u w name a.strand child a.action v live
        (λ value is. owes name a.strand value a.found (a.due_is ∙ ap Some is))
        (λ depth is. sync_joins u w a.strand depth
        (subst (λ (y : Action). is_ready u.nodelets u.turns (sight_of u w a.strand) y ≡ true) is a.ready)
        (subst (λ (y : Action). refusal_of u w a.strand y ≡ None) is d.good))
        d.has)
        a.outcome)
      where
        live : value_in a.strand.status ≡ None
        live = ap value_in (live_by a.strand.status (last_of (u.meaning.acts a.strand.function a.strand.args a.strand.answers)) a.action a.due_is)
step_family u w v (Apply name k) e owes family = go (strand_of w name) refl e
  where
    go : (o : Option Strand) → strand_of w name ≡ o → option_and_then (λ s. applied_at u w name s k (s.pending k)) o ≡ Some v → Family v
    go None f g = absurd cc
    go (Some s) f g = family_after w name s v f family (item_changes w name s v f family (item_keeps u w name s k (s.pending k) v g))
