-- Once main has ended no strand lives, and no context is left.
use Rattle.std.proofs.Common.{◌≡◌, ℕ, suc, ◌≤◌, List, [], ◌∷◌, map, length, Option, Some, None, refl, sym, ap, ◌∙◌, subst, arith, Bool, true, false, ℤ, filter, ◌⊎◌, inl, is_some, option_map, option_and_then, Contains}
use Rattle.std.specs.Prelude.{if◌then◌else◌, ◌==◌, slice_get}
use Rattle.std.proofs.lemmas.Bool.{eq-eqb}
use Rattle.word_ops.specs.declared.place.Pos.{Pos}
use Rattle.word_ops.specs.declared.name.Name.{Name}
use Rattle.word_ops.specs.declared.step.Step.{Step}
use Rattle.word_ops.specs.declared.ending.TrapKind.TheVariants as trap
use Rattle.word_ops.specs.Naming.{same_name}
use Rattle.word_ops.specs.Operators.{binary_of}
use Rattle.merge_law.specs.declared.event.Event.{Event}
use Rattle.merge_law.specs.Core.{After, Played, after, told_first, play}
use Rattle.merge_law.specs.Merge.{steps_of}
use Rattle.merge_law.proofs.Somes.{FromMap, FromThen, from_map, from_then, some_is}
use Rattle.world_model.specs.Action.{Action, End, Trap}
use Rattle.world_model.specs.Activation.{word_at}
use Rattle.world_model.specs.World.{Setting, Status, Live, Strand, World, main_name, strand_of, value_in, children_at}
use Rattle.world_model.specs.Effect.{newborn}
use Rattle.world_model.specs.Step.{last_of, due}
use Rattle.world_model.specs.Step as world
use Rattle.world_model.specs.Run.{start, run_from}
use Rattle.world_model.proofs.Names.{same_name_is}
use Rattle.world_model.proofs.Settling.{names_differ}
use Rattle.threadlet_code.specs.declared.instr.Instr.{Instr}
use Rattle.threadlet_code.specs.declared.instr.Instr.TheVariants as by
use Rattle.threadlet_code.specs.declared.code.FuncCode.{FuncCode}
use Rattle.threadlet_code.specs.declared.code.Code.{Code}
use Rattle.threadlet_code.specs.Breaches.{is_sound}
use Rattle.threadlet_code.specs.Fitting.{AllTidy}
use Rattle.threadlet_code.specs.Machine.{Frame, State, Next, goes, asks, stops, stuck, onward, push, entered, divided, called, returned, place_in, step}
use Rattle.threadlet_code.specs.Running.{halt, owed}
use Rattle.threadlet_code.proofs.Stepping.{IsAt, effect, by_instruction}
use Rattle.core_model.specs.Nodes.{Setup, Node}
use Rattle.core_model.specs.Runs.{action_in}
use Rattle.core_model.specs.Machine.{Packet, machine_of}
use Rattle.core_model.specs.Core.{Core, start_core, setting_of, census}
use Rattle.core_model.specs.Laws.{IsLiveIn}
use Rattle.core_model.specs.Strands.{MainEndsLast}
use Rattle.core_model.proofs.Invariant.Links.{with_first}
use Rattle.core_model.proofs.Invariant.Views.{view}
use Rattle.core_model.proofs.Invariant.StrandStates.{IsStateOf, halted_is, halted_step, due_is}
use Rattle.core_model.proofs.Invariant.Statement.{Lives, ByStatus, Known, Invariant}
use Rattle.core_model.proofs.Invariant.OtherStrands.{stepped, Kept}
use Rattle.core_model.proofs.Invariant.Agreement.{always_due}
use Rattle.core_model.proofs.Invariant.Start.{starts}
use Rattle.core_model.proofs.Actions.LastActions.{IsAsked, IsSorted, step_sorted}
use Rattle.core_model.proofs.Events.Play.{event_kept}
use Rattle.core_model.proofs.NotStuck.Lineage.{lineage}
use Rattle.core_model.proofs.Census.LiveStrands.{contains-first, census_is_live}
use Rattle.core_model.proofs.Ends.TurnsLacked.{live_by}
use Rattle.core_model.proofs.Ends.Family.{HasParent, Family, none_lives}
use Rattle.core_model.proofs.Ends.FamilyKept.{OwesNothing, step_family}

-- ---- an end owes nothing

abbrev EndOwesNone : State → Next → Type 0
EndOwesNone state (stops (End value)) = (d : ℕ) → owed d state ≡ 0
EndOwesNone state _ = Unit {0}

divided_owes : (state : State) (p : Pos) (o : Option ℤ) (next : ℤ → State) → EndOwesNone state (divided p o (λ word. goes (next word)))
divided_owes state p None next = tt
divided_owes state p (Some word) next = tt

called_owes : (state : State) (p : Pos) (g : ℕ) (h : Option FuncCode) (words : List ℤ) (frame : Frame) (frames : State) → EndOwesNone state (called p g h words frame frames)
called_owes state p g None words frame frames = tt
called_owes state p g (Some h) words frame frames = by_depth (suc (length frames) == 256)
  where
    by_depth : (b : Bool) → EndOwesNone state (if b then stops (Trap p trap.Depth) else goes (entered g h words ∷ onward frame ∷ frames))
    by_depth true = tt
    by_depth false = tt

returned_owes : (frame : Frame) (callers : State) (word : ℤ) → frame.targets ≡ [] → EndOwesNone (frame ∷ callers) (returned word callers)
returned_owes frame (caller ∷ callers) word none = tt
returned_owes frame [] word none = λ d. go (d == 1)
  where
    go : (t : Bool) → (if t then length frame.targets else 0) ≡ 0
    go true = ap length none
    go false = refl

step_owes : (code : Code) (state : State) → AllTidy code state → EndOwesNone state (step code state)
step_owes code [] tidy = tt
step_owes code (frame ∷ frames) tidy = by_instruction code frame frames (EndOwesNone (frame ∷ frames)) tt each
  where
    each : (f : FuncCode) (instr : Instr) (words rest : List ℤ) → IsAt code frame f instr words rest → EndOwesNone (frame ∷ frames) (effect code frame frames f instr words rest)
    each f (by.Bin op) words rest a = divided_owes (frame ∷ frames) (place_in f frame.at) (binary_of op (word_at words 0) (word_at words 1)) (λ word. onward (push word (record frame { stack = rest })) ∷ frames)
    each f (by.Call g) words rest a = called_owes (frame ∷ frames) (place_in f frame.at) g (slice_get code.functions g) words (record frame { stack = rest }) frames
    each f by.Return words rest a = returned_owes frame frames (word_at words 0) (tidy.0.ready f a.known a.here)
    each f other words rest a = tt

no_children : (cs : List (ℕ × Name)) → ((d : ℕ) → length (children_at d cs) ≡ 0) → cs ≡ []
no_children [] none = refl
no_children (c ∷ cs) none = absurd (
    let one : suc (length (children_at c.0 cs)) ≡ 0 =
    sym (ap (λ (t : Bool). length (map (λ (child : ℕ × Name). child.1) (if t then c ∷ filter (λ child. child.0 == c.0) cs else filter (λ child. child.0 == c.0) cs))) (eq-eqb c.0 c.0 refl)) ∙ none c.0 in
    omega arith)

childless_end : (u : Setup) → is_sound u.code ≡ true → (s : Strand) (state : State) → IsStateOf u.code s state → s.status ≡ Live → (value : ℤ) → due (setting_of u) s ≡ Some (End value) → s.children ≡ []
childless_end u sound s state is live value e = no_children s.children (λ d. sym (there.owes d) ∙ owes d)
  where
    at : State
    at = (halt u.code state).state

    there : IsStateOf u.code s at
    there = halted_is u.code sound s state is

    a : (action : Action) × (action_in (step u.code at) ≡ Some action) × (action ≡ End value)
    a =
        let first = always_due u sound s state is in
        (first.0, ap action_in (halted_step u.code sound state) ∙ first.1, some_is first.0 (End value) (sym (due_is u sound s state first.0 is live first.1) ∙ e))

    owes : (d : ℕ) → owed d at ≡ 0
    owes = go (step u.code at) (step_owes u.code at there.tidy) (step_sorted u.code at) (a.1 ∙ ap Some a.2)
      where
        go : (next : Next) → EndOwesNone at next → IsSorted next → action_in next ≡ Some (End value) → (d : ℕ) → owed d at ≡ 0
        go (goes after) h sorted f = absurd cc
        go stuck h sorted f = absurd cc
        go (asks action resume) h sorted f = absurd (subst (λ (y : Action). IsAsked y) (some_is action (End value) f) sorted)
        go (stops action) h sorted f = let all : EndOwesNone at (stops (End value)) = subst (λ (y : Action). EndOwesNone at (stops y)) (some_is action (End value) f) h in all

owes_nothing : (u : Setup) → is_sound u.code ≡ true → (c : Core) (w : World) → Invariant u c w → OwesNothing (setting_of u) w
owes_nothing u sound c w inv q s value known e = childless_end u sound s lives.x.state lives.state live value e
  where
    live : s.status ≡ Live
    live = live_by s.status (last_of ((setting_of u).meaning.acts s.function s.args s.answers)) (End value) e

    lives : Lives u inv.tickets (view c q) q s
    lives =
        let all : Known u inv.tickets (view c q) q (Some s) = subst (λ (o : Option Strand). Known u inv.tickets (view c q) q o) known (inv.each q) in
        subst (λ (t : Status). ByStatus u inv.tickets (view c q) q s t) live all.1

-- ---- events one after the other

module _ (u : Setup) (sound : is_sound u.code ≡ true) (some : 1 ≤ u.nodelets) where
  play_family : (events : List Event) (c : Core) (w : World) (played : Played Node Packet) → Invariant u c w → Family w → play (machine_of u) events c ≡ Some played →
      (v : World) → run_from (setting_of u) w (steps_of played.told) ≡ Some v → Family v
  play_family [] c w played inv family e v run =
      subst (λ (y : World). Family y) (some_is w v (ap (λ (y : Played Node Packet). run_from (setting_of u) w (steps_of y.told)) (some_is _ _ e) ∙ run)) family
  play_family (event ∷ events) c w played inv family e v run =
      go (λ f g. play_family events first.value.core kept.world rest.value kept.holds f rest.was v g) first.value.entry.entry.step refl
    where
      first : FromThen (λ (a : After Node Packet). option_map (told_first a.entry) (play (machine_of u) events a.core)) (after (machine_of u) c event) played
      first = from_then (λ (a : After Node Packet). option_map (told_first a.entry) (play (machine_of u) events a.core)) (after (machine_of u) c event) played e

      rest : FromMap (told_first first.value.entry) (play (machine_of u) events first.value.core) played
      rest = from_map (told_first first.value.entry) (play (machine_of u) events first.value.core) played first.next

      kept : Kept u w first.value.core first.value.entry.entry.step
      kept = event_kept u sound some c w inv event first.value first.was

      told : (o : Option Step) → first.value.entry.entry.step ≡ o → run_from (setting_of u) w (with_first o (steps_of rest.value.told)) ≡ Some v
      told o f = ap (λ o'. run_from (setting_of u) w (with_first o' (steps_of rest.value.told))) (sym f) ∙ ap (λ (y : Played Node Packet). run_from (setting_of u) w (steps_of y.told)) rest.is ∙ run

      go : (Family kept.world → run_from (setting_of u) kept.world (steps_of rest.value.told) ≡ Some v → Family v) → (o : Option Step) → first.value.entry.entry.step ≡ o → Family v
      go later None f =
          let same : w ≡ kept.world = some_is w kept.world (sym (ap (stepped u w) f) ∙ kept.leads) in
          later (subst (λ (y : World). Family y) same family) (ap (λ y. run_from (setting_of u) y (steps_of rest.value.told)) (sym same) ∙ told None f)
      go later (Some t) f =
          let leads : world.step (setting_of u) w t ≡ Some kept.world = sym (ap (stepped u w) f) ∙ kept.leads in
          later (step_family (setting_of u) w kept.world t leads (owes_nothing u sound c w inv) family)
          (sym (ap (option_and_then (λ y. run_from (setting_of u) y (steps_of rest.value.told))) leads) ∙ told (Some t) f)

begins : (u : Setting) → Family (start u)
begins u = record {
  parents = λ q s known none. main q s (same_name q main_name) refl known;
  ended = λ q s value known e. alone q s (same_name q main_name) known;
}
  where
    main : (q : Name) (s : Strand) (t : Bool) → same_name q main_name ≡ t → (if t then Some (newborn u.meaning.main [] 0) else None) ≡ Some s → (q ≡ main_name) ⊎ HasParent (start u) q
    main q s true e f = inl (same_name_is q main_name e)
    main q s false e f = absurd cc

    alone : (q : Name) (s : Strand) (t : Bool) → (if t then Some (newborn u.meaning.main [] 0) else None) ≡ Some s → s.children ≡ []
    alone q s true f = subst (λ (y : Strand). y.children ≡ []) (some_is _ s f) refl
    alone q s false f = absurd cc

pub main_ends_last : MainEndsLast
main_ends_last u sound some events played legal w run main = record { all_ended = all_ended; none_live = none_live; none_left = none_left (census u played.core) refl }
  where
    all_ended : (name : Name) (s : Strand) → strand_of w name ≡ Some s → is_some (value_in s.status) ≡ true
    all_ended name s known = none_lives w
        (play_family u sound some events (start_core u) (start (setting_of u)) played (starts u sound some) (begins (setting_of u)) legal w run)
        main (names_differ (setting_of u) (steps_of played.told) w run) (lineage (setting_of u) (steps_of played.told) w run).order name s known

    none_live : (name : Name) → IsLiveIn w name → ⊥
    none_live name (s, known, live) = absurd (let z : false ≡ true = sym (ap is_some (ap value_in live)) ∙ all_ended name s known in cc)

    none_left : (names : List Name) → census u played.core ≡ names → census u played.core ≡ []
    none_left [] e = e
    none_left (q ∷ names) e =
        let census_is = census_is_live u sound some events played legal in
        let live : IsLiveIn census_is.0 q = (census_is.2 q).0 (subst (λ (l : List Name). Contains l q) (sym e) (contains-first q q names refl)) in
        absurd (none_live q (subst (λ (y : World). IsLiveIn y q) (some_is census_is.0 w (sym census_is.1 ∙ run)) live))
