-- Where nothing can happen any more, a nodelet at which a context stands at a Turn lacks one in the world.
use Rattle.std.proofs.Common.{◌≡◌, ℕ, zero, suc, ◌<◌, ◌≤◌, List, [], ◌∷◌, Option, Some, None, refl, sym, ap, ◌∙◌, subst, arith, Bool, true, false, not, ◌&&◌, ◌||◌, option_map, nat_lt}
use Rattle.std.specs.Prelude.{if◌then◌else◌, ◌==◌}
use Rattle.std.specs.List.{list_any}
use Rattle.std.proofs.lemmas.Bool.{eqb-true, eq-eqb}
use Rattle.word_ops.specs.declared.name.Name.{Name}
use Rattle.word_ops.specs.Naming.{same_name}
use Rattle.word_ops.specs.declared.ending.End.TheVariants.{Spent}
use Rattle.word_ops.specs.declared.ending.SpentCause.TheVariants.{Turns}
use Rattle.merge_law.proofs.Somes.{some_is}
use Rattle.merge_law.proofs.Pairs.{Each}
use Rattle.threadlet_code.specs.Breaches.{is_sound}
use Rattle.threadlet_code.specs.declared.code.Code.{Code}
use Rattle.threadlet_code.specs.Machine.{State, Next, goes, asks, stops, stuck, step}
use Rattle.threadlet_code.specs.Running.{room, halts, halt}
use Rattle.threadlet_code.specs.Running as running
use Rattle.world_model.specs.Action.{Action, Turn, Load, Issue, Fetch, Init, Fence, Move, Where, Print, Alloc, Spawn, Sync, End, Trap}
use Rattle.world_model.specs.World.{Status, Live, Ended, Trapped, Strand, World, lookup, strand_of}
use Rattle.world_model.specs.Step.{due_in, last_of, due}
use Rattle.world_model.specs.Run.{is_turn, lacks_turn, spent_turns}
use Rattle.world_model.specs.Laws.{NamesDiffer}
use Rattle.world_model.proofs.Names.{same_name_refl, same_name_is}
use Rattle.core_model.specs.Contexts.{Context, context_of}
use Rattle.core_model.specs.Nodes.{Setup}
use Rattle.core_model.specs.Runs.{action_in}
use Rattle.core_model.specs.Core.{Core, setting_of}
use Rattle.core_model.specs.Agreement.{IsOf, due_here}
use Rattle.core_model.specs.CoreEnd.{stands_at_turn, lacks_turn_at, turns_end}
use Rattle.core_model.proofs.Invariant.ContextsByName.{context_of-name}
use Rattle.core_model.proofs.Invariant.StrandStates.{halted_step}
use Rattle.core_model.proofs.Invariant.Statement.{Invariant}
use Rattle.core_model.proofs.Invariant.Agreement.{contexts_are_of}
use Rattle.core_model.proofs.Census.ContextOrder.{Comes, Ascending, precedes-other}
use Rattle.core_model.proofs.Census.OrderKept.{AreInOrder}
use Rattle.core_model.proofs.NotStuck.StillCore.{Rests, stands_somewhere}
use Rattle.core_model.proofs.NotStuck.LackedTurns.{none_silent}
use Rattle.core_model.proofs.Ends.FirstBelow.{find-same}

both_ways : (a b : Bool) → (a ≡ true → b ≡ true) → (b ≡ true → a ≡ true) → a ≡ b
both_ways true b f g = sym (f refl)
both_ways false true f g = g refl
both_ways false false f g = refl

both_parts : (a b : Bool) → (a && b) ≡ true → (a ≡ true) × (b ≡ true)
both_parts true b e = (refl, e)
both_parts false b e = absurd cc

either : (a b : Bool) → b ≡ true → (a || b) ≡ true
either true b f = refl
either false b f = f

-- ---- entries of which one passes a test

abbrev Entries : Type 0
Entries = List (Name × Strand)

record Passing (p : Name × Strand → Bool) (es : Entries) : Type 0 where
  name : Name
  strand : Strand
  known : lookup name es ≡ Some strand
  passes : p (name, strand) ≡ true

passing : (p : Name × Strand → Bool) (es : Entries) → NamesDiffer es → list_any p es ≡ true → Passing p es
passing p [] apart e = absurd cc
passing p ((q, s) ∷ es) apart e = go (p (q, s)) refl e (λ f. passing p es apart.1 f)
  where
    go : (t : Bool) → p (q, s) ≡ t → (t || list_any p es) ≡ true → (list_any p es ≡ true → Passing p es) → Passing p ((q, s) ∷ es)
    go true f g ih = record { name = q; strand = s; known = ap (λ t. if t then Some s else lookup q es) (same_name_refl q); passes = f }
    go false f g ih = let r = ih g in record {
      name = r.name;
      strand = r.strand;
      known = other r (same_name r.name q) refl;
      passes = r.passes;
    }
      where
        other : (r : Passing p es) (t : Bool) → same_name r.name q ≡ t → lookup r.name ((q, s) ∷ es) ≡ Some r.strand
        other r false h = ap (λ t. if t then Some s else lookup r.name es) h ∙ r.known
        other r true h = absurd (let z : None ≡ Some r.strand = sym apart.0 ∙ ap (λ y. lookup y es) (sym (same_name_is r.name q h)) ∙ r.known in cc)

passes_any : (p : Name × Strand → Bool) (q : Name) (s : Strand) (es : Entries) → lookup q es ≡ Some s → ((r : Name) → p (r, s) ≡ true) → list_any p es ≡ true
passes_any p q s [] e holds = absurd cc
passes_any p q s ((r, t) ∷ es) e holds = go (same_name q r) e (λ f. passes_any p q s es f holds)
  where
    go : (b : Bool) → (if b then Some t else lookup q es) ≡ Some s → (lookup q es ≡ Some s → list_any p es ≡ true) → (p (r, t) || list_any p es) ≡ true
    go true f ih = ap (λ (y : Strand). p (r, y) || list_any p es) (some_is t s f) ∙ ap (λ b. b || list_any p es) (holds r)
    go false f ih = either (p (r, t)) (list_any p es) (ih f)

-- ---- contexts of which one passes a test

record Standing (p : Context → Bool) (xs : List Context) : Type 0 where
  x : Context
  found : context_of x.name xs ≡ Some x
  passes : p x ≡ true

standing : (p : Context → Bool) (xs : List Context) → Ascending xs → list_any p xs ≡ true → Standing p xs
standing p [] order e = absurd cc
standing p (y ∷ ys) order e = go (p y) refl e (λ f. standing p ys order.1 f)
  where
    -- a later one has another name
    later : (x : Context) (zs : List Context) → Each (Comes y) zs → context_of x.name zs ≡ Some x → same_name x.name y.name ≡ false
    later x [] all f = absurd cc
    later x (z ∷ zs) all f = at (same_name x.name z.name) refl f (λ g. later x zs all.1 g)
      where
        apart : (t : Bool) → same_name z.name y.name ≡ t → same_name z.name y.name ≡ false
        apart false g = g
        apart true g = absurd (precedes-other y.name z.name all.0 (sym (same_name_is z.name y.name g)))

        at : (t : Bool) → same_name x.name z.name ≡ t → (if t then Some z else context_of x.name zs) ≡ Some x → (context_of x.name zs ≡ Some x → same_name x.name y.name ≡ false) → same_name x.name y.name ≡ false
        at true is g ih = ap (λ q. same_name q y.name) (same_name_is x.name z.name is) ∙ apart (same_name z.name y.name) refl
        at false is g ih = ih g

    go : (t : Bool) → p y ≡ t → (t || list_any p ys) ≡ true → (list_any p ys ≡ true → Standing p ys) → Standing p (y ∷ ys)
    go true f g ih = record { x = y; found = ap (λ t. if t then Some y else context_of y.name ys) (same_name_refl y.name); passes = f }
    go false f g ih = let r = ih g in record {
      x = r.x;
      found = ap (λ t. if t then Some y else context_of r.x.name ys) (later r.x ys order.0 r.found) ∙ r.found;
      passes = r.passes;
    }

stands_any : (p : Context → Bool) (q : Name) (x : Context) (xs : List Context) → context_of q xs ≡ Some x → p x ≡ true → list_any p xs ≡ true
stands_any p q x [] e holds = absurd cc
stands_any p q x (y ∷ ys) e holds = go (same_name q y.name) e (λ f. stands_any p q x ys f holds)
  where
    go : (b : Bool) → (if b then Some y else context_of q ys) ≡ Some x → (context_of q ys ≡ Some x → list_any p ys ≡ true) → (p y || list_any p ys) ≡ true
    go true f ih = ap (λ (z : Context). p z || list_any p ys) (some_is y x f) ∙ ap (λ b. b || list_any p ys) holds
    go false f ih = either (p y) (list_any p ys) (ih f)

-- ---- at a Turn

turn_is : (o : Option Action) → is_turn o ≡ true → o ≡ Some Turn
turn_is None e = absurd cc
turn_is (Some Turn) e = refl
turn_is (Some (Load at a)) e = absurd cc
turn_is (Some (Issue at op a v)) e = absurd cc
turn_is (Some (Fetch at f a)) e = absurd cc
turn_is (Some (Init at a v)) e = absurd cc
turn_is (Some Fence) e = absurd cc
turn_is (Some (Move at a)) e = absurd cc
turn_is (Some Where) e = absurd cc
turn_is (Some (Print bytes)) e = absurd cc
turn_is (Some (Alloc request)) e = absurd cc
turn_is (Some (Spawn d f args hint)) e = absurd cc
turn_is (Some (Sync d)) e = absurd cc
turn_is (Some (End value)) e = absurd cc
turn_is (Some (Trap at kind)) e = absurd cc

-- only a live strand is due anything
pub live_by : (t : Status) (o : Option Action) (action : Action) → due_in t o ≡ Some action → t ≡ Live
live_by Live o action e = refl
live_by (Ended value) o action e = absurd cc
live_by (Trapped kind at) o action e = absurd cc

-- ---- where a strand halts that has no silent instruction before it

silent_grows : (n : ℕ) (code : Code) (done : ℕ) (state : State) (next : Next) → done ≤ (halts n code done state next).silent
silent_grows zero code done state next = omega arith
silent_grows (suc n) code done state (goes after) = let h = silent_grows n code (suc done) after (step code after) in omega arith
silent_grows (suc n) code done state (asks action resume) = omega arith
silent_grows (suc n) code done state (stops action) = omega arith
silent_grows (suc n) code done state stuck = omega arith

halts_here : (n : ℕ) (code : Code) (state : State) (next : Next) → (halts n code 0 state next).silent ≡ 0 → (halts n code 0 state next).state ≡ state
halts_here zero code state next e = refl
halts_here (suc n) code state (goes after) e = absurd (let h = silent_grows n code 1 after (step code after) in omega arith)
halts_here (suc n) code state (asks action resume) e = refl
halts_here (suc n) code state (stops action) e = refl
halts_here (suc n) code state stuck e = refl

-- so it is before an action
halts_before : (n : ℕ) (code : Code) (state : State) (next : Next) (action : Action) → action_in next ≡ Some action → (halts n code 0 state next).state ≡ state
halts_before zero code state next action e = refl
halts_before (suc n) code state (goes after) action e = absurd cc
halts_before (suc n) code state (asks a resume) action e = refl
halts_before (suc n) code state (stops a) action e = refl
halts_before (suc n) code state stuck action e = absurd cc

-- ---- the world and the nodelets agree on which nodelets lack a turn

module _ (u : Setup) (sound : is_sound u.code ≡ true) (some : 1 ≤ u.nodelets) (c : Core) (rests : Rests u c) (order : AreInOrder c) (w : World) (inv : Invariant u c w) (apart : NamesDiffer w.strands) (k : ℕ) (inside : k < u.nodelets) where
  abbrev due_there : Name × Strand → Bool
  due_there entry = entry.1.place == k && is_turn (due (setting_of u) entry.1)

  to_core : list_any due_there w.strands ≡ true → list_any (stands_at_turn u) (c.nodes k).contexts ≡ true
  to_core e = stands_any (stands_at_turn u) r.name at.1 (c.nodes k).contexts
      (subst (λ (j : ℕ). context_of r.name (c.nodes j).contexts ≡ Some at.1) here at.3)
      (ap (λ next. is_turn (action_in next)) (ap (step u.code) (sym still) ∙ halted_step u.code sound at.1.state) ∙ ap is_turn turn)
    where
      r : Passing due_there w.strands
      r = passing due_there w.strands apart e

      tests : ((r.strand.place == k) ≡ true) × (is_turn (due (setting_of u) r.strand) ≡ true)
      tests = both_parts (r.strand.place == k) (is_turn (due (setting_of u) r.strand)) r.passes

      is_due : due (setting_of u) r.strand ≡ Some Turn
      is_due = turn_is (due (setting_of u) r.strand) tests.1

      live : r.strand.status ≡ Live
      live = live_by r.strand.status (last_of (running.acts u.code r.strand.function r.strand.args r.strand.answers)) Turn is_due

      at : (j : ℕ) × (x : Context) × (j < u.nodelets) × (context_of r.name (c.nodes j).contexts ≡ Some x)
      at = stands_somewhere u c rests some w inv r.name r.strand r.known live

      of : IsOf u (setting_of u) w at.1
      of = (contexts_are_of u sound c w inv at.0 r.name at.1 at.3).0

      same : of.strand ≡ r.strand
      same = some_is of.strand r.strand (sym of.known ∙ ap (strand_of w) (context_of-name r.name (c.nodes at.0).contexts at.1 at.3) ∙ r.known)

      turn : due_here u at.1 ≡ Some Turn
      turn = of.due_same ∙ ap (due (setting_of u)) same ∙ is_due

      here : at.0 ≡ k
      here = sym ((contexts_are_of u sound c w inv at.0 r.name at.1 at.3).1 turn) ∙ of.place ∙ ap (λ (s : Strand). s.place) same ∙ eqb-true _ _ tests.0

      still : (halt u.code at.1.state).state ≡ at.1.state
      still = halts_here (room u.code at.1.state) u.code at.1.state (step u.code at.1.state)
          (none_silent u sound some c rests w inv r.name at.0 at.1 at.2 at.3 Turn turn)

  to_world : list_any (stands_at_turn u) (c.nodes k).contexts ≡ true → list_any due_there w.strands ≡ true
  to_world e = passes_any due_there r.x.name of.strand w.strands of.known (λ q. ap (λ t. t && is_turn (due (setting_of u) of.strand)) (eq-eqb _ _ place) ∙ ap is_turn is_due)
    where
      r : Standing (stands_at_turn u) (c.nodes k).contexts
      r = standing (stands_at_turn u) (c.nodes k).contexts (order k) e

      next : action_in (step u.code r.x.state) ≡ Some Turn
      next = turn_is (action_in (step u.code r.x.state)) r.passes

      of : IsOf u (setting_of u) w r.x
      of = (contexts_are_of u sound c w inv k r.x.name r.x r.found).0

      turn : due_here u r.x ≡ Some Turn
      turn = ap action_in (sym (halted_step u.code sound r.x.state))
          ∙ ap (λ state. action_in (step u.code state)) (halts_before (room u.code r.x.state) u.code r.x.state (step u.code r.x.state) Turn next) ∙ next

      is_due : due (setting_of u) of.strand ≡ Some Turn
      is_due = sym of.due_same ∙ turn

      place : of.strand.place ≡ k
      place = sym of.place ∙ (contexts_are_of u sound c w inv k r.x.name r.x r.found).1 turn

  lack_same : lacks_turn (setting_of u) w k ≡ lacks_turn_at u (c.nodes k)
  lack_same =
      ap (λ t. t && not (nat_lt (w.turns k) u.turns)) (both_ways (list_any due_there w.strands) (list_any (stands_at_turn u) (c.nodes k).contexts) to_core to_world)
      ∙ ap (λ served. list_any (stands_at_turn u) (c.nodes k).contexts && not (nat_lt served u.turns)) (sym (inv.shares.turns k inside))

-- and so on the least of them
pub turns_same : (u : Setup) → is_sound u.code ≡ true → 1 ≤ u.nodelets → (c : Core) → Rests u c → AreInOrder c → (w : World) → Invariant u c w → NamesDiffer w.strands → spent_turns (setting_of u) w ≡ turns_end u c
turns_same u sound some c rests order w inv apart = ap (option_map (λ k. Spent k Turns))
    (find-same (lacks_turn (setting_of u) w) (λ k. lacks_turn_at u (c.nodes k)) u.nodelets (lack_same u sound some c rests order w inv apart))
