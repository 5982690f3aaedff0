-- What holds of each strand's function and arguments, and of those of each child, holds after every step.
use Rattle.std.proofs.Common.{◌≡◌, ℕ, List, [], ◌∷◌, Option, Some, None, refl, sym, ap, ◌∙◌, subst, Bool, true, false, ⊎_elim, ℤ, pos}
use Rattle.std.specs.Prelude.{if◌then◌else◌, ◌==◌, is_some, map, unwrap_or, option_and_then}
use Rattle.word_ops.specs.declared.name.Name.{Name}
use Rattle.word_ops.specs.Naming.{same_name}
use Rattle.word_ops.specs.declared.place.Pos.{Pos}
use Rattle.word_ops.specs.declared.step.Step.{Step}
use Rattle.word_ops.specs.declared.step.Step.TheVariants.{Act, Apply}
use Rattle.mem_atomics.specs.declared.op.Op.{Op}
use Rattle.mem_atomics.specs.declared.op.Op.TheVariants.{Store}
use Rattle.mem_atomics.specs.NewWord.{applied, fetched}
use Rattle.data_layout.specs.Address.{owner_of}
use Rattle.data_layout.specs.Cursor.{allocated_at, cursors_after}
use Rattle.world_model.specs.Action.{Action, Turn, Load, Issue, Fetch, Init, Fence, Move, Where, Print, Alloc, Spawn, Sync, End, Trap, Request, Striped, Blocked, Local, Replicated, Hint}
use Rattle.world_model.specs.Allocation.{server_of, taken_from}
use Rattle.world_model.specs.Sight.{place_after}
use Rattle.world_model.specs.World.{Setting, Extent, Item, Operation, Grant, Strand, World, strand_of, lookup, with_entry, with_strand, with_word, is_granted, with_at, with_turn, with_piece, with_answer, with_pending, with_pending_but, with_trap, with_grant, value_of, children_at, Ended}
use Rattle.world_model.specs.Effect.{sight_of, effect, own_effect, goes_on, with_child, without_children, newborn, birthplace, issued, served_with, spawned, grant_of, with_fresh, announces}
use Rattle.world_model.specs.Step.{due, step, late_after, applied_at}
use Rattle.world_model.proofs.Steps.{Acted, Refused, Done, acted_by}

some_is : (x y : World) → Some x ≡ Some y → x ≡ y
some_is x y e = cc

fresh-strands : (w : World) (k : ℕ) (fresh : Option Extent) → (with_fresh w k fresh).strands ≡ w.strands
fresh-strands w k None = refl
fresh-strands w k (Some extent) = refl

module _ (P : ℕ → List ℤ → Type 0) where
  abbrev Holds : Strand → Type 0
  Holds s = P s.function s.args

  abbrev pub Each : List (Name × Strand) → Type 0
  Each [] = Unit {0}
  Each (entry ∷ entries) = Holds entry.1 × Each entries

  pub each-found : (q : Name) (s : Strand) (es : List (Name × Strand)) → Each es → lookup q es ≡ Some s → Holds s
  each-found q s [] each e = absurd cc
  each-found q s (entry ∷ es) each e = go (same_name q entry.0) e (λ f. each-found q s es each.1 f)
    where
      go : (t : Bool) → (if t then Some entry.1 else lookup q es) ≡ Some s → (lookup q es ≡ Some s → Holds s) → Holds s
      go true f ih = let z : entry.1 ≡ s = cc in subst (λ (y : Strand). Holds y) z each.0
      go false f ih = ih f

  each-with : (q : Name) (s : Strand) (es : List (Name × Strand)) → Each es → Holds s → Each (with_entry q s es)
  each-with q s [] each holds = (holds, tt)
  each-with q s (entry ∷ es) each holds = go (same_name q entry.0) (each-with q s es each.1 holds)
    where
      go : (t : Bool) → Each (with_entry q s es) → Each (if t then (q, s) ∷ es else entry ∷ with_entry q s es)
      go true ih = (holds, each.1)
      go false ih = (each.0, ih)

  announces-hold : (n : ℕ) (s : Strand) (k : ℕ) (request : Request) (fresh : Option Extent) → Holds s → Holds (announces n s k request fresh)
  announces-hold n s k request None h = h
  announces-hold n s k (Local at c a) (Some extent) h = h
  announces-hold n s k (Striped c) (Some extent) h = h
  announces-hold n s k (Blocked b c) (Some extent) h = h
  announces-hold n s k (Replicated c) (Some extent) h = h

  module _ (u : Setting) (w : World) (each : Each w.strands) (name : Name) (s : Strand) (found : strand_of w name ≡ Some s) where
    holds : Holds s
    holds = each-found name s w.strands each found

    written : (base : World) (after : Strand) (v : World) → base.strands ≡ w.strands → Holds after → with_strand base name after ≡ v → Each v.strands
    written base after v same h e = subst (λ (y : World). Each y.strands) e
        (each-with name after base.strands (subst (λ (es : List (Name × Strand)). Each es) (sym same) each) h)

    -- an operation is issued
    issued-each : (at : Pos) (op : Op) (a x : ℤ) (v : World) → issued u w name s at op a x ≡ v → Each v.strands
    issued-each at op a x v e = go (owner_of a s.place u.nodelets == s.place) e
      where
        go : (t : Bool) → (if t then goes_on (with_word w (owner_of a s.place u.nodelets) a (applied op (w.cells (owner_of a s.place u.nodelets) a) x)) name s (owner_of a s.place u.nodelets) []
            else goes_on w name (with_pending s (owner_of a s.place u.nodelets) (Operation op a x at)) s.place []) ≡ v → Each v.strands
        go true f = written (with_word w (owner_of a s.place u.nodelets) a (applied op (w.cells (owner_of a s.place u.nodelets) a) x)) (with_answer s (owner_of a s.place u.nodelets) []) v refl holds f
        go false f = written w (with_answer (with_pending s (owner_of a s.place u.nodelets) (Operation op a x at)) s.place []) v refl holds f

    -- an allocation is served
    served-each : (request : Request) (taken : Option (ℕ × ℤ)) (v : World) → served_with u w name s request taken ≡ v → Each v.strands
    served-each request None v e = written w (with_answer s (server_of u.nodelets s.place request) (pos 0 ∷ [])) v refl holds e
    served-each request (Some (view, count)) v e =
        written (with_fresh moved (server_of u.nodelets s.place request) fresh)
        (with_answer (announces u.nodelets s (server_of u.nodelets s.place request) request fresh) (server_of u.nodelets s.place request) (allocated_at w.cursors view count ∷ [])) v
        (fresh-strands moved (server_of u.nodelets s.place request) fresh)
        (announces-hold u.nodelets s (server_of u.nodelets s.place request) request fresh holds) e
      where
        fresh : Option Extent
        fresh = grant_of u.rules (allocated_at w.cursors view count) count

        moved : World
        moved = record w { cursors = cursors_after u.nodelets w.cursors view count }

    -- an action that names no child
    own-each : (action : Action) (v : World) → own_effect u w name s action ≡ Some v → Each v.strands
    own-each Turn v e = written (with_turn w s.place) (with_answer s s.place []) v refl holds (some_is _ v e)
    own-each (Load at a) v e = written w (with_answer s (owner_of a s.place u.nodelets) (w.cells (owner_of a s.place u.nodelets) a ∷ [])) v refl holds (some_is _ v e)
    own-each (Issue at op a x) v e = issued-each at op a x v (some_is _ v e)
    own-each (Fetch at f a) v e = written (with_word w (owner_of a s.place u.nodelets) a (fetched f (w.cells (owner_of a s.place u.nodelets) a)))
        (with_answer s (owner_of a s.place u.nodelets) (w.cells (owner_of a s.place u.nodelets) a ∷ [])) v refl holds (some_is _ v e)
    own-each (Init at a x) v e = written (with_word w s.place a x) (with_answer (with_pending_but u.nodelets s s.place (Operation Store a x at)) s.place []) v refl holds (some_is _ v e)
    own-each Fence v e = written w (with_answer s s.place []) v refl holds (some_is _ v e)
    own-each (Move at a) v e = written w (with_answer s (owner_of a s.place u.nodelets) []) v refl holds (some_is _ v e)
    own-each Where v e = written w (with_answer s s.place (pos s.place ∷ [])) v refl holds (some_is _ v e)
    own-each (Print bytes) v e = written (with_piece w bytes) (with_answer s 0 []) v refl holds (some_is _ v e)
    own-each (Alloc request) v e = served-each request (taken_from u.nodelets s.place request) v (some_is _ v e)
    own-each (Spawn d function args hint) v e = absurd cc
    own-each (Sync d) v e = written w (with_answer (without_children s d) (place_after u.nodelets (sight_of u w s) (Sync d))
        (map (λ child. unwrap_or (value_of w child) (pos 0)) (children_at d s.children))) v refl holds (some_is _ v e)
    own-each (End value) v e = written w (record s { status = Ended value }) v refl holds (some_is _ v e)
    own-each (Trap at kind) v e = written w (with_trap s s.place kind at) v refl holds (some_is _ v e)

    -- a child is born
    spawned-each : (child : Name) (d function : ℕ) (args : List ℤ) (hint : Option Hint) (v : World) → P function args → spawned u w name s child d function args hint ≡ Some v → Each v.strands
    spawned-each child d function args hint v h e = go (strand_of w child) e
      where
        born : World
        born = with_strand w child (newborn function args (birthplace u.nodelets s.place hint))

        go : (o : Option Strand) → (if is_some o then None else Some (goes_on born name (with_child s d child) s.place [])) ≡ Some v → Each v.strands
        go (Some x) f = absurd cc
        go None f = subst (λ (y : World). Each y.strands) (some_is (goes_on born name (with_child s d child) s.place []) v f)
            (each-with name (with_answer (with_child s d child) s.place []) born.strands
            (each-with child (newborn function args (birthplace u.nodelets s.place hint)) w.strands each h) holds)

    effect-each : (child : Option Name) (action : Action) (v : World) → ((d function : ℕ) (args : List ℤ) (hint : Option Hint) → action ≡ Spawn d function args hint → P function args) →
        effect u w name s child action ≡ Some v → Each v.strands
    effect-each None action v h e = own-each action v e
    effect-each (Some child) (Spawn d function args hint) v h e = spawned-each child d function args hint v (h d function args hint refl) e
    effect-each (Some child) Turn v h e = absurd cc
    effect-each (Some child) (Load at a) v h e = absurd cc
    effect-each (Some child) (Issue at op a x) v h e = absurd cc
    effect-each (Some child) (Fetch at f a) v h e = absurd cc
    effect-each (Some child) (Init at a x) v h e = absurd cc
    effect-each (Some child) Fence v h e = absurd cc
    effect-each (Some child) (Move at a) v h e = absurd cc
    effect-each (Some child) Where v h e = absurd cc
    effect-each (Some child) (Print bytes) v h e = absurd cc
    effect-each (Some child) (Alloc request) v h e = absurd cc
    effect-each (Some child) (Sync d) v h e = absurd cc
    effect-each (Some child) (End value) v h e = absurd cc
    effect-each (Some child) (Trap at kind) v h e = absurd cc

    -- an item is applied
    applied-each : (k : ℕ) (items : List Item) (v : World) → applied_at u w name s k items ≡ Some v → Each v.strands
    applied-each k [] v e = absurd cc
    applied-each k (Grant extent ∷ items) v e = written (with_grant w k extent) (record s { pending = with_at s.pending k items }) v refl holds (some_is _ v e)
    applied-each k (Operation op a x at ∷ items) v e = go (is_granted u.rules w k a) (some_is _ v e)
      where
        go : (t : Bool) → (if t then with_strand (with_word w k a (applied op (w.cells k a) x)) name (record s { pending = with_at s.pending k items })
            else with_strand w name (record s { pending = with_at s.pending k items; late = Some (late_after s.late at) })) ≡ v → Each v.strands
        go true f = written (with_word w k a (applied op (w.cells k a) x)) (record s { pending = with_at s.pending k items }) v refl holds f
        go false f = written w (record s { pending = with_at s.pending k items; late = Some (late_after s.late at) }) v refl holds f

  -- where a strand is due a Spawn, what it spawns must hold
  pub step-each : (u : Setting) (w v : World) (t : Step) → Each w.strands →
      ((s : Strand) (d function : ℕ) (args : List ℤ) (hint : Option Hint) → Holds s → due u s ≡ Some (Spawn d function args hint) → P function args) →
      step u w t ≡ Some v → Each v.strands
  step-each u w v (Act name child) each spawns e = of_act (acted_by u w name child v e)
    where
      of_act : Acted u w name child v → Each v.strands
      of_act a = ⊎_elim
          (λ (r : Refused u w name a.strand child a.action v). subst (λ (y : World). Each y.strands) (sym r.is)
          (each-with name (with_trap a.strand r.refusal.place r.refusal.kind r.refusal.pos) w.strands each (each-found name a.strand w.strands each a.found)))
          (λ (d : Done u w name a.strand child a.action v). effect-each u w each name a.strand a.found child a.action v
          (λ depth function args hint is. spawns a.strand depth function args hint (each-found name a.strand w.strands each a.found) (a.due_is ∙ ap (λ (y : Action). Some y) is)) d.has)
          a.outcome
  step-each u w v (Apply name k) each spawns e = from_strand (strand_of w name) refl e
    where
      from_strand : (o : Option Strand) → strand_of w name ≡ o → option_and_then (λ s. applied_at u w name s k (s.pending k)) o ≡ Some v → Each v.strands
      from_strand None is f = absurd cc
      from_strand (Some s) is f = applied-each u w each name s is k (s.pending k) v f
