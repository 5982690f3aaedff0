-- The steps of the world: a strand does the action that it is due, or what is first pending of it at a nodelet
-- is applied there.
use Rattle.std.specs.Prelude.{ℕ, ℤ, List, [], ◌∷◌, ◌&&◌, ◌||◌, ◌==◌, nat_lt, nat_le, if◌then◌else◌, Option, Some, None, option_map, option_and_then}
use Rattle.std.specs.Option.{option_or}
use Rattle.word_ops.specs.declared.place.Pos.{Pos}
use Rattle.word_ops.specs.declared.name.Name.{Name}
use Rattle.word_ops.specs.declared.step.Step.{Step}
use Rattle.word_ops.specs.declared.step.Step.TheVariants.{Act, Apply}
use Rattle.word_ops.specs.declared.ending.TrapKind.{TrapKind}
use Rattle.word_ops.specs.declared.ending.TrapKind.TheVariants.{BadAddress, OutOfBounds}
use Rattle.mem_atomics.specs.NewWord.{applied}
use Rattle.data_layout.specs.Address.{owner_of}
use Rattle.world_model.specs.Action.{Action, Load, Issue, Fetch, Init, pos_of, Turn, Fence, Move, Where, Print, Alloc, Spawn, Sync, End, Trap}
use Rattle.world_model.specs.Sight.{is_bad, is_ready, is_leaving}
use Rattle.world_model.specs.World.{Setting, Item, Operation, Grant, Status, Live, Ended, Trapped, Strand, World, is_granted, strand_of, with_at, with_strand, with_word, with_grant, with_trap}
use Rattle.world_model.specs.Effect.{sight_of, effect}

-- ---- the action that a strand is due

-- The last element of a list.
abbrev pub last_of : {A : Type 0} → List A → Option A
last_of [] = None
last_of (x ∷ []) = Some x
last_of (x ∷ y ∷ xs) = last_of (y ∷ xs)

-- Only a live strand is due an action.
abbrev pub due_in : Status → Option Action → Option Action
due_in Live action = action
due_in (Ended _) action = None
due_in (Trapped _ _) action = None

-- It is the last one that its function makes on its answers so far.
abbrev pub due : Setting → Strand → Option Action
due u s = due_in s.status (last_of (u.meaning.acts s.function s.args s.answers))

-- ---- a ready action that traps in place of its effect

-- The nodelet where the strand then is, and the trap's kind and place in the text.
pub record Refusal : Type 0 where
  pub place : ℕ
  pub kind : TrapKind
  pub pos : Pos

-- First, a bad action traps where the strand is.
abbrev pub refused_as_bad : Setting → Strand → Action → Option Refusal
refused_as_bad u s action =
    if is_bad u.nodelets action then Some (record { place = s.place; kind = BadAddress; pos = pos_of action }) else None

-- Next, a late strand traps before it leaves, at its late position.
abbrev pub refused_as_late : Setting → World → Strand → Action → Option Refusal
refused_as_late u w s action =
    if is_leaving u.nodelets (sight_of u w s) action
    then option_map (λ at. record { place = s.place; kind = OutOfBounds; pos = at }) s.late
    else None

-- The nodelet and the address of the word that an action uses at once: for a load or a fetch at the owner, for
-- an operation where the strand is at the owner, and for an Init at the place.
abbrev pub used_at_once : ℕ → ℕ → Action → Option (ℕ × ℤ)
used_at_once n here Turn = None
used_at_once n here (Load _ a) = Some (owner_of a here n, a)
used_at_once n here (Issue _ _ a _) = if owner_of a here n == here then Some (here, a) else None
used_at_once n here (Fetch _ _ a) = Some (owner_of a here n, a)
used_at_once n here (Init _ a _) = Some (here, a)
used_at_once n here Fence = None
used_at_once n here (Move _ _) = None
used_at_once n here Where = None
used_at_once n here (Print _) = None
used_at_once n here (Alloc _) = None
used_at_once n here (Spawn _ _ _ _) = None
used_at_once n here (Sync _) = None
used_at_once n here (End _) = None
used_at_once n here (Trap _ _) = None

-- Last, an action traps at the nodelet where it would use a word that is not granted there.
abbrev pub refused_as_outside : Setting → World → Action → Option (ℕ × ℤ) → Option Refusal
refused_as_outside u w action None = None
refused_as_outside u w action (Some (k, a)) =
    if is_granted u.rules w k a then None else Some (record { place = k; kind = OutOfBounds; pos = pos_of action })

-- The first of these that applies.
abbrev pub refusal_of : Setting → World → Strand → Action → Option Refusal
refusal_of u w s action =
    option_or (refused_as_bad u s action)
    (option_or (refused_as_late u w s action)
    (refused_as_outside u w action (used_at_once u.nodelets s.place action)))

-- ---- a strand acts

-- A refused action names no child and makes the strand trap. Any other has its effect.
abbrev pub done_by : Setting → World → Name → Strand → Option Name → Action → Option Refusal → Option World
done_by u w name s child action None = effect u w name s child action
done_by u w name s (Some child) action (Some refusal) = None
done_by u w name s None action (Some refusal) = Some (with_strand w name (with_trap s refusal.place refusal.kind refusal.pos))

-- An action is done only where it is ready.
abbrev pub acted : Setting → World → Name → Strand → Option Name → Option Action → Option World
acted u w name s child None = None
acted u w name s child (Some action) =
    if is_ready u.nodelets u.turns (sight_of u w s) action
    then done_by u w name s child action (refusal_of u w s action)
    else None

-- ---- an item is applied

-- The lesser of two places in a text, by line and then column.
abbrev pub lesser_pos : Pos → Pos → Pos
lesser_pos p q = if nat_lt p.line q.line || (p.line == q.line && nat_le p.column q.column) then p else q

-- The late position of a strand once another operation is refused: the lesser one.
abbrev pub late_after : Option Pos → Pos → Pos
late_after None at = at
late_after (Some late) at = lesser_pos late at

-- The first item leaves its list. A grant is added to the nodelet's. An operation on a granted word leaves the
-- new word, and any other only makes its strand late.
abbrev pub applied_at : Setting → World → Name → Strand → ℕ → List Item → Option World
applied_at u w name s k [] = None
applied_at u w name s k (Grant extent ∷ items) =
    Some (with_strand (with_grant w k extent) name (record s { pending = with_at s.pending k items }))
applied_at u w name s k (Operation op a v at ∷ items) =
    Some (if is_granted u.rules w k a
    then with_strand (with_word w k a (applied op (w.cells k a) v)) name (record s { pending = with_at s.pending k items })
    else with_strand w name (record s { pending = with_at s.pending k items; late = Some (late_after s.late at) }))

-- ---- a step

-- The world after a step, and none where the step is not possible.
abbrev pub step : Setting → World → Step → Option World
step u w (Act name child) = option_and_then (λ s. acted u w name s child (due u s)) (strand_of w name)
step u w (Apply name k) = option_and_then (λ s. applied_at u w name s k (s.pending k)) (strand_of w name)
