-- Meanings by which each strand is due the same action make the same steps.
use Rattle.std.proofs.Common.{◌≡◌, ℕ, List, [], ◌∷◌, Option, Some, None, refl, sym, ap, ◌∙◌, Bool, true, false, ℤ}
use Rattle.std.specs.Prelude.{if◌then◌else◌, ◌==◌, ◌&&◌, ◌||◌, not, nat_lt, option_and_then}
use Rattle.std.specs.Option.{option_or}
use Rattle.std.specs.List.{list_any}
use Rattle.word_ops.specs.declared.name.Name.{Name}
use Rattle.word_ops.specs.Naming.{same_name}
use Rattle.word_ops.specs.declared.step.Step.{Step}
use Rattle.word_ops.specs.declared.step.Step.TheVariants.{Act, Apply}
use Rattle.world_model.specs.Action.{Action, Turn, Load, Issue, Fetch, Init, Fence, Move, Where, Print, Alloc, Spawn, Sync, End, Trap, Request}
use Rattle.world_model.specs.Allocation.{taken_from}
use Rattle.world_model.specs.Meaning.{Meaning}
use Rattle.world_model.specs.Sight.{is_ready}
use Rattle.world_model.specs.World.{Setting, Item, Operation, Grant, Strand, World, strand_of, lookup}
use Rattle.world_model.specs.Effect.{sight_of, effect, own_effect, served_with}
use Rattle.world_model.specs.Step.{due, used_at_once, Refusal, refused_as_bad, refused_as_late, refused_as_outside, refusal_of, done_by, acted, applied_at, step}
use Rattle.world_model.specs.Run.{is_turn, lacks_turn}
use Rattle.core_model.specs.Nodes.{Setup}

-- a meaning on the nodelets of a run
abbrev pub on : Setup → Meaning → Setting
on u m = record { meaning = m; nodelets = u.nodelets; turns = u.turns; rules = u.rules }

module _ (u : Setup) (m m' : Meaning) where
  -- each strand of a list is due the same
  abbrev pub DueAlike : List (Name × Strand) → Type 0
  DueAlike [] = Unit {0}
  DueAlike (entry ∷ entries) = (due (on u m) entry.1 ≡ due (on u m') entry.1) × DueAlike entries

  pub due-alike : (q : Name) (s : Strand) (w : World) → DueAlike w.strands → strand_of w q ≡ Some s → due (on u m) s ≡ due (on u m') s
  due-alike q s w alike e = go w.strands alike e
    where
      go : (es : List (Name × Strand)) → DueAlike es → lookup q es ≡ Some s → due (on u m) s ≡ due (on u m') s
      go [] d f = absurd cc
      go (entry ∷ es) d f = at (same_name q entry.0) f (λ g. go es d.1 g)
        where
          at : (t : Bool) → (if t then Some entry.1 else lookup q es) ≡ Some s → (lookup q es ≡ Some s → due (on u m) s ≡ due (on u m') s) → due (on u m) s ≡ due (on u m') s
          at true g ih = let z : entry.1 ≡ s = cc in ap (due (on u m)) (sym z) ∙ d.0 ∙ ap (due (on u m')) z
          at false g ih = ih g

  -- ---- refusals and effects say nothing of the meaning

  outside-alike : (w : World) (action : Action) (used : Option (ℕ × ℤ)) → refused_as_outside (on u m) w action used ≡ refused_as_outside (on u m') w action used
  outside-alike w action None = refl
  outside-alike w action (Some (k, a)) = refl

  pub refusal-alike : (w : World) (s : Strand) (action : Action) → refusal_of (on u m) w s action ≡ refusal_of (on u m') w s action
  refusal-alike w s action =
      ap (λ (o : Option Refusal). option_or (refused_as_bad (on u m) s action) (option_or (refused_as_late (on u m) w s action) o)) (outside-alike w action (used_at_once u.nodelets s.place action))

  served-alike : (w : World) (name : Name) (s : Strand) (request : Request) (taken : Option (ℕ × ℤ)) → served_with (on u m) w name s request taken ≡ served_with (on u m') w name s request taken
  served-alike w name s request None = refl
  served-alike w name s request (Some (view, count)) = refl

  own-alike : (w : World) (name : Name) (s : Strand) (action : Action) → own_effect (on u m) w name s action ≡ own_effect (on u m') w name s action
  own-alike w name s Turn = refl
  own-alike w name s (Load at a) = refl
  own-alike w name s (Issue at op a x) = refl
  own-alike w name s (Fetch at f a) = refl
  own-alike w name s (Init at a x) = refl
  own-alike w name s Fence = refl
  own-alike w name s (Move at a) = refl
  own-alike w name s Where = refl
  own-alike w name s (Print bytes) = refl
  own-alike w name s (Alloc request) = ap (λ (y : World). Some y) (served-alike w name s request (taken_from u.nodelets s.place request))
  own-alike w name s (Spawn d function args hint) = refl
  own-alike w name s (Sync d) = refl
  own-alike w name s (End value) = refl
  own-alike w name s (Trap at kind) = refl

  effect-alike : (w : World) (name : Name) (s : Strand) (child : Option Name) (action : Action) → effect (on u m) w name s child action ≡ effect (on u m') w name s child action
  effect-alike w name s None action = own-alike w name s action
  effect-alike w name s (Some child) Turn = refl
  effect-alike w name s (Some child) (Load at a) = refl
  effect-alike w name s (Some child) (Issue at op a x) = refl
  effect-alike w name s (Some child) (Fetch at f a) = refl
  effect-alike w name s (Some child) (Init at a x) = refl
  effect-alike w name s (Some child) Fence = refl
  effect-alike w name s (Some child) (Move at a) = refl
  effect-alike w name s (Some child) Where = refl
  effect-alike w name s (Some child) (Print bytes) = refl
  effect-alike w name s (Some child) (Alloc request) = refl
  effect-alike w name s (Some child) (Spawn d function args hint) = refl
  effect-alike w name s (Some child) (Sync d) = refl
  effect-alike w name s (Some child) (End value) = refl
  effect-alike w name s (Some child) (Trap at kind) = refl

  done-alike : (w : World) (name : Name) (s : Strand) (child : Option Name) (action : Action) (r : Option Refusal) → done_by (on u m) w name s child action r ≡ done_by (on u m') w name s child action r
  done-alike w name s child action None = effect-alike w name s child action
  done-alike w name s None action (Some refusal) = refl
  done-alike w name s (Some c) action (Some refusal) = refl

  acted-alike : (w : World) (name : Name) (s : Strand) (child : Option Name) (o : Option Action) → acted (on u m) w name s child o ≡ acted (on u m') w name s child o
  acted-alike w name s child None = refl
  acted-alike w name s child (Some action) =
      ap (λ (x : Option World). if is_ready u.nodelets u.turns (sight_of (on u m) w s) action then x else None)
      (ap (done_by (on u m) w name s child action) (refusal-alike w s action) ∙ done-alike w name s child action (refusal_of (on u m') w s action))

  applied-alike : (w : World) (name : Name) (s : Strand) (k : ℕ) (items : List Item) → applied_at (on u m) w name s k items ≡ applied_at (on u m') w name s k items
  applied-alike w name s k [] = refl
  applied-alike w name s k (Grant extent ∷ items) = refl
  applied-alike w name s k (Operation op a x at ∷ items) = refl

  -- ---- steps

  pub step-alike : (w : World) (t : Step) → DueAlike w.strands → step (on u m) w t ≡ step (on u m') w t
  step-alike w (Act name child) alike = go (strand_of w name) refl
    where
      go : (o : Option Strand) → strand_of w name ≡ o →
          option_and_then (λ s. acted (on u m) w name s child (due (on u m) s)) o ≡ option_and_then (λ s. acted (on u m') w name s child (due (on u m') s)) o
      go None e = refl
      go (Some s) e = ap (acted (on u m) w name s child) (due-alike name s w alike e) ∙ acted-alike w name s child (due (on u m') s)
  step-alike w (Apply name k) alike = go (strand_of w name)
    where
      go : (o : Option Strand) → option_and_then (λ s. applied_at (on u m) w name s k (s.pending k)) o ≡ option_and_then (λ s. applied_at (on u m') w name s k (s.pending k)) o
      go None = refl
      go (Some s) = applied-alike w name s k (s.pending k)

  -- ---- turns

  pub lacks-alike : (w : World) (k : ℕ) → DueAlike w.strands → lacks_turn (on u m) w k ≡ lacks_turn (on u m') w k
  lacks-alike w k alike = ap (λ b. b && not (nat_lt (w.turns k) u.turns)) (any w.strands alike)
    where
      any : (es : List (Name × Strand)) → DueAlike es →
          list_any (λ entry. entry.1.place == k && is_turn (due (on u m) entry.1)) es ≡ list_any (λ entry. entry.1.place == k && is_turn (due (on u m') entry.1)) es
      any [] d = refl
      any (entry ∷ es) d = ap (λ (o : Option Action). (entry.1.place == k && is_turn o) || list_any (λ entry. entry.1.place == k && is_turn (due (on u m) entry.1)) es) d.0
          ∙ ap (λ b. (entry.1.place == k && is_turn (due (on u m') entry.1)) || b) (any es d.1)
