-- Runs, and how they end.
use Rattle.std.specs.Prelude.{◌≡◌, ℕ, ◌-◌, ◌^◌, pos, List, [], ◌∷◌, Bool, true, false, ◌&&◌, ◌==◌, not, nat_lt, slice_get, find, filter_map, position, if◌then◌else◌, Option, Some, None, option_map, option_and_then}
use Rattle.std.specs.List.{list_any, concat}
use Rattle.std.specs.Option.{option_or, option_map_or}
use Rattle.word_ops.specs.declared.name.Name.{Name}
use Rattle.word_ops.specs.declared.step.Step.{Step}
use Rattle.word_ops.specs.declared.step.Step.TheVariants.{Act, Apply}
use Rattle.word_ops.specs.declared.step.Entry.{Entry}
use Rattle.word_ops.specs.declared.ending.End.{End}
use Rattle.word_ops.specs.declared.ending.End.TheVariants.{Done, Trap, Spent}
use Rattle.word_ops.specs.declared.ending.SpentCause.TheVariants.{Turns, Stamps}
use Rattle.word_ops.specs.Report.{below}
use Rattle.data_layout.specs.Address.{address_at}
use Rattle.data_layout.specs.Cursor.{first_cursor}
use Rattle.world_model.specs.Action.{Action, Turn}
use Rattle.world_model.specs.World.{Setting, Extent, Status, Live, Ended, Trapped, World, strand_of, value_of, main_name}
use Rattle.world_model.specs.Effect.{newborn}
use Rattle.world_model.specs.Step.{last_of, due, step}

-- ---- runs

-- The words granted at a nodelet before any step: its copies of the replicated globals, and at nodelet 0 the
-- plain globals.
abbrev pub first_grants : ℕ → ℕ → ℕ → List Extent
first_grants globals replicated k =
    let copies : Extent = record { first = address_at 31 0; count = replicated } in
    let plain : Extent = record { first = address_at 32 0; count = globals } in
    if k == 0 then plain ∷ copies ∷ [] else copies ∷ []

-- The world before any step: every cell is 0, and the one strand is main, at nodelet 0.
abbrev pub start : Setting → World
start u = record {
  cells = λ _ _. pos 0;
  grants = first_grants u.meaning.globals u.meaning.replicated;
  cursors = first_cursor u.nodelets u.meaning.globals u.meaning.replicated;
  pieces = [];
  turns = λ _. 0;
  strands = (main_name, newborn u.meaning.main [] 0) ∷ [];
}

-- The world after steps from a world on, and none where one of them is not possible.
abbrev pub run_from : Setting → World → List Step → Option World
run_from u w [] = Some w
run_from u w (t ∷ told) = option_and_then (λ v. run_from u v told) (step u w t)

-- The world after a run of these steps.
abbrev pub run_of : Setting → List Step → Option World
run_of u told = run_from u (start u) told

-- Nothing is possible any more: no strand can act, and nothing pending can be applied.
abbrev pub Rest : Setting → World → Type 0
Rest u w = (t : Step) → step u w t ≡ None

-- The output: the pieces in their order.
abbrev pub out_text : World → List ℕ
out_text w = concat w.pieces

-- ---- the steps of a run, one by one

-- A step, with the world before it and the one after it.
pub record Transition : Type 0 where
  pub before : World
  pub done : Step
  pub after : World

-- The transitions of steps from a world on, as far as these are possible.
abbrev pub transitions : Setting → World → List Step → List Transition
transitions u w [] = []
transitions u w (t ∷ told) =
    option_map_or (λ v. record { before = w; done = t; after = v } ∷ transitions u v told) (step u w t) []

-- ---- endings

-- How the run ends where this status is that of a strand which has just acted.
abbrev pub trap_in : Name → Status → Option End
trap_in name Live = None
trap_in name (Ended value) = None
trap_in name (Trapped kind at) = Some (Trap kind at name)

-- Whom a step makes trapped: the strand that acts, if any.
abbrev pub trap_by : Step → World → Option End
trap_by (Act name child) w = option_and_then (λ s. trap_in name s.status) (strand_of w name)
trap_by (Apply name k) w = None

-- The first strand that a run makes trapped.
abbrev pub first_trap : Setting → List Step → Option End
first_trap u told = slice_get (filter_map (λ t. trap_by t.done t.after) (transitions u (start u) told)) 0

-- The least nodelet whose last entry has the last stamp.
abbrev pub spent_stamps : List (List Entry) → Option End
spent_stamps parts =
    let is_last : Entry → Bool = λ entry. entry.stamp == 2 ^ 64 - 1 in
    option_map (λ k. Spent k Stamps) (position (λ part. option_map_or is_last (last_of part) false) parts)

-- The action is a Turn.
abbrev pub is_turn : Option Action → Bool
is_turn (Some Turn) = true
is_turn _ = false

-- A live strand is due a Turn at nodelet k, where all turns are served.
abbrev pub lacks_turn : Setting → World → ℕ → Bool
lacks_turn u w k =
    list_any (λ entry. entry.1.place == k && is_turn (due u entry.1)) w.strands && not (nat_lt (w.turns k) u.turns)

-- The least such nodelet.
abbrev pub spent_turns : Setting → World → Option End
spent_turns u w = option_map (λ k. Spent k Turns) (find (lacks_turn u w) (below u.nodelets))

-- The ending of a run that leads to the world w: the first trap; else main's value; else stamps that are spent,
-- else turns.
abbrev pub end_in : Setting → List Step → List (List Entry) → World → Option End
end_in u told parts w =
    option_or (first_trap u told)
    (option_or (option_map (λ value. Done value) (value_of w main_name))
    (option_or (spent_stamps parts) (spent_turns u w)))

-- How a run ended, where the nodelets kept these entries; none where it is no run, or has not ended.
abbrev pub end_of : Setting → List Step → List (List Entry) → Option End
end_of u told parts = option_and_then (end_in u told parts) (run_of u told)
