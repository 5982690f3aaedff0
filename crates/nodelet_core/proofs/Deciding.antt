-- What decides the way of an action is what the code carries of it.
use Rattle.std.proofs.Common.{◌≡◌, ℕ, Bool, Option, Some, None, refl, ap, ◌∙◌}
use Rattle.word_ops.specs.declared.place.Pos.{Pos}
use Rattle.world_model.specs.Action.{Action, Turn, Load, Issue, Fetch, Init, Fence, Move, Where, Print, Alloc, Spawn, Sync, End, Trap, Striped, Blocked, Local, Replicated}
use Rattle.world_model.specs.Sight.{Sight}
use Rattle.nodelet_core.specs.code.Dues.{due_of, asked}
use Rattle.core_model.specs.Runs.{way_of}

module _ (n turns : ℕ) (here home served : ℕ) (clear : Bool) (late : Option Pos) (free : Bool) where
  -- What a context sees, by what it sees of the children of each activation.
  abbrev pub sees : (ℕ → Bool) → (ℕ → Bool) → Sight
  sees childless all_ended = record {
    here = here;
    home = home;
    clear = clear;
    served = served;
    childless = childless;
    all_ended = all_ended;
    late = late;
  }

  -- It decides the way of an action by the activation alone that the action is of.
  pub decided : (childless all_ended : ℕ → Bool) (none ended : Bool) (action : Action)
      → ((d : ℕ) → action ≡ Sync d → (childless d ≡ none) × (all_ended d ≡ ended))
      → way_of n turns (sees childless all_ended) action free ≡ way_of n turns (sees (λ d. none) (λ d. ended)) (asked (due_of action)) free
  decided f g none ended Turn e = refl
  decided f g none ended (Load at a) e = refl
  decided f g none ended (Issue at op a v) e = refl
  decided f g none ended (Fetch at op a) e = refl
  decided f g none ended (Init at a v) e = refl
  decided f g none ended Fence e = refl
  decided f g none ended (Move at a) e = refl
  decided f g none ended Where e = refl
  decided f g none ended (Print bytes) e = refl
  decided f g none ended (Alloc (Striped words)) e = refl
  decided f g none ended (Alloc (Blocked blocks words)) e = refl
  decided f g none ended (Alloc (Local at words address)) e = refl
  decided f g none ended (Alloc (Replicated words)) e = refl
  decided f g none ended (Spawn d function args None) e = refl
  decided f g none ended (Spawn d function args (Some hint)) e = refl
  decided f g none ended (Sync d) e =
      let p = e d refl in
      ap (λ x. way_of n turns (sees (λ _. x) (λ _. g d)) (Sync 0) free) p.0
      ∙ ap (λ x. way_of n turns (sees (λ _. none) (λ _. x)) (Sync 0) free) p.1
  decided f g none ended (End value) e = refl
  decided f g none ended (Trap at kind) e = refl
