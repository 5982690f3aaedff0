-- What holds of every run.
use Rattle.std.specs.Prelude.{⊤, ◌≡◌, ◌≢◌, ◌≤◌, ◌⊎◌, ℕ, ℤ, List, [], ◌∷◌, ◌++◌, take, flat_map, true, not, ◌&&◌, ◌==◌, nat_lt, if◌then◌else◌, Option, Some, None, IsSome, option_and_then, Ok}
use Rattle.std.specs.Option.{option_map_or}
use Rattle.word_ops.specs.declared.name.Name.{Name}
use Rattle.word_ops.specs.declared.step.Step.{Step}
use Rattle.word_ops.specs.declared.step.Step.TheVariants.{Act, Apply}
use Rattle.word_ops.specs.declared.traffic.Cell.{Cell}
use Rattle.word_ops.specs.Naming.{same_name}
use Rattle.mem_atomics.specs.declared.op.Op.TheVariants.{Store}
use Rattle.data_layout.specs.Address.{owner_of}
use Rattle.data_layout.specs.Cursor.{allocated_at}
use Rattle.world_model.specs.Action.{Action, Issue, Init, Fence, Alloc, End, Request, Local, Turn, Load, Fetch, Move, Where, Print, Spawn, Sync, Trap, Striped, Blocked, Replicated}
use Rattle.world_model.specs.Allocation.{server_of, taken_from}
use Rattle.world_model.specs.World.{Setting, Extent, Item, Operation, Grant, Strand, World, lookup, strand_of, is_clear}
use Rattle.world_model.specs.Effect.{grant_of}
use Rattle.world_model.specs.Step.{due, step}
use Rattle.world_model.specs.Run.{run_from, run_of, start, Transition, transitions}
use Rattle.world_model.specs.Traffic.{effective}
use Rattle.world_model.specs.Cells.{AreCells}
use Rattle.world_model.specs.Upgrade.{settle, pending_in, next_grant, checkedly, upgraded}

-- Steps followed by more steps lead where the more lead from where the steps do.
abbrev pub RunsGoOn : Type 0
RunsGoOn = (u : Setting) (w : World) (told more : List Step) →
    run_from u w (told ++ more) ≡ option_and_then (λ v. run_from u v more) (run_from u w told)

-- The cells of other nodelets than k are the same in both worlds.
abbrev pub OnlyAt : ℕ → World → World → Type 0
OnlyAt k w v = (j : ℕ) (a : ℤ) → j ≢ k → v.cells j a ≡ w.cells j a

-- A step changes cells of one nodelet at most.
abbrev pub StepsChangeOneNodelet : Type 0
StepsChangeOneNodelet = (u : Setting) (w v : World) (t : Step) → step u w t ≡ Some v → (k : ℕ) × OnlyAt k w v

-- The words of a world have one list.
abbrev pub CellsHaveOneList : Type 0
CellsHaveOneList = (cells : ℕ → ℤ → ℤ) (listed again : List Cell) → AreCells cells listed → AreCells cells again → listed ≡ again

-- In a run, a strand that is clear has nothing pending anywhere.
abbrev pub ClearMeansNothingPending : Type 0
ClearMeansNothingPending = (u : Setting) (told : List Step) (w : World) (q : Name) (s : Strand) → 1 ≤ u.nodelets →
    run_of u told ≡ Some w → strand_of w q ≡ Some s → is_clear u.nodelets s ≡ true → (k : ℕ) → s.pending k ≡ []

-- ---- what is issued and what is applied

-- What an allocation grants, where its request takes these words.
abbrev pub granted_by : Setting → World → Option (ℕ × ℤ) → Option Extent
granted_by u w taken = option_and_then (λ words. grant_of u.rules (allocated_at w.cursors words.0 words.1) words.1) taken

-- What it leaves pending at each nodelet other than the serving one: nothing of local words.
abbrev pub announced : Request → Option Extent → List Item
announced request None = []
announced (Striped _) (Some extent) = Grant extent ∷ []
announced (Blocked _ _) (Some extent) = Grant extent ∷ []
announced (Local _ _ _) (Some extent) = []
announced (Replicated _) (Some extent) = Grant extent ∷ []

-- What an action that has its effect leaves pending at nodelet k.
abbrev pub left_by : Setting → World → Strand → Action → ℕ → List Item
left_by u w s Turn k = []
left_by u w s (Load _ _) k = []
left_by u w s (Issue at op a v) k =
    let owner = owner_of a s.place u.nodelets in
    if k == owner && not (owner == s.place) then Operation op a v at ∷ [] else []
left_by u w s (Fetch _ _ _) k = []
left_by u w s (Init at a v) k = if nat_lt k u.nodelets && not (k == s.place) then Operation Store a v at ∷ [] else []
left_by u w s Fence k = []
left_by u w s (Move _ _) k = []
left_by u w s Where k = []
left_by u w s (Print _) k = []
left_by u w s (Alloc request) k =
    if nat_lt k u.nodelets && not (k == server_of u.nodelets s.place request)
    then announced request (granted_by u w (taken_from u.nodelets s.place request))
    else []
left_by u w s (Spawn _ _ _ _) k = []
left_by u w s (Sync _) k = []
left_by u w s (End _) k = []
left_by u w s (Trap _ _) k = []

-- What a strand issues to nodelet k in a step.
abbrev pub issued_by_step : Setting → Name → ℕ → World → Step → List Item
issued_by_step u q k w (Act name child) =
    if same_name q name
    then option_map_or (λ s. option_map_or (λ action. left_by u w s action k) (effective u w s) []) (strand_of w name) []
    else []
issued_by_step u q k w (Apply name j) = []

-- What of a strand a step applies at nodelet k.
abbrev pub applied_by_step : Name → ℕ → World → Step → List Item
applied_by_step q k w (Act name child) = []
applied_by_step q k w (Apply name j) =
    if same_name q name && k == j then option_map_or (λ s. take 1 (s.pending j)) (strand_of w name) [] else []

-- What a strand issues to nodelet k in a run, by its transitions,
abbrev pub issued_by_run : Setting → Name → ℕ → List Transition → List Item
issued_by_run u q k ts = flat_map (λ t. issued_by_step u q k t.before t.done) ts

-- and what of a strand a run applies there
abbrev pub applied_by_run : Name → ℕ → List Transition → List Item
applied_by_run q k ts = flat_map (λ t. applied_by_step q k t.before t.done) ts

-- What a strand issued to a nodelet is what was applied of it there, in that order, and then what is pending.
abbrev pub PendingIsIssued : Type 0
PendingIsIssued = (u : Setting) (told : List Step) (w : World) (q : Name) (s : Strand) (k : ℕ) →
    run_of u told ≡ Some w → strand_of w q ≡ Some s →
    issued_by_run u q k (transitions u (start u) told) ≡ applied_by_run q k (transitions u (start u) told) ++ s.pending k

-- ---- what waits for it

-- A strand that acts, s before and t after, waits for all that it has issued: it is due a Fence, a child is born,
-- it is due its end, or its place changes.
abbrev pub WaitsForAll : Setting → Strand → Option Name → Strand → Type 0
WaitsForAll u s child t =
    (due u s ≡ Some Fence) ⊎ (IsSome child ⊎ (((value : ℤ) × (due u s ≡ Some (End value))) ⊎ (t.place ≢ s.place)))

-- Before such a step all that the strand has issued is applied.
abbrev pub IssuedIsAppliedBefore : Type 0
IssuedIsAppliedBefore = (u : Setting) (told : List Step) (w v : World) (q : Name) (child : Option Name) (s t : Strand) (k : ℕ) → 1 ≤ u.nodelets →
    run_of u told ≡ Some w → step u w (Act q child) ≡ Some v → strand_of w q ≡ Some s → strand_of v q ≡ Some t → WaitsForAll u s child t →
    issued_by_run u q k (transitions u (start u) told) ≡ applied_by_run q k (transitions u (start u) told)

-- ---- names, and grants that are applied

-- No two entries have one name.
abbrev pub NamesDiffer : List (Name × Strand) → Type 0
NamesDiffer [] = ⊤
NamesDiffer (entry ∷ entries) = (lookup entry.0 entries ≡ None) × NamesDiffer entries

-- In a run no two strands have one name.
abbrev pub NamesAreGivenOnce : Type 0
NamesAreGivenOnce = (u : Setting) (told : List Step) (w : World) → run_of u told ≡ Some w → NamesDiffer w.strands

-- Once the grants that stand first are applied, none stands first; and each of these steps is possible.
abbrev pub GrantsSettle : Type 0
GrantsSettle = (u : Setting) (told : List Step) (w : World) → run_of u told ≡ Some w →
    let settled = settle u (pending_in u.nodelets w) w in
    (run_from u w settled.steps ≡ Some settled.world) × (next_grant u.nodelets settled.world ≡ None)

-- A run that is written again under the checked rules is a run under them.
abbrev pub UpgradedIsRun : Type 0
UpgradedIsRun = (u : Setting) (told again : List Step) → upgraded u told ≡ Ok again → IsSome (run_of (checkedly u) again)
