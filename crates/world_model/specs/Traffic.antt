-- What a run sent between nodelets and did at each.
use Rattle.std.specs.Prelude.{ℕ, List, [], ◌∷◌, map, flat_map, find, ◌==◌, ◌&&◌, if◌then◌else◌, Option, Some, None, is_some, option_map, option_and_then, option_to_list, count_by}
use Rattle.std.specs.Option.{option_map_or}
use Rattle.std.specs.List.{list_any}
use Rattle.word_ops.specs.declared.name.Name.{Name}
use Rattle.word_ops.specs.declared.step.Step.{Step}
use Rattle.word_ops.specs.declared.step.Step.TheVariants.{Act, Apply}
use Rattle.word_ops.specs.declared.traffic.Traffic.{Traffic}
use Rattle.word_ops.specs.Naming.{same_name}
use Rattle.word_ops.specs.Report.{below}
use Rattle.data_layout.specs.Address.{owner_of}
use Rattle.world_model.specs.Action.{Action, Turn, Issue, Init, Spawn, End, Load, Fetch, Fence, Move, Where, Print, Alloc, Sync, Trap}
use Rattle.world_model.specs.World.{Setting, Item, Operation, Grant, Strand, World, strand_of}
use Rattle.world_model.specs.Step.{due, refusal_of}
use Rattle.world_model.specs.Run.{transitions, start}

-- ---- what one action counts as, done by a strand at nodelet `here` of n

-- A birth by a hint counts from the parent's place to the child's.
abbrev pub births_of : ℕ → ℕ → Action → List (ℕ × ℕ)
births_of n here Turn = []
births_of n here (Load _ _) = []
births_of n here (Issue _ _ _ _) = []
births_of n here (Fetch _ _ _) = []
births_of n here (Init _ _ _) = []
births_of n here Fence = []
births_of n here (Move _ _) = []
births_of n here Where = []
births_of n here (Print _) = []
births_of n here (Alloc _) = []
births_of n here (Spawn _ _ _ None) = []
births_of n here (Spawn _ _ _ (Some hint)) = (here, owner_of hint.address here n) ∷ []
births_of n here (Sync _) = []
births_of n here (End _) = []
births_of n here (Trap _ _) = []

-- An operation counts from the place to its owner, and an Init from the place to each nodelet.
abbrev pub posts_of : ℕ → ℕ → Action → List (ℕ × ℕ)
posts_of n here Turn = []
posts_of n here (Load _ _) = []
posts_of n here (Issue _ _ a _) = (here, owner_of a here n) ∷ []
posts_of n here (Fetch _ _ _) = []
posts_of n here (Init _ _ _) = map (λ k. (here, k)) (below n)
posts_of n here Fence = []
posts_of n here (Move _ _) = []
posts_of n here Where = []
posts_of n here (Print _) = []
posts_of n here (Alloc _) = []
posts_of n here (Spawn _ _ _ _) = []
posts_of n here (Sync _) = []
posts_of n here (End _) = []
posts_of n here (Trap _ _) = []

-- The strand that has a child to join.
abbrev pub parent_of : World → Name → Option Strand
parent_of w child = option_map (λ entry. entry.1) (find (λ entry. list_any (λ c. same_name c.1 child) entry.1.children) w.strands)

-- An end counts from the place to the parent's home.
abbrev pub dones_of : World → Name → ℕ → Action → List (ℕ × ℕ)
dones_of w name here Turn = []
dones_of w name here (Load _ _) = []
dones_of w name here (Issue _ _ _ _) = []
dones_of w name here (Fetch _ _ _) = []
dones_of w name here (Init _ _ _) = []
dones_of w name here Fence = []
dones_of w name here (Move _ _) = []
dones_of w name here Where = []
dones_of w name here (Print _) = []
dones_of w name here (Alloc _) = []
dones_of w name here (Spawn _ _ _ _) = []
dones_of w name here (Sync _) = []
dones_of w name here (End _) = map (λ parent. (here, parent.home)) (option_to_list (parent_of w name))
dones_of w name here (Trap _ _) = []

-- A Turn counts at the place.
abbrev pub turns_of : ℕ → Action → List ℕ
turns_of here Turn = here ∷ []
turns_of here (Load _ _) = []
turns_of here (Issue _ _ _ _) = []
turns_of here (Fetch _ _ _) = []
turns_of here (Init _ _ _) = []
turns_of here Fence = []
turns_of here (Move _ _) = []
turns_of here Where = []
turns_of here (Print _) = []
turns_of here (Alloc _) = []
turns_of here (Spawn _ _ _ _) = []
turns_of here (Sync _) = []
turns_of here (End _) = []
turns_of here (Trap _ _) = []

-- An operation that is done at once counts where it is done.
abbrev pub applied_of : ℕ → ℕ → Action → List ℕ
applied_of n here Turn = []
applied_of n here (Load _ _) = []
applied_of n here (Issue _ _ a _) = if owner_of a here n == here then here ∷ [] else []
applied_of n here (Fetch _ _ _) = []
applied_of n here (Init _ _ _) = here ∷ []
applied_of n here Fence = []
applied_of n here (Move _ _) = []
applied_of n here Where = []
applied_of n here (Print _) = []
applied_of n here (Alloc _) = []
applied_of n here (Spawn _ _ _ _) = []
applied_of n here (Sync _) = []
applied_of n here (End _) = []
applied_of n here (Trap _ _) = []

-- ---- what a step counts as

-- The action that has its effect when a strand acts: none where it traps in place of it.
abbrev pub effective : Setting → World → Strand → Option Action
effective u w s = option_and_then (λ action. if is_some (refusal_of u w s action) then None else Some action) (due u s)

-- What the acting strand's action counts as, if a strand acts and the action has its effect.
abbrev pub by_action : {A : Type 0} → Setting → World → (Name → ℕ → Action → List A) → Step → List A
by_action u w count (Act name child) = option_map_or (λ s. option_map_or (count name s.place) (effective u w s) []) (strand_of w name) []
by_action u w count (Apply name k) = []

-- A change of place from i to j counts once.
abbrev pub change_of : ℕ → ℕ → List (ℕ × ℕ)
change_of i j = if i == j then [] else (i, j) ∷ []

-- The change of place of the acting strand, from world w to world v.
abbrev pub moves_in : World → World → Step → List (ℕ × ℕ)
moves_in w v (Act name child) = option_map_or (λ s. option_map_or (λ t. change_of s.place t.place) (strand_of v name) []) (strand_of w name) []
moves_in w v (Apply name k) = []

-- An item that is applied counts at its nodelet where it is an operation, granted or not.
abbrev pub operations_of : ℕ → List Item → List ℕ
operations_of k [] = []
operations_of k (Operation _ _ _ _ ∷ _) = k ∷ []
operations_of k (Grant _ ∷ _) = []

-- The operations that a step applies, by nodelet.
abbrev pub applied_in : Setting → World → Step → List ℕ
applied_in u w (Act name child) = by_action u w (λ _. applied_of u.nodelets) (Act name child)
applied_in u w (Apply name k) = option_map_or (λ s. operations_of k (s.pending k)) (strand_of w name) []

-- ---- a whole run

-- How often each number under n stands in a list, in order.
abbrev pub tally : ℕ → List ℕ → List ℕ
tally n counted = map (λ k. count_by (λ x. x == k) counted) (below n)

-- How often each pair of numbers under n does.
abbrev pub table : ℕ → List (ℕ × ℕ) → List ℕ
table n counted = flat_map (λ i. map (λ j. count_by (λ x. x.0 == i && x.1 == j) counted) (below n)) (below n)

-- The traffic of a run.
abbrev pub traffic_of : Setting → List Step → Traffic
traffic_of u told =
    let n = u.nodelets in
    let ts = transitions u (start u) told in
    record {
      n = n;
      moves = table n (flat_map (λ t. moves_in t.before t.after t.done) ts);
      births = table n (flat_map (λ t. by_action u t.before (λ _. births_of n) t.done) ts);
      posts = table n (flat_map (λ t. by_action u t.before (λ _. posts_of n) t.done) ts);
      dones = table n (flat_map (λ t. by_action u t.before (dones_of t.before) t.done) ts);
      turns = tally n (flat_map (λ t. by_action u t.before (λ _. turns_of) t.done) ts);
      applied = tally n (flat_map (λ t. applied_in u t.before t.done) ts);
    }
