-- What a run and a take leave of a strand that they do not touch.
use Rattle.std.proofs.Common.{◌≡◌, ℕ, suc, ◌-◌, ℤ, List, [], ◌∷◌, Option, Some, None, refl, sym, ap, ◌∙◌, subst, Bool, true, false, Contains}
use Rattle.std.specs.Prelude.{if◌then◌else◌, ◌==◌}
use Rattle.word_ops.specs.declared.place.Pos.{Pos}
use Rattle.word_ops.specs.declared.name.Name.{Name}
use Rattle.word_ops.specs.declared.ticket.Ticket.{Ticket}
use Rattle.word_ops.specs.Naming.{same_name}
use Rattle.word_ops.specs.Report.{below}
use Rattle.mem_atomics.specs.declared.op.Op.TheVariants.{Store}
use Rattle.data_layout.specs.Address.{owner_of}
use Rattle.data_layout.specs.Cursor.{allocated_at, cursors_after}
use Rattle.merge_law.specs.Machine.{Raw}
use Rattle.world_model.specs.Action.{Action, Turn, Load, Issue, Fetch, Init, Fence, Move, Where, Print, Alloc, Spawn, Sync, End, Trap, Request, Striped, Blocked, Local, Replicated, Hint}
use Rattle.world_model.specs.Allocation.{taken_from}
use Rattle.world_model.specs.World.{Extent, Item, Operation, Grant}
use Rattle.world_model.specs.Effect.{grant_of, birthplace}
use Rattle.world_model.specs.Step.{late_after}
use Rattle.world_model.proofs.Names.{same_name_is}
use Rattle.threadlet_code.specs.Machine.{State}
use Rattle.threadlet_code.specs.Running.{owed}
use Rattle.core_model.specs.declared.trapped.Trapped.{Trapped}
use Rattle.core_model.specs.Contexts.{Context, Body, Arrival, Issued, Ack, Returned, context_of}
use Rattle.core_model.specs.Nodes.{Setup, Node, is_granted, with_strand, without_strand, with_issued, with_acknowledged, with_result, without_results, with_trap, with_tallies, moved_from, posted_to, ended_for, sent_away, one_more, applied_here}
use Rattle.core_model.specs.Effects.{quiet, sending, only_to, for_each, operated, with_fresh, announced, allocated, next_name, child_of, counted_birth, born, ended, effect, issued}
use Rattle.core_model.specs.Runs.{last_done, run}
use Rattle.core_model.specs.Takes.{with_item, made_late, acknowledged, take}
use Rattle.core_model.specs.Touched.{parents_of, parents_by, touched_by_run, touched_by_body}
use Rattle.core_model.proofs.Invariant.ContextsByName.{context_of-with_other, context_of-without_other, context_of-name}
use Rattle.core_model.proofs.Actions.RunOutcomes.{Ways, ran_by, halted, silent_of}
use Rattle.core_model.proofs.Census.LiveStrands.{contains-first, contains-later}
use Rattle.core_model.proofs.Touched.RunsAlike.{Alike}

-- a name that is not in a list is none of those in it
pub differs : (q r : Name) (l : List Name) → (Contains l q → ⊥) → Contains l r → same_name q r ≡ false
differs q r l others has = go (same_name q r) refl
  where
    go : (b : Bool) → same_name q r ≡ b → b ≡ false
    go false e = refl
    go true e = absurd (others (subst (λ (p : Name). Contains l p) (sym (same_name_is q r e)) has))

module _ (q : Name) where
  pub chain : (v w y : Node) → Alike q v w → Alike q w y → Alike q v y
  chain v w y a b = record { context = a.context ∙ b.context; under_way = a.under_way ∙ b.under_way; results = λ d o. a.results d o ∙ b.results d o }

  -- ---- one thing changed

  beside : (v : Node) (y : Context) → same_name q y.name ≡ false → Alike q (with_strand v y) v
  beside v y ne = record { context = context_of-with_other q y v.contexts ne; under_way = refl; results = λ d o. refl }

  without : (v : Node) (r : Name) → same_name q r ≡ false → Alike q (without_strand v r) v
  without v r ne = record { context = context_of-without_other q r v.contexts ne; under_way = refl; results = λ d o. refl }

  moved : (here k : ℕ) (v : Node) → Alike q (moved_from here k v) v
  moved here k v = go (k == here)
    where
      go : (b : Bool) → Alike q (if b then v else with_tallies v (record v.tallies { moves = one_more v.tallies.moves k })) v
      go true = record { context = refl; under_way = refl; results = λ d o. refl }
      go false = record { context = refl; under_way = refl; results = λ d o. refl }

  under_way_more : (v : Node) (r : Name) (more : ℕ) → same_name q r ≡ false → Alike q (with_issued v r more) v
  under_way_more v r more ne = record { context = refl; under_way = rw ne refl; results = λ d o. refl }

  under_way_less : (v : Node) (r : Name) → same_name q r ≡ false → Alike q (with_acknowledged v r) v
  under_way_less v r ne = record { context = refl; under_way = rw ne refl; results = λ d o. refl }

  pub result_of_other : (v : Node) (t : Ticket) (value : ℤ) → same_name q t.parent ≡ false → Alike q (with_result v t value) v
  result_of_other v t value ne = record { context = refl; under_way = refl; results = λ d o. rw ne refl }

  joined_other : (v : Node) (r : Name) (d count : ℕ) → same_name q r ≡ false → Alike q (without_results v r d count) v
  joined_other v r d count ne = record { context = refl; under_way = refl; results = λ e o. rw ne refl }

  posted : (ks : List ℕ) (v : Node) → Alike q (for_each ks posted_to v) v
  posted [] v = record { context = refl; under_way = refl; results = λ d o. refl }
  posted (k ∷ ks) v = let rest : Alike q (for_each ks posted_to (posted_to k v)) (posted_to k v) = posted ks (posted_to k v) in
      record { context = rest.context; under_way = rest.under_way; results = rest.results }

  fresh : (v : Node) (o : Option Extent) → Alike q (with_fresh v o) v
  fresh v None = record { context = refl; under_way = refl; results = λ d o. refl }
  fresh v (Some extent) = record { context = refl; under_way = refl; results = λ d o. refl }

  -- ---- actions

  module _ (u : Setup) (k : ℕ) (v : Node) (x : Context) (itself : same_name q x.name ≡ false) where
    issued_alike : (at : Pos) (op : _) (a word : ℤ) (owner : ℕ) → Alike q (issued k v x.name at op a word owner).node v
    issued_alike at op a word owner = go (owner == k)
      where
        go : (b : Bool) → Alike q (if b then quiet (posted_to owner (operated v op a word)) [] else sending (posted_to owner (with_issued v x.name 1)) (only_to owner (Issued x.name (Operation op a word at)))).node v
        go true = record { context = refl; under_way = refl; results = λ d o. refl }
        go false = record { context = refl; under_way = rw itself refl; results = λ d o. refl }

    announced_alike : (y : Node) (request : Request) (o : Option Extent) (address : ℤ) → Alike q (announced u.nodelets y x.name request o address).node y
    announced_alike y request None address = record { context = refl; under_way = refl; results = λ d o. refl }
    announced_alike y (Local at words a) (Some extent) address = record { context = refl; under_way = refl; results = λ d o. refl }
    announced_alike y (Striped words) (Some extent) address = under_way_more y x.name (u.nodelets - 1) itself
    announced_alike y (Blocked blocks words) (Some extent) address = under_way_more y x.name (u.nodelets - 1) itself
    announced_alike y (Replicated words) (Some extent) address = under_way_more y x.name (u.nodelets - 1) itself

    allocated_alike : (request : Request) (o : Option (ℕ × ℤ)) → Alike q (allocated u v x.name request o).node v
    allocated_alike request None = record { context = refl; under_way = refl; results = λ d o. refl }
    allocated_alike request (Some (view, count)) =
        let address = allocated_at v.cursors view count in
        let extent = grant_of u.rules address count in
        let moved_on : Node = record v { cursors = cursors_after u.nodelets v.cursors view count } in
        let a = announced_alike (with_fresh moved_on extent) request extent address in
        let b = fresh moved_on extent in
        record { context = a.context ∙ b.context; under_way = a.under_way ∙ b.under_way; results = λ d o. a.results d o ∙ b.results d o }

    module _ (newborn : same_name q (next_name k v) ≡ false) (parent : (t : Ticket) → x.ticket ≡ Some t → same_name q t.parent ≡ false) (state : State) where
      born_alike : (y : Node) (child : Context) → child.name ≡ next_name k v → Alike q (born k y child).node y
      born_alike y child named = go (child.home == k)
        where
          go : (b : Bool) → Alike q (if b then record (quiet (with_strand y child) []) { child = Some child.name } else record (sending (sent_away y) (only_to child.home (Arrival child))) { child = Some child.name }).node y
          go true = beside y child (ap (same_name q) named ∙ newborn)
          go false = record { context = refl; under_way = refl; results = λ d o. refl }

      spawned_alike : (d f : ℕ) (args : List ℤ) (hint : Option Hint) → Alike q (effect u k v x state (Spawn d f args hint)).node v
      spawned_alike d f args None =
          let a = born_alike (record v { next_number = suc v.next_number }) (child_of u k v x state d f args (birthplace u.nodelets k None)) refl in
          record { context = a.context; under_way = a.under_way; results = a.results }
      spawned_alike d f args (Some hint) =
          let to = birthplace u.nodelets k (Some hint) in
          let a = born_alike (counted_birth (Some hint) to (record v { next_number = suc v.next_number })) (child_of u k v x state d f args to) refl in
          record { context = a.context; under_way = a.under_way; results = a.results }

      ended_alike : (o : Option Ticket) (value : ℤ) → x.ticket ≡ o → Alike q (ended k v o value).node v
      ended_alike None value has = record { context = refl; under_way = refl; results = λ d o. refl }
      ended_alike (Some t) value has = go (t.home == k)
        where
          go : (b : Bool) → Alike q (if b then quiet (ended_for t.home (with_result v t value)) [] else sending (ended_for t.home v) (only_to t.home (Returned t value))).node v
          go true = let a = result_of_other v t value (parent t has) in record { context = a.context; under_way = a.under_way; results = a.results }
          go false = record { context = refl; under_way = refl; results = λ d o. refl }

      effect_alike : (a : Action) → Alike q (effect u k v x state a).node v
      effect_alike Turn = record { context = refl; under_way = refl; results = λ d o. refl }
      effect_alike (Load at a) = record { context = refl; under_way = refl; results = λ d o. refl }
      effect_alike (Issue at op a word) = issued_alike at op a word (owner_of a k u.nodelets)
      effect_alike (Fetch at f a) = record { context = refl; under_way = refl; results = λ d o. refl }
      effect_alike (Init at a word) =
          let a' = posted (below u.nodelets) (with_issued (operated v Store a word) x.name (u.nodelets - 1)) in
          record { context = a'.context; under_way = a'.under_way ∙ rw itself refl; results = a'.results }
      effect_alike Fence = record { context = refl; under_way = refl; results = λ d o. refl }
      effect_alike (Move at a) = record { context = refl; under_way = refl; results = λ d o. refl }
      effect_alike Where = record { context = refl; under_way = refl; results = λ d o. refl }
      effect_alike (Print bytes) = record { context = refl; under_way = refl; results = λ d o. refl }
      effect_alike (Alloc request) = allocated_alike request (taken_from u.nodelets k request)
      effect_alike (Spawn d f args hint) = spawned_alike d f args hint
      effect_alike (Sync d) = joined_other v x.name d (owed d state) itself
      effect_alike (End value) = ended_alike x.ticket value refl
      effect_alike (Trap at kind) = record { context = refl; under_way = refl; results = λ d o. refl }

      trapped_alike : (y : Node) (t : Trapped) → Alike q (with_trap (without_strand y x.name) t) y
      trapped_alike y t = record { context = context_of-without_other q x.name y.contexts itself; under_way = refl; results = λ d o. refl }

      last_alike : (count : ℕ) (a : Action) → Alike q (last_done u k v x state count a).node v
      last_alike count a = by a
        where
          ends : (b : Action) → Alike q (without_strand (effect u k v x state b).node x.name) v
          ends b = chain _ (effect u k v x state b).node v (without (effect u k v x state b).node x.name itself) (effect_alike b)

          by : (b : Action) → Alike q (last_done u k v x state count b).node v
          by (Trap at kind) = trapped_alike v _
          by Turn = ends Turn
          by (Load at b) = ends (Load at b)
          by (Issue at op b word) = ends (Issue at op b word)
          by (Fetch at f b) = ends (Fetch at f b)
          by (Init at b word) = ends (Init at b word)
          by Fence = ends Fence
          by (Move at b) = ends (Move at b)
          by Where = ends Where
          by (Print bytes) = ends (Print bytes)
          by (Alloc request) = ends (Alloc request)
          by (Spawn d f args hint) = ends (Spawn d f args hint)
          by (Sync d) = ends (Sync d)
          by (End value) = ends (End value)

-- ---- a run

module _ (u : Setup) (k : ℕ) (v : Node) (p q : Name) (others : Contains (touched_by_run k v p) q → ⊥) where
  abbrev parents : List Name
  parents = parents_by (context_of p v.contexts)

  module _ (x : Context) (found : context_of p v.contexts ≡ Some x) where
    itself : same_name q x.name ≡ false
    itself = ap (same_name q) (context_of-name p v.contexts x found) ∙ differs q p (touched_by_run k v p) others (contains-first p p (next_name k v ∷ parents) refl)

    newborn : same_name q (next_name k v) ≡ false
    newborn = differs q (next_name k v) (touched_by_run k v p) others (contains-later (next_name k v) p (next_name k v ∷ parents) (contains-first (next_name k v) (next_name k v) parents refl))

    parent : (t : Ticket) → x.ticket ≡ Some t → same_name q t.parent ≡ false
    parent t has = differs q t.parent (touched_by_run k v p) others
        (contains-later t.parent p (next_name k v ∷ parents) (contains-later t.parent (next_name k v) parents
        (subst (λ (l : List Name). Contains l t.parent) (sym (ap parents_by found ∙ ap parents_of has)) (contains-first t.parent t.parent [] refl))))

  pub run_alike : (raw : Raw Node Body) → run u k v p ≡ Some raw → Alike q raw.node v
  run_alike raw made = ran_by u k v p (λ (r : Raw Node Body). Alike q r.node v) ways raw made
    where
      ways : Ways u k v p (λ (r : Raw Node Body). Alike q r.node v)
      ways = record {
        refused = λ x action at kind place way. trapped_alike q u k v x (itself x at.found) (newborn x at.found) (parent x at.found) (halted u x) v _;
        sent = λ x action at to way. let a = without q v x.name (itself x at.found) in record { context = a.context; under_way = a.under_way; results = a.results };
        stays = λ x action at way less e. beside q v (record x { state = halted u x }) (itself x at.found);
        outside_of = λ x action at way place out. chain q _ (moved_from k x.place v) v
            (trapped_alike q u k v x (itself x at.found) (newborn x at.found) (parent x at.found) (halted u x) (moved_from k x.place v) _) (moved q k x.place v);
        asked = λ x action at way out resume is sorted.
            let e = effect u k v x (halted u x) action in
            chain q _ (moved_from k x.place e.node) v (beside q (moved_from k x.place e.node) (record x { place = k; state = resume e.answer }) (itself x at.found))
            (chain q _ e.node v (moved q k x.place e.node) (effect_alike q u k v x (itself x at.found) (newborn x at.found) (parent x at.found) (halted u x) action));
        last = λ x action at way out is sorted. last_alike q u k v x (itself x at.found) (newborn x at.found) (parent x at.found) (halted u x) (suc (silent_of u x)) action;
      }

-- ---- a take

module _ (u : Setup) (k : ℕ) (v : Node) (origin : ℕ) (q : Name) where
  item_alike : (item : Item) → Alike q (with_item u v item) v
  item_alike (Grant extent) = record { context = refl; under_way = refl; results = λ d o. refl }
  item_alike (Operation op a word at) = go (is_granted u.rules v a)
    where
      go : (b : Bool) → Alike q (if b then operated v op a word else applied_here v) v
      go true = record { context = refl; under_way = refl; results = λ d o. refl }
      go false = record { context = refl; under_way = refl; results = λ d o. refl }

  late_alike : (y : Node) (r : Name) (at : Pos) (o : Option Context) → ((x : Context) → o ≡ Some x → same_name q x.name ≡ false) → Alike q (made_late y at o) y
  late_alike y r at None ne = record { context = refl; under_way = refl; results = λ d o. refl }
  late_alike y r at (Some x) ne = beside q y (record x { late = Some (late_after x.late at) }) (ne x refl)

  acknowledged_alike : (r : Name) (late : Option Pos) → same_name q r ≡ false → Alike q (acknowledged v r late) v
  acknowledged_alike r None ne = under_way_less q v r ne
  acknowledged_alike r (Some at) ne = chain q _ (with_acknowledged v r) v
      (late_alike (with_acknowledged v r) r at (context_of r v.contexts) (λ x found. ap (same_name q) (context_of-name r v.contexts x found) ∙ ne))
      (under_way_less q v r ne)

  pub take_alike : (body : Body) → (Contains (touched_by_body body) q → ⊥) → Alike q (take u k v origin body).node v
  take_alike (Arrival x) others = beside q v x (differs q x.name (x.name ∷ []) others (contains-first x.name x.name [] refl))
  take_alike (Issued r item) others = item_alike item
  take_alike (Ack r late) others = acknowledged_alike r late (differs q r (r ∷ []) others (contains-first r r [] refl))
  take_alike (Returned t value) others = result_of_other q v t value (differs q t.parent (t.parent ∷ []) others (contains-first t.parent t.parent [] refl))
