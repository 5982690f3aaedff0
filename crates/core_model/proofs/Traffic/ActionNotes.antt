-- What an action that has its effect adds to the counts of its nodelet. It keeps the first trap.
use Rattle.std.proofs.Common.{◌≡◌, ℕ, suc, ◌+◌, ◌-◌, List, [], ◌∷◌, map, Option, Some, None, refl, sym, ap, ◌∙◌, Bool, true, false, ℤ, count_by}
use Rattle.std.specs.Prelude.{if◌then◌else◌, ◌==◌}
use Rattle.word_ops.specs.declared.place.Pos.{Pos}
use Rattle.word_ops.specs.declared.ticket.Ticket.{Ticket}
use Rattle.word_ops.specs.Report.{below}
use Rattle.data_layout.specs.Address.{owner_of}
use Rattle.data_layout.specs.Cursor as cursor
use Rattle.mem_atomics.specs.declared.op.Op.{Op}
use Rattle.mem_atomics.specs.declared.op.Op.TheVariants.{Store}
use Rattle.world_model.specs.Action.{Action, Turn, Load, Issue, Fetch, Init, Fence, Move, Where, Print, Alloc, Spawn, Sync, End, Trap, Request, Striped, Blocked, Local, Replicated, Hint}
use Rattle.world_model.specs.Allocation.{taken_from}
use Rattle.world_model.specs.World.{Extent, Operation}
use Rattle.world_model.specs.Effect as world
use Rattle.world_model.specs.Traffic.{births_of, posts_of, turns_of, applied_of, change_of}
use Rattle.threadlet_code.specs.Machine.{State}
use Rattle.core_model.specs.Contexts.{Context, Arrival, Issued, Returned}
use Rattle.core_model.specs.Nodes.{Setup, Node, one_more, with_tallies, moved_from, bore_at, posted_to, ended_for, with_issued, with_result, with_strand, sent_away}
use Rattle.core_model.specs.Effects.{effect, quiet, sending, only_to, operated, allocated, announced, with_fresh, born, child_of, ended}
use Rattle.core_model.proofs.Traffic.Notes.{is_pair, Notes, plus_none, one_number, one_move, notes_none, notes_then, dones_by, ended_to, posted_notes, all_posted, stored_notes, bore_notes, ended_notes}

module _ (u : Setup) (k : ℕ) (v : Node) (x : Context) (state : State) where
  -- what an action leaves at its nodelet
  abbrev pub left : Action → Node
  left action = (effect u k v x state action).node

  abbrev pub Noted : Action → Type 0
  Noted action = Notes k v (left action) [] (births_of u.nodelets k action) (posts_of u.nodelets k action) (dones_by k x.ticket action) (turns_of k action) (applied_of u.nodelets k action)

  abbrev kept_as : Node → Type 0
  kept_as y = (y.first_trap ≡ v.first_trap) × (y.tallies ≡ v.tallies) × (y.served ≡ v.served)

  announce_notes : (y : Node) → kept_as y → (request : Request) (fresh : Option Extent) (address : ℤ) → Notes k v (announced u.nodelets y x.name request fresh address).node [] [] [] [] [] []
  announce_notes y is request None address = notes_none k v y is.0 is.1 is.2
  announce_notes y is (Local at words a) (Some extent) address = notes_none k v y is.0 is.1 is.2
  announce_notes y is (Striped words) (Some extent) address = notes_none k v _ is.0 is.1 is.2
  announce_notes y is (Blocked blocks words) (Some extent) address = notes_none k v _ is.0 is.1 is.2
  announce_notes y is (Replicated words) (Some extent) address = notes_none k v _ is.0 is.1 is.2

  alloc_notes : (request : Request) (taken : Option (ℕ × ℤ)) → Notes k v (allocated u v x.name request taken).node [] [] [] [] [] []
  alloc_notes request None = notes_none k v v refl refl refl
  alloc_notes request (Some (view, count)) =
      let address = cursor.allocated_at v.cursors view count in
      go address (world.grant_of u.rules address count)
    where
      moved : Node
      moved = record v { cursors = cursor.cursors_after u.nodelets v.cursors view count }

      go : (address : ℤ) (fresh : Option Extent) → Notes k v (announced u.nodelets (with_fresh moved fresh) x.name request fresh address).node [] [] [] [] [] []
      go address None = announce_notes moved (refl, refl, refl) request None address
      go address (Some extent) = announce_notes (with_fresh moved (Some extent)) (refl, refl, refl) request (Some extent) address

  born_notes : (y : Node) (child : Context) → Notes k y (born k y child).node [] [] [] [] [] []
  born_notes y child = go (child.home == k)
    where
      go : (t : Bool) → Notes k y (if t then record (quiet (with_strand y child) []) { child = Some child.name } else record (sending (sent_away y) (only_to child.home (Arrival child))) { child = Some child.name }).node [] [] [] [] [] []
      go true = notes_none k y (with_strand y child) refl refl refl
      go false = record {
        trap = refl;
        moved = λ i. plus_none _;
        bore = λ j. plus_none _;
        posted = λ j. plus_none _;
        done = λ j. plus_none _;
        turned = plus_none _;
        worked = plus_none _;
      }

  spawn_notes : (d function : ℕ) (args : List ℤ) (hint : Option Hint) → Noted (Spawn d function args hint)
  spawn_notes d function args None =
      let y : Node = record v { next_number = suc v.next_number } in
      notes_then k v y (left (Spawn d function args None)) [] [] [] [] [] [] [] [] [] [] [] [] (notes_none k v y refl refl refl) (born_notes y (child_of u k v x state d function args k))
  spawn_notes d function args (Some hint) =
      let to : ℕ = owner_of hint.address k u.nodelets in
      let y : Node = record v { next_number = suc v.next_number } in
      notes_then k v y (left (Spawn d function args (Some hint))) [] [] [] [] [] ((k, to) ∷ []) [] [] [] [] [] [] (notes_none k v y refl refl refl)
      (notes_then k y (bore_at to y) (left (Spawn d function args (Some hint))) [] ((k, to) ∷ []) [] [] [] [] [] [] [] [] [] [] (bore_notes k to y) (born_notes (bore_at to y) (child_of u k v x state d function args to)))

  issue_notes : (at : Pos) (op : Op) (a word : ℤ) → Noted (Issue at op a word)
  issue_notes at op a word = go (to == k)
    where
      to : ℕ
      to = owner_of a k u.nodelets

      go : (t : Bool) → Notes k v (if t then quiet (posted_to to (operated v op a word)) [] else sending (posted_to to (with_issued v x.name 1)) (only_to to (Issued x.name (Operation op a word at)))).node
          [] [] ((k, to) ∷ []) [] [] (if t then k ∷ [] else [])
      go true = notes_then k v (operated v op a word) (posted_to to (operated v op a word)) [] [] [] [] [] [] ((k, to) ∷ []) [] [] (k ∷ []) [] []
          (stored_notes k v (operated v op a word) refl refl refl) (posted_notes k to (operated v op a word))
      go false = notes_then k v (with_issued v x.name 1) (posted_to to (with_issued v x.name 1)) [] [] [] [] [] [] ((k, to) ∷ []) [] [] [] [] []
          (notes_none k v (with_issued v x.name 1) refl refl refl) (posted_notes k to (with_issued v x.name 1))

  init_notes : (at : Pos) (a word : ℤ) → Noted (Init at a word)
  init_notes at a word =
      notes_then k v y (left (Init at a word)) [] [] [] [] [] [] (map (λ j. (k, j)) (below u.nodelets)) [] [] (k ∷ []) [] []
      (stored_notes k v y refl refl refl) (all_posted k (below u.nodelets) y)
    where
      y : Node
      y = with_issued (operated v Store a word) x.name (u.nodelets - 1)

  end_notes : (value : ℤ) (o : Option Ticket) → Notes k v (ended k v o value).node [] [] [] (ended_to k o) [] []
  end_notes value None = notes_none k v _ refl refl refl
  end_notes value (Some t) = go (t.home == k)
    where
      go : (b : Bool) → Notes k v (if b then quiet (ended_for t.home (with_result v t value)) [] else sending (ended_for t.home v) (only_to t.home (Returned t value))).node [] [] [] ((k, t.home) ∷ []) [] []
      go true = ended_notes k t.home v (ended_for t.home (with_result v t value)) refl refl refl
      go false = ended_notes k t.home v (ended_for t.home v) refl refl refl

  turn_notes : Noted Turn
  turn_notes = record {
    trap = refl;
    moved = λ i. plus_none _;
    bore = λ j. plus_none _;
    posted = λ j. plus_none _;
    done = λ j. plus_none _;
    turned = one_number v.served k;
    worked = plus_none _;
  }

  -- what any action notes
  pub noted : (action : Action) → Noted action
  noted Turn = turn_notes
  noted (Spawn d function args hint) = spawn_notes d function args hint
  noted (Issue at op a word) = issue_notes at op a word
  noted (Init at a word) = init_notes at a word
  noted (Alloc request) = alloc_notes request (taken_from u.nodelets k request)
  noted (End value) = end_notes value x.ticket
  noted (Load at a) = notes_none k v v refl refl refl
  noted (Fetch at f a) = notes_none k v (left (Fetch at f a)) refl refl refl
  noted Fence = notes_none k v v refl refl refl
  noted (Move at a) = notes_none k v v refl refl refl
  noted Where = notes_none k v v refl refl refl
  noted (Print bytes) = notes_none k v (left (Print bytes)) refl refl refl
  noted (Sync d) = notes_none k v (left (Sync d)) refl refl refl
  noted (Trap at kind) = notes_none k v v refl refl refl

-- a strand that came here counts where it came from
pub came_notes : (k from : ℕ) (v v' : Node) (bs ps ds : List (ℕ × ℕ)) (ts rs : List ℕ) → Notes k v v' [] bs ps ds ts rs → Notes k v (moved_from k from v') (change_of from k) bs ps ds ts rs
came_notes k from v v' bs ps ds ts rs h = go (from == k)
  where
    go : (t : Bool) → Notes k v (if t then v' else with_tallies v' (record v'.tallies { moves = one_more v'.tallies.moves from })) (if t then [] else (from, k) ∷ []) bs ps ds ts rs
    go true = h
    go false = record {
      trap = h.trap;
      moved = λ i. one_move v'.tallies.moves k from i ∙ ap (λ m. m + count_by (is_pair i k) ((from, k) ∷ [])) (h.moved i ∙ sym (plus_none (v.tallies.moves i)));
      bore = h.bore;
      posted = h.posted;
      done = h.done;
      turned = h.turned;
      worked = h.worked;
    }
