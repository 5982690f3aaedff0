-- What a core and a world have in common.
use Rattle.std.specs.Prelude.{◌≡◌, ◌<◌, ℕ, ◌-◌, ℤ, nat_le, filter_map, if◌then◌else◌, Option, Some, None}
use Rattle.word_ops.specs.declared.name.Name.{Name}
use Rattle.word_ops.specs.Naming.{same_name}
use Rattle.world_model.specs.Action.{Action, Turn}
use Rattle.world_model.specs.World.{Setting, Item, Strand, World, strand_of, is_granted, Live}
use Rattle.world_model.specs.Step.{due}
use Rattle.threadlet_code.specs.Running as code
use Rattle.core_model.specs.Contexts.{Context, Body, Issued, context_of}
use Rattle.core_model.specs.Nodes.{Setup, Node}
use Rattle.core_model.specs.Nodes as node
use Rattle.core_model.specs.Runs.{action_in}
use Rattle.core_model.specs.Machine.{Packet}
use Rattle.core_model.specs.Core.{Core}

-- The nodelet at which the cursor of a view stands.
abbrev pub cursor_home : ℕ → ℕ
cursor_home view = if nat_le 32 view then view - 32 else 0

-- Words, grants, cursors, output and turns are the same.
pub record SharesAll (u : Setup) (c : Core) (w : World) : Type 0 where
  pub cells : (k : ℕ) (a : ℤ) → k < u.nodelets → (c.nodes k).cells a ≡ w.cells k a
  pub granted : (k : ℕ) (a : ℤ) → k < u.nodelets → node.is_granted u.rules (c.nodes k) a ≡ is_granted u.rules w k a
  pub cursors : (view : ℕ) → (c.nodes (cursor_home view)).cursors view ≡ w.cursors view
  pub pieces : (c.nodes 0).pieces ≡ w.pieces
  pub turns : (k : ℕ) → k < u.nodelets → (c.nodes k).served ≡ w.turns k

-- ---- contexts and strands

-- The action before which a context stands.
abbrev pub due_here : Setup → Context → Option Action
due_here u x = action_in (code.due u.code x.state)

-- A context is that of a live strand: it has its place, and is due the action that the meaning gives the strand.
pub record IsOf (u : Setup) (on : Setting) (w : World) (x : Context) : Type 0 where
  pub strand : Strand
  pub known : strand_of w x.name ≡ Some strand
  pub live : strand.status ≡ Live
  pub place : x.place ≡ strand.place
  pub due_same : due_here u x ≡ due on strand

-- So is each context at a nodelet, which is its place where it is due a Turn.
abbrev pub ContextsAreOf : Setup → Setting → Core → World → Type 0
ContextsAreOf u on c w = (k : ℕ) (name : Name) (x : Context) → context_of name (c.nodes k).contexts ≡ Some x →
    IsOf u on w x × (due_here u x ≡ Some Turn → x.place ≡ k)

-- ---- what is pending

-- What a packet carries of a strand that is pending.
abbrev pub pending_in : Name → Packet → Option Item
pending_in name p = by p.body
  where
    by : Body → Option Item
    by (Issued q item) = if same_name name q then Some item else None
    by _ = None

-- What a strand has pending at a nodelet is, in order, what is on the link from its place to there.
abbrev pub PendingTravels : Core → World → Type 0
PendingTravels c w = (name : Name) (s : Strand) (k : ℕ) → strand_of w name ≡ Some s →
    s.pending k ≡ filter_map (pending_in name) (c.links s.place k)
