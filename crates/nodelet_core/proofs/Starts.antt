-- A nodelet before any event is the node that it should be.
use Rattle.std.proofs.Common.{◌≡◌, ℕ, ℤ, pos, Bool, List, [], Option, None, ap, ◌∙◌}
use Rattle.std.proofs.Math.Path.{fun_ext}
use Rattle.std.specs.List.{list_any}
use Rattle.word_ops.specs.declared.name.Name.{Name}
use Rattle.data_layout.specs.Cursor.{first_cursor}
use Rattle.world_model.specs.World.{lies_in}
use Rattle.world_model.specs.Run.{first_grants}
use Rattle.nodelet_core.specs.declared.tally.Tally.{Tally}
use Rattle.core_model.specs.Contexts.{Context}
use Rattle.core_model.specs.Nodes.{Setup, Node, Tallies}
use Rattle.core_model.specs.Start.{start_node, no_tallies}
use Rattle.nodelet_core.specs.code.Tallied.{IsBlank, tallies_of}

abbrev tallies : (ℕ → ℕ) → (ℕ → ℕ) → (ℕ → ℕ) → (ℕ → ℕ) → Tallies
tallies moves births posts dones = record { moves = moves; births = births; posts = posts; dones = dones; applied = 0; sent_contexts = 0 }

abbrev none : ℕ → ℕ
none k = 0

-- What is counted before any event.
pub blank_is : (n : ℕ) (t : Tally) → IsBlank n t → tallies_of t (record { turns = 0; applied = 0; sent_contexts = 0 }) ≡ no_tallies
blank_is n t b =
    let at = tallies_of t (record { turns = 0; applied = 0; sent_contexts = 0 }) in
    ap (λ x. tallies x at.births at.posts at.dones) (fun_ext b.moves)
    ∙ ap (λ x. tallies none x at.posts at.dones) (fun_ext b.births)
    ∙ ap (λ x. tallies none none x at.dones) (fun_ext b.posts)
    ∙ ap (λ x. tallies none none none x) (fun_ext b.dones)

abbrev Results : Type 0
Results = Name → ℕ → ℕ → Option ℤ

abbrev node : (ℤ → ℤ) → (ℤ → Bool) → List Context → Results → (Name → ℕ) → (ℕ → ℕ) → List (List ℕ) → ℕ → Tallies → Node
node cells granted contexts results under_way cursors pieces next counted = record {
  cells = cells;
  granted = granted;
  contexts = contexts;
  results = results;
  under_way = under_way;
  cursors = cursors;
  pieces = pieces;
  next_number = next;
  served = 0;
  tallies = counted;
  main_value = None;
  first_trap = None;
  stamp = 0;
}

module _ (m : Setup) (here : ℕ) where
  abbrev first : Node
  first = start_node m here

  -- A node is the first one where each of its parts is.
  pub start_is : (cells : ℤ → ℤ) (granted : ℤ → Bool) (contexts : List Context) (results : Results) (under_way : Name → ℕ) (cursors : ℕ → ℕ) (pieces : List (List ℕ)) (next : ℕ) (counted : Tallies)
      → ((a : ℤ) → cells a ≡ pos 0)
      → ((a : ℤ) → granted a ≡ list_any (lies_in a) (first_grants m.code.globals m.code.replicated here))
      → contexts ≡ first.contexts
      → ((parent : Name) (depth order : ℕ) → results parent depth order ≡ None)
      → ((name : Name) → under_way name ≡ 0)
      → ((view : ℕ) → cursors view ≡ first_cursor m.nodelets m.code.globals m.code.replicated view)
      → pieces ≡ [] → next ≡ first.next_number → counted ≡ no_tallies
      → node cells granted contexts results under_way cursors pieces next counted ≡ first
  start_is cells granted contexts results under_way cursors pieces next counted c g x r u v p n t =
      ap (λ z. node z granted contexts results under_way cursors pieces next counted) (fun_ext c)
      ∙ ap (λ z. node first.cells z contexts results under_way cursors pieces next counted) (fun_ext g)
      ∙ ap (λ z. node first.cells first.granted z results under_way cursors pieces next counted) x
      ∙ ap (λ z. node first.cells first.granted first.contexts z under_way cursors pieces next counted) (fun_ext (λ a. fun_ext (λ b. fun_ext (λ d. r a b d))))
      ∙ ap (λ z. node first.cells first.granted first.contexts first.results z cursors pieces next counted) (fun_ext u)
      ∙ ap (λ z. node first.cells first.granted first.contexts first.results first.under_way z pieces next counted) (fun_ext v)
      ∙ ap (λ z. node first.cells first.granted first.contexts first.results first.under_way first.cursors z next counted) p
      ∙ ap (λ z. node first.cells first.granted first.contexts first.results first.under_way first.cursors [] z counted) n
      ∙ ap (λ z. node first.cells first.granted first.contexts first.results first.under_way first.cursors [] first.next_number z) t
