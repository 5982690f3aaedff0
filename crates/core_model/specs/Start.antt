-- A nodelet before any event.
use Rattle.std.specs.Prelude.{ℕ, pos, [], ◌∷◌, ◌==◌, if◌then◌else◌, None, slice_get}
use Rattle.std.specs.List.{list_any}
use Rattle.data_layout.specs.Cursor.{first_cursor}
use Rattle.world_model.specs.World.{lies_in, main_name}
use Rattle.world_model.specs.Run.{first_grants}
use Rattle.threadlet_code.specs.Running.{started}
use Rattle.core_model.specs.Contexts.{Context}
use Rattle.core_model.specs.Nodes.{Setup, Node, Tallies}

-- Main at its birth, at nodelet 0.
abbrev pub main_context : Setup → Context
main_context m = record {
  name = main_name;
  home = 0;
  place = 0;
  ticket = None;
  state = started m.code.main (slice_get m.code.functions m.code.main) [];
  late = None;
}

-- Nothing is counted.
abbrev pub no_tallies : Tallies
no_tallies = record { moves = λ k. 0; births = λ k. 0; posts = λ k. 0; dones = λ k. 0; applied = 0; sent_contexts = 0 }

-- Nodelet `here` has its globals, and nodelet 0 besides main, after which it numbers its strands from 1.
abbrev pub start_node : Setup → ℕ → Node
start_node m here = record {
  cells = λ a. pos 0;
  granted = λ a. list_any (lies_in a) (first_grants m.code.globals m.code.replicated here);
  contexts = if here == 0 then main_context m ∷ [] else [];
  results = λ parent depth order. None;
  under_way = λ name. 0;
  cursors = first_cursor m.nodelets m.code.globals m.code.replicated;
  pieces = [];
  next_number = if here == 0 then 1 else 0;
  served = 0;
  tallies = no_tallies;
  main_value = None;
  first_trap = None;
  stamp = 0;
}
