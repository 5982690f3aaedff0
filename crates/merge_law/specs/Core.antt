-- All nodes of a machine with the links between them, and events that follow each other.
use Rattle.std.specs.Prelude.{ℕ, List, [], ◌∷◌, ◌++◌, ◌==◌, nat_lt, if◌then◌else◌, Option, Some, None, option_map, option_and_then}
use Rattle.merge_law.specs.declared.event.Event.{Event}
use Rattle.merge_law.specs.declared.event.Event.TheVariants.{Run, Take}
use Rattle.merge_law.specs.Machine.{Machine, Outcome, is_linked, run_at, take_at}
use Rattle.merge_law.specs.Events.{Placed, nodelet_of}

-- The node of each nodelet, and the packets on the link from each nodelet to each.
pub record Core (V P : Type 0) : Type 0 where
  pub nodes : ℕ → V
  pub links : ℕ → ℕ → List P

-- What an event leaves, and what is left to be taken from each nodelet.
pub record Advance (V P : Type 0) : Type 0 where
  pub outcome : Outcome V P
  pub left : ℕ → List P

-- A core after an event, and the entry that tells of it.
pub record After (V P : Type 0) : Type 0 where
  pub core : Core V P
  pub entry : Placed

-- A core after events, and the entries that tell of them.
pub record Played (V P : Type 0) : Type 0 where
  pub core : Core V P
  pub told : List Placed

-- Before any event nothing is on a link.
abbrev pub starting : {V P : Type 0} → (ℕ → V) → Core V P
starting start = record { nodes = start; links = λ _ _. [] }

-- The core of n nodelets with these nodes, and on each link what waits.
abbrev pub settled : {V P : Type 0} → ℕ → (ℕ → V) → (ℕ → V) → (ℕ → ℕ → List P) → Core V P
settled n start nodes waiting = record {
  nodes = λ k. if nat_lt k n then nodes k else start k;
  links = λ from to. if is_linked n from to then waiting from to else [];
}

abbrev pub leaving : {V P : Type 0} → (ℕ → List P) → Outcome V P → Advance V P
leaving left outcome = record { outcome = outcome; left = left }

-- What is left where only `rest` is left from an origin.
abbrev pub but_from : {P : Type 0} → ℕ → List P → (ℕ → List P) → ℕ → List P
but_from origin rest incoming o = if o == origin then rest else incoming o

-- The core where nodelet k has gone on: the packets that it sent are the last of their links.
abbrev pub core_after : {V P : Type 0} → Core V P → ℕ → Advance V P → After V P
core_after c k advance = record {
  core = record {
    nodes = λ j. if j == k then advance.outcome.node else c.nodes j;
    links = λ o j. (if j == k then advance.left o else c.links o j) ++ (if o == k then advance.outcome.sent j else []);
  };
  entry = record { nodelet = k; entry = advance.outcome.entry };
}

abbrev pub told_first : {V P : Type 0} → Placed → Played V P → Played V P
told_first entry played = record { core = played.core; told = entry ∷ played.told }

module _ {V B P : Type 0} (m : Machine V B P) where
  -- The first of the packets from an origin is taken, and none where there is none.
  abbrev pub take_first : ℕ → V → ℕ → (ℕ → List P) → List P → Option (Advance V P)
  take_first k v origin incoming [] = None
  take_first k v origin incoming (p ∷ rest) = option_map (leaving (but_from origin rest incoming)) (take_at m k v origin p)

  -- An event where its node is v and these packets are to be taken from each nodelet; none where it is not legal.
  abbrev pub advance : V → (ℕ → List P) → Event → Option (Advance V P)
  advance v incoming (Run k name) =
      if nat_lt k m.nodelets then option_map (leaving incoming) (run_at m k v name) else None
  advance v incoming (Take origin k) =
      if is_linked m.nodelets origin k then take_first k v origin incoming (incoming origin) else None

  -- The core after an event; none where it is not legal.
  abbrev pub after : Core V P → Event → Option (After V P)
  after c event =
      let k = nodelet_of event in
      option_map (core_after c k) (advance (c.nodes k) (λ o. c.links o k) event)

  -- The core after events, each legal where it comes; none where one is not.
  abbrev pub play : List Event → Core V P → Option (Played V P)
  play [] c = Some (record { core = c; told = [] })
  play (event ∷ events) c = option_and_then (λ a. option_map (told_first a.entry) (play events a.core)) (after c event)
