-- How the heights of a body are found, an instruction more at a time.
use Rattle.std.specs.Prelude.{◌≡◌, ◌<◌, ◌≤◌, ℕ, zero, suc, ◌+◌, min, max, Bool, true, false, nat_lt, if◌then◌else◌, List, [], ◌∷◌, ◌++◌, length, Option, Some, None, slice_get, slice_set, slice_index, slice_index_or}
use Rattle.threadlet_code.specs.declared.instr.Instr.{Instr}
use Rattle.threadlet_code.specs.declared.code.FuncCode.{FuncCode}
use Rattle.threadlet_code.specs.declared.code.Code.{Code}
use Rattle.threadlet_code.specs.declared.walk.Span.{Span}
use Rattle.threadlet_code.specs.Operands.{operands, results}
use Rattle.threadlet_code.specs.Naming.{successors}
use Rattle.threadlet_code.specs.Ways.{Known, known_at, exchanged, goes_on, arrivals, known_within, ways_to}

-- The height that a way has behind the instruction at a place, where it goes on.
abbrev pub behind : Code → ℕ → FuncCode → ℕ → Option Instr → ℕ → Option ℕ
behind code function f place None height = None
behind code function f place (Some instr) height =
    if goes_on code function f place instr height then Some (exchanged height (operands code instr) (results instr)) else None

-- ---- the span of some heights

-- A span with a height more.
abbrev pub widened : ℕ → Option Span → Span
widened height None = record { least = height; most = height }
widened height (Some span) = record { least = min height span.least; most = max height span.most }

-- The span of heights, and none of no height.
abbrev pub span_of : List ℕ → Option Span
span_of [] = None
span_of (height ∷ heights) = Some (widened height (span_of heights))

-- What came to each place.
abbrev pub Spans : Type 0
Spans = List (Option Span)

abbrev pub span_at : Spans → ℕ → Option Span
span_at spans place = slice_index_or spans place None

-- ---- a wave: the spans of the ways that came, and the places to which one came, in the order in which they
-- were reached

pub record Wave : Type 0 where
  pub ways : Spans
  pub reached : List ℕ

-- A place is reached where nothing came to it before.
abbrev pub reaches : Option Span → ℕ → List ℕ → List ℕ
reaches None place reached = reached ++ place ∷ []
reaches (Some span) place reached = reached

-- A way with a height comes to a place of the body, or to one behind it.
abbrev pub comes : Bool → ℕ → ℕ → Wave → Wave
comes false height place wave = wave
comes true height place wave = record {
  ways = slice_set wave.ways place (Some (widened height (span_at wave.ways place)));
  reached = reaches (span_at wave.ways place) place wave.reached;
}

abbrev pub arrive : ℕ → ℕ → Wave → Wave
arrive height place wave = comes (nat_lt place (length wave.ways)) height place wave

-- The same of several places.
abbrev pub arrive_all : ℕ → List ℕ → Wave → Wave
arrive_all height [] wave = wave
arrive_all height (place ∷ places) wave = arrive_all height places (arrive height place wave)

-- The places behind the instruction at a place.
abbrev pub successors_at : ℕ → Option Instr → List ℕ
successors_at place None = []
successors_at place (Some instr) = successors place instr

-- A way goes on from a place with this height behind it, or ends there.
abbrev pub spread : ℕ → Option Instr → Option ℕ → Wave → Wave
spread place instr None wave = wave
spread place instr (Some height) wave = arrive_all height (successors_at place instr) wave

-- The way to a place goes on, if there is one.
abbrev pub pass : Code → ℕ → FuncCode → ℕ → Option ℕ → Wave → Wave
pass code function f place None wave = wave
pass code function f place (Some height) wave = spread place (slice_get f.body place) (behind code function f place (slice_get f.body place) height) wave

-- The ways to so many places go on, which stand in a list from some index on.
abbrev pub pass_many : ℕ → Code → ℕ → FuncCode → Known → ℕ → List ℕ → Wave → Wave
pass_many zero code function f known from places wave = wave
pass_many (suc n) code function f known from places wave =
    let place = slice_index places (from + n) in
    pass code function f place (known_at known place) (pass_many n code function f known from places wave)

-- ---- the heights of places

-- The least height of the ways that came is the height of a place.
abbrev pub settle : ℕ → Option Span → Known → Known
settle place None known = known
settle place (Some span) known = slice_set known place (Some span.least)

-- The same of so many places, which stand in a list from some index on.
abbrev pub settle_many : ℕ → Spans → ℕ → List ℕ → Known → Known
settle_many zero ways from places known = known
settle_many (suc n) ways from places known =
    let place = slice_index places (from + n) in
    settle place (span_at ways place) (settle_many n ways from places known)

-- ---- a whole walk

-- A place stands in a list, from some index on.
pub record Stands (place from : ℕ) (places : List ℕ) : Type 0 where
  pub index : ℕ
  pub above : from ≤ index
  pub inside : index < length places
  pub here : slice_index places index ≡ place

-- A walk of so many instructions: the heights of shorter ways are known, and what came from there; the places
-- to which a way came first are those that were reached last.
pub record IsWalk (n : ℕ) (code : Code) (function : ℕ) (f : FuncCode) (known : Known) (ways : Spans) (reached : List ℕ) (settled : ℕ) : Type 0 where
  pub known_is : known ≡ known_within code function f n
  pub body : length known ≡ length f.body
  pub sizes : length ways ≡ length f.body
  pub ways_are : (place : ℕ) → place < length f.body → span_at ways place ≡ span_of (arrivals code function f place known)
  pub covered : (place : ℕ) (span : Span) → span_at ways place ≡ Some span → known_at known place ≡ None → Stands place settled reached
  pub came : (place : ℕ) → span_at ways place ≡ None → known_at known place ≡ None
  pub fresh : (k : ℕ) → settled ≤ k → k < length reached → known_at known (slice_index reached k) ≡ None
  pub within : (k : ℕ) → k < length reached → slice_index reached k < length f.body
  pub settled_in : settled ≤ length reached

-- The spans of all ways to the places of a function.
pub record AreFound (code : Code) (function : ℕ) (f : FuncCode) (ways : Spans) : Type 0 where
  pub size : length ways ≡ length f.body
  pub each : (place : ℕ) → place < length f.body → span_at ways place ≡ span_of (ways_to code function f place)
