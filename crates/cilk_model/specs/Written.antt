-- What is written of a run.
use Rattle.std.specs.Prelude.{◌≡◌, ℕ, Bool, if◌then◌else◌, List, [], ◌++◌, length, flat_map, slice_index, slice_index_or, Some, codes}
use Rattle.std.specs.Fmt.{decimal}
use Rattle.word_ops.specs.declared.rules.Rules.{Rules}
use Rattle.word_ops.specs.declared.rules.Rules.TheVariants.{Loose, Checked}
use Rattle.word_ops.specs.declared.step.Step.{Step}
use Rattle.word_ops.specs.declared.step.Entry.{Entry}
use Rattle.word_ops.specs.declared.ending.End.{End}
use Rattle.word_ops.specs.declared.ending.End.TheVariants.{Done, Trap, Spent}
use Rattle.word_ops.specs.declared.traffic.Cell.{Cell}
use Rattle.word_ops.specs.declared.traffic.Traffic.{Traffic}
use Rattle.word_ops.specs.Ending.{line, ending_line}
use Rattle.word_ops.specs.Journal.{journal_of}
use Rattle.word_ops.specs.Report.{below, words_text, report_of}
use Rattle.cilk_ast.specs.declared.program.Program.{Program}
use Rattle.world_model.specs.World.{Setting, World}
use Rattle.world_model.specs.Run.{run_of, end_of, out_text}
use Rattle.world_model.specs.Traffic.{traffic_of}
use Rattle.world_model.specs.Cells.{AreCells}
use Rattle.cilk_model.specs.ProgramMeaning.{meaning_of}

-- What is to be written besides the output and the ending: the words and the report where the run is done, the
-- journal, and the lines of the live counters.
pub record Wanted : Type 0 where
  pub memory : Bool
  pub report : Bool
  pub journal : Bool
  pub watch : Bool

-- A program run on so many nodelets, with so many turns each, under rules.
abbrev pub setting_of : Program → ℕ → ℕ → Rules → Setting
setting_of program nodelets turns rules = record { meaning = meaning_of program; nodelets = nodelets; turns = turns; rules = rules }

-- The version of the journals of runs under rules, and the rules of the runs of a version.
abbrev pub version_of : Rules → ℕ
version_of Loose = 1
version_of Checked = 2

-- A text that is written where it is wanted.
abbrev pub when : Bool → List ℕ → List ℕ
when wanted text = if wanted then text else []

-- What follows the ending of a run that is done: the words, then the report.
abbrev pub results_text : Wanted → List Cell → Traffic → End → List ℕ
results_text wanted cells traffic (Done value) = when wanted.memory (words_text cells) ++ when wanted.report (report_of traffic)
results_text wanted cells traffic (Trap kind pos name) = []
results_text wanted cells traffic (Spent nodelet cause) = []

-- The line of nodelet k's counters: the entries that it kept, the turns that it served and the operations that
-- were applied at it.
abbrev pub watch_line : List (List Entry) → Traffic → ℕ → List ℕ
watch_line parts traffic k =
    line (codes "watch " ++ decimal k ++ codes " entries " ++ decimal (length (slice_index_or parts k []))
    ++ codes " turns " ++ decimal (slice_index traffic.turns k) ++ codes " applied " ++ decimal (slice_index traffic.applied k))

-- The whole text of a run of a source text that leads to a world with these cells: its output, the ending, what
-- follows where it is done, the journal, and the live counters of all nodelets.
abbrev pub run_text : Wanted → Setting → List ℕ → List Step → List (List Entry) → World → List Cell → End → List ℕ
run_text wanted u source told parts world cells end =
    out_text world ++ ending_line end ++ results_text wanted cells (traffic_of u told) end
    ++ when wanted.journal (journal_of (version_of u.rules) u.nodelets u.turns source told)
    ++ when wanted.watch (flat_map (watch_line parts (traffic_of u told)) (below u.nodelets))

-- The bytes are what is written of a run of a source text, whose nodelets kept these entries. Of a run that is
-- replayed from its steps the entries are the empty list, and no live counters are wanted.
pub record IsWritten (wanted : Wanted) (u : Setting) (source : List ℕ) (told : List Step) (parts : List (List Entry)) (bytes : List ℕ) : Type 0 where
  pub world : World
  pub cells : List Cell
  pub end : End
  pub leads_to : run_of u told ≡ Some world
  pub are_cells : AreCells world.cells cells
  pub ends_so : end_of u told parts ≡ Some end
  pub is_text : bytes ≡ run_text wanted u source told parts world cells end

-- What is written of a run that is written again under the checked rules: its new steps in a journal.
abbrev pub upgrade_text : ℕ → ℕ → List ℕ → List Step → List ℕ
upgrade_text nodelets turns source again = journal_of (version_of Checked) nodelets turns source again
