-- What is written of a run whose journal and live counters are not wanted.
use Rattle.std.proofs.Common.{◌≡◌, ℕ, List, [], ◌++◌, sym, ap, ◌∙◌, append-nil, true}
use Rattle.std.specs.List.{concat, flat_map}
use Rattle.word_ops.specs.Ending.{ending_line}
use Rattle.word_ops.specs.Journal.{journal_of}
use Rattle.word_ops.specs.Report.{below}
use Rattle.word_ops.specs.declared.traffic.Traffic.{Traffic}
use Rattle.cilk_ast.specs.declared.program.Program.{Program}
use Rattle.cilk_model.specs.Written.{when, results_text, version_of, watch_line, IsWritten}
use Rattle.threadlet_code.specs.declared.code.Code.{Code}
use Rattle.threadlet_code.specs.Breaches.{is_sound}
use Rattle.world_model.specs.World.{Setting}
use Rattle.world_model.specs.Run.{out_text}
use Rattle.world_model.specs.Traffic.{traffic_of}
use Rattle.traffic_report.specs.declared.run.Ran.{Ran}
use Rattle.traffic_report.specs.Runs.{IsRun, IsWholeRun}
use Rattle.core_model.specs.Core.{setting_of}
use Rattle.refine.proofs.Records.{records_alike}
use Rattle.serial_sim.specs.Scheduled.{IsScheduled}
use Rattle.emu_words.specs.declared.asked.Asked.{Asked}
use Rattle.emu_top.specs.Words.{is_built}
use Rattle.emu_top.specs.Runs.{asked_setting, asked_setup, asked_seed, asked_wanted, IsCompiled}
use Rattle.emu_top.specs.code.Judged.{IsProgramRun}
use Rattle.emu_top.proofs.JudgeLemmas.{no_more}

-- neither a journal nor live counters are written
nothing_behind : (asked : Asked) (text journal watch : List ℕ) → is_built asked ≡ true → text ≡ text ++ when asked.journal journal ++ when asked.watch watch
nothing_behind asked text journal watch built =
    let none = no_more asked built in
    sym (ap (λ b. text ++ when b journal ++ when asked.watch watch) none.0 ∙ ap (λ b. text ++ [] ++ when b watch) none.1 ∙ append-nil (text ++ []) ∙ append-nil text)

-- what is written of a run, whatever text it is of
is_written : (asked : Asked) (u : Setting) (ran : Ran) (source bytes : List ℕ) → is_built asked ≡ true → IsRun u ran →
    bytes ≡ concat ran.out ++ ending_line ran.end ++ results_text (asked_wanted asked) ran.cells ran.traffic ran.end →
    IsWritten (asked_wanted asked) u source ran.told ran.parts bytes
is_written asked u ran source bytes built run is = record {
  world = run.world;
  cells = ran.cells;
  end = ran.end;
  leads_to = run.leads_to;
  are_cells = run.cells;
  ends_so = run.ends_so;
  is_text = is
      ∙ ap (λ out. concat out ++ ending_line ran.end ++ results_text (asked_wanted asked) ran.cells ran.traffic ran.end) run.out
      ∙ ap (λ (t : Traffic). out_text run.world ++ ending_line ran.end ++ results_text (asked_wanted asked) ran.cells t ran.end) run.traffic
      ∙ nothing_behind asked (out_text run.world ++ ending_line ran.end ++ results_text (asked_wanted asked) ran.cells (traffic_of u ran.told) ran.end)
      (journal_of (version_of u.rules) u.nodelets u.turns source ran.told)
      (flat_map (watch_line ran.parts (traffic_of u ran.told)) (below u.nodelets)) built;
}

pub is_program_run : (asked : Asked) (program : Program) (code : Code) (ran : Ran) (bytes : List ℕ) → is_built asked ≡ true → is_sound code ≡ true → IsCompiled program code →
    IsScheduled (asked_setup asked code) (asked_seed asked) ran → IsWholeRun (setting_of (asked_setup asked code)) ran →
    bytes ≡ concat ran.out ++ ending_line ran.end ++ results_text (asked_wanted asked) ran.cells ran.traffic ran.end →
    IsProgramRun asked program code ran bytes
is_program_run asked program code ran bytes built sound compiled scheduled whole is =
    let run : IsWholeRun (asked_setting asked program) ran = records_alike (asked_setup asked code) program sound compiled.implements ran whole in
    record {
      compiled = compiled;
      run = run;
      scheduled = scheduled;
      written = λ text. is_written asked (asked_setting asked program) ran text bytes built run.run is;
    }
