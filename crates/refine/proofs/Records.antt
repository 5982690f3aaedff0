-- What is recorded of a run of the code is recorded of the program.
use Rattle.std.proofs.Common.{◌≡◌, inl, inr, IsSome, sym, ◌∙◌, subst, true, ⊎_elim}
use Rattle.cilk_ast.specs.declared.program.Program.{Program}
use Rattle.threadlet_code.specs.Breaches.{is_sound}
use Rattle.codegen_expr.specs.Implements.{Implements}
use Rattle.traffic_report.specs.declared.run.Ran.{Ran}
use Rattle.traffic_report.specs.Runs.{IsRun, IsNotCutShort, IsWholeRun}
use Rattle.core_model.specs.Nodes.{Setup}
use Rattle.core_model.specs.Core.{setting_of}
use Rattle.refine.specs.Programs.{program_on}
use Rattle.refine.proofs.Runs.{runs-same, trap-same, ends-same}
use Rattle.refine.proofs.Counts.{traffic-same}
use Rattle.refine.proofs.Events.{known, rest-of}

module _ (u : Setup) (program : Program) (sound : is_sound u.code ≡ true) (implements : Implements u.code program) (ran : Ran) where
  abbrev run_alike : IsRun (setting_of u) ran → IsRun (program_on u program) ran
  run_alike r = record {
    world = r.world;
    leads_to = sym (runs-same u program sound implements ran.told) ∙ r.leads_to;
    out = r.out;
    cells = r.cells;
    traffic = r.traffic ∙ traffic-same u program sound implements ran.told;
    ends_so = sym (ends-same u program sound implements ran.told ran.parts) ∙ r.ends_so;
  }

  whole_alike : (r : IsRun (setting_of u) ran) → IsNotCutShort (setting_of u) r.world ran → IsNotCutShort (program_on u program) r.world ran
  whole_alike r why = ⊎_elim
      (λ trap. inl (subst (λ o. IsSome o) (trap-same u program sound implements ran.told) trap))
      (λ h. inr (⊎_elim (λ stamps. inl stamps) (λ rest. inr (rest-of u program sound implements r.world (known u program sound implements ran.told r.world r.leads_to) rest)) h))
      why

  pub records_alike : IsWholeRun (setting_of u) ran → IsWholeRun (program_on u program) ran
  records_alike h = record {
    run = run_alike h.run;
    whole = whole_alike h.run h.whole;
    stamps = h.stamps;
  }
