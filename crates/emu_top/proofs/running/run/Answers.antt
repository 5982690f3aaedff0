use Rattle.std.proofs.Common.{subst}
use Rattle.core_model.specs.Core.{setting_of}
use Rattle.serial_sim.specs.Scheduled.{IsScheduled}
use Rattle.emu_top.specs.Runs.{asked_setup}
use Rattle.emu_top.proofs.RunLemmas.{is_program_run}
use Rattle.emu_top.proofs.TrafficLemmas.{traffic_counts}
use Rattle.emu_top.proofs.running.run.Goals as goal

pub written-requires : goal.written-requires
written-requires c =
    let run = c.in_ok-ran.ensures.run.run in
    traffic_counts (setting_of (asked_setup c.args.asked.now c.in_ok-code.code.code)) c.in_ok-ran.ran run.traffic

pub returns : goal.returns
returns c =
    is_program_run c.args.asked.now c.args.program.now c.in_ok-code.code.code c.in_ok-ran.ran c.in_ok-text.text c.requires.built c.in_ok-code.code.sound
    (record { implements = c.in_ok-code.ensures.implements; narrow = c.in_ok-code.ensures.narrow })
    (subst (λ seed. IsScheduled (asked_setup c.args.asked.now c.in_ok-code.code.code) seed c.in_ok-ran.ran) c.unwrap_or-seed.ensures c.in_ok-ran.ensures.scheduled)
    c.in_ok-ran.ensures.run c.in_ok-text.ensures
