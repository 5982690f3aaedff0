-- The command line: one mode, options with one value, and flags.
use Rattle.std.specs.Prelude.{true, Some, codes}
use Rattle.clap.specs.Words.{App, Rule, Text, new_app, new_rule, with_rule}
use Rattle.clap.specs.Simple.{on_top}
use Rattle.clap.specs.declared.builder.ArgAction.TheVariants.{SetTrue}

-- the mode, which has to be given
abbrev pub mode_rule : Rule
mode_rule = record (new_rule (codes "mode")) { required = true }

-- an option `--name` with one value
abbrev pub option_rule : Text → Rule
option_rule name = record (new_rule name) { long = Some name }

-- a flag `--name`
abbrev pub flag_rule : Text → Rule
flag_rule name = record (new_rule name) { long = Some name; action = Some SetTrue }

-- a command that reads its first word as an argument, not as the program's name
abbrev pub bare_app : App
bare_app = on_top (λ shape. record shape { no_binary_name = true }) (new_app (codes "emu"))

-- with the options
abbrev pub with_options : App → App
with_options app = with_rule (with_rule (with_rule (with_rule app
    (option_rule (codes "nodelets"))) (option_rule (codes "turns")))
    (option_rule (codes "serial"))) (option_rule (codes "workload"))

-- with the flags
abbrev pub with_flags : App → App
with_flags app = with_rule (with_rule (with_rule (with_rule app
    (flag_rule (codes "report"))) (flag_rule (codes "memory")))
    (flag_rule (codes "record"))) (flag_rule (codes "watch"))

-- the command: a mode, four options and four flags
unfoldable pub emu_app : App
emu_app = with_flags (with_options (with_rule bare_app mode_rule))
