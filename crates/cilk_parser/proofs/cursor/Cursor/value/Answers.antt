use Rattle.std.proofs.Common.{sym, ◌∙◌, ap}
use Rattle.cilk_parser.specs.Parsers.{goes_on}
use Rattle.cilk_parser.proofs.Steps.{passes}
use Rattle.cilk_parser.proofs.CodeStatements.{value_spawned, value_plain}
use Rattle.cilk_parser.proofs.cursor.Cursor.value.Goals as goal

pub returns-in_err-spawn-clause-reads : goal.returns-in_err-spawn-clause-reads
returns-in_err-spawn-clause-reads c =
    passes _ _ _ _ _ _ c.from_residual.ensures.1 c.in_err-spawn.ensures.reads (value_spawned c.args.may_spawn _ (sym c.if-spawns.ensures))

pub returns-in_err-plain-clause-reads : goal.returns-in_err-plain-clause-reads
returns-in_err-plain-clause-reads c =
    passes _ _ _ _ _ _ c.from_residual-in_err-plain.ensures.1 c.in_err-plain.ensures.reads (value_plain c.args.may_spawn _ (sym c.if-spawns.ensures))

pub returns-in_ok-spawn-clause-reads : goal.returns-in_ok-spawn-clause-reads
returns-in_ok-spawn-clause-reads c =
    value_spawned c.args.may_spawn _ (sym c.if-spawns.ensures) ∙ ap (goes_on _) c.in_ok-spawn.ensures.reads

pub returns-in_ok-plain-clause-reads : goal.returns-in_ok-plain-clause-reads
returns-in_ok-plain-clause-reads c =
    value_plain c.args.may_spawn _ (sym c.if-spawns.ensures) ∙ ap (goes_on _) c.in_ok-plain.ensures.reads
