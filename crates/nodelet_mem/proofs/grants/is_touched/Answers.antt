use Rattle.std.proofs.Common.{◌≡◌, ◌+◌, ◌-◌, ◌<◌, ◌<ℤ◌, length, get_or, arith, rules, SFits}
use mir.Syntax.{w128}
use Rattle.std.proofs.lemmas.Int.{ints, to_z-of_z}
use Rattle.nodelet_mem.proofs.RunsJoined.{no_run}
use Rattle.nodelet_mem.proofs.RunsOrdered.{ended_before}
use Rattle.nodelet_mem.proofs.grants.is_touched.Goals as goal

pub returns-then-place-gt0-clause-no : goal.returns-then-place-gt0-clause-no
returns-then-place-gt0-clause-no c = λ e.
    let q = c.args.place - 1 in
    let next : q + 1 ≡ c.args.place = omega arith in
    let inside : q < length c.args.runs.now = omega arith in
    let fits : SFits w128 (get_or c.args.runs.now q no_run).end = search rules in
    let first : c.from.result ≡ c.args.first = search rules in
    let here : (get_or c.args.runs.now q no_run).end <ℤ c.args.first = grind (arith, ints, to_z-of_z w128 _ fits, first, e) in
    ended_before c.args.runs.now c.args.place q c.args.first no_run next c.requires.ordered inside here
