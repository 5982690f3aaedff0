use Rattle.std.proofs.Common.{◌≡◌, All, Contains, sym, subst}
use Rattle.std.proofs.lemmas.Result.{IfOk-weaker}
use Rattle.codegen_stmt.specs.Prints.{prints_in_functions}
use Rattle.slot_allot.proofs.narrow.Goals as goal

pub returns-clause-among : goal.returns-clause-among
returns-clause-among c =
    let prints = prints_in_functions c.args.program.now.functions in
    let formats = c.args.code.now.code.formats in
    IfOk-weaker c.compile.result
    (λ narrowed. narrowed.code.formats ≡ prints)
    (λ narrowed. All (Contains formats) prints → All (Contains formats) narrowed.code.formats)
    (λ narrowed is among. subst (All (Contains formats)) (sym is) among)
    c.compile.ensures.formats
