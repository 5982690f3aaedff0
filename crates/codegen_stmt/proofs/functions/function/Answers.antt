use Rattle.std.proofs.Common.{refl, subst, suc}
use Rattle.codegen_expr.specs.declared.draft.Draft.{Draft}
use Rattle.codegen_stmt.specs.Compiling.{exits_of, stretch_of, GainsStretch}
use Rattle.codegen_stmt.specs.Stretch.{Exits}
use Rattle.codegen_stmt.specs.Whole.{body_code}
use Rattle.codegen_stmt.proofs.Framed.{function_framed}
use Rattle.codegen_stmt.proofs.functions.function.Goals as goal

pub returns-clause-code : goal.returns-clause-code
returns-clause-code c =
    let start : Draft = record { function = c.args.number; depth = 0; height = 0; slots = c.args.f.now.slots; body = c.new.result; places = c.new-2.result; formats = c.args.formats } in
    let out = suc (body_code c.args.f.now).size in
    let exits : Exits = record { broken = out; continued = out } in
    let q = subst (λ r. GainsStretch c.put.new.self c.statement.new.draft (stretch_of r c.args.f.now.body) (exits_of r)) c.around-around.ensures c.in_ok-statement.ensures in
    function_framed start c.put.new.self c.statement.new.draft c.put-2.new.self c.put_return.new.draft c.args.f.now exits c.kept.result
    c.new.ensures c.new-2.ensures refl refl refl c.kept.ensures c.in_ok-put.ensures q c.in_ok-put-2.ensures c.in_ok-put_return.ensures
