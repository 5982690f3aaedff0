use Rattle.code_text.specs.CodeText.{function_text}
use Rattle.code_text.proofs.Bodies.{one_more}
use Rattle.code_text.proofs.writing.push_functions.Goals as goal

pub loop-f-preserved : goal.loop-f-preserved
loop-f-preserved c =
    one_more function_text c.args.functions.now c.as_slice-f-items.result.now c.loop-f.f-index c.f-item.result c.push_function.new.out c.loop-f.out c.args.out.now
    c.as_slice-f-items.ensures c.f-item.is c.loop-f-test.true c.loop-f.invariant c.in_ok-push_function.ensures
