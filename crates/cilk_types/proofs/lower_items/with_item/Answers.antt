use Rattle.cilk_types.specs.Shown.{file_of}
use Rattle.cilk_types.proofs.WholeItems.{global_with, function_with}
use Rattle.cilk_types.proofs.lower_items.with_item.Goals as goal

pub returns-in-Global : goal.returns-in-Global
returns-in-Global c =
    global_with (file_of c.args.file.now) c.args.item.now c.in-Global.pos c.in-Global.name c.in-Global.kind c.in-Global.replicated c.args.functions c.in-Global.is

pub returns-in_ok-all-in-Function : goal.returns-in_ok-all-in-Function
returns-in_ok-all-in-Function c =
    function_with (file_of c.args.file.now) c.args.item.now c.in-Function.pos c.in-Function.result c.in-Function.name_pos c.in-Function.name c.in-Function.params
    c.in-Function.body c.as_slice-title.result.now c.as_slice-given.result.now c.args.functions c.in_ok-all-in-Function.all c.in_ok-one-in-Function.one
    c.in-Function.is c.as_slice-title.ensures c.as_slice-given.ensures c.in_ok-one-in-Function.ensures.function c.in_ok-one-in-Function.ensures.bodies
    c.in_ok-one-in-Function.ensures.next c.in_ok-all-in-Function.ensures
