use Rattle.std.proofs.Common.{◌∙◌, ap, map}
use Rattle.cilk_ast.specs.declared.tree.Param.{Param}
use Rattle.cilk_types.specs.Shown.{bare}
use Rattle.cilk_types.proofs.ItemLemmas.{item_global, item_function}
use Rattle.cilk_types.proofs.names.add_function.Goals as goal

pub returns-in-Global : goal.returns-in-Global
returns-in-Global c = λ rest all k.
    item_global c.args.counts c.args.item.now c.in-Global.pos c.in-Global.name c.in-Global.kind c.in-Global.replicated (bare c.args.found.now.entries) rest all
    c.in-Global.is k

pub returns-in_ok-insert_new-in-Function : goal.returns-in_ok-insert_new-in-Function
returns-in_ok-insert_new-in-Function c = λ rest all k.
    item_function c.args.counts c.args.item.now c.in-Function.pos c.in-Function.«result» c.in-Function.name_pos c.in-Function.name
    c.as_slice-in-Function.result.now c.in-Function.params c.in-Function.body c.in_ok-kinds-in-Function.field-0 (bare c.args.found.now.entries)
    (bare c.insert_new.new.map.entries) rest all c.in-Function.is c.as_slice-in-Function.ensures
    (c.in_ok-kinds-in-Function.ensures ∙ ap (map (λ (p : Param). p.kind)) c.as_slice.ensures) c.in_ok-insert_new-in-Function.ensures.entries k
