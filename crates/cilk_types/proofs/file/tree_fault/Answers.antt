use Rattle.std.proofs.Common.{◌∙◌}
use Rattle.cilk_types.proofs.ItemForms.{tree_is}
use Rattle.cilk_types.proofs.file.tree_fault.Goals as goal

pub returns : goal.returns
returns c =
    tree_is c.args.tree.now c.as_slice-items.result.now c.as_slice-2.result.now c.has_main-there.result c.in_ok-inner.inner c.too_many-over.result
    c.broken_if-none.result c.earlier.result c.earlier-2.result c.as_slice-items.ensures c.in_ok-inner.ensures
    (c.as_slice-2.ensures ∙ c.in_ok-function_places.ensures) c.too_many-over.ensures c.has_main-there.ensures c.broken_if-none.ensures
    c.earlier.ensures c.earlier-2.ensures
