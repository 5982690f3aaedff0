use Rattle.std.proofs.Common.{◌∙◌}
use Rattle.cilk_types.specs.Shown.{scopes_of, file_of}
use Rattle.cilk_types.proofs.ItemForms.{function_is}
use Rattle.cilk_types.proofs.items.function_fault.Goals as goal

pub returns : goal.returns
returns c =
    function_is (file_of c.args.file.now) c.args.gives c.args.params.now c.args.body.now (scopes_of c.in_ok-scopes.scopes) (scopes_of c.declare_params.new.scopes)
    c.as_slice-2.result.now c.as_slice-4.result.now c.in_ok-twice.twice c.too_many-params_over.result c.in_ok-inner.inner c.too_many-locals_over.result
    c.earlier.result c.earlier-2.result c.earlier-3.result c.in_ok-scopes.ensures c.in_ok-twice.ensures.fault c.in_ok-twice.ensures.scopes
    (c.as_slice-2.ensures ∙ c.in_ok-param_places.ensures) c.too_many-params_over.ensures c.in_ok-inner.ensures
    (c.as_slice-4.ensures ∙ c.in_ok-local_places.ensures) c.too_many-locals_over.ensures c.earlier.ensures c.earlier-2.ensures c.earlier-3.ensures
