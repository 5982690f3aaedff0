use Rattle.std.proofs.Common.{◌∙◌, ap, false}
use Rattle.cilk_types.specs.Shown.{scopes_of}
use Rattle.cilk_types.specs.Walking.{fault_in_list}
use Rattle.cilk_types.proofs.ParamLemmas.{body_block, body_other}
use Rattle.cilk_types.proofs.items.body_fault.Goals as goal

pub returns-in_ok-fault-in-Block : goal.returns-in_ok-fault-in-Block
returns-in_ok-fault-in-Block c =
    c.in_ok-fault-in-Block.ensures.fault
    ∙ ap (λ l. fault_in_list c.args.gives l (scopes_of c.args.scopes.now) false) c.as_slice.ensures
    ∙ body_block c.args.gives c.args.body.now c.in-Block.list (scopes_of c.args.scopes.now) c.in-Block.is

pub returns-in_ok-fault-in_default : goal.returns-in_ok-fault-in_default
returns-in_ok-fault-in_default c =
    c.in_ok-fault-in_default.ensures.fault ∙ body_other c.args.gives c.args.body.now (scopes_of c.args.scopes.now) c.in_default.not-Block
