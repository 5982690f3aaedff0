use Rattle.std.proofs.Common.{◌∙◌, sym, subst, ◌^◌, ◌≤◌}
use Rattle.cilk_ast.specs.Nodes.{node_count}
use Rattle.cilk_model.specs.Lowering.{Parts}
use Rattle.cilk_types.proofs.KeptTreeNodes.{nodes_within_text}
use Rattle.cilk_types.proofs.SpelledTree.{spelled_is_within}
use Rattle.cilk_types.proofs.programs.check.Goals as goal

pub returns-in_ok-program-in-None-clause-nodes : goal.returns-in_ok-program-in-None-clause-nodes
returns-in_ok-program-in-None-clause-nodes c =
    subst (λ (parts : Parts). node_count parts.functions ≤ 2 ^ 28) (sym c.in_ok-program-in-None.ensures)
    (nodes_within_text c.args.tree.now (sym c.in_ok-fault.ensures ∙ c.in-None.is)
    (spelled_is_within c.requires.text c.args.tree.now c.requires.spells c.requires.short))
