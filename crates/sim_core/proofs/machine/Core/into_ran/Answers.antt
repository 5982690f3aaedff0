use Rattle.std.proofs.Common.{refl, ◌∙◌}
use Rattle.sim_core.proofs.Recording.{all_parts, out_there}
use Rattle.sim_core.proofs.machine.Core.into_ran.Goals as goal

pub returns : goal.returns
returns c =
    let code = c.args.code.now.code in
    record {
      end = c.end-end.ensures;
      told_same = refl;
      parts = c.in_ok-parts.ensures.parts ∙ all_parts c.args.self.nodes.items c.args.self.count c.args.self.nodes_count;
      out = c.in_ok-parts.ensures.out ∙ out_there code c.args.self;
      cells = c.in_ok-cells.ensures code;
      traffic = c.in_ok-traffic.ensures code;
    }
