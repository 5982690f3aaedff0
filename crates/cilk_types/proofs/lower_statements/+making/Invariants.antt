use Rattle.std.proofs.Common.{◌≡◌, ◌++◌, drop}
use Rattle.cilk_types.specs.Making.{walked_of, made_list, past_list}
use Rattle.cilk_types.proofs.lower_statements.+making.Given as goal

abbrev pub invariant-statements-loop-i : goal.invariant-statements-loop-i
invariant-statements-loop-i l = record {
  all : l.made ++ made_list (drop l.i l.body) (walked_of l.walk) ≡ made_list l.body (walked_of l.fn.walk);
  passed : past_list (drop l.i l.body) (walked_of l.walk) ≡ past_list l.body (walked_of l.fn.walk);
}
