use Rattle.std.proofs.Common.{ap}
use Rattle.cilk_types.specs.declared.judgement.Judgement.{Judgement}
use Rattle.cilk_types.specs.Judging.{judgement}
use Rattle.cilk_types.proofs.walk.first_token.Goals as goal

pub returns : goal.returns
unfolding judgement
returns c = ap (λ (j : Judgement). j.at) c.judge-judgement.ensures
