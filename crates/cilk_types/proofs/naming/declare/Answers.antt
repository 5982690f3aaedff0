use Rattle.std.proofs.Common.{◌≡◌, suc}
use Rattle.cilk_types.specs.Shown.{scopes_of}
use Rattle.cilk_types.proofs.NewNames.{twice_is, local_is}
use Rattle.cilk_types.proofs.naming.declare.Goals as goal

pub returns-in_ok-add-in-Some-clause-twice : goal.returns-in_ok-add-in-Some-clause-twice
returns-in_ok-add-in-Some-clause-twice c =
    twice_is (λ m. m.entries) c.args.name.now c.args.scopes.now.around c.pop.new.self c.in-Some.scope c.in_ok-twice-in-Some.twice
    c.in-Some.ensures c.in_ok-twice-in-Some.ensures.twice

pub returns-in_ok-add-in-Some-clause-scopes : goal.returns-in_ok-add-in-Some-clause-scopes
returns-in_ok-add-in-Some-clause-scopes c =
    let around =
    local_is (λ m. m.entries) c.args.name.now _ c.args.scopes.now.around c.pop.new.self c.add.new.self c.in-Some.scope c.insert_new.new.map
    c.in-Some.ensures c.in_ok-add-in-Some.ensures.ok c.in_ok-twice-in-Some.ensures.entries in
    let count : c.in_ok-count.count ≡ suc c.args.scopes.now.count = c.in_ok-count.ensures in
    λ i. record { file = (scopes_of c.args.scopes.now).file; around = around i; count = count i; level = c.args.scopes.now.level }
