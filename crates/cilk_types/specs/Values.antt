-- What code finds in the expressions of statements.
use Rattle.std.specs.Prelude.{Bool, true, false, not, Option, Some, None, if◌then◌else◌}
use Rattle.word_ops.specs.declared.place.Pos.{Pos}
use Rattle.cilk_ast.specs.declared.fault.FaultKind.TheVariants as fault
use Rattle.cilk_ast.specs.declared.fault.TextFault.{TextFault}
use Rattle.cilk_ast.specs.declared.kind.Kind.{Kind}
use Rattle.cilk_ast.specs.declared.kind.Kind.TheVariants as sort
use Rattle.cilk_ast.specs.declared.tree.TSpawn.{TSpawn}
use Rattle.cilk_ast.specs.declared.tree.TValue.{TValue}
use Rattle.cilk_ast.specs.declared.tree.TValue.TheVariants.{Plain, Spawned}
use Rattle.cilk_ast.specs.declared.tree.TExpr.{TExpr}
use Rattle.cilk_model.specs.FirstFault.{broken, broken_if, earlier, first_fault}
use Rattle.cilk_model.specs.Scopes.{Names, Scopes, names_in}
use Rattle.cilk_model.specs.Sorts.{counted, same_kind}
use Rattle.cilk_model.specs.StatementBreaks.{is_place, is_outer, is_target, brings_other}
use Rattle.cilk_types.specs.declared.judgement.Judgement.{Judgement}
use Rattle.cilk_types.specs.declared.judgement.Want.{Want}
use Rattle.cilk_types.specs.declared.judgement.Want.TheVariants as want
use Rattle.cilk_types.specs.Judging.{judgement, is_good, wrong_with}
use Rattle.cilk_types.specs.Calling.{of_call}

-- a part of which something is wanted
abbrev pub part_fault : Names → Want → TExpr → Option TextFault
part_fault names wish e = earlier (judgement names e).fault (wrong_with wish (judgement names e))

-- a test that may be missing
abbrev pub test_fault : Names → Option TExpr → Option TextFault
test_fault names None = None
test_fault names (Some e) = part_fault names want.Value e

-- a hint that may be missing
abbrev pub hint_fault : Names → Option TExpr → Option TextFault
hint_fault names None = None
hint_fault names (Some e) = part_fault names (want.Kind sort.Ptr) e

abbrev pub hint_holds : Names → Option TExpr → Bool
hint_holds names None = true
hint_holds names (Some e) = is_good (want.Kind sort.Ptr) (judgement names e)

-- a spawn
abbrev pub of_spawn : Names → TSpawn → Judgement
of_spawn names spawn =
    let call = of_call names spawn.name_pos (names spawn.name) spawn.args in
    record {
      at = spawn.pos;
      is_literal_0 = false;
      kind = if hint_holds names spawn.hint then call.kind else None;
      fault = earlier (hint_fault names spawn.hint) call.fault;
    }

-- a left side
abbrev pub side_fault : Scopes → TExpr → Option TextFault
side_fault scopes left =
    let j = judgement (names_in scopes) left in
    earlier (earlier j.fault (first_fault (broken_if (not (is_place left)) fault.NotAPlace j.at)))
    (first_fault (broken_if (is_outer scopes left) fault.AssignsOuter j.at))

-- a value that is given to something of a kind
abbrev pub given_fault : Option Kind → Judgement → Option TextFault
given_fault None j = None
given_fault (Some kind) j = wrong_with (want.Kind kind) j

abbrev pub value_fault : Names → Option Kind → TValue → Option TextFault
value_fault names kind (Plain e) = earlier (judgement names e).fault (given_fault kind (judgement names e))
value_fault names kind (Spawned spawn) =
    earlier (of_spawn names spawn).fault (first_fault (brings_other kind (of_spawn names spawn).kind spawn.pos))

abbrev pub initial_fault : Names → Kind → Option TValue → Option TextFault
initial_fault names kind None = None
initial_fault names kind (Some value) = value_fault names (Some kind) value

-- the target of a value that is spawned
abbrev pub target_fault : Names → TExpr → TValue → Option TextFault
target_fault names left (Plain e) = None
target_fault names left (Spawned spawn) = first_fault (broken_if (not (is_target names left)) fault.NotAPlace (judgement names left).at)

-- what is added
abbrev pub added_fault : Option Kind → Judgement → Option TextFault
added_fault None j = None
added_fault (Some kind) j = wrong_with want.Word j

-- what is returned
abbrev pub return_fault : Names → Kind → Pos → Option TExpr → Option TextFault
return_fault names gives at None = first_fault (broken_if (not (same_kind sort.Void gives)) fault.WrongType at)
return_fault names sort.Void at (Some e) = earlier (first_fault (broken fault.WrongType at)) (judgement names e).fault
return_fault names gives at (Some e) = part_fault names (want.Kind (counted gives)) e
