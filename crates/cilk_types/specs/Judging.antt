-- What code keeps of an expression, and what it makes of the parts of a form.
use Rattle.std.specs.Prelude.{Bool, true, false, ◌&&◌, not, if◌then◌else◌, Option, Some, None}
use Rattle.word_ops.specs.declared.place.Pos.{Pos}
use Rattle.word_ops.specs.declared.operators.BinaryOp.{BinaryOp}
use Rattle.word_ops.specs.declared.operators.UnaryOp.{UnaryOp}
use Rattle.word_ops.specs.declared.operators.UnaryOp.TheVariants as unary
use Rattle.cilk_ast.specs.declared.fault.FaultKind.TheVariants as fault
use Rattle.cilk_ast.specs.declared.fault.TextFault.{TextFault}
use Rattle.cilk_ast.specs.declared.kind.Kind.{Kind}
use Rattle.cilk_ast.specs.declared.kind.Kind.TheVariants as sort
use Rattle.cilk_ast.specs.declared.tree.TExpr.{TExpr}
use Rattle.cilk_ast.specs.TreeExpression.{Index}
use Rattle.cilk_model.specs.FirstFault.{broken_if, earlier, first_fault}
use Rattle.cilk_model.specs.Scopes.{Entity, Names}
use Rattle.cilk_model.specs.Sorts.{is_word, is_value, is_zero, fits, begins_at, Judged, has, kind_if, of_both, binary_kind, variable_kind, kind_of}
use Rattle.cilk_model.specs.ExpressionBreaks.{misfit, make_nothing, lack_value, index_misfits, variable_faults, faults_of}
use Rattle.cilk_types.specs.declared.judgement.Judgement.{Judgement}
use Rattle.cilk_types.specs.declared.judgement.Want.{Want}
use Rattle.cilk_types.specs.declared.judgement.Want.TheVariants as want

-- the kinds that are wanted of a part
abbrev pub test_of : Want → Bool → Kind → Bool
test_of want.Word is_literal_0 kind = is_word kind
test_of want.Value is_literal_0 kind = is_value kind
test_of (want.Kind wanted) is_literal_0 kind = fits wanted is_literal_0 kind

-- an expression as rules see it
abbrev pub part_of : Judgement → Judged
part_of j = record { at = j.at; is_literal_0 = j.is_literal_0; kind = j.kind }

-- what is wanted of a part holds, and what is wrong with it
abbrev pub is_good : Want → Judgement → Bool
is_good want j = has (test_of want j.is_literal_0) (part_of j)

abbrev pub wrong_with : Want → Judgement → Option TextFault
wrong_with want j = first_fault (misfit (test_of want j.is_literal_0) (part_of j))

-- the judgement of an expression
unfoldable pub judgement : Names → TExpr → Judgement
judgement names e = record { at = begins_at e; is_literal_0 = is_zero e; kind = kind_of names e; fault = first_fault (faults_of names e) }

-- a form with one part
abbrev pub of_one : Pos → Want → Kind → Judgement → Judgement
of_one at want gives part = record {
  at = at;
  is_literal_0 = false;
  kind = kind_if (is_good want part) gives;
  fault = earlier part.fault (wrong_with want part);
}

-- a form with two parts, its kind and what is wrong with the two together
abbrev pub of_two : Option Kind → Option TextFault → Judgement → Judgement → Judgement
of_two kind wrong left right = record {
  at = left.at;
  is_literal_0 = false;
  kind = kind;
  fault = earlier (earlier left.fault right.fault) wrong;
}

abbrev pub of_operator : Pos → BinaryOp → Judgement → Judgement → Judgement
of_operator at op left right =
    let makes = binary_kind op left.is_literal_0 right.is_literal_0 in
    of_two (of_both makes left.kind right.kind) (first_fault (broken_if (make_nothing makes left.kind right.kind) fault.WrongType at)) left right

abbrev pub of_logic : Pos → Judgement → Judgement → Judgement
of_logic at left right =
    of_two (kind_if (is_good want.Value left && is_good want.Value right) sort.Long)
    (first_fault (broken_if (lack_value left.kind right.kind) fault.WrongType at)) left right

abbrev pub of_index : Judgement → Judgement → Judgement
of_index base index =
    of_two (kind_if (is_good (want.Kind sort.Ptr) base && is_good want.Word index) sort.Long)
    (first_fault (index_misfits (part_of base) (part_of index))) base index

-- a variable
abbrev pub of_variable : Pos → Option Entity → Judgement
of_variable at entity = record { at = at; is_literal_0 = false; kind = variable_kind entity; fault = first_fault (variable_faults at entity) }

-- a literal
abbrev pub of_literal : Pos → Bool → Judgement
of_literal at is_literal_0 = record { at = at; is_literal_0 = is_literal_0; kind = Some sort.Long; fault = None }

-- `mw_replicated_init` of a name, which is that of a replicated global or not
abbrev pub of_init : Pos → Pos → Bool → Judgement → Judgement
of_init at name_at is_there value = record {
  at = at;
  is_literal_0 = false;
  kind = kind_if (is_there && is_good want.Word value) sort.Void;
  fault = earlier (earlier (first_fault (broken_if (not is_there) fault.Unknown name_at)) value.fault) (wrong_with want.Word value);
}

-- what is wanted of an operand
abbrev pub want_of : UnaryOp → Want
want_of unary.Not = want.Value
want_of _ = want.Word

-- `e[i]`, and `e[i][j]`
abbrev pub is_single : TExpr → Bool
is_single (Index at base index) = true
is_single _ = false

abbrev pub is_double : TExpr → Bool
is_double (Index at base index) = is_single base
is_double _ = false

-- a form behind which indexes were taken off, with the first fault in them
abbrev pub behind : Bool → Judgement → Option TextFault → Judgement
behind taken j outside = record {
  at = j.at;
  is_literal_0 = j.is_literal_0;
  kind = if taken then None else j.kind;
  fault = earlier j.fault outside;
}
