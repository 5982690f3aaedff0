-- The judgement of each form of expression, from those of its parts.
use Rattle.std.proofs.Common.{◌≡◌, ◌∙◌, ap, ℕ, Bool, not, List, ◌++◌, refl, ℤ, pos}
use Rattle.word_ops.specs.declared.place.Pos.{Pos}
use Rattle.word_ops.specs.declared.operators.BinaryOp.{BinaryOp}
use Rattle.word_ops.specs.declared.operators.UnaryOp.{UnaryOp}
use Rattle.word_ops.specs.declared.operators.UnaryOp.TheVariants as unary
use Rattle.word_ops.specs.Operators.{same_word}
use Rattle.cilk_ast.specs.declared.fault.FaultKind.TheVariants as fault
use Rattle.cilk_ast.specs.declared.fault.TextFault.{TextFault}
use Rattle.cilk_ast.specs.declared.kind.Kind.{Kind}
use Rattle.cilk_ast.specs.declared.kind.Kind.TheVariants as sort
use Rattle.cilk_ast.specs.declared.tree.TExpr as code
use Rattle.cilk_ast.specs.declared.tree.TExpr.TheBlock.{shape-the_row-TExpr-0, hidden-the_row-TExpr-0}
use Rattle.cilk_ast.specs.declared.tree.TExpr.{TExpr, Number, Var}
use Rattle.cilk_model.specs.FirstFault.{broken_if, earlier, first_fault}
use Rattle.cilk_model.specs.Scopes.{Names}
use Rattle.cilk_model.specs.Sorts.{is_zero, is_word, is_value, is_replicated, binary_kind, takes_operand, judged, kind_of}
use Rattle.cilk_model.specs.ExpressionBreaks.{misfit, unfit, make_nothing, lack_value, index_misfits, faults_of}
use Rattle.cilk_types.specs.declared.judgement.Want.TheVariants as want
use Rattle.cilk_types.specs.Judging.{judgement, of_one, of_operator, of_logic, of_index, of_variable, of_literal, of_init, want_of}
use Rattle.cilk_types.proofs.FaultOrder.{first_fault_append}
use denote.Hole.Carrier.{hidden}

pub judgement_number : (names : Names) (at : Pos) (value : ℤ) → judgement names (Number at value) ≡ of_literal at (same_word value (pos 0))
unfolding judgement
judgement_number names at value = refl

pub judgement_var : (names : Names) (at : Pos) (name : List ℕ) → judgement names (Var at name) ≡ of_variable at (names name)
unfolding judgement
judgement_var names at name = refl

pub judgement_paren : (names : Names) (at : Pos) (inner : TExpr) → judgement names (code.Paren at inner) ≡ record (judgement names inner) { at = at }
unfolding judgement shape-the_row-TExpr-0 hidden-the_row-TExpr-0 hidden
judgement_paren names at inner = refl

-- the first fault of one part's faults and others, and of two parts' and others
pub of_parts : (xs ys zs : List TextFault) → first_fault (xs ++ ys ++ zs) ≡ earlier (earlier (first_fault xs) (first_fault ys)) (first_fault zs)
of_parts xs ys zs = first_fault_append (xs ++ ys) zs ∙ ap (λ f. earlier f (first_fault zs)) (first_fault_append xs ys)

pub judgement_un : (names : Names) (at : Pos) (op : UnaryOp) (inner : TExpr) →
    judgement names (code.Un at op inner) ≡ of_one at (want_of op) sort.Long (judgement names inner)
unfolding judgement shape-the_row-TExpr-0 hidden-the_row-TExpr-0 hidden
judgement_un names at unary.Neg inner = λ i. record (of_one at want.Word sort.Long (judgement names inner)) { fault = first_fault_append (faults_of names inner) (misfit (takes_operand unary.Neg) (judged names inner)) i }
judgement_un names at unary.Not inner = λ i. record (of_one at want.Value sort.Long (judgement names inner)) { fault = first_fault_append (faults_of names inner) (misfit (takes_operand unary.Not) (judged names inner)) i }
judgement_un names at unary.Flip inner = λ i. record (of_one at want.Word sort.Long (judgement names inner)) { fault = first_fault_append (faults_of names inner) (misfit (takes_operand unary.Flip) (judged names inner)) i }

pub judgement_deref : (names : Names) (at : Pos) (inner : TExpr) →
    judgement names (code.Deref at inner) ≡ of_one at (want.Kind sort.Ptr) sort.Long (judgement names inner)
unfolding judgement shape-the_row-TExpr-0 hidden-the_row-TExpr-0 hidden
judgement_deref names at inner =
    λ i. record (of_one at (want.Kind sort.Ptr) sort.Long (judgement names inner)) { fault = first_fault_append (faults_of names inner) (unfit sort.Ptr (judged names inner)) i }

pub judgement_cast : (names : Names) (at : Pos) (kind : Kind) (inner : TExpr) →
    judgement names (code.Cast at kind inner) ≡ of_one at want.Value kind (judgement names inner)
unfolding judgement shape-the_row-TExpr-0 hidden-the_row-TExpr-0 hidden
judgement_cast names at kind inner =
    λ i. record (of_one at want.Value kind (judgement names inner)) { fault = first_fault_append (faults_of names inner) (misfit is_value (judged names inner)) i }

pub judgement_index : (names : Names) (at : Pos) (base index : TExpr) →
    judgement names (code.Index at base index) ≡ of_index (judgement names base) (judgement names index)
unfolding judgement shape-the_row-TExpr-0 hidden-the_row-TExpr-0 hidden
judgement_index names at base index =
    λ i. record (of_index (judgement names base) (judgement names index)) {
      fault = of_parts (faults_of names base) (faults_of names index) (index_misfits (judged names base) (judged names index)) i;
    }

-- what is wrong with two operands
operands : (names : Names) (op : BinaryOp) (left right : TExpr) → Bool
operands names op left right = make_nothing (binary_kind op (is_zero left) (is_zero right)) (kind_of names left) (kind_of names right)

pub judgement_bin : (names : Names) (at : Pos) (op : BinaryOp) (left right : TExpr) →
    judgement names (code.Bin at op left right) ≡ of_operator at op (judgement names left) (judgement names right)
unfolding judgement operands shape-the_row-TExpr-0 hidden-the_row-TExpr-0 hidden
judgement_bin names at op left right =
    λ i. record (of_operator at op (judgement names left) (judgement names right)) {
      fault = of_parts (faults_of names left) (faults_of names right) (broken_if (operands names op left right) fault.WrongType at) i;
    }

pub judgement_both : (names : Names) (at : Pos) (left right : TExpr) →
    judgement names (code.Both at left right) ≡ of_logic at (judgement names left) (judgement names right)
unfolding judgement shape-the_row-TExpr-0 hidden-the_row-TExpr-0 hidden
judgement_both names at left right =
    λ i. record (of_logic at (judgement names left) (judgement names right)) {
      fault = of_parts (faults_of names left) (faults_of names right) (broken_if (lack_value (kind_of names left) (kind_of names right)) fault.WrongType at) i;
    }

pub judgement_either : (names : Names) (at : Pos) (left right : TExpr) →
    judgement names (code.Either at left right) ≡ of_logic at (judgement names left) (judgement names right)
unfolding judgement shape-the_row-TExpr-0 hidden-the_row-TExpr-0 hidden
judgement_either names at left right =
    λ i. record (of_logic at (judgement names left) (judgement names right)) {
      fault = of_parts (faults_of names left) (faults_of names right) (broken_if (lack_value (kind_of names left) (kind_of names right)) fault.WrongType at) i;
    }

pub judgement_init : (names : Names) (at name_at : Pos) (name : List ℕ) (value : TExpr) →
    judgement names (code.InitAt at name_at name value) ≡ of_init at name_at (is_replicated (names name)) (judgement names value)
unfolding judgement shape-the_row-TExpr-0 hidden-the_row-TExpr-0 hidden
judgement_init names at name_at name value =
    λ i. record (of_init at name_at (is_replicated (names name)) (judgement names value)) {
      fault = of_parts (broken_if (not (is_replicated (names name))) fault.Unknown name_at) (faults_of names value) (misfit is_word (judged names value)) i;
    }

pub ruleset judgement_forms = (judgement_number, judgement_var, judgement_paren, judgement_un, judgement_deref, judgement_cast, judgement_index, judgement_bin, judgement_both, judgement_either, judgement_init)
