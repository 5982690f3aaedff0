-- Arguments in a row are evaluated as arguments in a list are.
use Rattle.std.proofs.Common.{◌≡◌, List, ◌∷◌, refl, ap, ◌∙◌, ℤ}
use Rattle.cilk_ast.specs.declared.program.Expr.{Expr, Row_of-Expr as Args, end_of-Expr as no_args, more_of-Expr as more_args}
use Rattle.cilk_ast.specs.declared.program.Expr.TheBlock.{hidden-the_row-Expr-1}
use Rattle.cilk_ast.specs.Expression.{listed}
use Rattle.cilk_ast.proofs.ExpressionForms.{listed_row}
use Rattle.world_model.specs.Meaning.{Acts}
use Rattle.world_model.specs.Activation.{Slots}
use Rattle.cilk_model.specs.Value.{Calling, value, values, values_of}

module _ (call : Calling) where
  pub values_are : {n : _} (args : Args n) (slots : Slots) (next : List ℤ → Acts) → values call args slots next ≡ values_of call (listed args) slots next
  values_are no_args slots next = refl
  values_are (more_args e rest) slots next = λ i. value call e slots (λ x. values_are rest slots (λ xs. next (x ∷ xs)) i)

  -- the arguments of a call, a print or an allocation as code builds it
  pub values_of_list : (args : List Expr) (slots : Slots) (next : List ℤ → Acts) → values call (hidden-the_row-Expr-1 args) slots next ≡ values_of call args slots next
  values_of_list args slots next = values_are (hidden-the_row-Expr-1 args) slots next ∙ ap (λ es. values_of call es slots next) (listed_row args)
