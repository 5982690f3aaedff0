use Rattle.codegen_expr.proofs.expression_laws.law_code_of_expressions_acts.Goals as goal
use Rattle.codegen_expr.proofs.ExpressionLaws.{code_of_expressions_acts}

pub returns : goal.returns
returns c = code_of_expressions_acts
