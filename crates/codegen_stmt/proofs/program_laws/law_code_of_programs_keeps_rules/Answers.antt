use Rattle.codegen_stmt.proofs.Well.{keeps_rules}
use Rattle.codegen_stmt.proofs.program_laws.law_code_of_programs_keeps_rules.Goals as goal

pub returns : goal.returns
returns c = keeps_rules
