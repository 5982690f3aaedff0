use Rattle.code_text.proofs.Whole.{code_answered, fault_answered}
use Rattle.code_text.proofs.Lengths.{lengths_answered, short_answered}
use Rattle.code_text.proofs.reading.read.Goals as goal

pub returns-clause-code : goal.returns-clause-code
returns-clause-code c = code_answered c.args.bytes.now c.read_code.result c.read_code.ensures.ok

pub returns-clause-within : goal.returns-clause-within
returns-clause-within c = lengths_answered c.args.bytes.now c.read_code.result (code_answered c.args.bytes.now c.read_code.result c.read_code.ensures.ok)

pub returns-clause-short : goal.returns-clause-short
returns-clause-short c = short_answered c.args.bytes.now c.read_code.result (code_answered c.args.bytes.now c.read_code.result c.read_code.ensures.ok)

pub returns-clause-none : goal.returns-clause-none
returns-clause-none c = fault_answered c.args.bytes.now c.read_code.result c.read_code.ensures.fault
