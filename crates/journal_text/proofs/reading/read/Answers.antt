use Rattle.journal_text.proofs.Whole.{journal_answered, fault_answered}
use Rattle.journal_text.proofs.reading.read.Goals as goal

pub returns-clause-journal : goal.returns-clause-journal
returns-clause-journal c = journal_answered c.args.bytes.now c.read_journal.result c.read_journal.ensures.ok

pub returns-clause-none : goal.returns-clause-none
returns-clause-none c = fault_answered c.args.bytes.now c.read_journal.result c.read_journal.ensures.fault
