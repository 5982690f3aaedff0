-- What a call comes to: its status, its bytes, its run, its fault and its code.
use Rattle.std.specs.Prelude.{ℕ, List, Option, Some, None, codes}
use Rattle.word_ops.specs.Ending.{line}
use Rattle.word_ops.specs.declared.ending.End.{End}
use Rattle.word_ops.specs.declared.ending.End.TheVariants.{Done, Trap, Spent}
use Rattle.cilk_model.specs.Faults.{fault_line}
use Rattle.threadlet_code.specs.declared.verified.Verified.{Verified}
use Rattle.traffic_report.specs.declared.run.Ran.{Ran}
use Rattle.emu_top.specs.declared.ended.SourceFault.{SourceFault}
use Rattle.emu_top.specs.declared.ended.SourceFault.TheVariants as source
use Rattle.emu_top.specs.declared.verdict.Verdict.{Verdict}
use Rattle.emu_top.specs.declared.verdict.Verdict.TheVariants.{BadWords, Unread, TooLong, Refused, Printed, Emitted, HasRun}

-- The status of a run.
abbrev pub end_status : End → ℕ
end_status (Done value) = 0
end_status (Trap kind at name) = 3
end_status (Spent nodelet cause) = 4

-- The status, where the bytes are written whole.
abbrev pub status_of : Verdict → ℕ
status_of BadWords = 2
status_of Unread = 5
status_of TooLong = 1
status_of (Refused fault) = 1
status_of (Printed bytes) = 0
status_of (Emitted code bytes) = 0
status_of (HasRun code ran bytes) = end_status ran.end

-- The bytes that are to be written: a fault's line, the text of a program, the text of a code, or what is written of
-- a run.
abbrev pub text_of : Verdict → List ℕ
text_of BadWords = line (codes "fault: words")
text_of Unread = line (codes "fault: read")
text_of TooLong = line (codes "fault: too long")
text_of (Refused fault) = fault_line fault
text_of (Printed bytes) = bytes
text_of (Emitted code bytes) = bytes
text_of (HasRun code ran bytes) = bytes

-- The run, where one was made.
abbrev pub ran_of : Verdict → Option Ran
ran_of BadWords = None
ran_of Unread = None
ran_of TooLong = None
ran_of (Refused fault) = None
ran_of (Printed bytes) = None
ran_of (Emitted code bytes) = None
ran_of (HasRun code ran bytes) = Some ran

-- The fault, where the source was refused.
abbrev pub fault_of : Verdict → Option SourceFault
fault_of BadWords = None
fault_of Unread = None
fault_of TooLong = Some source.TooLong
fault_of (Refused fault) = Some (source.Text fault)
fault_of (Printed bytes) = None
fault_of (Emitted code bytes) = None
fault_of (HasRun code ran bytes) = None

-- The code, where one was made or run.
abbrev pub code_of : Verdict → Option Verified
code_of BadWords = None
code_of Unread = None
code_of TooLong = None
code_of (Refused fault) = None
code_of (Printed bytes) = None
code_of (Emitted code bytes) = Some code
code_of (HasRun code ran bytes) = Some code
