-- How refusals are told.
--
--   refusal_number — the number of a frame's fault
--   fault_text     — what the deciding byte of a frame is not
--   unwritten_text — why bytes are not written
--
-- Assumes nothing.
use Rattle.std.specs.Prelude.{ℕ, List, codes}
use Rattle.frames.specs.declared.faults.Fault.{Fault}
use Rattle.frames.specs.declared.faults.Fault.TheVariants.{UnknownKind, UnknownConnection}
use Rattle.frames.specs.declared.faults.Unwritten.{Unwritten}
use Rattle.frames.specs.declared.faults.Unwritten.TheVariants.{TooLong}

abbrev pub refusal_number : Fault → ℕ
refusal_number UnknownKind = 1
refusal_number UnknownConnection = 1

abbrev pub fault_text : Fault → List ℕ
fault_text UnknownKind = codes "no kind of event"
fault_text UnknownConnection = codes "no connection"

abbrev pub unwritten_text : Unwritten → List ℕ
unwritten_text TooLong = codes "more bytes than one frame carries"
