-- The theorems of proofs/Outward.antt.
use Rattle.frames.proofs.Outward.{frames_back, one_reading}
use Rattle.frames.proofs.theorems.frames_read_back.Goals as goal

pub returns : goal.returns
returns c = record { back = frames_back; once = one_reading }
