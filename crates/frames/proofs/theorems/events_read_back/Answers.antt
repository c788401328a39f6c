-- The theorems of proofs/Back.antt.
use Rattle.frames.proofs.Back.{reads_back, one_encoding}
use Rattle.frames.proofs.theorems.events_read_back.Goals as goal

pub returns : goal.returns
returns c = record { back = reads_back; once = one_encoding }
