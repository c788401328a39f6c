-- The theorems of proofs/Answered.antt.
use Rattle.proxy.proofs.Answered as answered
use Rattle.proxy.proofs.theorems.answered_once.Goals as goal

pub returns : goal.returns
returns c = record { once = answered.answered_once; unasked = answered.unasked }
