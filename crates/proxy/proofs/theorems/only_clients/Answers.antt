-- The theorem of proofs/Answered.antt.
use Rattle.proxy.proofs.Answered as answered
use Rattle.proxy.proofs.theorems.only_clients.Goals as goal

pub returns : goal.returns
returns c = answered.only_clients
