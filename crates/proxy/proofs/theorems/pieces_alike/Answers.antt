-- The theorem of proofs/Cut.antt.
use Rattle.proxy.proofs.Cut as cut
use Rattle.proxy.proofs.theorems.pieces_alike.Goals as goal

pub returns : goal.returns
returns c = cut.pieces_alike
