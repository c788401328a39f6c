-- The theorems of proofs/Settled.antt and proofs/Pieces.antt.
use Rattle.frames.proofs.Pieces as pieces
use Rattle.frames.proofs.Settled as settled
use Rattle.frames.proofs.theorems.pieces_alike.Goals as goal

pub returns : goal.returns
returns c = record { settles = settled.settles; alike = pieces.pieces_alike }
