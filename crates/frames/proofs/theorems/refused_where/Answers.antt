-- The theorem of proofs/Where.antt.
use Rattle.frames.proofs.Where as where-refused
use Rattle.frames.proofs.theorems.refused_where.Goals as goal

pub returns : goal.returns
returns c = where-refused.refused_where
