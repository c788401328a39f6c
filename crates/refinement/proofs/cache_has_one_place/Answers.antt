-- Proved of every run.
use Rattle.refinement.proofs.Running.{cache_has_one_place}
use Rattle.refinement.proofs.cache_has_one_place.Goals as goal

pub returns : goal.returns
returns c = cache_has_one_place
