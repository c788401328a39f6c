-- Proved of every run.
use Rattle.refinement.proofs.Running.{cache_keeps}
use Rattle.refinement.proofs.cache_keeps_promise.Goals as goal

pub returns : goal.returns
returns c = cache_keeps
