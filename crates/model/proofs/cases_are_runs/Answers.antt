-- Proved by going through the run.
use Rattle.model.proofs.Played.{played_is_world}
use Rattle.model.proofs.cases_are_runs.Goals as goal

pub returns : goal.returns
returns c = played_is_world
