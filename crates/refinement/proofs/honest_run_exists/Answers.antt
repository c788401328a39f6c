-- Found by computing.
use Rattle.refinement.proofs.Exampling.{exampled}
use Rattle.refinement.proofs.honest_run_exists.Goals as goal

pub returns : goal.returns
returns c = exampled
