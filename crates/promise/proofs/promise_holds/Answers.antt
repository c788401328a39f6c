-- The promise was proved of every run.
use Rattle.promise.proofs.Promised.{promised}
use Rattle.promise.proofs.promise_holds.Goals as goal

pub returns : goal.returns
returns c = promised
