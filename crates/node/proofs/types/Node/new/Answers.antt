-- The promise is that of every cache by these rules.
use Rattle.refinement.proofs.Running.{cache_keeps}
use Rattle.node.specs.Worlds.{terms_of}
use Rattle.node.proofs.types.Node.new.Goals as goal

pub returns-clause-promise : goal.returns-clause-promise
returns-clause-promise c = λ bodies varies hs honest. cache_keeps (terms_of bodies varies) hs honest
