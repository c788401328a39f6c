-- The definition makes the world's step, and this is the definition.
use Rattle.cache.specs.Rules.{ask_of}
use Rattle.node.specs.Worlds.{state_in}
use Rattle.node.proofs.Stepped.{asked_so}
use Rattle.node.proofs.types.Node.request.Goals as goal

pub returns-clause-world : goal.returns-clause-world
returns-clause-world c = asked_so (ask_of c.args.request) (state_in c.args.self.now) _ c.request.ensures.state
