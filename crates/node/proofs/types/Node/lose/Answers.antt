-- The definition makes the world's step, and this is the definition.
use Rattle.node.specs.Worlds.{state_in}
use Rattle.node.proofs.Stepped.{lost_so}
use Rattle.node.proofs.types.Node.lose.Goals as goal

pub returns-clause-world : goal.returns-clause-world
returns-clause-world c = lost_so c.args.c (state_in c.args.self.now) _ c.lose.ensures.state
