-- The definition makes the world's step, and this is the definition.
use Rattle.node.specs.Worlds.{state_in}
use Rattle.node.proofs.Stepped.{ticked_so}
use Rattle.node.proofs.types.Node.pass_tick.Goals as goal

pub returns-clause-world : goal.returns-clause-world
returns-clause-world c = ticked_so (state_in c.args.self.now) _ c.pass_tick.ensures.state
