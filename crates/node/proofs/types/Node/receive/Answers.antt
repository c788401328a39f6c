-- The definition makes the world's step, and this is the definition.
use Rattle.cache.specs.Answers.{reply_of}
use Rattle.node.specs.Worlds.{state_in}
use Rattle.node.proofs.Stepped.{answered_so}
use Rattle.node.proofs.types.Node.receive.Goals as goal

pub returns-clause-world : goal.returns-clause-world
returns-clause-world c = answered_so c.args.c (reply_of c.args.answer) (state_in c.args.self.now) _ c.receive.ensures.state
