-- Each command that is played is one more.
use Rattle.std.proofs.Common.{rules}
use Rattle.play.proofs.Steps.{played_none, played_more}
use Rattle.play.proofs.types.Game.play_random.Goals as goal

pub loop-n-init : goal.loop-n-init
loop-n-init c = search (rules, played_none)

pub loop-n-preserved : goal.loop-n-preserved
loop-n-preserved c = record {
  none = search rules;
  steps = played_more c.loop-n.n c.args.self.now.counts c.loop-n.self.counts c.step.new.self.counts c.args.self.now.broken c.loop-n.self.broken c.step.new.self.broken c.in_ok-step.field-0 c.loop-n.invariant.steps c.in_ok-step.ensures.counts c.in_ok-step.ensures.broken;
}
