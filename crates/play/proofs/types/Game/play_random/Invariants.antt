-- Before the first command nothing has changed; then each was counted.
use Rattle.std.proofs.Common.{◌≡◌}
use Rattle.play.specs.Dice.{PlayedAs}
use Rattle.play.proofs.types.Game.play_random.Given as goal

abbrev pub invariant-loop-n : goal.invariant-loop-n
invariant-loop-n l = record {
  none : l.n ≡ 0 → l.self ≡ l.initial.self;
  steps : PlayedAs l.n l.initial.self.counts l.initial.self.broken l.self.counts l.self.broken;
}
