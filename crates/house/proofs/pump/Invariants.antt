-- What is left is always less than one frame, so there is room for more.
use Rattle.std.proofs.Common.{◌<◌, length}
use Rattle.frames.specs.Views.{largest}
use Rattle.house.proofs.pump.Given as goal

abbrev pub invariant-loop : goal.invariant-loop
invariant-loop l = length l.pending < largest
