-- What was taken so far, before what the rest brings, is the whole.
use Rattle.std.proofs.Common.{◌≡◌, ◌-◌, ◌≤◌, List, length, drop}
use Rattle.frames.specs.Frames.{Frame, out_bytes}
use Rattle.proxy.specs.Batches.{ahead, take_all}
use Rattle.proxy.proofs.state.Proxy.take_all.Given as goal

abbrev pub invariant-loop-len : goal.invariant-loop-len
invariant-loop-len g l =
    (l.at ≤ length l.bytes) × ((fs : List Frame) × (g.S.Sink.took l.initial.out (out_bytes fs) l.out) × (take_all l.bytes l.initial.self ≡ ahead l.at fs (take_all (drop l.at l.bytes) l.self)))

abbrev pub decreases-loop-len : goal.decreases-loop-len
decreases-loop-len g l = length l.bytes - l.at
