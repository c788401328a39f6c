-- The memory has more bytes than the largest frame.
use Rattle.std.proofs.Common.{refl, arith}
use Rattle.house.proofs.pending.Pending.new.Goals as goal

pub invariant_of-result : goal.invariant_of-result
invariant_of-result c = (omega (arith, c.in_ok-vec.ensures.len), omega (arith, c.in_ok-vec.ensures.len))

pub returns : goal.returns
returns c = refl
