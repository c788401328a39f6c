-- Two parts that were put one after the other were put together.
use Rattle.frames.proofs.writer.put_both.Goals as goal

pub returns : goal.returns
returns g c = g.S.Sink.onward _ _ _ _ _ c.put.ensures c.put-2.ensures
