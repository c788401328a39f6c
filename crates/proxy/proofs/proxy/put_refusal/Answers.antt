-- Two frames that were put one after the other were put together.
use Rattle.proxy.proofs.proxy.put_refusal.Goals as goal

pub returns : goal.returns
returns g c = g.S.Sink.onward _ _ _ _ _ c.put_response.ensures c.close_client.ensures
