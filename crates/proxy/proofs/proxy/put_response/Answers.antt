-- The response fits a frame.
use Rattle.std.proofs.Common.{ℕ, List, subst}
use Rattle.frames.specs.Frames.{ToClient, written}
use Rattle.proxy.specs.Responses.{unavailable}
use Rattle.proxy.proofs.proxy.put_response.Goals as goal

pub returns : goal.returns
unfolding unavailable
returns g c =
    subst (λ (z : List ℕ). g.S.Sink.took c.args.out.now (written z (ToClient c.args.client z)) c.to_client.new.out) c.service_unavailable.ensures c.to_client.ensures.wrote
