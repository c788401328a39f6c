-- What a step comes to, by what was read.
use Rattle.std.proofs.Common.{◌≡◌, ℕ, List, ap}
use Rattle.frames.specs.Events.{Reading, event_of}
use Rattle.proxy.specs.Steps.{State, step_on, step_of}

pub step_by : (bs : List ℕ) (s : State) (r : Reading) → r ≡ event_of bs → step_on r s ≡ step_of bs s
step_by bs s r e = ap (λ (z : Reading). step_on z s) e
