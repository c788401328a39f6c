-- What the proxy does at an event.
--
--   State        — what a proxy of the code stands for: the clock, and for each client's number a byte, 0 unless the client is closed
--   start        — the first state, with so many places for clients
--   is_open      — there is a place for the client's mark, and it is not closed; a client with no place is never answered
--   Turn         — the state after an event, and the frames that it brings
--   refusal      — the frames by which a client is refused: 503, and its closing
--   does         — what an event does: first bytes of a client are refused with 503 and the client is closed;
--                  its further bytes are dropped until it ended; nothing is asked of the origin
--   exhausted    — the clock can't be counted further
--   counted      — an event is taken, unless the clock is exhausted
--   handled      — what an event does, unless the clock is exhausted
--   Step         — how many bytes the event has that was taken, or why none was
--   Outcome      — what an event does, and what is told of it
--   step_of      — one event from the front of some bytes
--   StepWithin   — an event takes some of the bytes that are there, and no others;
--                  and where more bytes are wanted, there is less than the largest frame
--
-- Assumes nothing.
use Rattle.std.specs.Prelude.{ℕ, ◌+◌, ◌<◌, ◌≤◌, Bool, false, cond, ◌&&◌, List, [], ◌∷◌, length, replicate, Some, None, Ok, Err, Result, ◌==◌, nat_le, nat_lt, slice_index, slice_set}
use Rattle.frames.specs.Events.{Arrival, Reading, FromClient, FromOrigin, Broke, Ticked, Gone, event_of}
use Rattle.frames.specs.Frames.{Frame, ToClient, CloseClient}
use Rattle.frames.specs.Views.{largest}
use Rattle.proxy.specs.declared.steps.Halt.{Halt}
use Rattle.proxy.specs.declared.steps.Halt.TheVariants as halt
use Rattle.proxy.specs.Responses.{unavailable}

pub record State : Type 0 where
  pub tick : ℕ
  pub marks : List ℕ

abbrev pub start : ℕ → State
start n = record { tick = 0; marks = replicate n 0 }

abbrev pub is_open : List ℕ → ℕ → Bool
is_open marks c = nat_lt c (length marks) && slice_index marks c == 0

abbrev pub marked : ℕ → ℕ → State → State
marked c m s = record { tick = s.tick; marks = slice_set s.marks c m }

abbrev pub ticked : State → State
ticked s = record { tick = s.tick + 1; marks = s.marks }

pub record Turn : Type 0 where
  pub after : State
  pub frames : List Frame

abbrev pub still : State → Turn
still s = record { after = s; frames = [] }

abbrev pub refusal : ℕ → List Frame
refusal c = ToClient c unavailable ∷ CloseClient c ∷ []

abbrev pub refuse : ℕ → State → Turn
refuse c s = record { after = marked c 1 s; frames = refusal c }

abbrev pub from_client : ℕ → List ℕ → State → Turn
from_client c bs s = cond (nat_lt 0 (length bs) && is_open s.marks c) (refuse c s) (still s)

abbrev pub does : Arrival → State → Turn
does (FromClient c bs) s = from_client c bs s
does (FromOrigin i bs) s = still s
does (Broke i) s = still s
does Ticked s = still (ticked s)
does (Gone c) s = still (marked c 0 s)

abbrev pub last_tick : ℕ
last_tick = 18446744073709551615

abbrev pub exhausted : Arrival → State → Bool
exhausted (FromClient c bs) s = false
exhausted (FromOrigin i bs) s = false
exhausted (Broke i) s = false
exhausted Ticked s = nat_le last_tick s.tick
exhausted (Gone c) s = false

abbrev pub counted : Arrival → State → Result (Unit {0}) Halt
counted e s = cond (exhausted e s) (Err halt.ClockExhausted) (Ok tt)

abbrev pub handled : Arrival → State → Turn
handled e s = cond (exhausted e s) (still s) (does e s)

abbrev pub Step : Type 0
Step = Result ℕ Halt

pub record Outcome : Type 0 where
  pub turn : Turn
  pub step : Step

abbrev pub halted : Halt → State → Outcome
halted h s = record { turn = still s; step = Err h }

abbrev pub step_on : Reading → State → Outcome
step_on (Ok None) s = halted halt.More s
step_on (Ok (Some x)) s =
    record { turn = handled x.0 s; step = cond (exhausted x.0 s) (Err halt.ClockExhausted) (Ok x.1) }
step_on (Err f) s = halted (halt.Refused f) s

abbrev pub step_of : List ℕ → State → Outcome
step_of bs s = step_on (event_of bs) s

abbrev pub HaltWithin : Halt → ℕ → Type 0
HaltWithin halt.More m = m < largest
HaltWithin (halt.Refused f) m = Unit {0}
HaltWithin halt.ClockExhausted m = Unit {0}

abbrev pub StepWithin : Step → ℕ → Type 0
StepWithin (Ok n) m = (0 < n) × (n ≤ m)
StepWithin (Err h) m = HaltWithin h m
