-- What the values of the code stand for.
--
--   seen         — the event that a value of the code is
--   seen_read    — what was read, with the event that its value is
--   viewed       — the same of a reading that may have been refused
--   largest      — the most bytes that one frame has: a client's bytes, with their head
--   Within       — what was read takes some of the bytes that are there, and no others;
--                  and where more bytes are wanted, there is less than the largest frame
--
-- Assumes nothing.
use Rattle.std.specs.Prelude.{ℕ, ◌<◌, ◌≤◌, Some, None, Ok, Err, Option, Result, option_map}
use Rattle.frames.specs.declared.events.Event.{Event}
use Rattle.frames.specs.declared.events.Event.TheVariants as event
use Rattle.frames.specs.declared.faults.Fault.{Fault}
use Rattle.frames.specs.Events.{Arrival, FromClient, FromOrigin, Broke, Ticked, Gone, Reading}

abbrev pub seen : Event → Arrival
seen (event.Client c bs) = FromClient c bs.now
seen (event.Origin i bs) = FromOrigin i bs.now
seen (event.Broken i) = Broke i
seen event.Tick = Ticked
seen (event.Ended c) = Gone c

abbrev pub seen_read : Option (Event × ℕ) → Option (Arrival × ℕ)
seen_read r = option_map (λ (x : Event × ℕ). (seen x.0, x.1)) r

abbrev pub viewed : Result (Option (Event × ℕ)) Fault → Reading
viewed (Ok r) = Ok (seen_read r)
viewed (Err f) = Err f

abbrev pub largest : ℕ
largest = 65540

abbrev pub Within : {A : Type 0} → Result (Option (A × ℕ)) Fault → ℕ → Type 0
Within (Ok None) m = m < largest
Within (Ok (Some x)) m = (0 < x.1) × (x.1 ≤ m)
Within (Err f) m = Unit {0}
