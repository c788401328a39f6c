-- All the events of a byte string, and what becomes of it in pieces.
--
--   End          — how the bytes end: with the beginning of a frame that is not whole yet, or refused at a fault
--   Stream       — the events that were read, and the end
--   events_on    — at most so many events of the bytes
--   events_of    — all of them: an event takes a byte at least, so their number is at most the bytes' own
--   feed         — a piece more behind what was left; after a refusal nothing is read any more
--   in_pieces    — pieces one after the other
--
-- Assumes nothing.
use Rattle.std.specs.Prelude.{ℕ, zero, suc, List, [], ◌∷◌, ◌++◌, length, drop, Some, None, Ok, Err}
use Rattle.frames.specs.declared.faults.Fault.{Fault}
use Rattle.frames.specs.Events.{Arrival, Reading, event_of}

pub data End : Type 0 where
  Left : (rest : List ℕ) → End
  Stopped : (fault : Fault) → End

pub record Stream : Type 0 where
  pub events : List Arrival
  pub end : End

abbrev pub after : Arrival → Stream → Stream
after e s = record { events = e ∷ s.events; end = s.end }

abbrev pub next : (List ℕ → Stream) → List ℕ → Reading → Stream
next on bs (Ok None) = record { events = []; end = Left bs }
next on bs (Err f) = record { events = []; end = Stopped f }
next on bs (Ok (Some x)) = after x.0 (on (drop x.1 bs))

unfoldable pub events_on : ℕ → List ℕ → Stream
events_on zero bs = record { events = []; end = Left bs }
events_on (suc k) bs = next (events_on k) bs (event_of bs)

unfoldable pub events_of : List ℕ → Stream
events_of bs = events_on (length bs) bs

abbrev pub behind : List Arrival → Stream → Stream
behind es s = record { events = es ++ s.events; end = s.end }

abbrev pub feed_end : List Arrival → End → List ℕ → Stream
feed_end es (Left rest) piece = behind es (events_of (rest ++ piece))
feed_end es (Stopped f) piece = record { events = es; end = Stopped f }

abbrev pub feed : Stream → List ℕ → Stream
feed s piece = feed_end s.events s.end piece

abbrev pub in_pieces : Stream → List (List ℕ) → Stream
in_pieces s [] = s
in_pieces s (p ∷ ps) = in_pieces (feed s p) ps

abbrev pub joined : List (List ℕ) → List ℕ
joined [] = []
joined (p ∷ ps) = p ++ joined ps

abbrev pub nothing_yet : Stream
nothing_yet = record { events = []; end = Left [] }
