-- What an event is, what bytes say it, and how bytes are read as one.
--
--   Arrival      — an event: bytes of a client or of the origin, a broken connection, a tick, a client's end
--   number       — two bytes as a number, high byte first
--   number_at    — the number in the two bytes from a place on
--   Reading      — what is read: an event and how many bytes it takes; nothing yet, where more bytes are wanted;
--                  or why bytes are refused
--   when_there   — an event that takes so many bytes: it is whole once they are there
--   client_of .. — how the bytes of a frame of each kind are read
--   event_kind   — the kind of event that a frame's first byte says
--   of_kind      — how the bytes of a frame of this kind are read
--   by_kind      — how bytes are read whose first byte is this
--   front_of     — how any bytes are read
--   event_of     — the same, as the name by which it is cited
--   encode       — the bytes that say an event
--   Good         — the events that have a frame: numbers of two bytes, a connection that there is
--
-- Assumes nothing.
use Rattle.std.specs.Prelude.{ℕ, ◌+◌, ◌*◌, ◌/◌, ◌%◌, ◌<◌, cond, List, [], ◌∷◌, length, take, drop, Some, None, Ok, Err, Option, Result, ◌==◌, nat_le, slice_index}
use Rattle.frames.specs.declared.faults.Fault.{Fault}
use Rattle.frames.specs.declared.faults.Fault.TheVariants.{UnknownKind, UnknownConnection}
use Rattle.frames.specs.declared.kinds.EventKind.{EventKind}
use Rattle.frames.specs.declared.kinds.EventKind.TheVariants as kind

pub data Arrival : Type 0 where
  FromClient : (client : ℕ) → (bytes : List ℕ) → Arrival
  FromOrigin : (connection : ℕ) → (bytes : List ℕ) → Arrival
  Broke : (connection : ℕ) → Arrival
  Ticked : Arrival
  Gone : (client : ℕ) → Arrival

abbrev pub connections : ℕ
connections = 8

abbrev pub number : ℕ → ℕ → ℕ
number high low = high * 256 + low

abbrev pub number_at : List ℕ → ℕ → ℕ
number_at bs i = number (slice_index bs i) (slice_index bs (i + 1))

abbrev pub Reading : Type 0
Reading = Result (Option (Arrival × ℕ)) Fault

abbrev pub when_there : ℕ → List ℕ → Arrival → Option (Arrival × ℕ)
when_there n bs e = cond (nat_le n (length bs)) (Some (e, n)) None

-- 1, client, client, length, length, bytes
abbrev pub client_of : List ℕ → Option (Arrival × ℕ)
client_of bs =
    cond (nat_le 5 (length bs))
    (when_there (5 + number_at bs 3) bs (FromClient (number_at bs 1) (take (number_at bs 3) (drop 5 bs))))
    None

-- 2, connection, length, length, bytes
abbrev pub origin_of : List ℕ → Reading
origin_of bs =
    cond (nat_le 2 (length bs))
    (cond (nat_le connections (slice_index bs 1)) (Err UnknownConnection)
    (cond (nat_le 4 (length bs))
    (Ok (when_there (4 + number_at bs 2) bs (FromOrigin (slice_index bs 1) (take (number_at bs 2) (drop 4 bs)))))
    (Ok None)))
    (Ok None)

-- 3, connection
abbrev pub broken_of : List ℕ → Reading
broken_of bs =
    cond (nat_le 2 (length bs))
    (cond (nat_le connections (slice_index bs 1)) (Err UnknownConnection) (Ok (Some (Broke (slice_index bs 1), 2))))
    (Ok None)

-- 5, client, client
abbrev pub ended_of : List ℕ → Option (Arrival × ℕ)
ended_of bs = when_there 3 bs (Gone (number_at bs 1))

abbrev pub event_kind : ℕ → Result EventKind Fault
event_kind k =
    cond (k == 1) (Ok kind.ClientBytes)
    (cond (k == 2) (Ok kind.OriginBytes)
    (cond (k == 3) (Ok kind.OriginBroken)
    (cond (k == 4) (Ok kind.Tick)
    (cond (k == 5) (Ok kind.ClientEnded) (Err UnknownKind)))))

abbrev pub of_kind : Result EventKind Fault → List ℕ → Reading
of_kind (Ok kind.ClientBytes) bs = Ok (client_of bs)
of_kind (Ok kind.OriginBytes) bs = origin_of bs
of_kind (Ok kind.OriginBroken) bs = broken_of bs
of_kind (Ok kind.Tick) bs = Ok (Some (Ticked, 1))
of_kind (Ok kind.ClientEnded) bs = Ok (ended_of bs)
of_kind (Err f) bs = Err f

abbrev pub by_kind : ℕ → List ℕ → Reading
by_kind k bs = of_kind (event_kind k) bs

abbrev pub front_of : List ℕ → Reading
front_of bs = cond (nat_le 1 (length bs)) (by_kind (slice_index bs 0) bs) (Ok None)

unfoldable pub event_of : List ℕ → Reading
event_of bs = front_of bs

abbrev pub high : ℕ → ℕ
high n = n / 256

abbrev pub low : ℕ → ℕ
low n = n % 256

abbrev pub encode : Arrival → List ℕ
encode (FromClient c bs) = 1 ∷ high c ∷ low c ∷ high (length bs) ∷ low (length bs) ∷ bs
encode (FromOrigin i bs) = 2 ∷ i ∷ high (length bs) ∷ low (length bs) ∷ bs
encode (Broke i) = 3 ∷ i ∷ []
encode Ticked = 4 ∷ []
encode (Gone c) = 5 ∷ high c ∷ low c ∷ []

abbrev pub Good : Arrival → Type 0
Good (FromClient c bs) = (c < 65536) × (length bs < 65536)
Good (FromOrigin i bs) = (i < connections) × (length bs < 65536)
Good (Broke i) = i < connections
Good Ticked = Unit {0}
Good (Gone c) = c < 65536
