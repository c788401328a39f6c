-- The frames that go out, and their bytes.
--
--   Frame        — a frame: bytes for a client or for the origin, a client or a connection to close, one to open,
--                  or how many last bytes of an event were not taken
--   frame_bytes  — its bytes
--   longest      — the most bytes that one frame carries
--   short        — whether so many bytes go into one frame
--   written      — the bytes of a frame that carries bytes, or none where they are too many for one
--   answer       — what its writer answers
--   frame_of     — the frame that bytes begin with, and how many bytes it takes
--   out_bytes    — the bytes of frames one after the other
--   GoodFrame    — the frames that go out: numbers that fit their bytes
--
-- Assumes nothing.
use Rattle.std.specs.Prelude.{ℕ, ◌+◌, ◌<◌, Bool, cond, List, [], ◌∷◌, ◌++◌, length, take, drop, Some, None, Ok, Err, Option, Result, ◌==◌, nat_le, slice_index}
use Rattle.frames.specs.Events.{high, low, number_at}
use Rattle.frames.specs.declared.faults.Unwritten.{Unwritten}
use Rattle.frames.specs.declared.faults.Unwritten.TheVariants.{TooLong}

pub data Frame : Type 0 where
  ToClient : (client : ℕ) → (bytes : List ℕ) → Frame
  ToOrigin : (connection : ℕ) → (bytes : List ℕ) → Frame
  CloseClient : (client : ℕ) → Frame
  Open : (connection : ℕ) → Frame
  Close : (connection : ℕ) → Frame
  NotTaken : (client : ℕ) → (count : ℕ) → Frame

abbrev pub frame_bytes : Frame → List ℕ
frame_bytes (ToClient c bs) = 16 ∷ high c ∷ low c ∷ high (length bs) ∷ low (length bs) ∷ bs
frame_bytes (ToOrigin i bs) = 17 ∷ i ∷ high (length bs) ∷ low (length bs) ∷ bs
frame_bytes (CloseClient c) = 18 ∷ high c ∷ low c ∷ []
frame_bytes (Open i) = 19 ∷ i ∷ []
frame_bytes (Close i) = 20 ∷ i ∷ []
frame_bytes (NotTaken c n) = 21 ∷ high c ∷ low c ∷ high n ∷ low n ∷ []

abbrev pub longest : ℕ
longest = 65535

abbrev pub short : List ℕ → Bool
short bs = nat_le (length bs) longest

-- a frame that carries bytes: it is written whole, or refused and nothing is written
abbrev pub written : List ℕ → Frame → List ℕ
written bs f = cond (short bs) (frame_bytes f) []

abbrev pub answer : List ℕ → Result (Unit {0}) Unwritten
answer bs = cond (short bs) (Ok tt) (Err TooLong)

abbrev pub once_there : ℕ → List ℕ → Frame → Option (Frame × ℕ)
once_there n bs f = cond (nat_le n (length bs)) (Some (f, n)) None

abbrev pub frame_by_kind : ℕ → List ℕ → Option (Frame × ℕ)
frame_by_kind k bs =
    cond (k == 16) (once_there (5 + number_at bs 3) bs (ToClient (number_at bs 1) (take (number_at bs 3) (drop 5 bs))))
    (cond (k == 17) (once_there (4 + number_at bs 2) bs (ToOrigin (slice_index bs 1) (take (number_at bs 2) (drop 4 bs))))
    (cond (k == 18) (once_there 3 bs (CloseClient (number_at bs 1)))
    (cond (k == 19) (once_there 2 bs (Open (slice_index bs 1)))
    (cond (k == 20) (once_there 2 bs (Close (slice_index bs 1)))
    (cond (k == 21) (once_there 5 bs (NotTaken (number_at bs 1) (number_at bs 3))) None)))))

abbrev pub frame_of : List ℕ → Option (Frame × ℕ)
frame_of bs = frame_by_kind (slice_index bs 0) bs

abbrev pub out_bytes : List Frame → List ℕ
out_bytes [] = []
out_bytes (f ∷ fs) = frame_bytes f ++ out_bytes fs

abbrev pub GoodFrame : Frame → Type 0
GoodFrame (ToClient c bs) = (c < 65536) × (length bs < 65536)
GoodFrame (ToOrigin i bs) = (i < 256) × (length bs < 65536)
GoodFrame (CloseClient c) = c < 65536
GoodFrame (Open i) = i < 256
GoodFrame (Close i) = i < 256
GoodFrame (NotTaken c n) = (c < 65536) × (n < 65536)
