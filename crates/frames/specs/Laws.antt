-- What holds of the frames that come in and go out, for every byte string.
--
--   ReadsBack    — an event's bytes, whatever follows them, read as that event and as so many bytes
--   OneEncoding  — what reads as an event begins with just that event's bytes
--   Settles      — a verdict, whole or refused, stays whatever bytes follow
--   PiecesAlike  — in whatever pieces bytes come, the same events are read, with the same end
--   BadKind      — the first byte is no kind of event
--   BadConnection — the second byte of a frame that names a connection is none
--   RefusedWhere — just those are refused, at the first byte that decides it
--   FramesBack   — the bytes of a frame that goes out, whatever follows them, read as that frame
--   OneReading   — no two outputs have the same bytes
--
-- Assumes nothing.
use Rattle.std.specs.Prelude.{◌≡◌, ℕ, ◌<◌, ◌≤◌, ◌⊎◌, List, [], ◌∷◌, ◌++◌, length, take, Some, None, Ok, Err, ◌≢◌, slice_index}
use Rattle.frames.specs.declared.faults.Fault.TheVariants.{UnknownKind, UnknownConnection}
use Rattle.frames.specs.Events.{Arrival, Good, connections, encode, event_of}
use Rattle.frames.specs.Frames.{Frame, GoodFrame, frame_bytes, frame_of, out_bytes}
use Rattle.frames.specs.Streams.{events_of, in_pieces, joined, nothing_yet}

abbrev pub ReadsBack : Type 0
ReadsBack = (e : Arrival) → Good e → (rest : List ℕ) → event_of (encode e ++ rest) ≡ Ok (Some (e, length (encode e)))

-- each is a byte
abbrev pub Bytes : List ℕ → Type 0
Bytes bs = (k : ℕ) → slice_index bs k < 256

abbrev pub OneEncoding : Type 0
OneEncoding = (bs : List ℕ) (e : Arrival) (n : ℕ) → Bytes bs → event_of bs ≡ Ok (Some (e, n)) → Good e × (take n bs ≡ encode e)

abbrev pub Settles : Type 0
Settles = (bs more : List ℕ) → (event_of bs ≢ Ok None) → event_of (bs ++ more) ≡ event_of bs

abbrev pub PiecesAlike : Type 0
PiecesAlike = (pieces : List (List ℕ)) → in_pieces nothing_yet pieces ≡ events_of (joined pieces)

abbrev pub BadKind : List ℕ → Type 0
BadKind bs = (0 < length bs) × ((slice_index bs 0 ≡ 0) ⊎ (5 < slice_index bs 0))

abbrev pub BadConnection : List ℕ → Type 0
BadConnection bs = (1 < length bs) × ((slice_index bs 0 ≡ 2) ⊎ (slice_index bs 0 ≡ 3)) × (connections ≤ slice_index bs 1)

pub record RefusedAt (bs : List ℕ) : Type 0 where
  pub kind : BadKind bs → event_of bs ≡ Err UnknownKind
  pub kind_only : event_of bs ≡ Err UnknownKind → BadKind bs
  pub connection : BadConnection bs → event_of bs ≡ Err UnknownConnection
  pub connection_only : event_of bs ≡ Err UnknownConnection → BadConnection bs

abbrev pub RefusedWhere : Type 0
RefusedWhere = (bs : List ℕ) → RefusedAt bs

abbrev pub FramesBack : Type 0
FramesBack = (f : Frame) → GoodFrame f → (rest : List ℕ) → frame_of (frame_bytes f ++ rest) ≡ Some (f, length (frame_bytes f))

abbrev pub AllGood : List Frame → Type 0
AllGood [] = Unit {0}
AllGood (f ∷ fs) = GoodFrame f × AllGood fs

abbrev pub OneReading : Type 0
OneReading = (fs gs : List Frame) → AllGood fs → AllGood gs → out_bytes fs ≡ out_bytes gs → fs ≡ gs
