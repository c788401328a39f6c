-- What holds of whole runs of the proxy.
--
--   play         — events one after the other
--   sends        — whether an event is a byte or more of this client
--   ends         — whether an event is this client's end
--   sent, ended  — whether some event is
--   spoken       — whether the client has sent a byte since the start, or since its last end
--   about        — those of the frames that are for this client
--   AnsweredOnce — from the start or an end of a client to its next end it is answered once, with 503, and closed,
--                  if it sent a byte; and if it sent none, nothing is written to it
--   Unasked      — nothing is written to a client that sent nothing
--   OnlyClients  — nothing is put on a connection: what goes out are 503 responses to clients, and their closing
--   TakesEvents  — what bytes bring is what the events in them bring, unless the clock is exhausted
--
-- Assumes nothing.
use Rattle.std.specs.Prelude.{◌≡◌, ℕ, ◌<◌, Bool, false, cond, ◌&&◌, ◌||◌, List, [], ◌∷◌, ◌++◌, length, ◌==◌, ◌≢◌, nat_lt}
use Rattle.frames.specs.Events.{Arrival, FromClient, FromOrigin, Broke, Ticked, Gone}
use Rattle.frames.specs.Frames.{Frame, ToClient, ToOrigin, CloseClient, Open, Close, NotTaken}
use Rattle.frames.specs.Streams.{events_of}
use Rattle.proxy.specs.declared.steps.Halt.TheVariants as halt
use Rattle.proxy.specs.Batches.{take_all}
use Rattle.proxy.specs.Responses.{unavailable}
use Rattle.proxy.specs.Steps.{State, Turn, start, still, refusal, does}

abbrev pub before : List Frame → Turn → Turn
before fs t = record { after = t.after; frames = fs ++ t.frames }

abbrev pub play : List Arrival → State → Turn
play [] s = still s
play (e ∷ es) s = before (does e s).frames (play es (does e s).after)

abbrev pub sends : ℕ → Arrival → Bool
sends c (FromClient d bs) = c == d && nat_lt 0 (length bs)
sends c (FromOrigin i bs) = false
sends c (Broke i) = false
sends c Ticked = false
sends c (Gone d) = false

abbrev pub ends : ℕ → Arrival → Bool
ends c (FromClient d bs) = false
ends c (FromOrigin i bs) = false
ends c (Broke i) = false
ends c Ticked = false
ends c (Gone d) = c == d

abbrev pub sent : ℕ → List Arrival → Bool
sent c [] = false
sent c (e ∷ es) = sends c e || sent c es

abbrev pub ended : ℕ → List Arrival → Bool
ended c [] = false
ended c (e ∷ es) = ends c e || ended c es

-- with what held before these events
abbrev pub spoken_on : Bool → ℕ → List Arrival → Bool
spoken_on b c [] = b
spoken_on b c (e ∷ es) = spoken_on (cond (ends c e) false (sends c e || b)) c es

abbrev pub spoken : ℕ → List Arrival → Bool
spoken c es = spoken_on false c es

abbrev pub is_for : ℕ → Frame → Bool
is_for c (ToClient d bs) = c == d
is_for c (ToOrigin i bs) = false
is_for c (CloseClient d) = c == d
is_for c (Open i) = false
is_for c (Close i) = false
is_for c (NotTaken d n) = c == d

abbrev pub about : ℕ → List Frame → List Frame
about c [] = []
about c (f ∷ fs) = cond (is_for c f) (f ∷ about c fs) (about c fs)

abbrev pub AnsweredOnce : Type 0
AnsweredOnce =
    (places c : ℕ) → c < places → (past es : List Arrival) → spoken c past ≡ false → ended c es ≡ false →
    about c (play es (play past (start places)).after).frames ≡ cond (sent c es) (refusal c) []

abbrev pub Unasked : Type 0
Unasked = (places c : ℕ) (es : List Arrival) → sent c es ≡ false → about c (play es (start places)).frames ≡ []

abbrev pub Refusing : Frame → Type 0
Refusing (ToClient c bs) = bs ≡ unavailable
Refusing (ToOrigin i bs) = ⊥
Refusing (CloseClient c) = Unit {0}
Refusing (Open i) = ⊥
Refusing (Close i) = ⊥
Refusing (NotTaken c n) = ⊥

abbrev pub AllRefusing : List Frame → Type 0
AllRefusing [] = Unit {0}
AllRefusing (f ∷ fs) = Refusing f × AllRefusing fs

abbrev pub OnlyClients : Type 0
OnlyClients = (places : ℕ) (es : List Arrival) → AllRefusing (play es (start places)).frames

abbrev pub TakesEvents : List ℕ → State → Type 0
TakesEvents bs s = ((take_all bs s).taken.halt ≢ halt.ClockExhausted) → (take_all bs s).turn ≡ play (events_of bs).events s
