-- Worked cases: short runs with what must be so after them, as one table; and a run that shows a limit of the promise.
--
--   freshness_lifetime   for how long an answer with this `max-age` and `age` may be shown, from the forwarding
--   after         the world after events in the order in which they happen
--   Row           a run and what is expected after it
--   Expect        FreshUntil: what is stored at the place may serve up to and including this tick. Absent: nothing is
--                 stored there. Serves: a client's request for a resource and language, served from the place, is given
--                 this text. NotServed: it is given nothing. Given: the latest delivery is this content, to this client
--                 and exchange. Asks: the exchange on the connection asks with the validator of this text
--   failures      the numbers of the rows that do not hold, from 0
--
-- Resource 1 does not vary; resource 2 does. Languages 1 and 2 stand for `sv` and `fi`. Text 9 has no validator.
-- Assumes nothing.
use Rattle.std.specs.Prelude.{◌≡◌, Bool, true, false, cond, ◌&&◌, not, List, [], ◌∷◌, ◌++◌, reverse, ℕ, suc, ◌+◌, ◌-◌, min, eqb, length, get_or, replicate}
use Rattle.model.specs.Exchanges.{Read, Write, NoValidator, Matching, Connection, Idle, Busy, Slot, Empty, Filled}
use Rattle.model.specs.World.{Setting, Content, Text, Acknowledged, Passed, Lost, Delivery, World, Event, Tick, Change, Forward, Act, Decline, Receive, Lose, Serve, Evict, start, step, world, played}

-- `max-age`, but at most a day, less the age that the answer came with
abbrev pub freshness_lifetime : (max_age age : ℕ) → ℕ
freshness_lifetime max_age age = min max_age 86400 - age

abbrev pub setting : Setting
setting = record { varies = λ r. eqb r 2; tagged = λ t. not (eqb t 9); places = 4 }

abbrev pub after : List Event → World
after es = played setting (start setting) es

abbrev pub ticks : ℕ → List Event
ticks n = replicate n Tick

pub data Expect : Type 0 where
  FreshUntil : (place tick : ℕ) → Expect
  Absent : (place : ℕ) → Expect
  Serves : (client resource language place text : ℕ) → Expect
  NotServed : (client resource language place : ℕ) → Expect
  Given : (client exchange : ℕ) → Content → Expect
  Asks : (connection text : ℕ) → Expect

pub record Row : Type 0 where
  pub run : List Event
  pub expect : Expect

abbrev pub is_fresh_until : ℕ → Slot → Bool
is_fresh_until n Empty = false
is_fresh_until n (Filled k) = eqb (k.requested_at + k.lifetime) n

abbrev pub is_empty : Slot → Bool
is_empty Empty = true
is_empty (Filled k) = false

abbrev pub same_content : Content → Content → Bool
same_content (Text t) (Text u) = eqb t u
same_content (Text t) (Acknowledged u) = false
same_content (Text t) (Passed u) = false
same_content (Text t) Lost = false
same_content (Acknowledged t) (Text u) = false
same_content (Acknowledged t) (Acknowledged u) = eqb t u
same_content (Acknowledged t) (Passed u) = false
same_content (Acknowledged t) Lost = false
same_content (Passed t) (Text u) = false
same_content (Passed t) (Acknowledged u) = false
same_content (Passed t) (Passed u) = eqb t u
same_content (Passed t) Lost = false
same_content Lost (Text u) = false
same_content Lost (Acknowledged u) = false
same_content Lost (Passed u) = false
same_content Lost Lost = true

abbrev pub is_given : ℕ → ℕ → Content → List Delivery → Bool
is_given client exchange content [] = false
is_given client exchange content (d ∷ ds) = eqb d.client client && (eqb d.exchange exchange && same_content d.content content)

abbrev pub asks_with : ℕ → Connection → Bool
asks_with t Idle = false
asks_with t (Busy x) = elim x.validator [ NoValidator ↦ false | Matching u ↦ eqb t u ]

abbrev pub expected : Expect → World → Bool
expected (FreshUntil place tick) w = is_fresh_until tick (get_or w.slots place Empty)
expected (Absent place) w = is_empty (get_or w.slots place Empty)
expected (Serves client r l place text) w = is_given client 0 (Text text) (step setting (Serve client r l place) w).delivered && eqb (length (step setting (Serve client r l place) w).delivered) (suc (length w.delivered))
expected (NotServed client r l place) w = eqb (length (step setting (Serve client r l place) w).delivered) (length w.delivered)
expected (Given client exchange content) w = is_given client exchange content w.delivered
expected (Asks c text) w = asks_with text (get_or w.connections c Idle)

abbrev pub row_holds : Row → Bool
row_holds row = expected row.expect (after row.run)

abbrev pub failures : ℕ → List Row → List ℕ
failures n [] = []
failures n (row ∷ rows) = cond (row_holds row) (failures (suc n) rows) (n ∷ failures (suc n) rows)

-- A client reads on connection 0, and the origin, which has text 7, answers in full.
abbrev pub reads : (r l : ℕ) → (storable : Bool) → (life : ℕ) → (private : Bool) → List Event
reads r l storable life private = Change r l 7 ∷ (Forward 0 5 r l Read NoValidator storable ∷ (Act 0 life private true 0 ∷ []))

-- A client writes text 8 on connection 1; the origin does it.
abbrev pub writes : (r l : ℕ) → List Event
writes r l = Forward 1 6 r l (Write 8) NoValidator true ∷ (Act 1 0 false false 200 ∷ [])

-- .. and what connection 0 or 1 brought is received, and stored at place 0 if it may be.
abbrev pub receive_read : List Event
receive_read = Receive 0 true 0 ∷ []

abbrev pub receive_write : List Event
receive_write = Receive 1 true 1 ∷ []

-- Forwarded at 100, received at 103, with `max-age=60` and `age: 5`.
abbrev pub stored_at103 : List Event
stored_at103 = ticks 100 ++ (reads 1 0 true (freshness_lifetime 60 5) false ++ (ticks 3 ++ receive_read))

-- A read that asks with the validator of text 7, as the cache does for what it stores and may not serve.
abbrev pub revalidates : (life : ℕ) → (private full : Bool) → List Event
revalidates life private full = Forward 0 5 1 0 Read (Matching 7) true ∷ (Act 0 life private full 0 ∷ receive_read)

abbrev pub row : List Event → Expect → Row
row run expect = record { run = run; expect = expect }

abbrev pub rows : List Row
rows =
    -- 0 to 3: it is fresh until 155: served at 155, not at 156; and was given to the client that asked
    row stored_at103 (FreshUntil 0 155) ∷ (
    row (stored_at103 ++ ticks 52) (Serves 4 1 0 0 7) ∷ (
    row (stored_at103 ++ ticks 53) (NotServed 4 1 0 0) ∷ (
    row stored_at103 (Given 5 1 (Text 7)) ∷ (
    -- 4, 5: with a write received at 102 it is not stored, and still given
    row (ticks 100 ++ (reads 1 0 true 55 false ++ (ticks 1 ++ (writes 1 0 ++ (ticks 1 ++ (receive_write ++ (ticks 1 ++ receive_read))))))) (Absent 0) ∷ (
    row (ticks 100 ++ (reads 1 0 true 55 false ++ (ticks 1 ++ (writes 1 0 ++ (ticks 1 ++ (receive_write ++ (ticks 1 ++ receive_read))))))) (Given 5 1 (Text 7)) ∷ (
    -- 6, 7: with a write received at 104 what was stored goes, and the writer is told
    row (stored_at103 ++ (writes 1 0 ++ (ticks 1 ++ receive_write))) (Absent 0) ∷ (
    row (stored_at103 ++ (writes 1 0 ++ (ticks 1 ++ receive_write))) (Given 6 2 (Acknowledged 200)) ∷ (
    -- 8 to 12: stale at 200, it is asked for with its validator; 'not modified' with lifetime 30: fresh until 230, served with its text
    row (stored_at103 ++ (ticks 97 ++ (Forward 0 5 1 0 Read (Matching 7) true ∷ []))) (Asks 0 7) ∷ (
    row (stored_at103 ++ (ticks 97 ++ revalidates 30 false false)) (FreshUntil 0 230) ∷ (
    row (stored_at103 ++ (ticks 97 ++ revalidates 30 false false)) (Given 5 2 (Text 7)) ∷ (
    row (stored_at103 ++ (ticks 97 ++ (revalidates 30 false false ++ ticks 30))) (Serves 4 1 0 0 7) ∷ (
    row (stored_at103 ++ (ticks 97 ++ (revalidates 30 false false ++ ticks 31))) (NotServed 4 1 0 0) ∷ (
    -- 13 to 15: stored for `sv` under `vary`, it serves `sv` and not `fi`; what does not vary serves any language
    row (reads 2 1 true 60 false ++ receive_read) (Serves 4 2 1 0 7) ∷ (
    row (reads 2 1 true 60 false ++ receive_read) (NotServed 4 2 2 0) ∷ (
    row (reads 1 1 true 60 false ++ receive_read) (Serves 4 1 2 0 7) ∷ (
    -- 16, 17: a request with authorization is never stored; it is given what it asked for
    row (reads 1 0 false 60 false ++ receive_read) (Absent 0) ∷ (
    row (reads 1 0 false 60 false ++ receive_read) (Given 5 1 (Text 7)) ∷ (
    -- 18, 19: a write answered 403 invalidates nothing, and its client is told so
    row (stored_at103 ++ (Forward 1 6 1 0 (Write 8) NoValidator true ∷ (Decline 1 403 ∷ receive_write))) (FreshUntil 0 155) ∷ (
    row (stored_at103 ++ (Forward 1 6 1 0 (Write 8) NoValidator true ∷ (Decline 1 403 ∷ receive_write))) (Given 6 2 (Passed 403)) ∷ (
    -- 20, 21: a write whose connection is lost takes what is stored, and what is under way is not stored
    row (stored_at103 ++ (writes 1 0 ++ (Lose 1 ∷ []))) (Absent 0) ∷ (
    row (reads 1 0 true 60 false ++ (writes 1 0 ++ (Lose 1 ∷ receive_read))) (Absent 0) ∷ (
    -- 22: a write takes what is stored in every language
    row (reads 2 1 true 60 false ++ (receive_read ++ (writes 2 2 ++ receive_write))) (Absent 0) ∷ (
    -- 23 to 26: a private answer is not stored; a private 'not modified' takes the place, and so does a private full
    -- answer with the same validator; one without a validator leaves it
    row (reads 1 0 true 60 true ++ receive_read) (Absent 0) ∷ (
    row (stored_at103 ++ revalidates 30 true false) (Absent 0) ∷ (
    row (stored_at103 ++ revalidates 30 true true) (Absent 0) ∷ (
    row (Change 1 0 9 ∷ (Forward 0 5 1 0 Read NoValidator true ∷ (Act 0 60 false true 0 ∷ (receive_read ++ (Forward 0 5 1 0 Read NoValidator true ∷ (Act 0 30 true true 0 ∷ receive_read)))))) (FreshUntil 0 60) ∷ (
    -- 27, 28: 'not modified' to a client's own validator stores nothing that the cache never had, and renews no other text
    row (Change 1 0 7 ∷ revalidates 30 false false) (Absent 0) ∷ (
    row (stored_at103 ++ (Change 1 0 8 ∷ (Forward 0 5 1 0 Read (Matching 8) true ∷ (Act 0 300 false false 0 ∷ receive_read)))) (FreshUntil 0 155) ∷ (
    -- 29: lifetime 0 is stored to be renewed, and never served
    row (reads 1 0 true 0 false ++ receive_read) (NotServed 4 1 0 0) ∷ (
    -- 30: a day at most
    row (reads 1 0 true (freshness_lifetime 90000 0) false ++ receive_read) (FreshUntil 0 86400) ∷ (
    -- 31: what is evicted is gone
    row (stored_at103 ++ (Evict 0 ∷ [])) (Absent 0) ∷ []
    )))))))))))))))))))))))))))))))

abbrev pub WorkedCases : Type 0
WorkedCases = failures 0 rows ≡ []

-- The cases are of the worlds that the promise speaks of.
abbrev pub PlayedIsWorld : Type 0
PlayedIsWorld = (s : Setting) (es : List Event) → played s (start s) es ≡ world s (reverse es)

-- A read is forwarded, and the origin, which has text 42, acts on it. Then a write is forwarded, done, received, and its
-- client is told so. Then the read's answer is received: its client is shown 42, after the write was acknowledged.
abbrev pub overtaken : List Event
overtaken = Change 7 0 42 ∷ (Forward 0 5 7 0 Read NoValidator true ∷ (Act 0 60 false true 0 ∷ (Forward 1 6 7 0 (Write 43) NoValidator true ∷ (Act 1 0 false false 200 ∷ (Receive 1 true 1 ∷ (Receive 0 true 0 ∷ []))))))

pub record Overtaken : Type 0 where
  pub shows : (after overtaken).delivered ≡ record { client = 5; exchange = 1; resource = 7; language = 0; content = Text 42 } ∷ (record { client = 6; exchange = 2; resource = 7; language = 0; content = Acknowledged 200 } ∷ [])
  pub has : (after overtaken).has 7 0 ≡ 43
  -- and nothing of it is stored
  pub stores : get_or (after overtaken).slots 0 Empty ≡ Empty
