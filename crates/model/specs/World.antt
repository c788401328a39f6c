-- The world: an origin, a cache with eight connections to it and a store, clients, and all that can happen.
--
--   Setting       what stays the same over a run. varies: of which resources the origin says `vary:
--                 accept-language`; tagged: which texts come with a validator; places: how many the store has
--   World         now: the tick; next: the number of the next exchange; has: what the origin has, by resource
--                 and language; acted: the numbers of the exchanges that the origin acted on; connections;
--                 ended: the exchanges whose answer was received or whose connection was lost, as they were
--                 then, the latest first; slots: the store, by place; delivered: all that clients were given,
--                 the latest first
--   Delivery      something given to a client. exchange: the number of the exchange that it answers, 0 if it was
--                 served from the store
--   Content       Text: a representation of what was read; Acknowledged: the write was done, in the origin's
--                 words; Passed: another answer of the origin's, as it came; Lost: there is none, since the
--                 connection was lost
--   Event         what can happen, below; what the cache can't see, the origin's events, stand among the rest
--   step          what one event does; an event that can't happen now does nothing
--   world         the world after a run: a list of events, the latest first
--   played        what events make of a world, in the order in which they happen
--
-- Which answers are stored, where, and what is evicted is left open: the promise holds for every choice.
-- Assumes nothing.
use Rattle.std.specs.Prelude.{Bool, true, false, cond, ◌&&◌, not, List, [], ◌∷◌, map, ℕ, ◌+◌, eqb, ltb, leb, get_or, set, replicate}
use Rattle.model.specs.Exchanges.{Method, Read, Write, Validator, NoValidator, Matching, Answer, Unanswered, Full, NotModified, Done, Other, Exchange, Stored, Connection, Idle, Busy, Slot, Empty, Filled}

pub record Setting : Type 0 where
  pub varies : ℕ → Bool
  pub tagged : ℕ → Bool
  pub places : ℕ

pub data Content : Type 0 where
  Text : (text : ℕ) → Content
  Acknowledged : (reply : ℕ) → Content
  Passed : (reply : ℕ) → Content
  Lost : Content

pub record Delivery : Type 0 where
  pub client : ℕ
  pub exchange : ℕ
  pub resource : ℕ
  pub language : ℕ
  pub content : Content

pub record World : Type 0 where
  pub now : ℕ
  pub next : ℕ
  pub has : ℕ → ℕ → ℕ
  pub acted : List ℕ
  pub connections : List Connection
  pub ended : List Exchange
  pub slots : List Slot
  pub delivered : List Delivery

pub data Event : Type 0 where
  -- a second passes
  Tick : Event
  -- the origin has another text, for reasons of its own
  Change : (resource language text : ℕ) → Event
  -- the cache forwards a client's request on an idle connection
  Forward : (connection client resource language : ℕ) → Method → Validator → (storable : Bool) → Event
  -- the origin acts on the request on a connection: it answers a read by what it has, in full if it likes or if
  -- the validator doesn't match, with its words about storing; it does a write, and says something about it
  Act : (connection lifetime : ℕ) → (private full : Bool) → (reply : ℕ) → Event
  -- the origin gives another answer, and does nothing
  Decline : (connection reply : ℕ) → Event
  -- the cache receives the answer on a connection, and stores it at a place if it wants to and may
  Receive : (connection : ℕ) → (stores : Bool) → (place : ℕ) → Event
  -- a connection is lost, or closed for a fault in its answer
  Lose : (connection : ℕ) → Event
  -- the cache serves a client from a place of the store
  Serve : (client resource language place : ℕ) → Event
  -- the cache evicts what is stored at a place
  Evict : (place : ℕ) → Event

-- The cache has eight connections to the origin.
abbrev pub connection_count : ℕ
connection_count = 8

-- Exchanges are numbered from 1; 0 stands for 'no exchange'.
abbrev pub start : Setting → World
start s = record { now = 0; next = 1; has = λ r l. 0; acted = []; connections = replicate connection_count Idle; ended = []; slots = replicate s.places Empty; delivered = [] }

-- A resource that varies is another one for each language; one that doesn't has one text for all, under 0.
abbrev pub language_of : Setting → ℕ → ℕ → ℕ
language_of s r l = cond (s.varies r) l 0

abbrev pub key_of : Setting → Exchange → ℕ
key_of s x = language_of s x.resource x.language

abbrev pub replaced : ℕ → ℕ → ℕ → (ℕ → ℕ → ℕ) → ℕ → ℕ → ℕ
replaced r l t has p q = cond (eqb p r && eqb q l) t (has p q)

abbrev pub matches : Validator → ℕ → Bool
matches NoValidator t = false
matches (Matching u) t = eqb u t

abbrev pub matched : Validator → ℕ
matched NoValidator = 0
matched (Matching t) = t

-- A read is answered by what the origin has at that moment: 'not modified' only to the validator of just that,
-- and only if the origin does not choose to send it in full.
abbrev pub answer_to : Setting → ℕ → Bool → Bool → ℕ → (ℕ → ℕ → ℕ) → Exchange → Method → Answer
answer_to s life private full reply has x Read =
    cond (not full && matches x.validator (has x.resource (key_of s x))) (NotModified life private) (Full (has x.resource (key_of s x)) life private)
answer_to s life private full reply has x (Write t) = Done reply

-- A write that is acted on puts its text in place of what the origin has; a read changes nothing.
abbrev pub has_after : Setting → Exchange → Method → (ℕ → ℕ → ℕ) → ℕ → ℕ → ℕ
has_after s x Read has = has
has_after s x (Write t) has = replaced x.resource (key_of s x) t has

abbrev pub answered : Answer → Exchange → Exchange
answered r x = record { number = x.number; client = x.client; resource = x.resource; language = x.language; method = x.method; validator = x.validator; requested_at = x.requested_at; answer = r; invalidated = x.invalidated; storable = x.storable }

abbrev pub outdated : Exchange → Exchange
outdated x = record { number = x.number; client = x.client; resource = x.resource; language = x.language; method = x.method; validator = x.validator; requested_at = x.requested_at; answer = x.answer; invalidated = true; storable = x.storable }

-- A settled write invalidates each exchange with its resource that is under way, in any language: its answer may
-- be of a state from before the write, so it will not be stored.
abbrev pub invalidate : ℕ → Connection → Connection
invalidate r Idle = Idle
invalidate r (Busy x) = cond (eqb x.resource r) (Busy (outdated x)) (Busy x)

-- What is stored of a resource; of a resource in a language; just this text of them.
abbrev pub of_resource : ℕ → Stored → Bool
of_resource r k = eqb k.resource r

abbrev pub of_language : ℕ → ℕ → Stored → Bool
of_language r l k = eqb k.resource r && eqb k.language l

abbrev pub of_text : ℕ → ℕ → ℕ → Stored → Bool
of_text r l t k = eqb k.resource r && (eqb k.language l && eqb k.text t)

abbrev pub without : (Stored → Bool) → Slot → Slot
without test Empty = Empty
without test (Filled k) = cond (test k) Empty (Filled k)

abbrev pub holds : (Stored → Bool) → Slot → Bool
holds test Empty = false
holds test (Filled k) = test k

abbrev pub is_unanswered : Answer → Bool
is_unanswered Unanswered = true
is_unanswered (Full t life private) = false
is_unanswered (NotModified life private) = false
is_unanswered (Done reply) = false
is_unanswered (Other reply) = false

-- A response is stored with the lifetime that the origin said, counted from the tick of the forwarding.
abbrev pub stored_of : Setting → Exchange → ℕ → ℕ → Stored
stored_of s x t life = record { resource = x.resource; language = key_of s x; text = t; lifetime = life; requested_at = x.requested_at; exchange = x.number }

-- It is stored if the cache wants to, the request allows it, and no write was settled meanwhile.
abbrev pub store_if : Bool → ℕ → Setting → Exchange → ℕ → ℕ → List Slot → List Slot
store_if b i s x t life ks = cond (b && (x.storable && not x.invalidated)) (set ks i (Filled (stored_of s x t life))) ks

-- A full answer that is private is not stored; if it has a validator, what is stored under that goes.
abbrev pub after_full : Bool → ℕ → Setting → Exchange → ℕ → ℕ → Bool → List Slot → List Slot
after_full b i s x t life true ks = cond (s.tagged t) (map (without (of_text x.resource (key_of s x) t)) ks) ks
after_full b i s x t life false ks = store_if b i s x t life ks

-- 'Not modified' renews a place that has just the text which the request's validator stands for, and brings nothing
-- that the store never had in full; if it is private, what is stored of this resource and language goes.
abbrev pub after_not_modified : Bool → ℕ → Setting → Exchange → ℕ → Bool → List Slot → List Slot
after_not_modified b i s x life true ks = map (without (of_language x.resource (key_of s x))) ks
after_not_modified b i s x life false ks = store_if (b && holds (of_text x.resource (key_of s x) (matched x.validator)) (get_or ks i Empty)) i s x (matched x.validator) life ks

abbrev pub deliver : Exchange → Content → List Delivery → List Delivery
deliver x content ds = record { client = x.client; exchange = x.number; resource = x.resource; language = x.language; content = content } ∷ ds

-- An exchange ends: it leaves its connection, and its client is given something.
abbrev pub finish : Exchange → List Connection → List Slot → Content → World → World
finish x cs ks content w = record { now = w.now; next = w.next; has = w.has; acted = w.acted; connections = cs; ended = x ∷ w.ended; slots = ks; delivered = deliver x content w.delivered }

-- What is received is delivered to the client that asked. A write that was done takes all that is stored of its
-- resource, and invalidates what is under way; another answer changes nothing.
abbrev pub receive : Bool → ℕ → Setting → ℕ → Exchange → Answer → World → World
receive b i s c x Unanswered w = w
receive b i s c x (Full t life private) w = finish x (set w.connections c Idle) (after_full b i s x t life private w.slots) (Text t) w
receive b i s c x (NotModified life private) w = finish x (set w.connections c Idle) (after_not_modified b i s x life private w.slots) (Text (matched x.validator)) w
receive b i s c x (Done reply) w = finish x (map (invalidate x.resource) (set w.connections c Idle)) (map (without (of_resource x.resource)) w.slots) (Acknowledged reply) w
receive b i s c x (Other reply) w = finish x (set w.connections c Idle) w.slots (Passed reply) w

-- A write whose connection is lost may have been done: it invalidates as if it had been.
abbrev pub lose : ℕ → Exchange → Method → World → World
lose c x Read w = finish x (set w.connections c Idle) w.slots Lost w
lose c x (Write t) w = finish x (map (invalidate x.resource) (set w.connections c Idle)) (map (without (of_resource x.resource)) w.slots) Lost w

-- A stored response may serve a request for its resource and language up to and including the last tick of its
-- lifetime, counted from the forwarding; with lifetime 0 never.
abbrev pub may_serve : Setting → ℕ → ℕ → ℕ → Stored → Bool
may_serve s now r l k = eqb k.resource r && (eqb k.language (language_of s r l) && (ltb 0 k.lifetime && leb now (k.requested_at + k.lifetime)))

abbrev pub served : ℕ → ℕ → ℕ → ℕ → Delivery
served c r l t = record { client = c; exchange = 0; resource = r; language = l; content = Text t }

abbrev pub serves : ℕ → ℕ → ℕ → Stored → World → World
serves c r l k w = record { now = w.now; next = w.next; has = w.has; acted = w.acted; connections = w.connections; ended = w.ended; slots = w.slots; delivered = served c r l k.text ∷ w.delivered }

abbrev pub serve : Setting → ℕ → ℕ → ℕ → Slot → World → World
serve s c r l Empty w = w
serve s c r l (Filled k) w = cond (may_serve s w.now r l k) (serves c r l k w) w

-- What is forwarded has the next number, and notes the tick.
abbrev pub request : ℕ → ℕ → ℕ → ℕ → ℕ → Method → Validator → Bool → Exchange
request n now cl r l m v storable = record { number = n; client = cl; resource = r; language = l; method = m; validator = v; requested_at = now; answer = Unanswered; invalidated = false; storable = storable }

abbrev pub forwards : ℕ → Exchange → World → World
forwards c x w = record { now = w.now; next = w.next + 1; has = w.has; acted = w.acted; connections = set w.connections c (Busy x); ended = w.ended; slots = w.slots; delivered = w.delivered }

-- One exchange at most is under way on a connection.
abbrev pub forward : ℕ → ℕ → ℕ → ℕ → Method → Validator → Bool → Connection → World → World
forward c cl r l m v storable (Busy x) w = w
forward c cl r l m v storable Idle w = cond (ltb c connection_count) (forwards c (request w.next w.now cl r l m v storable) w) w

abbrev pub acts : Setting → ℕ → Exchange → Answer → World → World
acts s c x r w = record { now = w.now; next = w.next; has = has_after s x x.method w.has; acted = x.number ∷ w.acted; connections = set w.connections c (Busy (answered r x)); ended = w.ended; slots = w.slots; delivered = w.delivered }

-- An origin answers each request once.
abbrev pub act : Setting → ℕ → ℕ → Bool → Bool → ℕ → Connection → World → World
act s c life private full reply Idle w = w
act s c life private full reply (Busy x) w = cond (is_unanswered x.answer) (acts s c x (answer_to s life private full reply w.has x x.method) w) w

abbrev pub declines : ℕ → Exchange → ℕ → World → World
declines c x reply w = record { now = w.now; next = w.next; has = w.has; acted = w.acted; connections = set w.connections c (Busy (answered (Other reply) x)); ended = w.ended; slots = w.slots; delivered = w.delivered }

abbrev pub decline : ℕ → ℕ → Connection → World → World
decline c reply Idle w = w
decline c reply (Busy x) w = cond (is_unanswered x.answer) (declines c x reply w) w

abbrev pub receive_on : Bool → ℕ → Setting → ℕ → Connection → World → World
receive_on b i s c Idle w = w
receive_on b i s c (Busy x) w = receive b i s c x x.answer w

abbrev pub lose_on : ℕ → Connection → World → World
lose_on c Idle w = w
lose_on c (Busy x) w = lose c x x.method w

abbrev pub step : Setting → Event → World → World
step s Tick w = record { now = w.now + 1; next = w.next; has = w.has; acted = w.acted; connections = w.connections; ended = w.ended; slots = w.slots; delivered = w.delivered }
step s (Change r l t) w = record { now = w.now; next = w.next; has = replaced r (language_of s r l) t w.has; acted = w.acted; connections = w.connections; ended = w.ended; slots = w.slots; delivered = w.delivered }
step s (Forward c cl r l m v storable) w = forward c cl r l m v storable (get_or w.connections c Idle) w
step s (Act c life private full reply) w = act s c life private full reply (get_or w.connections c Idle) w
step s (Decline c reply) w = decline c reply (get_or w.connections c Idle) w
step s (Receive c b i) w = receive_on b i s c (get_or w.connections c Idle) w
step s (Lose c) w = lose_on c (get_or w.connections c Idle) w
step s (Serve c r l i) w = serve s c r l (get_or w.slots i Empty) w
step s (Evict i) w = record { now = w.now; next = w.next; has = w.has; acted = w.acted; connections = w.connections; ended = w.ended; slots = set w.slots i Empty; delivered = w.delivered }

unfoldable pub world : Setting → List Event → World
world s [] = start s
world s (e ∷ es) = step s e (world s es)

-- events in the order in which they happen
abbrev pub played : Setting → World → List Event → World
played s w [] = w
played s w (e ∷ es) = played s (step s e w) es
