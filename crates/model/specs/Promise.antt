-- What is promised of every run: of each answer, at the event that delivered it.
--
--   is_in, numbers, apart   is a number in a list; the numbers of exchanges; no number stands there twice
--   On            this exchange is on this connection
--   Ends          the event ends what is on this connection: it is received, or lost
--   Settled       a write that the origin did, and that then was received as done, or lost
--   Claims        the origin answered this exchange with this text
--   Withdraws     a private answer about this text: in full and with its validator, or 'not modified'
--   Unwithdrawn   no private word about this text was received after this exchange ended
--   Moment        a moment of the run at which the origin had this text: after the exchange was forwarded, and
--                 before the origin acted on it
--   FromOrigin    what a delivery from the origin is promised to be
--   FromStore     what a delivery from the store is promised to be
--   Shown         the event at which a text was delivered, with its promise at that event
--   Did, Told     the moment at which the origin did a write; what is promised of an acknowledgement
--   Answers       the exchange that a delivery answers
--   Promise       all of it, of one run; Promised: of every run, in every setting
--
-- A list of events has the latest first, so `es ≡ later ++ before` cuts a run at a moment: `before` is all that had
-- happened by then. Assumes nothing.
use Rattle.std.specs.Prelude.{◌≡◌, Bool, true, false, cond, ◌&&◌, ◌||◌, not, ◌⊎◌, ℕ, ◌+◌, ◌<◌, ◌≤◌, eqb, T, get_or}
use mathlib.Core.List.{List, [], ◌∷◌, ◌++◌, Memᴰ}
use Rattle.model.specs.Exchanges.{Write, Matching, Full, NotModified, Done, Other, Exchange, Idle, Busy}
use Rattle.model.specs.World.{Setting, Text, Acknowledged, Passed, Delivery, World, Event, Act, Receive, Lose, Serve, language_of, key_of, step, world}

unfoldable pub is_in : ℕ → List ℕ → Bool
is_in n [] = false
is_in n (x ∷ xs) = eqb x n || is_in n xs

unfoldable pub numbers : List Exchange → List ℕ
numbers [] = []
numbers (x ∷ xs) = x.number ∷ numbers xs

unfoldable pub apart : List ℕ → Bool
apart [] = true
apart (x ∷ xs) = not (is_in x xs) && apart xs

-- which exchange, and whose
pub record Receipt : Type 0 where
  pub exchange : ℕ
  pub client : ℕ

-- of the exchanges that were answered, the latest first; what was served from the store answers none
unfoldable pub receipts : List Delivery → List Receipt
receipts [] = []
receipts (d ∷ ds) = cond (eqb d.exchange 0) (receipts ds) (record { exchange = d.exchange; client = d.client } ∷ receipts ds)

-- of the exchanges that ended, the latest first
unfoldable pub endings : List Exchange → List Receipt
endings [] = []
endings (x ∷ xs) = record { exchange = x.number; client = x.client } ∷ endings xs

abbrev pub On : World → ℕ → Exchange → Type 0
On w c x = get_or w.connections c Idle ≡ Busy x

pub data Ends (c : ℕ) (e : Event) : Type 0 where
  received : (b : Bool) (i : ℕ) → e ≡ Receive c b i → Ends c e
  lost : e ≡ Lose c → Ends c e

pub record Settled (s : Setting) (es : List Event) (p : Exchange) : Type 0 where
  pub later : List Event
  pub event : Event
  pub before : List Event
  pub cut : es ≡ later ++ (event ∷ before)
  pub connection : ℕ
  pub on : On (world s before) connection p
  pub reply : ℕ
  pub done : p.answer ≡ Done reply
  pub ends : Ends connection event

pub data Claims (x : Exchange) (text : ℕ) : Type 0 where
  full : (life : ℕ) (private : Bool) → x.answer ≡ Full text life private → Claims x text
  not_modified : (life : ℕ) (private : Bool) → x.answer ≡ NotModified life private → x.validator ≡ Matching text → Claims x text

pub data Withdraws (s : Setting) (x : Exchange) (text : ℕ) : Type 0 where
  full : (life : ℕ) → x.answer ≡ Full text life true → s.tagged text ≡ true → Withdraws s x text
  not_modified : (life : ℕ) → x.answer ≡ NotModified life true → Withdraws s x text

pub record Moment (s : Setting) (es : List Event) (x : Exchange) (text : ℕ) : Type 0 where
  pub later : List Event
  pub before : List Event
  pub cut : es ≡ later ++ before
  pub forwarded : x.number < (world s before).next
  pub not_yet : is_in x.number (world s before).acted ≡ false
  pub had : (world s before).has x.resource (key_of s x) ≡ text

-- no private word about this text of a resource and language was received after this exchange ended
abbrev pub Unwithdrawn : Setting → List Event → Exchange → ℕ → ℕ → ℕ → Type 0
Unwithdrawn s es x r l text =
    (later before : List Event) (c i : ℕ) (b : Bool) (q : Exchange) → es ≡ later ++ (Receive c b i ∷ before) → On (world s before) c q → q.resource ≡ r → key_of s q ≡ l → Withdraws s q text →
    is_in x.number (numbers (world s before).ended) ≡ false

-- From the origin: at the event that receives it, to the client that asked; the origin had it between the forwarding
-- and the receiving, and after every write that was settled before the forwarding.
pub record FromOrigin (s : Setting) (es : List Event) (event : Event) (d : Delivery) (text : ℕ) : Type 0 where
  pub connection : ℕ
  pub stores : Bool
  pub place : ℕ
  pub receives : event ≡ Receive connection stores place
  pub exchange : Exchange
  pub on : On (world s es) connection exchange
  pub number : exchange.number ≡ d.exchange
  pub client : exchange.client ≡ d.client
  pub resource : exchange.resource ≡ d.resource
  pub language : exchange.language ≡ d.language
  pub claims : Claims exchange text
  pub moment : Moment s es exchange text
  pub writes : (later before : List Event) → es ≡ later ++ before → (world s before).next ≤ exchange.number → (p : Exchange) → Settled s before p → is_in p.number (world s moment.before).acted ≡ true

-- From the store: at the event that serves it, to the client that asked. The newest word about it is an answer to an
-- earlier exchange, for the same resource and language, whose request allowed storing. The origin had the text at a
-- moment of that exchange, no longer ago than the lifetime that the origin said in it, and after every write to the
-- resource that is settled. A full answer that was not private, to a request that allowed storing, brought it once,
-- and no private word about it was received since.
pub record FromStore (s : Setting) (es : List Event) (event : Event) (d : Delivery) (text : ℕ) : Type 0 where
  pub place : ℕ
  pub serves : event ≡ Serve d.client d.resource d.language place
  pub exchange : Exchange
  pub ended : Memᴰ exchange (world s es).ended
  pub resource : exchange.resource ≡ d.resource
  pub language : key_of s exchange ≡ language_of s d.resource d.language
  pub storable : exchange.storable ≡ true
  pub lifetime : ℕ
  pub said : (exchange.answer ≡ Full text lifetime false) ⊎ ((exchange.answer ≡ NotModified lifetime false) × (exchange.validator ≡ Matching text))
  pub moment : Moment s es exchange text
  pub fresh : (world s es).now ≤ (world s moment.before).now + lifetime
  pub writes : (p : Exchange) → Settled s es p → p.resource ≡ d.resource → is_in p.number (world s moment.before).acted ≡ true
  pub first : Exchange
  pub first_ended : Memᴰ first (world s es).ended
  pub first_resource : first.resource ≡ d.resource
  pub first_language : key_of s first ≡ language_of s d.resource d.language
  pub first_storable : first.storable ≡ true
  pub first_said : (life : ℕ) × (first.answer ≡ Full text life false)
  pub unwithdrawn : Unwithdrawn s es first d.resource (language_of s d.resource d.language) text

pub record Shown (s : Setting) (es : List Event) (d : Delivery) (text : ℕ) : Type 0 where
  pub later : List Event
  pub event : Event
  pub before : List Event
  pub cut : es ≡ later ++ (event ∷ before)
  pub delivers : (world s (event ∷ before)).delivered ≡ d ∷ (world s before).delivered
  pub from : FromOrigin s before event d text ⊎ FromStore s before event d text

-- a delivery answers this exchange, which ended
pub record Answers (s : Setting) (es : List Event) (d : Delivery) (x : Exchange) : Type 0 where
  pub ended : Memᴰ x (world s es).ended
  pub number : x.number ≡ d.exchange
  pub client : x.client ≡ d.client
  pub resource : x.resource ≡ d.resource
  pub language : x.language ≡ d.language

-- the event at which the origin did a write: it was forwarded by then and not acted on; after it the origin has the text
pub record Did (s : Setting) (es : List Event) (p : Exchange) (text : ℕ) : Type 0 where
  pub later : List Event
  pub event : Event
  pub before : List Event
  pub cut : es ≡ later ++ (event ∷ before)
  pub forwarded : p.number < (world s before).next
  pub not_yet : is_in p.number (world s before).acted ≡ false
  pub acted : is_in p.number (step s event (world s before)).acted ≡ true
  pub has : (step s event (world s before)).has p.resource (key_of s p) ≡ text

pub record Told (s : Setting) (es : List Event) (d : Delivery) (reply : ℕ) : Type 0 where
  pub write : Exchange
  pub answers : Answers s es d write
  pub said : write.answer ≡ Done reply
  pub text : ℕ
  pub method : write.method ≡ Write text
  pub did : Did s es write text

abbrev pub IsDelivered : Exchange → World → Type 0
IsDelivered x w = (d : Delivery) × Memᴰ d w.delivered × (d.client ≡ x.client) × (d.exchange ≡ x.number)

pub record Promise (s : Setting) (es : List Event) : Type 0 where
  -- each text that was delivered was so, as said above
  pub shown : (d : Delivery) (text : ℕ) → Memᴰ d (world s es).delivered → d.content ≡ Text text → Shown s es d text
  -- who is told 'done' had it done
  pub told : (d : Delivery) (reply : ℕ) → Memᴰ d (world s es).delivered → d.content ≡ Acknowledged reply → Told s es d reply
  -- any other answer is what the origin said to this request
  pub passed : (d : Delivery) (reply : ℕ) → Memᴰ d (world s es).delivered → d.content ≡ Passed reply → (x : Exchange) × Answers s es d x × (x.answer ≡ Other reply)
  -- each exchange that ended was answered exactly once, to its client, and nothing else was
  pub once : receipts (world s es).delivered ≡ endings (world s es).ended
  -- no number twice: not among those that ended, not among those under way, not in both
  pub named : T (apart (numbers (world s es).ended))
  pub distinct : (c d : ℕ) (x y : Exchange) → On (world s es) c x → On (world s es) d y → x.number ≡ y.number → c ≡ d
  pub unended : (c : ℕ) (x : Exchange) → On (world s es) c x → is_in x.number (numbers (world s es).ended) ≡ false
  -- nobody waits for ever: two events (the origin acts, and it is received) or one (the connection is lost) answer
  -- each exchange that is under way
  pub waits : (c : ℕ) (x : Exchange) → On (world s es) c x → IsDelivered x (world s (Receive c false 0 ∷ (Act c 0 false false 0 ∷ es))) × IsDelivered x (world s (Lose c ∷ es))

abbrev pub Promised : Type 0
Promised = (s : Setting) (es : List Event) → Promise s es
