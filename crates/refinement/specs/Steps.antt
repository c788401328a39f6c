-- Which events of the world the calls of a cache are, what its clients are given, and that it goes on to stand for the world.
--
--   tick_events, ask_events, answer_events, lose_events   the events of the world that a call is: one, or none where the
--                 cache refuses or nobody waits
--   stores_at, place_at   whether an answer is stored or renews what is stored, and where: the cache's own choice
--   ask_gives, answer_gives, lose_gives   what clients are given, read off what the cache remembers
--   suits         an answer is of a kind that a request can have
--   TickSo, AskSo, AnswerSo, LoseSo, OriginSo   for every world that a cache stands for, it stands for the stepped world
--                 after, and what the world delivers is what the clients are given
--
-- Assumes nothing.
use Rattle.std.specs.Prelude.{◌≡◌, ℕ, Bool, true, false, cond, not, ◌&&◌, List, [], ◌∷◌, ◌++◌, is_some, Some, None, Option, Ok, Err, Result, slice_index_or}
use Rattle.std.specs.Option.{unwrap_or}
use Rattle.std.specs.List.{position}
use Rattle.store.specs.Slots.{Slot, Empty, Key, no_key, is_for, is_asked, holds, tag_of, body_of}
use Rattle.cache.specs.declared.types.Exchange.{Exchange}
use Rattle.cache.specs.declared.types.Looked.{Looked}
use Rattle.cache.specs.declared.types.Looked.TheVariants.{Served, Forwarded}
use Rattle.cache.specs.declared.types.RequestError.{RequestError}
use Rattle.cache.specs.declared.types.Outcome.{Outcome}
use Rattle.cache.specs.declared.types.Outcome.TheVariants.{Nobody, Passed, Held, Fault, Lost}
use Rattle.cache.specs.Rules.{State, Ask, can_tick, ticked, requested}
use Rattle.cache.specs.Answers.{Reply, Full, NotModified, Done, Other, key_at, ended_at, may_store, room_for, agreed, received, lost}
use Rattle.model.specs.Exchanges as model
use Rattle.model.specs.World as world
use Rattle.model.specs.Promise.{On}
use Rattle.refinement.specs.Numbers.{number_of, text_of}
use Rattle.refinement.specs.Stands.{setting_of, validator_of, is_write, Stands, Honest}

abbrev pub tick_events : State → List world.Event
tick_events st = cond (can_tick st) (world.Tick ∷ []) []

abbrev pub method_of : Option (List ℕ) → model.Method
method_of None = model.Read
method_of (Some t) = model.Write (number_of t)

abbrev pub looked_events : (ℕ → ℕ → List ℕ → List ℕ) → world.Setting → Ask → Result Looked RequestError → List Key → List world.Event
looked_events b s a (Ok (Served i)) keys = world.Serve a.client (number_of a.path) (number_of a.language) i ∷ []
looked_events b s a (Ok (Forwarded c)) keys = world.Forward c a.client (number_of a.path) (number_of a.language) (method_of a.write) (validator_of b s (slice_index_or keys c no_key)) a.storable ∷ []
looked_events b s a (Err e) keys = []

-- what a request asks with is in the keys after it
abbrev pub ask_events : (List ℕ → List ℕ → Option (List ℕ) → Bool) → (ℕ → ℕ → List ℕ → List ℕ) → world.Setting → Ask → State → List world.Event
ask_events knows b s a st = looked_events b s a (requested knows a st).gives (requested knows a st).state.keys

abbrev pub looked_gives : Ask → Result Looked RequestError → List Slot → List world.Delivery
looked_gives a (Ok (Served i)) ks = world.served a.client (number_of a.path) (number_of a.language) (text_of (tag_of (slice_index_or ks i Empty)) (body_of (slice_index_or ks i Empty))) ∷ []
looked_gives a (Ok (Forwarded c)) ks = []
looked_gives a (Err e) ks = []

abbrev pub ask_gives : (List ℕ → List ℕ → Option (List ℕ) → Bool) → Ask → State → List world.Delivery
ask_gives knows a st = looked_gives a (requested knows a st).gives st.slots

-- the place of a full answer is chosen in the store as it is then
abbrev pub room_at : ℕ → Bool → State → Option ℕ
room_at c varies st = room_for c (agreed c varies (ended_at c st))

abbrev pub place_for : ℕ → State → Option ℕ
place_for c st = position (holds (is_for (key_at c st).path (key_at c st).language)) st.slots

abbrev pub asks_there : ℕ → State → Option ℕ → Bool
asks_there c st None = false
asks_there c st (Some i) = holds (is_asked (key_at c st)) (slice_index_or st.slots i Empty)

abbrev pub stores_at : (Option (List ℕ) → List ℕ → Bool) → ℕ → Exchange → Reply → State → Bool
stores_at fits c x (Full varies tag body w) st = (may_store x w && fits tag body) && is_some (room_at c varies st)
stores_at fits c x (NotModified w) st = may_store x w && asks_there c st (place_for c st)
stores_at fits c x (Done body) st = false
stores_at fits c x (Other body) st = false

abbrev pub place_at : ℕ → Reply → State → ℕ
place_at c (Full varies tag body w) st = unwrap_or (room_at c varies st) 0
place_at c (NotModified w) st = unwrap_or (place_for c st) 0
place_at c (Done body) st = 0
place_at c (Other body) st = 0

abbrev pub outcome_events : (Option (List ℕ) → List ℕ → Bool) → ℕ → Option Exchange → Reply → Outcome → State → List world.Event
outcome_events fits c None r o st = []
outcome_events fits c (Some x) r Nobody st = []
outcome_events fits c (Some x) r (Passed client) st = world.Receive c (stores_at fits c x r st) (place_at c r st) ∷ []
outcome_events fits c (Some x) r (Held client) st = world.Receive c (stores_at fits c x r st) (place_at c r st) ∷ []
outcome_events fits c (Some x) r (Fault client) st = world.Lose c ∷ []
outcome_events fits c (Some x) r (Lost client) st = world.Lose c ∷ []

abbrev pub answer_events : (Option (List ℕ) → List ℕ → Bool) → ℕ → Reply → State → List world.Event
answer_events fits c r st = outcome_events fits c (slice_index_or st.links c None) r (received fits c r st).gives st

abbrev pub content_of : (ℕ → ℕ → List ℕ → List ℕ) → world.Setting → Key → Reply → world.Content
content_of b s k (Full varies tag body w) = world.Text (text_of tag body)
content_of b s k (NotModified w) = world.Text (world.matched (validator_of b s k))
content_of b s k (Done body) = world.Acknowledged (number_of body)
content_of b s k (Other body) = world.Passed (number_of body)

abbrev pub delivery_of : Exchange → Key → world.Content → world.Delivery
delivery_of x k content = record { client = x.client; exchange = x.number; resource = number_of k.path; language = number_of k.language; content = content }

-- 'not modified' that is passed says: what you hold; what is held is given in full
abbrev pub outcome_gives : (ℕ → ℕ → List ℕ → List ℕ) → world.Setting → ℕ → Option Exchange → Reply → Outcome → State → List world.Delivery
outcome_gives b s c None r o st = []
outcome_gives b s c (Some x) r Nobody st = []
outcome_gives b s c (Some x) r (Passed client) st = delivery_of x (key_at c st) (content_of b s (key_at c st) r) ∷ []
outcome_gives b s c (Some x) r (Held client) st = delivery_of x (key_at c st) (world.Text (text_of (key_at c st).tag (slice_index_or st.held c []))) ∷ []
outcome_gives b s c (Some x) r (Fault client) st = delivery_of x (key_at c st) world.Lost ∷ []
outcome_gives b s c (Some x) r (Lost client) st = delivery_of x (key_at c st) world.Lost ∷ []

abbrev pub answer_gives : (Option (List ℕ) → List ℕ → Bool) → (ℕ → ℕ → List ℕ → List ℕ) → world.Setting → ℕ → Reply → State → List world.Delivery
answer_gives fits b s c r st = outcome_gives b s c (slice_index_or st.links c None) r (received fits c r st).gives st

abbrev pub lost_events : ℕ → Option Exchange → List world.Event
lost_events c None = []
lost_events c (Some x) = world.Lose c ∷ []

abbrev pub lose_events : ℕ → State → List world.Event
lose_events c st = lost_events c (slice_index_or st.links c None)

abbrev pub lost_gives : Option Exchange → Key → List world.Delivery
lost_gives None k = []
lost_gives (Some x) k = delivery_of x k world.Lost ∷ []

abbrev pub lose_gives : ℕ → State → List world.Delivery
lose_gives c st = lost_gives (slice_index_or st.links c None) (key_at c st)

-- it stands for the world after these events, in which these deliveries were added
pub record StepSo (b : ℕ → ℕ → List ℕ → List ℕ) (s : world.Setting) (st : State) (w : world.World) (es : List world.Event) (ds : List world.Delivery) : Type 0 where
  pub stands : Stands b s st (world.played s w es)
  pub delivered : (world.played s w es).delivered ≡ ds ++ w.delivered

abbrev pub TickSo : State → Type 0
TickSo st = (b : ℕ → ℕ → List ℕ → List ℕ) (s : world.Setting) (w : world.World) → Stands b s st w → StepSo b s (ticked st) w (tick_events st) []

abbrev pub AskSo : (List ℕ → List ℕ → Option (List ℕ) → Bool) → Ask → State → Type 0
AskSo knows a st = (b : ℕ → ℕ → List ℕ → List ℕ) (s : world.Setting) (w : world.World) → Stands b s st w → StepSo b s (requested knows a st).state w (ask_events knows b s a st) (ask_gives knows a st)

abbrev pub has_validator : model.Validator → Bool
has_validator model.NoValidator = false
has_validator (model.Matching t) = true

abbrev pub suits : model.Exchange → Reply → Bool
suits y (Full varies tag body w) = not (is_write y.method)
suits y (NotModified w) = not (is_write y.method) && has_validator y.validator
suits y (Done body) = is_write y.method
suits y (Other body) = true

-- The origin is honest on a connection: an answer that suits the exchange there is what it said.
abbrev pub HonestOn : (ℕ → ℕ → List ℕ → List ℕ) → world.Setting → world.World → ℕ → Reply → Type 0
HonestOn b s w c r = (y : model.Exchange) → On w c y → suits y r ≡ true → Honest b s y r

abbrev pub AnswerSo : (Option (List ℕ) → List ℕ → Bool) → ℕ → Reply → State → Type 0
AnswerSo fits c r st = (b : ℕ → ℕ → List ℕ → List ℕ) (varies : ℕ → Bool) (places : ℕ) (w : world.World) → Stands b (setting_of varies places) st w → HonestOn b (setting_of varies places) w c r →
    StepSo b (setting_of varies places) (received fits c r st).state w (answer_events fits c r st) (answer_gives fits b (setting_of varies places) c r st)

abbrev pub LoseSo : ℕ → State → Type 0
LoseSo c st = (b : ℕ → ℕ → List ℕ → List ℕ) (s : world.Setting) (w : world.World) → Stands b s st w → StepSo b s (lost c st).state w (lose_events c st) (lose_gives c st)

-- What the origin does of its own accord, or says, the cache does not see.
pub data OriginEvent : world.Event → Type 0 where
  changes : (r l t : ℕ) → OriginEvent (world.Change r l t)
  acts : (c life : ℕ) (private full : Bool) (reply : ℕ) → OriginEvent (world.Act c life private full reply)
  declines : (c reply : ℕ) → OriginEvent (world.Decline c reply)

abbrev pub OriginSo : State → Type 0
OriginSo st = (b : ℕ → ℕ → List ℕ → List ℕ) (s : world.Setting) (w : world.World) (e : world.Event) → OriginEvent e → Stands b s st w → StepSo b s st w (e ∷ []) []
