-- What it is that a cache stands for a world.
--
--   b             the body that the origin gives a validator, by resource and language: an origin gives a validator to
--                 one body and to no other
--   setting_of    the setting of the model: of which resources the origin says `vary`, and how many places there are
--   key_language  the language under which what is asked for is stored: 0 where the resource does not vary
--   validator_of  what an exchange holds already, as the model has it
--   life_of       the lifetime that an answer says; 0 with `no-cache`
--   stored_of, slot_of   a stored response, and a slot, of the model
--   Good          of a stored response: it says of `vary` what the origin says, and its body is that of its validator
--   AllGood       each slot that is filled is good
--   Same          an exchange of the cache, with what it asks for and what is held for it, is one of the world
--   Shows         a connection of the cache is one of the world; what the origin said on it the cache can't see
--   Stands        a cache stands for a world
--   Honest        an answer is what the world's origin said to an exchange
--
-- Assumes nothing.
use Rattle.std.specs.Prelude.{◌≡◌, ℕ, Bool, true, false, cond, List, [], ◌∷◌, map, length, Some, None, Option, slice_index_or}
use Rattle.store.specs.Slots.{Response, Slot, Empty, Filled, Key, no_key}
use Rattle.cache.specs.declared.types.Words.{Words}
use Rattle.cache.specs.declared.types.Exchange.{Exchange}
use Rattle.cache.specs.Rules.{State}
use Rattle.cache.specs.Answers.{Reply, Full, NotModified, Done, Other}
use Rattle.model.specs.Exchanges as model
use Rattle.model.specs.World as world
use Rattle.refinement.specs.Numbers.{number_of, text_of, is_even}

abbrev pub setting_of : (ℕ → Bool) → ℕ → world.Setting
setting_of varies places = record { varies = varies; tagged = is_even; places = places }

abbrev pub key_language : world.Setting → Key → ℕ
key_language s k = world.language_of s (number_of k.path) (number_of k.language)

abbrev pub validator_for : (ℕ → ℕ → List ℕ → List ℕ) → ℕ → ℕ → Option (List ℕ) → model.Validator
validator_for b r l None = model.NoValidator
validator_for b r l (Some t) = model.Matching (text_of (Some t) (b r l t))

abbrev pub validator_of : (ℕ → ℕ → List ℕ → List ℕ) → world.Setting → Key → model.Validator
validator_of b s k = validator_for b (number_of k.path) (key_language s k) k.tag

abbrev pub life_of : Words → ℕ
life_of w = cond w.no_cache 0 w.lifetime

abbrev pub language_in : Response → ℕ
language_in r = cond r.row.varies (number_of r.language) 0

abbrev pub stored_of : Response → model.Stored
stored_of r = record { resource = number_of r.path; language = language_in r; text = text_of r.tag r.body; lifetime = cond r.row.no_cache 0 r.row.lifetime; requested_at = r.row.requested_at; exchange = r.row.exchange }

abbrev pub slot_of : Slot → model.Slot
slot_of Empty = model.Empty
slot_of (Filled r) = model.Filled (stored_of r)

pub record Good (b : ℕ → ℕ → List ℕ → List ℕ) (s : world.Setting) (r : Response) : Type 0 where
  pub varies : r.row.varies ≡ s.varies (number_of r.path)
  pub body : (t : List ℕ) → r.tag ≡ Some t → r.body ≡ b (number_of r.path) (language_in r) t

unfoldable pub AllGood : (ℕ → ℕ → List ℕ → List ℕ) → world.Setting → List Slot → Type 0
AllGood b s [] = Unit {0}
AllGood b s (Empty ∷ ks) = AllGood b s ks
AllGood b s (Filled r ∷ ks) = Good b s r × AllGood b s ks

abbrev pub is_write : model.Method → Bool
is_write model.Read = false
is_write (model.Write t) = true

pub record Same (b : ℕ → ℕ → List ℕ → List ℕ) (s : world.Setting) (x : Exchange) (k : Key) (held : List ℕ) (y : model.Exchange) : Type 0 where
  pub number : y.number ≡ x.number
  pub client : y.client ≡ x.client
  pub resource : y.resource ≡ number_of k.path
  pub language : y.language ≡ number_of k.language
  pub requested_at : y.requested_at ≡ x.requested_at
  pub storable : y.storable ≡ x.storable
  pub invalidated : y.invalidated ≡ x.invalidated
  pub write : is_write y.method ≡ x.write
  pub validator : y.validator ≡ validator_of b s k
  pub holds : x.own_tag ≡ false → (t : List ℕ) × (k.tag ≡ Some t) × (held ≡ b (number_of k.path) (key_language s k) t)

abbrev pub Shows : (ℕ → ℕ → List ℕ → List ℕ) → world.Setting → Option Exchange → Key → List ℕ → model.Connection → Type 0
Shows b s None k held c = c ≡ model.Idle
Shows b s (Some x) k held c = (y : model.Exchange) × (c ≡ model.Busy y) × Same b s x k held y

pub record Stands (b : ℕ → ℕ → List ℕ → List ℕ) (s : world.Setting) (st : State) (w : world.World) : Type 0 where
  pub tick : st.tick ≡ w.now
  pub next : st.next ≡ w.next
  pub links : (c : ℕ) → Shows b s (slice_index_or st.links c None) (slice_index_or st.keys c no_key) (slice_index_or st.held c []) (slice_index_or w.connections c model.Idle)
  pub slots : map slot_of st.slots ≡ w.slots
  pub good : AllGood b s st.slots
  pub eight : length st.links ≡ 8
  pub eight_keys : length st.keys ≡ 8
  pub eight_held : length st.held ≡ 8
  pub eight_connections : length w.connections ≡ 8

-- A full answer says of `vary` what the origin always says, and its body is that of its validator.
pub record HonestFull (b : ℕ → ℕ → List ℕ → List ℕ) (s : world.Setting) (y : model.Exchange) (varies : Bool) (tag : Option (List ℕ)) (body : List ℕ) (w : Words) : Type 0 where
  pub answer : y.answer ≡ model.Full (text_of tag body) (life_of w) w.private
  pub varies_alike : varies ≡ s.varies y.resource
  pub one_body : (t : List ℕ) → tag ≡ Some t → body ≡ b y.resource (world.key_of s y) t

abbrev pub Honest : (ℕ → ℕ → List ℕ → List ℕ) → world.Setting → model.Exchange → Reply → Type 0
Honest b s y (Full varies tag body w) = HonestFull b s y varies tag body w
Honest b s y (NotModified w) = y.answer ≡ model.NotModified (life_of w) w.private
Honest b s y (Done body) = y.answer ≡ model.Done (number_of body)
Honest b s y (Other body) = y.answer ≡ model.Other (number_of body)
