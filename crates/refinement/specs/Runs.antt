-- Whole runs: any calls of a cache, with an origin that does what it likes, in any order; and what is promised of them.
--
--   Happening     a call of the cache: a tick passes, a client asks, an answer comes on a connection, a connection is lost,
--                 nothing is held for a connection any more; or what the origin does of its own accord: it changes
--                 something, it acts on the request on a connection, it declines it
--   Run           what a run came to. state: what the cache remembers; events: what happened in the world; given: what
--                 clients were given by the cache. The latest first
--   run           the run of a list of happenings, the latest first. Where answers are stored and what is evicted is the
--                 cache's own choice, by its rules
--   Honest        an answer that comes on a connection and suits the request there is what the origin said to it
--   CacheKeeps    every honest run is kept; CacheHasOnePlace: of every run
--   Kept          the promise of the model, of all that the cache gave in this run
--
-- Assumes nothing.
use Rattle.std.specs.Prelude.{◌≡◌, ℕ, Bool, List, [], ◌∷◌, ◌++◌, replicate, Option}
use mathlib.Core.List.{reverse_aux}
use Rattle.store.specs.Slots.{Empty, no_key}
use Rattle.cache.specs.Rules.{State, Ask, started, ticked, released, requested}
use Rattle.cache.specs.Answers.{Reply, received, lost}
use Rattle.cache.specs.Decisions.{OnePlace}
use Rattle.model.specs.World as world
use Rattle.model.specs.Promise.{Promise}
use Rattle.refinement.specs.Stands.{setting_of, Stands}
use Rattle.refinement.specs.Steps.{tick_events, ask_events, ask_gives, answer_events, answer_gives, lose_events, lose_gives, HonestOn}

pub data Happening : Type 0 where
  Ticks : Happening
  Asks : Ask → Happening
  Answers : (connection : ℕ) → Reply → Happening
  Loses : (connection : ℕ) → Happening
  Releases : (connection : ℕ) → Happening
  Changes : (resource language text : ℕ) → Happening
  Acts : (connection lifetime : ℕ) → (private full : Bool) → (reply : ℕ) → Happening
  Declines : (connection reply : ℕ) → Happening

pub record Run : Type 0 where
  pub state : State
  pub events : List world.Event
  pub given : List world.Delivery

-- what a store can remember and has room for, the bodies of validators, which resources vary, how many places there are
pub record Terms : Type 0 where
  pub knows : List ℕ → List ℕ → Option (List ℕ) → Bool
  pub fits : Option (List ℕ) → List ℕ → Bool
  pub bodies : ℕ → ℕ → List ℕ → List ℕ
  pub varies : ℕ → Bool
  pub places : ℕ

abbrev pub setting_in : Terms → world.Setting
setting_in t = setting_of t.varies t.places

abbrev pub fresh : Terms → State
fresh t = started (replicate t.places Empty) (replicate 8 no_key) (replicate 8 [])

abbrev pub goes : State → List world.Event → List world.Delivery → Run → Run
goes st es ds ρ = record { state = st; events = reverse_aux es ρ.events; given = ds ++ ρ.given }

abbrev pub happens : Terms → Happening → Run → Run
happens t Ticks ρ = goes (ticked ρ.state) (tick_events ρ.state) [] ρ
happens t (Asks a) ρ = goes (requested t.knows a ρ.state).state (ask_events t.knows t.bodies (setting_in t) a ρ.state) (ask_gives t.knows a ρ.state) ρ
happens t (Answers c r) ρ = goes (received t.fits c r ρ.state).state (answer_events t.fits c r ρ.state) (answer_gives t.fits t.bodies (setting_in t) c r ρ.state) ρ
happens t (Loses c) ρ = goes (lost c ρ.state).state (lose_events c ρ.state) (lose_gives c ρ.state) ρ
happens t (Releases c) ρ = goes (released c ρ.state) [] [] ρ
happens t (Changes r l x) ρ = goes ρ.state (world.Change r l x ∷ []) [] ρ
happens t (Acts c life private full reply) ρ = goes ρ.state (world.Act c life private full reply ∷ []) [] ρ
happens t (Declines c reply) ρ = goes ρ.state (world.Decline c reply ∷ []) [] ρ

unfoldable pub run : Terms → List Happening → Run
run t [] = record { state = fresh t; events = []; given = [] }
run t (h ∷ hs) = happens t h (run t hs)

abbrev pub HonestNow : Terms → Happening → Run → Type 0
HonestNow t Ticks ρ = Unit {0}
HonestNow t (Asks a) ρ = Unit {0}
HonestNow t (Answers c r) ρ = HonestOn t.bodies (setting_in t) (world.world (setting_in t) ρ.events) c r
HonestNow t (Loses c) ρ = Unit {0}
HonestNow t (Releases c) ρ = Unit {0}
HonestNow t (Changes r l x) ρ = Unit {0}
HonestNow t (Acts c life private full reply) ρ = Unit {0}
HonestNow t (Declines c reply) ρ = Unit {0}

unfoldable pub Honest : Terms → List Happening → Type 0
Honest t [] = Unit {0}
Honest t (h ∷ hs) = HonestNow t h (run t hs) × Honest t hs

-- The cache stands for the world of its run; what it gave is what that world delivered; and of that the promise holds.
pub record Kept (t : Terms) (hs : List Happening) : Type 0 where
  pub stands : Stands t.bodies (setting_in t) (run t hs).state (world.world (setting_in t) (run t hs).events)
  pub delivered : (world.world (setting_in t) (run t hs).events).delivered ≡ (run t hs).given
  pub promise : Promise (setting_in t) (run t hs).events

abbrev pub CacheKeeps : Type 0
CacheKeeps = (t : Terms) (hs : List Happening) → Honest t hs → Kept t hs

-- In every run, honest or not, there is one place for a path and language.
abbrev pub CacheHasOnePlace : Type 0
CacheHasOnePlace = (t : Terms) (hs : List Happening) → OnePlace (run t hs).state.slots
