-- What a cache by value stands for, and what its calls are in every world that it stands for.
--
--   state_in      what a node remembers
--   begun         what a new node remembers: 64 places, all free
--   held_at       what is held for a connection
--   stored_before how many of the first places hold a response
--   Ticked, Asked, Answered, Lost   from one state to another: for every world that the first stands for, the second
--                 stands for the stepped world, and what the world delivers is what the clients are given
--   NodeKeeps     any run of calls of a node, from a new one on, is as promised
--
-- Assumes nothing.
use Rattle.std.specs.Prelude.{Bool, cond, List, [], ℕ, nat_lt, slice_index_or, replicate, is_some, count_by}
use Rattle.std.specs.List.{range_with_len}
use Rattle.store.specs.Slots.{Slot, Empty, no_key, row_of}
use Rattle.array_store.specs.Places.{contents_of}
use Rattle.array_store.specs.Shorts.{is_known, is_fitting}
use Rattle.cache.specs.Rules.{State, Ask, state_of, started}
use Rattle.cache.specs.Answers.{Reply}
use Rattle.model.specs.World as world
use Rattle.refinement.specs.Stands.{setting_of, Stands}
use Rattle.refinement.specs.Steps.{StepSo, tick_events, ask_events, ask_gives, answer_events, answer_gives, lose_events, lose_gives, HonestOn}
use Rattle.refinement.specs.Runs.{Happening, Terms, Honest, Kept}
use Rattle.node.specs.declared.types.Node.{Node}

abbrev pub state_in : Node → State
state_in n = state_of contents_of n.cache

abbrev pub begun : State
begun = started (replicate 64 Empty) (replicate 8 no_key) (replicate 8 [])

-- what is held for a connection, if there is such a one
abbrev pub held_at : ℕ → State → List ℕ
held_at c st = cond (nat_lt c 8) (slice_index_or st.held c []) []

abbrev pub stored_before : ℕ → List Slot → ℕ
stored_before n slots = count_by (λ i. is_some (row_of (slice_index_or slots i Empty))) (range_with_len 0 n)

abbrev pub Ticked : State → State → Type 0
Ticked st after = (b : ℕ → ℕ → List ℕ → List ℕ) (s : world.Setting) (w : world.World) → Stands b s st w → StepSo b s after w (tick_events st) []

abbrev pub Asked : Ask → State → State → Type 0
Asked a st after = (b : ℕ → ℕ → List ℕ → List ℕ) (s : world.Setting) (w : world.World) → Stands b s st w → StepSo b s after w (ask_events is_known b s a st) (ask_gives is_known a st)

abbrev pub Answered : ℕ → Reply → State → State → Type 0
Answered c r st after = (b : ℕ → ℕ → List ℕ → List ℕ) (varies : ℕ → Bool) (places : ℕ) (w : world.World) → Stands b (setting_of varies places) st w → HonestOn b (setting_of varies places) w c r →
    StepSo b (setting_of varies places) after w (answer_events is_fitting c r st) (answer_gives is_fitting b (setting_of varies places) c r st)

abbrev pub Lost : ℕ → State → State → Type 0
Lost c st after = (b : ℕ → ℕ → List ℕ → List ℕ) (s : world.Setting) (w : world.World) → Stands b s st w → StepSo b s after w (lose_events c st) (lose_gives c st)

-- Any calls of a node, with an honest origin: what is given is as promised. The places are the node's 64, and where
-- answers are stored, what is evicted and what is refused is the node's own choice.
abbrev pub terms_of : (ℕ → ℕ → List ℕ → List ℕ) → (ℕ → Bool) → Terms
terms_of bodies varies = record { knows = is_known; fits = is_fitting; bodies = bodies; varies = varies; places = 64 }

abbrev pub NodeKeeps : Type 0
NodeKeeps = (bodies : ℕ → ℕ → List ℕ → List ℕ) (varies : ℕ → Bool) (hs : List Happening) → Honest (terms_of bodies varies) hs → Kept (terms_of bodies varies) hs
