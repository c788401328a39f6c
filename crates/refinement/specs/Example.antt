-- A run that is honest, with a miss, a hit, a write, and a late answer that was revalidated: the promise of runs is of something.
--
--   terms         a store of two places with room for all; nothing varies; validator 0 has the body 3, any other 4
--   example       the run, in the order in which things happen: at tick 0 client 5 reads path 1, and the origin's answer,
--                 which may be shown for one tick, is stored; at tick 1 client 6 is served; at tick 2 client 7 asks again,
--                 and the cache asks with the validator; client 8 writes, and is told that it is done; then the answer to
--                 client 7 comes, late: it is given what was held, and nothing of it is stored
--   Exampled      the run is honest; what clients were given; and that nothing is stored after it
--
-- Assumes nothing.
use Rattle.std.specs.Prelude.{◌≡◌, ℕ, true, false, cond, List, [], ◌∷◌, reverse, replicate, Some, None}
use Rattle.std.specs.Str.{bytes_eq}
use Rattle.store.specs.Slots.{Empty}
use Rattle.cache.specs.declared.types.Words.{Words}
use Rattle.cache.specs.Rules.{Ask}
use Rattle.cache.specs.Answers.{Full, NotModified, Done}
use Rattle.model.specs.World as world
use Rattle.refinement.specs.Numbers.{number_of, text_of}
use Rattle.refinement.specs.Runs.{Happening, Ticks, Asks, Answers, Changes, Acts, Terms, run, Honest}

abbrev pub terms : Terms
terms = record { knows = λ p l t. true; fits = λ t x. true; bodies = λ r l t. cond (bytes_eq t (0 ∷ [])) (3 ∷ []) (4 ∷ []); varies = λ r. false; places = 2 }

abbrev pub words : Words
words = record { lifetime = 1; age = 0; private = false; no_cache = false }

abbrev pub read : ℕ → Ask
read client = record { client = client; write = None; path = 1 ∷ []; language = []; tag = None; no_cache = false; storable = true }

abbrev pub write : ℕ → Ask
write client = record { client = client; write = Some (9 ∷ []); path = 1 ∷ []; language = []; tag = None; no_cache = false; storable = true }

abbrev pub shown : ℕ
shown = text_of (Some (0 ∷ [])) (3 ∷ [])

abbrev pub example : List Happening
example =
    Changes (number_of (1 ∷ [])) 0 shown ∷ (Asks (read 5) ∷ (Acts 0 1 false true 0 ∷ (Answers 0 (Full false (Some (0 ∷ [])) (3 ∷ []) words) ∷ (
    Ticks ∷ (Asks (read 6) ∷ (
    Ticks ∷ (Asks (read 7) ∷ (Acts 0 1 false false 0 ∷ (
    Asks (write 8) ∷ (Acts 1 0 false false (number_of (0 ∷ [])) ∷ (Answers 1 (Done (0 ∷ [])) ∷ (
    Answers 0 (NotModified words) ∷ []))))))))))))

abbrev pub delivery : (client exchange : ℕ) → world.Content → world.Delivery
delivery client exchange content = record { client = client; exchange = exchange; resource = number_of (1 ∷ []); language = 0; content = content }

pub record Exampled : Type 0 where
  pub honest : Honest terms (reverse example)
  pub given : (run terms (reverse example)).given ≡ delivery 7 2 (world.Text shown) ∷ (delivery 8 3 (world.Acknowledged (number_of (0 ∷ []))) ∷ (delivery 6 0 (world.Text shown) ∷ (delivery 5 1 (world.Text shown) ∷ [])))
  pub stored : (run terms (reverse example)).state.slots ≡ replicate 2 Empty
