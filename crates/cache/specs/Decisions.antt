-- What is said of a cache's decisions in the subject's own words, above the definitions that make them.
--
--   servable      the store may serve this request now: it reads, does not want the origin's answer, and what is stored
--                 for it may be shown
--   is_served     a request was served from the store
--   KeepsOthers   nothing is given up while there is room: while a place is free, a new answer takes a free one or the
--                 place of an older answer to the same request
--   SparesPinned  what an exchange under way asks with is never given up for another answer
--   StoresIt      what may be stored is stored, just as it came
--   Rivals        two stored responses could serve one request: they are of one path and, if both vary, one language
--   OnePlace      there is one place for a path and language
--
-- Assumes nothing.
use Rattle.std.specs.Prelude.{◌≡◌, ℕ, Bool, true, false, not, ◌&&◌, ◌||◌, List, is_some, Some, None, Option, Ok, Err, Result, slice_index_or}
use Rattle.store.specs.declared.types.Row.{Row}
use Rattle.std.specs.List.{position, list_any}
use Rattle.store.specs.Slots.{Response, Slot, Empty, Filled, is_for, holds, is_empty, row_of}
use Rattle.cache.specs.declared.types.Words.{Words}
use Rattle.cache.specs.declared.types.Exchange.{Exchange}
use Rattle.cache.specs.declared.types.Looked.{Looked}
use Rattle.cache.specs.declared.types.Looked.TheVariants.{Served, Forwarded}
use Rattle.cache.specs.declared.types.RequestError.{RequestError}
use Rattle.cache.specs.Rules.{State, Ask, may_serve}
use Rattle.cache.specs.Answers.{key_at, is_pinned, may_store, row_for}

abbrev pub servable_row : ℕ → Option Row → Bool
servable_row tick None = false
servable_row tick (Some r) = may_serve tick r

abbrev pub servable_at : State → Option ℕ → Bool
servable_at s None = false
servable_at s (Some i) = servable_row s.tick (row_of (slice_index_or s.slots i Empty))

abbrev pub servable : Ask → State → Bool
servable a s = not (is_some a.write) && (servable_at s (position (holds (is_for a.path a.language)) s.slots) && not a.no_cache)

abbrev pub is_place : Looked → Bool
is_place (Served i) = true
is_place (Forwarded c) = false

abbrev pub is_served : Result Looked RequestError → Bool
is_served (Ok l) = is_place l
is_served (Err e) = false

abbrev pub KeepsOthers : ℕ → State → Option ℕ → Type 0
KeepsOthers c s None = list_any is_empty s.slots ≡ false
KeepsOthers c s (Some i) = list_any is_empty s.slots ≡ true → (holds (is_for (key_at c s).path (key_at c s).language) (slice_index_or s.slots i Empty) || is_empty (slice_index_or s.slots i Empty)) ≡ true

abbrev pub SparesPinned : ℕ → State → Option ℕ → Type 0
SparesPinned c s None = Unit {0}
SparesPinned c s (Some i) = is_pinned s (slice_index_or s.slots i Empty) ≡ true → (holds (is_for (key_at c s).path (key_at c s).language) (slice_index_or s.slots i Empty) || is_empty (slice_index_or s.slots i Empty)) ≡ true

abbrev pub StoresIt : (Option (List ℕ) → List ℕ → Bool) → ℕ → Exchange → Bool → Option (List ℕ) → List ℕ → Words → State → Option ℕ → State → Type 0
StoresIt fits c x varies tag body w s None after = Unit {0}
StoresIt fits c x varies tag body w s (Some i) after = (may_store x w && fits tag body) ≡ true →
    slice_index_or after.slots i Empty ≡ Filled (record { path = (key_at c s).path; language = (key_at c s).language; tag = tag; body = body; row = row_for s.tick x varies w })

pub record Rivals (r q : Response) : Type 0 where
  pub path : r.path ≡ q.path
  pub language : r.row.varies ≡ true → q.row.varies ≡ true → r.language ≡ q.language

abbrev pub OnePlace : List Slot → Type 0
OnePlace ks = (i j : ℕ) (r q : Response) → slice_index_or ks i Empty ≡ Filled r → slice_index_or ks j Empty ≡ Filled q → Rivals r q → i ≡ j
