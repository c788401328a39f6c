-- The dice of a random play.
--
--   next_state    the state after a roll
--   rolled        what is rolled at a state, with so many sides
--   label_of      five digits of a number
--   rolls_at      what a command is chosen by: the first four say what the origin has for each of the four paths
--   PlayedAs      so many commands were played: each was counted, and the first that was not as promised is remembered
--
-- Assumes nothing.
use Rattle.std.specs.Prelude.{◌≡◌, ℕ, ◌+◌, ◌*◌, ◌/◌, ◌%◌, ◌^◌, cond, List, [], ◌∷◌, length, Option, ◌==◌, nat_lt}
use Rattle.std.specs.List.{fold}
use Rattle.play.specs.declared.types.Counts.{Counts}
use Rattle.play.specs.declared.types.Rolls.{Rolls}
use Rattle.play.specs.declared.types.Shown.{Shown}
use Rattle.play.specs.Tally.{counted, first_broken}

abbrev pub next_state : ℕ → ℕ
next_state s = ((s * 6364136223846793005) % 2 ^ 64 + 1442695040888963407) % 2 ^ 64

abbrev pub rolled : ℕ → ℕ → ℕ
rolled s sides = cond (sides == 0) 0 ((s / 8589934592) % sides)

abbrev pub label_of : ℕ → List ℕ
label_of n = (48 + (n / 10000) % 10) ∷ (48 + (n / 1000) % 10) ∷ (48 + (n / 100) % 10) ∷ (48 + (n / 10) % 10) ∷ (48 + n % 10) ∷ []

abbrev pub rolls_at : ℕ → Rolls → Rolls
rolls_at n r = cond (nat_lt n 4) (record { verb = 23; path = n; client = r.client; digit = r.digit; language = r.language; coin = r.coin; max_age = r.max_age; age = r.age }) r

abbrev pub counted_shown : Counts → Shown → Counts
counted_shown c s = counted s.what c

abbrev pub PlayedAs : ℕ → Counts → Option Shown → Counts → Option Shown → Type 0
PlayedAs n before broken after broken_after = (shown : List Shown) × (length shown ≡ n) × (after ≡ fold counted_shown before shown) × (broken_after ≡ fold first_broken broken shown)
