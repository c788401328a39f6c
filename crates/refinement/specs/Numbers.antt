-- Byte strings as the numbers of the model.
--
--   spread        two numbers as one
--   number_of     a byte string as a number: no two have the same
--   text_of       a body with its validator, if it has one, as the number of a text
--   is_even       the texts that have a validator are the even ones
--
-- Assumes nothing.
use Rattle.std.specs.Prelude.{ℕ, zero, suc, ◌+◌, ◌*◌, Bool, true, false, List, [], ◌∷◌, Some, None, Option}

unfoldable pub spread : ℕ → ℕ → ℕ
spread zero n = 2 * n + 1
spread (suc b) n = 2 * spread b n

unfoldable pub number_of : List ℕ → ℕ
number_of [] = 0
number_of (b ∷ bs) = spread b (number_of bs)

unfoldable pub text_of : Option (List ℕ) → List ℕ → ℕ
text_of None body = spread 0 (number_of body)
text_of (Some t) body = spread (suc (number_of t)) (number_of body)

unfoldable pub is_even : ℕ → Bool
is_even zero = true
is_even (suc zero) = false
is_even (suc (suc n)) = is_even n
