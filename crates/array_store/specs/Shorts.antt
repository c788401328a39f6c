-- Short byte strings by value.
--
--   short_of      the bytes that a short byte string stands for; a length past the end counts as all of them
--   is_short      there is room for these bytes
--   is_short_tag  there is room for this validator, if there is one
--   is_known      there is room for a key with this path, language and validator
--   is_fitting    there is room for a response with this validator and body
--
-- Assumes nothing.
use Rattle.std.specs.Prelude.{ℕ, min, Bool, true, ◌&&◌, List, length, take, Some, None, Option, nat_le}
use Rattle.array_store.specs.declared.types.Short.{Short}

abbrev pub short_of : Short → List ℕ
short_of t = take (min t.len 255) t.bytes

abbrev pub is_short : List ℕ → Bool
is_short t = nat_le (length t) 255

abbrev pub is_short_tag : Option (List ℕ) → Bool
is_short_tag None = true
is_short_tag (Some t) = is_short t

abbrev pub is_known : List ℕ → List ℕ → Option (List ℕ) → Bool
is_known path language tag = is_short path && (is_short language && is_short_tag tag)

abbrev pub is_fitting : Option (List ℕ) → List ℕ → Bool
is_fitting tag body = is_short_tag tag && is_short body
