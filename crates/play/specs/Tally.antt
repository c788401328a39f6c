-- What a game counts, what it says is broken, and what the origin's words mean to a cache.
--
--   words_of      what the origin says, in the cache's terms: of the lifetime, at most a day, the age is over
--   empty_name    the number of the empty name, as a client or a path: no place has it
--   client_of     the client that the cache knows by a number: its last one is the empty name's
--   counted       the counts with one more that happened; `more` stops at the largest number
--   is_broken     what became of a command was not as promised
--   first_broken  the first that was not as promised
--   of_client     what is judged, if the client that is given it is the one that asked
--   is_given_as   a client is given a body, judged so
--   connection_of a connection, from 0 to 7
--
-- Assumes nothing.
use Rattle.std.specs.Prelude.{◌≡◌, ℕ, ◌+◌, ◌-◌, ◌^◌, min, Bool, false, cond, ◌||◌, Some, None, Ok, Err, Option, Result, ◌==◌, nat_lt}
use Rattle.std.specs.Result.{is_err}
use Rattle.cache.specs.declared.types.Words.{Words}
use Rattle.play.specs.declared.types.Counts.{Counts}
use Rattle.play.specs.declared.types.Judged.{Judged}
use Rattle.play.specs.declared.types.Shown.{Shown}
use Rattle.play.specs.declared.types.ScriptError.{ScriptError}
use Rattle.play.specs.declared.types.ScriptError.TheVariants.{NoConnection}
use Rattle.play.specs.declared.types.Source.{Source}
use Rattle.play.specs.declared.types.Source.TheVariants.{Kept, Owner}
use Rattle.play.specs.declared.types.Breach.TheVariants.{OtherClient}
use Rattle.play.specs.declared.types.What.{What}
use Rattle.play.specs.declared.types.What.TheVariants.{Quiet, Nothing, Forwarded, Given, Status, Done, Lost, Refused, Faulty}
use Rattle.play.specs.Script.{Said}

abbrev pub words_of : Said → Words
words_of s = record { lifetime = min s.max_age 86400 - s.age; age = s.age; private = s.private || s.no_store; no_cache = s.no_cache }

abbrev pub empty_name : ℕ
empty_name = 2 ^ 64 - 1

abbrev pub client_of : ℕ → ℕ
client_of number = cond (number == 65535) empty_name number

abbrev pub more : ℕ → ℕ
more n = min (n + 1) (2 ^ 64 - 1)

abbrev pub given : Source → Counts → Counts
given Kept c = record { kept = more c.kept; owner = c.owner; writes = c.writes; others = c.others; lost = c.lost; refused = c.refused }
given Owner c = record { kept = c.kept; owner = more c.owner; writes = c.writes; others = c.others; lost = c.lost; refused = c.refused }

abbrev pub counted : What → Counts → Counts
counted Quiet c = c
counted (Nothing n) c = c
counted (Forwarded n etag) c = c
counted (Given source body judged) c = given source c
counted (Status s) c = record { kept = c.kept; owner = c.owner; writes = c.writes; others = more c.others; lost = c.lost; refused = c.refused }
counted Done c = record { kept = c.kept; owner = c.owner; writes = more c.writes; others = c.others; lost = c.lost; refused = c.refused }
counted Lost c = record { kept = c.kept; owner = c.owner; writes = c.writes; others = c.others; lost = more c.lost; refused = c.refused }
counted Refused c = record { kept = c.kept; owner = c.owner; writes = c.writes; others = c.others; lost = c.lost; refused = more c.refused }
counted Faulty c = record { kept = c.kept; owner = c.owner; writes = c.writes; others = more c.others; lost = c.lost; refused = c.refused }

abbrev pub is_broken : What → Bool
is_broken Quiet = false
is_broken (Nothing n) = false
is_broken (Forwarded n etag) = false
is_broken (Given source body judged) = is_err judged.verdict
is_broken (Status s) = false
is_broken Done = false
is_broken Lost = false
is_broken Refused = false
is_broken Faulty = false

abbrev pub first_broken : Option Shown → Shown → Option Shown
first_broken (Some s) t = Some s
first_broken None t = cond (is_broken t.what) (Some t) None

abbrev pub of_client : Bool → Judged → Judged
of_client same j = cond same j (record { verdict = Err OtherClient; ago = j.ago; lifetime = j.lifetime })

abbrev pub connection_of : Option ℕ → Result ℕ ScriptError
connection_of None = Err NoConnection
connection_of (Some n) = cond (nat_lt n 8) (Ok n) (Err NoConnection)

abbrev pub is_given_as : What → Judged → Type 0
is_given_as (Given source body judged) j = judged ≡ j
is_given_as Quiet j = ⊥
is_given_as (Nothing n) j = ⊥
is_given_as (Forwarded n etag) j = ⊥
is_given_as (Status s) j = ⊥
is_given_as Done j = ⊥
is_given_as Lost j = ⊥
is_given_as Refused j = ⊥
is_given_as Faulty j = ⊥
