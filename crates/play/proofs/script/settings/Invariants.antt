-- What is left, from what is said so far, gives the whole.
use Rattle.std.proofs.Common.{◌≡◌, ◌-◌, ℕ, Bool, List, Bor}
use Rattle.play.specs.Script.{Said, unsaid, settings_on}
use Rattle.play.proofs.script.settings.Given as goal

-- what is said, from the fields that a loop carries apart
abbrev pub said_in : Bor (List ℕ) × (Bor (List ℕ) × (Bor (List ℕ) × (ℕ × (ℕ × (Bool × (Bool × (Bool × (Bool × (Bool × Unit {0}))))))))) → Said
said_in (language, (etag, (body, (max_age, (age, (private, (no_store, (no_cache, (vary, (authorization, u)))))))))) =
    record { language = language.now; etag = etag.now; body = body.now; max_age = max_age; age = age; private = private; no_store = no_store; no_cache = no_cache; vary = vary; authorization = authorization }

abbrev pub invariant-loop-i : goal.invariant-loop-i
invariant-loop-i l = settings_on (16 - l._i) l.verb (said_in l.said) l.rest ≡ settings_on 16 l.verb unsaid l.text
