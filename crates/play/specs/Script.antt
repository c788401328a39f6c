-- What a line of a script means, from its bytes.
--
--   is_blank, is_other   a byte that parts words; any other
--   is_byte       a byte is this one
--   is_odd        a byte that can't be printed
--   cut_word      the first word of a text and what stands behind it; None if there is no word
--   number_of     the number that a word of digits stands for; None for any other word
--   spelled_verb, spelled_field   how a verb and the name of a setting are written
--   verbs, fields all verbs, and the names of all settings, in the order in which a word is sought among them
--   verb_of       the verb of a word; takes_two: it is followed by two words, and not by one
--   field_of      what a setting is about, from its name with `=`; may_stand: it may stand behind this verb
--   Said          what is said behind the subject, as bytes; said_of: of settings
--   set_field     what is said, with one more setting
--   settings_on   what is said with at most so many words more
--   Line          a line, as bytes; line_of: of a command; line_with: of a verb, with those of these words that it takes
--   before_comment a line, as far as its comment
--   parsed        what a line means: nothing, a command, or what is wrong with it
--
-- Assumes nothing.
use Rattle.std.specs.Prelude.{ℕ, zero, suc, ◌+◌, ◌-◌, ◌*◌, Bool, true, false, cond, not, ◌&&◌, ◌||◌, List, [], ◌∷◌, length, take, drop, Some, None, Ok, Err, codes, Option, Result, ◌==◌, nat_le, nat_lt}
use Rattle.std.specs.Borrow.{Bor}
use Rattle.std.specs.List.{position, fold, find, list_any}
use Rattle.std.specs.Option.{option_map, option_map_or, ok_or, unwrap_or}
use Rattle.std.specs.Str.{bytes_eq}
use Rattle.play.specs.declared.types.Verb.{Verb}
use Rattle.play.specs.declared.types.Verb.TheVariants as verb
use Rattle.play.specs.declared.types.Field.{Field}
use Rattle.play.specs.declared.types.Field.TheVariants as field
use Rattle.play.specs.declared.types.Settings.{Settings}
use Rattle.play.specs.declared.types.Command.{Command}
use Rattle.play.specs.declared.types.Command.TheVariants as command
use Rattle.play.specs.declared.types.ScriptError.{ScriptError}
use Rattle.play.specs.declared.types.ScriptError.TheVariants.{Unprintable, UnknownVerb, MissingWord, UnknownSetting, MisplacedSetting, ManyWords, NoNumber}

abbrev pub is_blank : ℕ → Bool
is_blank b = b == 32 || (b == 9 || b == 13)

abbrev pub is_other : ℕ → Bool
is_other b = not (is_blank b)

abbrev pub is_byte : ℕ → ℕ → Bool
is_byte a b = b == a

abbrev pub is_odd : ℕ → Bool
is_odd b = not (is_blank b) && (nat_lt b 32 || nat_lt 126 b)

abbrev pub cut_at : ℕ → List ℕ → List ℕ × List ℕ
cut_at n s = (take n s, drop n s)

-- the word that begins a text, and what stands behind it
abbrev pub cut_blank : List ℕ → List ℕ × List ℕ
cut_blank s = cut_at (unwrap_or (position is_blank s) (length s)) s

abbrev pub cut_from : List ℕ → ℕ → List ℕ × List ℕ
cut_from s n = cut_blank (drop n s)

unfoldable pub cut_word : List ℕ → Option (List ℕ × List ℕ)
cut_word s = option_map (cut_from s) (position is_other s)

abbrev pub both : Bor (List ℕ) × Bor (List ℕ) → List ℕ × List ℕ
both p = (p.0.now, p.1.now)

-- One more digit, if the number stays below 1,000,000,000.
abbrev pub digit_on : Option ℕ → ℕ → Option ℕ
digit_on None b = None
digit_on (Some n) b = cond (nat_le 48 b && (nat_le b 57 && nat_le n 99999999)) (Some (n * 10 + (b - 48))) None

abbrev pub number_of : List ℕ → Option ℕ
number_of s = cond (length s == 0) None (fold digit_on (Some 0) s)

unfoldable pub spelled_verb : Verb → List ℕ
spelled_verb verb.Origin = codes "origin"
spelled_verb verb.Tick = codes "tick"
spelled_verb verb.Get = codes "get"
spelled_verb verb.Put = codes "put"
spelled_verb verb.Delete = codes "delete"
spelled_verb verb.Act = codes "act"
spelled_verb verb.Decline = codes "decline"
spelled_verb verb.Receive = codes "receive"
spelled_verb verb.Lose = codes "lose"
spelled_verb verb.Random = codes "random"

abbrev pub verbs : List Verb
verbs = verb.Origin ∷ verb.Tick ∷ verb.Get ∷ verb.Put ∷ verb.Delete ∷ verb.Act ∷ verb.Decline ∷ verb.Receive ∷ verb.Lose ∷ verb.Random ∷ []

abbrev pub verb_of : List ℕ → Option Verb
verb_of w = find (λ v. bytes_eq w (spelled_verb v)) verbs

abbrev pub takes_two : Verb → Bool
takes_two verb.Origin = false
takes_two verb.Tick = false
takes_two verb.Get = true
takes_two verb.Put = true
takes_two verb.Delete = true
takes_two verb.Act = false
takes_two verb.Decline = true
takes_two verb.Receive = false
takes_two verb.Lose = false
takes_two verb.Random = true

unfoldable pub spelled_field : Field → List ℕ
spelled_field field.Language = codes "lang="
spelled_field field.Etag = codes "etag="
spelled_field field.Body = codes "body="
spelled_field field.MaxAge = codes "max-age="
spelled_field field.Age = codes "age="
spelled_field field.Private = codes "private"
spelled_field field.NoStore = codes "no-store"
spelled_field field.NoCache = codes "no-cache"
spelled_field field.Vary = codes "vary"
spelled_field field.Authorization = codes "authorization"

abbrev pub fields : List Field
fields = field.Language ∷ field.Etag ∷ field.Body ∷ field.MaxAge ∷ field.Age ∷ field.Private ∷ field.NoStore ∷ field.NoCache ∷ field.Vary ∷ field.Authorization ∷ []

abbrev pub field_of : List ℕ → Option Field
field_of w = find (λ f. bytes_eq w (spelled_field f)) fields

-- What the origin has and says; what a request says; what a write brings.
abbrev pub in_origin : Field → Bool
in_origin field.Authorization = false
in_origin field.Language = true
in_origin field.Etag = true
in_origin field.Body = true
in_origin field.MaxAge = true
in_origin field.Age = true
in_origin field.Private = true
in_origin field.NoStore = true
in_origin field.NoCache = true
in_origin field.Vary = true

abbrev pub in_get : Field → Bool
in_get field.Language = true
in_get field.Etag = true
in_get field.NoStore = true
in_get field.NoCache = true
in_get field.Authorization = true
in_get field.Body = false
in_get field.MaxAge = false
in_get field.Age = false
in_get field.Private = false
in_get field.Vary = false

abbrev pub in_put : Field → Bool
in_put field.Language = true
in_put field.Etag = true
in_put field.Body = true
in_put field.MaxAge = false
in_put field.Age = false
in_put field.Private = false
in_put field.NoStore = false
in_put field.NoCache = false
in_put field.Vary = false
in_put field.Authorization = false

abbrev pub in_delete : Field → Bool
in_delete field.Language = true
in_delete field.Etag = false
in_delete field.Body = false
in_delete field.MaxAge = false
in_delete field.Age = false
in_delete field.Private = false
in_delete field.NoStore = false
in_delete field.NoCache = false
in_delete field.Vary = false
in_delete field.Authorization = false

abbrev pub may_stand : Verb → Field → Bool
may_stand verb.Origin f = in_origin f
may_stand verb.Get f = in_get f
may_stand verb.Put f = in_put f
may_stand verb.Delete f = in_delete f
may_stand verb.Tick f = false
may_stand verb.Act f = false
may_stand verb.Decline f = false
may_stand verb.Receive f = false
may_stand verb.Lose f = false
may_stand verb.Random f = false

pub record Said : Type 0 where
  pub language : List ℕ
  pub etag : List ℕ
  pub body : List ℕ
  pub max_age : ℕ
  pub age : ℕ
  pub private : Bool
  pub no_store : Bool
  pub no_cache : Bool
  pub vary : Bool
  pub authorization : Bool

abbrev pub said_of : Settings → Said
said_of s = record { language = s.language.now; etag = s.etag.now; body = s.body.now; max_age = s.max_age; age = s.age; private = s.private; no_store = s.no_store; no_cache = s.no_cache; vary = s.vary; authorization = s.authorization }

abbrev pub unsaid : Said
unsaid = record { language = []; etag = []; body = []; max_age = 0; age = 0; private = false; no_store = false; no_cache = false; vary = false; authorization = false }

abbrev pub seen_ok : {X Y E : Type 0} → (X → Y) → Result X E → Result Y E
seen_ok f (Ok x) = Ok (f x)
seen_ok f (Err e) = Err e

abbrev pub max_age_of : Option ℕ → Said → Result Said ScriptError
max_age_of None s = Err NoNumber
max_age_of (Some n) s = Ok (record { language = s.language; etag = s.etag; body = s.body; max_age = n; age = s.age; private = s.private; no_store = s.no_store; no_cache = s.no_cache; vary = s.vary; authorization = s.authorization })

abbrev pub age_of : Option ℕ → Said → Result Said ScriptError
age_of None s = Err NoNumber
age_of (Some n) s = Ok (record { language = s.language; etag = s.etag; body = s.body; max_age = s.max_age; age = n; private = s.private; no_store = s.no_store; no_cache = s.no_cache; vary = s.vary; authorization = s.authorization })

abbrev pub set_field : Field → List ℕ → Said → Result Said ScriptError
set_field field.Language v s = Ok (record { language = v; etag = s.etag; body = s.body; max_age = s.max_age; age = s.age; private = s.private; no_store = s.no_store; no_cache = s.no_cache; vary = s.vary; authorization = s.authorization })
set_field field.Etag v s = Ok (record { language = s.language; etag = v; body = s.body; max_age = s.max_age; age = s.age; private = s.private; no_store = s.no_store; no_cache = s.no_cache; vary = s.vary; authorization = s.authorization })
set_field field.Body v s = Ok (record { language = s.language; etag = s.etag; body = v; max_age = s.max_age; age = s.age; private = s.private; no_store = s.no_store; no_cache = s.no_cache; vary = s.vary; authorization = s.authorization })
set_field field.MaxAge v s = max_age_of (number_of v) s
set_field field.Age v s = age_of (number_of v) s
set_field field.Private v s = Ok (record { language = s.language; etag = s.etag; body = s.body; max_age = s.max_age; age = s.age; private = true; no_store = s.no_store; no_cache = s.no_cache; vary = s.vary; authorization = s.authorization })
set_field field.NoStore v s = Ok (record { language = s.language; etag = s.etag; body = s.body; max_age = s.max_age; age = s.age; private = s.private; no_store = true; no_cache = s.no_cache; vary = s.vary; authorization = s.authorization })
set_field field.NoCache v s = Ok (record { language = s.language; etag = s.etag; body = s.body; max_age = s.max_age; age = s.age; private = s.private; no_store = s.no_store; no_cache = true; vary = s.vary; authorization = s.authorization })
set_field field.Vary v s = Ok (record { language = s.language; etag = s.etag; body = s.body; max_age = s.max_age; age = s.age; private = s.private; no_store = s.no_store; no_cache = s.no_cache; vary = true; authorization = s.authorization })
set_field field.Authorization v s = Ok (record { language = s.language; etag = s.etag; body = s.body; max_age = s.max_age; age = s.age; private = s.private; no_store = s.no_store; no_cache = s.no_cache; vary = s.vary; authorization = true })

abbrev pub set_if : Verb → Option Field → List ℕ → Said → Result Said ScriptError
set_if v None value s = Err UnknownSetting
set_if v (Some f) value s = cond (may_stand v f) (set_field f value s) (Err MisplacedSetting)

-- The name of a setting ends with `=`, if it has a value.
abbrev pub name_length : List ℕ → ℕ
name_length w = option_map_or (λ i. i + 1) (position (is_byte 61) w) (length w)

unfoldable pub with_word : Verb → List ℕ → Said → Result Said ScriptError
with_word v w s = set_if v (field_of (take (name_length w) w)) (drop (name_length w) w) s

abbrev pub next_with : (Said → List ℕ → Result Said ScriptError) → List ℕ → Result Said ScriptError → Result Said ScriptError
next_with next rest (Ok s) = next s rest
next_with next rest (Err e) = Err e

abbrev pub next_cut : (Said → List ℕ → Result Said ScriptError) → Verb → Said → Option (List ℕ × List ℕ) → Result Said ScriptError
next_cut next v s None = Ok s
next_cut next v s (Some p) = next_with next p.1 (with_word v p.0 s)

unfoldable pub settings_on : ℕ → Verb → Said → List ℕ → Result Said ScriptError
settings_on zero v s t = Err ManyWords
settings_on (suc n) v s t = next_cut (settings_on n v) v s (cut_word t)

abbrev pub second_of : Verb → List ℕ → Result (List ℕ × List ℕ) ScriptError
second_of v t = cond (takes_two v) (ok_or (cut_word t) MissingWord) (Ok ([], t))

pub record Line : Type 0 where
  pub verb : Verb
  pub subject : List ℕ
  pub second : List ℕ
  pub said : Said

abbrev pub line_of : Command → Line
line_of (command.Origin path settings) = record { verb = verb.Origin; subject = path.now; second = []; said = said_of settings }
line_of (command.Tick seconds) = record { verb = verb.Tick; subject = seconds.now; second = []; said = unsaid }
line_of (command.Get client path settings) = record { verb = verb.Get; subject = client.now; second = path.now; said = said_of settings }
line_of (command.Put client path settings) = record { verb = verb.Put; subject = client.now; second = path.now; said = said_of settings }
line_of (command.Delete client path settings) = record { verb = verb.Delete; subject = client.now; second = path.now; said = said_of settings }
line_of (command.Act connection) = record { verb = verb.Act; subject = connection.now; second = []; said = unsaid }
line_of (command.Decline connection status) = record { verb = verb.Decline; subject = connection.now; second = status.now; said = unsaid }
line_of (command.Receive connection) = record { verb = verb.Receive; subject = connection.now; second = []; said = unsaid }
line_of (command.Lose connection) = record { verb = verb.Lose; subject = connection.now; second = []; said = unsaid }
line_of (command.Random seed count) = record { verb = verb.Random; subject = seed.now; second = count.now; said = unsaid }

abbrev pub line_with : Verb → List ℕ → List ℕ → Said → Line
line_with verb.Origin a b s = record { verb = verb.Origin; subject = a; second = []; said = s }
line_with verb.Tick a b s = record { verb = verb.Tick; subject = a; second = []; said = unsaid }
line_with verb.Get a b s = record { verb = verb.Get; subject = a; second = b; said = s }
line_with verb.Put a b s = record { verb = verb.Put; subject = a; second = b; said = s }
line_with verb.Delete a b s = record { verb = verb.Delete; subject = a; second = b; said = s }
line_with verb.Act a b s = record { verb = verb.Act; subject = a; second = []; said = unsaid }
line_with verb.Decline a b s = record { verb = verb.Decline; subject = a; second = b; said = unsaid }
line_with verb.Receive a b s = record { verb = verb.Receive; subject = a; second = []; said = unsaid }
line_with verb.Lose a b s = record { verb = verb.Lose; subject = a; second = []; said = unsaid }
line_with verb.Random a b s = record { verb = verb.Random; subject = a; second = b; said = unsaid }

abbrev pub seen_line : Option Command → Option Line
seen_line None = None
seen_line (Some c) = Some (line_of c)

abbrev pub with_said : Verb → List ℕ → List ℕ → Result Said ScriptError → Result (Option Line) ScriptError
with_said v a b (Ok s) = Ok (Some (record { verb = v; subject = a; second = b; said = s }))
with_said v a b (Err e) = Err e

abbrev pub with_second : Verb → List ℕ → Result (List ℕ × List ℕ) ScriptError → Result (Option Line) ScriptError
with_second v a (Ok p) = with_said v a p.0 (settings_on 16 v unsaid p.1)
with_second v a (Err e) = Err e

abbrev pub with_first : Verb → Option (List ℕ × List ℕ) → Result (Option Line) ScriptError
with_first v None = Err MissingWord
with_first v (Some p) = with_second v p.0 (second_of v p.1)

abbrev pub with_verb : Option Verb → List ℕ → Result (Option Line) ScriptError
with_verb None t = Err UnknownVerb
with_verb (Some v) t = with_first v (cut_word t)

abbrev pub with_words : Option (List ℕ × List ℕ) → Result (Option Line) ScriptError
with_words None = Ok None
with_words (Some p) = with_verb (verb_of p.0) p.1

abbrev pub before_comment : List ℕ → List ℕ
before_comment s = take (unwrap_or (position (is_byte 35) s) (length s)) s

abbrev pub parsed : List ℕ → Result (Option Line) ScriptError
parsed s = cond (list_any is_odd s) (Err Unprintable) (with_words (cut_word (before_comment s)))
