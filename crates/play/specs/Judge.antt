-- The judge's rules, over the history of a run and nothing else: what the origin had, what it answered, which writes were settled.
--
--   latest_on     the latest moment at which the origin had a version, from its changes in their order
--   lasts_past    it was so at an event later than this one, or still is
--   ago_of        how many ticks ago that moment is
--   same_version  two versions are one
--   is_fresh      an answer lets a version be shown at this tick: neither private nor `no-cache`, to a request that
--                 allowed storing, and with a lifetime that is not over, counted from the forwarding
--   lifetime_on   the lifetime in the last answer that lets it be shown, 0 if there is none
--   is_undone     a write to the path that was settled before an event, and done after the latest moment
--   is_withdrawing a private word about what an answer brought, received later than it
--   is_shared     a whole answer, not private, to a request that allowed storing, with no private word since
--   kept_verdict  the verdict on an answer from the store
--   owner_verdict the verdict on an answer of the origin's
--   never_so      what is judged of what was never the origin's
--   kept_on, owner_on what is judged of a version that a client is given for a path, from the store; from the origin
--
-- Assumes nothing.
use Rattle.std.specs.Prelude.{ℕ, ◌-◌, Bool, true, false, cond, not, ◌&&◌, ◌||◌, List, Some, None, Option, Ok, Err, Result, fold, reverse, ◌==◌, nat_eq, nat_le, nat_lt}
use Rattle.std.specs.List.{list_any, find}
use Rattle.std.specs.Option.{option_eq}
use Rattle.play.specs.declared.types.Moment.{Moment}
use Rattle.play.specs.declared.types.Version.{Version}
use Rattle.play.specs.declared.types.Change.{Change}
use Rattle.play.specs.declared.types.Received.{Received}
use Rattle.play.specs.declared.types.Settled.{Settled}
use Rattle.play.specs.declared.types.Given.{Given}
use Rattle.play.specs.declared.types.Latest.{Latest}
use Rattle.play.specs.declared.types.Latest.TheVariants.{Never, Until, Still}
use Rattle.play.specs.declared.types.Breach.{Breach}
use Rattle.play.specs.declared.types.Breach.TheVariants.{NeverSo, NotSince, TooOld, BeforeWrite, NotShared}
use Rattle.play.specs.declared.types.Judged.{Judged}
use Rattle.play.specs.declared.types.History.{History}

-- It was so until another version came.
abbrev pub leaves : Latest → Moment → Latest
leaves Never m = Never
leaves (Until e) m = Until e
leaves Still m = Until m

abbrev pub seen_change : Version → Latest → Change → Latest
seen_change v acc c = cond (c.version.resource == v.resource) (cond (option_eq nat_eq c.version.text v.text) Still (leaves acc c.since)) acc

abbrev pub latest_on : Version → List Change → Latest
latest_on v cs = fold (seen_change v) Never cs

abbrev pub lasts_past : Latest → ℕ → Bool
lasts_past Never e = false
lasts_past (Until m) e = nat_lt e m.event
lasts_past Still e = true

abbrev pub ago_of : Latest → ℕ → ℕ
ago_of Never now = 0
ago_of (Until m) now = now - m.tick
ago_of Still now = 0

abbrev pub same_version : Version → Version → Bool
same_version v w = v.resource == w.resource && option_eq nat_eq v.text w.text

abbrev pub is_fresh : Version → ℕ → Received → Bool
is_fresh v now a = same_version a.version v && (not a.private && (not a.no_cache && (a.storable && nat_le (now - a.forwarded) a.lifetime)))

abbrev pub lifetime_in : Option Received → ℕ
lifetime_in None = 0
lifetime_in (Some a) = a.lifetime

abbrev pub lifetime_on : Version → ℕ → List Received → ℕ
lifetime_on v now rs = lifetime_in (find (is_fresh v now) (reverse rs))

abbrev pub is_undone : ℕ → ℕ → Latest → Settled → Bool
is_undone path before latest w = w.path == path && (nat_lt w.event before && not (lasts_past latest w.done))

abbrev pub is_withdrawing : Received → Received → Bool
is_withdrawing a b = b.private && (b.version.resource == a.version.resource && (nat_lt a.event b.event && (not b.full || (b.tagged && option_eq nat_eq b.version.text a.version.text))))

abbrev pub is_shared : List Received → Version → Received → Bool
is_shared rs v a = a.full && (not a.private && (a.storable && (same_version a.version v && not (list_any (is_withdrawing a) rs))))

abbrev pub is_never : Latest → Bool
is_never Never = true
is_never (Until m) = false
is_never Still = false

abbrev pub kept_verdict : Latest → ℕ → ℕ → Bool → Bool → Result (Unit {0}) Breach
kept_verdict latest ago life undone shared =
    cond (is_never latest) (Err NeverSo) (cond (nat_lt 0 life && nat_le ago life) (cond undone (Err BeforeWrite) (cond shared (Ok tt) (Err NotShared))) (Err TooOld))

abbrev pub owner_verdict : Latest → ℕ → Bool → Result (Unit {0}) Breach
owner_verdict latest since undone =
    cond (is_never latest) (Err NeverSo) (cond (lasts_past latest since) (cond undone (Err BeforeWrite) (Ok tt)) (Err NotSince))

abbrev pub never_so : ℕ → Judged
never_so life = record { verdict = Err NeverSo; ago = 0; lifetime = life }

abbrev pub kept_on : History → ℕ → Moment → Option Version → Judged
kept_on h path now None = never_so 0
kept_on h path now (Some v) = record {
  verdict = kept_verdict (latest_on v h.changes.items) (ago_of (latest_on v h.changes.items) now.tick) (lifetime_on v now.tick h.answers.items)
      (list_any (is_undone path now.event (latest_on v h.changes.items)) h.writes.items) (list_any (is_shared h.answers.items v) h.answers.items);
  ago = ago_of (latest_on v h.changes.items) now.tick;
  lifetime = lifetime_on v now.tick h.answers.items;
}

-- what is judged of an answer from the store, at a moment
abbrev pub kept_judged : History → Given → Moment → Judged
kept_judged h g now = kept_on h g.path now g.version

abbrev pub owner_on : History → ℕ → ℕ → ℕ → ℕ → Option Version → Judged
owner_on h path since life now None = never_so life
owner_on h path since life now (Some v) = record {
  verdict = owner_verdict (latest_on v h.changes.items) since (list_any (is_undone path since (latest_on v h.changes.items)) h.writes.items);
  ago = ago_of (latest_on v h.changes.items) now;
  lifetime = life;
}

-- what is judged of an answer of the origin's to what was forwarded at the event `since`
abbrev pub owner_judged : History → Given → ℕ → ℕ → ℕ → Judged
owner_judged h g since life now = owner_on h g.path since life now g.version
