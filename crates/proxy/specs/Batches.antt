-- What the proxy does at all the events in some bytes.
--
--   Batch        — the state after them, the frames that they bring, how many bytes were taken, and why no more
--   ahead        — a batch behind events that were taken before it
--   next         — the events behind one that was taken, or the end
--   take_on      — at most so many events
--   take_all     — all of them: an event takes a byte at least, so their number is at most the bytes' own
--   nothing      — a batch with no event
--   go_on        — what the rest brings, behind a batch that ended for want of bytes
--   pieced       — pieces one after the other, each behind what was left of those before it; after a refusal,
--                  and once the clock is exhausted, nothing is read any more
--   PiecesAlike  — in whatever pieces bytes come, the same comes of them
--
-- Assumes nothing.
use Rattle.std.specs.Prelude.{◌≡◌, ℕ, zero, suc, ◌+◌, List, [], ◌∷◌, ◌++◌, length, drop, Ok, Err}
use Rattle.frames.specs.Frames.{Frame}
use Rattle.frames.specs.Streams.{joined}
use Rattle.proxy.specs.declared.steps.Halt.{Halt}
use Rattle.proxy.specs.declared.steps.Halt.TheVariants as halt
use Rattle.proxy.specs.declared.steps.Taken.{Taken}
use Rattle.proxy.specs.Steps.{State, Step, Turn, still, step_of}

pub record Batch : Type 0 where
  pub turn : Turn
  pub taken : Taken

abbrev pub ahead : ℕ → List Frame → Batch → Batch
ahead n fs b =
    record {
      turn = record { after = b.turn.after; frames = fs ++ b.turn.frames };
      taken = record { len = n + b.taken.len; halt = b.taken.halt };
    }

abbrev pub next : (List ℕ → State → Batch) → List ℕ → Turn → Step → Batch
next on bs t (Ok n) = ahead n t.frames (on (drop n bs) t.after)
next on bs t (Err h) = record { turn = t; taken = record { len = 0; halt = h } }

unfoldable pub take_on : ℕ → List ℕ → State → Batch
take_on zero bs s = record { turn = still s; taken = record { len = 0; halt = halt.More } }
take_on (suc k) bs s = next (take_on k) bs (step_of bs s).turn (step_of bs s).step

unfoldable pub take_all : List ℕ → State → Batch
take_all bs s = take_on (length bs) bs s

abbrev pub nothing : State → Batch
nothing s = record { turn = still s; taken = record { len = 0; halt = halt.More } }

-- with `on` for what the rest brings
abbrev pub by_halt : (List ℕ → State → Batch) → List ℕ → Batch → Halt → Batch
by_halt on bs b halt.More = ahead b.taken.len b.turn.frames (on (drop b.taken.len bs) b.turn.after)
by_halt on bs b (halt.Refused f) = b
by_halt on bs b halt.ClockExhausted = b

abbrev pub go_on : (List ℕ → State → Batch) → List ℕ → Batch → Batch
go_on on bs b = by_halt on bs b b.taken.halt

abbrev pub pieced : List (List ℕ) → List ℕ → State → Batch
pieced [] rest s = nothing s
pieced (p ∷ ps) rest s = go_on (pieced ps) (rest ++ p) (take_all (rest ++ p) s)

abbrev pub PiecesAlike : Type 0
PiecesAlike = (pieces : List (List ℕ)) (s : State) → pieced pieces [] s ≡ take_all (joined pieces) s
