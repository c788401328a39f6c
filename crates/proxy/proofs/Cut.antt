-- In whatever pieces bytes come, the same comes of them; and it is what their events bring.
use Rattle.std.proofs.Common.{◌≡◌, ℕ, zero, suc, ◌+◌, ◌≤◌, Bool, true, false, cond, List, [], ◌∷◌, ◌++◌, length, drop, Some, None, Ok, Err, sym, refl, ap, ◌∙◌, append_assoc, append-nil, arith}
use Rattle.std.proofs.lemmas.List.{drop-drop, drop-append-le}
use Rattle.frames.specs.Events.{Reading, event_of}
use Rattle.frames.specs.Frames.{Frame}
use Rattle.frames.specs.Streams as streams
use Rattle.frames.proofs.Back.{event_within}
use Rattle.frames.proofs.Settled.{refused_stays, whole_stays}
use Rattle.frames.proofs.Pieces.{shorter}
use Rattle.proxy.specs.declared.steps.Halt.{Halt}
use Rattle.proxy.specs.declared.steps.Halt.TheVariants as halt
use Rattle.proxy.specs.Steps.{State, still, does, exhausted, step_on}
use Rattle.proxy.specs.Batches.{Batch, ahead, next, take_on, take_all, nothing, by_halt, go_on, pieced, PiecesAlike}
use Rattle.proxy.specs.Runs.{before, play, TakesEvents}
use Rattle.proxy.proofs.Stepped.{step_by}
use Rattle.proxy.proofs.Batched.{next_of, ahead_ahead, batch_start, enough, unrolled}

-- what bytes bring, by what is read of them
by_reading : (bs : List ℕ) (s : State) (r : Reading) → event_of bs ≡ r → take_all bs s ≡ next_of take_all bs (step_on r s)
by_reading bs s r e = unrolled bs s ∙ ap (next_of take_all bs) (sym (step_by bs s r (sym e)))

abbrev Rests : List ℕ → List ℕ → State → Batch
Rests b rest t = take_all (rest ++ b) t

ahead_by : (a b : List ℕ) (n : ℕ) (fs : List Frame) (x : Batch) (h : Halt) → ahead n fs (by_halt (Rests b) (drop n a) x h) ≡ by_halt (Rests b) a (ahead n fs x) h
ahead_by a b n fs x halt.More =
    ahead_ahead n x.taken.len fs x.turn.frames (take_all (drop x.taken.len (drop n a) ++ b) x.turn.after)
    ∙ ap (λ (z : List ℕ). ahead (n + x.taken.len) (fs ++ x.turn.frames) (take_all (z ++ b) x.turn.after)) (drop-drop x.taken.len n a)
ahead_by a b n fs x (halt.Refused f) = refl
ahead_by a b n fs x halt.ClockExhausted = refl

onward : (k : ℕ) (a b : List ℕ) (s : State) → length a ≤ k → take_all (a ++ b) s ≡ go_on (Rests b) a (take_on k a s)
unfolding take_on
onward zero a b s h = batch_start (a ++ b) s
onward (suc k) a b s h = go (event_of a) refl (λ n t. onward k (drop n a) b t)
  where
    go : (r : Reading) → event_of a ≡ r → ((n : ℕ) (t : State) → length (drop n a) ≤ k → take_all (drop n a ++ b) t ≡ go_on (Rests b) (drop n a) (take_on k (drop n a) t)) → take_all (a ++ b) s ≡ go_on (Rests b) a (next_of (take_on k) a (step_on r s))
    go (Ok None) q ih = batch_start (a ++ b) s
    go (Err f) q ih = by_reading (a ++ b) s (Err f) (refused_stays a b f q)
    go (Ok (Some (e, n))) q ih = by_reading (a ++ b) s (Ok (Some (e, n))) (whole_stays a b (e, n) q) ∙ clock (exhausted e s)
      where
        clock : (x : Bool) → next take_all (a ++ b) (cond x (still s) (does e s)) (cond x (Err halt.ClockExhausted) (Ok n)) ≡ go_on (Rests b) a (next (take_on k) a (cond x (still s) (does e s)) (cond x (Err halt.ClockExhausted) (Ok n)))
        clock true = refl
        clock false =
            let w = event_within a e n q in
            ap (λ (z : List ℕ). ahead n (does e s).frames (take_all z (does e s).after)) (drop-append-le n a b w.1)
            ∙ ap (ahead n (does e s).frames) (ih n (does e s).after (shorter k a e n q h))
            ∙ ahead_by a b n (does e s).frames (take_on k (drop n a) (does e s).after) (take_on k (drop n a) (does e s).after).taken.halt

abbrev Waits : List ℕ → Batch → Type 0
Waits a x = x.taken.halt ≡ halt.More → take_all (drop x.taken.len a) x.turn.after ≡ nothing x.turn.after

ahead_waits : (a : List ℕ) (n : ℕ) (fs : List Frame) (x : Batch) → Waits (drop n a) x → Waits a (ahead n fs x)
ahead_waits a n fs x w m = ap (λ (z : List ℕ). take_all z x.turn.after) (sym (drop-drop x.taken.len n a)) ∙ w m

-- what is left of a batch brings nothing before more bytes come
waits : (k : ℕ) (a : List ℕ) (s : State) → length a ≤ k → Waits a (take_on k a s)
unfolding take_on take_all
waits zero a s h = λ m. enough (length a) zero a s (omega arith) h
waits (suc k) a s h = go (event_of a) refl (λ n t. waits k (drop n a) t)
  where
    go : (r : Reading) → event_of a ≡ r → ((n : ℕ) (t : State) → length (drop n a) ≤ k → Waits (drop n a) (take_on k (drop n a) t)) → Waits a (next_of (take_on k) a (step_on r s))
    go (Ok None) q ih = λ m. by_reading a s (Ok None) q
    go (Err f) q ih = λ m. cc
    go (Ok (Some (e, n))) q ih = clock (exhausted e s)
      where
        clock : (x : Bool) → Waits a (next (take_on k) a (cond x (still s) (does e s)) (cond x (Err halt.ClockExhausted) (Ok n)))
        clock true = λ m. cc
        clock false = ahead_waits a n (does e s).frames (take_on k (drop n a) (does e s).after) (ih n (does e s).after (shorter k a e n q h))

all_onward : (a b : List ℕ) (s : State) → take_all (a ++ b) s ≡ go_on (Rests b) a (take_all a s)
unfolding take_all
all_onward a b s = onward (length a) a b s (omega arith)

all_waits : (a : List ℕ) (s : State) → Waits a (take_all a s)
unfolding take_all
all_waits a s = waits (length a) a s (omega arith)

same_by : (on on' : List ℕ → State → Batch) (a : List ℕ) (x : Batch) (h : Halt) → (h ≡ halt.More → on (drop x.taken.len a) x.turn.after ≡ on' (drop x.taken.len a) x.turn.after) → by_halt on a x h ≡ by_halt on' a x h
same_by on on' a x halt.More e = ap (ahead x.taken.len x.turn.frames) (e refl)
same_by on on' a x (halt.Refused f) e = refl
same_by on on' a x halt.ClockExhausted e = refl

pieces_on : (ps : List (List ℕ)) (rest : List ℕ) (s : State) → take_all rest s ≡ nothing s → pieced ps rest s ≡ take_all (rest ++ streams.joined ps) s
pieces_on [] rest s w = sym (ap (λ (z : List ℕ). take_all z s) (append-nil rest) ∙ w)
pieces_on (p ∷ ps) rest s w =
    let a : List ℕ = rest ++ p in
    let x : Batch = take_all a s in
    same_by (pieced ps) (Rests (streams.joined ps)) a x x.taken.halt (λ m. pieces_on ps (drop x.taken.len a) x.turn.after (all_waits a s m))
    ∙ sym (all_onward a (streams.joined ps) s)
    ∙ ap (λ (z : List ℕ). take_all z s) (append_assoc rest p (streams.joined ps))

none_yet : (s : State) → take_all [] s ≡ nothing s
unfolding take_all take_on
none_yet s = refl

pub pieces_alike : PiecesAlike
pieces_alike ps s = pieces_on ps [] s (none_yet s)

takes_on : (k : ℕ) (bs : List ℕ) (s : State) → ((take_on k bs s).taken.halt ≡ halt.ClockExhausted → ⊥) → (take_on k bs s).turn ≡ play (streams.events_on k bs).events s
unfolding take_on streams.events_on
takes_on zero bs s m = refl
takes_on (suc k) bs s m = go (event_of bs) m (λ n t. takes_on k (drop n bs) t)
  where
    go : (r : Reading) → ((next_of (take_on k) bs (step_on r s)).taken.halt ≡ halt.ClockExhausted → ⊥) → ((n : ℕ) (t : State) → ((take_on k (drop n bs) t).taken.halt ≡ halt.ClockExhausted → ⊥) → (take_on k (drop n bs) t).turn ≡ play (streams.events_on k (drop n bs)).events t) → (next_of (take_on k) bs (step_on r s)).turn ≡ play (streams.next (streams.events_on k) bs r).events s
    go (Ok None) m ih = refl
    go (Err f) m ih = refl
    go (Ok (Some (e, n))) m ih = clock (exhausted e s) m
      where
        clock : (x : Bool) → ((next (take_on k) bs (cond x (still s) (does e s)) (cond x (Err halt.ClockExhausted) (Ok n))).taken.halt ≡ halt.ClockExhausted → ⊥) → (next (take_on k) bs (cond x (still s) (does e s)) (cond x (Err halt.ClockExhausted) (Ok n))).turn ≡ play (e ∷ (streams.events_on k (drop n bs)).events) s
        clock true no_more = absurd (no_more refl)
        clock false goes = ap (before (does e s).frames) (ih n (does e s).after goes)

pub takes_events : (bs : List ℕ) (s : State) → TakesEvents bs s
unfolding take_all streams.events_of
takes_events bs s m = takes_on (length bs) bs s m
