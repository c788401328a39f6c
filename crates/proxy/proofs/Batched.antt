-- All the events in some bytes, step by step.
use Rattle.std.proofs.Common.{◌≡◌, ℕ, zero, suc, ◌+◌, ◌<◌, ◌≤◌, Bool, true, false, cond, List, [], ◌∷◌, ◌++◌, length, drop, Some, None, Ok, Err, sym, refl, ap, ◌∙◌, append_assoc, add-zero, add_assoc, arith}
use Rattle.std.proofs.lemmas.List.{length-drop, drop-drop}
use Rattle.frames.specs.Events.{Reading, event_of}
use Rattle.frames.specs.Frames.{Frame, frame_bytes, out_bytes}
use Rattle.frames.proofs.Back.{event_within}
use Rattle.frames.proofs.ByKind.{none_there}
use Rattle.proxy.specs.declared.steps.Halt.{Halt}
use Rattle.proxy.specs.declared.steps.Halt.TheVariants as halt
use Rattle.proxy.specs.Steps.{State, Step, Outcome, halted, exhausted, step_on, step_of}
use Rattle.proxy.specs.Batches.{Batch, ahead, next, take_on, take_all}
use Rattle.proxy.proofs.Stepped.{step_by}

pub out_append : (fs gs : List Frame) → out_bytes (fs ++ gs) ≡ out_bytes fs ++ out_bytes gs
out_append [] gs = refl
out_append (f ∷ fs) gs =
    ap (λ (z : List ℕ). frame_bytes f ++ z) (out_append fs gs) ∙ sym (append_assoc (frame_bytes f) (out_bytes fs) (out_bytes gs))

within_on : (bs : List ℕ) (s : State) (n : ℕ) (r : Reading) → event_of bs ≡ r → (step_on r s).step ≡ Ok n → (0 < n) × (n ≤ length bs)
within_on bs s n (Ok None) e q = cc
within_on bs s n (Err f) e q = cc
within_on bs s n (Ok (Some (v, m))) e q = go (exhausted v s) q
  where
    go : (b : Bool) → ◌≡◌ {A = Step} (cond b (Err halt.ClockExhausted) (Ok m)) (Ok n) → (0 < n) × (n ≤ length bs)
    go true p = cc
    go false p = let w = event_within bs v m e in let same : m ≡ n = cc in (omega arith, omega arith)

pub step_within : (bs : List ℕ) (s : State) (n : ℕ) → (step_of bs s).step ≡ Ok n → (0 < n) × (n ≤ length bs)
step_within bs s n q = within_on bs s n (event_of bs) refl q

shorter : (k : ℕ) (bs : List ℕ) (s : State) (n : ℕ) → (step_of bs s).step ≡ Ok n → length bs ≤ suc k → length (drop n bs) ≤ k
shorter k bs s n q h = let w = step_within bs s n q in rw (length-drop n bs) (omega arith)

none_left : (bs : List ℕ) (s : State) → length bs < 1 → halted halt.More s ≡ step_of bs s
none_left bs s h = step_by bs s (Ok None) (sym (none_there bs h))

abbrev pub next_of : (List ℕ → State → Batch) → List ℕ → Outcome → Batch
next_of on bs o = next on bs o.turn o.step

-- more steps than bytes take no more
pub enough : (k j : ℕ) (bs : List ℕ) (s : State) → length bs ≤ k → length bs ≤ j → take_on k bs s ≡ take_on j bs s
unfolding take_on
enough zero zero bs s h l = refl
enough zero (suc j) bs s h l = ap (next_of (take_on j) bs) (none_left bs s (omega arith))
enough (suc k) zero bs s h l = sym (ap (next_of (take_on k) bs) (none_left bs s (omega arith)))
enough (suc k) (suc j) bs s h l = go (step_of bs s).step refl (λ n t. enough k j (drop n bs) t)
  where
    go : (r : Step) → (step_of bs s).step ≡ r → ((n : ℕ) (t : State) → length (drop n bs) ≤ k → length (drop n bs) ≤ j → take_on k (drop n bs) t ≡ take_on j (drop n bs) t) → next (take_on k) bs (step_of bs s).turn r ≡ next (take_on j) bs (step_of bs s).turn r
    go (Err x) q ih = refl
    go (Ok n) q ih =
        ap (ahead n (step_of bs s).turn.frames) (ih n (step_of bs s).turn.after (shorter k bs s n q h) (shorter j bs s n q l))

pub unrolled : (bs : List ℕ) (s : State) → take_all bs s ≡ next take_all bs (step_of bs s).turn (step_of bs s).step
unfolding take_all take_on
unrolled [] s = ap (next_of take_all []) (none_left [] s (omega arith))
unrolled (b ∷ bs) s = go (step_of (b ∷ bs) s).step refl
  where
    go : (r : Step) → (step_of (b ∷ bs) s).step ≡ r → next (take_on (length bs)) (b ∷ bs) (step_of (b ∷ bs) s).turn r ≡ next take_all (b ∷ bs) (step_of (b ∷ bs) s).turn r
    go (Err x) q = refl
    go (Ok n) q =
        let t : State = (step_of (b ∷ bs) s).turn.after in
        let fits = shorter (length bs) (b ∷ bs) s n q (omega arith) in
        ap (ahead n (step_of (b ∷ bs) s).turn.frames) (enough (length bs) (length (drop n (b ∷ bs))) (drop n (b ∷ bs)) t fits (omega arith))

pub ahead_ahead : (m n : ℕ) (fs gs : List Frame) (b : Batch) → ahead m fs (ahead n gs b) ≡ ahead (m + n) (fs ++ gs) b
ahead_ahead m n fs gs b = rw (append_assoc fs gs b.turn.frames, add_assoc m n b.taken.len)

-- with the bytes behind the first ones, which are a part of them
module _ (bs part : List ℕ) (at : ℕ) (fs : List Frame) (s₀ s t : State) (rest : part ≡ drop at bs) (whole : take_all bs s₀ ≡ ahead at fs (take_all (drop at bs) s)) (after : t ≡ (step_of part s).turn.after) where
  onward : take_all bs s₀ ≡ ahead at fs (next take_all part (step_of part s).turn (step_of part s).step)
  onward = whole ∙ ap (λ (z : List ℕ). ahead at fs (take_all z s)) (sym rest) ∙ ap (ahead at fs) (unrolled part s)

  -- one event more
  pub batch_more : (n : ℕ) → Ok n ≡ (step_of part s).step → take_all bs s₀ ≡ ahead (at + n) (fs ++ (step_of part s).turn.frames) (take_all (drop (at + n) bs) t)
  batch_more n took =
      onward
      ∙ ap (λ (z : Step). ahead at fs (next take_all part (step_of part s).turn z)) (sym took)
      ∙ ahead_ahead at n fs (step_of part s).turn.frames (take_all (drop n part) (step_of part s).turn.after)
      ∙ ap (λ (z : List ℕ). ahead (at + n) (fs ++ (step_of part s).turn.frames) (take_all z (step_of part s).turn.after)) (ap (drop n) rest ∙ drop-drop n at bs)
      ∙ ap (λ (z : State). ahead (at + n) (fs ++ (step_of part s).turn.frames) (take_all (drop (at + n) bs) z)) (sym after)

  -- the end
  pub batch_end : (h : Halt) → Err h ≡ (step_of part s).step → record { turn = record { after = t; frames = fs ++ (step_of part s).turn.frames }; taken = record { len = at; halt = h } } ≡ take_all bs s₀
  batch_end h stopped =
      sym
      (onward
      ∙ ap (λ (z : Step). ahead at fs (next take_all part (step_of part s).turn z)) (sym stopped)
      ∙ (rw (add-zero at, ← after)))

pub batch_start : (bs : List ℕ) (s : State) → take_all bs s ≡ ahead 0 [] (take_all bs s)
batch_start bs s = let z : 0 + (take_all bs s).taken.len ≡ (take_all bs s).taken.len = omega arith in rw z
