-- One event more, and the end.
use Rattle.std.proofs.Common.{◌≡◌, ℕ, ◌+◌, ◌-◌, ◌≤◌, List, ◌++◌, length, take, drop, sym, ap, ◌∙◌, subst, arith, length-drop}
use Rattle.std.proofs.lemmas.List.{take_rest}
use Rattle.frames.specs.Frames.{Frame, out_bytes}
use Rattle.proxy.specs.Batches.{Batch}
use Rattle.proxy.specs.Steps.{HaltWithin, step_of}
use Rattle.proxy.proofs.Batched.{out_append, batch_more, batch_end}
use Rattle.proxy.proofs.Cut.{takes_events}
use Rattle.proxy.proofs.state.Proxy.take_all.Goals as goal

room : (bs part : List ℕ) (at n : ℕ) → part ≡ drop at bs → at ≤ length bs → n ≤ length part → at + n ≤ length bs
room bs part at n rest h fits = let l = ap length rest in omega (arith, l, length-drop at bs)

left : (bs part : List ℕ) (at : ℕ) → part ≡ drop at bs → length part ≡ length bs - at
left bs part at rest = ap length rest ∙ length-drop at bs

pub loop-len-preserved : goal.loop-len-preserved
loop-len-preserved g c =
    let bs : List ℕ = c.args.bytes.now in
    let at : ℕ = c.loop-len.at in
    let part : List ℕ = take (length bs - at) (drop at bs) in
    let rest = take_rest bs at in
    let fs : List Frame = c.loop-len.invariant.1.0 in
    let gs : List Frame = (step_of part c.loop-len.self).turn.frames in (
      room bs part at c.in-Ok.len rest c.loop-len.invariant.0 c.in-Ok.ensures.within.1,
      (
        fs ++ gs,
        subst (λ (z : List ℕ). g.S.Sink.took c.args.out.now z c.step.new.out) (sym (out_append fs gs)) (g.S.Sink.onward _ _ _ _ _ c.loop-len.invariant.1.1 c.step.ensures.wrote),
        batch_more bs part at fs c.args.self.now c.loop-len.self c.step.new.self rest c.loop-len.invariant.1.2 c.step.ensures.state c.in-Ok.len c.in-Ok.ensures.value,
      ),
    )

pub returns-in-Err : goal.returns-in-Err
returns-in-Err g c =
    let bs : List ℕ = c.args.bytes.now in
    let at : ℕ = c.loop-len.at in
    let part : List ℕ = take (length bs - at) (drop at bs) in
    let fs : List Frame = c.loop-len.invariant.1.0 in
    let gs : List Frame = (step_of part c.loop-len.self).turn.frames in
    let e = batch_end bs part at fs c.args.self.now c.loop-len.self c.step.new.self (take_rest bs at) c.loop-len.invariant.1.2 c.step.ensures.state c.in-Err.halt c.in-Err.ensures.value in
    record {
      state = ap (λ (b : Batch). b.turn.after) e;
      wrote =
          subst (λ (b : Batch). g.S.Sink.took c.args.out.now (out_bytes b.turn.frames) c.step.new.out) e
          (subst (λ (z : List ℕ). g.S.Sink.took c.args.out.now z c.step.new.out) (sym (out_append fs gs)) (g.S.Sink.onward _ _ _ _ _ c.loop-len.invariant.1.1 c.step.ensures.wrote));
      value = ap (λ (b : Batch). b.taken) e;
      within = c.loop-len.invariant.0;
      events = takes_events bs c.args.self.now;
      rest = subst (HaltWithin c.in-Err.halt) (left bs part at (take_rest bs at)) c.in-Err.ensures.within;
    }
