-- What the definitions do, a node did.
use mathlib.Core.Path.{◌≡◌, sym, subst}
use mathlib.Core.List.{[]}
use Prim.Native.Nat.{ℕ}
use Rattle.array_store.specs.Shorts.{is_known, is_fitting}
use Rattle.cache.specs.Rules.{State, Ask, ticked, requested}
use Rattle.cache.specs.Answers.{Reply, received, lost}
use Rattle.refinement.specs.Stands.{setting_of}
use Rattle.refinement.specs.Steps.{StepSo, tick_events, ask_events, ask_gives, answer_events, answer_gives, lose_events, lose_gives}
use Rattle.refinement.proofs.Asking.{tick_so, ask_so}
use Rattle.refinement.proofs.Answering.{answer_so, lose_so}
use Rattle.node.specs.Worlds.{Ticked, Asked, Answered, Lost}

pub ticked_so : (st after : State) → after ≡ ticked st → Ticked st after
ticked_so st after e b s w h = subst (λ (z : State). StepSo b s z w (tick_events st) []) (sym e) (tick_so st b s w h)

pub asked_so : (a : Ask) (st after : State) → after ≡ (requested is_known a st).state → Asked a st after
asked_so a st after e b s w h = subst (λ (z : State). StepSo b s z w (ask_events is_known b s a st) (ask_gives is_known a st)) (sym e) (ask_so is_known a st b s w h)

pub answered_so : (c : ℕ) (r : Reply) (st after : State) → after ≡ (received is_fitting c r st).state → Answered c r st after
answered_so c r st after e b v n w h o = subst (λ (z : State). StepSo b (setting_of v n) z w (answer_events is_fitting c r st) (answer_gives is_fitting b (setting_of v n) c r st)) (sym e) (answer_so is_fitting c r st b v n w h o)

pub lost_so : (c : ℕ) (st after : State) → after ≡ (lost c st).state → Lost c st after
lost_so c st after e b s w h = subst (λ (z : State). StepSo b s z w (lose_events c st) (lose_gives c st)) (sym e) (lose_so c st b s w h)
