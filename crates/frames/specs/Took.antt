-- What it is that a sink took some bytes.
--
--   added        — if all was written, what is held now is what was held, and the bytes behind it
--   grown        — memory that grows: so of its bytes
--   filled       — lent memory: so of the part that is filled
--   .._nothing   — no bytes are taken where nothing changes
--   .._onward    — bytes taken one after the other are taken together
--
-- Assumes nothing.
use Rattle.std.specs.Prelude.{◌≡◌, List, ℕ, [], ◌++◌, take, vec_items, Ok, Result}
use Rattle.std.proofs.Common.{ap, sym, ◌∙◌, append-nil, append_assoc}
use Rattle.frames.specs.declared.memory.Growing.{Growing}
use Rattle.frames.specs.declared.memory.Lent.{Lent}

abbrev pub added : {E : Type 0} → Result (Unit {0}) E → List ℕ → List ℕ → Result (Unit {0}) E → List ℕ → Type 0
added before was p after is = after ≡ Ok tt → (before ≡ Ok tt) × (is ≡ was ++ p)

pub added_nothing : {E : Type 0} → (w : Result (Unit {0}) E) (was : List ℕ) → added w was [] w was
added_nothing w was e = (e, sym (append-nil was))

pub added_onward : {E : Type 0} → (v w x : Result (Unit {0}) E) (was mid is a b : List ℕ) → added v was a w mid → added w mid b x is → added v was (a ++ b) x is
added_onward v w x was mid is a b f g e =
    let y = g e in
    let z = f y.0 in
    (z.0, y.1 ∙ (ap (λ (l : List ℕ). l ++ b) z.1 ∙ append_assoc was a b))

abbrev pub grown : Growing → List ℕ → Growing → Type 0
grown s p t = added s.written (vec_items s.bytes) p t.written (vec_items t.bytes)

pub grown_nothing : (s : Growing) → grown s [] s
grown_nothing s = added_nothing s.written (vec_items s.bytes)

pub grown_onward : (s t u : Growing) (a b : List ℕ) → grown s a t → grown t b u → grown s (a ++ b) u
grown_onward s t u a b = added_onward s.written t.written u.written (vec_items s.bytes) (vec_items t.bytes) (vec_items u.bytes) a b

-- what lent memory holds
abbrev pub held : Lent → List ℕ
held s = take s.len s.memory.now

abbrev pub filled : Lent → List ℕ → Lent → Type 0
filled s p t = added s.written (held s) p t.written (held t)

pub filled_nothing : (s : Lent) → filled s [] s
filled_nothing s = added_nothing s.written (held s)

pub filled_onward : (s t u : Lent) (a b : List ℕ) → filled s a t → filled t b u → filled s (a ++ b) u
filled_onward s t u a b = added_onward s.written t.written u.written (held s) (held t) (held u) a b
