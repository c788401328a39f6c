-- Names for the types of what a store has room for, as the lemmas use them.
use Rattle.std.proofs.Common.{ℕ, Bool, List, Option}

-- which keys it can remember
abbrev pub Knows : Type 0
Knows = List ℕ → List ℕ → Option (List ℕ) → Bool

-- which validators and bodies it has room for
abbrev pub Fits : Type 0
Fits = Option (List ℕ) → List ℕ → Bool
