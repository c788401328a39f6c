-- A name for the body that an origin gives a validator, by resource and language, as the lemmas use it.
use Rattle.std.proofs.Common.{ℕ, List}

abbrev pub Bodies : Type 0
Bodies = ℕ → ℕ → List ℕ → List ℕ
