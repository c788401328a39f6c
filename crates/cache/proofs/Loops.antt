-- The definitions that count to a number, one step further: what a loop does in a turn.
use Rattle.std.proofs.Common.{◌≡◌, ℕ, ◌+◌, List, Option, refl, ap, ◌∙◌, add-one}
use Rattle.store.specs.Slots.{Key}
use Rattle.cache.specs.declared.types.Exchange.{Exchange}
use Rattle.cache.specs.Answers.{marked_at, marked_to}

pub marked_none : (path : List ℕ) (keys : List Key) (links : List (Option Exchange)) → links ≡ marked_to 0 path keys links
unfolding marked_to
marked_none path keys links = refl

pub marked_more : (n : ℕ) (path : List ℕ) (keys : List Key) (links now next : List (Option Exchange)) → now ≡ marked_to n path keys links → next ≡ marked_at n path keys now → next ≡ marked_to (n + 1) path keys links
unfolding marked_to
marked_more n path keys links now next p q = rw add-one (q ∙ ap (λ (z : List (Option Exchange)). marked_at n path keys z) p)
