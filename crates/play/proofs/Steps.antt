-- What so many commands leave, as a loop over them uses it.
use Rattle.std.proofs.Common.{◌≡◌, ℕ, ◌+◌, [], ◌∷◌, ◌++◌, Option, refl, ap, sym, ◌∙◌, arith, length-append}
use Rattle.std.proofs.lemmas.List.Sums.{fold-append}
use Rattle.play.specs.declared.types.Counts.{Counts}
use Rattle.play.specs.declared.types.Shown.{Shown}
use Rattle.play.specs.Dice.{PlayedAs, counted_shown}
use Rattle.play.specs.Tally.{counted, first_broken}

pub played_none : (c : Counts) (b : Option Shown) → PlayedAs 0 c b c b
played_none c b = ([], refl, refl, refl)

pub played_more : (n : ℕ) (c after more : Counts) (b broken later : Option Shown) (s : Shown) → PlayedAs n c b after broken → more ≡ counted s.what after → later ≡ first_broken broken s → PlayedAs (n + 1) c b more later
played_more n c after more b broken later s (shown, len, cs, bs) ec eb = (
  shown ++ s ∷ [],
  omega (arith, length-append shown (s ∷ [])),
  ec ∙ (ap (λ (x : Counts). counted s.what x) cs ∙ sym (fold-append counted_shown c shown (s ∷ []))),
  eb ∙ (ap (λ (x : Option Shown). first_broken x s) bs ∙ sym (fold-append first_broken b shown (s ∷ []))),
)
