-- The example, by computing.
use Rattle.std.proofs.Common.{◌≡◌, ℕ, false, cond, List, [], ◌∷◌, Some, refl, subst}
use Rattle.std.specs.Str.{bytes_eq}
use Rattle.cache.specs.Rules.{begins}
use Rattle.cache.specs.Answers.{Full, NotModified, Done, room_for, full, marked_to, is_pinned, oldest_to}
use Rattle.model.specs.Exchanges as model
use Rattle.model.specs.World as world
use Rattle.refinement.specs.Numbers.{spread, number_of, text_of, is_even}
use Rattle.refinement.specs.Stands.{Honest as HonestTo}
use Rattle.refinement.specs.Runs.{run, Honest, setting_in}
use Rattle.refinement.specs.Example.{terms, words, Exampled}

is_it : (x y : model.Exchange) → model.Busy x ≡ model.Busy y → x ≡ y
is_it x y e = cc

abbrev three : List ℕ
three = 3 ∷ []

abbrev zeroth : List ℕ
zeroth = 0 ∷ []

one_body : (t : List ℕ) → Some zeroth ≡ Some t → three ≡ cond (bytes_eq t zeroth) three (4 ∷ [])
one_body t e = let q : zeroth ≡ t = cc in subst (λ (z : List ℕ). three ≡ cond (bytes_eq z zeroth) three (4 ∷ [])) q refl

pub exampled : Exampled
unfolding run Honest begins room_for world.world spread number_of text_of is_even full marked_to is_pinned oldest_to
exampled = record {
  honest = (
    λ y on suits. subst (λ (z : model.Exchange). HonestTo terms.bodies (setting_in terms) z (NotModified words)) (is_it _ y on) refl,
    (
      λ y on suits. subst (λ (z : model.Exchange). HonestTo terms.bodies (setting_in terms) z (Done (0 ∷ []))) (is_it _ y on) refl,
      (
        tt,
        (
          tt,
          (
            tt,
            (
              tt,
              (
                tt,
                (
                  tt,
                  (
                    tt,
                    (
                      λ y on suits. subst (λ (z : model.Exchange). HonestTo terms.bodies (setting_in terms) z (Full false (Some (0 ∷ [])) (3 ∷ []) words)) (is_it _ y on) (record { answer = refl; varies_alike = refl; one_body = one_body }),
                      (tt, (tt, (tt, tt))),
                    ),
                  ),
                ),
              ),
            ),
          ),
        ),
      ),
    ),
  );
  given = refl;
  stored = refl;
}
