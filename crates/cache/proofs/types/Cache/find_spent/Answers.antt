-- By the laws of the first that passes.
use Rattle.std.proofs.Common.{◌≡◌, ℕ, Bool, true, false, rules}
use Rattle.std.proofs.lemmas.Iterator.{first_from_Range}
use Rattle.store.specs.Slots.{Empty, slot_at}
use Rattle.cache.specs.Rules.{state_of}
use Rattle.cache.specs.Answers.{is_spent}
use Rattle.store.proofs.Firsts.{found_is}
use Rattle.cache.proofs.types.Cache.find_spent.Goals as goal

pub returns : goal.returns
returns g c =
    let spent : ℕ → Bool = λ i. is_spent (state_of g.S.Store.view c.args.self.now) (slot_at i (g.S.Store.view c.args.self.now.store)) in
    found_is (is_spent (state_of g.S.Store.view c.args.self.now)) (g.S.Store.view c.args.self.now.store).slots Empty _ _ c.places.ensures
    (first_from_Range _ _ _ _ (λ i. spent i ≡ true) (λ i. spent i ≡ false) c.find.ensures.ran (λ x q k. search rules) (λ x q k. search rules))
