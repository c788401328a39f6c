-- The place for a new answer is one of the store's.
use Rattle.std.proofs.Common.{◌≡◌, ℕ, zero, suc, ◌+◌, ◌<◌, ◌≤◌, Bool, true, false, cond, ◌&&◌, ltb, List, length, get_or, Some, None, Option, sym, refl, ap, ◌∙◌, arith}
use Rattle.std.specs.List.{position, fold, range_with_len}
use Rattle.store.specs.Slots.{Empty, holds, is_for, is_empty}
use Rattle.store.proofs.Firsts.{found_passes}
use Rattle.cache.specs.declared.types.Exchange.{Exchange}
use Rattle.cache.specs.declared.types.Words.{Words}
use Rattle.cache.specs.Rules.{State}
use Rattle.cache.specs.Answers.{key_at, may_go, is_spent, last_use, older, oldest_to, or_else, room_for, stored, withdrawn, agreed, full}
use Rattle.cache.proofs.Names.{Fits}

older_within : (s : State) (b : Option ℕ) (n k i : ℕ) → k < n → ((j : ℕ) → b ≡ Some j → j < n) → older s b k ≡ Some i → i < n
older_within s None n k i l old h = go (may_go s (get_or s.slots k Empty)) h
  where
    go : (b : Bool) → cond b (Some k) None ≡ Some i → i < n
    go true q = let r : k ≡ i = cc in omega arith
    go false q = absurd (let z : ◌≡◌ {A = ℕ} 0 1 = cc in omega arith)
older_within s (Some j) n k i l old h = go (may_go s (get_or s.slots k Empty) && ltb (last_use (get_or s.slots k Empty)) (last_use (get_or s.slots j Empty))) h
  where
    go : (b : Bool) → cond b (Some k) (Some j) ≡ Some i → i < n
    go true q = let r : k ≡ i = cc in omega arith
    go false q = let r : j ≡ i = cc in let m = old j refl in omega arith

fold_within : (s : State) (n a m : ℕ) (b : Option ℕ) (i : ℕ) → a + m ≤ n → ((j : ℕ) → b ≡ Some j → j < n) → fold (older s) b (range_with_len a m) ≡ Some i → i < n
fold_within s n a zero b i l old h = old i h
fold_within s n a (suc m) b i l old h = fold_within s n (a + 1) m (older s b a) i (omega arith) (λ j q. older_within s b n a j (omega arith) old q) h

oldest_within : (n : ℕ) (s : State) (i : ℕ) → oldest_to n s ≡ Some i → i < n
unfolding oldest_to
oldest_within n s i h = fold_within s n 0 n None i (omega arith) (λ j q. absurd (let z : ◌≡◌ {A = ℕ} 0 1 = cc in omega arith)) h

either : (a b : Option ℕ) (n : ℕ) → ((i : ℕ) → a ≡ Some i → i < n) → ((i : ℕ) → b ≡ Some i → i < n) → (i : ℕ) → or_else a b ≡ Some i → i < n
either None b n f g i h = g i h
either (Some j) b n f g i h = f i h

pub room_within : (c : ℕ) (s : State) (i : ℕ) → room_for c s ≡ Some i → i < length s.slots
unfolding room_for
room_within c s i h =
    either (position (holds (is_for (key_at c s).path (key_at c s).language)) s.slots) _ (length s.slots) (λ j q. (found_passes (holds (is_for (key_at c s).path (key_at c s).language)) s.slots Empty j q).0)
    (either (position is_empty s.slots) _ (length s.slots) (λ j q. (found_passes is_empty s.slots Empty j q).0) (either (position (is_spent s) s.slots) _ (length s.slots) (λ j q. (found_passes (is_spent s) s.slots Empty j q).0) (λ j. oldest_within (length s.slots) s j))) i h

-- the two ways of a full answer
pub full_private : (fits : Fits) (c : ℕ) (x : Exchange) (varies : Bool) (tag : Option (List ℕ)) (body : List ℕ) (w : Words) (s m : State) → w.private ≡ true → m ≡ agreed c varies s → withdrawn c tag m ≡ full fits c x varies tag body w s
unfolding full
full_private fits c x varies tag body w s m p e = ap (withdrawn c tag) e ∙ sym (ap (λ b. cond b (withdrawn c tag (agreed c varies s)) (stored fits c x varies tag body w (agreed c varies s))) p)

pub full_stored : (fits : Fits) (c : ℕ) (x : Exchange) (varies : Bool) (tag : Option (List ℕ)) (body : List ℕ) (w : Words) (s m : State) → w.private ≡ false → m ≡ agreed c varies s → stored fits c x varies tag body w m ≡ full fits c x varies tag body w s
unfolding full
full_stored fits c x varies tag body w s m p e = ap (stored fits c x varies tag body w) e ∙ sym (ap (λ b. cond b (withdrawn c tag (agreed c varies s)) (stored fits c x varies tag body w (agreed c varies s))) p)
