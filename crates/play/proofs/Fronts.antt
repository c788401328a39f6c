-- What is found among the first of a list is found there in all of it.
use Rattle.std.proofs.Common.{◌≡◌, ℕ, zero, suc, ◌<◌, ◌≤◌, Bool, true, false, cond, lt-ltb, List, [], ◌∷◌, take, length, Some, None, sym, refl, ap, ◌∙◌, arith}
use Rattle.std.specs.List.{position_or_len, position}
use Rattle.store.proofs.Firsts.{first_here, first_later, found_at}

-- a first part is no longer than all of it
shorter : {X : Type 0} (n : ℕ) (xs : List X) → length (take n xs) ≤ length xs
shorter zero xs = omega arith
shorter (suc n) [] = omega arith
shorter (suc n) (x ∷ xs) = let h = shorter n xs in omega arith

front_place : {X : Type 0} (p : X → Bool) (n : ℕ) (xs : List X) → position_or_len p (take n xs) < length (take n xs) → position_or_len p xs ≡ position_or_len p (take n xs)
front_place p zero xs h = absurd (omega arith)
front_place p (suc n) [] h = absurd (omega arith)
front_place p (suc n) (x ∷ xs) h = go (p x) refl (front_place p n xs)
  where
    go : (b : Bool) → p x ≡ b → (position_or_len p (take n xs) < length (take n xs) → position_or_len p xs ≡ position_or_len p (take n xs)) → position_or_len p (x ∷ xs) ≡ position_or_len p (x ∷ take n xs)
    go true e ih = first_here p x xs e ∙ sym (first_here p x (take n xs) e)
    go false e ih = let a = first_later p x xs e in let b = first_later p x (take n xs) e in let c = ih (omega arith) in omega arith

pub front_found : {X : Type 0} (p : X → Bool) (n : ℕ) (xs : List X) (i : ℕ) → position p (take n xs) ≡ Some i → position p xs ≡ Some i
front_found p n xs i h =
    let f = found_at p (take n xs) i h in
    let e = front_place p n xs (omega arith) in
    let s = shorter n xs in
    let t : position_or_len p xs ≡ i = omega arith in
    let l = lt-ltb (position_or_len p xs) (length xs) (omega arith) in
    ap (λ b. cond b (Some (position_or_len p xs)) None) l ∙ ap Some t
