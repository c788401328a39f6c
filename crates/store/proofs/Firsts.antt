-- Laws of the first element that passes a test.
use Rattle.std.proofs.Common.{◌≡◌, ℕ, suc, ◌+◌, ◌<◌, ◌≤◌, Bool, true, false, cond, not, ◌||◌, ltb, ltb-true, ltb-false, le-ltb, lt-ltb, List, [], ◌∷◌, map, length, get_or, Some, None, Option, sym, refl, ap, ◌∙◌, arith}
use Rattle.std.specs.List.{position_or_len, position, list_any}
use Rattle.std.proofs.lemmas.List.Quantifiers.{position-Some}
use Rattle.std.proofs.lemmas.List.Sums.{position_or_len_is}
use Rattle.std.specs.Prelude.{MatchOption}

pub first_here : {X : Type 0} (p : X → Bool) (x : X) (xs : List X) → p x ≡ true → position_or_len p (x ∷ xs) ≡ 0
first_here p x xs e = rw e refl

pub first_later : {X : Type 0} (p : X → Bool) (x : X) (xs : List X) → p x ≡ false → position_or_len p (x ∷ xs) ≡ suc (position_or_len p xs)
first_later p x xs e = rw e (omega arith)

-- what is found is there, and passes
pub found_passes : {X : Type 0} (p : X → Bool) (xs : List X) (d : X) (i : ℕ) → position p xs ≡ Some i → (i < length xs) × (p (get_or xs i d) ≡ true)
found_passes p xs d i h = let f = position-Some p xs i d h in (f.0, f.1)

-- where it is found, and where none is
pub found_at : {X : Type 0} (p : X → Bool) (xs : List X) (i : ℕ) → position p xs ≡ Some i → (i ≡ position_or_len p xs) × (i < length xs)
found_at p xs i h = go (ltb (position_or_len p xs) (length xs)) refl h
  where
    go : (b : Bool) → ltb (position_or_len p xs) (length xs) ≡ b → cond b (Some (position_or_len p xs)) None ≡ Some i → (i ≡ position_or_len p xs) × (i < length xs)
    go true e q = let l = ltb-true (position_or_len p xs) (length xs) e in let r : position_or_len p xs ≡ i = cc in (omega arith, omega arith)
    go false e q = absurd (let z : ◌≡◌ {A = ℕ} 0 1 = cc in omega arith)

pub found_past : {X : Type 0} (p : X → Bool) (xs : List X) → position p xs ≡ None → length xs ≤ position_or_len p xs
found_past p xs h = go (ltb (position_or_len p xs) (length xs)) refl h
  where
    go : (b : Bool) → ltb (position_or_len p xs) (length xs) ≡ b → cond b (Some (position_or_len p xs)) None ≡ None → length xs ≤ position_or_len p xs
    go true e q = absurd (let z : ◌≡◌ {A = ℕ} 0 1 = cc in omega arith)
    go false e q = ltb-false (position_or_len p xs) (length xs) e

-- what a search through the numbers of the places finds
pub found_is : {X : Type 0} (p : X → Bool) (xs : List X) (d : X) (n : ℕ) (r : Option ℕ) → n ≡ length xs → MatchOption r ((k : ℕ) → 0 ≤ k → k < n → p (get_or xs k d) ≡ false) (λ i. (0 ≤ i) × (i < n) × (p (get_or xs i d) ≡ true) × ((k : ℕ) → 0 ≤ k → k < i → p (get_or xs k d) ≡ false)) → r ≡ position p xs
found_is p xs d n None q f = let e = position_or_len_is p xs (length xs) d (omega arith) (λ k l. f k (omega arith) (omega arith)) (λ l. absurd (omega arith)) in sym (ap (λ b. cond b (Some (position_or_len p xs)) None) (le-ltb (position_or_len p xs) (length xs) (omega arith)))
found_is p xs d n (Some i) q f = let e = position_or_len_is p xs i d (omega arith) (λ k l. f.3 k (omega arith) l) (λ l. f.2) in let h = lt-ltb (position_or_len p xs) (length xs) (omega arith) in ap Some (sym e) ∙ sym (ap (λ b. cond b (Some (position_or_len p xs)) None) h)

-- and where none is found, none passes
none_passes : {X : Type 0} (p : X → Bool) (xs : List X) → (length xs ≤ position_or_len p xs) → list_any p xs ≡ false
none_passes p [] h = refl
none_passes p (x ∷ xs) h = go (p x) refl (none_passes p xs)
  where
    go : (a : Bool) → p x ≡ a → (length xs ≤ position_or_len p xs → list_any p xs ≡ false) → (p x || list_any p xs) ≡ false
    go true e ih = absurd (let z = first_here p x xs e in omega arith)
    go false e ih = let z = first_later p x xs e in rw e (ih (omega arith))

pub found_any : {X : Type 0} (p : X → Bool) (xs : List X) → position p xs ≡ None → list_any p xs ≡ false
found_any p xs h = go (ltb (position_or_len p xs) (length xs)) refl h
  where
    go : (b : Bool) → ltb (position_or_len p xs) (length xs) ≡ b → cond b (Some (position_or_len p xs)) None ≡ None → list_any p xs ≡ false
    go true e q = absurd (let z : ◌≡◌ {A = ℕ} 0 1 = cc in omega arith)
    go false e q = none_passes p xs (ltb-false (position_or_len p xs) (length xs) e)

-- of elements that stand for others
pub first_map : {X Y : Type 0} (p : Y → Bool) (view : X → Y) (xs : List X) → position_or_len p (map view xs) ≡ position_or_len (λ x. p (view x)) xs
first_map p view [] = refl
first_map p view (x ∷ xs) = ap (λ n. cond (not (p (view x))) (1 + n) 0) (first_map p view xs)

pub any_map : {X Y : Type 0} (p : Y → Bool) (view : X → Y) (xs : List X) → list_any p (map view xs) ≡ list_any (λ x. p (view x)) xs
any_map p view [] = refl
any_map p view (x ∷ xs) = ap (λ b. p (view x) || b) (any_map p view xs)
