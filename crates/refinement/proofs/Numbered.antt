-- No two byte strings have one number, and no two texts.
use Rattle.std.proofs.Common.{◌≡◌, ℕ, zero, suc, ◌+◌, ◌*◌, ◌<◌, Bool, true, false, eqb, List, [], ◌∷◌, Some, None, Option, sym, refl, ap, ◌∙◌, arith, rules}
use Rattle.std.proofs.lemmas.Bool.{eq-eqb, ne_eqb}
use Rattle.std.proofs.lemmas.Slice.Eq.{bytes_eq-Decides}
use Rattle.std.specs.Str.{bytes_eq}
use Rattle.store.specs.Slots.{tag_is}
use Rattle.promise.proofs.Lists.{bad}
use Rattle.refinement.specs.Numbers.{spread, number_of, text_of, is_even}

spread_some : (b n : ℕ) → 0 < spread b n
unfolding spread
spread_some zero n = omega arith
spread_some (suc b) n = let h = spread_some b n in omega arith

spread_same : (a b n m : ℕ) → spread a n ≡ spread b m → (a ≡ b) × (n ≡ m)
unfolding spread
spread_same zero zero n m e = (refl, omega arith)
spread_same zero (suc b) n m e = absurd (omega arith)
spread_same (suc a) zero n m e = absurd (omega arith)
spread_same (suc a) (suc b) n m e = let h = spread_same a b n m (omega arith) in (ap suc h.0, h.1)

pub number_same : (xs ys : List ℕ) → number_of xs ≡ number_of ys → xs ≡ ys
unfolding number_of
number_same [] [] e = refl
number_same [] (y ∷ ys) e = absurd (omega (arith, spread_some y (number_of ys)))
number_same (x ∷ xs) [] e = absurd (omega (arith, spread_some x (number_of xs)))
number_same (x ∷ xs) (y ∷ ys) e = let h = spread_same x y (number_of xs) (number_of ys) e in let t = number_same xs ys h.1 in let q = h.0 in cc

pub bytes_same : (xs ys : List ℕ) → bytes_eq xs ys ≡ true → xs ≡ ys
bytes_same xs ys h = search (rules, bytes_eq-Decides)

-- comparing bytes is comparing numbers
pub bytes_number : (xs ys : List ℕ) → bytes_eq xs ys ≡ eqb (number_of xs) (number_of ys)
bytes_number xs ys = go (bytes_eq xs ys) refl
  where
    go : (b : Bool) → bytes_eq xs ys ≡ b → b ≡ eqb (number_of xs) (number_of ys)
    go true h = sym (eq-eqb _ _ (ap number_of (bytes_same xs ys h)))
    go false h = sym (ne_eqb _ _ (λ e. differ (number_same xs ys e)))
      where
        differ : xs ≡ ys → ⊥
        differ e = let t : bytes_eq xs ys ≡ true = search (rules, bytes_eq-Decides) in bad (cc)

text_tag : (t u x y : List ℕ) → text_of (Some t) x ≡ text_of (Some u) y → (t ≡ u) × (x ≡ y)
unfolding text_of
text_tag t u x y e = let h = spread_same (suc (number_of t)) (suc (number_of u)) (number_of x) (number_of y) e in (number_same t u (omega (arith, h.0)), number_same x y h.1)

text_none : (u x y : List ℕ) → text_of None x ≡ text_of (Some u) y → ⊥
unfolding text_of
text_none u x y e = let h = spread_same 0 (suc (number_of u)) (number_of x) (number_of y) e in omega (arith, h.0)

-- comparing validators is comparing texts, where a validator has one body
pub tag_number : (u : Option (List ℕ)) (t x y : List ℕ) → (u ≡ Some t → x ≡ y) → tag_is u t ≡ eqb (text_of u x) (text_of (Some t) y)
tag_number None t x y h = sym (ne_eqb _ _ (text_none t x y))
tag_number (Some u) t x y h = go (bytes_eq u t) refl
  where
    go : (b : Bool) → bytes_eq u t ≡ b → b ≡ eqb (text_of (Some u) x) (text_of (Some t) y)
    go true e = let q = bytes_same u t e in let r = h (ap Some q) in sym (eq-eqb _ _ (cc))
    go false e = sym (ne_eqb _ _ (λ f. differ (text_tag u t x y f).0))
      where
        differ : u ≡ t → ⊥
        differ q = let z : bytes_eq u t ≡ true = search (rules, bytes_eq-Decides) in bad (cc)

even_twice : (n : ℕ) → is_even (2 * n) ≡ true
unfolding is_even
even_twice zero = refl
even_twice (suc n) = let e : 2 * suc n ≡ suc (suc (2 * n)) = omega arith in ap is_even e ∙ even_twice n

odd_twice : (n : ℕ) → is_even (2 * n + 1) ≡ false
unfolding is_even
odd_twice zero = refl
odd_twice (suc n) = let e : 2 * suc n + 1 ≡ suc (suc (2 * n + 1)) = omega arith in ap is_even e ∙ odd_twice n

pub even_tagged : (t x : List ℕ) → is_even (text_of (Some t) x) ≡ true
unfolding text_of spread
even_tagged t x = even_twice (spread (number_of t) (number_of x))

pub odd_untagged : (x : List ℕ) → is_even (text_of None x) ≡ false
unfolding text_of spread
odd_untagged x = odd_twice (number_of x)
