-- What is done to the slots of a store is done to the slots of the model.
use Rattle.std.proofs.Common.{◌≡◌, ℕ, zero, suc, ◌+◌, Bool, true, false, cond, not, ◌&&◌, ◌||◌, eqb, ltb, leb, List, [], ◌∷◌, map, get_or, set, Some, sym, refl, ap, ◌∙◌, arith}
use Rattle.std.proofs.lemmas.Bool.Decides.{nat_tests}
use Rattle.std.specs.Str.{bytes_eq}
use Rattle.store.specs.Slots.{Response, Slot, Empty, Filled, Key, is_for, of_path, is_tagged, tag_is, without}
use Rattle.cache.specs.Rules.{may_serve}
use Rattle.model.specs.Exchanges as model
use lib.ListN.{get_or-map}
use Rattle.std.proofs.lemmas.List.{map-set, set-get_or}
use Rattle.model.specs.World as world
use Rattle.refinement.specs.Numbers.{number_of, text_of}
use Rattle.refinement.specs.Stands.{key_language, language_in, stored_of, slot_of, Good, AllGood}
use Rattle.refinement.proofs.Numbered.{bytes_number, bytes_same, tag_number}
use Rattle.refinement.proofs.Names.{Bodies}

pub get_slot : (ks : List Slot) (i : ℕ) → get_or (map slot_of ks) i model.Empty ≡ slot_of (get_or ks i Empty)
get_slot ks i = get_or-map slot_of ks i Empty

pub set_slot : (ks : List Slot) (i : ℕ) (k : Slot) → map slot_of (set ks i k) ≡ set (map slot_of ks) i (slot_of k)
set_slot ks i k = map-set slot_of ks i k

-- a place that is written with what it has
pub set_same : (ks : List model.Slot) (i : ℕ) → set ks i (get_or ks i model.Empty) ≡ ks
set_same ks i = set-get_or ks i model.Empty

-- emptied by a test, which says the same of a response and of what it stands for
pub map-without : (b : Bodies) (s : world.Setting) (test : Response → Bool) (test' : model.Stored → Bool) → ((r : Response) → Good b s r → test' (stored_of r) ≡ test r) → (ks : List Slot) → AllGood b s ks → map slot_of (map (without test) ks) ≡ map (world.without test') (map slot_of ks)
unfolding AllGood
map-without b s test test' same [] g = refl
map-without b s test test' same (Empty ∷ ks) g = ap (λ (z : List model.Slot). model.Empty ∷ z) (map-without b s test test' same ks g)
map-without b s test test' same (Filled r ∷ ks) g = both (map-without b s test test' same ks g.1) (here (test r) (test' (stored_of r)) (same r g.0))
  where
    here : (x y : Bool) → y ≡ x → slot_of (cond x Empty (Filled r)) ≡ cond y model.Empty (model.Filled (stored_of r))
    here true true e = refl
    here false false e = refl
    here true false e = absurd (let z : ◌≡◌ {A = ℕ} 0 1 = cc in omega arith)
    here false true e = absurd (let z : ◌≡◌ {A = ℕ} 0 1 = cc in omega arith)

    both : map slot_of (map (without test) ks) ≡ map (world.without test') (map slot_of ks) → slot_of (without test (Filled r)) ≡ world.without test' (slot_of (Filled r)) → map slot_of (map (without test) (Filled r ∷ ks)) ≡ map (world.without test') (map slot_of (Filled r ∷ ks))
    both p q = cc

pub good_without : (b : Bodies) (s : world.Setting) (test : Response → Bool) (ks : List Slot) → AllGood b s ks → AllGood b s (map (without test) ks)
unfolding AllGood
good_without b s test [] g = g
good_without b s test (Empty ∷ ks) g = good_without b s test ks g
good_without b s test (Filled r ∷ ks) g = go (test r) (good_without b s test ks g.1)
  where
    go : (x : Bool) → AllGood b s (map (without test) ks) → AllGood b s (cond x Empty (Filled r) ∷ map (without test) ks)
    go true h = h
    go false h = (g.0, h)

pub good_at : (b : Bodies) (s : world.Setting) (ks : List Slot) (i : ℕ) (r : Response) → AllGood b s ks → get_or ks i Empty ≡ Filled r → Good b s r
unfolding AllGood
good_at b s [] i r g e = absurd (let z : ◌≡◌ {A = ℕ} 0 1 = cc in omega arith)
good_at b s (Empty ∷ ks) zero r g e = absurd (let z : ◌≡◌ {A = ℕ} 0 1 = cc in omega arith)
good_at b s (Empty ∷ ks) (suc i) r g e = good_at b s ks i r g e
good_at b s (Filled q ∷ ks) zero r g e = let h : q ≡ r = cc in rw (sym h) g.0
good_at b s (Filled q ∷ ks) (suc i) r g e = good_at b s ks i r g.1 e

pub good-set : (b : Bodies) (s : world.Setting) (ks : List Slot) (i : ℕ) (r : Response) → AllGood b s ks → Good b s r → AllGood b s (set ks i (Filled r))
unfolding AllGood
good-set b s [] i r g h = g
good-set b s (Empty ∷ ks) zero r g h = (h, g)
good-set b s (Filled q ∷ ks) zero r g h = (h, g.1)
good-set b s (Empty ∷ ks) (suc i) r g h = good-set b s ks i r g h
good-set b s (Filled q ∷ ks) (suc i) r g h = (g.0, good-set b s ks i r g.1 h)

-- the tests
pub of_path_lem : (b : Bodies) (s : world.Setting) (path : List ℕ) (r : Response) → Good b s r → world.of_resource (number_of path) (stored_of r) ≡ of_path path r
of_path_lem b s path r g = sym (bytes_number r.path path)

for_language : (v v' : Bool) (same : Bool) (l m : ℕ) (t : Bool) → (same ≡ true → v ≡ v') → t ≡ eqb l m → (same && eqb (cond v l 0) (cond v' m 0)) ≡ (same && (not v || t))
for_language v v' false l m t h e = refl
for_language true true true l m t h e = sym e
for_language false false true l m t h e = refl
for_language true false true l m t h e = absurd (let q = h refl in let z : ◌≡◌ {A = ℕ} 0 1 = cc in omega arith)
for_language false true true l m t h e = absurd (let q = h refl in let z : ◌≡◌ {A = ℕ} 0 1 = cc in omega arith)

pub is_for_lem : (b : Bodies) (s : world.Setting) (k : Key) (r : Response) → Good b s r → world.of_language (number_of k.path) (key_language s k) (stored_of r) ≡ is_for k.path k.language r
is_for_lem b s k r g = ap (λ (x : Bool). x && eqb (language_in r) (key_language s k)) (sym (bytes_number r.path k.path))
    ∙ for_language r.row.varies (s.varies (number_of k.path)) (bytes_eq r.path k.path) (number_of r.language) (number_of k.language) (bytes_eq r.language k.language)
    (λ e. g.varies ∙ ap (λ (p : List ℕ). s.varies (number_of p)) (bytes_same r.path k.path e)) (bytes_number r.language k.language)

-- what is for a key is of its resource and language
pub for_resource : (k : Key) (r : Response) → is_for k.path k.language r ≡ true → r.path ≡ k.path
for_resource k r h = bytes_same r.path k.path (go (bytes_eq r.path k.path) (not r.row.varies || bytes_eq r.language k.language) h)
  where
    go : (x y : Bool) → (x && y) ≡ true → x ≡ true
    go true y e = refl
    go false y e = e

pub for_key : (b : Bodies) (s : world.Setting) (k : Key) (r : Response) → Good b s r → is_for k.path k.language r ≡ true → language_in r ≡ key_language s k
for_key b s k r g h = go (number_of r.path) (number_of k.path) (language_in r) (key_language s k) (is_for_lem b s k r g ∙ h)
  where
    go : (p q l m : ℕ) → (eqb p q && eqb l m) ≡ true → l ≡ m
    go p q l m e = grind (arith, nat_tests)

-- by a validator: the one body that it has
pub is_tagged_lem : (b : Bodies) (s : world.Setting) (k : Key) (t body : List ℕ) → body ≡ b (number_of k.path) (key_language s k) t → (r : Response) → Good b s r → world.of_text (number_of k.path) (key_language s k) (text_of (Some t) body) (stored_of r) ≡ is_tagged k.path k.language t r
is_tagged_lem b s k t body e r g = go (is_for k.path k.language r) refl
  where
    regroup : (x y z : Bool) → (x && (y && z)) ≡ ((x && y) && z)
    regroup true y z = refl
    regroup false y z = refl

    same : (f : Bool) → is_for k.path k.language r ≡ f → r.tag ≡ Some t → f ≡ true → r.body ≡ body
    same f q h z = let p = for_resource k r (q ∙ z) in let l = for_key b s k r g (q ∙ z) in
        g.body t h ∙ (ap (λ (n : ℕ). b n (language_in r) t) (ap number_of p) ∙ (ap (λ (n : ℕ). b (number_of k.path) n t) l ∙ sym e))

    join : (f x : Bool) → x ≡ f → (x && eqb (text_of r.tag r.body) (text_of (Some t) body)) ≡ (f && eqb (text_of r.tag r.body) (text_of (Some t) body))
    join f x q = ap (λ (z : Bool). z && eqb (text_of r.tag r.body) (text_of (Some t) body)) q

    end : (f : Bool) → is_for k.path k.language r ≡ f → (f && eqb (text_of r.tag r.body) (text_of (Some t) body)) ≡ (f && tag_is r.tag t)
    end true q = sym (tag_number r.tag t r.body body (λ h. same true q h refl))
    end false q = refl

    go : (f : Bool) → is_for k.path k.language r ≡ f → world.of_text (number_of k.path) (key_language s k) (text_of (Some t) body) (stored_of r) ≡ is_tagged k.path k.language t r
    go f q = regroup (eqb (number_of r.path) (number_of k.path)) (eqb (language_in r) (key_language s k)) (eqb (text_of r.tag r.body) (text_of (Some t) body))
        ∙ (join f (world.of_language (number_of k.path) (key_language s k) (stored_of r)) (is_for_lem b s k r g ∙ q) ∙ (end f q ∙ ap (λ (z : Bool). z && tag_is r.tag t) (sym q)))

-- what may be served
pub may_serve_lem : (tick : ℕ) (r : Response) → (ltb 0 (stored_of r).lifetime && leb tick (r.row.requested_at + (stored_of r).lifetime)) ≡ may_serve tick r.row
may_serve_lem tick r = go r.row.no_cache
  where
    go : (x : Bool) → (ltb 0 (cond x 0 r.row.lifetime) && leb tick (r.row.requested_at + cond x 0 r.row.lifetime)) ≡ (not x && (ltb 0 r.row.lifetime && leb tick (r.row.requested_at + r.row.lifetime)))
    go true = refl
    go false = refl
