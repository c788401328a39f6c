-- A cache's decisions, in the subject's own words.
use Rattle.std.proofs.Common.{◌≡◌, ℕ, Bool, true, false, cond, not, ◌&&◌, ◌||◌, ltb, List, [], ◌∷◌, length, get_or, is_some, Some, None, Option, Ok, Err, Result, sym, refl, ap, ◌∙◌, subst, arith, get_or-set_same}
use Rattle.store.specs.declared.types.Row.{Row}
use Rattle.std.specs.List.{position, list_any, fold, range_with_len}
use Rattle.store.specs.Slots.{Slot, Empty, is_for, holds, is_empty, row_of, tag_of}
use Rattle.store.proofs.Firsts.{found_passes, found_any}
use Rattle.cache.specs.declared.types.Exchange.{Exchange}
use Rattle.cache.specs.declared.types.Words.{Words}
use Rattle.cache.specs.declared.types.Looked.{Looked}
use Rattle.cache.specs.declared.types.Looked.TheVariants.{Forwarded}
use Rattle.cache.specs.declared.types.RequestError.{RequestError}
use Rattle.cache.specs.declared.types.RequestError.TheVariants.{Refused}
use Rattle.cache.specs.Rules.{State, Ask, turn, may_serve, key_of, free_link, can_forward, begins, forwards, revalidates, serves, reads_at, reads_from, requested}
use Rattle.cache.specs.Answers.{key_at, is_pinned, is_stale, may_go, is_spent, last_use, older, oldest_to, or_else, room_for, may_store, row_for, put_at, stored}
use Rattle.cache.specs.Decisions.{servable_row, servable_at, servable, is_served, KeepsOthers, SparesPinned, StoresIt}
use Rattle.cache.proofs.Rooms.{room_within}
use Rattle.cache.proofs.Names.{Fits, Knows}

bad : {P : Type 0} → ◌≡◌ {A = ℕ} 0 1 → P
bad e = absurd (omega arith)

-- what is forwarded or refused is not served
not_served : (x : Bool) (t u : State) (c : ℕ) → is_served (cond x (turn t (Ok (Forwarded c))) (turn u (Err Refused))).gives ≡ false
not_served true t u c = refl
not_served false t u c = refl

forwards_not : (knows : Knows) (a : Ask) (s : State) → is_served (forwards knows a s).gives ≡ false
unfolding begins
forwards_not knows a s = not_served (can_forward knows (key_of a a.tag) s) _ s (free_link s)

revalidates_not : (knows : Knows) (a : Ask) (i : ℕ) (s : State) → is_served (revalidates knows a i s).gives ≡ false
unfolding begins
revalidates_not knows a i s = not_served (can_forward knows (key_of a (tag_of (get_or s.slots i Empty))) s) _ s (free_link s)

reads_at_lem : (knows : Knows) (a : Ask) (i : ℕ) (o : Option Row) (s : State) → is_served (reads_at knows a i o s).gives ≡ (servable_row s.tick o && not a.no_cache)
reads_at_lem knows a i None s = forwards_not knows a s
reads_at_lem knows a i (Some r) s = go (may_serve s.tick r) a.no_cache (is_some (tag_of (get_or s.slots i Empty)))
  where
    go : (x n y : Bool) → is_served (cond x (cond n (forwards knows a s) (serves i r s)) (cond y (revalidates knows a i s) (forwards knows a s))).gives ≡ (x && not n)
    go true true y = forwards_not knows a s
    go true false y = refl
    go false n true = revalidates_not knows a i s
    go false n false = forwards_not knows a s

reads_from_lem : (knows : Knows) (a : Ask) (o : Option ℕ) (s : State) → is_served (reads_from knows a o s).gives ≡ (servable_at s o && not a.no_cache)
reads_from_lem knows a None s = forwards_not knows a s
reads_from_lem knows a (Some i) s = reads_at_lem knows a i (row_of (get_or s.slots i Empty)) s

-- what may be served is served, and nothing else is
pub serves_what_may : (knows : Knows) (a : Ask) (s : State) → is_served (requested knows a s).gives ≡ servable a s
serves_what_may knows a s = go (is_some a.write)
  where
    o : Option ℕ
    o = position (holds (is_for a.path a.language)) s.slots

    go : (x : Bool) → is_served (cond x (forwards knows a s) (reads_from knows a (position (holds (is_for a.path a.language)) s.slots) s)).gives ≡ (not x && (servable_at s (position (holds (is_for a.path a.language)) s.slots) && not a.no_cache))
    go true = forwards_not knows a s
    go false = reads_from_lem knows a (position (holds (is_for a.path a.language)) s.slots) s

-- the place of an older answer, or a free one, whatever else there is
either_first : (a b : Option ℕ) (P : Option ℕ → Type 0) → ((i : ℕ) → a ≡ Some i → P (Some i)) → (a ≡ None → P b) → P (or_else a b)
either_first None b P f g = g refl
either_first (Some i) b P f g = f i refl

or_left : (x y : Bool) → x ≡ true → (x || y) ≡ true
or_left true y e = refl
or_left false y e = bad (cc)

or_right : (x y : Bool) → y ≡ true → (x || y) ≡ true
or_right true y e = refl
or_right false y e = e

pub keeps_others : (c : ℕ) (s : State) → KeepsOthers c s (room_for c s)
unfolding room_for
keeps_others c s = either_first (position (holds (is_for (key_at c s).path (key_at c s).language)) s.slots) _ (KeepsOthers c s)
    (λ i e q. or_left _ _ (found_passes (holds (is_for (key_at c s).path (key_at c s).language)) s.slots Empty i e).1)
    (λ none. either_first (position is_empty s.slots) _ (KeepsOthers c s) (λ i e q. or_right _ _ (found_passes is_empty s.slots Empty i e).1) (λ e. full (or_else (position (is_spent s) s.slots) (oldest_to (length s.slots) s)) (found_any is_empty s.slots e)))
  where
    full : (o : Option ℕ) → list_any is_empty s.slots ≡ false → KeepsOthers c s o
    full None e = e
    full (Some i) e = λ q. bad (cc)

-- what is given up is not pinned
spent_free : (s : State) (k : Slot) → is_spent s k ≡ true → is_pinned s k ≡ true → {P : Type 0} → P
spent_free s k e p = go (holds (is_stale s.tick) k) (is_pinned s k) e p
  where
    go : (x y : Bool) → (x && not y) ≡ true → y ≡ true → {P : Type 0} → P
    go x true e p = clash x e
      where
        clash : (x : Bool) → (x && false) ≡ true → {P : Type 0} → P
        clash true e = bad (cc)
        clash false e = bad (cc)
    go x false e p = bad (cc)

abbrev Free : State → Option ℕ → Type 0
Free s None = Unit {0}
Free s (Some i) = is_pinned s (get_or s.slots i Empty) ≡ true → ⊥

may_go_free : (s : State) (k : Slot) → may_go s k ≡ true → is_pinned s k ≡ true → ⊥
may_go_free s k e p = go (not (is_empty k)) (is_pinned s k) e p
  where
    go : (x y : Bool) → (x && not y) ≡ true → y ≡ true → ⊥
    go true true e p = bad (cc)
    go false true e p = bad (cc)
    go x false e p = bad (cc)

older_free : (s : State) (b : Option ℕ) (n : ℕ) → Free s b → Free s (older s b n)
older_free s None n f = go (may_go s (get_or s.slots n Empty)) refl
  where
    go : (x : Bool) → may_go s (get_or s.slots n Empty) ≡ x → Free s (cond x (Some n) None)
    go true e = λ p. may_go_free s (get_or s.slots n Empty) e p
    go false e = tt
older_free s (Some b) n f = go (may_go s (get_or s.slots n Empty)) refl (ltb (last_use (get_or s.slots n Empty)) (last_use (get_or s.slots b Empty)))
  where
    go : (x : Bool) → may_go s (get_or s.slots n Empty) ≡ x → (y : Bool) → Free s (cond (x && y) (Some n) (Some b))
    go true e true = λ p. may_go_free s (get_or s.slots n Empty) e p
    go true e false = λ p. f p
    go false e y = λ p. f p

fold_free : (s : State) (b : Option ℕ) (ns : List ℕ) → Free s b → Free s (fold (older s) b ns)
fold_free s b [] f = f
fold_free s b (n ∷ ns) f = fold_free s (older s b n) ns (older_free s b n f)

oldest_free : (n : ℕ) (s : State) → Free s (oldest_to n s)
unfolding oldest_to
oldest_free n s = fold_free s None (range_with_len 0 n) tt

pub spares_pinned : (c : ℕ) (s : State) → SparesPinned c s (room_for c s)
unfolding room_for
spares_pinned c s = either_first (position (holds (is_for (key_at c s).path (key_at c s).language)) s.slots) _ (SparesPinned c s)
    (λ i e q. or_left _ _ (found_passes (holds (is_for (key_at c s).path (key_at c s).language)) s.slots Empty i e).1)
    (λ none. either_first (position is_empty s.slots) _ (SparesPinned c s) (λ i e q. or_right _ _ (found_passes is_empty s.slots Empty i e).1)
    (λ e. either_first (position (is_spent s) s.slots) _ (SparesPinned c s) (λ i f q. spent_free s (get_or s.slots i Empty) (found_passes (is_spent s) s.slots Empty i f).1 q) (λ f. last (oldest_to (length s.slots) s) (oldest_free (length s.slots) s))))
  where
    last : (o : Option ℕ) → Free s o → SparesPinned c s o
    last None f = tt
    last (Some i) f = λ q. absurd (f q)

-- what may be stored is stored
pub stores_it : (fits : Fits) (c : ℕ) (x : Exchange) (varies : Bool) (tag : Option (List ℕ)) (body : List ℕ) (w : Words) (s : State) → StoresIt fits c x varies tag body w s (room_for c s) (stored fits c x varies tag body w s)
stores_it fits c x varies tag body w s = go (room_for c s) refl
  where
    go : (o : Option ℕ) → room_for c s ≡ o → StoresIt fits c x varies tag body w s o (cond (may_store x w && fits tag body) (put_at o (record { path = (key_at c s).path; language = (key_at c s).language; tag = tag; body = body; row = row_for s.tick x varies w }) s) s)
    go None e = tt
    go (Some i) e = λ q. ap (λ (z : Bool). get_or (cond z (put_at (Some i) (record { path = (key_at c s).path; language = (key_at c s).language; tag = tag; body = body; row = row_for s.tick x varies w }) s) s).slots i Empty) q ∙ get_or-set_same s.slots i _ Empty (room_within c s i e)

-- the same of what a function gave
pub keeps_given : (c : ℕ) (s : State) (r : Option ℕ) → r ≡ room_for c s → KeepsOthers c s r
keeps_given c s r e = subst (λ (o : Option ℕ). KeepsOthers c s o) (sym e) (keeps_others c s)

pub spares_given : (c : ℕ) (s : State) (r : Option ℕ) → r ≡ room_for c s → SparesPinned c s r
spares_given c s r e = subst (λ (o : Option ℕ). SparesPinned c s o) (sym e) (spares_pinned c s)

pub stores_given : (fits : Fits) (c : ℕ) (x : Exchange) (varies : Bool) (tag : Option (List ℕ)) (body : List ℕ) (w : Words) (s after : State) → after ≡ stored fits c x varies tag body w s → StoresIt fits c x varies tag body w s (room_for c s) after
stores_given fits c x varies tag body w s after e = subst (λ (z : State). StoresIt fits c x varies tag body w s (room_for c s) z) (sym e) (stores_it fits c x varies tag body w s)

pub serves_given : (knows : Knows) (a : Ask) (s : State) (r : Result Looked RequestError) → r ≡ (requested knows a s).gives → is_served r ≡ servable a s
serves_given knows a s r e = ap is_served e ∙ serves_what_may knows a s
