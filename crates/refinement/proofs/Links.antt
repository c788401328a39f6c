-- What is done to the connections of a cache is done to the connections of the model.
use Rattle.std.proofs.Common.{◌≡◌, ℕ, zero, suc, ◌<◌, ◌≤◌, Bool, true, false, cond, eqb, ◌≢◌, List, [], length, get_or, set, sym, refl, ap, ◌∙◌, subst, ⊎_elim, arith, length-set, get_or-set_other, get_or-set_same, Some, None, Option}
use Rattle.std.proofs.lemmas.List.{get_or_past}
use Rattle.std.specs.Str.{bytes_eq}
use Rattle.store.specs.Slots.{Key, no_key}
use Rattle.cache.specs.declared.types.Exchange.{Exchange}
use Rattle.std.proofs.lemmas.Bool.{cases_eq, cases_lt}
use Rattle.cache.specs.Answers.{outdated, mark_if, marked_at, marked_to}
use Rattle.model.specs.Exchanges as model
use Rattle.model.specs.World as world
use Rattle.refinement.specs.Numbers.{number_of}
use Rattle.refinement.specs.Stands.{Same, Shows}
use Rattle.promise.proofs.Lists.{bad}
use Rattle.refinement.proofs.Numbered.{bytes_number}
use Rattle.refinement.proofs.Names.{Bodies}

length_marked : (n : ℕ) (path : List ℕ) (keys : List Key) (links : List (Option Exchange)) → length (marked_to n path keys links) ≡ length links
unfolding marked_to
length_marked zero path keys links = refl
length_marked (suc n) path keys links = length-set (marked_to n path keys links) n _ ∙ length_marked n path keys links

pub length-marked_eight : (path : List ℕ) (keys : List Key) (links : List (Option Exchange)) → length links ≡ 8 → length (marked_to 8 path keys links) ≡ 8
length-marked_eight path keys links e = length_marked 8 path keys links ∙ e

marked_above : (n : ℕ) (path : List ℕ) (keys : List Key) (links : List (Option Exchange)) (c : ℕ) → n ≤ c → get_or (marked_to n path keys links) c None ≡ get_or links c None
unfolding marked_to
marked_above zero path keys links c h = refl
marked_above (suc n) path keys links c h = let ne : c ≢ n = omega arith in get_or-set_other (marked_to n path keys links) n c _ None ne ∙ marked_above n path keys links c (omega arith)

marked_below : (n : ℕ) (path : List ℕ) (keys : List Key) (links : List (Option Exchange)) (c : ℕ) → n ≤ length links → c < n → get_or (marked_to n path keys links) c None ≡ mark_if (bytes_eq (get_or keys c no_key).path path) (get_or links c None)
unfolding marked_to
marked_below zero path keys links c l h = absurd (omega arith)
marked_below (suc n) path keys links c l h = ⊎_elim here (there (λ g. marked_below n path keys links c (omega arith) g)) (cases_eq c n)
  where
    long : n < length (marked_to n path keys links)
    long = omega (arith, length_marked n path keys links)

    here : c ≡ n → get_or (marked_at n path keys (marked_to n path keys links)) c None ≡ mark_if (bytes_eq (get_or keys c no_key).path path) (get_or links c None)
    here e = subst (λ (i : ℕ). get_or (marked_at n path keys (marked_to n path keys links)) i None ≡ mark_if (bytes_eq (get_or keys i no_key).path path) (get_or links i None)) (sym e)
        (get_or-set_same (marked_to n path keys links) n _ None long ∙ ap (mark_if (bytes_eq (get_or keys n no_key).path path)) (marked_above n path keys links n (omega arith)))

    there : (c < n → get_or (marked_to n path keys links) c None ≡ mark_if (bytes_eq (get_or keys c no_key).path path) (get_or links c None)) → c ≢ n → get_or (marked_at n path keys (marked_to n path keys links)) c None ≡ mark_if (bytes_eq (get_or keys c no_key).path path) (get_or links c None)
    there ih ne = get_or-set_other (marked_to n path keys links) n c _ None ne ∙ ih (omega arith)

pub marked-get : (path : List ℕ) (keys : List Key) (links : List (Option Exchange)) (c : ℕ) → length links ≡ 8 → get_or (marked_to 8 path keys links) c None ≡ mark_if (bytes_eq (get_or keys c no_key).path path) (get_or links c None)
marked-get path keys links c e = ⊎_elim (λ l. marked_below 8 path keys links c (omega arith) l) (λ l. marked_above 8 path keys links c l ∙ past (get_or links c None) (get_or_past links c None (omega arith))) (cases_lt c 8)
  where
    past : (l : Option Exchange) → l ≡ None → l ≡ mark_if (bytes_eq (get_or keys c no_key).path path) l
    past None q = refl
    past (Some x) q = bad (cc)

-- an exchange that is invalidated is so on both sides
pub shows_marked : (b : Bodies) (s : world.Setting) (path : List ℕ) (l : Option Exchange) (k : Key) (held : List ℕ) (conn : model.Connection) → Shows b s l k held conn → Shows b s (mark_if (bytes_eq k.path path) l) k held (world.invalidate (number_of path) conn)
shows_marked b s path None k held conn h = ap (world.invalidate (number_of path)) h
shows_marked b s path (Some x) k held conn h = go h.0 h.1 h.2
  where
    it : (y : model.Exchange) → Same b s x k held y → (t u : Bool) → t ≡ u → Shows b s (cond t (Some (outdated x)) (Some x)) k held (cond u (model.Busy (world.outdated y)) (model.Busy y))
    it y m true true e = (world.outdated y, refl, record { number = m.number; client = m.client; resource = m.resource; language = m.language; requested_at = m.requested_at; storable = m.storable; invalidated = refl; write = m.write; validator = m.validator; holds = m.holds })
    it y m false false e = (y, refl, m)
    it y m true false e = bad (cc)
    it y m false true e = bad (cc)

    go : (y : model.Exchange) → conn ≡ model.Busy y → Same b s x k held y → Shows b s (mark_if (bytes_eq k.path path) (Some x)) k held (world.invalidate (number_of path) conn)
    go y q m = subst (λ (z : model.Connection). Shows b s (mark_if (bytes_eq k.path path) (Some x)) k held (world.invalidate (number_of path) z)) (sym q)
        (it y m (bytes_eq k.path path) (eqb y.resource (number_of path)) (bytes_number k.path path ∙ ap (λ (z : ℕ). eqb z (number_of path)) (sym m.resource)))

-- one connection changes, on both sides
module _ (b : Bodies) (s : world.Setting) (links : List (Option Exchange)) (keys : List Key) (held : List (List ℕ)) (conns : List model.Connection) (el : length links ≡ 8) (ek : length keys ≡ 8) (eh : length held ≡ 8) (ec : length conns ≡ 8)
    (old : (d : ℕ) → Shows b s (get_or links d None) (get_or keys d no_key) (get_or held d []) (get_or conns d model.Idle)) (c : ℕ) (below : c < 8) where
  -- an exchange begins
  pub shows_begun : (l : Option Exchange) (k : Key) (h : List ℕ) (conn : model.Connection) → Shows b s l k h conn → (d : ℕ) → Shows b s (get_or (set links c l) d None) (get_or (set keys c k) d no_key) (get_or (set held c h) d []) (get_or (set conns c conn) d model.Idle)
  shows_begun l k h conn new d = ⊎_elim here there (cases_eq d c)
    where
      all : (i : ℕ) (l1 l2 : Option Exchange) (k1 k2 : Key) (h1 h2 : List ℕ) (c1 c2 : model.Connection) → l1 ≡ l2 → k1 ≡ k2 → h1 ≡ h2 → c1 ≡ c2 → Shows b s l2 k2 h2 c2 → Shows b s l1 k1 h1 c1
      all i l1 l2 k1 k2 h1 h2 c1 c2 p q r t z = rw (p, q, r, t) z

      here : d ≡ c → Shows b s (get_or (set links c l) d None) (get_or (set keys c k) d no_key) (get_or (set held c h) d []) (get_or (set conns c conn) d model.Idle)
      here e = subst (λ (i : ℕ). Shows b s (get_or (set links c l) i None) (get_or (set keys c k) i no_key) (get_or (set held c h) i []) (get_or (set conns c conn) i model.Idle)) (sym e)
          (all c _ l _ k _ h _ conn (get_or-set_same links c l None (omega arith)) (get_or-set_same keys c k no_key (omega arith)) (get_or-set_same held c h [] (omega arith)) (get_or-set_same conns c conn model.Idle (omega arith)) new)

      there : d ≢ c → Shows b s (get_or (set links c l) d None) (get_or (set keys c k) d no_key) (get_or (set held c h) d []) (get_or (set conns c conn) d model.Idle)
      there ne = all d _ (get_or links d None) _ (get_or keys d no_key) _ (get_or held d []) _ (get_or conns d model.Idle) (get_or-set_other links c d l None ne) (get_or-set_other keys c d k no_key ne) (get_or-set_other held c d h [] ne) (get_or-set_other conns c d conn model.Idle ne) (old d)

  -- an exchange ends
  pub shows_ended : (d : ℕ) → Shows b s (get_or (set links c None) d None) (get_or keys d no_key) (get_or held d []) (get_or (set conns c model.Idle) d model.Idle)
  shows_ended d = ⊎_elim here there (cases_eq d c)
    where
      both : (l1 l2 : Option Exchange) (c1 c2 : model.Connection) → l1 ≡ l2 → c1 ≡ c2 → Shows b s l2 (get_or keys d no_key) (get_or held d []) c2 → Shows b s l1 (get_or keys d no_key) (get_or held d []) c1
      both l1 l2 c1 c2 p q z = rw (p, q) z

      here : d ≡ c → Shows b s (get_or (set links c None) d None) (get_or keys d no_key) (get_or held d []) (get_or (set conns c model.Idle) d model.Idle)
      here e = both _ None _ model.Idle (ap (λ (i : ℕ). get_or (set links c None) i None) e ∙ get_or-set_same links c None None (omega arith)) (ap (λ (i : ℕ). get_or (set conns c model.Idle) i model.Idle) e ∙ get_or-set_same conns c model.Idle model.Idle (omega arith)) refl

      there : d ≢ c → Shows b s (get_or (set links c None) d None) (get_or keys d no_key) (get_or held d []) (get_or (set conns c model.Idle) d model.Idle)
      there ne = both _ (get_or links d None) _ (get_or conns d model.Idle) (get_or-set_other links c d None None ne) (get_or-set_other conns c d model.Idle model.Idle ne) (old d)
