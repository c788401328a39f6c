-- Laws of places, connections and numbers, and what only grows over a run.
use Rattle.std.proofs.Common.{◌≡◌, ℕ, zero, suc, ◌≤◌, Bool, true, false, cond, ◌||◌, eqb, ltb, ◌⊎◌, List, [], ◌∷◌, ◌++◌, map, get_or, set, replicate, sym, refl, ap, subst, inl, inr, ⊎_elim, arith}
use mathlib.Core.List.{Memᴰ}
use Rattle.std.proofs.lemmas.Bool.{eqb-true}
use Rattle.std.proofs.lemmas.Bool.Decides.{nat_tests}
use Rattle.model.specs.Exchanges.{Method, Read, Write, Answer, Unanswered, Full, NotModified, Done, Other, Exchange, Stored, Connection, Idle, Busy, Slot, Empty, Filled}
use Rattle.model.specs.World.{Setting, Content, World, Event, Tick, Change, Forward, Act, Decline, Receive, Lose, Serve, Evict, answer_to, is_unanswered, finish, receive, lose, may_serve, serves, serve, request, forwards, forward, acts, act, declines, decline, receive_on, lose_on, connection_count, step, world}
use Rattle.model.specs.Promise.{is_in, numbers}

-- two different constructors are not equal, so anything follows
pub bad : {P : Type 0} → ◌≡◌ {A = ℕ} 0 1 → P
bad e = absurd (omega arith)

pub clash : {P : Type 0} → true ≡ false → P
clash e = bad (cc)

pub not_true : (b : Bool) → (b ≡ true → ⊥) → b ≡ false
not_true false h = refl
not_true true h = absurd (h refl)

pub get_set : {A : Type 0} (l : List A) (i : ℕ) (a d : A) (j : ℕ) → ((j ≡ i) × (get_or (set l i a) j d ≡ a)) ⊎ (get_or (set l i a) j d ≡ get_or l j d)
get_set [] i a d j = inr refl
get_set (x ∷ l) zero a d zero = inl (refl, refl)
get_set (x ∷ l) zero a d (suc j) = inr refl
get_set (x ∷ l) (suc i) a d zero = inr refl
get_set (x ∷ l) (suc i) a d (suc j) = ⊎_elim (λ t. inl (ap suc t.0, t.1)) (λ e. inr e) (get_set l i a d j)

-- what is set to the default is the default
pub get_clear : {A : Type 0} (l : List A) (i : ℕ) (d : A) → get_or (set l i d) i d ≡ d
get_clear [] i d = refl
get_clear (x ∷ l) zero d = refl
get_clear (x ∷ l) (suc i) d = get_clear l i d

pub get-map : {A : Type 0} (f : A → A) (d : A) → f d ≡ d → (l : List A) (i : ℕ) → get_or (map f l) i d ≡ f (get_or l i d)
get-map f d e [] i = sym e
get-map f d e (x ∷ l) zero = refl
get-map f d e (x ∷ l) (suc i) = get-map f d e l i

pub get_replicate : {A : Type 0} (n i : ℕ) (d : A) → get_or (replicate n d) i d ≡ d
get_replicate zero i d = refl
get_replicate (suc n) zero d = refl
get_replicate (suc n) (suc i) d = get_replicate n i d

pub is_in-cons : (n x : ℕ) (xs : List ℕ) → is_in n (x ∷ xs) ≡ true → (x ≡ n) ⊎ (is_in n xs ≡ true)
unfolding is_in
is_in-cons n x xs h = go (eqb x n) refl h
  where
    go : (b : Bool) → eqb x n ≡ b → (b || is_in n xs) ≡ true → (x ≡ n) ⊎ (is_in n xs ≡ true)
    go true e h = inl (eqb-true x n e)
    go false e h = inr h

pub is_in_more : (n x : ℕ) (xs : List ℕ) → is_in n xs ≡ true → is_in n (x ∷ xs) ≡ true
unfolding is_in
is_in_more n x xs h = grind (arith, nat_tests)

pub is_in_here : (n x : ℕ) (xs : List ℕ) → x ≡ n → is_in n (x ∷ xs) ≡ true
unfolding is_in
is_in_here n x xs h = grind (arith, nat_tests)

pub numbers_more : (n : ℕ) (x : Exchange) (xs : List Exchange) → is_in n (numbers xs) ≡ true → is_in n (numbers (x ∷ xs)) ≡ true
unfolding numbers
numbers_more n x xs h = is_in_more n x.number (numbers xs) h

pub numbers-cons : (n : ℕ) (x : Exchange) (xs : List Exchange) → is_in n (numbers (x ∷ xs)) ≡ true → (x.number ≡ n) ⊎ (is_in n (numbers xs) ≡ true)
unfolding numbers
numbers-cons n x xs h = is_in-cons n x.number (numbers xs) h

-- where a run is cut
pub cut-cons : (e x : Event) (es l b : List Event) → e ∷ es ≡ l ++ (x ∷ b) → ((e ≡ x) × (es ≡ b)) ⊎ ((m : List Event) × (es ≡ m ++ (x ∷ b)))
cut-cons e x es [] b h = inl (cc, cc)
cut-cons e x es (y ∷ m) b h = inr (m, cc)

pub no_cut : (l b : List Event) (e : Event) → [] ≡ l ++ (e ∷ b) → ⊥
no_cut [] b e q = bad (cc)
no_cut (x ∷ l) b e q = bad (cc)

-- of two ends of one run one is an end of the other
pub ends_of : (l m b c : List Event) → l ++ b ≡ m ++ c → ((k : List Event) × (b ≡ k ++ c)) ⊎ ((k : List Event) × (c ≡ k ++ b))
ends_of [] m b c q = inl (m, q)
ends_of (x ∷ l) [] b c q = inr (x ∷ l, sym q)
ends_of (x ∷ l) (y ∷ m) b c q = ends_of l m b c (cc)

-- the tick, the next number, what was acted on and what ended only grow
pub record Grows (w w' : World) : Type 0 where
  pub clock : w.now ≤ w'.now
  pub next : w.next ≤ w'.next
  pub acted : (n : ℕ) → is_in n w.acted ≡ true → is_in n w'.acted ≡ true
  pub ended : (n : ℕ) → is_in n (numbers w.ended) ≡ true → is_in n (numbers w'.ended) ≡ true
  pub exchanges : (x : Exchange) → Memᴰ x w.ended → Memᴰ x w'.ended

grows_not : (w : World) → Grows w w
grows_not w = record { clock = omega arith; next = omega arith; acted = λ n h. h; ended = λ n h. h; exchanges = λ x m. m }

grows_finish : (x : Exchange) (cs : List Connection) (ks : List Slot) (content : Content) (w : World) → Grows w (finish x cs ks content w)
grows_finish x cs ks content w = record { clock = omega arith; next = omega arith; acted = λ n h. h; ended = λ n h. numbers_more n x w.ended h; exchanges = λ y m. Memᴰ.tail m }

pub grows : (s : Setting) (e : Event) (w : World) → Grows w (step s e w)
grows s Tick w = record { clock = omega arith; next = omega arith; acted = λ n h. h; ended = λ n h. h; exchanges = λ x m. m }
grows s (Change r l t) w = record { clock = omega arith; next = omega arith; acted = λ n h. h; ended = λ n h. h; exchanges = λ x m. m }
grows s (Forward c cl r l m v storable) w = go (get_or w.connections c Idle)
  where
    it : (b : Bool) → Grows w (cond b (forwards c (request w.next w.now cl r l m v storable) w) w)
    it true = record { clock = omega arith; next = omega arith; acted = λ n h. h; ended = λ n h. h; exchanges = λ x m. m }
    it false = grows_not w

    go : (k : Connection) → Grows w (forward c cl r l m v storable k w)
    go (Busy x) = grows_not w
    go Idle = it (ltb c connection_count)
grows s (Act c life private full reply) w = go (get_or w.connections c Idle)
  where
    it : (x : Exchange) (b : Bool) → Grows w (cond b (acts s c x (answer_to s life private full reply w.has x x.method) w) w)
    it x true = record { clock = omega arith; next = omega arith; acted = λ n h. is_in_more n x.number w.acted h; ended = λ n h. h; exchanges = λ x m. m }
    it x false = grows_not w

    go : (k : Connection) → Grows w (act s c life private full reply k w)
    go Idle = grows_not w
    go (Busy x) = it x (is_unanswered x.answer)
grows s (Decline c reply) w = go (get_or w.connections c Idle)
  where
    it : (x : Exchange) (b : Bool) → Grows w (cond b (declines c x reply w) w)
    it x true = record { clock = omega arith; next = omega arith; acted = λ n h. h; ended = λ n h. h; exchanges = λ x m. m }
    it x false = grows_not w

    go : (k : Connection) → Grows w (decline c reply k w)
    go Idle = grows_not w
    go (Busy x) = it x (is_unanswered x.answer)
grows s (Receive c b i) w = go (get_or w.connections c Idle)
  where
    it : (x : Exchange) (r : Answer) → Grows w (receive b i s c x r w)
    it x Unanswered = grows_not w
    it x (Full t life private) = grows_finish x _ _ _ w
    it x (NotModified life private) = grows_finish x _ _ _ w
    it x (Done reply) = grows_finish x _ _ _ w
    it x (Other reply) = grows_finish x _ _ _ w

    go : (k : Connection) → Grows w (receive_on b i s c k w)
    go Idle = grows_not w
    go (Busy x) = it x x.answer
grows s (Lose c) w = go (get_or w.connections c Idle)
  where
    it : (x : Exchange) (m : Method) → Grows w (lose c x m w)
    it x Read = grows_finish x _ _ _ w
    it x (Write t) = grows_finish x _ _ _ w

    go : (k : Connection) → Grows w (lose_on c k w)
    go Idle = grows_not w
    go (Busy x) = it x x.method
grows s (Serve c r l i) w = go (get_or w.slots i Empty)
  where
    it : (k : Stored) (b : Bool) → Grows w (cond b (serves c r l k w) w)
    it k true = record { clock = omega arith; next = omega arith; acted = λ n h. h; ended = λ n h. h; exchanges = λ x m. m }
    it k false = grows_not w

    go : (k : Slot) → Grows w (serve s c r l k w)
    go Empty = grows_not w
    go (Filled k) = it k (may_serve s w.now r l k)
grows s (Evict i) w = record { clock = omega arith; next = omega arith; acted = λ n h. h; ended = λ n h. h; exchanges = λ x m. m }

grows_both : (a b c : World) → Grows a b → Grows b c → Grows a c
grows_both a b c p q = record { clock = omega (arith, p.clock, q.clock); next = omega (arith, p.next, q.next); acted = λ n h. q.acted n (p.acted n h); ended = λ n h. q.ended n (p.ended n h); exchanges = λ x m. q.exchanges x (p.exchanges x m) }

pub grows_run : (s : Setting) (l b : List Event) → Grows (world s b) (world s (l ++ b))
unfolding world
grows_run s [] b = grows_not (world s b)
grows_run s (e ∷ l) b = grows_both (world s b) (world s (l ++ b)) (step s e (world s (l ++ b))) (grows_run s l b) (grows s e (world s (l ++ b)))

pub grows_cut : (s : Setting) (es l : List Event) (e : Event) (b : List Event) → es ≡ l ++ (e ∷ b) → Grows (world s b) (world s es)
unfolding world
grows_cut s es l e b q = subst (λ (x : List Event). Grows (world s b) (world s x)) (sym q) (grows_both (world s b) (step s e (world s b)) (world s (l ++ (e ∷ b))) (grows s e (world s b)) (grows_run s l (e ∷ b)))
