-- Each event makes a step that keeps the invariant; so every run has it.
use Rattle.std.proofs.Common.{◌≡◌, ℕ, zero, suc, Bool, true, false, cond, not, ◌&&◌, eqb, ltb, ◌⊎◌, List, [], ◌∷◌, map, get_or, set, sym, refl, ap, ◌∙◌, subst, inl, inr, ⊎_elim, arith}
use mathlib.Core.List.Memᴰ
use Rattle.std.proofs.lemmas.Bool.{eq-eqb}
use Rattle.std.proofs.lemmas.Bool.Decides.{nat_tests}
use Rattle.model.specs.Exchanges.{Method, Read, Write, Validator, NoValidator, Matching, Answer, Unanswered, Full, NotModified, Done, Other, Exchange, Stored, Connection, Idle, Busy, Slot, Empty, Filled}
use Rattle.model.specs.World.{Setting, Content, Text, Acknowledged, Passed, Lost, World, Event, Tick, Change, Forward, Act, Decline, Receive, Lose, Serve, Evict, connection_count, start, key_of, replaced, matches, matched, answer_to, has_after, answered, outdated, invalidate, of_resource, of_language, of_text, without, holds, is_unanswered, stored_of, store_if, finish, receive, lose, may_serve, serves, serve, request, forwards, forward, acts, act, declines, decline, receive_on, lose_on, step, world}
use Rattle.model.specs.Promise.{is_in, numbers, On, Ends, received, lost, Claims, full, not_modified, Withdraws}
use Rattle.promise.proofs.Lists.{bad, clash, get_set, get_clear, get-map, get_replicate, is_in-cons, is_in_here, numbers-cons, no_cut, grows}
use Rattle.promise.proofs.Invariant.{Word, Inv, Like, Back, alike, answers, fresh, Source, whole, renewed, Newly, Old, Next, next_inv}

pub set_on : (cs : List Connection) (c : ℕ) (x y : Exchange) → get_or cs c Idle ≡ Busy x → get_or (set cs c (Busy y)) c Idle ≡ Busy y
set_on [] c x y h = bad (cc)
set_on (k ∷ cs) zero x y h = refl
set_on (k ∷ cs) (suc c) x y h = set_on cs c x y h

like_self : (x : Exchange) → Like x x
like_self x = record { number = refl; resource = refl; language = refl; method = refl; validator = refl; at = refl; clean = λ f. f }

-- an event that settles no write, and withdraws nothing
pub record Mild (s : Setting) (e : Event) (w : World) : Type 0 where
  pub settles : (c : ℕ) (p : Exchange) (reply : ℕ) → On w c p → p.answer ≡ Done reply → Ends c e → ⊥
  pub withdraws : (c : ℕ) (b : Bool) (i : ℕ) (q : Exchange) (t : ℕ) → e ≡ Receive c b i → On w c q → Withdraws s q t → ⊥

still : (s : Setting) (e : Event) (w w' : World) → Mild s e w → w'.connections ≡ w.connections → w'.ended ≡ w.ended → w'.acted ≡ w.acted → ((i : ℕ) (k : Stored) → get_or w'.slots i Empty ≡ Filled k → Old w k) → Next s e w w'
still s e w w' mild cq pq dq ks = record {
  new = 0;
  acted_back = λ n h. inl (rw dq at h);
  ended_back = λ n h. inl (rw pq at h);
  back = λ c y o. alike y (sym (ap (λ (x : List Connection). get_or x c Idle) cq) ∙ o) (like_self y) refl;
  settles = λ c p reply o d en. absurd (mild.settles c p reply o d en);
  stored = λ i k h. inl (ks i k h);
  withdrawn = λ c b i q en o j k h r l z. mild.withdraws c b i q k.text en o z;
}

nop : (s : Setting) (e : Event) (w : World) → Mild s e w → Next s e w w
nop s e w mild = still s e w w mild refl refl refl (λ i k h. (i, h))

-- events that end no exchange
quiet : (s : Setting) (e : Event) (w : World) → ((c : ℕ) → Ends c e → ⊥) → Mild s e w
quiet s e w none = record { settles = λ c p reply o d en. none c en; withdraws = λ c b i q t en o z. none c (received b i en) }

-- the origin answers on a connection
answers_next : (s : Setting) (e : Event) (w w' : World) (c : ℕ) (x : Exchange) (r : Answer) → Mild s e w → On w c x → is_unanswered x.answer ≡ true → is_unanswered r ≡ false → ((text : ℕ) → Claims (answered r x) text → w.has x.resource (key_of s x) ≡ text) →
    ((reply : ℕ) → r ≡ Done reply → (is_in x.number w'.acted ≡ true) × ((t : ℕ) × (x.method ≡ Write t) × (w'.has x.resource (key_of s x) ≡ t))) →
    ((life : ℕ) (private : Bool) → r ≡ NotModified life private → x.validator ≡ Matching (matched x.validator)) → w'.connections ≡ set w.connections c (Busy (answered r x)) → w'.ended ≡ w.ended →
    ((n : ℕ) → is_in n w'.acted ≡ true → (is_in n w.acted ≡ true) ⊎ (x.number ≡ n)) → w'.slots ≡ w.slots → Next s e w w'
answers_next s e w w' c x r mild o u ur cs d v cq pq dq kq = record {
  new = 0;
  acted_back = λ n h. ⊎_elim (λ z. inl z) (λ z. inr (c, answered r x, on, z, ur)) (dq n h);
  ended_back = λ n h. inl (rw pq at h);
  back = back;
  settles = λ c p reply o d en. absurd (mild.settles c p reply o d en);
  stored = λ i k h. inl (i, sym (ap (λ (z : List Slot). get_or z i Empty) kq) ∙ h);
  withdrawn = λ c b i q en o j k h r l z. mild.withdraws c b i q k.text en o z;
}
  where
    on : On w' c (answered r x)
    on = ap (λ (z : List Connection). get_or z c Idle) cq ∙ set_on w.connections c x (answered r x) o

    said : (y : Exchange) → answered r x ≡ y → Back s w w' 0 c y
    said y q = subst (λ (z : Exchange). Back s w w' 0 c z) q (answers x o (record { number = refl; resource = refl; language = refl; method = refl; validator = refl; at = refl; clean = λ f. f }) u ur cs d v)

    back : (j : ℕ) (y : Exchange) → On w' j y → Back s w w' 0 j y
    back j y h = ⊎_elim (λ t. subst (λ (z : ℕ). Back s w w' 0 z y) (sym t.0) (said y (let k = t.1 in let z : Busy (answered r x) ≡ Busy y = cc in cc))) (λ t. alike y (let z : get_or w.connections j Idle ≡ Busy y = cc in z) (like_self y) refl)
        (let z = ap (λ (z : List Connection). get_or z j Idle) cq in get_set w.connections c (Busy (answered r x)) Idle j)

answer_claims : (s : Setting) (life : ℕ) (private all : Bool) (reply : ℕ) (has : ℕ → ℕ → ℕ) (x : Exchange) (m : Method) (text : ℕ) → Claims (answered (answer_to s life private all reply has x m) x) text → has x.resource (key_of s x) ≡ text
answer_claims s life private all reply has x (Write t) text (full l p e) = bad (cc)
answer_claims s life private all reply has x (Write t) text (not_modified l p e q) = bad (cc)
answer_claims s life private all reply has x Read text c = go (not all && matches x.validator (has x.resource (key_of s x))) refl c
  where
    same : (v : Validator) (y : ℕ) → (not all && matches v y) ≡ true → v ≡ Matching text → y ≡ text
    same NoValidator y e q = bad (cc)
    same (Matching t) y e q = let r : t ≡ text = cc in grind (arith, nat_tests)

    go : (b : Bool) → (not all && matches x.validator (has x.resource (key_of s x))) ≡ b → Claims (answered (cond b (NotModified life private) (Full (has x.resource (key_of s x)) life private)) x) text → has x.resource (key_of s x) ≡ text
    go true e (full l p q) = bad (cc)
    go true e (not_modified l p q t) = same x.validator (has x.resource (key_of s x)) e t
    go false e (full l p q) = cc
    go false e (not_modified l p q t) = bad (cc)

answer_validated : (s : Setting) (life : ℕ) (private all : Bool) (reply : ℕ) (has : ℕ → ℕ → ℕ) (x : Exchange) (m : Method) (l : ℕ) (p : Bool) → answer_to s life private all reply has x m ≡ NotModified l p → x.validator ≡ Matching (matched x.validator)
answer_validated s life private all reply has x (Write t) l p e = bad (cc)
answer_validated s life private all reply has x Read l p e = go x.validator e
  where
    go : (v : Validator) → cond (not all && matches v (has x.resource (key_of s x))) (NotModified life private) (Full (has x.resource (key_of s x)) life private) ≡ NotModified l p → v ≡ Matching (matched v)
    go (Matching t) e = refl
    go NoValidator e = it (not all) e
      where
        it : (y : Bool) → cond (y && false) (NotModified life private) (Full (has x.resource (key_of s x)) life private) ≡ NotModified l p → NoValidator ≡ Matching 0
        it true e = bad (cc)
        it false e = bad (cc)

pub answer_given : (s : Setting) (life : ℕ) (private all : Bool) (reply : ℕ) (has : ℕ → ℕ → ℕ) (x : Exchange) (m : Method) → is_unanswered (answer_to s life private all reply has x m) ≡ false
answer_given s life private all reply has x Read = grind arith
answer_given s life private all reply has x (Write t) = refl

replaced_here : (r l t : ℕ) (has : ℕ → ℕ → ℕ) → replaced r l t has r l ≡ t
replaced_here r l t has = grind (arith, nat_tests)

-- a write that is done puts its text in place
answer_done : (s : Setting) (life : ℕ) (private all : Bool) (reply : ℕ) (has : ℕ → ℕ → ℕ) (x : Exchange) (m : Method) (z : ℕ) → answer_to s life private all reply has x m ≡ Done z → (t : ℕ) × (m ≡ Write t) × (has_after s x m has x.resource (key_of s x) ≡ t)
answer_done s life private all reply has x (Write t) z e = (t, refl, replaced_here x.resource (key_of s x) t has)
answer_done s life private all reply has x Read z e = go (not all && matches x.validator (has x.resource (key_of s x))) e
  where
    go : (y : Bool) → cond y (NotModified life private) (Full (has x.resource (key_of s x)) life private) ≡ Done z → (t : ℕ) × (Read ≡ Write t) × (has x.resource (key_of s x) ≡ t)
    go true e = bad (cc)
    go false e = bad (cc)

does_act : (s : Setting) (w : World) (c life : ℕ) (private all : Bool) (reply : ℕ) → Next s (Act c life private all reply) w (step s (Act c life private all reply) w)
does_act s w c life private all reply = go (get_or w.connections c Idle) refl
  where
    none : (d : ℕ) → Ends d (Act c life private all reply) → ⊥
    none d (received b i q) = bad (cc)
    none d (lost q) = bad (cc)

    mild : Mild s (Act c life private all reply) w
    mild = quiet s (Act c life private all reply) w none

    it : (x : Exchange) → On w c x → (b : Bool) → is_unanswered x.answer ≡ b → Next s (Act c life private all reply) w (cond b (acts s c x (answer_to s life private all reply w.has x x.method) w) w)
    it x o false u = nop s (Act c life private all reply) w mild
    it x o true u = answers_next s (Act c life private all reply) w _ c x (answer_to s life private all reply w.has x x.method) mild o u (answer_given s life private all reply w.has x x.method) (answer_claims s life private all reply w.has x x.method)
        (λ z d. (is_in_here x.number x.number w.acted refl, answer_done s life private all reply w.has x x.method z d)) (λ l p q. answer_validated s life private all reply w.has x x.method l p q) refl refl
        (λ n h. ⊎_elim (λ z. inr z) (λ z. inl z) (is_in-cons n x.number w.acted h)) refl

    go : (k : Connection) → get_or w.connections c Idle ≡ k → Next s (Act c life private all reply) w (act s c life private all reply k w)
    go Idle q = nop s (Act c life private all reply) w mild
    go (Busy x) q = it x q (is_unanswered x.answer) refl

does_decline : (s : Setting) (w : World) (c reply : ℕ) → Next s (Decline c reply) w (step s (Decline c reply) w)
does_decline s w c reply = go (get_or w.connections c Idle) refl
  where
    none : (d : ℕ) → Ends d (Decline c reply) → ⊥
    none d (received b i q) = bad (cc)
    none d (lost q) = bad (cc)

    mild : Mild s (Decline c reply) w
    mild = quiet s (Decline c reply) w none

    claims_none : (x : Exchange) (text : ℕ) → Claims (answered (Other reply) x) text → w.has x.resource (key_of s x) ≡ text
    claims_none x text (full l p e) = bad (cc)
    claims_none x text (not_modified l p e q) = bad (cc)

    it : (x : Exchange) → On w c x → (b : Bool) → is_unanswered x.answer ≡ b → Next s (Decline c reply) w (cond b (declines c x reply w) w)
    it x o false u = nop s (Decline c reply) w mild
    it x o true u = answers_next s (Decline c reply) w _ c x (Other reply) mild o u refl (claims_none x) (λ z d. bad (cc)) (λ l p q. bad (cc)) refl refl (λ n h. inl h) refl

    go : (k : Connection) → get_or w.connections c Idle ≡ k → Next s (Decline c reply) w (decline c reply k w)
    go Idle q = nop s (Decline c reply) w mild
    go (Busy x) q = it x q (is_unanswered x.answer) refl

does_forward : (s : Setting) (w : World) (c cl r l : ℕ) (m : Method) (v : Validator) (storable : Bool) → Next s (Forward c cl r l m v storable) w (step s (Forward c cl r l m v storable) w)
does_forward s w c cl r l m v storable = go (get_or w.connections c Idle)
  where
    none : (d : ℕ) → Ends d (Forward c cl r l m v storable) → ⊥
    none d (received b i q) = bad (cc)
    none d (lost q) = bad (cc)

    mild : Mild s (Forward c cl r l m v storable) w
    mild = quiet s (Forward c cl r l m v storable) w none

    x : Exchange
    x = request w.next w.now cl r l m v storable

    is_it : (y : Exchange) → Busy x ≡ Busy y → x ≡ y
    is_it y q = cc

    back : (j : ℕ) (y : Exchange) → On (forwards c x w) j y → Back s w (forwards c x w) c j y
    back j y q = ⊎_elim (λ z. subst (λ (y : Exchange). Back s w (forwards c x w) c j y) (is_it y (sym z.1 ∙ q)) (fresh z.0 refl (omega arith) (omega arith) refl)) (λ z. alike y (sym z ∙ q) (like_self y) refl) (get_set w.connections c (Busy x) Idle j)

    it : (b : Bool) → Next s (Forward c cl r l m v storable) w (cond b (forwards c x w) w)
    it false = nop s (Forward c cl r l m v storable) w mild
    it true = record { new = c; acted_back = λ n h. inl h; ended_back = λ n h. inl h; back = back; settles = λ c p reply o d en. absurd (mild.settles c p reply o d en); stored = λ i k h. inl (i, h); withdrawn = λ c b i q en o j k h r l z. mild.withdraws c b i q k.text en o z }

    go : (k : Connection) → Next s (Forward c cl r l m v storable) w (forward c cl r l m v storable k w)
    go (Busy y) = nop s (Forward c cl r l m v storable) w mild
    go Idle = it (ltb c connection_count)

-- what a test takes out of the store
get-without : (test : Stored → Bool) (ks : List Slot) (j : ℕ) (k : Stored) → get_or (map (without test) ks) j Empty ≡ Filled k → (get_or ks j Empty ≡ Filled k) × (test k ≡ false)
get-without test ks j k h = go (get_or ks j Empty) refl (sym (get-map (without test) Empty refl ks j) ∙ h)
  where
    it : (o : Stored) (b : Bool) → test o ≡ b → cond b Empty (Filled o) ≡ Filled k → get_or ks j Empty ≡ Filled o → (get_or ks j Empty ≡ Filled k) × (test k ≡ false)
    it o true e q z = bad (cc)
    it o false e q z = (z ∙ q, let r : o ≡ k = cc in (sym (ap test r) ∙ e))

    go : (f : Slot) → get_or ks j Empty ≡ f → without test f ≡ Filled k → (get_or ks j Empty ≡ Filled k) × (test k ≡ false)
    go Empty z q = bad (cc)
    go (Filled o) z q = it o (test o) refl q z

-- the end of what is on a connection
module _ (s : Setting) (es : List Event) (w : World) (inv : Inv s es w) (c : ℕ) (x : Exchange) (o : On w c x) where
  same_exchange : (d : ℕ) (p : Exchange) → c ≡ d → On w d p → x ≡ p
  same_exchange d p q h = let z = ap (λ (j : ℕ). get_or w.connections j Idle) q in cc

  set_back : (d : ℕ) (y : Exchange) → get_or (set w.connections c Idle) d Idle ≡ Busy y → On w d y
  set_back d y h = ⊎_elim (λ t. let z = t.1 in bad (cc)) (λ t. sym t ∙ h) (get_set w.connections c Idle Idle d)

  ended_finish : (n : ℕ) (cs : List Connection) → get_or cs c Idle ≡ Idle → is_in n (numbers (x ∷ w.ended)) ≡ true → (is_in n (numbers w.ended) ≡ true) ⊎ ((d : ℕ) × (y : Exchange) × On w d y × (y.number ≡ n) × (get_or cs d Idle ≡ Idle))
  ended_finish n cs q h = ⊎_elim (λ e. inr (c, x, o, e, q)) (λ e. inl e) (numbers-cons n x w.ended h)

  -- it ends, and invalidates nothing
  plain : (e : Event) (ks : List Slot) (content : Content) → ((d : ℕ) → Ends d e → c ≡ d) → ((reply : ℕ) → x.answer ≡ Done reply → ⊥) → ((j : ℕ) (k : Stored) → get_or ks j Empty ≡ Filled k → Old w k ⊎ Newly s w (finish x (set w.connections c Idle) ks content w) k) →
      ((j : ℕ) (k : Stored) → get_or ks j Empty ≡ Filled k → (b : Bool) (i : ℕ) → e ≡ Receive c b i → x.resource ≡ k.resource → key_of s x ≡ k.language → Withdraws s x k.text → ⊥) → Next s e w (finish x (set w.connections c Idle) ks content w)
  plain e ks content ec nd kk wd = record {
    new = 0;
    acted_back = λ n h. inl h;
    ended_back = λ n h. ended_finish n (set w.connections c Idle) (get_clear w.connections c Idle) h;
    back = λ d y h. alike y (set_back d y h) (like_self y) refl;
    settles = λ d p reply h q en. absurd (nd reply (ap (λ (y : Exchange). y.answer) (same_exchange d p (ec d en) h) ∙ q));
    stored = kk;
    withdrawn = λ d b i q en h j k f r l z. take d b i q en (ec d (received b i en)) (same_exchange d q (ec d (received b i en)) h) j k f r l z;
  }
    where
      take : (d : ℕ) (b : Bool) (i : ℕ) (q : Exchange) → e ≡ Receive d b i → c ≡ d → x ≡ q → (j : ℕ) (k : Stored) → get_or ks j Empty ≡ Filled k → q.resource ≡ k.resource → key_of s q ≡ k.language → Withdraws s q k.text → ⊥
      take d b i q en cd eq j k f r l z = wd j k f b i (en ∙ ap (λ (m : ℕ). Receive m b i) (sym cd)) (ap (λ (y : Exchange). y.resource) eq ∙ r) (ap (λ (y : Exchange). key_of s y) eq ∙ l) (subst (λ (y : Exchange). Withdraws s y k.text) (sym eq) z)

  -- it ends, and invalidates
  invalidate_back : (d : ℕ) (y : Exchange) → get_or (map (invalidate x.resource) (set w.connections c Idle)) d Idle ≡ Busy y → (z : Exchange) × On w d z × Like z y × (y.answer ≡ z.answer) × (y.resource ≡ x.resource → y.invalidated ≡ true)
  invalidate_back d y h = go (get_or (set w.connections c Idle) d Idle) refl (sym (get-map (invalidate x.resource) Idle refl (set w.connections c Idle) d) ∙ h)
    where
      it : (z : Exchange) → On w d z → (t : Bool) → eqb z.resource x.resource ≡ t → cond t (Busy (outdated z)) (Busy z) ≡ Busy y → (u : Exchange) × On w d u × Like u y × (y.answer ≡ u.answer) × (y.resource ≡ x.resource → y.invalidated ≡ true)
      it z oz true e q = let r : outdated z ≡ y = cc in (
        z,
        oz,
        subst (λ (u : Exchange). Like z u) r (record { number = refl; resource = refl; language = refl; method = refl; validator = refl; at = refl; clean = λ f. cc }),
        sym (ap (λ (u : Exchange). u.answer) r),
        λ t. sym (ap (λ (u : Exchange). u.invalidated) r),
      )
      it z oz false e q = let r : z ≡ y = cc in (z, oz, subst (λ (u : Exchange). Like z u) r (like_self z), sym (ap (λ (u : Exchange). u.answer) r), λ t. let v = ap (λ (u : Exchange). eqb u.resource x.resource) r in let f = eq-eqb y.resource x.resource t in cc)

      go : (k : Connection) → get_or (set w.connections c Idle) d Idle ≡ k → invalidate x.resource k ≡ Busy y → (u : Exchange) × On w d u × Like u y × (y.answer ≡ u.answer) × (y.resource ≡ x.resource → y.invalidated ≡ true)
      go Idle q e = bad (cc)
      go (Busy z) q e = it z (set_back d z q) (eqb z.resource x.resource) refl e

  idle_after : get_or (map (invalidate x.resource) (set w.connections c Idle)) c Idle ≡ Idle
  idle_after = get-map (invalidate x.resource) Idle refl (set w.connections c Idle) c ∙ ap (invalidate x.resource) (get_clear w.connections c Idle)

  invalidating : (e : Event) (content : Content) → ((d : ℕ) → Ends d e → c ≡ d) → Next s e w (finish x (map (invalidate x.resource) (set w.connections c Idle)) (map (without (of_resource x.resource)) w.slots) content w)
  invalidating e content ec = record {
    new = 0;
    acted_back = λ n h. inl h;
    ended_back = λ n h. ended_finish n (map (invalidate x.resource) (set w.connections c Idle)) idle_after h;
    back = λ d y h. let t = invalidate_back d y h in alike t.0 t.1 t.2 t.3;
    settles = λ d p reply h q en. let eq = ap (λ (y : Exchange). y.resource) (same_exchange d p (ec d en) h) in (λ f y hy t. (invalidate_back f y hy).4 (t ∙ sym eq), λ j k hk t. gone j k hk (t ∙ sym eq));
    stored = λ j k h. inl (j, (get-without (of_resource x.resource) w.slots j k h).0);
    withdrawn = λ d b i q en h j k f r l z. let eq = ap (λ (y : Exchange). y.resource) (same_exchange d q (ec d (received b i en)) h) in gone j k f (sym r ∙ sym eq);
  }
    where
      gone : (j : ℕ) (k : Stored) → get_or (map (without (of_resource x.resource)) w.slots) j Empty ≡ Filled k → k.resource ≡ x.resource → ⊥
      gone j k h q = let u = (get-without (of_resource x.resource) w.slots j k h).1 in clash (sym (eq-eqb k.resource x.resource q) ∙ u)

  stores_new : (b : Bool) (i text life : ℕ) (content : Content) (ks : List Slot) (w' : World) → w'.ended ≡ x ∷ w.ended → ((j : ℕ) (k : Stored) → get_or ks j Empty ≡ Filled k → Old w k) → Word x text life → (b ≡ true → Source w x (stored_of s x text life)) →
      (j : ℕ) (k : Stored) → get_or (store_if b i s x text life ks) j Empty ≡ Filled k → Old w k ⊎ Newly s w w' k
  stores_new b i text life content ks w' pq old word source j k h = go (b && (x.storable && not x.invalidated)) refl h
    where
      new : (b && (x.storable && not x.invalidated)) ≡ true → Newly s w w' (stored_of s x text life)
      new e = record { connection = c; exchange = x; on = o; ended = rw pq (Memᴰ.head refl); resource = refl; language = refl; at = refl; storable = grind arith; clean = grind arith; said = word; source = source (grind arith) }

      go : (y : Bool) → (b && (x.storable && not x.invalidated)) ≡ y → get_or (cond y (set ks i (Filled (stored_of s x text life))) ks) j Empty ≡ Filled k → Old w k ⊎ Newly s w w' k
      go false e h = inl (old j k h)
      go true e h = ⊎_elim (λ t. let z = t.1 in let r : stored_of s x text life ≡ k = cc in inr (subst (λ (y : Stored). Newly s w w' y) r (new e))) (λ t. inl (old j k (sym t ∙ h))) (get_set ks i (Filled (stored_of s x text life)) Empty j)

  ends_receive : (b : Bool) (i : ℕ) (d : ℕ) → Ends d (Receive c b i) → c ≡ d
  ends_receive b i d (received b2 i2 q) = cc
  ends_receive b i d (lost q) = bad (cc)

  ends_lose : (d : ℕ) → Ends d (Lose c) → c ≡ d
  ends_lose d (received b2 i2 q) = bad (cc)
  ends_lose d (lost q) = cc

  -- an answer that is not private withdraws nothing
  public_full : (t life : ℕ) → x.answer ≡ Full t life false → {y : ℕ} → Withdraws s x y → ⊥
  public_full t life q (Withdraws.full l e u) = bad (cc)
  public_full t life q (Withdraws.not_modified l e) = bad (cc)

  public_same : (life : ℕ) → x.answer ≡ NotModified life false → {y : ℕ} → Withdraws s x y → ⊥
  public_same life q (Withdraws.full l e u) = bad (cc)
  public_same life q (Withdraws.not_modified l e) = bad (cc)

  receives_full : (b : Bool) (i t life : ℕ) (private : Bool) → x.answer ≡ Full t life private → Next s (Receive c b i) w (receive b i s c x (Full t life private) w)
  receives_full b i t life true q = go (s.tagged t) refl
    where
      it : (k : Stored) (y : ℕ) → (eqb k.resource x.resource && (eqb k.language y && eqb k.text t)) ≡ false → x.resource ≡ k.resource → y ≡ k.language → k.text ≡ t → ⊥
      it k y f r l e = grind (arith, nat_tests)

      gone : (k : Stored) → of_text x.resource (key_of s x) t k ≡ false → x.resource ≡ k.resource → key_of s x ≡ k.language → Withdraws s x k.text → ⊥
      gone k f r l (Withdraws.full m e u) = let z : k.text ≡ t = cc in it k (key_of s x) f r l z
      gone k f r l (Withdraws.not_modified m e) = bad (cc)

      stays : (k : Stored) → s.tagged t ≡ false → Withdraws s x k.text → ⊥
      stays k f (Withdraws.full m e u) = let z : k.text ≡ t = cc in clash (sym u ∙ (ap s.tagged z ∙ f))
      stays k f (Withdraws.not_modified m e) = bad (cc)

      go : (y : Bool) → s.tagged t ≡ y → Next s (Receive c b i) w (finish x (set w.connections c Idle) (cond y (map (without (of_text x.resource (key_of s x) t)) w.slots) w.slots) (Text t) w)
      go true u = plain (Receive c b i) _ (Text t) (ends_receive b i) (λ reply e. bad (cc)) (λ j k h. inl (j, (get-without (of_text x.resource (key_of s x) t) w.slots j k h).0))
          (λ j k h b2 i2 q r l z. gone k (get-without (of_text x.resource (key_of s x) t) w.slots j k h).1 r l z)
      go false u = plain (Receive c b i) _ (Text t) (ends_receive b i) (λ reply e. bad (cc)) (λ j k h. inl (j, h)) (λ j k h b2 i2 q r l z. stays k u z)
  receives_full b i t life false q = plain (Receive c b i) _ (Text t) (ends_receive b i) (λ reply e. bad (cc)) (stores_new b i t life (Text t) w.slots _ refl (λ j k h. (j, h)) (inl q) (λ y. whole life q)) (λ j k h b2 i2 e r l z. public_full t life q z)

  receives_same : (b : Bool) (i life : ℕ) (private : Bool) → x.answer ≡ NotModified life private → Next s (Receive c b i) w (receive b i s c x (NotModified life private) w)
  receives_same b i life true q = plain (Receive c b i) _ (Text (matched x.validator)) (ends_receive b i) (λ reply e. bad (cc)) (λ j k h. inl (j, (get-without (of_language x.resource (key_of s x)) w.slots j k h).0))
      (λ j k h b2 i2 e r l z. it (key_of s x) k (get-without (of_language x.resource (key_of s x)) w.slots j k h).1 r l)
    where
      it : (y : ℕ) (k : Stored) → (eqb k.resource x.resource && eqb k.language y) ≡ false → x.resource ≡ k.resource → y ≡ k.language → ⊥
      it y k f r l = grind (arith, nat_tests)
  receives_same b i life false q = plain (Receive c b i) _ (Text (matched x.validator)) (ends_receive b i) (λ reply e. bad (cc))
      (stores_new (b && holds (of_text x.resource (key_of s x) (matched x.validator)) (get_or w.slots i Empty)) i (matched x.validator) life (Text (matched x.validator)) w.slots _ refl (λ j k h. (j, h)) (inr (q, (inv.live c x o).validated life false q)) (λ y. place (get_or w.slots i Empty) refl y))
      (λ j k h b2 i2 e r l z. public_same life q z)
    where
      tests : (k : Stored) (y : ℕ) → (b && (eqb k.resource x.resource && (eqb k.language y && eqb k.text (matched x.validator)))) ≡ true → (k.resource ≡ x.resource) × (k.language ≡ y) × (k.text ≡ matched x.validator)
      tests k y h = (grind (arith, nat_tests), grind (arith, nat_tests), grind (arith, nat_tests))

      place : (f : Slot) → get_or w.slots i Empty ≡ f → (b && holds (of_text x.resource (key_of s x) (matched x.validator)) f) ≡ true → Source w x (stored_of s x (matched x.validator) life)
      place Empty e h = none b h
        where
          none : (y : Bool) → (y && false) ≡ true → Source w x (stored_of s x (matched x.validator) life)
          none true h = bad (cc)
          none false h = bad (cc)
      place (Filled k) e h = let t = tests k (key_of s x) h in renewed i k e t.0 t.1 t.2

  does_receive : (b : Bool) (i : ℕ) (r : Answer) → x.answer ≡ r → Next s (Receive c b i) w (receive b i s c x r w)
  does_receive b i Unanswered e = nop s (Receive c b i) w (record { settles = λ d p reply h q en. let z = ap (λ (y : Exchange). y.answer) (same_exchange d p (ends_receive b i d en) h) in bad (cc); withdraws = λ d b2 i2 q t en h z. none (same_exchange d q (ends_receive b i d (received b2 i2 en)) h) z })
    where
      none : {q : Exchange} {t : ℕ} → x ≡ q → Withdraws s q t → ⊥
      none r (Withdraws.full l f u) = let z = ap (λ (y : Exchange). y.answer) r in bad (cc)
      none r (Withdraws.not_modified l f) = let z = ap (λ (y : Exchange). y.answer) r in bad (cc)
  does_receive b i (Full t life private) e = receives_full b i t life private e
  does_receive b i (NotModified life private) e = receives_same b i life private e
  does_receive b i (Done reply) e = invalidating (Receive c b i) (Acknowledged reply) (ends_receive b i)
  does_receive b i (Other reply) e = plain (Receive c b i) w.slots (Passed reply) (ends_receive b i) (λ z f. bad (cc)) (λ j k h. inl (j, h)) (λ j k h b2 i2 q r l z. none z)
    where
      none : {t : ℕ} → Withdraws s x t → ⊥
      none (Withdraws.full l f u) = bad (cc)
      none (Withdraws.not_modified l f) = bad (cc)

  does_lose : (m : Method) → x.method ≡ m → Next s (Lose c) w (lose c x m w)
  does_lose (Write t) e = invalidating (Lose c) Lost ends_lose
  does_lose Read e = plain (Lose c) w.slots Lost ends_lose (λ reply d. let r = ((inv.live c x o).done reply d).1 in let u = r.1 in bad (cc)) (λ j k h. inl (j, h)) (λ j k h b2 i2 q r l z. bad (cc))

pub start_inv : (s : Setting) → Inv s [] (start s)
unfolding is_in numbers
start_inv s = record {
  positive = omega arith;
  live = λ c x h. let r = get_replicate connection_count c Idle in bad (cc);
  distinct = λ c d x y h. let r = get_replicate connection_count c Idle in bad (cc);
  below = λ n h. bad (cc);
  gone = λ n h. bad (cc);
  settled = λ p z. absurd (no_cut z.later z.before z.event z.cut);
  stored = λ i k h. let r = get_replicate s.places i Empty in bad (cc);
}

does_serve : (s : Setting) (w : World) (c r l i : ℕ) → Next s (Serve c r l i) w (step s (Serve c r l i) w)
does_serve s w c r l i = go (get_or w.slots i Empty)
  where
    none : (d : ℕ) → Ends d (Serve c r l i) → ⊥
    none d (received b j q) = bad (cc)
    none d (lost q) = bad (cc)

    mild : Mild s (Serve c r l i) w
    mild = quiet s (Serve c r l i) w none

    it : (k : Stored) (b : Bool) → Next s (Serve c r l i) w (cond b (serves c r l k w) w)
    it k false = nop s (Serve c r l i) w mild
    it k true = still s (Serve c r l i) w _ mild refl refl refl (λ j x h. (j, h))

    go : (f : Slot) → Next s (Serve c r l i) w (serve s c r l f w)
    go Empty = nop s (Serve c r l i) w mild
    go (Filled k) = it k (may_serve s w.now r l k)

-- every event
does : (s : Setting) (es : List Event) (e : Event) (w : World) → Inv s es w → Next s e w (step s e w)
does s es Tick w i = still s Tick w _ (quiet s Tick w none) refl refl refl (λ j x h. (j, h))
  where
    none : (d : ℕ) → Ends d Tick → ⊥
    none d (received b j q) = bad (cc)
    none d (lost q) = bad (cc)
does s es (Change r l t) w i = still s (Change r l t) w _ (quiet s (Change r l t) w none) refl refl refl (λ j x h. (j, h))
  where
    none : (d : ℕ) → Ends d (Change r l t) → ⊥
    none d (received b j q) = bad (cc)
    none d (lost q) = bad (cc)
does s es (Forward c cl r l m v storable) w i = does_forward s w c cl r l m v storable
does s es (Act c life private all reply) w i = does_act s w c life private all reply
does s es (Decline c reply) w i = does_decline s w c reply
does s es (Receive c b j) w i = go (get_or w.connections c Idle) refl
  where
    idle : get_or w.connections c Idle ≡ Idle → (d : ℕ) (p : Exchange) → Ends d (Receive c b j) → On w d p → ⊥
    idle q d p (received b2 i2 r) h = let cd : c ≡ d = cc in let z = ap (λ (m : ℕ). get_or w.connections m Idle) cd in bad (cc)
    idle q d p (lost r) h = bad (cc)

    go : (k : Connection) → get_or w.connections c Idle ≡ k → Next s (Receive c b j) w (receive_on b j s c k w)
    go Idle q = nop s (Receive c b j) w (record { settles = λ d p reply h z en. idle q d p en h; withdraws = λ d b2 i2 p t en h z. idle q d p (received b2 i2 en) h })
    go (Busy x) q = does_receive s es w i c x q b j x.answer refl
does s es (Lose c) w i = go (get_or w.connections c Idle) refl
  where
    idle : get_or w.connections c Idle ≡ Idle → (d : ℕ) (p : Exchange) → Ends d (Lose c) → On w d p → ⊥
    idle q d p (received b2 i2 r) h = bad (cc)
    idle q d p (lost r) h = let cd : c ≡ d = cc in let z = ap (λ (m : ℕ). get_or w.connections m Idle) cd in bad (cc)

    go : (k : Connection) → get_or w.connections c Idle ≡ k → Next s (Lose c) w (lose_on c k w)
    go Idle q = nop s (Lose c) w (record { settles = λ d p reply h z en. idle q d p en h; withdraws = λ d b2 i2 p t en h z. idle q d p (received b2 i2 en) h })
    go (Busy x) q = does_lose s es w i c x q x.method refl
does s es (Serve c r l j) w i = does_serve s w c r l j
does s es (Evict j) w i = still s (Evict j) w _ (quiet s (Evict j) w none) refl refl refl (λ m k h. ⊎_elim (λ t. let z = t.1 in bad (cc)) (λ t. (m, sym t ∙ h)) (get_set w.slots j Empty Empty m))
  where
    none : (d : ℕ) → Ends d (Evict j) → ⊥
    none d (received b m q) = bad (cc)
    none d (lost q) = bad (cc)

-- and so every run
pub runs : (s : Setting) (es : List Event) → Inv s es (world s es)
unfolding world
runs s [] = start_inv s
runs s (e ∷ es) = next_inv s es e (step s e (world s es)) refl (grows s e (world s es)) (runs s es) (does s es e (world s es) (runs s es))
