-- The promise of every run, from the invariant.
use Rattle.std.proofs.Common.{◌≡◌, ℕ, ◌+◌, ◌<◌, ◌≤◌, Bool, true, false, cond, ◌&&◌, T, eqb, ltb, leb, ◌⊎◌, List, [], ◌∷◌, ◌++◌, get_or, sym, refl, ap, ◌∙◌, subst, inl, inr, ⊎_elim, arith}
use mathlib.Core.List.Memᴰ
use mathlib.Core.List.{Memᴰ}
use Rattle.std.proofs.lemmas.Bool.Decides.{nat_tests}
use Rattle.model.specs.Exchanges.{Method, Read, Write, Answer, Unanswered, Full, NotModified, Done, Other, Exchange, Stored, Connection, Idle, Busy, Slot, Empty, Filled}
use Rattle.model.specs.World.{Setting, Content, Text, Acknowledged, Passed, Lost, Delivery, World, Event, Tick, Change, Forward, Act, Decline, Receive, Lose, Serve, Evict, connection_count, language_of, matched, answer_to, answered, is_unanswered, deliver, receive, lose, may_serve, served, serves, serve, request, forwards, forward, acts, act, declines, decline, receive_on, lose_on, step, world}
use Rattle.model.specs.Promise.{is_in, numbers, apart, Receipt, receipts, endings, On, Settled, Claims, full, not_modified, Moment, FromOrigin, FromStore, Shown, Answers, Did, Told, IsDelivered, Promised}
use Rattle.promise.proofs.Lists.{bad, not_true, ends_of, grows, grows_run}
use Rattle.promise.proofs.Invariant.{Vouched, Brought, Inv}
use Rattle.promise.proofs.Steps.{runs, set_on, answer_given}

-- what an event adds to what was delivered
data Added (s : Setting) (e : Event) (w w' : World) : Type 0 where
  nothing : w'.delivered ≡ w.delivered → w'.ended ≡ w.ended → Added s e w w'
  origin : (c : ℕ) (b : Bool) (i : ℕ) (x : Exchange) (t : ℕ) → e ≡ Receive c b i → On w c x → Claims x t → w'.ended ≡ x ∷ w.ended → w'.delivered ≡ deliver x (Text t) w.delivered → Added s e w w'
  store : (c r l i : ℕ) (k : Stored) → e ≡ Serve c r l i → get_or w.slots i Empty ≡ Filled k → may_serve s w.now r l k ≡ true → w'.delivered ≡ served c r l k.text ∷ w.delivered → w'.ended ≡ w.ended → Added s e w w'
  done : (c : ℕ) (x : Exchange) (reply : ℕ) → On w c x → x.answer ≡ Done reply → w'.ended ≡ x ∷ w.ended → w'.delivered ≡ deliver x (Acknowledged reply) w.delivered → Added s e w w'
  other : (c : ℕ) (x : Exchange) (reply : ℕ) → On w c x → x.answer ≡ Other reply → w'.ended ≡ x ∷ w.ended → w'.delivered ≡ deliver x (Passed reply) w.delivered → Added s e w w'
  broken : (c : ℕ) (x : Exchange) → On w c x → w'.ended ≡ x ∷ w.ended → w'.delivered ≡ deliver x Lost w.delivered → Added s e w w'

added : (s : Setting) (es : List Event) (e : Event) (w : World) → Inv s es w → Added s e w (step s e w)
added s es Tick w i = nothing refl refl
added s es (Change r l t) w i = nothing refl refl
added s es (Forward c cl r l m v storable) w i = go (get_or w.connections c Idle)
  where
    it : (b : Bool) → Added s (Forward c cl r l m v storable) w (cond b (forwards c (request w.next w.now cl r l m v storable) w) w)
    it true = nothing refl refl
    it false = nothing refl refl

    go : (k : Connection) → Added s (Forward c cl r l m v storable) w (forward c cl r l m v storable k w)
    go Idle = it (ltb c connection_count)
    go (Busy x) = nothing refl refl
added s es (Act c life private all reply) w i = go (get_or w.connections c Idle)
  where
    it : (x : Exchange) (b : Bool) → Added s (Act c life private all reply) w (cond b (acts s c x (answer_to s life private all reply w.has x x.method) w) w)
    it x true = nothing refl refl
    it x false = nothing refl refl

    go : (k : Connection) → Added s (Act c life private all reply) w (act s c life private all reply k w)
    go Idle = nothing refl refl
    go (Busy x) = it x (is_unanswered x.answer)
added s es (Decline c reply) w i = go (get_or w.connections c Idle)
  where
    it : (x : Exchange) (b : Bool) → Added s (Decline c reply) w (cond b (declines c x reply w) w)
    it x true = nothing refl refl
    it x false = nothing refl refl

    go : (k : Connection) → Added s (Decline c reply) w (decline c reply k w)
    go Idle = nothing refl refl
    go (Busy x) = it x (is_unanswered x.answer)
added s es (Receive c b j) w i = go (get_or w.connections c Idle) refl
  where
    it : (x : Exchange) → On w c x → (r : Answer) → x.answer ≡ r → Added s (Receive c b j) w (receive b j s c x r w)
    it x o Unanswered e = nothing refl refl
    it x o (Full t life private) e = origin c b j x t refl o (full life private e) refl refl
    it x o (NotModified life private) e = origin c b j x (matched x.validator) refl o (not_modified life private e ((i.live c x o).validated life private e)) refl refl
    it x o (Done reply) e = done c x reply o e refl refl
    it x o (Other reply) e = other c x reply o e refl refl

    go : (k : Connection) → get_or w.connections c Idle ≡ k → Added s (Receive c b j) w (receive_on b j s c k w)
    go Idle q = nothing refl refl
    go (Busy x) q = it x q x.answer refl
added s es (Lose c) w i = go (get_or w.connections c Idle) refl
  where
    it : (x : Exchange) → On w c x → (m : Method) → Added s (Lose c) w (lose c x m w)
    it x o Read = broken c x o refl refl
    it x o (Write t) = broken c x o refl refl

    go : (k : Connection) → get_or w.connections c Idle ≡ k → Added s (Lose c) w (lose_on c k w)
    go Idle q = nothing refl refl
    go (Busy x) q = it x q x.method
added s es (Serve c r l j) w i = go (get_or w.slots j Empty) refl
  where
    it : (k : Stored) → get_or w.slots j Empty ≡ Filled k → (b : Bool) → may_serve s w.now r l k ≡ b → Added s (Serve c r l j) w (cond b (serves c r l k w) w)
    it k o true e = store c r l j k refl o e refl refl
    it k o false e = nothing refl refl

    go : (f : Slot) → get_or w.slots j Empty ≡ f → Added s (Serve c r l j) w (serve s c r l f w)
    go Empty q = nothing refl refl
    go (Filled k) q = it k q (may_serve s w.now r l k) refl
added s es (Evict j) w i = nothing refl refl

-- what may be served is of this resource and language, and not past its lifetime
may_facts : (s : Setting) (now r l : ℕ) (k : Stored) → may_serve s now r l k ≡ true → (k.resource ≡ r) × (k.language ≡ language_of s r l) × (now ≤ k.requested_at + k.lifetime)
may_facts s now r l k h = go (language_of s r l) h
  where
    go : (y : ℕ) → (eqb k.resource r && (eqb k.language y && (ltb 0 k.lifetime && leb now (k.requested_at + k.lifetime)))) ≡ true → (k.resource ≡ r) × (k.language ≡ y) × (now ≤ k.requested_at + k.lifetime)
    go y h = (grind (arith, nat_tests), grind (arith, nat_tests), grind (arith, nat_tests))

-- the delivery of a text in answer to an exchange
abbrev answer_of : Exchange → Content → Delivery
answer_of x content = record { client = x.client; exchange = x.number; resource = x.resource; language = x.language; content = content }

from_origin : (s : Setting) (es : List Event) (c : ℕ) (b : Bool) (i : ℕ) (x : Exchange) (t : ℕ) → On (world s es) c x → Claims x t → FromOrigin s es (Receive c b i) (answer_of x (Text t)) t
from_origin s es c b i x t o cl = go (((runs s es).live c x o).vouched t cl)
  where
    go : Vouched s es x t → FromOrigin s es (Receive c b i) (answer_of x (Text t)) t
    go z = record { connection = c; stores = b; place = i; receives = refl; exchange = x; on = o; number = refl; client = refl; resource = refl; language = refl; claims = cl; moment = m; writes = writes }
      where
        m : Moment s es x t
        m = z.moment

        writes : (later before : List Event) → es ≡ later ++ before → (world s before).next ≤ x.number → (p : Exchange) → Settled s before p → is_in p.number (world s m.before).acted ≡ true
        writes later before cut low p q = ⊎_elim (λ k. subst (λ (y : List Event). is_in p.number (world s y).acted ≡ true) (sym k.1) ((grows_run s k.0 before).acted p.number ((runs s before).settled p q)))
            (λ k. absurd (let r = (grows_run s k.0 m.before).next in let u = ap (λ (y : List Event). (world s y).next) k.1 in omega (arith, m.forwarded)))
            (ends_of m.later later m.before before (sym m.cut ∙ cut))

from_store : (s : Setting) (es : List Event) (c r l i : ℕ) (k : Stored) → get_or (world s es).slots i Empty ≡ Filled k → may_serve s (world s es).now r l k ≡ true → FromStore s es (Serve c r l i) (served c r l k.text) k.text
from_store s es c r l i k o q = go ((runs s es).stored i k o) (may_facts s (world s es).now r l k q)
  where
    go : Brought s es (world s es) k → (k.resource ≡ r) × (k.language ≡ language_of s r l) × ((world s es).now ≤ k.requested_at + k.lifetime) → FromStore s es (Serve c r l i) (served c r l k.text) k.text
    go b f = record {
      place = i;
      serves = refl;
      exchange = b.exchange;
      ended = b.ended;
      resource = b.resource ∙ f.0;
      language = b.language ∙ f.1;
      storable = b.storable;
      lifetime = k.lifetime;
      said = b.said;
      moment = b.moment;
      fresh = let z = b.at in omega (arith, f.2, b.since);
      writes = λ p z e. b.writes p z (e ∙ sym f.0);
      first = b.first.exchange;
      first_ended = b.first.ended;
      first_resource = b.first.resource ∙ f.0;
      first_language = b.first.language ∙ f.1;
      first_storable = b.first.storable;
      first_said = (b.first.lifetime, b.first.said);
      unwithdrawn = λ later before d j bb p cut on e1 e2 z. b.first.unwithdrawn later before d j bb p cut on (e1 ∙ sym f.0) (e2 ∙ sym f.1) z;
    }

shown_on : (s : Setting) (e : Event) (es : List Event) (d : Delivery) (t : ℕ) → Shown s es d t → Shown s (e ∷ es) d t
shown_on s e es d t z = record { later = e ∷ z.later; event = z.event; before = z.before; cut = ap (λ y. e ∷ y) z.cut; delivers = z.delivers; from = z.from }

-- which text it is
text_is : (d : Delivery) (t u : ℕ) → d.content ≡ Text u → d.content ≡ Text t → u ≡ t
text_is d t u p q = cc

-- a text just delivered, whatever it came from
shown_now : (s : Setting) (e : Event) (es : List Event) (d d' : Delivery) (t u : ℕ) → d ≡ d' → d.content ≡ Text t → d'.content ≡ Text u → (world s (e ∷ es)).delivered ≡ d' ∷ (world s es).delivered → FromOrigin s es e d' u ⊎ FromStore s es e d' u → Shown s (e ∷ es) d t
shown_now s e es d d' t u q qt qu r from = record {
  later = [];
  event = e;
  before = es;
  cut = refl;
  delivers = r ∙ ap (λ (z : Delivery). z ∷ (world s es).delivered) (sym q);
  from = subst (λ (z : ℕ). FromOrigin s es e d z ⊎ FromStore s es e d z) (text_is d t u (ap (λ (z : Delivery). z.content) q ∙ qu) qt) (subst (λ (z : Delivery). FromOrigin s es e z u ⊎ FromStore s es e z u) (sym q) from);
}

shown : (s : Setting) (es : List Event) (d : Delivery) (t : ℕ) → Memᴰ d (world s es).delivered → d.content ≡ Text t → Shown s es d t
unfolding world
shown s [] d t m q = elim m [ ]
shown s (e ∷ es) d t m q = go (added s es e (world s es) (runs s es)) (shown s es d t)
  where
    go : Added s e (world s es) (step s e (world s es)) → (Memᴰ d (world s es).delivered → d.content ≡ Text t → Shown s es d t) → Shown s (e ∷ es) d t
    go (nothing r pq) ih = shown_on s e es d t (ih (rw r at m) q)
    go (origin c b i x y en o cl pq r) ih = ⊎_elim (λ u. shown_now s e es d (answer_of x (Text y)) t y u q refl r (inl (subst (λ (z : Event). FromOrigin s es z (answer_of x (Text y)) y) (sym en) (from_origin s es c b i x y o cl)))) (λ u. shown_on s e es d t (ih u q)) (Memᴰ.cases_cons (rw r at m))
    go (store c rr l i k en o f r pq) ih = ⊎_elim (λ u. shown_now s e es d (served c rr l k.text) t k.text u q refl r (inr (subst (λ (z : Event). FromStore s es z (served c rr l k.text) k.text) (sym en) (from_store s es c rr l i k o f)))) (λ u. shown_on s e es d t (ih u q)) (Memᴰ.cases_cons (rw r at m))
    go (done c x reply o f pq r) ih = ⊎_elim (λ u. let y = ap (λ (z : Delivery). z.content) u in bad (cc)) (λ u. shown_on s e es d t (ih u q)) (Memᴰ.cases_cons (rw r at m))
    go (other c x reply o f pq r) ih = ⊎_elim (λ u. let y = ap (λ (z : Delivery). z.content) u in bad (cc)) (λ u. shown_on s e es d t (ih u q)) (Memᴰ.cases_cons (rw r at m))
    go (broken c x o pq r) ih = ⊎_elim (λ u. let y = ap (λ (z : Delivery). z.content) u in bad (cc)) (λ u. shown_on s e es d t (ih u q)) (Memᴰ.cases_cons (rw r at m))

-- a delivery answers the exchange that just ended
answers_now : (s : Setting) (e : Event) (es : List Event) (d : Delivery) (x : Exchange) (content : Content) → d ≡ answer_of x content → (world s (e ∷ es)).ended ≡ x ∷ (world s es).ended → Answers s (e ∷ es) d x
answers_now s e es d x content q pq = record { ended = rw pq (Memᴰ.head refl); number = sym (ap (λ (z : Delivery). z.exchange) q); client = sym (ap (λ (z : Delivery). z.client) q); resource = sym (ap (λ (z : Delivery). z.resource) q); language = sym (ap (λ (z : Delivery). z.language) q) }

answers_on : (s : Setting) (e : Event) (es : List Event) (d : Delivery) (x : Exchange) → Answers s es d x → Answers s (e ∷ es) d x
unfolding world
answers_on s e es d x a = record { ended = (grows s e (world s es)).exchanges x a.ended; number = a.number; client = a.client; resource = a.resource; language = a.language }

did_on : (s : Setting) (e : Event) (es : List Event) (x : Exchange) (t : ℕ) → Did s es x t → Did s (e ∷ es) x t
did_on s e es x t z = record { later = e ∷ z.later; event = z.event; before = z.before; cut = ap (λ y. e ∷ y) z.cut; forwarded = z.forwarded; not_yet = z.not_yet; acted = z.acted; has = z.has }

told : (s : Setting) (es : List Event) (d : Delivery) (reply : ℕ) → Memᴰ d (world s es).delivered → d.content ≡ Acknowledged reply → Told s es d reply
unfolding world
told s [] d reply m q = elim m [ ]
told s (e ∷ es) d reply m q = go (added s es e (world s es) (runs s es)) (told s es d reply)
  where
    on : Told s es d reply → Told s (e ∷ es) d reply
    on z = record { write = z.write; answers = answers_on s e es d z.write z.answers; said = z.said; text = z.text; method = z.method; did = did_on s e es z.write z.text z.did }

    reply_is : (z : ℕ) → d.content ≡ Acknowledged z → z ≡ reply
    reply_is z p = cc

    new : (c : ℕ) (x : Exchange) (z : ℕ) → On (world s es) c x → x.answer ≡ Done z → (world s (e ∷ es)).ended ≡ x ∷ (world s es).ended → d ≡ answer_of x (Acknowledged z) → Told s (e ∷ es) d reply
    new c x z o f pq u = let a = (((runs s es).live c x o).done z f).1 in
        record { write = x; answers = answers_now s e es d x (Acknowledged z) u pq; said = f ∙ ap Done (reply_is z (ap (λ (y : Delivery). y.content) u)); text = a.0; method = a.1; did = did_on s e es x a.0 a.2 }

    go : Added s e (world s es) (step s e (world s es)) → (Memᴰ d (world s es).delivered → d.content ≡ Acknowledged reply → Told s es d reply) → Told s (e ∷ es) d reply
    go (nothing r pq) ih = on (ih (rw r at m) q)
    go (origin c b i x y en o cl pq r) ih = ⊎_elim (λ u. let y = ap (λ (z : Delivery). z.content) u in bad (cc)) (λ u. on (ih u q)) (Memᴰ.cases_cons (rw r at m))
    go (store c rr l i k en o f r pq) ih = ⊎_elim (λ u. let y = ap (λ (z : Delivery). z.content) u in bad (cc)) (λ u. on (ih u q)) (Memᴰ.cases_cons (rw r at m))
    go (done c x z o f pq r) ih = ⊎_elim (λ u. new c x z o f pq u) (λ u. on (ih u q)) (Memᴰ.cases_cons (rw r at m))
    go (other c x z o f pq r) ih = ⊎_elim (λ u. let y = ap (λ (z : Delivery). z.content) u in bad (cc)) (λ u. on (ih u q)) (Memᴰ.cases_cons (rw r at m))
    go (broken c x o pq r) ih = ⊎_elim (λ u. let y = ap (λ (z : Delivery). z.content) u in bad (cc)) (λ u. on (ih u q)) (Memᴰ.cases_cons (rw r at m))

abbrev PassedOn : Setting → List Event → Delivery → ℕ → Type 0
PassedOn s es d reply = (x : Exchange) × Answers s es d x × (x.answer ≡ Other reply)

passed : (s : Setting) (es : List Event) (d : Delivery) (reply : ℕ) → Memᴰ d (world s es).delivered → d.content ≡ Passed reply → PassedOn s es d reply
unfolding world
passed s [] d reply m q = elim m [ ]
passed s (e ∷ es) d reply m q = go (added s es e (world s es) (runs s es)) (passed s es d reply)
  where
    on : PassedOn s es d reply → PassedOn s (e ∷ es) d reply
    on z = (z.0, answers_on s e es d z.0 z.1, z.2)

    reply_is : (z : ℕ) → d.content ≡ Passed z → z ≡ reply
    reply_is z p = cc

    go : Added s e (world s es) (step s e (world s es)) → (Memᴰ d (world s es).delivered → d.content ≡ Passed reply → PassedOn s es d reply) → PassedOn s (e ∷ es) d reply
    go (nothing r pq) ih = on (ih (rw r at m) q)
    go (origin c b i x y en o cl pq r) ih = ⊎_elim (λ u. let y = ap (λ (z : Delivery). z.content) u in bad (cc)) (λ u. on (ih u q)) (Memᴰ.cases_cons (rw r at m))
    go (store c rr l i k en o f r pq) ih = ⊎_elim (λ u. let y = ap (λ (z : Delivery). z.content) u in bad (cc)) (λ u. on (ih u q)) (Memᴰ.cases_cons (rw r at m))
    go (done c x z o f pq r) ih = ⊎_elim (λ u. let y = ap (λ (z : Delivery). z.content) u in bad (cc)) (λ u. on (ih u q)) (Memᴰ.cases_cons (rw r at m))
    go (other c x z o f pq r) ih = ⊎_elim (λ u. (x, answers_now s e es d x (Passed z) u pq, f ∙ ap Other (reply_is z (ap (λ (y : Delivery). y.content) u)))) (λ u. on (ih u q)) (Memᴰ.cases_cons (rw r at m))
    go (broken c x o pq r) ih = ⊎_elim (λ u. let y = ap (λ (z : Delivery). z.content) u in bad (cc)) (λ u. on (ih u q)) (Memᴰ.cases_cons (rw r at m))

receipts_more : (x : Exchange) (content : Content) (ds : List Delivery) → 0 < x.number → receipts (deliver x content ds) ≡ record { exchange = x.number; client = x.client } ∷ receipts ds
unfolding receipts
receipts_more x content ds h = let r : eqb x.number 0 ≡ false = grind (arith, nat_tests) in rw r

endings_more : (x : Exchange) (xs : List Exchange) → endings (x ∷ xs) ≡ record { exchange = x.number; client = x.client } ∷ endings xs
unfolding endings
endings_more x xs = refl

served_not : (c r l t : ℕ) (ds : List Delivery) → receipts (served c r l t ∷ ds) ≡ receipts ds
unfolding receipts
served_not c r l t ds = refl

start_once : receipts [] ≡ endings []
unfolding receipts endings
start_once = refl

once : (s : Setting) (es : List Event) → receipts (world s es).delivered ≡ endings (world s es).ended
unfolding world
once s [] = start_once
once s (e ∷ es) = go (added s es e (world s es) (runs s es)) (once s es)
  where
    more : (c : ℕ) (x : Exchange) (content : Content) → On (world s es) c x → receipts (world s es).delivered ≡ endings (world s es).ended → receipts (deliver x content (world s es).delivered) ≡ endings (x ∷ (world s es).ended)
    more c x content o ih = receipts_more x content (world s es).delivered ((runs s es).live c x o).positive ∙ (ap (λ (z : List Receipt). record { exchange = x.number; client = x.client } ∷ z) ih ∙ sym (endings_more x (world s es).ended))

    go : Added s e (world s es) (step s e (world s es)) → receipts (world s es).delivered ≡ endings (world s es).ended → receipts (step s e (world s es)).delivered ≡ endings (step s e (world s es)).ended
    go (nothing r pq) ih = ap receipts r ∙ (ih ∙ sym (ap endings pq))
    go (origin c b i x y en o cl pq r) ih = ap receipts r ∙ (more c x (Text y) o ih ∙ sym (ap endings pq))
    go (store c rr l i k en o f r pq) ih = ap receipts r ∙ (served_not c rr l k.text (world s es).delivered ∙ (ih ∙ sym (ap endings pq)))
    go (done c x z o f pq r) ih = ap receipts r ∙ (more c x (Acknowledged z) o ih ∙ sym (ap endings pq))
    go (other c x z o f pq r) ih = ap receipts r ∙ (more c x (Passed z) o ih ∙ sym (ap endings pq))
    go (broken c x o pq r) ih = ap receipts r ∙ (more c x Lost o ih ∙ sym (ap endings pq))

start_named : T (apart (numbers []))
unfolding apart numbers
start_named = tt

apart_more : (x : Exchange) (xs : List Exchange) → (is_in x.number (numbers xs) ≡ true → ⊥) → T (apart (numbers xs)) → T (apart (numbers (x ∷ xs)))
unfolding apart numbers
apart_more x xs h t = rw (not_true (is_in x.number (numbers xs)) h) t

named : (s : Setting) (es : List Event) → T (apart (numbers (world s es).ended))
unfolding world
named s [] = start_named
named s (e ∷ es) = go (added s es e (world s es) (runs s es)) (named s es)
  where
    same : (step s e (world s es)).ended ≡ (world s es).ended → T (apart (numbers (world s es).ended)) → T (apart (numbers (step s e (world s es)).ended))
    same pq t = subst (λ (z : List Exchange). T (apart (numbers z))) (sym pq) t

    more : (c : ℕ) (x : Exchange) → On (world s es) c x → (step s e (world s es)).ended ≡ x ∷ (world s es).ended → T (apart (numbers (world s es).ended)) → T (apart (numbers (step s e (world s es)).ended))
    more c x o pq t = subst (λ (z : List Exchange). T (apart (numbers z))) (sym pq) (apart_more x (world s es).ended ((runs s es).live c x o).unended t)

    go : Added s e (world s es) (step s e (world s es)) → T (apart (numbers (world s es).ended)) → T (apart (numbers (step s e (world s es)).ended))
    go (nothing r pq) ih = same pq ih
    go (origin c b i x y en o cl pq r) ih = more c x o pq ih
    go (store c rr l i k en o f r pq) ih = same pq ih
    go (done c x z o f pq r) ih = more c x o pq ih
    go (other c x z o f pq r) ih = more c x o pq ih
    go (broken c x o pq r) ih = more c x o pq ih

receive_delivers : (s : Setting) (w : World) (c : ℕ) (x : Exchange) → On w c x → is_unanswered x.answer ≡ false → IsDelivered x (step s (Receive c false 0) w)
receive_delivers s w c x o u = subst (λ (k : Connection). IsDelivered x (receive_on false 0 s c k w)) (sym o) (go x.answer u)
  where
    go : (r : Answer) → is_unanswered r ≡ false → IsDelivered x (receive false 0 s c x r w)
    go Unanswered e = bad (cc)
    go (Full t life private) e = (_, Memᴰ.head refl, refl, refl)
    go (NotModified life private) e = (_, Memᴰ.head refl, refl, refl)
    go (Done reply) e = (_, Memᴰ.head refl, refl, refl)
    go (Other reply) e = (_, Memᴰ.head refl, refl, refl)

act_delivers : (s : Setting) (w : World) (c : ℕ) (x : Exchange) → On w c x → IsDelivered x (step s (Receive c false 0) (step s (Act c 0 false false 0) w))
act_delivers s w c x o = subst (λ (k : Connection). IsDelivered x (step s (Receive c false 0) (act s c 0 false false 0 k w))) (sym o) (go (is_unanswered x.answer) refl)
  where
    r : Answer
    r = answer_to s 0 false false 0 w.has x x.method

    go : (b : Bool) → is_unanswered x.answer ≡ b → IsDelivered x (step s (Receive c false 0) (cond b (acts s c x r w) w))
    go true u = receive_delivers s (acts s c x r w) c (answered r x) (set_on w.connections c x (answered r x) o) (answer_given s 0 false false 0 w.has x x.method)
    go false u = receive_delivers s w c x o u

lose_delivers : (s : Setting) (w : World) (c : ℕ) (x : Exchange) → On w c x → IsDelivered x (step s (Lose c) w)
lose_delivers s w c x o = subst (λ (k : Connection). IsDelivered x (lose_on c k w)) (sym o) (go x.method)
  where
    go : (m : Method) → IsDelivered x (lose c x m w)
    go Read = (_, Memᴰ.head refl, refl, refl)
    go (Write t) = (_, Memᴰ.head refl, refl, refl)

waits : (s : Setting) (es : List Event) (c : ℕ) (x : Exchange) → On (world s es) c x → IsDelivered x (world s (Receive c false 0 ∷ (Act c 0 false false 0 ∷ es))) × IsDelivered x (world s (Lose c ∷ es))
unfolding world
waits s es c x o = (act_delivers s (world s es) c x o, lose_delivers s (world s es) c x o)

pub promised : Promised
promised s es = record {
  shown = shown s es;
  told = told s es;
  passed = passed s es;
  once = once s es;
  named = named s es;
  distinct = (runs s es).distinct;
  unended = λ c x o. not_true (is_in x.number (numbers (world s es).ended)) ((runs s es).live c x o).unended;
  waits = waits s es;
}
