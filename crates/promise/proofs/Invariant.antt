-- The invariant that carries the promise over a run, and the shape of a step that keeps it.
use Rattle.std.proofs.Common.{◌≡◌, ℕ, ◌<◌, ◌≤◌, Bool, true, false, ◌⊎◌, List, [], ◌∷◌, ◌++◌, get_or, sym, refl, ap, ◌∙◌, subst, inl, inr, ⊎_elim, arith}
use mathlib.Core.List.{Memᴰ}
use Rattle.model.specs.Exchanges.{Write, Validator, Matching, Unanswered, Full, NotModified, Done, Exchange, Stored, Idle, Empty, Filled}
use Rattle.model.specs.World.{Setting, World, Event, Receive, key_of, matched, is_unanswered, step, world}
use Rattle.model.specs.Promise.{is_in, numbers, On, Ends, Settled, Claims, full, not_modified, Withdraws, Moment, Unwithdrawn, Did}
use Rattle.promise.proofs.Lists.{bad, clash, not_true, cut-cons, Grows, grows_cut}

-- what an exchange under way was told, with the moment of it; the writes only as long as it is not invalidated
pub record Vouched (s : Setting) (es : List Event) (x : Exchange) (text : ℕ) : Type 0 where
  pub moment : Moment s es x text
  pub since : x.requested_at ≤ (world s moment.before).now
  pub writes : x.invalidated ≡ false → (p : Exchange) → Settled s es p → p.resource ≡ x.resource → is_in p.number (world s moment.before).acted ≡ true

-- an exchange under way
pub record Live (s : Setting) (es : List Event) (w : World) (x : Exchange) : Type 0 where
  pub low : x.number < w.next
  pub positive : 0 < x.number
  pub at : x.requested_at ≤ w.now
  pub unended : is_in x.number (numbers w.ended) ≡ true → ⊥
  pub unacted : is_unanswered x.answer ≡ true → is_in x.number w.acted ≡ true → ⊥
  pub done : (reply : ℕ) → x.answer ≡ Done reply → (is_in x.number w.acted ≡ true) × ((t : ℕ) × (x.method ≡ Write t) × Did s es x t)
  pub validated : (life : ℕ) (private : Bool) → x.answer ≡ NotModified life private → x.validator ≡ Matching (matched x.validator)
  pub vouched : (text : ℕ) → Claims x text → Vouched s es x text

abbrev pub Word : Exchange → ℕ → ℕ → Type 0
Word x text life = (x.answer ≡ Full text life false) ⊎ ((x.answer ≡ NotModified life false) × (x.validator ≡ Matching text))

-- the full answer that brought what is stored
pub record First (s : Setting) (es : List Event) (w : World) (k : Stored) : Type 0 where
  pub exchange : Exchange
  pub ended : Memᴰ exchange w.ended
  pub resource : exchange.resource ≡ k.resource
  pub language : key_of s exchange ≡ k.language
  pub storable : exchange.storable ≡ true
  pub lifetime : ℕ
  pub said : exchange.answer ≡ Full k.text lifetime false
  pub unwithdrawn : Unwithdrawn s es exchange k.resource k.language k.text

-- what is stored: the newest word about it, and the first
pub record Brought (s : Setting) (es : List Event) (w : World) (k : Stored) : Type 0 where
  pub exchange : Exchange
  pub ended : Memᴰ exchange w.ended
  pub resource : exchange.resource ≡ k.resource
  pub language : key_of s exchange ≡ k.language
  pub at : exchange.requested_at ≡ k.requested_at
  pub storable : exchange.storable ≡ true
  pub said : Word exchange k.text k.lifetime
  pub moment : Moment s es exchange k.text
  pub since : exchange.requested_at ≤ (world s moment.before).now
  pub writes : (p : Exchange) → Settled s es p → p.resource ≡ k.resource → is_in p.number (world s moment.before).acted ≡ true
  pub first : First s es w k

pub record Inv (s : Setting) (es : List Event) (w : World) : Type 0 where
  pub positive : 0 < w.next
  pub live : (c : ℕ) (x : Exchange) → On w c x → Live s es w x
  pub distinct : (c d : ℕ) (x y : Exchange) → On w c x → On w d y → x.number ≡ y.number → c ≡ d
  pub below : (n : ℕ) → is_in n w.acted ≡ true → n < w.next
  pub gone : (n : ℕ) → is_in n (numbers w.ended) ≡ true → n < w.next
  pub settled : (p : Exchange) → Settled s es p → is_in p.number w.acted ≡ true
  pub stored : (i : ℕ) (k : Stored) → get_or w.slots i Empty ≡ Filled k → Brought s es w k

-- an exchange x, and y that became of it
pub record Like (x y : Exchange) : Type 0 where
  pub number : y.number ≡ x.number
  pub resource : y.resource ≡ x.resource
  pub language : y.language ≡ x.language
  pub method : y.method ≡ x.method
  pub validator : y.validator ≡ x.validator
  pub at : y.requested_at ≡ x.requested_at
  pub clean : y.invalidated ≡ false → x.invalidated ≡ false

-- where what is on a connection after a step comes from: it was there; the origin answered it; it is new
pub data Back (s : Setting) (w w' : World) (new : ℕ) (c : ℕ) (y : Exchange) : Type 0 where
  alike : (x : Exchange) → On w c x → Like x y → y.answer ≡ x.answer → Back s w w' new c y
  answers : (x : Exchange) → On w c x → Like x y → is_unanswered x.answer ≡ true → is_unanswered y.answer ≡ false → ((text : ℕ) → Claims y text → w.has y.resource (key_of s y) ≡ text) →
      ((reply : ℕ) → y.answer ≡ Done reply → (is_in y.number w'.acted ≡ true) × ((t : ℕ) × (y.method ≡ Write t) × (w'.has y.resource (key_of s y) ≡ t))) →
      ((life : ℕ) (private : Bool) → y.answer ≡ NotModified life private → y.validator ≡ Matching (matched y.validator)) → Back s w w' new c y
  fresh : c ≡ new → y.number ≡ w.next → y.number < w'.next → y.requested_at ≤ w.now → y.answer ≡ Unanswered → Back s w w' new c y

-- what is stored anew was said in full, or renews the same text
pub data Source (w : World) (x : Exchange) (k : Stored) : Type 0 where
  whole : (life : ℕ) → x.answer ≡ Full k.text life false → Source w x k
  renewed : (i : ℕ) (o : Stored) → get_or w.slots i Empty ≡ Filled o → o.resource ≡ k.resource → o.language ≡ k.language → o.text ≡ k.text → Source w x k

-- what is stored anew, by the exchange that was on this connection
pub record Newly (s : Setting) (w w' : World) (k : Stored) : Type 0 where
  pub connection : ℕ
  pub exchange : Exchange
  pub on : On w connection exchange
  pub ended : Memᴰ exchange w'.ended
  pub resource : exchange.resource ≡ k.resource
  pub language : key_of s exchange ≡ k.language
  pub at : exchange.requested_at ≡ k.requested_at
  pub storable : exchange.storable ≡ true
  pub clean : exchange.invalidated ≡ false
  pub said : Word exchange k.text k.lifetime
  pub source : Source w exchange k

abbrev pub Old : World → Stored → Type 0
Old w k = (j : ℕ) × (get_or w.slots j Empty ≡ Filled k)

-- any step, by its effects
pub record Next (s : Setting) (e : Event) (w w' : World) : Type 0 where
  pub new : ℕ
  pub acted_back : (n : ℕ) → is_in n w'.acted ≡ true → (is_in n w.acted ≡ true) ⊎ ((c : ℕ) × (y : Exchange) × On w' c y × (y.number ≡ n) × (is_unanswered y.answer ≡ false))
  pub ended_back : (n : ℕ) → is_in n (numbers w'.ended) ≡ true → (is_in n (numbers w.ended) ≡ true) ⊎ ((c : ℕ) × (x : Exchange) × On w c x × (x.number ≡ n) × (get_or w'.connections c Idle ≡ Idle))
  pub back : (c : ℕ) (y : Exchange) → On w' c y → Back s w w' new c y
  pub settles : (c : ℕ) (p : Exchange) (reply : ℕ) → On w c p → p.answer ≡ Done reply → Ends c e →
      ((d : ℕ) (y : Exchange) → On w' d y → y.resource ≡ p.resource → y.invalidated ≡ true) × ((i : ℕ) (k : Stored) → get_or w'.slots i Empty ≡ Filled k → k.resource ≡ p.resource → ⊥)
  pub stored : (i : ℕ) (k : Stored) → get_or w'.slots i Empty ≡ Filled k → Old w k ⊎ Newly s w w' k
  pub withdrawn : (c : ℕ) (b : Bool) (i : ℕ) (q : Exchange) → e ≡ Receive c b i → On w c q → (j : ℕ) (k : Stored) → get_or w'.slots j Empty ≡ Filled k → q.resource ≡ k.resource → key_of s q ≡ k.language → Withdraws s q k.text → ⊥

claims_like : (x y : Exchange) (text : ℕ) → Like x y → y.answer ≡ x.answer → Claims y text → Claims x text
claims_like x y text l q (full life private e) = full life private (sym q ∙ e)
claims_like x y text l q (not_modified life private e v) = not_modified life private (sym q ∙ e) (sym l.validator ∙ v)

pub word_claims : (x : Exchange) (text life : ℕ) → Word x text life → Claims x text
word_claims x text life (inl e) = full life false e
word_claims x text life (inr t) = not_modified life false t.0 t.1

-- a write is settled by the last event, or was so before
pub settled-cons : (s : Setting) (e : Event) (es : List Event) (p : Exchange) → Settled s (e ∷ es) p → ((c : ℕ) × (reply : ℕ) × On (world s es) c p × (p.answer ≡ Done reply) × Ends c e) ⊎ Settled s es p
settled-cons s e es p z = ⊎_elim (λ t. inl (now t)) (λ t. inr (then t)) (cut-cons e z.event es z.later z.before z.cut)
  where
    now : (e ≡ z.event) × (es ≡ z.before) → (c : ℕ) × (reply : ℕ) × On (world s es) c p × (p.answer ≡ Done reply) × Ends c e
    now t = (z.connection, z.reply, subst (λ (y : List Event). On (world s y) z.connection p) (sym t.1) z.on, z.done, subst (λ (y : Event). Ends z.connection y) (sym t.0) z.ends)

    then : (m : List Event) × (es ≡ m ++ (z.event ∷ z.before)) → Settled s es p
    then t = record { later = t.0; event = z.event; before = z.before; cut = t.1; connection = z.connection; on = z.on; reply = z.reply; done = z.done; ends = z.ends }

later_moment : (s : Setting) (e : Event) (es : List Event) (x y : Exchange) (text : ℕ) → y.number ≡ x.number → y.resource ≡ x.resource → y.language ≡ x.language → Moment s es x text → Moment s (e ∷ es) y text
later_moment s e es x y text qn qr ql m = record { later = e ∷ m.later; before = m.before; cut = ap (λ z. e ∷ z) m.cut; forwarded = omega (arith, m.forwarded); not_yet = rw qn m.not_yet; had = rw (qr, ql) m.had }

later_did : (s : Setting) (e : Event) (es : List Event) (x y : Exchange) (text : ℕ) → y.number ≡ x.number → y.resource ≡ x.resource → y.language ≡ x.language → Did s es x text → Did s (e ∷ es) y text
later_did s e es x y text qn qr ql d = record {
  later = e ∷ d.later;
  event = d.event;
  before = d.before;
  cut = ap (λ z. e ∷ z) d.cut;
  forwarded = omega (arith, d.forwarded);
  not_yet = rw qn d.not_yet;
  acted = ap (λ (j : ℕ). is_in j (step s d.event (world s d.before)).acted) qn ∙ d.acted;
  has = key ∙ d.has;
}
  where
    key : (step s d.event (world s d.before)).has y.resource (key_of s y) ≡ (step s d.event (world s d.before)).has x.resource (key_of s x)
    key = rw (qr, ql)

module _ (s : Setting) (es : List Event) (e : Event) (w' : World) (is : step s e (world s es) ≡ w') (gr : Grows (world s es) w') (i : Inv s es (world s es)) (n : Next s e (world s es) w') where
  -- the number of what is on a connection: as it was there, or new
  from_number : (c : ℕ) (y : Exchange) → Back s (world s es) w' n.new c y → ((x : Exchange) × On (world s es) c x × (y.number ≡ x.number)) ⊎ ((c ≡ n.new) × (y.number ≡ (world s es).next))
  from_number c y (alike x o l q) = inl (x, o, l.number)
  from_number c y (answers x o l u u' cs d v) = inl (x, o, l.number)
  from_number c y (fresh q a b z r) = inr (q, a)

  next_distinct : (c d : ℕ) (x y : Exchange) → On w' c x → On w' d y → x.number ≡ y.number → c ≡ d
  next_distinct c d x y ox oy q = go (from_number c x (n.back c x ox)) (from_number d y (n.back d y oy))
    where
      go : ((a : Exchange) × On (world s es) c a × (x.number ≡ a.number)) ⊎ ((c ≡ n.new) × (x.number ≡ (world s es).next)) → ((b : Exchange) × On (world s es) d b × (y.number ≡ b.number)) ⊎ ((d ≡ n.new) × (y.number ≡ (world s es).next)) → c ≡ d
      go (inl a) (inl b) = i.distinct c d a.0 b.0 a.1 b.1 (sym a.2 ∙ (q ∙ b.2))
      go (inl a) (inr b) = absurd (let l = (i.live c a.0 a.1).low in let z = a.2 in let u = b.1 in omega arith)
      go (inr a) (inl b) = absurd (let l = (i.live d b.0 b.1).low in let z = b.2 in let u = a.1 in omega arith)
      go (inr a) (inr b) = a.0 ∙ sym b.0

  next_below : (m : ℕ) → is_in m w'.acted ≡ true → m < w'.next
  next_below m h = ⊎_elim (λ o. let x = i.below m o in omega (arith, gr.next)) (λ t. go t.0 t.1 t.2 t.3) (n.acted_back m h)
    where
      go : (c : ℕ) (y : Exchange) → On w' c y → y.number ≡ m → m < w'.next
      go c y o q = at (n.back c y o)
        where
          at : Back s (world s es) w' n.new c y → m < w'.next
          at (alike x ox l a) = let z = (i.live c x ox).low in let u = l.number in omega (arith, gr.next)
          at (answers x ox l u u' cs d v) = let z = (i.live c x ox).low in let u = l.number in omega (arith, gr.next)
          at (fresh q2 a b z r) = omega arith

  next_gone : (m : ℕ) → is_in m (numbers w'.ended) ≡ true → m < w'.next
  next_gone m h = ⊎_elim (λ o. let x = i.gone m o in omega (arith, gr.next)) (λ t. let x = (i.live t.0 t.1 t.2).low in let y = t.3 in omega (arith, gr.next)) (n.ended_back m h)

  next_settled : (p : Exchange) → Settled s (e ∷ es) p → is_in p.number w'.acted ≡ true
  next_settled p z = gr.acted p.number (⊎_elim (λ t. ((i.live t.0 p t.2).done t.1 t.3).0) (λ t. i.settled p t) (settled-cons s e es p z))

  -- writes, seen from a moment that is past
  writes_on : (d : ℕ) (y : Exchange) (m : List Event) → On w' d y → y.invalidated ≡ false → ((p : Exchange) → Settled s es p → p.resource ≡ y.resource → is_in p.number (world s m).acted ≡ true) → (p : Exchange) → Settled s (e ∷ es) p → p.resource ≡ y.resource → is_in p.number (world s m).acted ≡ true
  writes_on d y m o f old p z t = ⊎_elim (λ x. clash (sym ((n.settles x.0 p x.1 x.2 x.3 x.4).0 d y o (sym t)) ∙ f)) (λ x. old p x t) (settled-cons s e es p z)

  next_vouched_on : (c : ℕ) (x y : Exchange) (text : ℕ) → On w' c y → Like x y → Vouched s es x text → Vouched s (e ∷ es) y text
  unfolding later_moment
  next_vouched_on c x y text o l t = record {
    moment = later_moment s e es x y text l.number l.resource l.language t.moment;
    since = let z = l.at in omega (arith, t.since);
    writes = λ f p z q. writes_on c y t.moment.before o f (λ p z q. t.writes (l.clean f) p z (q ∙ l.resource)) p z q;
  }

  not_acted : (c : ℕ) (x y : Exchange) → On (world s es) c x → y.number ≡ x.number → is_unanswered x.answer ≡ true → is_in y.number (world s es).acted ≡ false
  not_acted c x y o q u = not_true (is_in y.number (world s es).acted) (λ h. (i.live c x o).unacted u (sym (ap (λ (j : ℕ). is_in j (world s es).acted) q) ∙ h))

  next_vouched_now : (c : ℕ) (x y : Exchange) (text : ℕ) → On (world s es) c x → On w' c y → Like x y → is_unanswered x.answer ≡ true → (world s es).has y.resource (key_of s y) ≡ text → Vouched s (e ∷ es) y text
  next_vouched_now c x y text ox oy l u h =
      let z = i.live c x ox in
      record {
        moment = record { later = e ∷ []; before = es; cut = refl; forwarded = let q = l.number in omega (arith, z.low); not_yet = not_acted c x y ox l.number u; had = h };
        since = let q = l.at in omega (arith, z.at);
        writes = λ f p z q. writes_on c y es oy f (λ p z q. i.settled p z) p z q;
      }

  -- a write that is done now
  next_did_now : (c : ℕ) (x y : Exchange) (t : ℕ) → On (world s es) c x → Like x y → is_unanswered x.answer ≡ true → is_in y.number w'.acted ≡ true → w'.has y.resource (key_of s y) ≡ t → Did s (e ∷ es) y t
  next_did_now c x y t ox l u a h = record {
    later = [];
    event = e;
    before = es;
    cut = refl;
    forwarded = let q = l.number in omega (arith, (i.live c x ox).low);
    not_yet = not_acted c x y ox l.number u;
    acted = ap (λ (z : World). is_in y.number z.acted) is ∙ a;
    has = ap (λ (z : World). z.has y.resource (key_of s y)) is ∙ h;
  }

  next_unended : (c : ℕ) (y : Exchange) → On w' c y → is_in y.number (numbers w'.ended) ≡ true → ⊥
  next_unended c y o h = ⊎_elim (λ x. old x (from_number c y (n.back c y o))) (λ t. new t.0 t.1 t.2 t.3 t.4 (from_number c y (n.back c y o))) (n.ended_back y.number h)
    where
      old : is_in y.number (numbers (world s es).ended) ≡ true → ((x : Exchange) × On (world s es) c x × (y.number ≡ x.number)) ⊎ ((c ≡ n.new) × (y.number ≡ (world s es).next)) → ⊥
      old x (inl z) = (i.live c z.0 z.1).unended (sym (ap (λ (j : ℕ). is_in j (numbers (world s es).ended)) z.2) ∙ x)
      old x (inr z) = let u = i.gone y.number x in let v = z.1 in omega arith

      new : (d : ℕ) (x : Exchange) → On (world s es) d x → x.number ≡ y.number → get_or w'.connections d Idle ≡ Idle → ((x : Exchange) × On (world s es) c x × (y.number ≡ x.number)) ⊎ ((c ≡ n.new) × (y.number ≡ (world s es).next)) → ⊥
      new d x ox q idle (inl z) = let r = i.distinct d c x z.0 ox z.1 (q ∙ z.2) in let u = ap (λ (j : ℕ). get_or w'.connections j Idle) r in bad (cc)
      new d x ox q idle (inr z) = let u = (i.live d x ox).low in let v = z.1 in omega arith

  next_unacted : (c : ℕ) (y : Exchange) → On w' c y → is_unanswered y.answer ≡ true → is_in y.number w'.acted ≡ true → ⊥
  next_unacted c y o u h = ⊎_elim (λ x. old x (n.back c y o)) (λ t. new t.0 t.1 t.2 t.3 t.4) (n.acted_back y.number h)
    where
      old : is_in y.number (world s es).acted ≡ true → Back s (world s es) w' n.new c y → ⊥
      old z (alike x ox l q) = (i.live c x ox).unacted (sym (ap is_unanswered q) ∙ u) (sym (ap (λ (j : ℕ). is_in j (world s es).acted) l.number) ∙ z)
      old z (answers x ox l u1 u2 cs d v) = clash (sym u ∙ u2)
      old z (fresh q a b t r) = let k = i.below y.number z in omega arith

      new : (d : ℕ) (x : Exchange) → On w' d x → x.number ≡ y.number → is_unanswered x.answer ≡ false → ⊥
      new d x ox q ux = let r = next_distinct d c x y ox o q in let z = ap (λ (j : ℕ). get_or w'.connections j Idle) r in let t : x ≡ y = cc in clash (sym u ∙ (sym (ap (λ (y : Exchange). is_unanswered y.answer) t) ∙ ux))

  next_live : (c : ℕ) (y : Exchange) → On w' c y → Live s (e ∷ es) w' y
  next_live c y o = go (n.back c y o)
    where
      go : Back s (world s es) w' n.new c y → Live s (e ∷ es) w' y
      go (alike x ox l q) =
          let z = i.live c x ox in
          record {
            low = let k = l.number in omega (arith, z.low, gr.next);
            positive = let k = l.number in omega (arith, z.positive);
            at = let k = l.at in omega (arith, z.at, gr.clock);
            unended = next_unended c y o;
            unacted = next_unacted c y o;
            done = λ reply d. let r = z.done reply (sym q ∙ d) in
                (ap (λ (j : ℕ). is_in j w'.acted) l.number ∙ gr.acted x.number r.0, (r.1.0, l.method ∙ r.1.1, later_did s e es x y r.1.0 l.number l.resource l.language r.1.2));
            validated = λ life private d. l.validator ∙ (z.validated life private (sym q ∙ d) ∙ ap (λ (v : Validator). Matching (matched v)) (sym l.validator));
            vouched = λ text cl. next_vouched_on c x y text o l (z.vouched text (claims_like x y text l q cl));
          }
      go (answers x ox l u u2 cs d v) =
          let z = i.live c x ox in
          record {
            low = let k = l.number in omega (arith, z.low, gr.next);
            positive = let k = l.number in omega (arith, z.positive);
            at = let k = l.at in omega (arith, z.at, gr.clock);
            unended = next_unended c y o;
            unacted = next_unacted c y o;
            done = λ reply q. let r = d reply q in (r.0, (r.1.0, r.1.1, next_did_now c x y r.1.0 ox l u r.0 r.1.2));
            validated = v;
            vouched = λ text cl. next_vouched_now c x y text ox o l u (cs text cl);
          }
      go (fresh q a b z r) =
          record {
            low = b;
            positive = omega (arith, i.positive);
            at = omega (arith, gr.clock);
            unended = next_unended c y o;
            unacted = next_unacted c y o;
            done = λ reply d. bad (cc);
            validated = λ life private d. bad (cc);
            vouched = λ text cl. absurd (none cl);
          }
        where
          none : {text : ℕ} → Claims y text → ⊥
          none (full life private d) = bad (cc)
          none (not_modified life private d v) = bad (cc)

  stored_writes : (j : ℕ) (k : Stored) (m : List Event) → get_or w'.slots j Empty ≡ Filled k → ((p : Exchange) → Settled s es p → p.resource ≡ k.resource → is_in p.number (world s m).acted ≡ true) → (p : Exchange) → Settled s (e ∷ es) p → p.resource ≡ k.resource → is_in p.number (world s m).acted ≡ true
  stored_writes j k m h old p z t = ⊎_elim (λ x. absurd ((n.settles x.0 p x.1 x.2 x.3 x.4).1 j k h (sym t))) (λ x. old p x t) (settled-cons s e es p z)

  -- a private word about what is still stored is not the last event
  unwithdrawn_on : (j : ℕ) (k : Stored) (x : Exchange) → get_or w'.slots j Empty ≡ Filled k → Unwithdrawn s es x k.resource k.language k.text → Unwithdrawn s (e ∷ es) x k.resource k.language k.text
  unwithdrawn_on j k x h old later before c m b q cut o r l z =
      ⊎_elim (λ y. absurd (n.withdrawn c b m q y.0 (subst (λ (z : List Event). On (world s z) c q) (sym y.1) o) j k h r l z)) (λ y. old y.0 before c m b q y.1 o r l z) (cut-cons e (Receive c b m) es later before cut)

  first_on : (j : ℕ) (k : Stored) → get_or w'.slots j Empty ≡ Filled k → First s es (world s es) k → First s (e ∷ es) w' k
  first_on j k h f = record { exchange = f.exchange; ended = gr.exchanges f.exchange f.ended; resource = f.resource; language = f.language; storable = f.storable; lifetime = f.lifetime; said = f.said; unwithdrawn = unwithdrawn_on j k f.exchange h f.unwithdrawn }

  -- what is under way has not ended, so nothing came after its end
  unwithdrawn_new : (k : Stored) (c : ℕ) (x : Exchange) → On (world s es) c x → Unwithdrawn s es x k.resource k.language k.text
  unwithdrawn_new k c x o later before d m b q cut oq r l z =
      not_true (is_in x.number (numbers (world s before).ended)) (λ h. (i.live c x o).unended ((grows_cut s es later (Receive d b m) before cut).ended x.number h))

  -- a text is what it was, under other names
  first_same : (o k : Stored) → o.resource ≡ k.resource → o.language ≡ k.language → o.text ≡ k.text → First s es (world s es) o → First s es (world s es) k
  first_same o k qr ql qt f = record {
    exchange = f.exchange;
    ended = f.ended;
    resource = f.resource ∙ qr;
    language = f.language ∙ ql;
    storable = f.storable;
    lifetime = f.lifetime;
    said = f.said ∙ ap (λ (t : ℕ). Full t f.lifetime false) qt;
    unwithdrawn = λ later before c m b q cut on r l z. f.unwithdrawn later before c m b q cut on (r ∙ sym qr) (l ∙ sym ql) (subst (λ (t : ℕ). Withdraws s q t) (sym qt) z);
  }

  next_first : (j : ℕ) (k : Stored) → get_or w'.slots j Empty ≡ Filled k → (b : Newly s (world s es) w' k) → Source (world s es) b.exchange k → First s (e ∷ es) w' k
  next_first j k h b (whole life q) = record {
    exchange = b.exchange;
    ended = b.ended;
    resource = b.resource;
    language = b.language;
    storable = b.storable;
    lifetime = life;
    said = q;
    unwithdrawn = unwithdrawn_on j k b.exchange h (unwithdrawn_new k b.connection b.exchange b.on);
  }
  next_first j k h b (renewed m o q qr ql qt) = first_on j k h (first_same o k qr ql qt (i.stored m o q).first)

  next_stored : (j : ℕ) (k : Stored) → get_or w'.slots j Empty ≡ Filled k → Brought s (e ∷ es) w' k
  unfolding later_moment
  next_stored j k h = ⊎_elim (λ t. stays (i.stored t.0 k t.1)) comes (n.stored j k h)
    where
      stays : Brought s es (world s es) k → Brought s (e ∷ es) w' k
      stays b = record {
        exchange = b.exchange;
        ended = gr.exchanges b.exchange b.ended;
        resource = b.resource;
        language = b.language;
        at = b.at;
        storable = b.storable;
        said = b.said;
        moment = later_moment s e es b.exchange b.exchange k.text refl refl refl b.moment;
        since = b.since;
        writes = stored_writes j k b.moment.before h b.writes;
        first = first_on j k h b.first;
      }

      comes : Newly s (world s es) w' k → Brought s (e ∷ es) w' k
      comes b = it ((i.live b.connection b.exchange b.on).vouched k.text (word_claims b.exchange k.text k.lifetime b.said))
        where
          it : Vouched s es b.exchange k.text → Brought s (e ∷ es) w' k
          it t = record {
            exchange = b.exchange;
            ended = b.ended;
            resource = b.resource;
            language = b.language;
            at = b.at;
            storable = b.storable;
            said = b.said;
            moment = later_moment s e es b.exchange b.exchange k.text refl refl refl t.moment;
            since = t.since;
            writes = stored_writes j k t.moment.before h (λ p z q. t.writes b.clean p z (q ∙ sym b.resource));
            first = next_first j k h b b.source;
          }

  pub next_inv : Inv s (e ∷ es) w'
  next_inv = record { positive = omega (arith, i.positive, gr.next); live = next_live; distinct = next_distinct; below = next_below; gone = next_gone; settled = next_settled; stored = next_stored }
