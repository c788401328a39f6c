-- A tick, what the origin does, and a client's request: the cache goes on to stand for the world.
use Rattle.std.proofs.Common.{◌≡◌, ℕ, zero, suc, ◌+◌, ◌<◌, Bool, true, false, cond, ◌&&◌, eqb, ltb, leb, ◌≢◌, List, [], ◌∷◌, map, length, get_or, set, is_some, Some, None, Option, Ok, Err, Result, sym, refl, ap, ◌∙◌, subst, ⊎_elim, arith, length-set, get_or-set_other, get_or-set_same}
use Rattle.std.proofs.lemmas.Bool.{lt-ltb}
use Rattle.std.proofs.lemmas.Bool.Decides.{nat_tests}
use Rattle.std.specs.List.{position}
use Rattle.store.specs.Slots.{Response, Slot, Empty, Filled, Key, no_key, is_for, holds, with_row, row_of, tag_of, body_of}
use Rattle.std.proofs.lemmas.List.Sums.{passes_at_first}
use Rattle.store.proofs.Firsts.{found_passes}
use Rattle.std.proofs.lemmas.Bool.{cases_eq}
use Rattle.cache.specs.declared.types.Exchange.{Exchange}
use Rattle.cache.specs.declared.types.Looked.{Looked}
use Rattle.cache.specs.declared.types.Looked.TheVariants.{Forwarded}
use Rattle.cache.specs.declared.types.RequestError.{RequestError}
use Rattle.cache.specs.declared.types.RequestError.TheVariants.{Refused}
use Rattle.cache.specs.Rules.{State, Ask, Turn, turn, can_tick, may_serve, key_of, is_idle, free_link, can_forward, begun, begins, forwards, asks_same, revalidates, used_at, serves, serves_unless, reads_at, reads_from}
use Rattle.model.specs.Exchanges as model
use Rattle.model.specs.World as world
use Rattle.refinement.specs.Numbers.{number_of, text_of}
use Rattle.refinement.specs.Stands.{key_language, validator_of, language_in, stored_of, slot_of, Good, AllGood, is_write, Same, Shows, Stands}
use Rattle.refinement.specs.Steps.{method_of, looked_events, looked_gives, StepSo, TickSo, AskSo, changes, acts, declines, OriginSo}
use Rattle.promise.proofs.Lists.{bad}
use Rattle.refinement.proofs.Slots.{get_slot, set_slot, set_same, good_at, good-set, is_for_lem, for_resource, for_key, may_serve_lem}
use Rattle.refinement.proofs.Links.{shows_begun}
use Rattle.cache.proofs.Names.{Knows}
use Rattle.refinement.proofs.Names.{Bodies}

pub tick_so : (st : State) → TickSo st
tick_so st b s w h = go (can_tick st)
  where
    go : (x : Bool) → StepSo b s (cond x (record { tick = st.tick + 1; next = st.next; links = st.links; slots = st.slots; keys = st.keys; held = st.held }) st) w (cond x (world.Tick ∷ []) []) []
    go true = record { stands = record { tick = ap (λ n. n + 1) h.tick; next = h.next; links = h.links; slots = h.slots; good = h.good; eight = h.eight; eight_keys = h.eight_keys; eight_held = h.eight_held; eight_connections = h.eight_connections }; delivered = refl }
    go false = record { stands = h; delivered = refl }

-- the origin's answer is none of the cache's business
shows_answered : (b : Bodies) (s : world.Setting) (l : Option Exchange) (k : Key) (held : List ℕ) (y : model.Exchange) (r : model.Answer) → Shows b s l k held (model.Busy y) → Shows b s l k held (model.Busy (world.answered r y))
shows_answered b s None k held y r h = bad (cc)
shows_answered b s (Some x) k held y r h = go h.0 h.1 h.2
  where
    go : (z : model.Exchange) → model.Busy y ≡ model.Busy z → Same b s x k held z → (u : model.Exchange) × (model.Busy (world.answered r y) ≡ model.Busy u) × Same b s x k held u
    go z q m = let e : y ≡ z = cc in (
      world.answered r y,
      refl,
      subst (λ (u : model.Exchange). Same b s x k held (world.answered r u)) (sym e)
          (record { number = m.number; client = m.client; resource = m.resource; language = m.language; requested_at = m.requested_at; storable = m.storable; invalidated = m.invalidated; write = m.write; validator = m.validator; holds = m.holds }),
    )

in_range : (cs : List model.Connection) (c : ℕ) (y : model.Exchange) → get_or cs c model.Idle ≡ model.Busy y → c < length cs
in_range [] c y h = bad (cc)
in_range (x ∷ cs) zero y h = omega arith
in_range (x ∷ cs) (suc c) y h = let l = in_range cs c y h in omega arith

answered_stands : (b : Bodies) (s : world.Setting) (st : State) (w w' : world.World) (c : ℕ) (y : model.Exchange) (r : model.Answer) → Stands b s st w → get_or w.connections c model.Idle ≡ model.Busy y → w'.now ≡ w.now → w'.next ≡ w.next → w'.slots ≡ w.slots → w'.connections ≡ set w.connections c (model.Busy (world.answered r y)) → Stands b s st w'
answered_stands b s st w w' c y r h on qn qx qs qc = record { tick = h.tick ∙ sym qn; next = h.next ∙ sym qx; links = links; slots = h.slots ∙ sym qs; good = h.good; eight = h.eight; eight_keys = h.eight_keys; eight_held = h.eight_held; eight_connections = ap length qc ∙ (length-set w.connections c _ ∙ h.eight_connections) }
  where
    links : (d : ℕ) → Shows b s (get_or st.links d None) (get_or st.keys d no_key) (get_or st.held d []) (get_or w'.connections d model.Idle)
    links d = ⊎_elim here there (cases_eq d c)
      where
        here : d ≡ c → Shows b s (get_or st.links d None) (get_or st.keys d no_key) (get_or st.held d []) (get_or w'.connections d model.Idle)
        here e = subst (λ (k : model.Connection). Shows b s (get_or st.links d None) (get_or st.keys d no_key) (get_or st.held d []) k)
            (sym (ap (λ (k : List model.Connection). get_or k d model.Idle) qc ∙ (ap (λ (i : ℕ). get_or (set w.connections c (model.Busy (world.answered r y))) i model.Idle) e ∙ get_or-set_same w.connections c (model.Busy (world.answered r y)) model.Idle (in_range w.connections c y on))))
            (shows_answered b s (get_or st.links d None) (get_or st.keys d no_key) (get_or st.held d []) y r
            (subst (λ (k : model.Connection). Shows b s (get_or st.links d None) (get_or st.keys d no_key) (get_or st.held d []) k) (ap (λ (i : ℕ). get_or w.connections i model.Idle) e ∙ on) (h.links d)))

        there : d ≢ c → Shows b s (get_or st.links d None) (get_or st.keys d no_key) (get_or st.held d []) (get_or w'.connections d model.Idle)
        there ne = subst (λ (k : model.Connection). Shows b s (get_or st.links d None) (get_or st.keys d no_key) (get_or st.held d []) k)
            (sym (ap (λ (k : List model.Connection). get_or k d model.Idle) qc ∙ get_or-set_other w.connections c d (model.Busy (world.answered r y)) model.Idle ne)) (h.links d)

pub origin_so : (st : State) → OriginSo st
origin_so st b s w e (changes r l t) h = record { stands = record { tick = h.tick; next = h.next; links = h.links; slots = h.slots; good = h.good; eight = h.eight; eight_keys = h.eight_keys; eight_held = h.eight_held; eight_connections = h.eight_connections }; delivered = refl }
origin_so st b s w e (acts c life private full reply) h = go (get_or w.connections c model.Idle) refl
  where
    it : (y : model.Exchange) → get_or w.connections c model.Idle ≡ model.Busy y → (x : Bool) → (Stands b s st (cond x (world.acts s c y (world.answer_to s life private full reply w.has y y.method) w) w)) × ((cond x (world.acts s c y (world.answer_to s life private full reply w.has y y.method) w) w).delivered ≡ w.delivered)
    it y on true = (answered_stands b s st w _ c y _ h on refl refl refl refl, refl)
    it y on false = (h, refl)

    go : (k : model.Connection) → get_or w.connections c model.Idle ≡ k → StepSo b s st w (world.Act c life private full reply ∷ []) []
    go model.Idle q = record { stands = rw q h; delivered = rw q refl }
    go (model.Busy y) q = let t = it y q (world.is_unanswered y.answer) in record { stands = rw q t.0; delivered = rw q t.1 }
origin_so st b s w e (declines c reply) h = go (get_or w.connections c model.Idle) refl
  where
    it : (y : model.Exchange) → get_or w.connections c model.Idle ≡ model.Busy y → (x : Bool) → (Stands b s st (cond x (world.declines c y reply w) w)) × ((cond x (world.declines c y reply w) w).delivered ≡ w.delivered)
    it y on true = (answered_stands b s st w _ c y _ h on refl refl refl refl, refl)
    it y on false = (h, refl)

    go : (k : model.Connection) → get_or w.connections c model.Idle ≡ k → StepSo b s st w (world.Decline c reply ∷ []) []
    go model.Idle q = record { stands = rw q h; delivered = rw q refl }
    go (model.Busy y) q = let t = it y q (world.is_unanswered y.answer) in record { stands = rw q t.0; delivered = rw q t.1 }

-- what a turn of a request is to show
abbrev AskTurn : Bodies → world.Setting → world.World → Ask → State → Turn (Result Looked RequestError) → Type 0
AskTurn b s w a st t = StepSo b s t.state w (looked_events b s a t.gives t.state.keys) (looked_gives a t.gives st.slots)

write_is : (o : Option (List ℕ)) → is_write (method_of o) ≡ is_some o
write_is None = refl
write_is (Some t) = refl

is_idle_lem : (l : Option Exchange) → is_idle l ≡ true → l ≡ None
is_idle_lem None h = refl
is_idle_lem (Some x) h = bad (cc)

shows_idle : (b : Bodies) (s : world.Setting) (l : Option Exchange) (k : Key) (held : List ℕ) (conn : model.Connection) → l ≡ None → Shows b s l k held conn → conn ≡ model.Idle
shows_idle b s None k held conn e h = h
shows_idle b s (Some x) k held conn e h = bad (cc)

forward_step : (s : world.Setting) (w : world.World) (c cl r l : ℕ) (m : model.Method) (v : model.Validator) (storable : Bool) → get_or w.connections c model.Idle ≡ model.Idle → ltb c 8 ≡ true →
    world.step s (world.Forward c cl r l m v storable) w ≡ world.forwards c (world.request w.next w.now cl r l m v storable) w
forward_step s w c cl r l m v storable e f = ap (λ (k : model.Connection). world.forward c cl r l m v storable k w) e ∙ ap (λ (x : Bool). cond x (world.forwards c (world.request w.next w.now cl r l m v storable) w) w) f

-- a request that is forwarded, with this validator
begins_so : (b : Bodies) (s : world.Setting) (w : world.World) (knows : Knows) (a : Ask) (own : Bool) (tag : Option (List ℕ)) (body : List ℕ) (st : State) → Stands b s st w →
    (own ≡ false → (t : List ℕ) × (tag ≡ Some t) × (body ≡ b (number_of a.path) (key_language s (key_of a tag)) t)) → AskTurn b s w a st (begins knows a own (key_of a tag) body st)
unfolding begins
begins_so b s w knows a own tag body st h hold = go (can_forward knows (key_of a tag) st) refl
  where
    c : ℕ
    c = free_link st

    free : (x : Bool) → (ltb (free_link st) 8 && x) ≡ true → free_link st < 8
    free x e = grind (arith, nat_tests)

    idle : free_link st < 8 → get_or w.connections (free_link st) model.Idle ≡ model.Idle
    idle l = shows_idle b s (get_or st.links (free_link st) None) _ _ _ (is_idle_lem (get_or st.links (free_link st) None) (passes_at_first is_idle st.links None (omega (arith, h.eight)))) (h.links (free_link st))

    new : model.Validator → model.Exchange
    new v = world.request w.next w.now a.client (number_of a.path) (number_of a.language) (method_of a.write) v a.storable

    same : (v : model.Validator) → v ≡ validator_of b s (key_of a tag) → Same b s (begun st.next st.tick a own) (key_of a tag) body (new v)
    same v e = record { number = sym h.next; client = refl; resource = refl; language = refl; requested_at = sym h.tick; storable = refl; invalidated = refl; write = write_is a.write; validator = e; holds = hold }

    st' : State
    st' = record { tick = st.tick; next = st.next + 1; links = set st.links c (Some (begun st.next st.tick a own)); slots = st.slots; keys = set st.keys c (key_of a tag); held = set st.held c body }

    after : free_link st < 8 → (v : model.Validator) → v ≡ validator_of b s (key_of a tag) → Stands b s st' (world.forwards c (new v) w)
    after l v e = record {
      tick = h.tick;
      next = ap (λ n. n + 1) h.next;
      links = shows_begun b s st.links st.keys st.held w.connections h.eight h.eight_keys h.eight_held h.eight_connections h.links c l (Some (begun st.next st.tick a own)) (key_of a tag) body (model.Busy (new v)) (new v, refl, same v e);
      slots = h.slots;
      good = h.good;
      eight = length-set st.links c _ ∙ h.eight;
      eight_keys = length-set st.keys c _ ∙ h.eight_keys;
      eight_held = length-set st.held c _ ∙ h.eight_held;
      eight_connections = length-set w.connections c _ ∙ h.eight_connections;
    }

    forwarded : free_link st < 8 → AskTurn b s w a st (turn st' (Ok (Forwarded c)))
    forwarded l = let v = validator_of b s (get_or (set st.keys c (key_of a tag)) c no_key) in
        let e : v ≡ validator_of b s (key_of a tag) = ap (validator_of b s) (get_or-set_same st.keys c (key_of a tag) no_key (omega (arith, h.eight_keys))) in
        let q = forward_step s w c a.client (number_of a.path) (number_of a.language) (method_of a.write) v a.storable (idle l) (lt-ltb c 8 l) in
        record { stands = subst (λ (z : world.World). Stands b s st' z) (sym q) (after l v e); delivered = ap (λ (z : world.World). z.delivered) q }

    go : (x : Bool) → can_forward knows (key_of a tag) st ≡ x → AskTurn b s w a st (cond x (turn st' (Ok (Forwarded c))) (turn st (Err Refused)))
    go true e = forwarded (free _ e)
    go false e = record { stands = h; delivered = refl }

forwards_so : (b : Bodies) (s : world.Setting) (w : world.World) (knows : Knows) (a : Ask) (st : State) → Stands b s st w → AskTurn b s w a st (forwards knows a st)
forwards_so b s w knows a st h = begins_so b s w knows a true a.tag [] st h (λ e. bad (cc))

revalidates_so : (b : Bodies) (s : world.Setting) (w : world.World) (knows : Knows) (a : Ask) (st : State) (i : ℕ) (r : Response) → Stands b s st w → get_or st.slots i Empty ≡ Filled r → is_for a.path a.language r ≡ true → is_some (tag_of (get_or st.slots i Empty)) ≡ true → AskTurn b s w a st (revalidates knows a i st)
revalidates_so b s w knows a st i r h at f some = begins_so b s w knows a (asks_same a.tag (get_or st.slots i Empty)) (tag_of (get_or st.slots i Empty)) (body_of (get_or st.slots i Empty)) st h (λ e. rw at (held r.tag refl (sym (ap (λ (k : Slot). is_some (tag_of k)) at) ∙ some)))
  where
    g : Good b s r
    g = good_at b s st.slots i r h.good at

    held : (o : Option (List ℕ)) → r.tag ≡ o → is_some r.tag ≡ true → (t : List ℕ) × (r.tag ≡ Some t) × (r.body ≡ b (number_of a.path) (key_language s (key_of a r.tag)) t)
    held None e q = let z = ap is_some e in bad (cc)
    held (Some t) e q = (t, e, g.body t e ∙ (ap (λ (n : ℕ). b n (language_in r) t) (ap number_of (for_resource (key_of a r.tag) r f)) ∙ ap (λ (n : ℕ). b (number_of a.path) n t) (for_key b s (key_of a r.tag) r g f)))

serves_so : (b : Bodies) (s : world.Setting) (w : world.World) (a : Ask) (st : State) (i : ℕ) (r : Response) → Stands b s st w → get_or st.slots i Empty ≡ Filled r → is_for a.path a.language r ≡ true → may_serve st.tick r.row ≡ true → AskTurn b s w a st (serves i r.row st)
serves_so b s w a st i r h at f may = record { stands = subst (λ (z : world.World). Stands b s (serves i r.row st).state z) (sym step) stands; delivered = ap (λ (z : world.World). z.delivered) step ∙ ap (λ (k : Slot). world.served a.client (number_of a.path) (number_of a.language) (text_of (tag_of k) (body_of k)) ∷ w.delivered) (sym at) }
  where
    g : Good b s r
    g = good_at b s st.slots i r h.good at

    tests : (x y z : Bool) → (x && y) ≡ true → z ≡ true → (x && (y && z)) ≡ true
    tests true true true p q = refl
    tests true true false p q = q
    tests true false z p q = p
    tests false y z p q = p

    may' : world.may_serve s w.now (number_of a.path) (number_of a.language) (stored_of r) ≡ true
    may' = tests (eqb (number_of r.path) (number_of a.path)) (eqb (language_in r) (key_language s (key_of a None))) _ (is_for_lem b s (key_of a None) r g ∙ f) (ap (λ (n : ℕ). ltb 0 (stored_of r).lifetime && leb n (r.row.requested_at + (stored_of r).lifetime)) (sym h.tick) ∙ (may_serve_lem st.tick r ∙ may))

    there : get_or w.slots i model.Empty ≡ model.Filled (stored_of r)
    there = ap (λ (k : List model.Slot). get_or k i model.Empty) (sym h.slots) ∙ (get_slot st.slots i ∙ ap slot_of at)

    step : world.step s (world.Serve a.client (number_of a.path) (number_of a.language) i) w ≡ world.serves a.client (number_of a.path) (number_of a.language) (stored_of r) w
    step = ap (λ (k : model.Slot). world.serve s a.client (number_of a.path) (number_of a.language) k w) there ∙ ap (λ (x : Bool). cond x (world.serves a.client (number_of a.path) (number_of a.language) (stored_of r) w) w) may'

    used : Response
    used = record { path = r.path; language = r.language; tag = r.tag; body = r.body; row = used_at st.tick r.row }

    put : set st.slots i (with_row (used_at st.tick r.row) (get_or st.slots i Empty)) ≡ set st.slots i (Filled used)
    put = ap (λ (k : Slot). set st.slots i (with_row (used_at st.tick r.row) k)) at

    slots : map slot_of (set st.slots i (with_row (used_at st.tick r.row) (get_or st.slots i Empty))) ≡ w.slots
    slots = ap (map slot_of) put ∙ (set_slot st.slots i (Filled used) ∙ (ap (λ (k : model.Slot). set (map slot_of st.slots) i k) (sym (get_slot st.slots i ∙ ap slot_of at)) ∙ (set_same (map slot_of st.slots) i ∙ h.slots)))

    good : AllGood b s (set st.slots i (with_row (used_at st.tick r.row) (get_or st.slots i Empty)))
    good = subst (λ (k : List Slot). AllGood b s k) (sym put) (good-set b s st.slots i used h.good (record { varies = g.varies; body = g.body }))

    stands : Stands b s (serves i r.row st).state (world.serves a.client (number_of a.path) (number_of a.language) (stored_of r) w)
    stands = record { tick = h.tick; next = h.next; links = h.links; slots = slots; good = good; eight = h.eight; eight_keys = h.eight_keys; eight_held = h.eight_held; eight_connections = h.eight_connections }

reads_at_so : (b : Bodies) (s : world.Setting) (w : world.World) (knows : Knows) (a : Ask) (st : State) (i : ℕ) → Stands b s st w → holds (is_for a.path a.language) (get_or st.slots i Empty) ≡ true → AskTurn b s w a st (reads_at knows a i (row_of (get_or st.slots i Empty)) st)
reads_at_so b s w knows a st i h f = go (get_or st.slots i Empty) refl
  where
    it : (r : Response) → get_or st.slots i Empty ≡ Filled r → is_for a.path a.language r ≡ true → (x : Bool) → may_serve st.tick r.row ≡ x → (y : Bool) → is_some (tag_of (get_or st.slots i Empty)) ≡ y →
        AskTurn b s w a st (cond x (serves_unless knows a i r.row st) (cond y (revalidates knows a i st) (forwards knows a st)))
    it r at q true e y z = un a.no_cache
      where
        un : (n : Bool) → AskTurn b s w a st (cond n (forwards knows a st) (serves i r.row st))
        un true = forwards_so b s w knows a st h
        un false = serves_so b s w a st i r h at q e
    it r at q false e true z = revalidates_so b s w knows a st i r h at q z
    it r at q false e false z = forwards_so b s w knows a st h

    go : (k : Slot) → get_or st.slots i Empty ≡ k → AskTurn b s w a st (reads_at knows a i (row_of k) st)
    go Empty at = let z = ap (holds (is_for a.path a.language)) at in bad (cc)
    go (Filled r) at = it r at (sym (ap (holds (is_for a.path a.language)) at) ∙ f) (may_serve st.tick r.row) refl (is_some (tag_of (get_or st.slots i Empty))) refl

pub ask_so : (knows : Knows) (a : Ask) (st : State) → AskSo knows a st
ask_so knows a st b s w h = go (is_some a.write)
  where
    from : (o : Option ℕ) → position (holds (is_for a.path a.language)) st.slots ≡ o → AskTurn b s w a st (reads_from knows a o st)
    from None e = forwards_so b s w knows a st h
    from (Some i) e = reads_at_so b s w knows a st i h (found_passes (holds (is_for a.path a.language)) st.slots Empty i e).1

    go : (x : Bool) → AskTurn b s w a st (cond x (forwards knows a st) (reads_from knows a (position (holds (is_for a.path a.language)) st.slots) st))
    go true = forwards_so b s w knows a st h
    go false = from (position (holds (is_for a.path a.language)) st.slots) refl
