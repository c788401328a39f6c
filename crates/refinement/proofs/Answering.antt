-- An answer, and the loss of a connection: the cache goes on to stand for the world.
use Rattle.std.proofs.Common.{◌≡◌, ℕ, suc, ◌<◌, ◌≤◌, Bool, true, false, cond, not, ◌&&◌, ltb, List, [], ◌∷◌, map, get_or, set, is_some, Some, None, Option, unwrap_or, sym, refl, ap, ◌∙◌, subst, arith, length-set}
use lib.ListN.{length-map}
use Rattle.std.proofs.lemmas.List.{get_or_past}
use Rattle.std.proofs.lemmas.Bool.Decides.{nat_tests}
use Rattle.std.specs.Str.{bytes_eq}
use Rattle.store.specs.declared.types.Row.{Row}
use Rattle.std.specs.List.{list_any}
use Rattle.store.specs.Slots.{Response, Slot, Empty, Filled, no_key, same_bool, tag_is, is_for, of_path, is_tagged, is_asked_for, is_asked, otherwise, holds, without, with_row, row_of}
use Rattle.cache.specs.declared.types.Words.{Words}
use Rattle.cache.specs.declared.types.Exchange.{Exchange}
use Rattle.cache.specs.declared.types.Outcome.{Outcome}
use Rattle.cache.specs.declared.types.Outcome.TheVariants.{Nobody, Passed, Held}
use Rattle.cache.specs.Rules.{State, Turn, turn, with_slots}
use Rattle.cache.specs.Answers.{Reply, Full, NotModified, Done, Other, key_at, ended_at, marked_to, settled, may_store, room_for, row_for, put_at, stored, withdrawn, agreed, full, renewed_row, renewed_at, renewed, not_modified, given_up, faulty, same_for, read_answered, write_answered, answered_on, received, lost_on}
use Rattle.model.specs.Exchanges as model
use Rattle.model.specs.World as world
use Rattle.std.proofs.lemmas.Bool.{and_parts}
use Rattle.model.specs.Promise.{On}
use Rattle.refinement.specs.Numbers.{number_of, text_of}
use Rattle.refinement.specs.Stands.{setting_of, key_language, validator_for, validator_of, life_of, language_in, stored_of, slot_of, Good, AllGood, is_write, Same, Shows, Stands, HonestFull, Honest}
use Rattle.refinement.specs.Steps.{room_at, place_for, asks_there, outcome_events, answer_events, delivery_of, outcome_gives, lost_events, lost_gives, StepSo, suits, has_validator, HonestOn, AnswerSo, LoseSo}
use Rattle.promise.proofs.Lists.{bad, get-map}
use Rattle.refinement.proofs.Numbered.{bytes_same, even_tagged, odd_untagged}
use Rattle.refinement.proofs.Slots.{get_slot, set_slot, map-without, good_without, good_at, good-set, of_path_lem, is_for_lem, for_resource, for_key, is_tagged_lem}
use Rattle.refinement.proofs.Links.{marked-get, length-marked_eight, shows_marked, shows_ended}
use Rattle.cache.proofs.Names.{Fits}
use Rattle.refinement.proofs.Names.{Bodies}

-- nothing that is stored says otherwise about `vary`
none_passes : (p : Slot → Bool) (ks : List Slot) → ((i : ℕ) → p (get_or ks i Empty) ≡ false) → list_any p ks ≡ false
none_passes p [] h = refl
none_passes p (k ∷ ks) h = rw (h 0) (none_passes p ks (λ i. h (suc i)))

bools_differ : (x y : Bool) → x ≡ y → not (same_bool x y) ≡ false
bools_differ true true e = refl
bools_differ false false e = refl
bools_differ true false e = bad (cc)
bools_differ false true e = bad (cc)

none_otherwise : (b : Bodies) (s : world.Setting) (path : List ℕ) (varies : Bool) (ks : List Slot) → AllGood b s ks → varies ≡ s.varies (number_of path) → list_any (holds (otherwise path varies)) ks ≡ false
none_otherwise b s path varies ks g e = none_passes (holds (otherwise path varies)) ks none
  where
    it : (r : Response) → Good b s r → otherwise path varies r ≡ false
    it r q = go (bytes_eq r.path path) refl
      where
        go : (x : Bool) → bytes_eq r.path path ≡ x → (x && not (same_bool r.row.varies varies)) ≡ false
        go false f = refl
        go true f = bools_differ r.row.varies varies (q.varies ∙ (ap (λ (p : List ℕ). s.varies (number_of p)) (bytes_same r.path path f) ∙ sym e))

    none : (i : ℕ) → holds (otherwise path varies) (get_or ks i Empty) ≡ false
    none i = go (get_or ks i Empty) refl
      where
        go : (k : Slot) → get_or ks i Empty ≡ k → holds (otherwise path varies) k ≡ false
        go Empty q = refl
        go (Filled r) q = it r (good_at b s ks i r g q)

agreed_same : (b : Bodies) (s : world.Setting) (c : ℕ) (varies : Bool) (st : State) → AllGood b s st.slots → varies ≡ s.varies (number_of (key_at c st).path) → agreed c varies st ≡ st
agreed_same b s c varies st g e = ap (λ (x : Bool). cond x (with_slots (map (without (of_path (key_at c st).path)) st.slots) st) st) (none_otherwise b s (key_at c st).path varies st.slots g e)

-- an exchange of the cache and of the world, on a connection
module _ (b : Bodies) (s : world.Setting) (st : State) (w : world.World) (h : Stands b s st w) (c : ℕ) (below : c < 8) (x : Exchange) (y : model.Exchange) (on : On w c y) (m : Same b s x (get_or st.keys c no_key) (get_or st.held c []) y) where
  key_same : world.key_of s y ≡ key_language s (key_at c st)
  key_same = ap (λ (n : ℕ). world.language_of s n y.language) m.resource ∙ ap (λ (n : ℕ). world.language_of s (number_of (key_at c st).path) n) m.language

  delivery_same : (content : world.Content) → world.deliver y content w.delivered ≡ delivery_of x (key_at c st) content ∷ w.delivered
  delivery_same content = let n = m.number in let k = m.client in let r = m.resource in let l = m.language in rw (k, n, r, l) refl

  -- it ends, with these slots
  ended_stands : (ks : List Slot) (ks' : List model.Slot) (content : world.Content) → map slot_of ks ≡ ks' → AllGood b s ks → Stands b s (with_slots ks (ended_at c st)) (world.finish y (set w.connections c model.Idle) ks' content w)
  ended_stands ks ks' content e g = record {
    tick = h.tick;
    next = h.next;
    links = shows_ended b s st.links st.keys st.held w.connections h.eight h.eight_keys h.eight_held h.eight_connections h.links c below;
    slots = e;
    good = g;
    eight = length-set st.links c _ ∙ h.eight;
    eight_keys = h.eight_keys;
    eight_held = h.eight_held;
    eight_connections = length-set w.connections c _ ∙ h.eight_connections;
  }

  ended_same : (content : world.Content) → Stands b s (ended_at c st) (world.finish y (set w.connections c model.Idle) w.slots content w)
  ended_same content = ended_stands st.slots w.slots content h.slots h.good

  -- it ends, and its write is settled
  settled_stands : (content : world.Content) → Stands b s (settled c (ended_at c st)) (world.finish y (map (world.invalidate y.resource) (set w.connections c model.Idle)) (map (world.without (world.of_resource y.resource)) w.slots) content w)
  settled_stands content = subst (λ (n : ℕ). Stands b s (settled c (ended_at c st)) (world.finish y (map (world.invalidate n) (set w.connections c model.Idle)) (map (world.without (world.of_resource n)) w.slots) content w)) (sym m.resource)
      (record {
        tick = h.tick;
        next = h.next;
        links = links;
        slots = map-without b s (of_path path) (world.of_resource (number_of path)) (of_path_lem b s path) st.slots h.good ∙ ap (map (world.without (world.of_resource (number_of path)))) h.slots;
        good = good_without b s (of_path path) st.slots h.good;
        eight = length-marked_eight path st.keys (set st.links c None) (length-set st.links c _ ∙ h.eight);
        eight_keys = h.eight_keys;
        eight_held = h.eight_held;
        eight_connections = length-map (set w.connections c model.Idle) (world.invalidate (number_of path)) ∙ (length-set w.connections c _ ∙ h.eight_connections);
      })
    where
      path : List ℕ
      path = (key_at c st).path

      links : (d : ℕ) → Shows b s (get_or (marked_to 8 path st.keys (set st.links c None)) d None) (get_or st.keys d no_key) (get_or st.held d []) (get_or (map (world.invalidate (number_of path)) (set w.connections c model.Idle)) d model.Idle)
      links d = both _ _ _ _ (marked-get path st.keys (set st.links c None) d (length-set st.links c _ ∙ h.eight)) (get-map (world.invalidate (number_of path)) model.Idle refl (set w.connections c model.Idle) d)
          (shows_marked b s path (get_or (set st.links c None) d None) (get_or st.keys d no_key) (get_or st.held d []) (get_or (set w.connections c model.Idle) d model.Idle)
          (shows_ended b s st.links st.keys st.held w.connections h.eight h.eight_keys h.eight_held h.eight_connections h.links c below d))
        where
          both : (l1 l2 : Option Exchange) (c1 c2 : model.Connection) → l1 ≡ l2 → c1 ≡ c2 → Shows b s l2 (get_or st.keys d no_key) (get_or st.held d []) c2 → Shows b s l1 (get_or st.keys d no_key) (get_or st.held d []) c1
          both l1 l2 c1 c2 p q z = rw (p, q) z

  -- the connection is lost, or what came on it is a fault
  given_up_so : StepSo b s (given_up c x st) w (world.Lose c ∷ []) (delivery_of x (key_at c st) world.Lost ∷ [])
  given_up_so = go y.method x.write m.write
    where
      step : (k : model.Method) → y.method ≡ k → world.step s (world.Lose c) w ≡ world.lose c y k w
      step k e = ap (λ (z : model.Connection). world.lose_on c z w) on ∙ ap (λ (z : model.Method). world.lose c y z w) e

      so : (st' : State) (w' : world.World) → world.step s (world.Lose c) w ≡ w' → Stands b s st' w' → w'.delivered ≡ world.deliver y world.Lost w.delivered → StepSo b s st' w (world.Lose c ∷ []) (delivery_of x (key_at c st) world.Lost ∷ [])
      so st' w' e z d = record { stands = subst (λ (v : world.World). Stands b s st' v) (sym e) z; delivered = ap (λ (v : world.World). v.delivered) e ∙ (d ∙ delivery_same world.Lost) }

      go : (k : model.Method) (x' : Bool) → is_write y.method ≡ x' → StepSo b s (cond x' (settled c (ended_at c st)) (ended_at c st)) w (world.Lose c ∷ []) (delivery_of x (key_at c st) world.Lost ∷ [])
      go k x' e = it y.method refl x' e
        where
          it : (k : model.Method) → y.method ≡ k → (x' : Bool) → is_write y.method ≡ x' → StepSo b s (cond x' (settled c (ended_at c st)) (ended_at c st)) w (world.Lose c ∷ []) (delivery_of x (key_at c st) world.Lost ∷ [])
          it model.Read q false e = so (ended_at c st) _ (step model.Read q) (ended_same world.Lost) refl
          it (model.Write t) q true e = so (settled c (ended_at c st)) _ (step (model.Write t) q) (settled_stands world.Lost) refl
          it model.Read q true e = let z = ap is_write q in bad (cc)
          it (model.Write t) q false e = let z = ap is_write q in bad (cc)

  -- an answer is received, with what it does to the slots
  received_step : (sb : Bool) (i : ℕ) (r : model.Answer) → y.answer ≡ r → world.step s (world.Receive c sb i) w ≡ world.receive sb i s c y r w
  received_step sb i r e = ap (λ (z : model.Connection). world.receive_on sb i s c z w) on ∙ ap (λ (z : model.Answer). world.receive sb i s c y z w) e

  received_so : (st' : State) (sb : Bool) (i : ℕ) (r : model.Answer) (content : world.Content) → y.answer ≡ r → Stands b s st' (world.receive sb i s c y r w) → (world.receive sb i s c y r w).delivered ≡ world.deliver y content w.delivered → StepSo b s st' w (world.Receive c sb i ∷ []) (delivery_of x (key_at c st) content ∷ [])
  received_so st' sb i r content e z d = let q = received_step sb i r e in record { stands = subst (λ (v : world.World). Stands b s st' v) (sym q) z; delivered = ap (λ (v : world.World). v.delivered) q ∙ (d ∙ delivery_same content) }

  -- what the request and the answer allow is what the model asks
  may_facts : (wd : Words) → may_store x wd ≡ true → (y.storable && not y.invalidated) ≡ true
  may_facts wd e = let p = m.storable in let q = m.invalidated in go x.storable x.invalidated p q e
    where
      go : (u v : Bool) → y.storable ≡ u → y.invalidated ≡ v → (u && (not v && ltb 0 wd.lifetime)) ≡ true → (y.storable && not y.invalidated) ≡ true
      go true false p q e = rw (p, q) refl
      go true true p q e = bad (cc)
      go false v p q e = bad (cc)

  -- 'not modified' to what was asked with
  module _ (wd : Words) (t : List ℕ) (tagged : (key_at c st).tag ≡ Some t) where
    abbrev text : ℕ
    text = text_of (Some t) (b (number_of (key_at c st).path) (key_language s (key_at c st)) t)

    validator_is : y.validator ≡ model.Matching text
    validator_is = m.validator ∙ ap (validator_for b (number_of (key_at c st).path) (key_language s (key_at c st))) tagged

    matched_is : world.matched y.validator ≡ text
    matched_is = ap world.matched validator_is

    -- a private word takes the place
    withdrawn_slots : map slot_of (map (without (is_for (key_at c st).path (key_at c st).language)) st.slots) ≡ map (world.without (world.of_language y.resource (world.key_of s y))) w.slots
    withdrawn_slots = map-without b s (is_for (key_at c st).path (key_at c st).language) (world.of_language (number_of (key_at c st).path) (key_language s (key_at c st))) (is_for_lem b s (key_at c st)) st.slots h.good
        ∙ (ap (map (world.without (world.of_language (number_of (key_at c st).path) (key_language s (key_at c st))))) h.slots ∙ sym (ap (λ (n : ℕ). map (world.without (world.of_language n (world.key_of s y))) w.slots) m.resource ∙ ap (λ (l : ℕ). map (world.without (world.of_language (number_of (key_at c st).path) l)) w.slots) key_same))

    -- what it renews
    module _ (i : ℕ) (r : Response) (at : get_or st.slots i Empty ≡ Filled r) (asked : is_asked (key_at c st) r ≡ true) where
      good_r : Good b s r
      good_r = good_at b s st.slots i r h.good at

      asked_tag : is_tagged (key_at c st).path (key_at c st).language t r ≡ true
      asked_tag = sym (ap (λ (o : Option (List ℕ)). is_asked_for (key_at c st) o r) tagged) ∙ asked

      for_it : is_for (key_at c st).path (key_at c st).language r ≡ true
      for_it = (and_parts (is_for (key_at c st).path (key_at c st).language r) (tag_is r.tag t) asked_tag).0

      tag_it : r.tag ≡ Some t
      tag_it = go r.tag (and_parts (is_for (key_at c st).path (key_at c st).language r) (tag_is r.tag t) asked_tag).1
        where
          go : (o : Option (List ℕ)) → tag_is o t ≡ true → o ≡ Some t
          go None e = bad (cc)
          go (Some u) e = ap Some (bytes_same u t e)

      text_it : text_of r.tag r.body ≡ text
      text_it = ap (λ (o : Option (List ℕ)). text_of o r.body) tag_it ∙ ap (text_of (Some t)) (good_r.body t tag_it ∙ (ap (λ (n : ℕ). b n (language_in r) t) (ap number_of (for_resource (key_at c st) r for_it)) ∙ ap (λ (n : ℕ). b (number_of (key_at c st).path) n t) (for_key b s (key_at c st) r good_r for_it)))

      abbrev new_row : Row
      new_row = row_for st.tick x r.row.varies wd

      abbrev new_r : Response
      new_r = record { path = r.path; language = r.language; tag = r.tag; body = r.body; row = new_row }

      stored_same : stored_of new_r ≡ world.stored_of s y (world.matched y.validator) (life_of wd)
      stored_same = let p : number_of r.path ≡ y.resource = ap number_of (for_resource (key_at c st) r for_it) ∙ sym m.resource in
          let l : language_in r ≡ world.key_of s y = for_key b s (key_at c st) r good_r for_it ∙ sym key_same in
          let z : text_of r.tag r.body ≡ world.matched y.validator = text_it ∙ sym matched_is in
          let q : x.requested_at ≡ y.requested_at = sym m.requested_at in
          let n : x.number ≡ y.number = sym m.number in
          record_same (number_of r.path) y.resource (language_in r) (world.key_of s y) (text_of r.tag r.body) (world.matched y.validator) x.requested_at y.requested_at x.number y.number p l z q n
        where
          record_same : (p p' l l' z z' q q' n n' : ℕ) → p ≡ p' → l ≡ l' → z ≡ z' → q ≡ q' → n ≡ n' → ◌≡◌ {A = model.Stored} (record { resource = p; language = l; text = z; lifetime = life_of wd; requested_at = q; exchange = n }) (record { resource = p'; language = l'; text = z'; lifetime = life_of wd; requested_at = q'; exchange = n' })
          record_same p p' l l' z z' q q' n n' e1 e2 e3 e4 e5 = rw (e1, e2, e3, e4, e5) refl

      put_same : set st.slots i (with_row new_row (get_or st.slots i Empty)) ≡ set st.slots i (Filled new_r)
      put_same = ap (λ (k : Slot). set st.slots i (with_row new_row k)) at

      renewed_slots : map slot_of (set st.slots i (with_row new_row (get_or st.slots i Empty))) ≡ set w.slots i (model.Filled (world.stored_of s y (world.matched y.validator) (life_of wd)))
      renewed_slots = ap (map slot_of) put_same ∙ (set_slot st.slots i (Filled new_r) ∙ (ap (λ (k : List model.Slot). set k i (model.Filled (stored_of new_r))) h.slots ∙ ap (λ (k : model.Stored). set w.slots i (model.Filled k)) stored_same))

      renewed_good : AllGood b s (set st.slots i (with_row new_row (get_or st.slots i Empty)))
      renewed_good = subst (λ (k : List Slot). AllGood b s k) (sym put_same) (good-set b s st.slots i new_r h.good (record { varies = good_r.varies; body = good_r.body }))

      model_holds : world.holds (world.of_text y.resource (world.key_of s y) (world.matched y.validator)) (get_or w.slots i model.Empty) ≡ true
      model_holds = ap (λ (k : model.Slot). world.holds (world.of_text y.resource (world.key_of s y) (world.matched y.validator)) k) (ap (λ (k : List model.Slot). get_or k i model.Empty) (sym h.slots) ∙ (get_slot st.slots i ∙ ap slot_of at))
          ∙ (ap (λ (n : ℕ). world.of_text n (world.key_of s y) (world.matched y.validator) (stored_of r)) m.resource ∙ (ap (λ (l : ℕ). world.of_text (number_of (key_at c st).path) l (world.matched y.validator) (stored_of r)) key_same ∙ (ap (λ (z : ℕ). world.of_text (number_of (key_at c st).path) (key_language s (key_at c st)) z (stored_of r)) matched_is ∙
          (is_tagged_lem b s (key_at c st) t (b (number_of (key_at c st).path) (key_language s (key_at c st)) t) refl r good_r ∙ asked_tag))))

    -- whether it is renewed
    renews : (o : Option ℕ) (sb : Bool) → sb ≡ (may_store x wd && asks_there c st o) → Stands b s (cond (may_store x wd) (renewed_at c o x wd (ended_at c st)) (ended_at c st)) (world.receive sb (unwrap_or o 0) s c y (model.NotModified (life_of wd) false) w)
    renews o sb e = go (may_store x wd) refl o e
      where
        -- nothing is renewed
        stays : (i : ℕ) → sb ≡ false → Stands b s (ended_at c st) (world.receive sb i s c y (model.NotModified (life_of wd) false) w)
        stays i q = ended_stands st.slots _ _ (h.slots ∙ none) h.good
          where
            none : w.slots ≡ world.after_not_modified sb i s y (life_of wd) false w.slots
            none = sym (ap (λ (z : Bool). world.store_if (z && world.holds (world.of_text y.resource (world.key_of s y) (world.matched y.validator)) (get_or w.slots i model.Empty)) i s y (world.matched y.validator) (life_of wd) w.slots) q)

        renewal : (i : ℕ) (r : Response) → sb ≡ true → may_store x wd ≡ true → get_or st.slots i Empty ≡ Filled r → is_asked (key_at c st) r ≡ true → Stands b s (with_slots (set st.slots i (with_row (row_for st.tick x r.row.varies wd) (get_or st.slots i Empty))) (ended_at c st)) (world.receive sb i s c y (model.NotModified (life_of wd) false) w)
        renewal i r q may at asked = ended_stands _ _ _ (renewed_slots i r at asked ∙ sym some) (renewed_good i r at asked)
          where
            some : world.after_not_modified sb i s y (life_of wd) false w.slots ≡ set w.slots i (model.Filled (world.stored_of s y (world.matched y.validator) (life_of wd)))
            some = ap (λ (z : Bool). world.store_if (z && world.holds (world.of_text y.resource (world.key_of s y) (world.matched y.validator)) (get_or w.slots i model.Empty)) i s y (world.matched y.validator) (life_of wd) w.slots) q
                ∙ (ap (λ (z : Bool). world.store_if z i s y (world.matched y.validator) (life_of wd) w.slots) (model_holds i r at asked)
                ∙ ap (λ (z : Bool). cond z (set w.slots i (model.Filled (world.stored_of s y (world.matched y.validator) (life_of wd)))) w.slots) (may_facts wd may))

        at_place : (i : ℕ) → may_store x wd ≡ true → sb ≡ holds (is_asked (key_at c st)) (get_or st.slots i Empty) → Stands b s (renewed_row c i x wd (row_of (get_or st.slots i Empty)) (ended_at c st)) (world.receive sb i s c y (model.NotModified (life_of wd) false) w)
        at_place i may q = it (get_or st.slots i Empty) refl
          where
            filled : (r : Response) → get_or st.slots i Empty ≡ Filled r → (a : Bool) → holds (is_asked (key_at c st)) (get_or st.slots i Empty) ≡ a →
                Stands b s (cond a (with_slots (set st.slots i (with_row (row_for st.tick x r.row.varies wd) (get_or st.slots i Empty))) (ended_at c st)) (ended_at c st)) (world.receive sb i s c y (model.NotModified (life_of wd) false) w)
            filled r at true f = renewal i r (q ∙ f) may at (sym (ap (holds (is_asked (key_at c st))) at) ∙ f)
            filled r at false f = stays i (q ∙ f)

            it : (k : Slot) → get_or st.slots i Empty ≡ k → Stands b s (renewed_row c i x wd (row_of k) (ended_at c st)) (world.receive sb i s c y (model.NotModified (life_of wd) false) w)
            it Empty at = stays i (q ∙ ap (holds (is_asked (key_at c st))) at)
            it (Filled r) at = filled r at (holds (is_asked (key_at c st)) (get_or st.slots i Empty)) refl

        go : (may : Bool) → may_store x wd ≡ may → (o : Option ℕ) → sb ≡ (may_store x wd && asks_there c st o) → Stands b s (cond may (renewed_at c o x wd (ended_at c st)) (ended_at c st)) (world.receive sb (unwrap_or o 0) s c y (model.NotModified (life_of wd) false) w)
        go false f o q = stays (unwrap_or o 0) (q ∙ ap (λ (z : Bool). z && asks_there c st o) f)
        go true f None q = stays 0 (q ∙ ap (λ (z : Bool). z && false) f)
        go true f (Some i) q = at_place i f (q ∙ ap (λ (z : Bool). z && holds (is_asked (key_at c st)) (get_or st.slots i Empty)) f)

    same_stands : (p : Bool) → (sb : Bool) → sb ≡ (may_store x wd && asks_there c st (place_for c st)) → Stands b s (cond p (with_slots (map (without (is_for (key_at c st).path (key_at c st).language)) st.slots) (ended_at c st)) (renewed c x wd (ended_at c st))) (world.receive sb (unwrap_or (place_for c st) 0) s c y (model.NotModified (life_of wd) p) w)
    same_stands true sb e = ended_stands _ _ _ withdrawn_slots (good_without b s (is_for (key_at c st).path (key_at c st).language) st.slots h.good)
    same_stands false sb e = renews (place_for c st) sb e

    -- what the client is given is the text that was asked with
    held_text : x.own_tag ≡ false → text_of (key_at c st).tag (get_or st.held c []) ≡ text
    held_text e = go (m.holds e)
      where
        go : (u : List ℕ) × ((key_at c st).tag ≡ Some u) × (get_or st.held c [] ≡ b (number_of (key_at c st).path) (key_language s (key_at c st)) u) → text_of (key_at c st).tag (get_or st.held c []) ≡ text
        go z = let q : z.0 ≡ t = some_same z.0 t (sym z.1 ∙ tagged) in ap (λ (o : Option (List ℕ)). text_of o (get_or st.held c [])) tagged ∙ ap (text_of (Some t)) (z.2 ∙ ap (b (number_of (key_at c st).path) (key_language s (key_at c st))) q)
          where
            some_same : (u v : List ℕ) → Some u ≡ Some v → u ≡ v
            some_same u v e = cc

    same_so : (fits : Fits) → y.answer ≡ model.NotModified (life_of wd) wd.private →
        StepSo b s (not_modified c x wd (ended_at c st)) w (outcome_events fits c (Some x) (NotModified wd) (same_for x) st) (outcome_gives b s c (Some x) (NotModified wd) (same_for x) st)
    same_so fits e = go x.own_tag refl
      where
        passed_text : world.matched (validator_of b s (key_at c st)) ≡ world.matched y.validator
        passed_text = ap world.matched (sym m.validator)

        so : (content : world.Content) → world.Text (world.matched y.validator) ≡ content → StepSo b s (not_modified c x wd (ended_at c st)) w (world.Receive c (may_store x wd && asks_there c st (place_for c st)) (unwrap_or (place_for c st) 0) ∷ []) (delivery_of x (key_at c st) content ∷ [])
        so content f = received_so (not_modified c x wd (ended_at c st)) _ _ (model.NotModified (life_of wd) wd.private) content e (same_stands wd.private _ refl) (ap (λ (z : world.Content). world.deliver y z w.delivered) f)

        go : (o : Bool) → x.own_tag ≡ o → StepSo b s (not_modified c x wd (ended_at c st)) w (outcome_events fits c (Some x) (NotModified wd) (cond o (Passed x.client) (Held x.client)) st) (outcome_gives b s c (Some x) (NotModified wd) (cond o (Passed x.client) (Held x.client)) st)
        go true f = so _ (ap world.Text (sym passed_text))
        go false f = so _ (ap world.Text (matched_is ∙ sym (held_text f)))

-- a full answer, in a setting whose texts have a validator if they are even
module _ (b : Bodies) (v : ℕ → Bool) (places : ℕ) (st : State) (w : world.World) (h : Stands b (setting_of v places) st w) (c : ℕ) (below : c < 8) (x : Exchange) (y : model.Exchange) (on : On w c y) (m : Same b (setting_of v places) x (get_or st.keys c no_key) (get_or st.held c []) y)
    (fits : Fits) (varies : Bool) (tag : Option (List ℕ)) (body : List ℕ) (wd : Words) (honest : HonestFull b (setting_of v places) y varies tag body wd) where
  abbrev s' : world.Setting
  s' = setting_of v places

  varies_same : varies ≡ v (number_of (key_at c st).path)
  varies_same = honest.varies_alike ∙ ap v m.resource

  agrees : agreed c varies (ended_at c st) ≡ ended_at c st
  agrees = agreed_same b s' c varies (ended_at c st) h.good varies_same

  body_same : (t : List ℕ) → tag ≡ Some t → body ≡ b (number_of (key_at c st).path) (key_language s' (key_at c st)) t
  body_same t e = honest.one_body t e ∙ (ap (λ (n : ℕ). b n (world.key_of s' y) t) m.resource ∙ ap (λ (l : ℕ). b (number_of (key_at c st).path) l t) (key_same b s' st w h c below x y on m))

  -- what a private answer leaves
  private_stands : (o : Option (List ℕ)) → tag ≡ o → (sb : Bool) (i : ℕ) → Stands b s' (withdrawn c o (ended_at c st)) (world.receive sb i s' c y (model.Full (text_of o body) (life_of wd) true) w)
  private_stands None e sb i = ended_stands b s' st w h c below x y on m st.slots _ _ (h.slots ∙ sym (ap (λ (z : Bool). cond z (map (world.without (world.of_text y.resource (world.key_of s' y) (text_of None body))) w.slots) w.slots) (odd_untagged body))) h.good
  private_stands (Some t) e sb i = ended_stands b s' st w h c below x y on m _ _ _ (gone ∙ sym (ap (λ (z : Bool). cond z (map (world.without (world.of_text y.resource (world.key_of s' y) (text_of (Some t) body))) w.slots) w.slots) (even_tagged t body))) (good_without b s' (is_tagged (key_at c st).path (key_at c st).language t) st.slots h.good)
    where
      gone : map slot_of (map (without (is_tagged (key_at c st).path (key_at c st).language t)) st.slots) ≡ map (world.without (world.of_text y.resource (world.key_of s' y) (text_of (Some t) body))) w.slots
      gone = map-without b s' (is_tagged (key_at c st).path (key_at c st).language t) (world.of_text (number_of (key_at c st).path) (key_language s' (key_at c st)) (text_of (Some t) body)) (is_tagged_lem b s' (key_at c st) t body (body_same t e)) st.slots h.good
          ∙ (ap (map (world.without (world.of_text (number_of (key_at c st).path) (key_language s' (key_at c st)) (text_of (Some t) body)))) h.slots
          ∙ sym (ap (λ (n : ℕ). map (world.without (world.of_text n (world.key_of s' y) (text_of (Some t) body))) w.slots) m.resource ∙ ap (λ (l : ℕ). map (world.without (world.of_text (number_of (key_at c st).path) l (text_of (Some t) body))) w.slots) (key_same b s' st w h c below x y on m)))

  abbrev response : Response
  response = record { path = (key_at c st).path; language = (key_at c st).language; tag = tag; body = body; row = row_for st.tick x varies wd }

  language_same : language_in response ≡ world.key_of s' y
  language_same = ap (λ (z : Bool). cond z (number_of (key_at c st).language) 0) varies_same ∙ sym (key_same b s' st w h c below x y on m)

  response_same : stored_of response ≡ world.stored_of s' y (text_of tag body) (life_of wd)
  response_same = record_same (number_of (key_at c st).path) y.resource (language_in response) (world.key_of s' y) x.requested_at y.requested_at x.number y.number (sym m.resource) language_same (sym m.requested_at) (sym m.number)
    where
      record_same : (p p' l l' q q' n n' : ℕ) → p ≡ p' → l ≡ l' → q ≡ q' → n ≡ n' → ◌≡◌ {A = model.Stored} (record { resource = p; language = l; text = text_of tag body; lifetime = life_of wd; requested_at = q; exchange = n }) (record { resource = p'; language = l'; text = text_of tag body; lifetime = life_of wd; requested_at = q'; exchange = n' })
      record_same p p' l l' q q' n n' e1 e2 e3 e4 = rw (e1, e2, e3, e4) refl

  response_good : Good b s' response
  response_good = record { varies = varies_same; body = λ t e. body_same t e ∙ ap (λ (l : ℕ). b (number_of (key_at c st).path) l t) (sym (key_same b s' st w h c below x y on m) ∙ sym language_same) }

  -- what one that is not private leaves
  stored_stands : (sb : Bool) (o : Option ℕ) → o ≡ room_for c (ended_at c st) → sb ≡ ((may_store x wd && fits tag body) && is_some o) → Stands b s' (cond (may_store x wd && fits tag body) (put_at o response (ended_at c st)) (ended_at c st)) (world.receive sb (unwrap_or o 0) s' c y (model.Full (text_of tag body) (life_of wd) false) w)
  stored_stands sb o eo e = go (may_store x wd && fits tag body) refl o e
    where
      stays : (i : ℕ) → sb ≡ false → Stands b s' (ended_at c st) (world.receive sb i s' c y (model.Full (text_of tag body) (life_of wd) false) w)
      stays i q = ended_stands b s' st w h c below x y on m st.slots _ _ (h.slots ∙ sym (ap (λ (z : Bool). world.store_if z i s' y (text_of tag body) (life_of wd) w.slots) q)) h.good

      parts : (u f : Bool) → (u && f) ≡ true → u ≡ true
      parts true f e = refl
      parts false f e = bad (cc)

      puts : (i : ℕ) → sb ≡ true → (may_store x wd && fits tag body) ≡ true → Stands b s' (with_slots (set st.slots i (Filled response)) (ended_at c st)) (world.receive sb i s' c y (model.Full (text_of tag body) (life_of wd) false) w)
      puts i q may = ended_stands b s' st w h c below x y on m _ _ _ (slots ∙ sym some) (good-set b s' st.slots i response h.good response_good)
        where
          slots : map slot_of (set st.slots i (Filled response)) ≡ set w.slots i (model.Filled (world.stored_of s' y (text_of tag body) (life_of wd)))
          slots = set_slot st.slots i (Filled response) ∙ (ap (λ (k : List model.Slot). set k i (model.Filled (stored_of response))) h.slots ∙ ap (λ (k : model.Stored). set w.slots i (model.Filled k)) response_same)

          some : world.store_if sb i s' y (text_of tag body) (life_of wd) w.slots ≡ set w.slots i (model.Filled (world.stored_of s' y (text_of tag body) (life_of wd)))
          some = ap (λ (z : Bool). world.store_if z i s' y (text_of tag body) (life_of wd) w.slots) q ∙ ap (λ (z : Bool). cond z (set w.slots i (model.Filled (world.stored_of s' y (text_of tag body) (life_of wd)))) w.slots) (may_facts b s' st w h c below x y on m wd (parts (may_store x wd) (fits tag body) may))

      go : (may : Bool) → (may_store x wd && fits tag body) ≡ may → (o : Option ℕ) → sb ≡ ((may_store x wd && fits tag body) && is_some o) → Stands b s' (cond may (put_at o response (ended_at c st)) (ended_at c st)) (world.receive sb (unwrap_or o 0) s' c y (model.Full (text_of tag body) (life_of wd) false) w)
      go false f o q = stays (unwrap_or o 0) (q ∙ ap (λ (z : Bool). z && is_some o) f)
      go true f None q = stays 0 (q ∙ ap (λ (z : Bool). z && false) f)
      go true f (Some i) q = puts i (q ∙ ap (λ (z : Bool). z && true) f) f

  full_stands : (p : Bool) → wd.private ≡ p → Stands b s' (cond p (withdrawn c tag (ended_at c st)) (stored fits c x varies tag body wd (ended_at c st))) (world.receive ((may_store x wd && fits tag body) && is_some (room_for c (ended_at c st))) (unwrap_or (room_for c (ended_at c st)) 0) s' c y (model.Full (text_of tag body) (life_of wd) p) w)
  full_stands true e = private_stands tag refl ((may_store x wd && fits tag body) && is_some (room_for c (ended_at c st))) (unwrap_or (room_for c (ended_at c st)) 0)
  full_stands false e = stored_stands _ (room_for c (ended_at c st)) refl refl

  full_so : StepSo b s' (full fits c x varies tag body wd (ended_at c st)) w (world.Receive c ((may_store x wd && fits tag body) && is_some (room_at c varies st)) (unwrap_or (room_at c varies st) 0) ∷ []) (delivery_of x (key_at c st) (world.Text (text_of tag body)) ∷ [])
  unfolding full
  full_so = subst (λ (z : State). StepSo b s' (cond wd.private (withdrawn c tag z) (stored fits c x varies tag body wd z)) w (world.Receive c ((may_store x wd && fits tag body) && is_some (room_for c z)) (unwrap_or (room_for c z) 0) ∷ []) (delivery_of x (key_at c st) (world.Text (text_of tag body)) ∷ [])) (sym agrees)
      (received_so b s' st w h c below x y on m (cond wd.private (withdrawn c tag (ended_at c st)) (stored fits c x varies tag body wd (ended_at c st))) ((may_store x wd && fits tag body) && is_some (room_for c (ended_at c st))) (unwrap_or (room_for c (ended_at c st)) 0)
      (model.Full (text_of tag body) (life_of wd) wd.private) (world.Text (text_of tag body)) honest.answer (full_stands wd.private refl) refl)

-- the whole of it
module _ (b : Bodies) (v : ℕ → Bool) (places : ℕ) (st : State) (w : world.World) (h : Stands b (setting_of v places) st w) (fits : Fits) (c : ℕ) (r : Reply) (honest : HonestOn b (setting_of v places) w c r) where
  abbrev s'' : world.Setting
  s'' = setting_of v places

  abbrev AnswerTurn : Option Exchange → Turn Outcome → Type 0
  AnswerTurn l t = StepSo b s'' t.state w (outcome_events fits c l r t.gives st) (outcome_gives b s'' c l r t.gives st)

  nothing_so : (l : Option Exchange) → AnswerTurn l (turn st Nobody)
  nothing_so None = record { stands = h; delivered = refl }
  nothing_so (Some x) = record { stands = h; delivered = refl }

  module _ (below : c < 8) (x : Exchange) (y : model.Exchange) (on : On w c y) (m : Same b s'' x (get_or st.keys c no_key) (get_or st.held c []) y) where
    fault_so : AnswerTurn (Some x) (faulty c x st)
    fault_so = given_up_so b s'' st w h c below x y on m

    -- the kinds of answers
    full_answer : (varies : Bool) (tag : Option (List ℕ)) (body : List ℕ) (wd : Words) → r ≡ Full varies tag body wd → x.write ≡ false → StepSo b s'' (read_answered fits c x (Full varies tag body wd) st).state w (outcome_events fits c (Some x) (Full varies tag body wd) (Passed x.client) st) (outcome_gives b s'' c (Some x) (Full varies tag body wd) (Passed x.client) st)
    full_answer varies tag body wd e q = full_so b v places st w h c below x y on m fits varies tag body wd (told e)
      where
        told : r ≡ Full varies tag body wd → HonestFull b s'' y varies tag body wd
        told f = subst (λ (z : Reply). Honest b s'' y z) f (honest y on (subst (λ (z : Reply). suits y z ≡ true) (sym f) (ap not (m.write ∙ q))))

    same_answer : (wd : Words) → r ≡ NotModified wd → x.write ≡ false → (o : Option (List ℕ)) → (key_at c st).tag ≡ o → StepSo b s'' (cond (is_some o) (turn (not_modified c x wd (ended_at c st)) (same_for x)) (faulty c x st)).state w (outcome_events fits c (Some x) (NotModified wd) (cond (is_some o) (turn (not_modified c x wd (ended_at c st)) (same_for x)) (faulty c x st)).gives st) (outcome_gives b s'' c (Some x) (NotModified wd) (cond (is_some o) (turn (not_modified c x wd (ended_at c st)) (same_for x)) (faulty c x st)).gives st)
    same_answer wd e q None f = given_up_so b s'' st w h c below x y on m
    same_answer wd e q (Some t) f = same_so b s'' st w h c below x y on m wd t f fits (subst (λ (z : Reply). Honest b s'' y z) e (honest y on (subst (λ (z : Reply). suits y z ≡ true) (sym e) fitting)))
      where
        valid : has_validator y.validator ≡ true
        valid = ap has_validator (m.validator ∙ ap (validator_for b (number_of (key_at c st).path) (key_language s'' (key_at c st))) f)

        both : (u z : Bool) → u ≡ false → z ≡ true → (not u && z) ≡ true
        both true z p k = bad (cc)
        both false z p k = k

        fitting : (not (is_write y.method) && has_validator y.validator) ≡ true
        fitting = both (is_write y.method) (has_validator y.validator) (m.write ∙ q) valid

    done_answer : (body : List ℕ) → r ≡ Done body → x.write ≡ true → StepSo b s'' (settled c (ended_at c st)) w (outcome_events fits c (Some x) (Done body) (Passed x.client) st) (outcome_gives b s'' c (Some x) (Done body) (Passed x.client) st)
    done_answer body e q = received_so b s'' st w h c below x y on m (settled c (ended_at c st)) false 0 (model.Done (number_of body)) (world.Acknowledged (number_of body)) (subst (λ (z : Reply). Honest b s'' y z) e (honest y on (subst (λ (z : Reply). suits y z ≡ true) (sym e) (m.write ∙ q))))
        (settled_stands b s'' st w h c below x y on m (world.Acknowledged (number_of body))) refl

    other_answer : (body : List ℕ) → r ≡ Other body → StepSo b s'' (ended_at c st) w (outcome_events fits c (Some x) (Other body) (Passed x.client) st) (outcome_gives b s'' c (Some x) (Other body) (Passed x.client) st)
    other_answer body e = received_so b s'' st w h c below x y on m (ended_at c st) false 0 (model.Other (number_of body)) (world.Passed (number_of body)) (subst (λ (z : Reply). Honest b s'' y z) e (honest y on (subst (λ (z : Reply). suits y z ≡ true) (sym e) refl)))
        (ended_same b s'' st w h c below x y on m (world.Passed (number_of body))) refl

    busy_so : AnswerTurn (Some x) (answered_on fits c (Some x) r st)
    busy_so = go x.write refl r refl
      where
        go : (wr : Bool) → x.write ≡ wr → (z : Reply) → r ≡ z → StepSo b s'' (cond wr (write_answered c x z st) (read_answered fits c x z st)).state w (outcome_events fits c (Some x) z (cond wr (write_answered c x z st) (read_answered fits c x z st)).gives st) (outcome_gives b s'' c (Some x) z (cond wr (write_answered c x z st) (read_answered fits c x z st)).gives st)
        go true q (Full varies tag body wd) e = given_up_so b s'' st w h c below x y on m
        go true q (NotModified wd) e = given_up_so b s'' st w h c below x y on m
        go true q (Done body) e = done_answer body e q
        go true q (Other body) e = other_answer body e
        go false q (Full varies tag body wd) e = full_answer varies tag body wd e q
        go false q (NotModified wd) e = same_answer wd e q (key_at c st).tag refl
        go false q (Done body) e = given_up_so b s'' st w h c below x y on m
        go false q (Other body) e = other_answer body e

  link_so : (below : c < 8) (l : Option Exchange) → get_or st.links c None ≡ l → Shows b s'' l (get_or st.keys c no_key) (get_or st.held c []) (get_or w.connections c model.Idle) → AnswerTurn l (answered_on fits c l r st)
  link_so below None e z = nothing_so None
  link_so below (Some x) e z = busy_so below x z.0 z.1 z.2

  answered_so : StepSo b s'' (received fits c r st).state w (answer_events fits c r st) (outcome_gives b s'' c (get_or st.links c None) r (received fits c r st).gives st)
  answered_so = go (ltb c 8) refl
    where
      go : (z : Bool) → ltb c 8 ≡ z → AnswerTurn (get_or st.links c None) (cond z (answered_on fits c (get_or st.links c None) r st) (turn st Nobody))
      go true e = link_so (let l : c < 8 = grind (arith, nat_tests) in l) (get_or st.links c None) refl (h.links c)
      go false e = nothing_so (get_or st.links c None)

pub answer_so : (fits : Fits) (c : ℕ) (r : Reply) (st : State) → AnswerSo fits c r st
answer_so fits c r st b v places w h honest = answered_so b v places st w h fits c r honest

pub lose_so : (c : ℕ) (st : State) → LoseSo c st
lose_so c st b s w h = go (ltb c 8) refl
  where
    past : ltb c 8 ≡ false → get_or st.links c None ≡ None
    past e = get_or_past st.links c None (let l : 8 ≤ c = grind (arith, nat_tests) in omega (arith, h.eight))

    none : get_or st.links c None ≡ None → StepSo b s st w (lost_events c (get_or st.links c None)) (lost_gives (get_or st.links c None) (key_at c st))
    none e = rw e (record { stands = h; delivered = refl })

    on : c < 8 → (l : Option Exchange) → Shows b s l (get_or st.keys c no_key) (get_or st.held c []) (get_or w.connections c model.Idle) → StepSo b s (lost_on c l st).state w (lost_events c l) (lost_gives l (key_at c st))
    on below None z = record { stands = h; delivered = refl }
    on below (Some x) z = given_up_so b s st w h c below x z.0 z.1 z.2

    go : (z : Bool) → ltb c 8 ≡ z → StepSo b s (cond z (lost_on c (get_or st.links c None) st) (turn st Nobody)).state w (lost_events c (get_or st.links c None)) (lost_gives (get_or st.links c None) (key_at c st))
    go true e = on (let l : c < 8 = grind (arith, nat_tests) in l) (get_or st.links c None) (h.links c)
    go false e = none (past e)
