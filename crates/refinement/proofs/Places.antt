-- There stays one place for a path and language, whatever happens.
use Rattle.std.proofs.Common.{◌≡◌, ℕ, zero, suc, ◌<◌, ◌≤◌, Bool, true, false, cond, not, ◌&&◌, ◌||◌, ltb, ◌⊎◌, List, [], ◌∷◌, map, length, get_or, set, is_some, Some, None, Option, sym, refl, ap, ◌∙◌, subst, inl, inr, arith, rules, lt-ltb}
use Rattle.std.proofs.lemmas.Slice.Eq.{bytes_eq-Decides}
use Rattle.std.specs.Str.{bytes_eq}
use Rattle.store.specs.declared.types.Row.{Row}
use Rattle.std.proofs.lemmas.List.Folds.{list_any_at}
use Rattle.std.specs.List.{position_or_len, position, list_any}
use Rattle.store.specs.Slots.{Response, Slot, Empty, Filled, same_bool, is_for, of_path, is_tagged, otherwise, holds, without, with_row, row_of, tag_of, is_asked, is_empty}
use Rattle.store.proofs.Firsts.{first_here, first_later, found_passes}
use Rattle.promise.proofs.Lists.{bad, get_set}
use Rattle.refinement.proofs.Numbered.{bytes_same}
use Rattle.cache.specs.declared.types.Exchange.{Exchange}
use Rattle.cache.specs.declared.types.Outcome.TheVariants.{Nobody}
use Rattle.cache.specs.declared.types.Words.{Words}
use Rattle.cache.specs.Rules.{State, Ask, Turn, turn, may_serve, key_of, can_forward, begins, forwards, revalidates, used_at, serves, reads_at, reads_from, requested}
use Rattle.cache.specs.Answers.{Reply, Full, NotModified, Done, Other, key_at, ended_at, settled, may_store, is_spent, oldest_to, or_else, room_for, row_for, put_at, stored, withdrawn, agreed, full, renewed_row, renewed_at, not_modified, given_up, faulty, same_for, read_answered, write_answered, answered_on, received, lost_on, lost}
use Rattle.cache.specs.Decisions.{Rivals, OnePlace}
use Rattle.cache.proofs.Names.{Fits, Knows}

bytes_equal : (xs ys : List ℕ) → xs ≡ ys → bytes_eq xs ys ≡ true
bytes_equal xs ys h = search (rules, bytes_eq-Decides)

-- what is at a place after some were removed
get-without : (test : Response → Bool) (ks : List Slot) (i : ℕ) (r : Response) → get_or (map (without test) ks) i Empty ≡ Filled r → (get_or ks i Empty ≡ Filled r) × (test r ≡ false)
get-without test [] i r h = bad (cc)
get-without test (k ∷ ks) (suc i) r h = get-without test ks i r h
get-without test (Empty ∷ ks) zero r h = bad (cc)
get-without test (Filled q ∷ ks) zero r h = go (test q) refl h
  where
    go : (b : Bool) → test q ≡ b → cond b Empty (Filled q) ≡ Filled r → (Filled q ≡ Filled r) × (test r ≡ false)
    go true e f = bad (cc)
    go false e f = (f, let z : q ≡ r = cc in sym (ap test z) ∙ e)

in_range : (ks : List Slot) (i : ℕ) (r : Response) → get_or ks i Empty ≡ Filled r → i < length ks
in_range [] i r h = bad (cc)
in_range (k ∷ ks) zero r h = omega arith
in_range (k ∷ ks) (suc i) r h = let l = in_range ks i r h in omega arith

first_before : (p : Slot → Bool) (ks : List Slot) (j : ℕ) → j < length ks → p (get_or ks j Empty) ≡ true → position_or_len p ks ≤ j
first_before p [] j l h = absurd (omega arith)
first_before p (k ∷ ks) zero l h = let q = first_here p k ks h in omega (arith, q)
first_before p (k ∷ ks) (suc j) l h = go (p k) refl (first_before p ks j (omega arith) h)
  where
    go : (b : Bool) → p k ≡ b → position_or_len p ks ≤ j → position_or_len p (k ∷ ks) ≤ suc j
    go true e ih = let q = first_here p k ks e in omega (arith, q)
    go false e ih = let q = first_later p k ks e in omega (arith, q)

-- where one passes, one is found
found_some : (p : Slot → Bool) (ks : List Slot) (j : ℕ) → j < length ks → p (get_or ks j Empty) ≡ true → position p ks ≡ Some (position_or_len p ks)
found_some p ks j l h = let f = first_before p ks j l h in ap (λ b. cond b (Some (position_or_len p ks)) None) (lt-ltb (position_or_len p ks) (length ks) (omega arith))

pub one_without : (test : Response → Bool) (ks : List Slot) → OnePlace ks → OnePlace (map (without test) ks)
one_without test ks u i j r q hi hj c = u i j r q (get-without test ks i r hi).0 (get-without test ks j q hj).0 c

flip : (r q : Response) → Rivals r q → Rivals q r
flip r q c = record { path = sym c.path; language = λ f g. sym (c.language g f) }

-- a new response, which has no rival elsewhere
one_set : (ks : List Slot) (i : ℕ) (r : Response) → OnePlace ks → ((j : ℕ) (q : Response) → get_or ks j Empty ≡ Filled q → Rivals r q → i ≡ j) → OnePlace (set ks i (Filled r))
one_set ks i r u new a b x y hx hy c = go (get_set ks i (Filled r) Empty a) (get_set ks i (Filled r) Empty b)
  where
    is : (z : Response) → Filled r ≡ Filled z → r ≡ z
    is z e = cc

    go : ((a ≡ i) × (get_or (set ks i (Filled r)) a Empty ≡ Filled r)) ⊎ (get_or (set ks i (Filled r)) a Empty ≡ get_or ks a Empty) → ((b ≡ i) × (get_or (set ks i (Filled r)) b Empty ≡ Filled r)) ⊎ (get_or (set ks i (Filled r)) b Empty ≡ get_or ks b Empty) → a ≡ b
    go (inl s) (inl t) = s.0 ∙ sym t.0
    go (inl s) (inr t) = s.0 ∙ new b y (sym t ∙ hy) (subst (λ (z : Response). Rivals z y) (sym (is x (sym s.1 ∙ hx))) c)
    go (inr s) (inl t) = sym (t.0 ∙ new a x (sym s ∙ hx) (subst (λ (z : Response). Rivals z x) (sym (is y (sym t.1 ∙ hy))) (flip x y c)))
    go (inr s) (inr t) = u a b x y (sym s ∙ hx) (sym t ∙ hy) c

-- other numbers, with the same word about `vary`
one_row : (ks : List Slot) (i : ℕ) (r : Response) (row : Row) → OnePlace ks → get_or ks i Empty ≡ Filled r → row.varies ≡ r.row.varies → OnePlace (set ks i (with_row row (get_or ks i Empty)))
one_row ks i r row u at v = subst (λ (k : Slot). OnePlace (set ks i (with_row row k))) (sym at)
    (one_set ks i (record { path = r.path; language = r.language; tag = r.tag; body = r.body; row = row }) u (λ j q hq c. u i j r q at hq (record { path = c.path; language = λ f g. c.language (v ∙ f) g })))

-- what is for a request
for_facts : (path language : List ℕ) (r : Response) → is_for path language r ≡ true → (r.path ≡ path) × (r.row.varies ≡ true → r.language ≡ language)
for_facts path language r h = go (bytes_eq r.path path) refl r.row.varies refl h
  where
    go : (x : Bool) → bytes_eq r.path path ≡ x → (v : Bool) → r.row.varies ≡ v → (x && (not v || bytes_eq r.language language)) ≡ true → (r.path ≡ path) × (r.row.varies ≡ true → r.language ≡ language)
    go true e true f z = (bytes_same r.path path e, λ g. bytes_same r.language language z)
    go true e false f z = (bytes_same r.path path e, λ g. bad (cc))
    go false e v f z = bad (cc)

for_from : (path language : List ℕ) (r : Response) → r.path ≡ path → (r.row.varies ≡ true → r.language ≡ language) → is_for path language r ≡ true
for_from path language r e f = go (bytes_eq r.path path) (bytes_equal r.path path e) r.row.varies f
  where
    go : (x : Bool) → x ≡ true → (v : Bool) → (v ≡ true → r.language ≡ language) → (x && (not v || bytes_eq r.language language)) ≡ true
    go true z true g = bytes_equal r.language language (g refl)
    go true z false g = refl
    go false z v g = z

-- after an answer was agreed with about `vary`, all of its path say the same
abbrev Agree : List ℕ → Bool → List Slot → Type 0
Agree path varies ks = (j : ℕ) (q : Response) → get_or ks j Empty ≡ Filled q → q.path ≡ path → q.row.varies ≡ varies

agreed_all : (c : ℕ) (varies : Bool) (s : State) → OnePlace s.slots → OnePlace (agreed c varies s).slots × Agree (key_at c s).path varies (agreed c varies s).slots
agreed_all c varies s u = go (list_any (holds (otherwise (key_at c s).path varies)) s.slots) refl
  where
    path : List ℕ
    path = (key_at c s).path

    none : list_any (holds (otherwise (key_at c s).path varies)) s.slots ≡ false → Agree (key_at c s).path varies s.slots
    none e j q h p = same (r_varies q) varies (test (otherwise (key_at c s).path varies q) refl)
      where
        r_varies : Response → Bool
        r_varies z = z.row.varies

        test : (t : Bool) → otherwise (key_at c s).path varies q ≡ t → otherwise (key_at c s).path varies q ≡ false
        test false f = f
        test true f = let l = in_range s.slots j q h in
            let b = list_any_at (holds (otherwise (key_at c s).path varies)) s.slots j Empty l (ap (holds (otherwise (key_at c s).path varies)) h ∙ f) in
            bad (cc)

        same : (x y : Bool) → (bytes_eq q.path (key_at c s).path && not (same_bool x y)) ≡ false → x ≡ y
        same x y f = go (bytes_eq q.path (key_at c s).path) (bytes_equal q.path (key_at c s).path p) x y f
          where
            go : (t : Bool) → t ≡ true → (x y : Bool) → (t && not (same_bool x y)) ≡ false → x ≡ y
            go true z true true f = refl
            go true z false false f = refl
            go true z true false f = bad (cc)
            go true z false true f = bad (cc)
            go false z x y f = bad (cc)

    go : (b : Bool) → list_any (holds (otherwise (key_at c s).path varies)) s.slots ≡ b → OnePlace (cond b (record { tick = s.tick; next = s.next; links = s.links; slots = map (without (of_path (key_at c s).path)) s.slots; keys = s.keys; held = s.held }) s).slots × Agree (key_at c s).path varies (cond b (record { tick = s.tick; next = s.next; links = s.links; slots = map (without (of_path (key_at c s).path)) s.slots; keys = s.keys; held = s.held }) s).slots
    go true e = (one_without (of_path (key_at c s).path) s.slots u, λ j q h p. let z = (get-without (of_path (key_at c s).path) s.slots j q h).1 in let t = bytes_equal q.path (key_at c s).path p in bad (cc))
    go false e = (u, none e)

-- a new answer takes the place of its rival, if it has one
room_alone : (c : ℕ) (varies : Bool) (s : State) (r : Response) (i : ℕ) → OnePlace s.slots → Agree (key_at c s).path varies s.slots → r.path ≡ (key_at c s).path → r.language ≡ (key_at c s).language → r.row.varies ≡ varies → room_for c s ≡ Some i →
    (j : ℕ) (q : Response) → get_or s.slots j Empty ≡ Filled q → Rivals r q → i ≡ j
unfolding room_for
room_alone c varies s r i u agree rp rl rv room j q hq rivals = at (get_or s.slots k Empty) refl (found_passes p s.slots Empty k here).1
  where
    p : Slot → Bool
    p = holds (is_for (key_at c s).path (key_at c s).language)

    k : ℕ
    k = position_or_len (holds (is_for (key_at c s).path (key_at c s).language)) s.slots

    q_path : q.path ≡ (key_at c s).path
    q_path = sym rivals.path ∙ rp

    q_varies : q.row.varies ≡ varies
    q_varies = agree j q hq q_path

    q_for : is_for (key_at c s).path (key_at c s).language q ≡ true
    q_for = for_from (key_at c s).path (key_at c s).language q q_path (λ f. sym (rivals.language (rv ∙ (sym q_varies ∙ f)) f) ∙ rl)

    here : position p s.slots ≡ Some k
    here = found_some p s.slots j (in_range s.slots j q hq) (ap p hq ∙ q_for)

    same : i ≡ k
    same = let z : Some k ≡ Some i = sym (ap (λ (o : Option ℕ). or_else o (or_else (position is_empty s.slots) (or_else (position (is_spent s) s.slots) (oldest_to (length s.slots) s)))) here) ∙ room in (let e : k ≡ i = cc in sym e)

    at : (o : Slot) → get_or s.slots k Empty ≡ o → p (get_or s.slots k Empty) ≡ true → i ≡ j
    at Empty e f = let z = ap p e in bad (cc)
    at (Filled o) e f = let t = for_facts (key_at c s).path (key_at c s).language o (sym (ap p e) ∙ f) in
        let w = for_facts (key_at c s).path (key_at c s).language q q_for in
        same ∙ u k j o q e hq (record { path = t.0 ∙ sym w.0; language = λ g h. t.1 g ∙ sym (w.1 h) })

stored_one : (fits : Fits) (c : ℕ) (x : Exchange) (varies : Bool) (tag : Option (List ℕ)) (body : List ℕ) (w : Words) (s : State) → OnePlace s.slots → Agree (key_at c s).path varies s.slots → OnePlace (stored fits c x varies tag body w s).slots
stored_one fits c x varies tag body w s u agree = go (may_store x w && fits tag body) (room_for c s) refl
  where
    r : Response
    r = record { path = (key_at c s).path; language = (key_at c s).language; tag = tag; body = body; row = row_for s.tick x varies w }

    put : (o : Option ℕ) → room_for c s ≡ o → OnePlace (put_at o (record { path = (key_at c s).path; language = (key_at c s).language; tag = tag; body = body; row = row_for s.tick x varies w }) s).slots
    put None e = u
    put (Some i) e = one_set s.slots i _ u (room_alone c varies s _ i u agree refl refl refl e)

    go : (b : Bool) (o : Option ℕ) → room_for c s ≡ o → OnePlace (cond b (put_at o (record { path = (key_at c s).path; language = (key_at c s).language; tag = tag; body = body; row = row_for s.tick x varies w }) s) s).slots
    go true o e = put o e
    go false o e = u

withdrawn_one : (c : ℕ) (o : Option (List ℕ)) (s : State) → OnePlace s.slots → OnePlace (withdrawn c o s).slots
withdrawn_one c None s u = u
withdrawn_one c (Some t) s u = one_without (is_tagged (key_at c s).path (key_at c s).language t) s.slots u

full_one : (fits : Fits) (c : ℕ) (x : Exchange) (varies : Bool) (tag : Option (List ℕ)) (body : List ℕ) (w : Words) (s : State) → OnePlace s.slots → OnePlace (full fits c x varies tag body w s).slots
unfolding full
full_one fits c x varies tag body w s u = go w.private (agreed_all c varies s u)
  where
    key_same : (key_at c (agreed c varies s)).path ≡ (key_at c s).path
    key_same = it (list_any (holds (otherwise (key_at c s).path varies)) s.slots)
      where
        it : (b : Bool) → (key_at c (cond b (record { tick = s.tick; next = s.next; links = s.links; slots = map (without (of_path (key_at c s).path)) s.slots; keys = s.keys; held = s.held }) s)).path ≡ (key_at c s).path
        it true = refl
        it false = refl

    go : (p : Bool) → OnePlace (agreed c varies s).slots × Agree (key_at c s).path varies (agreed c varies s).slots → OnePlace (cond p (withdrawn c tag (agreed c varies s)) (stored fits c x varies tag body w (agreed c varies s))).slots
    go true a = withdrawn_one c tag (agreed c varies s) a.0
    go false a = stored_one fits c x varies tag body w (agreed c varies s) a.0 (subst (λ (path : List ℕ). Agree path varies (agreed c varies s).slots) (sym key_same) a.1)

renewed_one : (c : ℕ) (o : Option ℕ) (x : Exchange) (w : Words) (s : State) → OnePlace s.slots → OnePlace (renewed_at c o x w s).slots
renewed_one c None x w s u = u
renewed_one c (Some i) x w s u = at (get_or s.slots i Empty) refl
  where
    it : (r : Response) → get_or s.slots i Empty ≡ Filled r → (b : Bool) → OnePlace (cond b (record { tick = s.tick; next = s.next; links = s.links; slots = set s.slots i (with_row (row_for s.tick x r.row.varies w) (get_or s.slots i Empty)); keys = s.keys; held = s.held }) s).slots
    it r e true = one_row s.slots i r (row_for s.tick x r.row.varies w) u e refl
    it r e false = u

    at : (k : Slot) → get_or s.slots i Empty ≡ k → OnePlace (renewed_row c i x w (row_of k) s).slots
    at Empty e = u
    at (Filled r) e = it r e (holds (is_asked (key_at c s)) (get_or s.slots i Empty))

same_one : (c : ℕ) (x : Exchange) (w : Words) (s : State) → OnePlace s.slots → OnePlace (not_modified c x w s).slots
same_one c x w s u = go w.private (may_store x w)
  where
    go : (p b : Bool) → OnePlace (cond p (record { tick = s.tick; next = s.next; links = s.links; slots = map (without (is_for (key_at c s).path (key_at c s).language)) s.slots; keys = s.keys; held = s.held }) (cond b (renewed_at c (position (holds (is_for (key_at c s).path (key_at c s).language)) s.slots) x w s) s)).slots
    go true b = one_without (is_for (key_at c s).path (key_at c s).language) s.slots u
    go false true = renewed_one c (position (holds (is_for (key_at c s).path (key_at c s).language)) s.slots) x w s u
    go false false = u

given_up_one : (c : ℕ) (x : Exchange) (s : State) → OnePlace s.slots → OnePlace (given_up c x s).slots
given_up_one c x s u = go x.write
  where
    go : (b : Bool) → OnePlace (cond b (settled c (ended_at c s)) (ended_at c s)).slots
    go true = one_without (of_path (key_at c s).path) s.slots u
    go false = u

one_cond : {A : Type 0} (b : Bool) (t z : Turn A) → OnePlace t.state.slots → OnePlace z.state.slots → OnePlace (cond b t z).state.slots
one_cond true t z u v = u
one_cond false t z u v = v

pub received_one : (fits : Fits) (c : ℕ) (r : Reply) (s : State) → OnePlace s.slots → OnePlace (received fits c r s).state.slots
received_one fits c r s u = go (ltb c 8) (get_or s.links c None)
  where
    read : (x : Exchange) (r : Reply) → OnePlace (read_answered fits c x r s).state.slots
    read x (Full varies tag body w) = full_one fits c x varies tag body w (ended_at c s) u
    read x (NotModified w) = it (is_some (key_at c s).tag)
      where
        it : (b : Bool) → OnePlace (cond b (turn (not_modified c x w (ended_at c s)) (same_for x)) (faulty c x s)).state.slots
        it true = same_one c x w (ended_at c s) u
        it false = given_up_one c x s u
    read x (Done body) = given_up_one c x s u
    read x (Other body) = u

    write : (x : Exchange) (r : Reply) → OnePlace (write_answered c x r s).state.slots
    write x (Full varies tag body w) = given_up_one c x s u
    write x (NotModified w) = given_up_one c x s u
    write x (Done body) = one_without (of_path (key_at c s).path) s.slots u
    write x (Other body) = u

    busy : (x : Exchange) (b : Bool) → OnePlace (cond b (write_answered c x r s) (read_answered fits c x r s)).state.slots
    busy x true = write x r
    busy x false = read x r

    on : (l : Option Exchange) → OnePlace (answered_on fits c l r s).state.slots
    on None = u
    on (Some x) = busy x x.write

    go : (b : Bool) (l : Option Exchange) → OnePlace (cond b (answered_on fits c l r s) (turn s Nobody)).state.slots
    go b l = one_cond b (answered_on fits c l r s) (turn s Nobody) (on l) u

pub lost_one : (c : ℕ) (s : State) → OnePlace s.slots → OnePlace (lost c s).state.slots
lost_one c s u = go (ltb c 8) (get_or s.links c None)
  where
    on : (l : Option Exchange) → OnePlace (lost_on c l s).state.slots
    on None = u
    on (Some x) = given_up_one c x s u

    go : (b : Bool) (l : Option Exchange) → OnePlace (cond b (lost_on c l s) (turn s Nobody)).state.slots
    go b l = one_cond b (lost_on c l s) (turn s Nobody) (on l) u

pub requested_one : (knows : Knows) (a : Ask) (s : State) → OnePlace s.slots → OnePlace (requested knows a s).state.slots
unfolding begins
requested_one knows a s u = go (is_some a.write)
  where
    begun : (own : Bool) (tag : Option (List ℕ)) (body : List ℕ) → OnePlace (begins knows a own (key_of a tag) body s).state.slots
    begun own tag body = one_cond (can_forward knows (key_of a tag) s) _ _ u u

    serve : (i : ℕ) (r : Response) → get_or s.slots i Empty ≡ Filled r → OnePlace (serves i r.row s).state.slots
    serve i r e = one_row s.slots i r (used_at s.tick r.row) u e refl

    at : (i : ℕ) (k : Slot) → get_or s.slots i Empty ≡ k → OnePlace (reads_at knows a i (row_of k) s).state.slots
    at i Empty e = begun true a.tag []
    at i (Filled r) e = it (may_serve s.tick r.row) a.no_cache (is_some (tag_of (get_or s.slots i Empty)))
      where
        it : (x n y : Bool) → OnePlace (cond x (cond n (forwards knows a s) (serves i r.row s)) (cond y (revalidates knows a i s) (forwards knows a s))).state.slots
        it true true y = begun true a.tag []
        it true false y = serve i r e
        it false n true = begun _ _ _
        it false n false = begun true a.tag []

    from : (o : Option ℕ) → OnePlace (reads_from knows a o s).state.slots
    from None = begun true a.tag []
    from (Some i) = at i (get_or s.slots i Empty) refl

    go : (b : Bool) → OnePlace (cond b (forwards knows a s) (reads_from knows a (position (holds (is_for a.path a.language)) s.slots) s)).state.slots
    go true = begun true a.tag []
    go false = from (position (holds (is_for a.path a.language)) s.slots)
