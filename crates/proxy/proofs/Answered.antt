-- Each client is answered once from one end to the next.
use Rattle.std.proofs.lemmas.Bool.{or_parts}
use Rattle.std.proofs.Common.{◌≡◌, ℕ, ◌<◌, Bool, true, false, cond, not, ◌&&◌, ◌||◌, eqb, ltb, ◌≢◌, List, [], ◌∷◌, ◌++◌, length, get_or, refl, ap, ◌∙◌, subst, ⊎_elim, arith, length-set}
use lib.ListN.{length-replicate}
use Rattle.std.proofs.lemmas.List.{get_or-set_same, get_or-set_other, get_or-replicate}
use Rattle.std.proofs.lemmas.Bool.{cases_eq, eq-eqb, ne_eqb}
use Rattle.std.proofs.lemmas.Bool.Decides.{nat_tests}
use Rattle.std.proofs.Math.Bool.{and-true}
use Rattle.frames.specs.Events.{Arrival, FromClient, FromOrigin, Broke, Ticked, Gone}
use Rattle.frames.specs.Frames.{Frame}
use Rattle.proxy.specs.Steps.{State, start, still, marked, refuse, refusal, is_open, from_client, does}
use Rattle.proxy.specs.Runs.{play, sends, ends, sent, ended, spoken_on, is_for, about, AnsweredOnce, Unasked, AllRefusing, OnlyClients}

about-append : (c : ℕ) (fs gs : List Frame) → about c (fs ++ gs) ≡ about c fs ++ about c gs
about-append c [] gs = refl
about-append c (f ∷ fs) gs = go (is_for c f) (about-append c fs gs)
  where
    go : (b : Bool) → about c (fs ++ gs) ≡ about c fs ++ about c gs → cond b (f ∷ about c (fs ++ gs)) (about c (fs ++ gs)) ≡ cond b (f ∷ about c fs) (about c fs) ++ about c gs
    go true ih = ap (λ (z : List Frame). f ∷ z) ih
    go false ih = ih

about_own : (c : ℕ) → about c (refusal c) ≡ refusal c
about_own c = rw (eq-eqb c c refl)

about_other : (c d : ℕ) → eqb c d ≡ false → about c (refusal d) ≡ []
about_other c d e = rw e

-- the client has a place, which says whether it has spoken since its last end
pub record Known (c : ℕ) (b : Bool) (s : State) : Type 0 where
  pub place : c < length s.marks
  pub mark : get_or s.marks c 0 ≡ cond b 1 0

open_unless : (c : ℕ) (b : Bool) (s : State) → Known c b s → is_open s.marks c ≡ not b
open_unless c true s m = let h = m.place in let e : get_or s.marks c 0 ≡ 1 = m.mark in grind (arith, nat_tests)
open_unless c false s m = let h = m.place in let e : get_or s.marks c 0 ≡ 0 = m.mark in grind (arith, nat_tests)

marked_own : (c n : ℕ) (b t : Bool) (s : State) → Known c b s → n ≡ cond t 1 0 → Known c t (marked c n s)
marked_own c n b t s m e =
    let h = m.place in
    record { place = rw (length-set s.marks c n) h; mark = get_or-set_same s.marks c n 0 h ∙ e }

marked_other : (c d n : ℕ) (b : Bool) (s : State) → c ≢ d → Known c b s → Known c b (marked d n s)
marked_other c d n b s ne m =
    let h = m.place in
    record { place = rw (length-set s.marks d n) h; mark = get_or-set_other s.marks d c n 0 ne ∙ m.mark }

abbrev spoken_at : Bool → ℕ → Arrival → Bool
spoken_at b c e = cond (ends c e) false (sends c e || b)

own_mark : (c : ℕ) (b : Bool) (bs : List ℕ) (s : State) → Known c b s → Known c (spoken_at b c (FromClient c bs)) (from_client c bs s).after
own_mark c b bs s m = rw (eq-eqb c c refl, open_unless c b s m) (go b (ltb 0 (length bs)) m)
  where
    go : (b l : Bool) → Known c b s → Known c (l || b) (cond (l && not b) (refuse c s) (still s)).after
    go true true m = m
    go false true m = marked_own c 1 false true s m refl
    go true false m = m
    go false false m = m

other_mark : (c d : ℕ) (b : Bool) (bs : List ℕ) (s : State) → (c ≡ d → ⊥) → Known c b s → Known c (spoken_at b c (FromClient d bs)) (from_client d bs s).after
other_mark c d b bs s ne m = rw (ne_eqb c d ne) (go (ltb 0 (length bs) && is_open s.marks d))
  where
    go : (t : Bool) → Known c b (cond t (refuse d s) (still s)).after
    go true = marked_other c d 1 b s ne m
    go false = m

own_frames : (c : ℕ) (b : Bool) (bs : List ℕ) (s : State) → Known c b s → about c (from_client c bs s).frames ≡ cond (sends c (FromClient c bs) && not b) (refusal c) []
own_frames c b bs s m = rw (open_unless c b s m, eq-eqb c c refl) (go (ltb 0 (length bs) && not b))
  where
    go : (t : Bool) → about c (cond t (refuse c s) (still s)).frames ≡ cond t (refusal c) []
    go true = about_own c
    go false = refl

other_frames : (c d : ℕ) (bs : List ℕ) (s : State) → eqb c d ≡ false → about c (from_client d bs s).frames ≡ []
other_frames c d bs s e = go (ltb 0 (length bs) && is_open s.marks d)
  where
    go : (t : Bool) → about c (cond t (refuse d s) (still s)).frames ≡ []
    go true = about_other c d e
    go false = refl

does_mark : (c : ℕ) (b : Bool) (e : Arrival) (s : State) → Known c b s → Known c (spoken_at b c e) (does e s).after
does_mark c b (FromClient d bs) s m =
    ⊎_elim (λ e. subst (λ (z : ℕ). Known c (spoken_at b c (FromClient z bs)) (from_client z bs s).after) e (own_mark c b bs s m)) (λ ne. other_mark c d b bs s ne m) (cases_eq c d)
does_mark c b (FromOrigin i bs) s m = m
does_mark c b (Broke i) s m = m
does_mark c b Ticked s m = record { place = m.place; mark = m.mark }
does_mark c b (Gone d) s m = ⊎_elim own other (cases_eq c d)
  where
    own : c ≡ d → Known c (spoken_at b c (Gone d)) (marked d 0 s)
    own e = subst (λ (z : ℕ). Known c (spoken_at b c (Gone z)) (marked z 0 s)) e (rw (eq-eqb c c refl) (marked_own c 0 b false s m refl))

    other : (c ≡ d → ⊥) → Known c (spoken_at b c (Gone d)) (marked d 0 s)
    other ne = rw (ne_eqb c d ne) (marked_other c d 0 b s ne m)

does_frames : (c : ℕ) (b : Bool) (e : Arrival) (s : State) → Known c b s → about c (does e s).frames ≡ cond (sends c e && not b) (refusal c) []
does_frames c b (FromClient d bs) s m =
    ⊎_elim (λ e. subst (λ (z : ℕ). about c (from_client z bs s).frames ≡ cond (sends c (FromClient z bs) && not b) (refusal c) []) e (own_frames c b bs s m))
    (λ ne. let q = ne_eqb c d ne in rw q (other_frames c d bs s q))
    (cases_eq c d)
does_frames c b (FromOrigin i bs) s m = refl
does_frames c b (Broke i) s m = refl
does_frames c b Ticked s m = refl
does_frames c b (Gone d) s m = refl

play_mark : (c : ℕ) (b : Bool) (es : List Arrival) (s : State) → Known c b s → Known c (spoken_on b c es) (play es s).after
play_mark c b [] s m = m
play_mark c b (e ∷ es) s m = play_mark c (spoken_at b c e) es (does e s).after (does_mark c b e s m)

-- of p, q and b: now it sends, later it does, it has spoken before
once : (c : ℕ) (p q b : Bool) → cond (p && not b) (refusal c) [] ++ cond (q && not (p || b)) (refusal c) [] ≡ cond ((p || q) && not b) (refusal c) []
once c true true true = refl
once c true true false = refl
once c true false true = refl
once c true false false = refl
once c false true true = refl
once c false true false = refl
once c false false true = refl
once c false false false = refl

play_frames : (c : ℕ) (b : Bool) (es : List Arrival) (s : State) → Known c b s → ended c es ≡ false → about c (play es s).frames ≡ cond (sent c es && not b) (refusal c) []
play_frames c b [] s m q = refl
play_frames c b (e ∷ es) s m q =
    let apart = or_parts (ends c e) (ended c es) q in
    let flag : spoken_at b c e ≡ (sends c e || b) = ap (λ (z : Bool). cond z false (sends c e || b)) apart.0 in
    let later = play_frames c (spoken_at b c e) es (does e s).after (does_mark c b e s m) apart.1 in
    about-append c (does e s).frames (play es (does e s).after).frames
    ∙ ap (λ (z : List Frame). z ++ about c (play es (does e s).after).frames) (does_frames c b e s m)
    ∙ ap (λ (z : List Frame). cond (sends c e && not b) (refusal c) [] ++ z) (later ∙ ap (λ (z : Bool). cond (sent c es && not z) (refusal c) []) flag)
    ∙ once c (sends c e) (sent c es) b

at_start : (places c : ℕ) → c < places → Known c false (start places)
at_start places c h = record { place = rw (length-replicate {A = ℕ} places 0) h; mark = get_or-replicate places c 0 0 h }

pub answered_once : AnsweredOnce
answered_once places c h past es fresh stays =
    let m : Known c false (play past (start places)).after = subst (λ (z : Bool). Known c z (play past (start places)).after) fresh (play_mark c false past (start places) (at_start places c h)) in
    play_frames c false es (play past (start places)).after m stays ∙ ap (λ (z : Bool). cond z (refusal c) []) (and-true (sent c es))

quiet : (c : ℕ) (e : Arrival) (s : State) → sends c e ≡ false → about c (does e s).frames ≡ []
quiet c (FromClient d bs) s q = go (eqb c d) refl (ltb 0 (length bs)) refl
  where
    go : (x : Bool) → eqb c d ≡ x → (l : Bool) → ltb 0 (length bs) ≡ l → about c (from_client d bs s).frames ≡ []
    go false e l f = other_frames c d bs s e
    go true e true f = cc
    go true e false f = rw f
quiet c (FromOrigin i bs) s q = refl
quiet c (Broke i) s q = refl
quiet c Ticked s q = refl
quiet c (Gone d) s q = refl

unasked_on : (c : ℕ) (es : List Arrival) (s : State) → sent c es ≡ false → about c (play es s).frames ≡ []
unasked_on c [] s q = refl
unasked_on c (e ∷ es) s q =
    let apart = or_parts (sends c e) (sent c es) q in
    about-append c (does e s).frames (play es (does e s).after).frames
    ∙ ap (λ (z : List Frame). z ++ about c (play es (does e s).after).frames) (quiet c e s apart.0)
    ∙ unasked_on c es (does e s).after apart.1

pub unasked : Unasked
unasked places c es q = unasked_on c es (start places) q

all_append : (fs gs : List Frame) → AllRefusing fs → AllRefusing gs → AllRefusing (fs ++ gs)
all_append [] gs p q = q
all_append (f ∷ fs) gs p q = (p.0, all_append fs gs p.1 q)

does_refusing : (e : Arrival) (s : State) → AllRefusing (does e s).frames
does_refusing (FromClient d bs) s = go (ltb 0 (length bs) && is_open s.marks d)
  where
    go : (t : Bool) → AllRefusing (cond t (refuse d s) (still s)).frames
    go true = (refl, (tt, tt))
    go false = tt
does_refusing (FromOrigin i bs) s = tt
does_refusing (Broke i) s = tt
does_refusing Ticked s = tt
does_refusing (Gone d) s = tt

refusing_on : (es : List Arrival) (s : State) → AllRefusing (play es s).frames
refusing_on [] s = tt
refusing_on (e ∷ es) s = all_append (does e s).frames (play es (does e s).after).frames (does_refusing e s) (refusing_on es (does e s).after)

pub only_clients : OnlyClients
only_clients places es = refusing_on es (start places)
