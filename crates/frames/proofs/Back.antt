-- An event's bytes read back as that event, and no other bytes do.
use Rattle.std.proofs.Common.{◌≡◌, ℕ, ◌+◌, ◌<◌, ◌≤◌, List, [], ◌∷◌, ◌++◌, length, get_or, take, drop, Some, None, Ok, Err, sym, refl, ap, ◌∙◌, subst, ⊎_elim, arith}
use lib.Seq.{take-append-add}
use Rattle.std.proofs.lemmas.List.{length-append, length-take-le, take_at}
use Rattle.std.proofs.lemmas.Bool.{cases_lt}
use Rattle.frames.specs.declared.faults.Fault.{Fault}
use Rattle.frames.specs.Events.{Arrival, Reading, FromClient, FromOrigin, Broke, Ticked, Gone, Good, number, number_at, high, low, encode, client_of, origin_of, broken_of, ended_of, by_kind, event_of}
use Rattle.frames.specs.Laws.{ReadsBack, OneEncoding, Bytes}
use Rattle.frames.proofs.ByKind.{Kind, client, origin, broken, tick, ended, other, kinds, none_there, some_there, bad_kind, client_more, client_whole, origin_short, origin_bad, origin_early, origin_more, origin_whole, broken_short, broken_bad, broken_whole, ended_short, ended_whole}

pub split : (n : ℕ) → number (high n) (low n) ≡ n
split n = omega arith

client_back : (c : ℕ) (bs rest : List ℕ) → event_of (encode (FromClient c bs) ++ rest) ≡ Ok (Some (FromClient c bs, length (encode (FromClient c bs))))
client_back c bs rest =
    let all : List ℕ = encode (FromClient c bs) ++ rest in
    let who = split c in
    let size = split (length bs) in
    let body = take_at bs rest (number (high (length bs)) (low (length bs))) (sym size) in
    let long : 5 + length bs ≡ length (encode (FromClient c bs)) = omega arith in
    let fits : 5 + number_at all 3 ≤ length all = omega (arith, size, length-append bs rest) in
    some_there all (omega arith) ∙ ap Ok (client_whole all fits) ∙ (rw (body, who, size, long))

origin_back : (i : ℕ) (bs rest : List ℕ) → i < 8 → event_of (encode (FromOrigin i bs) ++ rest) ≡ Ok (Some (FromOrigin i bs, length (encode (FromOrigin i bs))))
origin_back i bs rest near =
    let all : List ℕ = encode (FromOrigin i bs) ++ rest in
    let size = split (length bs) in
    let body = take_at bs rest (number (high (length bs)) (low (length bs))) (sym size) in
    let long : 4 + length bs ≡ length (encode (FromOrigin i bs)) = omega arith in
    let fits : 4 + number_at all 2 ≤ length all = omega (arith, size, length-append bs rest) in
    some_there all (omega arith) ∙ origin_whole all near fits ∙ (rw (body, size, long))

pub reads_back : ReadsBack
reads_back (FromClient c bs) good rest = client_back c bs rest
reads_back (FromOrigin i bs) good rest = origin_back i bs rest good.0
reads_back (Broke i) good rest = some_there (3 ∷ i ∷ rest) (omega arith) ∙ broken_whole (3 ∷ i ∷ rest) (omega arith) good
reads_back Ticked good rest = some_there (4 ∷ rest) (omega arith)
reads_back (Gone c) good rest =
    let all : List ℕ = encode (Gone c) ++ rest in
    some_there all (omega arith) ∙ ap Ok (ended_whole all (omega arith)) ∙ (rw (split c))

high_of : (b c : ℕ) → c < 256 → high (number b c) ≡ b
high_of b c h = omega arith

low_of : (b c : ℕ) → c < 256 → low (number b c) ≡ c
low_of b c h = omega arith

two_bytes : (b c : ℕ) → b < 256 → c < 256 → number b c < 65536
two_bytes b c h k = omega arith

abbrev Begins : List ℕ → Arrival → ℕ → Type 0
Begins bs e n = Good e × (take n bs ≡ encode e)

client_one : (bs : List ℕ) → Bytes bs → get_or bs 0 0 ≡ 1 → 5 + number_at bs 3 ≤ length bs → Begins bs (FromClient (number_at bs 1) (take (number_at bs 3) (drop 5 bs))) (5 + number_at bs 3)
client_one [] by kind h = absurd (omega arith)
client_one (a ∷ []) by kind h = absurd (omega arith)
client_one (a ∷ b ∷ []) by kind h = absurd (omega arith)
client_one (a ∷ b ∷ c ∷ []) by kind h = absurd (omega arith)
client_one (a ∷ b ∷ c ∷ d ∷ []) by kind h = absurd (omega arith)
client_one (a ∷ b ∷ c ∷ d ∷ e ∷ rest) by kind h =
    let long : length (take (number d e) rest) ≡ number d e = length-take-le (number d e) rest (omega arith) in
    let short : length (take (number d e) rest) < 65536 = omega (arith, long, two_bytes d e (by 3) (by 4)) in
    let whole = take-append-add (a ∷ b ∷ c ∷ d ∷ e ∷ []) rest (number d e) in
    ((two_bytes b c (by 1) (by 2), short), whole ∙ (rw (long, high_of b c (by 2), low_of b c (by 2), high_of d e (by 4), low_of d e (by 4), kind)))

origin_one : (bs : List ℕ) → Bytes bs → get_or bs 0 0 ≡ 2 → get_or bs 1 0 < 8 → 4 + number_at bs 2 ≤ length bs → Begins bs (FromOrigin (get_or bs 1 0) (take (number_at bs 2) (drop 4 bs))) (4 + number_at bs 2)
origin_one [] by kind near h = absurd (omega arith)
origin_one (a ∷ []) by kind near h = absurd (omega arith)
origin_one (a ∷ b ∷ []) by kind near h = absurd (omega arith)
origin_one (a ∷ b ∷ c ∷ []) by kind near h = absurd (omega arith)
origin_one (a ∷ b ∷ d ∷ e ∷ rest) by kind near h =
    let long : length (take (number d e) rest) ≡ number d e = length-take-le (number d e) rest (omega arith) in
    let short : length (take (number d e) rest) < 65536 = omega (arith, long, two_bytes d e (by 2) (by 3)) in
    let whole = take-append-add (a ∷ b ∷ d ∷ e ∷ []) rest (number d e) in
    ((near, short), whole ∙ (rw (long, high_of d e (by 3), low_of d e (by 3), kind)))

broken_one : (bs : List ℕ) → get_or bs 0 0 ≡ 3 → get_or bs 1 0 < 8 → 1 < length bs → Begins bs (Broke (get_or bs 1 0)) 2
broken_one [] kind near h = absurd (omega arith)
broken_one (a ∷ []) kind near h = absurd (omega arith)
broken_one (a ∷ b ∷ rest) kind near h = (near, rw kind)

tick_one : (bs : List ℕ) → get_or bs 0 0 ≡ 4 → 0 < length bs → Begins bs Ticked 1
tick_one [] kind h = absurd (omega arith)
tick_one (a ∷ rest) kind h = (tt, rw kind)

ended_one : (bs : List ℕ) → Bytes bs → get_or bs 0 0 ≡ 5 → 2 < length bs → Begins bs (Gone (number_at bs 1)) 3
ended_one [] by kind h = absurd (omega arith)
ended_one (a ∷ []) by kind h = absurd (omega arith)
ended_one (a ∷ b ∷ []) by kind h = absurd (omega arith)
ended_one (a ∷ b ∷ c ∷ rest) by kind h = (two_bytes b c (by 1) (by 2), rw (high_of b c (by 2), low_of b c (by 2), kind))

read_so : (x y : Arrival × ℕ) → ◌≡◌ {A = Reading} (Ok (Some x)) (Ok (Some y)) → x ≡ y
read_so x y q = cc

-- what was read, by what is known to be read
module _ (P : Arrival → ℕ → Type 0) (e : Arrival) (n : ℕ) where
  whole_so : (r : Reading) (f : Arrival) (m : ℕ) → r ≡ Ok (Some (f, m)) → r ≡ Ok (Some (e, n)) → P f m → P e n
  whole_so r f m p q x =
      let both = read_so (f, m) (e, n) (sym p ∙ q) in
      let same : f ≡ e = ap (λ (z : Arrival × ℕ). z.0) both in
      let size : m ≡ n = ap (λ (z : Arrival × ℕ). z.1) both in
      subst (λ (z : Arrival). P z n) same (subst (λ (z : ℕ). P f z) size x)

  more_not : (r : Reading) → r ≡ Ok None → r ≡ Ok (Some (e, n)) → P e n
  more_not r p q = cc

  refused_not : (r : Reading) → (f : Fault) → r ≡ Err f → r ≡ Ok (Some (e, n)) → P e n
  refused_not r f p q = cc

-- a property of what is read is shown for a whole frame of each kind
pub record Each (bs : List ℕ) (P : Arrival → ℕ → Type 0) : Type 0 where
  pub client : get_or bs 0 0 ≡ 1 → 5 + number_at bs 3 ≤ length bs → P (FromClient (number_at bs 1) (take (number_at bs 3) (drop 5 bs))) (5 + number_at bs 3)
  pub origin : get_or bs 0 0 ≡ 2 → get_or bs 1 0 < 8 → 4 + number_at bs 2 ≤ length bs → P (FromOrigin (get_or bs 1 0) (take (number_at bs 2) (drop 4 bs))) (4 + number_at bs 2)
  pub broken : get_or bs 0 0 ≡ 3 → get_or bs 1 0 < 8 → 1 < length bs → P (Broke (get_or bs 1 0)) 2
  pub tick : get_or bs 0 0 ≡ 4 → 0 < length bs → P Ticked 1
  pub ended : get_or bs 0 0 ≡ 5 → 2 < length bs → P (Gone (number_at bs 1)) 3

module _ (bs : List ℕ) (P : Arrival → ℕ → Type 0) (all : Each bs P) (e : Arrival) (n : ℕ) where
  of_client_lem : get_or bs 0 0 ≡ 1 → ◌≡◌ {A = Reading} (Ok (client_of bs)) (Ok (Some (e, n))) → P e n
  of_client_lem kind q =
      ⊎_elim (λ h. more_not P e n _ (ap Ok (client_more bs h)) q) (λ h. whole_so P e n _ _ _ (ap Ok (client_whole bs h)) q (all.client kind h)) (cases_lt (length bs) (5 + number_at bs 3))

  of_origin : get_or bs 0 0 ≡ 2 → origin_of bs ≡ Ok (Some (e, n)) → P e n
  of_origin kind q =
      ⊎_elim (λ h. more_not P e n _ (origin_short bs h) q)
      (λ two. ⊎_elim (near two) (λ k. refused_not P e n _ _ (origin_bad bs two k) q) (cases_lt (get_or bs 1 0) 8))
      (cases_lt (length bs) 2)
    where
      near : 1 < length bs → get_or bs 1 0 < 8 → P e n
      near two k =
          ⊎_elim (λ h. more_not P e n _ (origin_early bs two k h) q)
          (λ four. ⊎_elim (λ h. more_not P e n _ (origin_more bs four k h) q) (λ h. whole_so P e n _ _ _ (origin_whole bs k h) q (all.origin kind k h)) (cases_lt (length bs) (4 + number_at bs 2)))
          (cases_lt (length bs) 4)

  of_broken : get_or bs 0 0 ≡ 3 → broken_of bs ≡ Ok (Some (e, n)) → P e n
  of_broken kind q =
      ⊎_elim (λ h. more_not P e n _ (broken_short bs h) q)
      (λ two. ⊎_elim (λ k. whole_so P e n _ _ _ (broken_whole bs two k) q (all.broken kind k two)) (λ k. refused_not P e n _ _ (broken_bad bs two k) q) (cases_lt (get_or bs 1 0) 8))
      (cases_lt (length bs) 2)

  of_ended : get_or bs 0 0 ≡ 5 → ◌≡◌ {A = Reading} (Ok (ended_of bs)) (Ok (Some (e, n))) → P e n
  of_ended kind q =
      ⊎_elim (λ h. more_not P e n _ (ap Ok (ended_short bs h)) q) (λ h. whole_so P e n _ _ _ (ap Ok (ended_whole bs h)) q (all.ended kind h)) (cases_lt (length bs) 3)

  of_kind : (k : ℕ) → Kind k → get_or bs 0 0 ≡ k → 0 < length bs → by_kind k bs ≡ Ok (Some (e, n)) → P e n
  of_kind _ client kind h q = of_client_lem kind q
  of_kind _ origin kind h q = of_origin kind q
  of_kind _ broken kind h q = of_broken kind q
  of_kind _ tick kind h q = whole_so P e n _ _ _ refl q (all.tick kind h)
  of_kind _ ended kind h q = of_ended kind q
  of_kind _ (other k o) kind h q = refused_not P e n _ _ (bad_kind k bs o) q

  pub of_event : event_of bs ≡ Ok (Some (e, n)) → P e n
  of_event q =
      ⊎_elim (λ h. more_not P e n _ (none_there bs h) q)
      (λ h. of_kind (get_or bs 0 0) (kinds (get_or bs 0 0)) refl h (sym (some_there bs h) ∙ q))
      (cases_lt (length bs) 1)

pub one_encoding : OneEncoding
one_encoding bs e n by q =
    of_event bs (Begins bs) (record { client = client_one bs by; origin = origin_one bs by; broken = broken_one bs; tick = tick_one bs; ended = ended_one bs by }) e n q

-- an event takes a byte at least, and none that is not there
pub event_within : (bs : List ℕ) (e : Arrival) (n : ℕ) → event_of bs ≡ Ok (Some (e, n)) → (0 < n) × (n ≤ length bs)
event_within bs e n q =
    of_event bs (λ _ m. (0 < m) × (m ≤ length bs))
    (record {
      client = λ k h. (omega arith, h);
      origin = λ k near h. (omega arith, h);
      broken = λ k near h. (omega arith, h);
      tick = λ k h. (omega arith, h);
      ended = λ k h. (omega arith, h);
    })
    e n q
