-- A verdict stays, whatever bytes follow.
use Rattle.std.proofs.Common.{◌≡◌, ℕ, ◌+◌, ◌<◌, ◌≤◌, true, leb, List, ◌++◌, length, get_or, take, drop, Some, None, Ok, Err, sym, refl, ap, ◌∙◌, ⊎_elim, arith}
use Rattle.std.proofs.lemmas.List.{length-append, length-drop, get_or_append_left, take-append-le, drop-append-le}
use Rattle.std.proofs.lemmas.Bool.{cases_lt, le-leb}
use Rattle.frames.specs.declared.faults.Fault.{Fault}
use Rattle.frames.specs.Events.{Arrival, number_at, client_of, origin_of, broken_of, ended_of, by_kind, event_of}
use Rattle.frames.specs.Laws.{Settles}
use Rattle.frames.proofs.ByKind.{Kind, client, origin, broken, tick, ended, other, kinds, none_there, some_there, bad_kind, client_short, client_more, client_whole, origin_short, origin_bad, origin_early, origin_more, origin_whole, broken_short, ended_short, ended_whole}

number_append : (bs more : List ℕ) (i : ℕ) → i + 1 < length bs → number_at (bs ++ more) i ≡ number_at bs i
number_append bs more i h =
    let k : i < length bs = omega arith in
    rw (get_or_append_left bs more 0 i k, get_or_append_left bs more 0 (i + 1) h)

body-append : (bs more : List ℕ) (h n : ℕ) → h + n ≤ length bs → take n (drop h (bs ++ more)) ≡ take n (drop h bs)
body-append bs more h n k =
    let fits : h ≤ length bs = omega arith in
    let room : n ≤ length (drop h bs) = rw (length-drop h bs) (omega arith) in
    rw (drop-append-le h bs more fits) (take-append-le n (drop h bs) more room)

module _ (bs more : List ℕ) where
  longer : length bs ≤ length (bs ++ more)
  longer = rw (length-append bs more) (omega arith)

  client_settles : (client_of bs ≡ None → ⊥) → client_of (bs ++ more) ≡ client_of bs
  client_settles m =
      ⊎_elim (λ h. absurd (m (client_short bs h)))
      (λ five. ⊎_elim (λ h. absurd (m (client_more bs h))) (whole five) (cases_lt (length bs) (5 + number_at bs 3)))
      (cases_lt (length bs) 5)
    where
      whole : 5 ≤ length bs → 5 + number_at bs 3 ≤ length bs → client_of (bs ++ more) ≡ client_of bs
      whole five h =
          let who = number_append bs more 1 (omega arith) in
          let size = number_append bs more 3 (omega arith) in
          let body = body-append bs more 5 (number_at bs 3) h in
          let fits : 5 + number_at (bs ++ more) 3 ≤ length (bs ++ more) = omega (arith, size, longer) in
          client_whole (bs ++ more) fits ∙ (rw (who, size, body) (sym (client_whole bs h)))

  origin_settles : (origin_of bs ≡ Ok None → ⊥) → origin_of (bs ++ more) ≡ origin_of bs
  origin_settles m =
      ⊎_elim (λ h. absurd (m (origin_short bs h)))
      (λ two. ⊎_elim (near two) (bad two) (cases_lt (get_or bs 1 0) 8))
      (cases_lt (length bs) 2)
    where
      same : 1 < length bs → get_or (bs ++ more) 1 0 ≡ get_or bs 1 0
      same two = get_or_append_left bs more 0 1 two

      bad : 1 < length bs → 8 ≤ get_or bs 1 0 → origin_of (bs ++ more) ≡ origin_of bs
      bad two k =
          let wide : 1 < length (bs ++ more) = omega (arith, longer) in
          let past : 8 ≤ get_or (bs ++ more) 1 0 = omega (arith, same two) in
          origin_bad (bs ++ more) wide past ∙ sym (origin_bad bs two k)

      whole : get_or bs 1 0 < 8 → 3 < length bs → 4 + number_at bs 2 ≤ length bs → origin_of (bs ++ more) ≡ origin_of bs
      whole k four h =
          let two : 1 < length bs = omega arith in
          let who = same two in
          let size = number_append bs more 2 (omega arith) in
          let body = body-append bs more 4 (number_at bs 2) h in
          let near : get_or (bs ++ more) 1 0 < 8 = omega (arith, who) in
          let fits : 4 + number_at (bs ++ more) 2 ≤ length (bs ++ more) = omega (arith, size, longer) in
          origin_whole (bs ++ more) near fits ∙ (rw (who, size, body) (sym (origin_whole bs k h)))

      near : 1 < length bs → get_or bs 1 0 < 8 → origin_of (bs ++ more) ≡ origin_of bs
      near two k =
          ⊎_elim (λ h. absurd (m (origin_early bs two k h)))
          (λ four. ⊎_elim (λ h. absurd (m (origin_more bs four k h))) (whole k four) (cases_lt (length bs) (4 + number_at bs 2)))
          (cases_lt (length bs) 4)

  broken_settles : (broken_of bs ≡ Ok None → ⊥) → broken_of (bs ++ more) ≡ broken_of bs
  broken_settles m = ⊎_elim (λ h. absurd (m (broken_short bs h))) known (cases_lt (length bs) 2)
    where
      known : 1 < length bs → broken_of (bs ++ more) ≡ broken_of bs
      known two =
          let who = get_or_append_left bs more 0 1 two in
          let wide = le-leb 2 (length bs) two in
          let wider : leb 2 (length (bs ++ more)) ≡ true = le-leb 2 (length (bs ++ more)) (omega (arith, longer)) in
          rw (wide, wider, who)

  ended_settles : (ended_of bs ≡ None → ⊥) → ended_of (bs ++ more) ≡ ended_of bs
  ended_settles m = ⊎_elim (λ h. absurd (m (ended_short bs h))) known (cases_lt (length bs) 3)
    where
      known : 2 < length bs → ended_of (bs ++ more) ≡ ended_of bs
      known three =
          let who = number_append bs more 1 three in
          ended_whole (bs ++ more) (omega (arith, longer)) ∙ (rw who (sym (ended_whole bs three)))

  kind_settles : (k : ℕ) → Kind k → (by_kind k bs ≡ Ok None → ⊥) → by_kind k (bs ++ more) ≡ by_kind k bs
  kind_settles _ client m = ap Ok (client_settles (λ q. m (ap Ok q)))
  kind_settles _ origin m = origin_settles m
  kind_settles _ broken m = broken_settles m
  kind_settles _ tick m = refl
  kind_settles _ ended m = ap Ok (ended_settles (λ q. m (ap Ok q)))
  kind_settles _ (other k o) m = bad_kind k (bs ++ more) o ∙ sym (bad_kind k bs o)

  event_settles : (event_of bs ≡ Ok None → ⊥) → event_of (bs ++ more) ≡ event_of bs
  event_settles m = ⊎_elim (λ h. absurd (m (none_there bs h))) known (cases_lt (length bs) 1)
    where
      known : 1 ≤ length bs → event_of (bs ++ more) ≡ event_of bs
      known one =
          let here = some_there bs one in
          some_there (bs ++ more) (omega (arith, longer))
          ∙ ap (λ (k : ℕ). by_kind k (bs ++ more)) (get_or_append_left bs more 0 0 one)
          ∙ kind_settles (get_or bs 0 0) (kinds (get_or bs 0 0)) (λ q. m (here ∙ q))
          ∙ sym here

pub settles : Settles
settles bs more m = event_settles bs more m

-- what was refused stays so, and what was read
pub refused_stays : (bs more : List ℕ) (f : Fault) → event_of bs ≡ Err f → event_of (bs ++ more) ≡ Err f
refused_stays bs more f q = let known : event_of bs ≡ Ok None → ⊥ = λ m. cc in settles bs more known ∙ q

pub whole_stays : (bs more : List ℕ) (x : Arrival × ℕ) → event_of bs ≡ Ok (Some x) → event_of (bs ++ more) ≡ Ok (Some x)
whole_stays bs more x q = let known : event_of bs ≡ Ok None → ⊥ = λ m. cc in settles bs more known ∙ q
