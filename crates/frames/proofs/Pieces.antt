-- In whatever pieces bytes come, the same events are read.
use Rattle.std.proofs.Common.{◌≡◌, ℕ, zero, suc, ◌≤◌, List, [], ◌∷◌, ◌++◌, length, drop, Some, None, Ok, Err, sym, refl, ap, ◌∙◌, append_assoc, append-nil, arith}
use Rattle.std.proofs.lemmas.List.{length-drop, drop-append-le}
use Rattle.frames.specs.Events.{Arrival, Reading, event_of}
use Rattle.frames.specs.Streams.{End, Left, Stopped, Stream, after, next, events_on, events_of, feed_end, feed, in_pieces, joined}
use Rattle.frames.specs.Laws.{PiecesAlike}
use Rattle.frames.proofs.ByKind.{none_there}
use Rattle.frames.proofs.Back.{event_within}
use Rattle.frames.proofs.Settled.{refused_stays, whole_stays}

pub shorter : (k : ℕ) (bs : List ℕ) (e : Arrival) (n : ℕ) → event_of bs ≡ Ok (Some (e, n)) → length bs ≤ suc k → length (drop n bs) ≤ k
shorter k bs e n q h = let w = event_within bs e n q in rw (length-drop n bs) (omega arith)

-- more steps than bytes read no more
pub enough : (k j : ℕ) (bs : List ℕ) → length bs ≤ k → length bs ≤ j → events_on k bs ≡ events_on j bs
unfolding events_on
enough zero zero bs h l = refl
enough zero (suc j) bs h l = sym (ap (next (events_on j) bs) (none_there bs (omega arith)))
enough (suc k) zero bs h l = ap (next (events_on k) bs) (none_there bs (omega arith))
enough (suc k) (suc j) bs h l = go (event_of bs) refl (λ n. enough k j (drop n bs))
  where
    go : (r : Reading) → event_of bs ≡ r → ((n : ℕ) → length (drop n bs) ≤ k → length (drop n bs) ≤ j → events_on k (drop n bs) ≡ events_on j (drop n bs)) → next (events_on k) bs r ≡ next (events_on j) bs r
    go (Ok None) q ih = refl
    go (Err f) q ih = refl
    go (Ok (Some (e, n))) q ih = ap (after e) (ih n (shorter k bs e n q h) (shorter j bs e n q l))

pub unrolled : (bs : List ℕ) → events_of bs ≡ next events_of bs (event_of bs)
unfolding events_of events_on
unrolled [] = sym (ap (next events_of []) (none_there [] (omega arith)))
unrolled (b ∷ bs) = go (event_of (b ∷ bs)) refl
  where
    go : (r : Reading) → event_of (b ∷ bs) ≡ r → next (events_on (length bs)) (b ∷ bs) r ≡ next events_of (b ∷ bs) r
    go (Ok None) q = refl
    go (Err f) q = refl
    go (Ok (Some (e, n))) q = let s = shorter (length bs) (b ∷ bs) e n q (omega arith) in ap (after e) (enough (length bs) (length (drop n (b ∷ bs))) (drop n (b ∷ bs)) s (omega arith))

feed_after : (e : Arrival) (es : List Arrival) (end : End) (p : List ℕ) → after e (feed_end es end p) ≡ feed_end (e ∷ es) end p
feed_after e es (Left rest) p = refl
feed_after e es (Stopped f) p = refl

onward : (k : ℕ) (a b : List ℕ) → length a ≤ k → events_of (a ++ b) ≡ feed (events_on k a) b
unfolding events_on
onward zero a b h = refl
onward (suc k) a b h = go (event_of a) refl (λ n. onward k (drop n a) b)
  where
    go : (r : Reading) → event_of a ≡ r → ((n : ℕ) → length (drop n a) ≤ k → events_of (drop n a ++ b) ≡ feed (events_on k (drop n a)) b) → events_of (a ++ b) ≡ feed (next (events_on k) a r) b
    go (Ok None) q ih = refl
    go (Err f) q ih = unrolled (a ++ b) ∙ ap (next events_of (a ++ b)) (refused_stays a b f q)
    go (Ok (Some (e, n))) q ih =
        let w = event_within a e n q in
        unrolled (a ++ b)
        ∙ ap (next events_of (a ++ b)) (whole_stays a b (e, n) q)
        ∙ ap (λ (z : List ℕ). after e (events_of z)) (drop-append-le n a b w.1)
        ∙ ap (after e) (ih n (shorter k a e n q h))
        ∙ feed_after e (events_on k (drop n a)).events (events_on k (drop n a)).end b

pub fed : (a b : List ℕ) → feed (events_of a) b ≡ events_of (a ++ b)
unfolding events_of
fed a b = sym (onward (length a) a b (omega arith))

pieces_on : (a : List ℕ) (ps : List (List ℕ)) → in_pieces (events_of a) ps ≡ events_of (a ++ joined ps)
pieces_on a [] = ap events_of (sym (append-nil a))
pieces_on a (p ∷ ps) =
    ap (λ (s : Stream). in_pieces s ps) (fed a p) ∙ pieces_on (a ++ p) ps ∙ ap events_of (append_assoc a p (joined ps))

pub pieces_alike : PiecesAlike
unfolding events_of events_on
pieces_alike ps = pieces_on [] ps
