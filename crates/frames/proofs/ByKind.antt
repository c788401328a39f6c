-- How bytes are read, step by step: by their first byte, and by how many there are.
use Rattle.std.proofs.Common.{◌≡◌, ℕ, zero, suc, ◌+◌, ◌<◌, ◌≤◌, ◌⊎◌, List, ◌∷◌, length, get_or, take, drop, Some, None, Ok, Err, Result, sym, refl, ap, ◌∙◌, inl, inr, arith}
use Rattle.std.proofs.lemmas.Bool.{le-leb, lt-leb}
use Rattle.std.proofs.lemmas.Bool.Decides.{nat_tests}
use Rattle.frames.specs.declared.faults.Fault.TheVariants.{UnknownKind, UnknownConnection}
use Rattle.frames.specs.declared.faults.Fault.{Fault}
use Rattle.frames.specs.declared.kinds.EventKind.{EventKind}
use Rattle.frames.specs.Events.{FromClient, FromOrigin, Broke, Gone, number_at, client_of, origin_of, broken_of, ended_of, event_kind, of_kind, by_kind, event_of}

pub data Kind : ℕ → Type 0 where
  client : Kind 1
  origin : Kind 2
  broken : Kind 3
  tick : Kind 4
  ended : Kind 5
  other : (k : ℕ) → (k ≡ 0) ⊎ (5 < k) → Kind k

pub kinds : (k : ℕ) → Kind k
kinds zero = other 0 (inl refl)
kinds (suc zero) = client
kinds (suc (suc zero)) = origin
kinds (suc (suc (suc zero))) = broken
kinds (suc (suc (suc (suc zero)))) = tick
kinds (suc (suc (suc (suc (suc zero))))) = ended
kinds (suc (suc (suc (suc (suc (suc k)))))) = other _ (inr (omega arith))

pub none_there : (bs : List ℕ) → length bs < 1 → event_of bs ≡ Ok None
unfolding event_of
none_there bs h = rw (lt-leb 1 (length bs) h)

pub some_there : (bs : List ℕ) → 0 < length bs → event_of bs ≡ by_kind (get_or bs 0 0) bs
unfolding event_of
some_there bs h = rw (le-leb 1 (length bs) h)

no_kind : (k : ℕ) → (k ≡ 0) ⊎ (5 < k) → event_kind k ≡ Err UnknownKind
no_kind k (inl e) = rw e
no_kind k (inr h) = grind (arith, nat_tests)

pub bad_kind : (k : ℕ) (bs : List ℕ) → (k ≡ 0) ⊎ (5 < k) → by_kind k bs ≡ Err UnknownKind
bad_kind k bs o = ap (λ r. of_kind r bs) (no_kind k o)

-- a kind, and the bytes behind it
pub of_front : (bs rest : List ℕ) (k : ℕ) (r : Result EventKind Fault) (seen kind : EventKind) → bs ≡ k ∷ rest → r ≡ event_kind k → r ≡ Ok seen → seen ≡ kind → of_kind (Ok kind) (k ∷ rest) ≡ event_of bs
of_front bs rest k r seen kind split read known is =
    sym (ap event_of split ∙ some_there (k ∷ rest) (omega arith) ∙ ap (λ x. of_kind x (k ∷ rest)) (sym read ∙ known ∙ ap Ok is))

pub client_short : (bs : List ℕ) → length bs < 5 → client_of bs ≡ None
client_short bs h = rw (lt-leb 5 (length bs) h)

pub client_more : (bs : List ℕ) → length bs < 5 + number_at bs 3 → client_of bs ≡ None
client_more bs h = grind (arith, nat_tests)

pub client_whole : (bs : List ℕ) → 5 + number_at bs 3 ≤ length bs → client_of bs ≡ Some (FromClient (number_at bs 1) (take (number_at bs 3) (drop 5 bs)), 5 + number_at bs 3)
client_whole bs h = let k : 5 ≤ length bs = omega arith in rw (le-leb 5 (length bs) k, le-leb (5 + number_at bs 3) (length bs) h)

pub origin_short : (bs : List ℕ) → length bs < 2 → origin_of bs ≡ Ok None
origin_short bs h = rw (lt-leb 2 (length bs) h)

pub origin_bad : (bs : List ℕ) → 1 < length bs → 8 ≤ get_or bs 1 0 → origin_of bs ≡ Err UnknownConnection
origin_bad bs h k = rw (le-leb 2 (length bs) h, le-leb 8 (get_or bs 1 0) k)

pub origin_early : (bs : List ℕ) → 1 < length bs → get_or bs 1 0 < 8 → length bs < 4 → origin_of bs ≡ Ok None
origin_early bs h k m = rw (le-leb 2 (length bs) h, lt-leb 8 (get_or bs 1 0) k, lt-leb 4 (length bs) m)

pub origin_more : (bs : List ℕ) → 3 < length bs → get_or bs 1 0 < 8 → length bs < 4 + number_at bs 2 → origin_of bs ≡ Ok None
origin_more bs h k m = let two : 2 ≤ length bs = omega arith in rw (le-leb 2 (length bs) two, lt-leb 8 (get_or bs 1 0) k, le-leb 4 (length bs) h, lt-leb (4 + number_at bs 2) (length bs) m)

pub origin_whole : (bs : List ℕ) → get_or bs 1 0 < 8 → 4 + number_at bs 2 ≤ length bs → origin_of bs ≡ Ok (Some (FromOrigin (get_or bs 1 0) (take (number_at bs 2) (drop 4 bs)), 4 + number_at bs 2))
origin_whole bs k m = let two : 2 ≤ length bs = omega arith in let four : 4 ≤ length bs = omega arith in rw (le-leb 2 (length bs) two, lt-leb 8 (get_or bs 1 0) k, le-leb 4 (length bs) four, le-leb (4 + number_at bs 2) (length bs) m)

pub broken_short : (bs : List ℕ) → length bs < 2 → broken_of bs ≡ Ok None
broken_short bs h = rw (lt-leb 2 (length bs) h)

pub broken_bad : (bs : List ℕ) → 1 < length bs → 8 ≤ get_or bs 1 0 → broken_of bs ≡ Err UnknownConnection
broken_bad bs h k = rw (le-leb 2 (length bs) h, le-leb 8 (get_or bs 1 0) k)

pub broken_whole : (bs : List ℕ) → 1 < length bs → get_or bs 1 0 < 8 → broken_of bs ≡ Ok (Some (Broke (get_or bs 1 0), 2))
broken_whole bs h k = rw (le-leb 2 (length bs) h, lt-leb 8 (get_or bs 1 0) k)

pub ended_short : (bs : List ℕ) → length bs < 3 → ended_of bs ≡ None
ended_short bs h = rw (lt-leb 3 (length bs) h)

pub ended_whole : (bs : List ℕ) → 2 < length bs → ended_of bs ≡ Some (Gone (number_at bs 1), 3)
ended_whole bs h = rw (le-leb 3 (length bs) h)
