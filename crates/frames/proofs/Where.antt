-- Which bytes are refused, and no others.
use Rattle.std.proofs.Common.{◌≡◌, ℕ, ◌+◌, ◌<◌, ◌≤◌, ◌⊎◌, List, length, get_or, Ok, Err, Option, sym, refl, ap, ◌∙◌, inl, inr, ⊎_elim, arith}
use Rattle.std.proofs.lemmas.Bool.{cases_lt}
use Rattle.frames.specs.declared.faults.Fault.{Fault}
use Rattle.frames.specs.declared.faults.Fault.TheVariants.{UnknownKind, UnknownConnection}
use Rattle.frames.specs.Events.{Arrival, Reading, number_at, origin_of, broken_of, by_kind, event_of}
use Rattle.frames.specs.Laws.{BadKind, BadConnection, RefusedWhere}
use Rattle.frames.proofs.ByKind.{Kind, client, origin, broken, tick, ended, other, kinds, none_there, some_there, bad_kind, origin_short, origin_bad, origin_early, origin_more, origin_whole, broken_short, broken_bad, broken_whole}

-- what is read, or waits for bytes, is not refused
not_refused : (f : Fault) (x : Option (Arrival × ℕ)) (r : Reading) → r ≡ Ok x → r ≡ Err f → ⊥
not_refused f x r p q = cc

abbrev Named : Fault → List ℕ → Type 0
Named f bs = (f ≡ UnknownConnection) × (1 < length bs) × (8 ≤ get_or bs 1 0)

refused_so : (f g : Fault) (r : Reading) → r ≡ Err f → r ≡ Err g → g ≡ f
refused_so f g r p q = cc

module _ (bs : List ℕ) (f : Fault) where
  origin_why : origin_of bs ≡ Err f → Named f bs
  origin_why q =
      ⊎_elim (λ h. absurd (not_refused f _ _ (origin_short bs h) q)) (λ two. ⊎_elim (near two) (λ k. (refused_so UnknownConnection f _ (origin_bad bs two k) q, two, k)) (cases_lt (get_or bs 1 0) 8)) (cases_lt (length bs) 2)
    where
      near : 1 < length bs → get_or bs 1 0 < 8 → Named f bs
      near two k =
          absurd
          (⊎_elim (λ h. not_refused f _ _ (origin_early bs two k h) q)
          (λ four. ⊎_elim (λ h. not_refused f _ _ (origin_more bs four k h) q) (λ h. not_refused f _ _ (origin_whole bs k h) q) (cases_lt (length bs) (4 + number_at bs 2)))
          (cases_lt (length bs) 4))

  broken_why : broken_of bs ≡ Err f → Named f bs
  broken_why q =
      ⊎_elim (λ h. absurd (not_refused f _ _ (broken_short bs h) q))
      (λ two. ⊎_elim (λ k. absurd (not_refused f _ _ (broken_whole bs two k) q)) (λ k. (refused_so UnknownConnection f _ (broken_bad bs two k) q, two, k)) (cases_lt (get_or bs 1 0) 8))
      (cases_lt (length bs) 2)

  abbrev Reason : Type 0
  Reason = ((f ≡ UnknownKind) × BadKind bs) ⊎ ((f ≡ UnknownConnection) × BadConnection bs)

  named : (k : ℕ) → get_or bs 0 0 ≡ k → (k ≡ 2) ⊎ (k ≡ 3) → Named f bs → Reason
  named k e which n = inr (n.0, (n.1, ⊎_elim (λ t. inl (e ∙ t)) (λ t. inr (e ∙ t)) which, n.2))

  kind_why : (k : ℕ) → Kind k → get_or bs 0 0 ≡ k → 0 < length bs → by_kind k bs ≡ Err f → Reason
  kind_why _ client e h q = absurd (not_refused f _ _ refl q)
  kind_why _ origin e h q = named 2 e (inl refl) (origin_why q)
  kind_why _ broken e h q = named 3 e (inr refl) (broken_why q)
  kind_why _ tick e h q = absurd (not_refused f _ _ refl q)
  kind_why _ ended e h q = absurd (not_refused f _ _ refl q)
  kind_why _ (other k o) e h q =
      inl (refused_so UnknownKind f _ (bad_kind k bs o) q, (h, ⊎_elim (λ z. inl (e ∙ z)) (λ b. inr (omega arith)) o))

  why : event_of bs ≡ Err f → Reason
  why q =
      ⊎_elim (λ h. absurd (not_refused f _ _ (none_there bs h) q))
      (λ h. kind_why (get_or bs 0 0) (kinds (get_or bs 0 0)) refl h (sym (some_there bs h) ∙ q))
      (cases_lt (length bs) 1)

apart : UnknownKind ≡ UnknownConnection → ⊥
apart q = cc

by_kind_lem : (bs : List ℕ) → BadKind bs → event_of bs ≡ Err UnknownKind
by_kind_lem bs b = some_there bs b.0 ∙ bad_kind (get_or bs 0 0) bs b.1

by_connection : (bs : List ℕ) → BadConnection bs → event_of bs ≡ Err UnknownConnection
by_connection bs b =
    some_there bs (omega arith)
    ∙ ⊎_elim (λ e. ap (λ (k : ℕ). by_kind k bs) e ∙ origin_bad bs b.0 b.2) (λ e. ap (λ (k : ℕ). by_kind k bs) e ∙ broken_bad bs b.0 b.2) b.1

pub refused_where : RefusedWhere
refused_where bs =
    record {
      kind = by_kind_lem bs;
      kind_only = λ q. ⊎_elim (λ r. r.1) (λ r. absurd (apart r.0)) (why bs UnknownKind q);
      connection = by_connection bs;
      connection_only = λ q. ⊎_elim (λ r. absurd (apart (sym r.0))) (λ r. r.1) (why bs UnknownConnection q);
    }
