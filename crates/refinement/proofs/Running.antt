-- Every honest run keeps the promise.
use Rattle.std.proofs.Common.{◌≡◌, ℕ, zero, suc, ◌+◌, Bool, true, false, cond, ◌&&◌, ltb, List, [], ◌∷◌, ◌++◌, map, get_or, set, replicate, sym, refl, ap, ◌∙◌, subst, ⊎_elim, length-set, get_or-set_other, Some, None, Option}
use Rattle.store.specs.Slots.{Response, Empty, Filled, Key, no_key}
use Rattle.std.proofs.lemmas.Bool.{cases_eq}
use Rattle.cache.specs.declared.types.Exchange.{Exchange}
use Rattle.cache.specs.Rules.{State, can_tick, ticked, is_idle, released}
use Rattle.cache.specs.Decisions.{OnePlace}
use Rattle.refinement.proofs.Places.{requested_one, received_one, lost_one}
use Rattle.model.specs.Exchanges as model
use Rattle.model.specs.World as world
use Rattle.model.proofs.Played.{played_on}
use Rattle.promise.proofs.Promised.{promised}
use Rattle.refinement.specs.Stands.{slot_of, AllGood, Shows, Stands}
use Rattle.refinement.specs.Steps.{StepSo, changes, acts, declines}
use Rattle.refinement.specs.Runs.{Happening, Ticks, Asks, Answers, Loses, Releases, Changes, Acts, Declines, Run, Terms, setting_in, fresh, goes, run, Honest, CacheKeeps, CacheHasOnePlace}
use Rattle.promise.proofs.Lists.{bad, get_replicate}
use Rattle.refinement.proofs.Asking.{tick_so, origin_so, ask_so}
use Rattle.refinement.proofs.Answering.{answer_so, lose_so}
use Rattle.refinement.proofs.Names.{Bodies}

empty_slots : (n : ℕ) → map slot_of (replicate n Empty) ≡ replicate n model.Empty
empty_slots zero = refl
empty_slots (suc n) = ap (λ (k : List model.Slot). model.Empty ∷ k) (empty_slots n)

empty_good : (b : Bodies) (s : world.Setting) (n : ℕ) → AllGood b s (replicate n Empty)
unfolding AllGood
empty_good b s zero = tt
empty_good b s (suc n) = empty_good b s n

idle_shows : (b : Bodies) (s : world.Setting) (l : Option Exchange) (k : Key) (held : List ℕ) (c : model.Connection) → l ≡ None → c ≡ model.Idle → Shows b s l k held c
idle_shows b s None k held c p q = q
idle_shows b s (Some x) k held c p q = bad (cc)

pub start_stands : (t : Terms) → Stands t.bodies (setting_in t) (fresh t) (world.start (setting_in t))
start_stands t = record {
  tick = refl;
  next = refl;
  links = λ c. idle_shows t.bodies (setting_in t) _ _ _ _ (get_replicate 8 c None) (get_replicate 8 c model.Idle);
  slots = empty_slots t.places;
  good = empty_good t.bodies (setting_in t) t.places;
  eight = refl;
  eight_keys = refl;
  eight_held = refl;
  eight_connections = refl;
}

-- what is held for an idle connection is nobody's
pub release_stands : (b : Bodies) (s : world.Setting) (c : ℕ) (st : State) (w : world.World) → Stands b s st w → Stands b s (released c st) w
release_stands b s c st w h = go (ltb c 8 && is_idle (get_or st.links c None)) refl
  where
    idle : (x : Bool) (l : Option Exchange) → (x && is_idle l) ≡ true → l ≡ None
    idle true None e = refl
    idle true (Some y) e = bad (cc)
    idle false l e = bad (cc)

    any_held : (l : Option Exchange) (k : Key) (x y : List ℕ) (conn : model.Connection) → l ≡ None → Shows b s l k x conn → Shows b s l k y conn
    any_held None k x y conn e z = z
    any_held (Some q) k x y conn e z = bad (cc)

    links : get_or st.links c None ≡ None → (d : ℕ) → Shows b s (get_or st.links d None) (get_or st.keys d no_key) (get_or (set st.held c []) d []) (get_or w.connections d model.Idle)
    links e d = ⊎_elim (λ q. any_held (get_or st.links d None) _ (get_or st.held d []) _ _ (ap (λ (i : ℕ). get_or st.links i None) q ∙ e) (h.links d))
        (λ ne. subst (λ (z : List ℕ). Shows b s (get_or st.links d None) (get_or st.keys d no_key) z (get_or w.connections d model.Idle)) (sym (get_or-set_other st.held c d [] [] ne)) (h.links d)) (cases_eq d c)

    go : (x : Bool) → (ltb c 8 && is_idle (get_or st.links c None)) ≡ x → Stands b s (cond x (record { tick = st.tick; next = st.next; links = st.links; slots = st.slots; keys = st.keys; held = set st.held c [] }) st) w
    go false e = h
    go true e = record { tick = h.tick; next = h.next; links = links (idle (ltb c 8) (get_or st.links c None) e); slots = h.slots; good = h.good; eight = h.eight; eight_keys = h.eight_keys; eight_held = length-set st.held c [] ∙ h.eight_held; eight_connections = h.eight_connections }

-- one more happening
abbrev Holds : Terms → Run → Type 0
Holds t ρ = Stands t.bodies (setting_in t) ρ.state (world.world (setting_in t) ρ.events) × ((world.world (setting_in t) ρ.events).delivered ≡ ρ.given)

step_holds : (t : Terms) (ρ : Run) (st : State) (es : List world.Event) (ds : List world.Delivery) → Holds t ρ → StepSo t.bodies (setting_in t) st (world.world (setting_in t) ρ.events) es ds → Holds t (goes st es ds ρ)
step_holds t ρ st es ds h z = let q = played_on (setting_in t) es ρ.events in
    (subst (λ (w : world.World). Stands t.bodies (setting_in t) st w) q z.stands, sym (ap (λ (w : world.World). w.delivered) q) ∙ (z.delivered ∙ ap (λ (d : List world.Delivery). ds ++ d) h.1))

runs_hold : (t : Terms) (hs : List Happening) → Honest t hs → Holds t (run t hs)
unfolding run Honest world.world
runs_hold t [] o = (start_stands t, refl)
runs_hold t (Ticks ∷ hs) o = let h = runs_hold t hs o.1 in step_holds t (run t hs) _ _ _ h (tick_so (run t hs).state t.bodies (setting_in t) _ h.0)
runs_hold t (Asks a ∷ hs) o = let h = runs_hold t hs o.1 in step_holds t (run t hs) _ _ _ h (ask_so t.knows a (run t hs).state t.bodies (setting_in t) _ h.0)
runs_hold t (Answers c r ∷ hs) o = let h = runs_hold t hs o.1 in step_holds t (run t hs) _ _ _ h (answer_so t.fits c r (run t hs).state t.bodies t.varies t.places _ h.0 o.0)
runs_hold t (Loses c ∷ hs) o = let h = runs_hold t hs o.1 in step_holds t (run t hs) _ _ _ h (lose_so c (run t hs).state t.bodies (setting_in t) _ h.0)
runs_hold t (Releases c ∷ hs) o = let h = runs_hold t hs o.1 in (release_stands t.bodies (setting_in t) c (run t hs).state _ h.0, h.1)
runs_hold t (Changes r l x ∷ hs) o = let h = runs_hold t hs o.1 in step_holds t (run t hs) _ _ _ h (origin_so (run t hs).state t.bodies (setting_in t) _ _ (changes r l x) h.0)
runs_hold t (Acts c life private full reply ∷ hs) o = let h = runs_hold t hs o.1 in step_holds t (run t hs) _ _ _ h (origin_so (run t hs).state t.bodies (setting_in t) _ _ (acts c life private full reply) h.0)
runs_hold t (Declines c reply ∷ hs) o = let h = runs_hold t hs o.1 in step_holds t (run t hs) _ _ _ h (origin_so (run t hs).state t.bodies (setting_in t) _ _ (declines c reply) h.0)

pub cache_keeps : CacheKeeps
cache_keeps t hs o = let h = runs_hold t hs o in record { stands = h.0; delivered = h.1; promise = promised (setting_in t) (run t hs).events }

-- one place for a path and language
none_filled : (n i : ℕ) (r : Response) → get_or (replicate n Empty) i Empty ≡ Filled r → ⊥
none_filled n i r h = let e = get_replicate n i Empty in bad (cc)

ticked_slots : (st : State) → (ticked st).slots ≡ st.slots
ticked_slots st = go (can_tick st)
  where
    go : (x : Bool) → (cond x (record { tick = st.tick + 1; next = st.next; links = st.links; slots = st.slots; keys = st.keys; held = st.held }) st).slots ≡ st.slots
    go true = refl
    go false = refl

released_slots : (c : ℕ) (st : State) → (released c st).slots ≡ st.slots
released_slots c st = go (ltb c 8 && is_idle (get_or st.links c None))
  where
    go : (x : Bool) → (cond x (record { tick = st.tick; next = st.next; links = st.links; slots = st.slots; keys = st.keys; held = set st.held c [] }) st).slots ≡ st.slots
    go true = refl
    go false = refl

pub cache_has_one_place : CacheHasOnePlace
unfolding run
cache_has_one_place t [] = λ i j r q hi hj c. absurd (none_filled t.places i r hi)
cache_has_one_place t (Ticks ∷ hs) = subst OnePlace (sym (ticked_slots (run t hs).state)) (cache_has_one_place t hs)
cache_has_one_place t (Asks a ∷ hs) = requested_one t.knows a (run t hs).state (cache_has_one_place t hs)
cache_has_one_place t (Answers c r ∷ hs) = received_one t.fits c r (run t hs).state (cache_has_one_place t hs)
cache_has_one_place t (Loses c ∷ hs) = lost_one c (run t hs).state (cache_has_one_place t hs)
cache_has_one_place t (Releases c ∷ hs) = subst OnePlace (sym (released_slots c (run t hs).state)) (cache_has_one_place t hs)
cache_has_one_place t (Changes r l x ∷ hs) = cache_has_one_place t hs
cache_has_one_place t (Acts c life private full reply ∷ hs) = cache_has_one_place t hs
cache_has_one_place t (Declines c reply ∷ hs) = cache_has_one_place t hs
