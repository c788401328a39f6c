-- What the calls of a store read of its contents, and change of it.
use Rattle.std.proofs.Common.{◌≡◌, ℕ, min, true, List, map, length, get_or, set, Some, None, Option, refl, ap, ◌∙◌, arith, length-take, le-leb}
use lib.ListN.{get_or-map}
use Rattle.std.proofs.lemmas.List.{map-set, length-map, get_or_default}
use Rattle.std.specs.Option.{option_map}
use Rattle.store.proofs.Firsts.{first_map, any_map}
use Rattle.store.specs.Slots.{Empty, tag_of}
use Rattle.array_store.specs.declared.types.Short.{Short}
use Rattle.array_store.specs.declared.types.Stored.{Stored}
use Rattle.array_store.specs.Shorts.{short_of, is_short, is_short_tag}
use Rattle.array_store.specs.declared.types.Asked.{Asked}
use Rattle.array_store.specs.Places.{key_of, slot_of}
use Rattle.std.proofs.Math.Seq.{map-set_same}

-- a place past the last reads as a free one
pub slot_there : (xs : List (Option Stored)) (i : ℕ) → get_or (map slot_of xs) i Empty ≡ slot_of (get_or xs i None)
slot_there xs i = get_or-map slot_of xs i None

-- whatever validator is stored is short
short : (t : Short) → is_short (short_of t) ≡ true
short t = le-leb (length (short_of t)) 255 (omega (arith, length-take (min t.len 255) t.bytes))

short_tag : (t : Option Short) → is_short_tag (option_map short_of t) ≡ true
short_tag None = refl
short_tag (Some t) = short t

short_slot : (p : Option Stored) → is_short_tag (tag_of (slot_of p)) ≡ true
short_slot None = refl
short_slot (Some s) = short_tag s.entry.tag

pub short_stored : (xs : List (Option Stored)) (i : ℕ) → is_short_tag (tag_of (get_or (map slot_of xs) i Empty)) ≡ true
short_stored xs i = ap (λ s. is_short_tag (tag_of s)) (slot_there xs i) ∙ short_slot (get_or xs i None)

-- what is held for a connection is no part of what it asks for
pub keys_kept : (xs : List Asked) (i : ℕ) (d : Asked) (h : Short) → map (λ a. key_of a.key) (set xs i (record { key = (get_or xs i d).key; held = h })) ≡ map (λ a. key_of a.key) xs
keys_kept xs i d h = map-set_same (λ (a : Asked). key_of a.key) xs i (record { key = (get_or xs i d).key; held = h }) d refl

pub ruleset viewed = (keys_kept, map-set, length-map, first_map, any_map, short_stored, slot_there, get_or_default)
