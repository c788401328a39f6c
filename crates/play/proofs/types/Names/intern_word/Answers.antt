-- A name that is not there goes last.
use Rattle.std.proofs.Common.{rules, ◌≡◌, ℕ, ◌≤◌, List, [], ◌∷◌, ◌++◌, length, position, None, refl, sym, ap, subst, ◌∙◌, arith, if◌then◌else◌}
use Rattle.std.specs.Prelude.{Vec}
use Rattle.std.specs.declared.alloc.Global.{Global}
use Rattle.std.specs.List.{position_or_len}
use Rattle.std.specs.Str.{bytes_eq}
use Rattle.std.proofs.lemmas.List.Sums.{prefix_len-le-length}
use Rattle.indexmap.specs.IndexSet.{insert_key}
use Rattle.store.proofs.Firsts.{found_past, found_any}
use Rattle.play.specs.Tables.{is_named, InternedAs}
use Rattle.play.proofs.types.Names.intern_word.Goals as goal

interned_last : (items after : List (Vec ℕ Global)) (v : Vec ℕ Global) (n : ℕ) → position (is_named v.items) items ≡ None → after ≡ insert_key (λ a b. bytes_eq a.items b.items) items v → n ≡ position_or_len (is_named v.items) items → InternedAs items after v.items (length items) n (position (is_named v.items) items)
interned_last items after v n none kept at =
    let past : length items ≤ position_or_len (is_named v.items) items = found_past (is_named v.items) items none in
    let le : position_or_len (is_named v.items) items ≤ length items = omega (arith, prefix_len-le-length {X = Vec ℕ Global}) in
    let last : after ≡ items ++ v ∷ [] = kept ∙ ap (λ b. if b then items else items ++ v ∷ []) (found_any (is_named v.items) items none) in
    let number : n ≡ length items = omega arith in
    subst (InternedAs items after v.items (length items) n) (sym none) (v, refl, last, number)

interned_new : (items after : List (Vec ℕ Global)) (v : Vec ℕ Global) (name : List ℕ) (n : ℕ) → v.items ≡ name → None ≡ position (is_named name) items → after ≡ insert_key (λ a b. bytes_eq a.items b.items) items v → n ≡ position_or_len (is_named v.items) items → InternedAs items after name (length items) n (position (is_named name) items)
interned_new items after v name n same none kept at =
    subst (λ (s : List ℕ). InternedAs items after s (length items) n (position (is_named s) items)) same
    (interned_last items after v n (ap (λ (s : List ℕ). position (is_named s) items) same ∙ sym none) kept at)

pub returns : goal.returns
returns c =
    let same : c.in_ok-owned.owned.items ≡ c.args.name.now = search rules in
    let none : None ≡ position (is_named c.args.name.now) c.args.self.now.items.keys = search rules in
    let kept : c.insert_full.new.self.keys ≡ insert_key (λ a b. bytes_eq a.items b.items) c.args.self.now.items.keys c.in_ok-owned.owned = search rules in
    let at : c.in_ok-number.number ≡ position_or_len (is_named c.in_ok-owned.owned.items) c.args.self.now.items.keys = search rules in
    let few : length c.args.name.now ≤ 255 = search rules in
    (few, interned_new c.args.self.now.items.keys c.insert_full.new.self.keys c.in_ok-owned.owned c.args.name.now c.in_ok-number.number same none kept at)
