-- A name that is not empty is interned as a word.
use Rattle.std.proofs.Common.{rules, ◌≡◌, ℕ, Bool, false, cond, List, length, Some, None, Option, sym, ap, subst, ◌==◌}
use Rattle.std.specs.Option.{option_map}
use Rattle.std.specs.Prelude.{Vec}
use Rattle.std.specs.declared.alloc.Global.{Global}
use Rattle.play.specs.Tables.{word_number, number_of_name, InternedAs}
use Rattle.play.proofs.types.Names.intern.Goals as goal

interned_as : (items after : List (Vec ℕ Global)) (name : List ℕ) (n : ℕ) (o : Option ℕ) → InternedAs items after name (length items) n o → InternedAs items after name (Some (length items)) (Some n) (option_map Some o)
interned_as items after name n (Some old) h = (h.0, ap Some h.1)
interned_as items after name n None h = (h.0, h.1, h.2, ap Some h.3)

interned_some : (items after : List (Vec ℕ Global)) (name : List ℕ) (n : ℕ) → (length name == 0) ≡ false → InternedAs items after name (length items) n (word_number items name) → InternedAs items after name (Some (length items)) (Some n) (number_of_name items name)
interned_some items after name n e h = subst (λ (b : Bool). InternedAs items after name (Some (length items)) (Some n) (cond b (Some None) (option_map Some (word_number items name)))) (sym e) (interned_as items after name n (word_number items name) h)

pub returns : goal.returns
returns c =
    let full : (length c.args.name.now == 0) ≡ false = search rules in
    (c.in_ok-intern_word.ensures.0, interned_some c.args.self.now.items.keys c.intern_word.new.self.items.keys c.args.name.now c.in_ok-intern_word.field-0 full c.in_ok-intern_word.ensures.1)
