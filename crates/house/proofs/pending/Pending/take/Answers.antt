-- The bytes behind the first ones, moved to the front.
use Rattle.std.proofs.Common.{◌≡◌, ℕ, ◌+◌, ◌-◌, ◌≤◌, List, length, take, drop, sym, ap, subst, ◌∙◌, arith, length-drop}
use Rattle.std.specs.List.{copy_within}
use Rattle.std.proofs.lemmas.List.{drop-take, length-take-le}
use Rattle.std.proofs.lemmas.List.Edits.{take-paste}
use Rattle.house.proofs.pending.Pending.take.Goals as goal

moved : (xs : List ℕ) (count len : ℕ) → count ≤ len → len ≤ length xs → take (len - count) (copy_within xs count len 0) ≡ drop count (take len xs)
moved xs count len h k =
    let n : ℕ = len - count in
    let room : n ≤ length (drop count xs) = omega (arith, length-drop count xs) in
    let front : 0 + n ≡ n = omega arith in
    let back : count + n ≡ len = omega arith in
    subst (λ m. take m (copy_within xs count len 0) ≡ take n (drop count xs)) front (take-paste xs 0 (drop count xs) n (omega arith) room)
    ∙ sym (subst (λ m. drop count (take m xs) ≡ take n (drop count xs)) back (drop-take count n xs))

pub returns : goal.returns
returns c =
    let xs : List ℕ = c.self.inside.memory.items in
    let len : ℕ = c.self.inside.len in
    let known : len ≤ length xs = omega (arith, c.self.invariant.0, c.self.inside.memory.ok.0) in
    let all : length (take len xs) ≡ len = length-take-le len xs known in
    let same : length (take len xs) ≡ length c.args.self.now = ap length c.self.view_is in
    ap (λ (l : List ℕ). take (len - c.args.count) l) c.copy_within.ensures.items
    ∙ moved xs c.args.count len (omega (arith, all, same)) known
    ∙ ap (λ (l : List ℕ). drop c.args.count l) c.self.view_is
