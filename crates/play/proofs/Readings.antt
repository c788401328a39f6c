-- What is said behind the subject, as a loop uses it: what is left, from what was said so far, gives the whole.
use Rattle.std.proofs.Common.{◌≡◌, ℕ, suc, ◌-◌, ◌<◌, List, Some, None, Ok, Err, Result, sym, refl, ap, ◌∙◌, arith}
use Rattle.play.specs.declared.types.Verb.{Verb}
use Rattle.play.specs.declared.types.ScriptError.{ScriptError}
use Rattle.play.specs.declared.types.ScriptError.TheVariants.{ManyWords}
use Rattle.play.specs.Script.{cut_word, Said, with_word, next_with, next_cut, settings_on}

settings_step : (n : ℕ) (v : Verb) (s : Said) (t : List ℕ) → settings_on (suc n) v s t ≡ next_cut (settings_on n v) v s (cut_word t)
unfolding settings_on
settings_step n v s t = refl

settings_none : (v : Verb) (s : Said) (t : List ℕ) → settings_on 0 v s t ≡ Err ManyWords
unfolding settings_on
settings_none v s t = refl

settings_at : (n : ℕ) (v : Verb) (s : Said) (t : List ℕ) → 0 < n → settings_on n v s t ≡ next_cut (settings_on (n - 1) v) v s (cut_word t)
settings_at n v s t h =
    let e : n ≡ suc (n - 1) = omega arith in
    ap (λ (m : ℕ). settings_on m v s t) e ∙ settings_step (n - 1) v s t

pub settings_many : (n : ℕ) (v : Verb) (s : Said) (t : List ℕ) (whole : Result Said ScriptError) → n ≡ 0 → settings_on n v s t ≡ whole → Err ManyWords ≡ whole
settings_many n v s t whole e inv = sym (settings_none v s t) ∙ (sym (ap (λ (m : ℕ). settings_on m v s t) e) ∙ inv)

pub settings_end : (n : ℕ) (v : Verb) (s : Said) (t : List ℕ) (whole : Result Said ScriptError) → 0 < n → None ≡ cut_word t → settings_on n v s t ≡ whole → Ok s ≡ whole
settings_end n v s t whole h e inv = ap (next_cut (settings_on (n - 1) v) v s) e ∙ (sym (settings_at n v s t h) ∙ inv)

pub settings_fault : (n : ℕ) (v : Verb) (s : Said) (t a b : List ℕ) (f : ScriptError) (whole : Result Said ScriptError) → 0 < n → Some (a, b) ≡ cut_word t → Err f ≡ with_word v a s → settings_on n v s t ≡ whole → Err f ≡ whole
settings_fault n v s t a b f whole h e w inv =
    ap (next_with (settings_on (n - 1) v) b) w ∙ (ap (next_cut (settings_on (n - 1) v) v s) e ∙ (sym (settings_at n v s t h) ∙ inv))

pub settings_next : (n m : ℕ) (v : Verb) (s after : Said) (t a b : List ℕ) (whole : Result Said ScriptError) → 0 < n → m ≡ n - 1 → Some (a, b) ≡ cut_word t → Ok after ≡ with_word v a s → settings_on n v s t ≡ whole → settings_on m v after b ≡ whole
settings_next n m v s after t a b whole h k e w inv =
    ap (λ (i : ℕ). settings_on i v after b) k ∙ (ap (next_with (settings_on (n - 1) v) b) w ∙ (ap (next_cut (settings_on (n - 1) v) v s) e ∙ (sym (settings_at n v s t h) ∙ inv)))
