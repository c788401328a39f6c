-- A line has no words that its verb does not take.
use Rattle.std.proofs.Common.{◌≡◌, ℕ, zero, suc, false, cond, List, [], Some, None, Ok, Err, Option, Result, refl, ap, ◌∙◌, sym}
use Rattle.play.specs.declared.types.Verb.{Verb}
use Rattle.play.specs.declared.types.Verb.TheVariants as verb
use Rattle.play.specs.declared.types.Field.{Field}
use Rattle.play.specs.declared.types.ScriptError.{ScriptError}
use Rattle.play.specs.declared.types.ScriptError.TheVariants.{MisplacedSetting}
use Rattle.play.specs.Script.{cut_word, Said, unsaid, may_stand, set_field, set_if, with_word, next_with, next_cut, settings_on, second_of, line_with}

-- nothing may stand behind its subject
abbrev Bare : Verb → Type 0
Bare v = (f : Field) → may_stand v f ≡ false

no_field : (v : Verb) → Bare v → (o : Option Field) (value : List ℕ) (s after : Said) → Ok after ≡ set_if v o value s → ⊥
no_field v h None value s after e = cc
no_field v h (Some f) value s after e =
    let q : set_if v (Some f) value s ≡ Err MisplacedSetting = ap (λ b. cond b (set_field f value s) (Err MisplacedSetting)) (h f) in
    let r : ◌≡◌ {A = Result Said ScriptError} (Ok after) (Err MisplacedSetting) = e ∙ q in
    cc

no_word : (v : Verb) → Bare v → (w : List ℕ) (s after : Said) → with_word v w s ≡ Ok after → ⊥
unfolding with_word
no_word v h w s after e = no_field v h _ _ s after (sym e)

bare_with : (v : Verb) → Bare v → (w : List ℕ) (next : Said → List ℕ → Result Said ScriptError) (rest : List ℕ) (s : Said) (r : Result Said ScriptError) → with_word v w unsaid ≡ r → Ok s ≡ next_with next rest r → s ≡ unsaid
bare_with v h w next rest s (Ok after) e q = absurd (no_word v h w unsaid after e)
bare_with v h w next rest s (Err f) e q = cc

bare_cut : (v : Verb) → Bare v → (next : Said → List ℕ → Result Said ScriptError) (o : Option (List ℕ × List ℕ)) (s : Said) → Ok s ≡ next_cut next v unsaid o → s ≡ unsaid
bare_cut v h next None s e = cc
bare_cut v h next (Some p) s e = bare_with v h p.0 next p.1 s (with_word v p.0 unsaid) refl e

bare_said : (v : Verb) → Bare v → (n : ℕ) (t : List ℕ) (s : Said) → Ok s ≡ settings_on n v unsaid t → s ≡ unsaid
unfolding settings_on
bare_said v h zero t s e = cc
bare_said v h (suc n) t s e = bare_cut v h (settings_on n v) (cut_word t) s e

abbrev second_text : Result (List ℕ × List ℕ) ScriptError → List ℕ
second_text (Ok p) = p.0
second_text (Err f) = []

pub line_whole : (v : Verb) (a b : List ℕ) (s : Said) (t rest : List ℕ) → Ok (b, rest) ≡ second_of v t → Ok s ≡ settings_on 16 v unsaid rest → line_with v a b s ≡ record { verb = v; subject = a; second = b; said = s }
line_whole verb.Origin a b s t rest e q = let h : b ≡ [] = ap second_text e in cc
line_whole verb.Tick a b s t rest e q = let h : b ≡ [] = ap second_text e in let k : s ≡ unsaid = bare_said verb.Tick (λ f. refl) 16 rest s q in cc
line_whole verb.Get a b s t rest e q = refl
line_whole verb.Put a b s t rest e q = refl
line_whole verb.Delete a b s t rest e q = refl
line_whole verb.Act a b s t rest e q = let h : b ≡ [] = ap second_text e in let k : s ≡ unsaid = bare_said verb.Act (λ f. refl) 16 rest s q in cc
line_whole verb.Decline a b s t rest e q = let k : s ≡ unsaid = bare_said verb.Decline (λ f. refl) 16 rest s q in cc
line_whole verb.Receive a b s t rest e q = let h : b ≡ [] = ap second_text e in let k : s ≡ unsaid = bare_said verb.Receive (λ f. refl) 16 rest s q in cc
line_whole verb.Lose a b s t rest e q = let h : b ≡ [] = ap second_text e in let k : s ≡ unsaid = bare_said verb.Lose (λ f. refl) 16 rest s q in cc
line_whole verb.Random a b s t rest e q = let k : s ≡ unsaid = bare_said verb.Random (λ f. refl) 16 rest s q in cc
