-- A line has no words that its verb does not take.
use Rattle.std.proofs.Common.{rules, ◌≡◌, ◌∙◌, ap, Ok, Some, Option, Result}
use Rattle.play.specs.declared.types.ScriptError.{ScriptError}
use Rattle.play.specs.Script.{Line, said_of, line_of, parsed}
use Rattle.play.proofs.Lines.{line_whole}
use Rattle.play.proofs.script.parse.Goals as goal

pub returns : goal.returns
returns c =
    let line : Line = record { verb = c.in_ok-verb.verb; subject = c.in_ok-first.first.now; second = c.in_ok-second.second.now; said = said_of c.in_ok-settings.settings } in
    let whole : line_of c.new.result ≡ line = c.new.ensures ∙ line_whole _ _ _ _ c.in_ok-first.behind.now c.in_ok-second.behind.now (search rules) (search rules) in
    let e : ◌≡◌ {A = Result (Option Line) ScriptError} (Ok (Some line)) (parsed c.args.line.now) = search rules in
    ap (λ (l : Line). Ok (Some l)) whole ∙ e
