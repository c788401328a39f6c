-- By the steps of the definition.
use Rattle.std.proofs.Common.{rules, Err, Ok, ◌≡◌, ◌+◌, ◌-◌, ◌∙◌, arith}
use Rattle.play.specs.Script.{seen_ok, said_of, with_word, settings_on, unsaid}
use Rattle.play.proofs.Readings.{settings_end, settings_fault, settings_next, settings_many}
use Rattle.play.proofs.script.settings.Invariants.{said_in}
use Rattle.play.proofs.script.settings.Goals as goal

pub returns-in_default : goal.returns-in_default
returns-in_default c = search (rules, settings_end)

pub returns-in_err-said : goal.returns-in_err-said
returns-in_err-said c =
    let e : seen_ok said_of c.from_residual.result ≡ Err c.in_err-said.field-0.0 = search rules in
    let w : Err c.in_err-said.field-0.0 ≡ with_word c.args.verb c.in-Some.word.now (said_in c.loop-i.said) = search rules in
    e ∙ settings_fault (16 - c.loop-i._i) c.args.verb (said_in c.loop-i.said) c.loop-i.rest.now c.in-Some.word.now c.in-Some.behind.now c.in_err-said.field-0.0 (settings_on 16 c.args.verb unsaid c.args.text.now) (omega arith) (search rules) w c.loop-i.invariant

pub loop-i-preserved : goal.loop-i-preserved
loop-i-preserved c =
    let w : Ok (said_of c.in_ok-said.said) ≡ with_word c.args.verb c.in-Some.word.now (said_in c.loop-i.said) = search rules in
    settings_next (16 - c.loop-i._i) (16 - (c.loop-i._i + 1)) c.args.verb (said_in c.loop-i.said) (said_of c.in_ok-said.said) c.loop-i.rest.now c.in-Some.word.now c.in-Some.behind.now (settings_on 16 c.args.verb unsaid c.args.text.now) (omega arith) (omega arith) (search rules) w c.loop-i.invariant

pub returns : goal.returns
returns c = search (rules, settings_many)
