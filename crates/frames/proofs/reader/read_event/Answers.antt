-- Each kind's bytes are read behind it.
use Rattle.std.proofs.Common.{Ok, ap, ◌∙◌}
use Rattle.frames.proofs.ByKind.{of_front}
use Rattle.frames.proofs.reader.read_event.Goals as goal

pub returns-in-ClientBytes-clause-value : goal.returns-in-ClientBytes-clause-value
returns-in-ClientBytes-clause-value c =
    ap Ok (c.read_client.ensures.value c.in-Some.kind.now) ∙ of_front _ _ _ _ _ _ c.in-Some.ensures.cases.0 c.try_from.ensures c.in_ok-try_from.was c.in-ClientBytes.is

pub returns-in-OriginBytes-clause-value : goal.returns-in-OriginBytes-clause-value
returns-in-OriginBytes-clause-value c =
    c.read_origin.ensures.value c.in-Some.kind.now ∙ of_front _ _ _ _ _ _ c.in-Some.ensures.cases.0 c.try_from.ensures c.in_ok-try_from.was c.in-OriginBytes.is

pub returns-in-OriginBroken-clause-value : goal.returns-in-OriginBroken-clause-value
returns-in-OriginBroken-clause-value c =
    c.read_broken.ensures.value c.in-Some.kind.now ∙ of_front _ _ _ _ _ _ c.in-Some.ensures.cases.0 c.try_from.ensures c.in_ok-try_from.was c.in-OriginBroken.is

pub returns-in-ClientEnded-clause-value : goal.returns-in-ClientEnded-clause-value
returns-in-ClientEnded-clause-value c =
    ap Ok (c.read_ended.ensures.value c.in-Some.kind.now) ∙ of_front _ _ _ _ _ _ c.in-Some.ensures.cases.0 c.try_from.ensures c.in_ok-try_from.was c.in-ClientEnded.is
