-- An entry is pushed where data lands and needs one.
use Rattle.receiver.proofs.Steps.{entered, not_entered, never_entered}
use Rattle.receiver.proofs.acting.push_entry.Goals as goal

pub returns-in_default : goal.returns-in_default
returns-in_default c = never_entered _ _ _ c.in_default.ensures

pub returns-then-needs_aqr : goal.returns-then-needs_aqr
returns-then-needs_aqr c =
    entered _ _ _ _ _ _ _ _ _ c.in-Some.ensures c.needs_aqr.ensures c.if-needs_aqr.true c.push_aqr.ensures

pub returns : goal.returns
returns c = not_entered _ _ _ _ _ _ _ c.in-Some.ensures c.needs_aqr.ensures c.if-needs_aqr.false
