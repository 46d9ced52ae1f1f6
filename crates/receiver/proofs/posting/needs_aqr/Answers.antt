-- An entry for data.
use Rattle.receiver.proofs.Meetings.{some_entry}
use Rattle.receiver.proofs.posting.needs_aqr.Goals as goal

pub returns : goal.returns
returns c = some_entry _ _ _ _ _ c.in-Some.ensures c.completes.ensures
