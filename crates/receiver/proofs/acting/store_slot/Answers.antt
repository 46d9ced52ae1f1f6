-- Where data lands.
use Rattle.receiver.proofs.Steps.{slot_stored_lem}
use Rattle.receiver.proofs.acting.store_slot.Goals as goal

pub returns-in-Some : goal.returns-in-Some
returns-in-Some c = slot_stored_lem _ _ _ _ _ _ _ c.in-Some.ensures c.slot_after.ensures c.store_slot.ensures
