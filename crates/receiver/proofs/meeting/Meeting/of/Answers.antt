-- What is known of the receipt holds of the meeting.
use Rattle.receiver.proofs.meeting.Meeting.of.Goals as goal

pub invariant_of-result : goal.invariant_of-result
invariant_of-result c = let h = c.requires.lands _ _ c.in-Lands.is in record { low = h.low; payload = h.payload; usable = h.usable }
