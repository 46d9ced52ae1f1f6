-- The invariant of `choosing::next_sender`. Assumes nothing.
use Rattle.std.proofs.Common.{◌≡◌}
use Rattle.rules.specs.Sending.{next_sender}
use Rattle.sender.proofs.Choice.{from_place}
use Rattle.sender.proofs.choosing.next_sender.Given as goal

-- The search from this place on finds what the whole search finds.
abbrev pub invariant-loop-k : goal.invariant-loop-k
invariant-loop-k l = from_place l.m.saved l.m.send.now l.m.receive.now l.k ≡ next_sender l.m.saved l.m.send.now l.m.receive.now
