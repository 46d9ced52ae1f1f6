-- `station::main` ends, and meets what its calls ask. Assumes nothing.
use Rattle.std.proofs.Common.{◌-◌}
use Rattle.station.specs.Turns.{held, count_most, SoFar}
use Rattle.station.proofs.main.Given as goal

-- The station has what the turns left that read so many bytes.
abbrev pub invariant-loop-station : goal.invariant-loop-station
invariant-loop-station l = SoFar (held l.station) l.station.count

-- So many bytes may still come.
abbrev pub decreases-loop-station : goal.decreases-loop-station
decreases-loop-station l = count_most - l.station.count
