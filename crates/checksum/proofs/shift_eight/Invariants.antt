-- k bit steps are made. Assumes nothing.
use Rattle.std.proofs.Common.{◌≡◌}
use Rattle.rules.specs.Checksum.{bit_steps}
use Rattle.checksum.proofs.shift_eight.Given as goal

abbrev pub invariant-loop-k : goal.invariant-loop-k
invariant-loop-k l = l.x ≡ bit_steps l.k l.fn.c
