-- The check so far is that of the bytes so far. Assumes nothing.
use Rattle.std.proofs.Common.{◌≡◌, take}
use Rattle.rules.specs.Checksum.{check_from}
use Rattle.checksum.proofs.from.Given as goal

abbrev pub invariant-loop-byte : goal.invariant-loop-byte
invariant-loop-byte l = l.c ≡ check_from l.fn.start (take l.byte-index l.bytes)
