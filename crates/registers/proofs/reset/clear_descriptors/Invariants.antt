-- The descriptors below d are clear. Assumes nothing.
use Rattle.registers.proofs.Cleared.{ClearedTo}
use Rattle.registers.proofs.reset.clear_descriptors.Given as goal

abbrev pub invariant-loop-d : goal.invariant-loop-d
invariant-loop-d l = ClearedTo l.fn.send l.send l.d
