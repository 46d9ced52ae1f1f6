-- `station::answering::keep`: by way of a room of their own. Assumes nothing.
use Rattle.std.proofs.Common.{arith}
use Rattle.station.proofs.Hand.{to_wait}
use Rattle.station.proofs.answering.keep.Goals as goal

pub returns-clause-from_after : goal.returns-clause-from_after
returns-clause-from_after c = to_wait c.args.from c.args.to c.args.input.now _ c.requires (omega arith) c.copy.ensures c.copy-2.ensures
