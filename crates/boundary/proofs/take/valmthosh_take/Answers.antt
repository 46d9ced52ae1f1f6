-- What `take::valmthosh_take` needs beside the check's own search. Assumes nothing.
use Rattle.boundary.proofs.Ending.{writable, ends}
use Rattle.boundary.proofs.take.valmthosh_take.Goals as goal

pub returns : goal.returns
returns c = search (ends, writable)
