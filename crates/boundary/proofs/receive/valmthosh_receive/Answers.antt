-- What `receive::valmthosh_receive` needs beside the check's own search. Assumes nothing.
use Rattle.boundary.proofs.Ending.{writable, ends}
use Rattle.boundary.proofs.receive.valmthosh_receive.Goals as goal

pub returns : goal.returns
returns c = search (ends, writable)
