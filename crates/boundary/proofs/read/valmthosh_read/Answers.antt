-- What `read::valmthosh_read` needs beside the check's own search. Assumes nothing.
use Rattle.boundary.proofs.Ending.{writable, ends}
use Rattle.boundary.proofs.read.valmthosh_read.Goals as goal

pub returns : goal.returns
returns c = search (ends, writable)
