-- What `write::valmthosh_write` needs beside the check's own search. Assumes nothing.
use Rattle.boundary.proofs.Ending.{writable, ends}
use Rattle.boundary.proofs.write.valmthosh_write.Goals as goal

pub returns : goal.returns
returns c = search (ends, writable)
