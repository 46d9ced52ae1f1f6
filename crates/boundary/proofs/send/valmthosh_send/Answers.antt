-- What `send::valmthosh_send` needs beside the check's own search. Assumes nothing.
use Rattle.boundary.proofs.Ending.{writable, ends}
use Rattle.boundary.proofs.send.valmthosh_send.Goals as goal

pub returns : goal.returns
returns c = search (ends, writable)
