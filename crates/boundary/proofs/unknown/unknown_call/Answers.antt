-- What `unknown::unknown_call` needs beside the check's own search. Assumes nothing.
use Rattle.boundary.proofs.Ending.{writable, ends}
use Rattle.boundary.proofs.unknown.unknown_call.Goals as goal

pub returns : goal.returns
returns c = search (ends, writable)
