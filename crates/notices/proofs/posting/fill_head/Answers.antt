-- What `posting::fill_head` needs beside the check's own search. Assumes nothing.
use Rattle.notices.proofs.Steps.{filled}
use Rattle.notices.proofs.posting.fill_head.Goals as goal

pub returns : goal.returns
returns c = search filled
