-- What `blocks::copy_block` needs beside the check's own search. Assumes nothing.
use Rattle.notices.proofs.Steps.{block_copied}
use Rattle.notices.proofs.blocks.copy_block.Goals as goal

pub returns : goal.returns
returns c = search block_copied
