-- What `writing::write` needs beside the check's own search: the call is what its verdict says. Assumes nothing.
use mathlib.Core.Path.{sym}
use Rattle.registers.proofs.Facts.{writable}
use Rattle.engine.proofs.Verdicts.{write_whole}
use Rattle.engine.proofs.writing.write.Goals as goal

pub act_write-requires : goal.act_write-requires
act_write-requires c = writable _ _ _ (sym c.judge_write-writing.ensures)

pub returns : goal.returns
returns c = write_whole _ _ _ c.judge_write-writing.ensures (c.act_write.ensures.whole _)
