-- What `reading::read` needs beside the check's own search: the call is what its verdict says. Assumes nothing.
use mathlib.Core.Path.{sym}
use Rattle.registers.proofs.Showing.{readable}
use Rattle.engine.proofs.Verdicts.{read_whole}
use Rattle.engine.proofs.reading.read.Goals as goal

pub act_read-requires : goal.act_read-requires
act_read-requires c = readable _ _ (sym c.judge_read-reached.ensures)

pub returns : goal.returns
returns c = read_whole _ _ c.decode.ensures c.judge_read-reached.ensures (c.act_read.ensures.whole _ _)
