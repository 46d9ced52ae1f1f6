-- What `receiving::receive` needs beside the check's own search: the call is what its verdict says. Assumes nothing.
use mathlib.Core.Path.{sym}
use Rattle.receiver.proofs.Receipts.{receivable}
use Rattle.engine.proofs.Verdicts.{receive_whole}
use Rattle.engine.proofs.receiving.receive.Goals as goal

pub act_receive-requires : goal.act_receive-requires
act_receive-requires c = receivable _ _ (sym c.judge_receive-receiving.ensures)

pub returns : goal.returns
returns c = receive_whole _ _ c.judge_receive-receiving.ensures (c.act_receive.ensures.whole _)
